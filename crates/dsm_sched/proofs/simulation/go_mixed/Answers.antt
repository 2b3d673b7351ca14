use Rattle.std.proofs.Common.{◌≡◌, refl, sym, ap, ◌∙◌, arith, subst, length, ◌%◌}
use Rattle.std.specs.Int.{w64, from_le_bytes}
use Rattle.dsm_runs.specs.Setups.{Setup}
use Rattle.dsm_core.specs.States.{cluster_in}
use Rattle.dsm_sched.specs.declared.kind.Kind.TheVariants.{Mixed}
use Rattle.dsm_sched.specs.Schedules.{running, word, Moves}
use Rattle.dsm_sched.proofs.Going.{going_at_start, mixed_on, drawn_at_start, drawn_on, whole_made, whole_ended}
use Rattle.dsm_sched.proofs.Listing.{is_nil}
use Rattle.dsm_sched.proofs.simulation.go_mixed.Goals as goal

pub loop-made-init : goal.loop-made-init
loop-made-init c =
    record {
      setup = refl;
      is_for = c.requires.is_for;
      within = omega arith;
      left = c.requires.running;
      drawn = drawn_at_start c.args.seed _ (c.from_seed-words.ensures ∙ ap (from_le_bytes w64) c.to_le_bytes.ensures);
      going = going_at_start (Mixed c.args.seed) _ _ c.requires.start;
    }

pub returns-then-is_empty-clause-leads : goal.returns-then-is_empty-clause-leads
returns-then-is_empty-clause-leads c =
    let l = c.loop-made in
    whole_ended (Mixed c.args.seed) _ l.made _ l.invariant.going c.args.steps l.invariant.within (sym l.invariant.left ∙ is_nil l.running.items _ c.is_empty.result l.running.ok.0 c.is_empty.ensures c.if-is_empty.true)

pub returns-clause-leads : goal.returns-clause-leads
returns-clause-leads c =
    let l = c.loop-made in
    whole_made (Mixed c.args.seed) _ l.made _ l.invariant.going c.args.steps (omega arith)

pub loop-made-preserved : goal.loop-made-preserved
loop-made-preserved c =
    let l = c.loop-made in
    let code = c.args.program.now.code in
    let old = cluster_in l.state code in
    let new = cluster_in c.step_one.new.state code in
    let d = drawn_on c.args.seed l.made l.words c.next_word-word.result c.next_word-word.new.self l.invariant.drawn c.next_word-word.ensures in
    let many : c.len.result ≡ length (running old) = c.len.ensures ∙ l.running.ok.0 ∙ ap length l.invariant.left in
    let at = c.next_word-word.result % c.len.result in
    record {
      setup = c.step_one.ensures.setup ∙ l.invariant.setup;
      is_for = c.step_one.ensures.is_for;
      within = omega arith;
      left = c.step_one.ensures.running;
      drawn = d.1;
      going = mixed_on c.args.seed _ l.made at c.step_one.result old new l.invariant.going (ap (λ u. u % c.len.result) d.0 ∙ ap (λ n. word c.args.seed l.made % n) many) (subst (λ (x : Setup). Moves x old new at c.step_one.result) l.invariant.setup c.step_one.ensures.moves);
    }
