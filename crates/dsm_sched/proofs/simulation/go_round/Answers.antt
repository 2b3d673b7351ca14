use Rattle.std.proofs.Common.{◌≡◌, refl, sym, ap, ◌∙◌, arith, subst, length}
use Rattle.dsm_runs.specs.Setups.{Setup}
use Rattle.dsm_core.specs.States.{cluster_in}
use Rattle.dsm_sched.specs.declared.kind.Kind.TheVariants.{Round}
use Rattle.dsm_sched.specs.Schedules.{running, Moves}
use Rattle.dsm_sched.proofs.Going.{round_at_start, round_on, whole_made, whole_ended}
use Rattle.dsm_sched.proofs.Listing.{is_nil}
use Rattle.dsm_sched.proofs.simulation.go_round.Goals as goal

pub loop-made-init : goal.loop-made-init
loop-made-init c =
    record {
      setup = refl;
      is_for = c.requires.is_for;
      within = omega arith;
      left = c.requires.running;
      going = round_at_start _ _ c.requires.start;
    }

pub returns-then-is_empty-clause-leads : goal.returns-then-is_empty-clause-leads
returns-then-is_empty-clause-leads c =
    let l = c.loop-made in
    whole_ended Round _ l.made _ l.invariant.going.going c.args.steps l.invariant.within (sym l.invariant.left ∙ is_nil l.running.items _ c.is_empty.result l.running.ok.0 c.is_empty.ensures c.if-is_empty.true)

pub returns-clause-leads : goal.returns-clause-leads
returns-clause-leads c =
    let l = c.loop-made in
    whole_made Round _ l.made _ l.invariant.going.going c.args.steps (omega arith)

pub loop-made-preserved : goal.loop-made-preserved
loop-made-preserved c =
    let l = c.loop-made in
    let code = c.args.program.now.code in
    let old = cluster_in l.state code in
    let new = cluster_in c.step_one-from.new.state code in
    let many : c.len.result ≡ length (running old) = c.len.ensures ∙ l.running.ok.0 ∙ ap length l.invariant.left in
    record {
      setup = c.step_one-from.ensures.setup ∙ l.invariant.setup;
      is_for = c.step_one-from.ensures.is_for;
      within = omega arith;
      left = c.step_one-from.ensures.running;
      going = round_on _ l.made l.from c.in_round-at.result c.step_one-from.result old new l.invariant.going (λ low. c.in_round-at.ensures.within (omega (arith, low, many))) (λ high. c.in_round-at.ensures.first (omega (arith, high, many))) (subst (λ (x : Setup). Moves x old new c.in_round-at.result c.step_one-from.result) l.invariant.setup c.step_one-from.ensures.moves);
    }
