use Rattle.std.proofs.Common.{◌≡◌, ap, ◌∙◌, sym, subst, arith, ◌+◌}
use Rattle.std.specs.List.{range_with_len}
use Rattle.dsm_core.specs.States.{cluster_in}
use Rattle.dsm_sched.proofs.Choosing.{kept}
use Rattle.dsm_sched.proofs.Finding.{end_says}
use Rattle.dsm_sched.proofs.Listing.{many_in, kept_with, kept_as}
use Rattle.dsm_sched.proofs.simulation.all_running.Goals as goal
use Rattle.dsm_sched.proofs.simulation.all_running.Goals.{then-is_none+in_ok-push, else-is_none}

pub loop-p-preserved : goal.loop-p-preserved
loop-p-preserved c = λ code.
    let now = cluster_in c.args.state.now code in
    let p = c.loop-p.p in
    let says = end_says now p c.end.result c.is_none.result (c.end.ensures code) c.is_none.ensures in
    elim c.if-is_none.branch [
      | then-is_none+in_ok-push w ↦
          subst (λ v. v.items ≡ kept now (range_with_len 0 (p + 1))) (sym w.running-is)
          (w.in_ok-push.ensures.items ∙ kept_with now p c.loop-p.running.items (c.loop-p.invariant code) (says ∙ w.if-is_none.true))
      | else-is_none w ↦
          subst (λ v. v.items ≡ kept now (range_with_len 0 (p + 1))) (sym w.running-is)
          (kept_as now p c.loop-p.running.items (c.loop-p.invariant code) (says ∙ w.if-is_none.false))
    ]

pub returns : goal.returns
returns c = λ code.
    let now = cluster_in c.args.state.now code in
    c.loop-p.invariant code ∙ ap (λ n. kept now (range_with_len 0 n)) (omega (arith, c.loop-p-test.false, c.loop-p.auto.p-end, c.all-p-end.ensures, many_in c.args.state.now code))
