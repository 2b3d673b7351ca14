use Rattle.std.proofs.Common.{◌≤◌, ◌<◌, All, length, map, refl, ◌∙◌, subst, arith}
use Rattle.std.proofs.lemmas.List.{take_all}
use Rattle.dsm_protocol.specs.Processors.{going_on}
use Rattle.dsm_machine.specs.Machines.{who, processor_in, spare_of}
use Rattle.dsm_core.proofs.Rooms.{keeps_all, seen_alike, keeps_more, one_more_has, has_as_before, no_less}
use Rattle.dsm_core.proofs.state.room.ready_all.Goals as goal

pub loop-machine-init : goal.loop-machine-init
loop-machine-init c = record { who = refl; same = λ code. refl; ready = λ k d inside. absurd (omega (arith, inside)); kept = keeps_all _; spare = λ all. refl }

pub returns-in_err-ready_for-clause-who : goal.returns-in_err-ready_for-clause-who
returns-in_err-ready_for-clause-who c =
    let l = c.loop-machine in
    seen_alike l.machines l.machine-index c.machine-item.result c.ready_for.new.self (omega (arith, c.loop-machine-test.true)) who c.ready_for.ensures.who ∙ l.invariant.who

pub returns-in_err-ready_for-clause-same : goal.returns-in_err-ready_for-clause-same
returns-in_err-ready_for-clause-same c = λ code.
    let l = c.loop-machine in
    seen_alike l.machines l.machine-index c.machine-item.result c.ready_for.new.self (omega (arith, c.loop-machine-test.true)) (λ m. processor_in m code) (λ i. going_on (c.ready_for.ensures.who i) code (c.ready_for.ensures.same i))
    ∙ l.invariant.same code

pub returns-in_err-ready_for-clause-kept : goal.returns-in_err-ready_for-clause-kept
returns-in_err-ready_for-clause-kept c =
    let l = c.loop-machine in
    keeps_more l.machines l.machine-index c.machine-item.result c.ready_for.new.self (omega (arith, c.loop-machine-test.true)) _ l.invariant.kept (omega (arith, c.in_err-ready_for.ensures.err))

-- it is refused only where a machine had less
pub returns-in_err-ready_for-clause-room : goal.returns-in_err-ready_for-clause-room
returns-in_err-ready_for-clause-room c = λ all.
    let l = c.loop-machine in
    let has = has_as_before l.machines l.machine-index c.machine-item.result c.ready_for.new.self (omega (arith, c.loop-machine-test.true)) c.args.count _ all (l.invariant.spare all) in
    absurd (omega (arith, has, c.in_err-ready_for.ensures.full))

pub returns-in_err-ready_for-clause-spare : goal.returns-in_err-ready_for-clause-spare
returns-in_err-ready_for-clause-spare c = λ all.
    let l = c.loop-machine in
    seen_alike l.machines l.machine-index c.machine-item.result c.ready_for.new.self (omega (arith, c.loop-machine-test.true)) spare_of c.in_err-ready_for.ensures.err ∙ l.invariant.spare all

pub loop-machine-preserved : goal.loop-machine-preserved
loop-machine-preserved c =
    let l = c.loop-machine in
    let d = c.machine-item.result in
    let new = c.ready_for.new.self in
    let inside : l.machine-index < length l.machines = omega (arith, c.loop-machine-test.true) in
    record {
      who = seen_alike l.machines l.machine-index d new inside who c.ready_for.ensures.who ∙ l.invariant.who;
      same = λ code. seen_alike l.machines l.machine-index d new inside (λ k. processor_in k code) (λ i. going_on (c.ready_for.ensures.who i) code (c.ready_for.ensures.same i)) ∙ l.invariant.same code;
      ready = one_more_has l.machines l.machine-index d new inside c.args.count l.invariant.ready c.in_ok-ready_for.ensures.ok;
      kept = keeps_more l.machines l.machine-index d new inside _ l.invariant.kept (no_less c.args.count _ (spare_of new) c.in_ok-ready_for.ensures.ok c.ready_for.ensures.spare);
      spare = λ all. seen_alike l.machines l.machine-index d new inside spare_of (c.ready_for.ensures.spare (has_as_before l.machines l.machine-index d new inside c.args.count _ all (l.invariant.spare all))) ∙ l.invariant.spare all;
    }

pub returns-clause-ok : goal.returns-clause-ok
returns-clause-ok c =
    let l = c.loop-machine in
    subst (λ ms. All (λ room. c.args.count ≤ room) (map spare_of ms)) (take_all l.machine-index l.machines (omega (arith, c.loop-machine-test.false))) l.invariant.ready
