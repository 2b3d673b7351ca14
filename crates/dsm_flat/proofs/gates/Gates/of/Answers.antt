use Rattle.std.proofs.Common.{◌≡◌, arith, length, subst}
use Rattle.std.proofs.lemmas.List.{length-map}
use Rattle.dsm_entry.specs.Told.{list_of, lists_of}
use Rattle.dsm_flat.specs.Accesses.{first_place}
use Rattle.dsm_flat.specs.Gates.{AreAdded}
use Rattle.dsm_flat.proofs.gates.Gates.of.Goals as goal

pub loop-p-init : goal.loop-p-init
loop-p-init c = c.new-gates.ensures (lists_of c.args.traces.now)

pub returns : goal.returns
returns c = λ done none.
    let ts = lists_of c.args.traces.now in
    let e : c.loop-p.p ≡ length ts = omega (arith, c.loop-p-test.false, c.loop-p.auto.p-end, length-map c.args.traces.now list_of) in
    c.in_ok-order.ensures ts done none (subst (λ n. AreAdded ts (first_place n) c.loop-p.gates) e c.loop-p.invariant)
