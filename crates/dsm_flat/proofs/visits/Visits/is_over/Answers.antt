use Rattle.std.proofs.Common.{arith}
use Rattle.std.proofs.lemmas.List.{length-map}
use Rattle.dsm_entry.specs.Told.{list_of, lists_of}
use Rattle.dsm_flat.proofs.OrderLaws.{within}
use Rattle.dsm_flat.proofs.Clocks.{has_trace}
use Rattle.dsm_flat.proofs.visits.Visits.is_over.Goals as goal

pub returns : goal.returns
returns c = λ yes x e h.
    let ts = lists_of c.args.traces.now in
    let w = within ts x e h in
    let inside = has_trace ts x e h in
    let le = c.loop-p.invariant x.p w.trace (omega (arith, inside, c.loop-p-test.false, c.loop-p.auto.p-end, length-map c.args.traces.now list_of)) w.at in
    omega (arith, le, w.inside)
