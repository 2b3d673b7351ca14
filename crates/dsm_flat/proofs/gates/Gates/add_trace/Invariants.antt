use Rattle.dsm_entry.specs.Told.{lists_of}
use Rattle.dsm_flat.specs.Gates.{AreAdded}
use Rattle.dsm_flat.proofs.gates.Gates.add_trace.Given as goal

abbrev pub invariant-loop-i : goal.invariant-loop-i
invariant-loop-i l = AreAdded (lists_of l.traces) (record { p = l.p; i = l.i }) l.self
