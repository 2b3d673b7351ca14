use Rattle.dsm_entry.specs.Told.{lists_of}
use Rattle.dsm_flat.specs.Accesses.{first_place}
use Rattle.dsm_flat.specs.Gates.{AreAdded}
use Rattle.dsm_flat.proofs.gates.Gates.of.Given as goal

abbrev pub invariant-loop-p : goal.invariant-loop-p
invariant-loop-p l = AreAdded (lists_of l.traces) (first_place l.p) l.gates
