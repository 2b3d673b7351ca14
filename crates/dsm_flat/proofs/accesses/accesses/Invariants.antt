use Rattle.dsm_entry.specs.Told.{lists_of}
use Rattle.dsm_flat.specs.Accesses.{IsListed, first_place}
use Rattle.dsm_flat.proofs.accesses.accesses.Given as goal

abbrev pub invariant-loop-p : goal.invariant-loop-p
invariant-loop-p l = IsListed (lists_of l.traces) l.w (first_place l.p) l.list.items
