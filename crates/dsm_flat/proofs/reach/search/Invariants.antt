use Rattle.std.proofs.Common.{sum}
use Rattle.dsm_entry.specs.Told.{lists_of}
use Rattle.dsm_flat.proofs.Searching.{Searching}
use Rattle.dsm_flat.proofs.reach.search.Given as goal

abbrev pub invariant-loop-p : goal.invariant-loop-p
invariant-loop-p l = Searching (lists_of l.traces) l.fn.x l.reached l.scanned

abbrev pub decreases-loop-p : goal.decreases-loop-p
decreases-loop-p l = sum l.scanned
