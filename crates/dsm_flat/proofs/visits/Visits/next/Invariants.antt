use Rattle.std.proofs.Common.{ℕ, ◌<◌}
use Rattle.dsm_entry.specs.Told.{lists_of}
use Rattle.dsm_flat.specs.Clocks.{IsLeft, IsBlocked}
use Rattle.dsm_flat.proofs.visits.Visits.next.Given as goal

abbrev pub invariant-loop-p : goal.invariant-loop-p
invariant-loop-p l = (q : ℕ) → q < l.p → IsLeft (lists_of l.traces) l.self.done q → IsBlocked (lists_of l.traces) l.self.done q
