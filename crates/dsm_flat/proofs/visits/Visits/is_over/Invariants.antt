use Rattle.std.proofs.Common.{◌≡◌, ℕ, ◌<◌, ◌≤◌, List, length, slice_index}
use Rattle.std.specs.Prelude.{Some, slice_get}
use Rattle.dsm_entry.specs.declared.entry.Entry.{Entry}
use Rattle.dsm_entry.specs.Told.{lists_of}
use Rattle.dsm_flat.proofs.visits.Visits.is_over.Given as goal

abbrev pub invariant-loop-p : goal.invariant-loop-p
invariant-loop-p l = (q : ℕ) (t : List Entry) → q < l.p → slice_get (lists_of l.traces) q ≡ Some t → length t ≤ slice_index l.self.done q
