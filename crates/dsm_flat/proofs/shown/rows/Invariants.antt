use Rattle.std.proofs.Common.{◌≡◌}
use Rattle.std.specs.Prelude.{Some, slice_get}
use Rattle.dsm_flat.specs.declared.accesses.Access.{Access}
use Rattle.dsm_entry.specs.Told.{lists_of}
use Rattle.dsm_flat.specs.Rows.{IsReach}
use Rattle.dsm_flat.proofs.Lists.{Filled}
use Rattle.dsm_flat.proofs.shown.rows.Given as goal

abbrev pub invariant-loop-x : goal.invariant-loop-x
invariant-loop-x l = Filled (λ k row. (a : Access) → slice_get l.list k ≡ Some a → IsReach (lists_of l.traces) a.place row) l.x-index l.rows.items
