use Rattle.std.proofs.Common.{◌≡◌, List}
use Rattle.std.specs.Prelude.{Some, slice_get}
use Rattle.dsm_entry.specs.declared.entry.Entry.{Entry}
use Rattle.dsm_entry.specs.Told.{lists_of}
use Rattle.dsm_flat.specs.Links.{AreTraceLinks}
use Rattle.dsm_flat.proofs.Lists.{Filled}
use Rattle.dsm_flat.proofs.links.links.Given as goal

abbrev pub invariant-loop-trace : goal.invariant-loop-trace
invariant-loop-trace l =
    Filled (λ q rows. (t : List Entry) → slice_get (lists_of l.traces) q ≡ Some t → AreTraceLinks (lists_of l.traces) t rows.items) l.trace-index l.list.items
