use Rattle.std.specs.Prelude.{slice_get}
use Rattle.dsm_entry.specs.Told.{lists_of}
use Rattle.dsm_flat.specs.Links.{LeadsTo}
use Rattle.dsm_flat.proofs.Lists.{Filled}
use Rattle.dsm_flat.proofs.links.trace_links.Given as goal

abbrev pub invariant-loop-i : goal.invariant-loop-i
invariant-loop-i l = Filled (λ i row. LeadsTo (lists_of l.traces) (slice_get l.trace.list i) row) l.i l.rows.items
