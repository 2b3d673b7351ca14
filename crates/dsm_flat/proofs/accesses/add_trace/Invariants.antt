use Rattle.dsm_entry.specs.Told.{lists_of}
use Rattle.dsm_flat.specs.Accesses.{IsListed}
use Rattle.dsm_flat.proofs.accesses.add_trace.Given as goal

abbrev pub invariant-loop-i : goal.invariant-loop-i
invariant-loop-i l = IsListed (lists_of l.traces) l.w (record { p = l.p; i = l.i }) l.list.items
