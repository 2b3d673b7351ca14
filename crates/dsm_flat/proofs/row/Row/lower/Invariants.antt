use Rattle.dsm_flat.specs.Rows.{IsLoweredBelow}
use Rattle.dsm_flat.proofs.row.Row.lower.Given as goal

abbrev pub invariant-loop-q : goal.invariant-loop-q
invariant-loop-q l = IsLoweredBelow l.q l.fn.self l.to l.self-inside.indices.items
