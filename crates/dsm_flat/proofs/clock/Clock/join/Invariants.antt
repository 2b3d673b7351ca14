use Rattle.dsm_flat.proofs.Counting.{IsRaisedBelow}
use Rattle.dsm_flat.proofs.clock.Clock.join.Given as goal

abbrev pub invariant-loop-q : goal.invariant-loop-q
invariant-loop-q l = IsRaisedBelow l.q l.fn.self l.other l.self-inside.counts.items
