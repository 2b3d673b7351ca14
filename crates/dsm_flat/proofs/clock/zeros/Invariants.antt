use Rattle.std.proofs.Common.{◌≡◌, []}
use Rattle.dsm_flat.proofs.Lists.{Filled}
use Rattle.dsm_flat.proofs.clock.zeros.Given as goal

abbrev pub invariant-loop-k : goal.invariant-loop-k
invariant-loop-k l = Filled (λ k clock. clock ≡ []) l._k l.list.items
