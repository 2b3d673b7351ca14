use Rattle.std.proofs.Common.{◌<◌, All}
use Rattle.dsm_core_tests.proofs.pages_after.overtaking.Given as goal

abbrev pub invariant-loop-k : goal.invariant-loop-k
invariant-loop-k l = All (λ p. p < 2) l.list.items
