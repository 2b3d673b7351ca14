use Rattle.std.proofs.Common.{ℕ, ◌<◌, length}
use Rattle.dsm_flat.specs.Order.{Traces}
use Rattle.dsm_flat.specs.Accesses.{IsShown, IsOrderedUpTo}
use Rattle.dsm_flat.proofs.judge.first_race.Given as goal

abbrev pub invariant-loop-k : goal.invariant-loop-k
invariant-loop-k l = (ts : Traces) (w : ℕ) → IsShown ts w l.list l.shown → (n : ℕ) → n < l.k → IsOrderedUpTo ts l.list n (length l.list)
