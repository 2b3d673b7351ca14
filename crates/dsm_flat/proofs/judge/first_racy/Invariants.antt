use Rattle.std.proofs.Common.{ℕ}
use Rattle.dsm_flat.specs.Order.{Traces}
use Rattle.dsm_flat.specs.Accesses.{IsShown, IsOrderedUpTo}
use Rattle.dsm_flat.proofs.judge.first_racy.Given as goal

abbrev pub invariant-loop-m : goal.invariant-loop-m
invariant-loop-m l = (ts : Traces) (w : ℕ) → IsShown ts w l.list l.shown → IsOrderedUpTo ts l.list l.k l.m
