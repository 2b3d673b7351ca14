use Rattle.std.proofs.Common.{List, ℕ}
use Rattle.dsm_flat.specs.Order.{Traces}
use Rattle.dsm_flat.specs.Racing.{CountsNone}
use Rattle.dsm_flat.specs.Latest.{IsLatest}
use Rattle.dsm_flat.proofs.Lists.{Filled}
use Rattle.dsm_flat.proofs.raced.untouched.Given as goal

abbrev pub invariant-loop-w : goal.invariant-loop-w
invariant-loop-w l = Filled (λ w item. (ts : Traces) (done : List ℕ) → CountsNone done → IsLatest ts w done item) l._w l.list.items
