use Rattle.std.proofs.Common.{ℕ, ◌+◌, List, sym, subst}
use Rattle.dsm_flat.specs.declared.latest.Latest.{Latest}
use Rattle.dsm_flat.specs.Order.{Traces}
use Rattle.dsm_flat.specs.Racing.{CountsNone}
use Rattle.dsm_flat.specs.Latest.{IsLatest}
use Rattle.dsm_flat.proofs.Lists.{Filled, filled_push}
use Rattle.dsm_flat.proofs.raced.untouched.Goals as goal

pub loop-w-preserved : goal.loop-w-preserved
loop-w-preserved c =
    subst (λ xs. Filled (λ w item. (ts : Traces) (done : List ℕ) → CountsNone done → IsLatest ts w done item) (c.loop-w._w + 1) xs) (sym {A = List Latest} c.in_ok-push.ensures.items)
    (filled_push (λ w item. (ts : Traces) (done : List ℕ) → CountsNone done → IsLatest ts w done item) c.loop-w._w c.loop-w.list.items c.new.result c.loop-w.invariant (λ ts done none. c.new.ensures ts c.loop-w._w done none))
