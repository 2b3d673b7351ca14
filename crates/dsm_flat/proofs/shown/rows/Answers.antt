use Rattle.std.proofs.Common.{◌≡◌, ℕ, ◌+◌, ◌<◌, List, length, sym, ◌∙◌, subst}
use Rattle.std.specs.Prelude.{Some, slice_get}
use Rattle.std.proofs.lemmas.Option.{same_Some}
use Rattle.dsm_flat.specs.declared.accesses.Access.{Access}
use Rattle.dsm_flat.specs.Order.{Traces}
use Rattle.dsm_entry.specs.Told.{lists_of}
use Rattle.dsm_flat.specs.Rows.{IsReach}
use Rattle.dsm_flat.proofs.Lists.{Filled, filled_push}
use Rattle.dsm_flat.proofs.Listing.{item, item_at}
use Rattle.dsm_flat.proofs.shown.rows.Goals as goal

pub reach-requires-clause-at : goal.reach-requires-clause-at
reach-requires-clause-at c = c.requires c.loop-x.x-index _ (item_at c.args.list.now c.loop-x.x-index c.loop-x-test.true)

-- an access is as the code reads it
row_of : (ts : Traces) (list : List Access) (k : ℕ) (row : List ℕ) (a : Access) → k < length list → IsReach ts (item list k).place row → slice_get list k ≡ Some a → IsReach ts a.place row
row_of ts list k row a lt r at = subst (λ z. IsReach ts z.place row) (same_Some (item list k) a (sym (item_at list k lt) ∙ at)) r

pub loop-x-preserved : goal.loop-x-preserved
loop-x-preserved c =
    let ts = lists_of c.args.traces.now in
    let list = c.args.list.now in
    let k = c.loop-x.x-index in
    subst (λ xs. Filled (λ k row. (a : Access) → slice_get list k ≡ Some a → IsReach ts a.place row) (k + 1) xs) (sym {A = List (List ℕ)} c.in_ok-push.ensures.items)
    (filled_push (λ k row. (a : Access) → slice_get list k ≡ Some a → IsReach ts a.place row) k c.loop-x.rows.items c.in_ok-reach.field-0 c.loop-x.invariant
    (λ a at. row_of ts list k c.in_ok-reach.field-0 a c.loop-x-test.true c.in_ok-reach.ensures at))
