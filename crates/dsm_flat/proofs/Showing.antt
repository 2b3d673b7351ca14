-- What shows which accesses are before others.
use Rattle.std.proofs.Common.{◌≡◌, ◌≢◌, ℕ, ◌<◌, List, Some, length, sym, subst, arith}
use Rattle.std.specs.Prelude.{◌↔◌, slice_get}
use Rattle.std.proofs.lemmas.List.{length-map}
use Rattle.dsm_entry.specs.Told.{Told, list_of, lists_of}
use Rattle.dsm_flat.specs.declared.accesses.Access.{Access}
use Rattle.dsm_flat.specs.declared.shown.Shown.{Shown}
use Rattle.dsm_flat.specs.Order.{Traces}
use Rattle.dsm_flat.specs.Clocks.{Counted}
use Rattle.dsm_flat.specs.Rows.{Covers}
use Rattle.dsm_flat.specs.Accesses.{first_place, IsListed, AreRows, AreClocks, ShowsOrder, IsShown, IsBeforeAt}
use Rattle.dsm_flat.proofs.Clocks.{has_trace, clock_tells}
use Rattle.dsm_flat.proofs.Listing.{before_at}
use Rattle.dsm_flat.proofs.Keeping.{same_index}

module _ (ts : Traces) (w : ℕ) (list : List Access) (g : IsListed ts w (first_place (length ts)) list) where
  -- the row of one access shows whether it is before another,
  module _ (rows : List (List ℕ)) (r : AreRows ts list rows) (k m : ℕ) (row : List ℕ) (x y : Access) (at_row : slice_get rows k ≡ Some row) (at_x : slice_get list k ≡ Some x) (at_y : slice_get list m ≡ Some y) where
    pub row_room : y.place.p < length row
    row_room = let h = (g.each m y at_y).1 in omega (arith, has_trace ts y.place h.0 h.1, (r.each k x row at_x at_row).len)

    pub row_shows : Covers row y.place ↔ IsBeforeAt ts list k m
    row_shows =
        let h = (g.each m y at_y).1 in
        let f = (r.each k x row at_x at_row).after y.place h.0 h.1 in
        let b = before_at ts list k m x y at_x at_y in
        (λ c. b.0 (f.0 c), λ o. f.1 (b.1 o))

  -- and the clock of one whether another is before it
  module _ (clocks : List (List ℕ)) (r : AreClocks ts list clocks) (k m : ℕ) (clock : List ℕ) (x y : Access) (other : k ≢ m) (at_clock : slice_get clocks m ≡ Some clock) (at_x : slice_get list k ≡ Some x) (at_y : slice_get list m ≡ Some y) where
    pub clock_shows : Counted clock x.place ↔ IsBeforeAt ts list k m
    clock_shows =
        let f = clock_tells ts x.place y.place clock (r.each m y clock at_y at_clock) (λ e. other (same_index ts w (first_place (length ts)) list g k m x y at_x at_y e)) in
        let b = before_at ts list k m x y at_x at_y in
        (λ c. b.0 (f.0 c), λ o. f.1 (b.1 o))

-- the list as the code has it, and what it lent to what shows the order
pub shown_told : (told : List Told) (w : ℕ) (list read lent : List Access) (shown : Shown) → IsListed (lists_of told) w (first_place (length told)) list → read ≡ list → lent ≡ list → ShowsOrder (lists_of told) read shown → IsShown (lists_of told) w lent shown
shown_told told w list read lent shown g is_read is_lent o =
    subst (λ l. IsShown (lists_of told) w l shown) (sym is_lent)
    (record {
      listed = subst (λ n. IsListed (lists_of told) w (first_place n) list) (sym (length-map told list_of)) g;
      order = subst (λ l. ShowsOrder (lists_of told) l shown) is_read o;
    })
