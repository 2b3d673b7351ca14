-- Where an access stands in the list.
use Rattle.std.proofs.Common.{◌≡◌, ℕ, ◌<◌, ◌⊎◌, Bool, true, false, List, Some, get_or, refl, ◌∙◌, sym, subst, inl, inr, arith, Less, Equal, Greater}
use Rattle.std.specs.Prelude.{slice_get}
use Rattle.std.specs.List.Sorted.{IsPartitionedBy, IsPartitionPoint}
use Rattle.std.specs.Ordering.{nat_cmp, is_lt, is_some_and, ordering_then}
use Rattle.std.specs.Cmp.{nat_cmp_is}
use Rattle.std.proofs.lemmas.Bool.{cases_eq, cases_order}
use Rattle.std.proofs.lemmas.Option.{slice_get_within, slice_get-get_or, same_Some}
use Rattle.dsm_entry.specs.declared.entry.Place.{Place}
use Rattle.dsm_flat.specs.declared.accesses.Access.{Access}
use Rattle.dsm_flat.specs.Order.{Traces}
use Rattle.dsm_flat.specs.Judge.{IsBelow}
use Rattle.dsm_flat.specs.Accesses.{IsListed}
use Rattle.dsm_flat.proofs.Listing.{apart}

-- whether an access stands below a place, as the code finds out
abbrev pub is_under : Place → Access → Bool
is_under x a = is_some_and is_lt (Some (ordering_then (nat_cmp a.place.p x.p) (nat_cmp a.place.i x.i)))

under_or_not : (x : Place) (a : Access) → (IsBelow a.place x × (is_under x a ≡ true)) ⊎ ((IsBelow a.place x → ⊥) × (is_under x a ≡ false))
under_or_not x a = by_processor (cases_order a.place.p x.p)
  where
    by_entry : a.place.p ≡ x.p → (a.place.i ≡ x.i) ⊎ ((a.place.i < x.i) ⊎ (x.i < a.place.i)) → (IsBelow a.place x × (is_under x a ≡ true)) ⊎ ((IsBelow a.place x → ⊥) × (is_under x a ≡ false))
    by_entry e (inl f) = inr (no, rw (sym (nat_cmp_is a.place.p x.p Equal e), sym (nat_cmp_is a.place.i x.i Equal f)) refl)
      where
        no : IsBelow a.place x → ⊥
        no (inl lt) = absurd (omega (arith, lt, e))
        no (inr h) = absurd (omega (arith, h.1, f))
    by_entry e (inr (inl lt)) = inl (inr (e, lt), rw (sym (nat_cmp_is a.place.p x.p Equal e), sym (nat_cmp_is a.place.i x.i Less lt)) refl)
    by_entry e (inr (inr gt)) = inr (no, rw (sym (nat_cmp_is a.place.p x.p Equal e), sym (nat_cmp_is a.place.i x.i Greater gt)) refl)
      where
        no : IsBelow a.place x → ⊥
        no (inl lt) = absurd (omega (arith, lt, e))
        no (inr h) = absurd (omega (arith, h.1, gt))

    by_processor : (a.place.p ≡ x.p) ⊎ ((a.place.p < x.p) ⊎ (x.p < a.place.p)) → (IsBelow a.place x × (is_under x a ≡ true)) ⊎ ((IsBelow a.place x → ⊥) × (is_under x a ≡ false))
    by_processor (inl e) = by_entry e (cases_order a.place.i x.i)
    by_processor (inr (inl lt)) = inl (inl lt, rw (sym (nat_cmp_is a.place.p x.p Less lt)) refl)
    by_processor (inr (inr gt)) = inr (no, rw (sym (nat_cmp_is a.place.p x.p Greater gt)) refl)
      where
        no : IsBelow a.place x → ⊥
        no (inl lt) = absurd (omega (arith, lt, gt))
        no (inr h) = absurd (omega (arith, h.0, gt))

below_then : (x y z : Place) → IsBelow x y → IsBelow y z → IsBelow x z
below_then x y z (inl p) (inl q) = inl (omega (arith, p, q))
below_then x y z (inl p) (inr q) = inl (omega (arith, p, q.0))
below_then x y z (inr p) (inl q) = inl (omega (arith, p.0, q))
below_then x y z (inr p) (inr q) = inr (p.0 ∙ q.0, omega (arith, p.1, q.1))

module _ (ts : Traces) (w : ℕ) (bound : Place) (list : List Access) (g : IsListed ts w bound list) (x : Place) where
  is_below : (a : Access) → is_under x a ≡ true → IsBelow a.place x
  is_below a e = go (under_or_not x a)
    where
      go : (IsBelow a.place x × (is_under x a ≡ true)) ⊎ ((IsBelow a.place x → ⊥) × (is_under x a ≡ false)) → IsBelow a.place x
      go (inl h) = h.0
      go (inr h) = absurd (let f = h.1 in cc (e, f))

  tested : (a : Access) → IsBelow a.place x → is_under x a ≡ true
  tested a b = go (under_or_not x a)
    where
      go : (IsBelow a.place x × (is_under x a ≡ true)) ⊎ ((IsBelow a.place x → ⊥) × (is_under x a ≡ false)) → is_under x a ≡ true
      go (inl h) = h.1
      go (inr h) = absurd (h.0 b)

  -- those below a place come first
  pub partitioned : IsPartitionedBy (is_under x) list
  partitioned i j d le lt e = go (cases_eq i j)
    where
      go : (i ≡ j) ⊎ (i ≡ j → ⊥) → is_under x (get_or list i d) ≡ true
      go (inl s) = subst (λ n. is_under x (get_or list n d) ≡ true) (sym s) e
      go (inr n) =
          tested (get_or list i d)
          (below_then (get_or list i d).place (get_or list j d).place x
          (g.sorted i j (get_or list i d) (get_or list j d) (omega (arith, le, n)) (slice_get-get_or list i d (omega (arith, le, lt))) (slice_get-get_or list j d lt)) (is_below (get_or list j d) e))

  -- and behind them the one at the place
  pub found : (i k : ℕ) (a : Access) → IsPartitionPoint (λ y. is_under x y ≡ true) (λ y. is_under x y ≡ false) list i → slice_get list k ≡ Some a → a.place ≡ x → i ≡ k
  found i k a h at is = go (cases_order i k)
    where
      go : (i ≡ k) ⊎ ((i < k) ⊎ (k < i)) → i ≡ k
      go (inl e) = e
      go (inr (inl lt)) =
          let b = get_or list i a in
          let inside = slice_get_within list k a at in
          let no = h.1 i a (omega arith) (omega (arith, lt, inside)) in
          let yes = tested b (subst (λ z. IsBelow b.place z) is (g.sorted i k b a lt (slice_get-get_or list i a (omega (arith, lt, inside))) at)) in
          absurd (cc (no, yes))
      go (inr (inr gt)) =
          let same = same_Some (get_or list k a) a (sym (slice_get-get_or list k a (slice_get_within list k a at)) ∙ at) in
          let b = is_below (get_or list k a) (h.0 k a (omega arith) gt) in
          absurd (apart a.place x (subst (λ z. IsBelow z.place x) same b) is)
