-- The clocks of the accesses, while entries are visited.
use Rattle.std.proofs.Common.{◌≡◌, ◌≢◌, ℕ, ◌<◌, ◌⊎◌, Bool, true, false, List, Option, Some, None, length, refl, sym, ap, ◌∙◌, subst, inl, inr, arith}
use Rattle.std.specs.Prelude.{slice_get, slice_set}
use Rattle.std.specs.Option.{is_some}
use Rattle.std.proofs.lemmas.Bool.{cases_order}
use Rattle.std.proofs.lemmas.List.{length-set}
use Rattle.std.proofs.lemmas.Option.{same_Some}
use Rattle.dsm_entry.specs.declared.entry.Entry.{Entry}
use Rattle.dsm_entry.specs.declared.entry.Place.{Place}
use Rattle.dsm_flat.specs.declared.accesses.Access.{Access}
use Rattle.dsm_flat.specs.Order.{Traces, Holds}
use Rattle.dsm_flat.specs.Clocks.{Counted, IsClock}
use Rattle.dsm_flat.specs.Racing.{IsVisit, CountsNone}
use Rattle.dsm_flat.specs.Following.{AllVisited}
use Rattle.dsm_flat.specs.Accesses.{kind_of, first_place, IsListed, AreKept, AreClocks}
use Rattle.dsm_flat.proofs.Clocks.{has_trace}
use Rattle.dsm_flat.proofs.Gating.{get_set}
use Rattle.dsm_flat.proofs.Listing.{apart}

-- each place is listed once
pub same_index : (ts : Traces) (w : ℕ) (bound : Place) (list : List Access) → IsListed ts w bound list → (k m : ℕ) (a b : Access) → slice_get list k ≡ Some a → slice_get list m ≡ Some b → a.place ≡ b.place → k ≡ m
same_index ts w bound list g k m a b at_a at_b e = go (cases_order k m)
  where
    go : (k ≡ m) ⊎ ((k < m) ⊎ (m < k)) → k ≡ m
    go (inl s) = s
    go (inr (inl lt)) = absurd (apart a.place b.place (g.sorted k m a b lt at_a at_b) e)
    go (inr (inr gt)) = absurd (apart b.place a.place (g.sorted m k b a gt at_b at_a) (sym e))

pub some_of : (o : Option Bool) → true ≡ is_some o → (s : Bool) × (o ≡ Some s)
some_of None h = absurd (cc h)
some_of (Some s) h = (s, refl)

pub none_of : (o : Option Bool) → false ≡ is_some o → o ≡ None
none_of None h = refl
none_of (Some s) h = absurd (cc h)

-- an entry that accesses the word is in the list
pub index_at : (ts : Traces) (w : ℕ) (list : List Access) → IsListed ts w (first_place (length ts)) list → (y : Place) (e : Entry) (s : Bool) → Holds ts y e → kind_of w e ≡ Some s → (k : ℕ) × (slice_get list k ≡ Some (record { place = y; stores = s }))
index_at ts w list g y e s h k = g.all (record { place = y; stores = s }) (e, h, k) (inl (has_trace ts y e h))

-- one entry more is visited
module _ (ts : Traces) (w : ℕ) (list : List Access) (g : IsListed ts w (first_place (length ts)) list) (done : List ℕ) (y : Place) (clock now : List ℕ) (v : IsVisit ts done y clock now) (kept : List (List ℕ)) (old : AreKept ts done list kept) where
  -- which does not access the word,
  pub kept_other : (e : Entry) → Holds ts y e → kind_of w e ≡ None → AreKept ts now list kept
  kept_other e h none = record { len = old.len; each = λ k a c at_a at_c n. old.each k a c at_a at_c (go k a at_a ((v.one_more a.place).0 n)) }
    where
      go : (k : ℕ) (a : Access) → slice_get list k ≡ Some a → Counted done a.place ⊎ (a.place ≡ y) → Counted done a.place
      go k a at_a (inl n) = n
      go k a at_a (inr is) =
          let f = (g.each k a at_a).1 in
          let same : f.0 ≡ e = same_Some f.0 e (sym f.1 ∙ subst (λ z. Holds ts z e) (sym is) h) in
          let r : kind_of w e ≡ Some a.stores = subst (λ z. kind_of w z ≡ Some a.stores) same f.2 in
          absurd (cc (none, r))

  -- or does
  pub kept_own : (k : ℕ) (b : Access) → slice_get list k ≡ Some b → b.place ≡ y → AreKept ts now list (slice_set kept k clock)
  kept_own k b at_b is = record { len = length-set kept k clock ∙ old.len; each = λ n a c at_a at_c counted. go n a c at_a counted (get_set kept k n clock c at_c) }
    where
      go : (n : ℕ) (a : Access) (c : List ℕ) → slice_get list n ≡ Some a → Counted now a.place → ((n ≡ k) × (c ≡ clock) × (n < length kept)) ⊎ ((n ≢ k) × (slice_get kept n ≡ Some c)) → IsClock ts a.place c
      go n a c at_a counted (inl f) =
          let same : b ≡ a = same_Some b a (sym at_b ∙ (ap (λ z. slice_get list z) (sym f.0) ∙ at_a)) in
          subst (λ z. IsClock ts a.place z) (sym f.1) (subst (λ z. IsClock ts z clock) (sym is ∙ ap (λ z. z.place) same) v.clock_is)
      go n a c at_a counted (inr d) = pick ((v.one_more a.place).0 counted)
        where
          pick : Counted done a.place ⊎ (a.place ≡ y) → IsClock ts a.place c
          pick (inl m) = old.each n a c at_a d.1 m
          pick (inr e) = absurd (d.0 (same_index ts w (first_place (length ts)) list g n k a b at_a at_b (e ∙ sym is)))

-- in the beginning no clock is kept,
pub none_kept : (ts : Traces) (done : List ℕ) (list : List Access) (kept : List (List ℕ)) → CountsNone done → length kept ≡ length list → AreKept ts done list kept
none_kept ts done list kept none len = record { len = len; each = λ k a c at_a at_c n. absurd (omega (arith, n, none a.place.p)) }

-- and in the end each is
pub all_kept : (ts : Traces) (w : ℕ) (bound : Place) (done : List ℕ) (list : List Access) (kept : List (List ℕ)) → IsListed ts w bound list → AllVisited ts done → AreKept ts done list kept → AreClocks ts list kept
all_kept ts w bound done list kept g all old = record { len = old.len; each = λ k a c at_a at_c. let f = (g.each k a at_a).1 in old.each k a c at_a at_c (all a.place f.0 f.1) }
