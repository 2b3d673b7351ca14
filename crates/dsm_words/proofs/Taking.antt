-- Which pages are taken.
use Rattle.std.specs.Prelude.{◌↔◌, IsTrue, replicate, slice_index, slice_set}
use Rattle.std.specs.Int.{bit_at}
use Rattle.std.proofs.Common.{◌≡◌, ◌⊎◌, ℕ, zero, suc, ◌+◌, ◌/◌, ◌%◌, ◌^◌, ◌<◌, ◌≤◌, ◌==◌, Bool, true, false, List, [], ◌∷◌, length, inl, inr, refl, sym, ap, ◌∙◌, subst, arith, eqb-true}
use Rattle.std.proofs.lemmas.Bool.{eqb-false, cases_lt}
use Rattle.std.proofs.lemmas.List.{get_or-set_same, get_or-set_other, length-set}
use Rattle.std.proofs.lemmas.Nat.{shr_split, pow_pos}
use Rattle.std.proofs.lemmas.Nat.Bits.{bit_at_cat_low, bit_at_above, bit_at-zero}
use Rattle.dsm_words.specs.declared.item.Item.{Item}
use Rattle.dsm_words.specs.Place.{Lay, groups}
use Rattle.dsm_words.specs.Pages.{pages_in, has_page, take_from, take_pages}
use Rattle.dsm_words.specs.Script.{Act, Swap, Makes}
use Rattle.dsm_words.specs.Answered.{Gave, TookPage}

-- the low bits of a number
bit_low : (x w i : ℕ) → i < w → bit_at (x % 2 ^ w) i ≡ bit_at x i
bit_low x w i h = sym (bit_at_cat_low (x / 2 ^ w) w (x % 2 ^ w) i h) ∙ ap (λ y. bit_at y i) (shr_split x w)

bit_high : (x w i : ℕ) → w ≤ i → bit_at (x % 2 ^ w) i ≡ 0
bit_high x w i h = bit_at_above (x % 2 ^ w) w i (omega (arith, pow_pos w)) h

-- a bit of these is set exactly where it is one of them and was set
bit_kept : (x w i : ℕ) → IsTrue (bit_at (x % 2 ^ w) i == 1) ↔ ((i < w) × (bit_at x i ≡ 1))
bit_kept x w i = (λ t. go t, λ r. ap (λ y. y == 1) (bit_low x w i r.0 ∙ r.1))
  where
    go : IsTrue (bit_at (x % 2 ^ w) i == 1) → (i < w) × (bit_at x i ≡ 1)
    go t =
        let one : bit_at (x % 2 ^ w) i ≡ 1 = eqb-true (bit_at (x % 2 ^ w) i) 1 t in
        elim (cases_lt i w) [ inl low ↦ (low, sym (bit_low x w i low) ∙ one) | inr high ↦ absurd (omega (arith, one, bit_high x w i high)) ]

zeros : (j : ℕ) → slice_index (replicate 4 0) j ≡ 0
zeros zero = refl
zeros (suc zero) = refl
zeros (suc (suc zero)) = refl
zeros (suc (suc (suc zero))) = refl
zeros (suc (suc (suc (suc j)))) = refl

module _ (l : Lay) (word : ℕ → Item) (apart : (i j : ℕ) → word i ≡ word j → i ≡ j) where
  -- of a list that swaps the words of c groups, from k on
  pub record Takes (k c : ℕ) (set : List ℕ) (xs : List (Act × ℕ)) (r : List ℕ) : Type 0 where
    pub taken : (j : ℕ) → k ≤ j → j < k + c → (bits : ℕ) × Gave xs (Swap (word j) 0) bits × (slice_index r j ≡ bits % 2 ^ pages_in l j)
    pub kept : (j : ℕ) → (j < k) ⊎ (k + c ≤ j) → slice_index r j ≡ slice_index set j
    pub given : (j bits : ℕ) → Gave xs (Swap (word j) 0) bits → (k ≤ j) × (j < k + c) × (slice_index r j ≡ bits % 2 ^ pages_in l j)

  -- the word of group k, or one behind it
  first : (k j : ℕ) (x : Act × ℕ) (xs : List (Act × ℕ)) (r : List ℕ) → x.0 ≡ Swap (word k) 0 → slice_index r k ≡ x.1 % 2 ^ pages_in l k → (k + 1 ≤ j → (bits : ℕ) × Gave xs (Swap (word j) 0) bits × (slice_index r j ≡ bits % 2 ^ pages_in l j)) → (t : Bool) → (k == j) ≡ t → k ≤ j → (bits : ℕ) × Gave (x ∷ xs) (Swap (word j) 0) bits × (slice_index r j ≡ bits % 2 ^ pages_in l j)
  first k j x xs r a here later true e p = let is : k ≡ j = eqb-true k j e in (x.1, inl (cc (a, is), refl), subst (λ y. slice_index r y ≡ x.1 % 2 ^ pages_in l y) is here)
  first k j x xs r a here later false e p = let t = later (omega (arith, eqb-false k j e)) in (t.0, inr t.1, t.2)

  pub takes : (k c : ℕ) (set : List ℕ) (xs : List (Act × ℕ)) (r : List ℕ) → k + c ≤ length set → Makes (take_from l word k c set) xs r → Takes k c set xs r
  takes k zero set [] r q h =
      let e : set ≡ r = cc h in
      record {
        taken = λ j a b. absurd (omega arith);
        kept = λ j o. ap (λ y. slice_index y j) (sym e);
        given = λ j bits g. absurd g;
      }
  takes k zero set (x ∷ xs) r q h = absurd (cc h.0)
  takes k (suc c) set [] r q h = absurd (cc h)
  takes k (suc c) set (x ∷ xs) r q h =
      let v : ℕ = x.1 % 2 ^ pages_in l k in
      let s : Takes (k + 1) c (slice_set set k v) xs r = takes (k + 1) c (slice_set set k v) xs r (omega (arith, length-set set k v)) h.2 in
      let here : slice_index r k ≡ v = s.kept k (inl (omega arith)) ∙ get_or-set_same set k v 0 (omega arith) in
      record {
        taken = λ j a b. first k j x xs r h.1 here (λ p. s.taken j p (omega arith)) (k == j) refl a;
        kept = λ j. elim [ inl o ↦ s.kept j (inl (omega arith)) ∙ get_or-set_other set k j v 0 (omega arith) | inr o ↦ s.kept j (inr (omega arith)) ∙ get_or-set_other set k j v 0 (omega arith) ];
        given = λ j bits. elim [ inl i ↦ let same : j ≡ k = apart j k (cc (i.0, h.1)) in (omega arith, omega arith, subst (λ y. slice_index r y ≡ bits % 2 ^ pages_in l y) (sym same) (here ∙ ap (λ y. y % 2 ^ pages_in l k) i.1)) | inr g ↦ let t = s.given j bits g in (omega arith, omega arith, t.2) ];
      }

  -- a page that is in the set
  found : (xs : List (Act × ℕ)) (set : List ℕ) (g : ℕ) → Takes 0 (groups l) (replicate 4 0) xs set → IsTrue (has_page set g) → (g < l.pages) × TookPage xs word g
  found xs set g s t = elim (cases_lt (g / 64) (groups l)) [
    | inl lt ↦
        let w = s.taken (g / 64) (omega arith) (omega arith) in
        let b : (g % 64 < pages_in l (g / 64)) × (bit_at w.0 (g % 64) ≡ 1) = (bit_kept w.0 (pages_in l (g / 64)) (g % 64)).0 (subst (λ y. IsTrue (bit_at y (g % 64) == 1)) w.2 t) in
        (omega (arith, b.0), (w.0, w.1, b.1))
    | inr ge ↦
        let none : slice_index set (g / 64) ≡ 0 = s.kept (g / 64) (inr (omega arith)) ∙ zeros (g / 64) in
        absurd (cc (t, ap (λ y. bit_at y (g % 64) == 1) none, ap (λ y. y == 1) (bit_at-zero (g % 64))))
  ]

  pub pages_taken : l.pages ≤ 256 → (xs : List (Act × ℕ)) (set : List ℕ) → Makes (take_pages l word) xs set → (g : ℕ) → IsTrue (has_page set g) ↔ ((g < l.pages) × TookPage xs word g)
  pages_taken few xs set h g =
      let s : Takes 0 (groups l) (replicate 4 0) xs set = takes 0 (groups l) (replicate 4 0) xs set (omega arith) h in (
        λ t. found xs set g s t,
        λ r.
            let w = s.given (g / 64) r.1.0 r.1.1 in
            let low : g % 64 < pages_in l (g / 64) = omega (arith, r.0) in
            subst (λ y. IsTrue (bit_at y (g % 64) == 1)) (sym w.2) ((bit_kept r.1.0 (pages_in l (g / 64)) (g % 64)).1 (low, r.1.2)),
      )
