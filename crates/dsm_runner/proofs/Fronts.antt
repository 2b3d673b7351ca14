-- Lists whose items are numbered, read from the front and pushed to.
use Rattle.std.proofs.Common.{◌≡◌, ◌⊎◌, inl, inr, ℕ, suc, ◌+◌, List, [], ◌∷◌, ◌++◌, length, Some, sym, ap, subst, arith, ◌∙◌}
use Rattle.std.specs.Prelude.{slice_get}
use Rattle.dsm_flat.proofs.Lists.{get_push}

-- each item is that of its number, from n on
abbrev pub AreFrom : {A : Type 0} → (ℕ → A → Type 0) → ℕ → List A → Type 0
AreFrom {A = A} P n xs = (j : ℕ) (x : A) → slice_get xs j ≡ Some x → P (n + j) x

module _ {A : Type 0} (P : ℕ → A → Type 0) where
  -- all are those from the first number on
  pub all_are : (xs : List A) → ((n : ℕ) (x : A) → slice_get xs n ≡ Some x → P n x) → AreFrom P 0 xs
  all_are xs are j x at = subst (λ m. P m x) (let z : j ≡ 0 + j = omega arith in z) (are j x at)

  -- the first one
  pub front_is : (xs rest : List A) (x : A) (n : ℕ) → xs ≡ x ∷ rest → AreFrom P n xs → P n x
  front_is xs rest x n is are = subst (λ m. P m x) (let z : n + 0 ≡ n = omega arith in z) (are 0 x (ap (λ l. slice_get l 0) is))

  -- the others
  pub others_are : (xs rest : List A) (x : A) (n m : ℕ) → xs ≡ x ∷ rest → m ≡ suc n → AreFrom P n xs → AreFrom P m rest
  others_are xs rest x n m is next are j y at = subst (λ k. P k y) (let z : n + suc j ≡ m + j = omega arith in z) (are (suc j) y (ap (λ l. slice_get l (suc j)) is ∙ at))

  -- one more at the end
  pub pushed_are : (xs new : List A) {x : A} → new ≡ xs ++ x ∷ [] → P (length xs) x → ((n : ℕ) (y : A) → slice_get xs n ≡ Some y → P n y) → (n : ℕ) (y : A) → slice_get new n ≡ Some y → P n y
  pushed_are xs new {x} is last are n y at = go (get_push xs x y n (ap (λ l. slice_get l n) (sym is) ∙ at))
    where
      go : (slice_get xs n ≡ Some y) ⊎ ((n ≡ length xs) × (x ≡ y)) → P n y
      go (inl old) = are n y old
      go (inr one) = subst (P n) one.1 (subst (λ k. P k x) (sym one.0) last)
