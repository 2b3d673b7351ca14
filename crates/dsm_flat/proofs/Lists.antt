-- Lists that are made item by item.
use Rattle.std.proofs.Common.{◌≡◌, ℕ, zero, suc, ◌+◌, ◌⊎◌, List, [], ◌∷◌, ◌++◌, Some, length, refl, ap, subst, inl, inr, arith}
use Rattle.std.specs.Prelude.{slice_get}
use Rattle.std.proofs.lemmas.List.{length_push}

-- an item of a list that was pushed to is an old one or the new one
pub get_push : {A : Type 0} (xs : List A) (y e : A) (i : ℕ) → slice_get (xs ++ y ∷ []) i ≡ Some e → (slice_get xs i ≡ Some e) ⊎ ((i ≡ length xs) × (y ≡ e))
get_push [] y e zero h = inr (refl, cc h)
get_push [] y e (suc i) h = absurd (cc h)
get_push (x ∷ xs) y e zero h = inl h
get_push (x ∷ xs) y e (suc i) h = go (get_push xs y e i h)
  where
    go : (slice_get xs i ≡ Some e) ⊎ ((i ≡ length xs) × (y ≡ e)) → (slice_get xs i ≡ Some e) ⊎ ((suc i ≡ suc (length xs)) × (y ≡ e))
    go (inl g) = inl g
    go (inr g) = inr (ap suc g.0, g.1)

pub get_push_old : {A : Type 0} (xs : List A) (y e : A) (i : ℕ) → slice_get xs i ≡ Some e → slice_get (xs ++ y ∷ []) i ≡ Some e
get_push_old [] y e i h = absurd (cc h)
get_push_old (x ∷ xs) y e zero h = h
get_push_old (x ∷ xs) y e (suc i) h = get_push_old xs y e i h

pub get_push_new : {A : Type 0} (xs : List A) (y : A) → slice_get (xs ++ y ∷ []) (length xs) ≡ Some y
get_push_new [] y = refl
get_push_new (x ∷ xs) y = get_push_new xs y

-- n items, with the fact of each of them
pub record Filled {A : Type 0} (P : ℕ → A → Type 0) (n : ℕ) (xs : List A) : Type 0 where
  pub len : length xs ≡ n
  pub each : (k : ℕ) (a : A) → slice_get xs k ≡ Some a → P k a

pub filled_push : {A : Type 0} (P : ℕ → A → Type 0) (n : ℕ) (xs : List A) (y : A) → Filled P n xs → P n y → Filled P (n + 1) (xs ++ y ∷ [])
filled_push {A = A} P n xs y g h =
    record {
      len = omega (arith, length_push xs y, g.len);
      each = λ k a at. go k a (get_push xs y a k at);
    }
  where
    go : (k : ℕ) (a : A) → (slice_get xs k ≡ Some a) ⊎ ((k ≡ length xs) × (y ≡ a)) → P k a
    go k a (inl at) = g.each k a at
    go k a (inr new) =
        let e : n ≡ k = omega (arith, g.len, new.0) in
        subst (λ z. P k z) new.1 (subst (λ z. P z y) e h)
