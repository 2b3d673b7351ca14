-- Rows that are lowered.
use Rattle.std.proofs.Common.{◌≡◌, ◌≢◌, ℕ, ◌<◌, ◌≤◌, ◌⊎◌, List, length, sym, subst, inl, inr, arith, get_or-set_same, get_or-set_other}
use Rattle.std.specs.Prelude.{slice_index, slice_set}
use Rattle.std.proofs.lemmas.Bool.{cases_eq, cases_lt}
use Rattle.dsm_flat.specs.Rows.{IsLoweredBelow}

-- one index is put, and the others stay
pub index_set : (xs : List ℕ) (p q v : ℕ) → p < length xs → ((p ≡ q) × (slice_index (slice_set xs p v) q ≡ v)) ⊎ ((p ≢ q) × (slice_index (slice_set xs p v) q ≡ slice_index xs q))
index_set xs p q v lt = go (cases_eq p q)
  where
    go : (p ≡ q) ⊎ (p ≡ q → ⊥) → ((p ≡ q) × (slice_index (slice_set xs p v) q ≡ v)) ⊎ ((p ≢ q) × (slice_index (slice_set xs p v) q ≡ slice_index xs q))
    go (inl e) = inl (e, subst (λ z. slice_index (slice_set xs p v) z ≡ v) e (get_or-set_same xs p v 0 lt))
    go (inr d) = inr (d, get_or-set_other xs p q v 0 (λ e. d (sym e)))

module _ (n : ℕ) (old to now : List ℕ) (g : IsLoweredBelow n old to now) where
  -- no index rises
  pub lowered_le : (q : ℕ) → slice_index now q ≤ slice_index old q
  lowered_le q = go (cases_lt q n)
    where
      go : (q < n) ⊎ (n ≤ q) → slice_index now q ≤ slice_index old q
      go (inl lt) = omega (arith, g.lesser q lt)
      go (inr le) = omega (arith, g.same q le)

  -- and none of these is above that of the other row
  pub lowered_within : (q : ℕ) → q < n → slice_index now q ≤ slice_index to q
  lowered_within q lt = omega (arith, g.lesser q lt)

  -- an index is the old one or the other one
  pub lowered_is : (q : ℕ) → (slice_index now q ≡ slice_index old q) ⊎ ((q < n) × (slice_index now q ≡ slice_index to q))
  lowered_is q = go (cases_lt q n)
    where
      go : (q < n) ⊎ (n ≤ q) → (slice_index now q ≡ slice_index old q) ⊎ ((q < n) × (slice_index now q ≡ slice_index to q))
      go (inl lt) = pick (cases_lt (slice_index to q) (slice_index old q))
        where
          pick : (slice_index to q < slice_index old q) ⊎ (slice_index old q ≤ slice_index to q) → (slice_index now q ≡ slice_index old q) ⊎ ((q < n) × (slice_index now q ≡ slice_index to q))
          pick (inl less) = inr (lt, omega (arith, g.lesser q lt, less))
          pick (inr le) = inl (omega (arith, g.lesser q lt, le))
      go (inr le) = inl (g.same q le)
