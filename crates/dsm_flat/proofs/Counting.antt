-- Clocks as the code keeps them.
use Rattle.std.proofs.Common.{◌≡◌, ℕ, zero, suc, ◌<◌, ◌≤◌, ◌⊎◌, List, [], ◌∷◌, length, refl, arith}
use Rattle.std.specs.Prelude.{slice_index}

-- there is no number behind the last
pub index_past : (xs : List ℕ) (q : ℕ) → length xs ≤ q → slice_index xs q ≡ 0
index_past [] q le = refl
index_past (x ∷ xs) zero le = absurd (omega (arith, le))
index_past (x ∷ xs) (suc q) le = index_past xs q (omega (arith, le))

-- below n the greater of two numbers, and the old one behind
pub record IsRaisedBelow (n : ℕ) (old to now : List ℕ) : Type 0 where
  pub len : length to ≤ length now
  pub low : (q : ℕ) → q < n → (slice_index old q ≤ slice_index now q) × (slice_index to q ≤ slice_index now q) × ((slice_index now q ≡ slice_index old q) ⊎ (slice_index now q ≡ slice_index to q))
  pub same : (q : ℕ) → n ≤ q → slice_index now q ≡ slice_index old q
