-- Sums over numbers that follow one another.
use Rattle.std.proofs.Common.{◌≡◌, ◌⊎◌, inl, inr, ℕ, zero, suc, ◌+◌, ◌*◌, ◌<◌, ◌≤◌, ◌==◌, ap, if◌then◌else◌, arith}
use Rattle.std.proofs.lemmas.Bool.{cases_eq, eq-eqb}
use Rattle.dsm_ties.specs.Clocks.{sum_from}

pub sum_le : (f g : ℕ → ℕ) → ((q : ℕ) → f q ≤ g q) → (i k : ℕ) → sum_from f i k ≤ sum_from g i k
sum_le f g h i zero = omega arith
sum_le f g h i (suc k) = let a = h i in let b = sum_le f g h (i + 1) k in omega (arith, a, b)

pub sum_most : (f : ℕ → ℕ) (most : ℕ) → ((q : ℕ) → f q ≤ most) → (i k : ℕ) → sum_from f i k ≤ k * most
sum_most f most h i zero = omega arith
sum_most f most h i (suc k) =
    let a = h i in
    let b = sum_most f most h (i + 1) k in
    let m : suc k * most ≡ k * most + most = grind arith in
    omega (arith, a, b)

-- where each summand of three is at most that of two, so is the sum
pub sum_three : (f g h a b : ℕ → ℕ) → ((q : ℕ) → f q + g q + h q ≤ a q + b q) → (i k : ℕ) → sum_from f i k + sum_from g i k + sum_from h i k ≤ sum_from a i k + sum_from b i k
sum_three f g h a b le i zero = omega arith
sum_three f g h a b le i (suc k) = let x = le i in let y = sum_three f g h a b le (i + 1) k in omega (arith, x, y)

-- k at place p, and 0 elsewhere
abbrev pub only_at : ℕ → ℕ → ℕ → ℕ
only_at p k q = if q == p then k else 0

pub sum_only : (p c i k : ℕ) → i ≤ p → p < i + k → c ≤ sum_from (only_at p c) i k
sum_only p c i zero h l = absurd (omega arith)
sum_only p c i (suc k) h l = go (sum_only p c (i + 1) k) (cases_eq i p)
  where
    go : (i + 1 ≤ p → p < i + 1 + k → c ≤ sum_from (only_at p c) (i + 1) k) → (i ≡ p) ⊎ (i ≡ p → ⊥) → c ≤ only_at p c i + sum_from (only_at p c) (i + 1) k
    go later (inl e) = let z : only_at p c i ≡ c = ap (λ b. if b then c else 0) (eq-eqb i p e) in omega (arith, z)
    go later (inr ne) = let above : i + 1 ≤ p = omega arith in let below : p < i + 1 + k = omega arith in let r = later above below in omega (arith, r)
