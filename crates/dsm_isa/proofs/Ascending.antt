-- Lemmas on addresses in ascending order.
use Rattle.std.proofs.Common.{◌≡◌, ℕ, ◌+◌, ◌-◌, ◌<◌, ◌≤◌, List, length, get_or, map, arith}
use Rattle.std.proofs.lemmas.List.{get_or-map, length-map}
use Rattle.std.specs.List.Sorted.{IsStrictlyIncreasing}

-- two neighbours that do not ascend
pub neighbours : (init : List (ℕ × ℕ)) (k : ℕ) → k + 1 < length init → IsStrictlyIncreasing (map (λ w. w.0) init) → (get_or init k (0, 0)).0 < (get_or init (k + 1) (0, 0)).0
neighbours init k lt h =
    let l : k < length init = omega arith in
    let a : get_or (map (λ (w : ℕ × ℕ). w.0) init) k 0 ≡ (get_or init k (0, 0)).0 = get_or-map (λ w. w.0) init k (0, 0) 0 l in
    let b : get_or (map (λ (w : ℕ × ℕ). w.0) init) (k + 1) 0 ≡ (get_or init (k + 1) (0, 0)).0 = get_or-map (λ w. w.0) init (k + 1) (0, 0) 0 lt in
    let m : k + 1 < length (map (λ (w : ℕ × ℕ). w.0) init) = rw length-map lt in
    omega (arith, h k m)

-- neighbours that all ascend
pub ascending : (init : List (ℕ × ℕ)) → ((k : ℕ) → k + 1 < length init → (get_or init k (0, 0)).0 < (get_or init (k + 1) (0, 0)).0) → IsStrictlyIncreasing (map (λ w. w.0) init)
ascending init h k m =
    let lt : k + 1 < length init = rw length-map at m in
    let l : k < length init = omega arith in
    let a : get_or (map (λ (w : ℕ × ℕ). w.0) init) k 0 ≡ (get_or init k (0, 0)).0 = get_or-map (λ w. w.0) init k (0, 0) 0 l in
    let b : get_or (map (λ (w : ℕ × ℕ). w.0) init) (k + 1) 0 ≡ (get_or init (k + 1) (0, 0)).0 = get_or-map (λ w. w.0) init (k + 1) (0, 0) 0 lt in
    omega (arith, h k lt)

-- a place that is not above the one before it
pub broken : (init : List (ℕ × ℕ)) (at : ℕ) → 1 ≤ at → at < length init → (get_or init at (0, 0)).0 ≤ (get_or init (at - 1) (0, 0)).0 → IsStrictlyIncreasing (map (λ w. w.0) init) → ⊥
broken init at low high le h =
    let e : (at - 1) + 1 ≡ at = omega arith in
    let n = neighbours init (at - 1) (omega arith) h in
    let m = rw e at n in
    omega (arith, m)
