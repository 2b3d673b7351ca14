-- A schedule of zeros, for one processor alone.
use Rattle.std.proofs.Common.{ℕ, zero, suc, ◌≡◌, ◌*◌, ◌<◌, All, replicate, arith, lit<}
use Rattle.dsm_words.specs.declared.topology.Topology.{Topology}

-- zeros are below a number that is not 0, as that of all processors
zeros_below : (n b : ℕ) → 0 < b → All (λ p. p < b) (replicate n 0)
zeros_below zero b h k d inside = absurd (omega arith)
zeros_below (suc n) b h zero d inside = h
zeros_below (suc n) b h (suc k) d inside = zeros_below n b h k d (omega (arith, inside))

pub zeros : (n : ℕ) (t : Topology) → (t.nodes ≡ 1) × (t.procs ≡ 1) → All (λ p. p < t.nodes * t.procs) (replicate n 0)
zeros n t one = zeros_below n (t.nodes * t.procs) (rw (one.0, one.1) (lit< tt))
