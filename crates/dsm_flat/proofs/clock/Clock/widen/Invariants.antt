use Rattle.std.proofs.Common.{◌≡◌, ℕ, length, slice_index}
use Rattle.dsm_flat.proofs.clock.Clock.widen.Given as goal

abbrev pub invariant-loop-n : goal.invariant-loop-n
invariant-loop-n l =
    record {
      len : length l.self-inside.counts.items ≡ l._n;
      same : (q : ℕ) → slice_index l.self-inside.counts.items q ≡ slice_index l.fn.self q;
    }
