use Rattle.std.proofs.Common.{ℕ, ◌<◌}
use Rattle.std.specs.Prelude.{slice_get}
use Rattle.dsm_flat.specs.Links.{IsPass}
use Rattle.dsm_flat.proofs.passes.first_pass.Given as goal

abbrev pub invariant-loop-i : goal.invariant-loop-i
invariant-loop-i l = (k : ℕ) → k < l.i → IsPass l.o l.j (slice_get l.trace.list k) → ⊥
