use Rattle.std.proofs.Common.{ℕ, ◌<◌}
use Rattle.dsm_isa.specs.Jumps.{IsBadJump}
use Rattle.dsm_isa.proofs.code.first_bad_jump.Given as goal

abbrev pub invariant-loop-at : goal.invariant-loop-at
invariant-loop-at l = (k : ℕ) → k < l.at → ¬ IsBadJump l.list k
