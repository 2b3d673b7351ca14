use Rattle.std.proofs.Common.{ℕ, ◌<◌, ◌+◌, get_or}
use Rattle.dsm_isa.proofs.program.ascends.Given as goal

abbrev pub invariant-loop-at : goal.invariant-loop-at
invariant-loop-at l = (k : ℕ) → k + 1 < l.at → (get_or l.init k (0, 0)).0 < (get_or l.init (k + 1) (0, 0)).0
