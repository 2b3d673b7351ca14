use Rattle.std.proofs.Common.{◌+◌, ◌≤◌, length}
use Rattle.dsm_asm.proofs.Taking.{HasTaken}
use Rattle.dsm_asm.proofs.assembler.take_lines.Given as goal

-- The lines before the rest were taken.
abbrev pub invariant-loop-here : goal.invariant-loop-here
invariant-loop-here l = record {
  taken : HasTaken l.fn.text l.rest l.number l.assembly;
  fits : l.number + length l.rest ≤ length l.fn.text;
}

abbrev pub decreases-loop-here : goal.decreases-loop-here
decreases-loop-here l = length l.rest
