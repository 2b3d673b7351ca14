use Rattle.std.proofs.Common.{◌≡◌, drop}
use Rattle.dsm_grammar.specs.Lines.{is_plain}
use Rattle.dsm_asm.proofs.said.is_plain.Given as goal

abbrev pub invariant-loop-byte : goal.invariant-loop-byte
invariant-loop-byte l = is_plain l.line ≡ is_plain (drop l.byte-index l.line)
