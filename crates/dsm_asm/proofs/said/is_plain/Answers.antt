use Rattle.std.proofs.Common.{sym, ◌∙◌, arith}
use Rattle.dsm_asm.proofs.Reading.{is_plain-comment}
use Rattle.dsm_asm.proofs.said.is_plain.Goals as goal

pub returns-then-byte-eq59 : goal.returns-then-byte-eq59
returns-then-byte-eq59 c = sym (c.loop-byte.invariant ∙ is_plain-comment c.args.line.now c.loop-byte.byte-index (omega arith) c.if-byte-eq59.true)
