use Rattle.std.proofs.Common.{inl, inr, sym, ◌∙◌, subst, take_all, arith}
use Rattle.std.specs.Str.Parse.{AllDigits}
use Rattle.dsm_lex.proofs.Numbers.{number_of-value, digits-more, digits-none}
use Rattle.dsm_lex.proofs.spelling.number.Goals as goal

pub returns-in_err-n : goal.returns-in_err-n
returns-in_err-n c =
    let word = c.args.word.now in
    c.from_residual.ensures ∙ sym (digits-none word c.loop-byte.byte-index c.loop-byte.n c.loop-byte-test.true c.loop-byte.invariant.1 c.in_err-n.ensures)

pub loop-byte-preserved : goal.loop-byte-preserved
loop-byte-preserved c = digits-more c.args.word.now c.loop-byte.byte-index c.loop-byte.n c.in_ok-n.n c.loop-byte-test.true c.loop-byte.invariant.0 c.loop-byte.invariant.1 c.in_ok-n.ensures

pub returns : goal.returns
returns c =
    let word = c.args.word.now in
    let whole = take_all c.loop-byte.byte-index word (omega arith) in
    sym (number_of-value word c.loop-byte.n (grind (arith)) (subst (AllDigits 10) whole c.loop-byte.invariant.0)
    (λ zero_first. elim c.if-word-gt1.either [
      | inl w ↦ grind (arith)
      | inr w ↦ absurd (w zero_first)
    ])
    (rw whole at c.loop-byte.invariant.1) c.loop-byte.invariant.2)
