use Rattle.std.proofs.Common.{◌≡◌, ◌+◌, ◌-◌, ◌∷◌, take, drop, sym, ap, ◌∙◌, arith}
use Rattle.dsm_lex.specs.Lexical.{lines_of, spanned}
use Rattle.dsm_asm.proofs.Cuts.{all_behind}
use Rattle.dsm_asm.proofs.cutting.first_line.Goals as goal

pub returns-then-line-text-clause-lines : goal.returns-then-line-text-clause-lines
returns-then-line-text-clause-lines c =
    let text = c.args.text.now in
    let line = c.in_ok-line.line in
    let zero : line.end - 0 ≡ line.end = omega arith in
    let first : spanned text line ≡ take line.end text = ap (λ s. take (line.end - s) (drop s text)) c.in_ok-line.ensures.start ∙ ap (λ n. take n text) zero in
    c.in_ok-line.ensures.lines
    ∙ ap (λ l. l ∷ lines_of (drop (line.end + 1) text)) first
    ∙ ap (λ l. take line.end text ∷ lines_of l) (sym (all_behind text (line.end + 1)))
