use Rattle.std.proofs.Common.{List, ℕ, [], ◌∷◌, None, Some, Bor, sym, ap, ◌∙◌}
use Rattle.std.specs.Option.{option_map}
use Rattle.std.proofs.lemmas.Bool.Decides.{Decides-eqb}
use Rattle.std.proofs.lemmas.Slice.Eq.{strip_suffix_is}
use Rattle.dsm_asm.proofs.Reading.{label_in-name, label_in-other}
use Rattle.dsm_asm.proofs.said.label_name.Goals as goal

pub returns-in_err-label : goal.returns-in_err-label
returns-in_err-label c =
    let word = c.args.word.now in
    ap (option_map (λ (label : Bor (List ℕ)). label.now)) c.from_residual.ensures
    ∙ sym (label_in-other word (strip_suffix_is Decides-eqb word (58 ∷ []) None c.in_err-label.ensures.cases))

pub returns-then-name : goal.returns-then-name
returns-then-name c =
    let word = c.args.word.now in
    let label = c.in_ok-label.label in
    let is = strip_suffix_is Decides-eqb word (58 ∷ []) (Some label) c.in_ok-label.ensures.cases in
    sym (label_in-name word label.now is (sym c.name.ensures ∙ c.if-name.true))
