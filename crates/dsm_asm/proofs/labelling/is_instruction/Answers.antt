use Rattle.std.proofs.Common.{drop, ap, sym, ◌∙◌}
use Rattle.std.specs.Option.{option_map}
use Rattle.std.specs.Borrow.{Bor}
use Rattle.std.specs.Prelude.{ℕ, List}
use Rattle.dsm_grammar.specs.Lines.{statement_of}
use Rattle.dsm_grammar.specs.Settings.{default_settings}
use Rattle.dsm_asm.proofs.Whereabouts.{first-is, has_instruction-named}
use Rattle.dsm_asm.proofs.labelling.is_instruction.Goals as goal

pub returns-in-Some : goal.returns-in-Some
returns-in-Some c = λ line h.
    let name = c.in-Some.name.now in
    let first = ap (option_map (λ (n : Bor (List ℕ)). n.now)) (sym c.in-Some.is) ∙ h in
    c.is_some.ensures ∙ has_instruction-named line name (drop 1 (statement_of line)) c.form_of.result (first-is (statement_of line) name first) (c.form_of.ensures default_settings.sizes)
