-- Operands as they are held, and the words that they are.
use Rattle.std.proofs.Common.{◌≡◌, ℕ, ◌≤◌, not, List, length, Option, None, Some, inl, inr, sym, ap, ◌∙◌, arith}
use Rattle.std.specs.Prelude.{if◌then◌else◌}
use Rattle.std.proofs.lemmas.Bool.{ne_eqb}
use Rattle.dsm_isa.specs.ProgramText.{Sizes}
use Rattle.dsm_grammar.specs.declared.fault.AsmKind.TheVariants.{BadOperand}
use Rattle.dsm_grammar.specs.Operands.{Place}
use Rattle.dsm_grammar.specs.Faults.{operands_fault}
use Rattle.dsm_grammar.specs.Settings.{Settings}
use Rattle.dsm_asm.specs.declared.forms.Form.{Form}
use Rattle.dsm_asm.specs.declared.operands.Operands.{Operands}
use Rattle.dsm_asm.specs.declared.operands.Operands.TheVariants.{More}
use Rattle.dsm_asm.specs.declared.settings.Directive.{Directive}
use Rattle.dsm_asm.specs.Directives.{directive_in}
use Rattle.dsm_asm.specs.Forms.{statement_in}
use Rattle.dsm_asm.specs.Words.{listed, Holds, words_fault}

-- no form has more than three operands
pub few_in : (sizes : Sizes) (form : Form) → length (statement_in sizes form).places ≤ 3
few_in sizes form = grind (arith)

-- no directive has
pub few_by : (s : Settings) (d : Directive) → length (directive_in s d).places ≤ 3
few_by s d = grind (arith)

-- words of which there are too many or too few
pub words_fault-number : (labels : List ℕ → Option ℕ) (places : List Place) (words : List (List ℕ)) → (length places ≡ length words → ⊥) → words_fault labels places words ≡ Some BadOperand
words_fault-number labels places words differs = ap (λ b. if not b then Some BadOperand else operands_fault labels places words) (ne_eqb (length places) (length words) differs)

-- What is wrong with operands is what is wrong with the words that they are.
pub words_fault-held : (operands : Operands) (words : List (List ℕ)) (labels : List ℕ → Option ℕ) (places : List Place) → Holds operands words → length places ≤ 3 → words_fault labels places (listed operands) ≡ words_fault labels places words
words_fault-held operands words labels places (inl same) few = ap (words_fault labels places) same
words_fault-held operands words labels places (inr more) few =
    rw more.0 (words_fault-number labels places (listed More) (λ e. omega (arith, few)) ∙ sym (words_fault-number labels places words (λ e. omega (arith, few, more.1))))

-- Operands with which nothing is wrong are all of the words.
pub listed-sound : (operands : Operands) (words : List (List ℕ)) (labels : List ℕ → Option ℕ) (places : List Place) → Holds operands words → length places ≤ 3 → words_fault labels places (listed operands) ≡ None → listed operands ≡ words
listed-sound operands words labels places (inl same) few sound = same
listed-sound operands words labels places (inr more) few sound =
    let wrong = words_fault-number labels places (listed More) (λ e. omega (arith, few)) in
    let right : words_fault labels places (listed More) ≡ None = rw more.0 at sound in
    absurd (cc (wrong, right))
