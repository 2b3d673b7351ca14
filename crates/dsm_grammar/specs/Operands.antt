-- Operands: registers, numbers and labels.
use Rattle.std.specs.Prelude.{ℕ, ◌==◌, ◌&&◌, nat_lt, nat_le, if◌then◌else◌, List, [], ◌∷◌, Option, None, Some}
use Rattle.std.specs.Option.{option_and_then}
use Rattle.dsm_lex.specs.Lexical.{number_of}
use Rattle.dsm_grammar.specs.declared.fault.Bound.{Bound}
use Rattle.dsm_grammar.specs.declared.fault.AsmKind.{AsmKind}
use Rattle.dsm_grammar.specs.declared.fault.AsmKind.TheVariants.{BadRegister, BadNumber, NoLabel, Limit}

-- the register that a word names: the letter r, and a number below 16
abbrev pub register_of : List ℕ → Option ℕ
register_of [] = None
register_of (b ∷ digits) =
    if b == 114 then option_and_then (λ n. if nat_lt n 16 then Some n else None) (number_of digits) else None

-- what is wanted of an operand: that it is a register, a number, a number from a first to below a last, or a label
pub data Place : Type 0 where
  Register : Place
  Number : Place
  Within : Bound → ℕ → ℕ → Place
  Label : Place

-- what a word stands for in its place, where `labels` tells what a label stands for
abbrev pub value_of : (List ℕ → Option ℕ) → Place → List ℕ → Option ℕ
value_of labels Register word = register_of word
value_of labels Number word = number_of word
value_of labels (Within bound first end) word = number_of word
value_of labels Label word = labels word

-- what is wrong with a word that stands for this
abbrev pub value_fault : Place → Option ℕ → Option AsmKind
value_fault Register None = Some BadRegister
value_fault Number None = Some BadNumber
value_fault (Within bound first end) None = Some BadNumber
value_fault (Within bound first end) (Some n) = if nat_le first n && nat_lt n end then None else Some (Limit bound)
value_fault Label None = Some NoLabel
value_fault _ _ = None
