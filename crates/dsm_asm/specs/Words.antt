-- The operands of a statement as they are held, and what is wrong with them.
use Rattle.std.specs.Prelude.{◌≡◌, ℕ, ◌<◌, ◌==◌, ◌⊎◌, not, if◌then◌else◌, List, [], ◌∷◌, length, Option, None, Some}
use Rattle.dsm_grammar.specs.declared.fault.AsmKind.{AsmKind}
use Rattle.dsm_grammar.specs.declared.fault.AsmKind.TheVariants.{BadOperand}
use Rattle.dsm_grammar.specs.Operands.{Place}
use Rattle.dsm_grammar.specs.Grammar.{values_of}
use Rattle.dsm_grammar.specs.Faults.{operands_fault}
use Rattle.dsm_asm.specs.declared.operands.Operands.{Operands}
use Rattle.dsm_asm.specs.declared.operands.Operands.TheVariants.{Zero, One, Two, Three, More}

-- the words, of which four stand for more than three
abbrev pub listed : Operands → List (List ℕ)
listed Zero = []
listed (One a) = a.now ∷ []
listed (Two a b) = a.now ∷ b.now ∷ []
listed (Three a b c) = a.now ∷ b.now ∷ c.now ∷ []
listed More = [] ∷ [] ∷ [] ∷ [] ∷ []

-- they are these words, or there are more than three
abbrev pub Holds : Operands → List (List ℕ) → Type 0
Holds operands words = (listed operands ≡ words) ⊎ ((operands ≡ More) × (3 < length words))

-- what is wrong with the words in these places, and with their number
abbrev pub words_fault : (List ℕ → Option ℕ) → List Place → List (List ℕ) → Option AsmKind
words_fault labels places words =
    if not (length places == length words) then Some BadOperand else operands_fault labels places words

-- nothing is wrong with the words in these places, and they stand for these numbers
pub record Reads (labels : List ℕ → Option ℕ) (places : List Place) (words : List (List ℕ)) (values : List ℕ) : Type 0 where
  pub sound : words_fault labels places words ≡ None
  pub values_are : values_of labels places words ≡ values
