-- Operands without a fault stand for numbers that their places take.
use Rattle.std.proofs.Common.{◌≡◌, ℕ, suc, ◌<◌, ◌≤◌, List, [], ◌∷◌, length, Option, None, Some, refl, arith}
use Rattle.std.specs.Prelude.{slice_index}
use Rattle.std.specs.Option.{unwrap_or, option_or}
use Rattle.dsm_grammar.specs.declared.fault.Bound.{Bound}
use Rattle.dsm_grammar.specs.Operands.{Place, Register, Number, Within, Label, value_of, value_fault}
use Rattle.dsm_lex.specs.Lexical.{number_of}
use Rattle.dsm_grammar.specs.Grammar.{values_of}
use Rattle.dsm_grammar.specs.Faults.{operands_fault}

-- the place takes the number: a label's is at most `most`
abbrev pub Takes : ℕ → Place → ℕ → Type 0
Takes most Register n = Unit {0}
Takes most Number n = Unit {0}
Takes most (Within bound first end) n = (first ≤ n) × (n < end)
Takes most Label n = n ≤ most

-- no label stands for more
abbrev pub LabelsWithin : ℕ → (List ℕ → Option ℕ) → Type 0
LabelsWithin most labels = (word : List ℕ) → unwrap_or (labels word) 0 ≤ most

-- the places take the numbers v 0, v 1 and so on
abbrev pub TakeAll : ℕ → List Place → (ℕ → ℕ) → Type 0
TakeAll most [] v = Unit {0}
TakeAll most (place ∷ places) v = Takes most place (v 0) × TakeAll most places (λ k. v (suc k))

-- nothing of two
pub option_or-none : {X : Type 0} (a b : Option X) → option_or a b ≡ None → (a ≡ None) × (b ≡ None)
option_or-none None b e = (refl, e)
option_or-none (Some x) b e = absurd (cc e)

Takes-within : (most : ℕ) (bound : Bound) (first end : ℕ) (o : Option ℕ) → value_fault (Within bound first end) o ≡ None → Takes most (Within bound first end) (unwrap_or o 0)
Takes-within most bound first end None e = absurd (cc e)
Takes-within most bound first end (Some n) e = grind (arith)

Takes-value : (most : ℕ) (labels others : List ℕ → Option ℕ) → LabelsWithin most others → (place : Place) (word : List ℕ) → value_fault place (value_of labels place word) ≡ None → Takes most place (unwrap_or (value_of others place word) 0)
Takes-value most labels others bounded Register word e = tt
Takes-value most labels others bounded Number word e = tt
Takes-value most labels others bounded (Within bound first end) word e = Takes-within most bound first end (number_of word) e
Takes-value most labels others bounded Label word e = bounded word

-- whatever its labels stand for, if it is at most `most`
pub TakeAll-values : (most : ℕ) (labels others : List ℕ → Option ℕ) → LabelsWithin most others → (places : List Place) (words : List (List ℕ)) → length places ≡ length words → operands_fault labels places words ≡ None → TakeAll most places (slice_index (values_of others places words))
TakeAll-values most labels others bounded [] words same e = tt
TakeAll-values most labels others bounded (place ∷ places) [] same e = absurd (cc same)
TakeAll-values most labels others bounded (place ∷ places) (word ∷ words) same e =
    let none = option_or-none (value_fault place (value_of labels place word)) (operands_fault labels places words) e in
    let shorter : length places ≡ length words = cc same in
    (Takes-value most labels others bounded place word none.0, TakeAll-values most labels others bounded places words shorter none.1)
