-- What is read of the operands and labels of canonical lines.
use Rattle.std.proofs.Common.{◌≡◌, ℕ, ◌-◌, ◌<◌, ◌≤◌, ◌^◌, nat_lt, ◌&&◌, if◌then◌else◌, true, false, List, [], ◌∷◌, ◌++◌, length, map, take, Option, None, Some, decimal, refl, ap, ◌∙◌, arith, length-append}
use Rattle.std.specs.List.{list_all}
use Rattle.std.specs.Char.{is_ascii_digit}
use Rattle.std.specs.Option.{option_and_then, option_or}
use Rattle.std.specs.Str.{bytes_eq}
use Rattle.std.proofs.Math.Seq.{take-append_seam}
use Rattle.std.proofs.lemmas.Bool.{false_from_ne_true, and_parts, and_from}
use Rattle.std.proofs.lemmas.Fmt.{length-decimal-le, decimal_injective}
use Rattle.std.proofs.lemmas.List.Folds.{list_all-append}
use Rattle.std.proofs.lemmas.Slice.Eq.{bytes_eq-Decides}
use Rattle.dsm_lex.specs.Lexical.{is_name, is_name_byte, is_numeral, is_some_piece, number_of}
use Rattle.dsm_grammar.specs.Faults.{operands_fault}
use Rattle.dsm_grammar.specs.Grammar.{values_of}
use Rattle.dsm_grammar.specs.Lines.{label_in}
use Rattle.dsm_grammar.specs.Operands.{Place, Register as ARegister, Number as ANumber, Within, Label, register_of, value_of, value_fault}
use Rattle.dsm_lex.proofs.Numbers.{number_of-back}
use Rattle.dsm_isa.specs.Operands.{Operand, Register, Number, Target, IsOperand, AreOperands}
use Rattle.dsm_list.specs.Spelling.{operand_word, label}
use Rattle.dsm_list.proofs.Words.{is_word_byte, is_word}

-- what an operand stands for
abbrev pub value : Operand → ℕ
value (Register n) = n
value (Number n) = n
value (Target place) = place

-- the operand is what is wanted in this place
abbrev pub Suits : (List ℕ → Option ℕ) → Place → Operand → Type 0
Suits labels ARegister (Register n) = Unit {0}
Suits labels ANumber (Number n) = Unit {0}
Suits labels (Within bound first end) (Number n) = (first ≤ n) × (n < end)
Suits labels Label (Target place) = labels (label place) ≡ Some place
Suits labels _ _ = ⊥

-- each is
abbrev pub AllSuit : (List ℕ → Option ℕ) → List Place → List Operand → Type 0
AllSuit labels [] [] = Unit {0}
AllSuit labels (place ∷ places) (operand ∷ operands) = Suits labels place operand × AllSuit labels places operands
AllSuit labels _ _ = ⊥

-- numbers and registers
number_of-decimal : (n : ℕ) → n < 2 ^ 64 → number_of (decimal n) ≡ Some n
number_of-decimal n small = number_of-back (decimal n) n (small, refl)

register_of-register : (n : ℕ) → n < 16 → register_of (114 ∷ decimal n) ≡ Some n
register_of-register n small =
    ap (option_and_then (λ m. if nat_lt m 16 then Some m else None)) (number_of-decimal n (omega arith)) ∙ grind (arith)

-- a word stands for its operand
value_of-word : (labels : List ℕ → Option ℕ) (place : Place) (operand : Operand) → Suits labels place operand → IsOperand operand → value_of labels place (operand_word operand) ≡ Some (value operand)
value_of-word labels ARegister (Register n) suits is = register_of-register n is
value_of-word labels ANumber (Number n) suits is = number_of-decimal n is
value_of-word labels (Within bound first end) (Number n) suits is = number_of-decimal n is
value_of-word labels Label (Target place) suits is = suits
value_of-word labels _ _ suits is = absurd suits

value_fault-value : (labels : List ℕ → Option ℕ) (place : Place) (operand : Operand) → Suits labels place operand → value_fault place (Some (value operand)) ≡ None
value_fault-value labels ARegister (Register n) suits = refl
value_fault-value labels ANumber (Number n) suits = refl
value_fault-value labels (Within bound first end) (Number n) suits =
    let low : first ≤ n = suits.0 in let high : n < end = suits.1 in grind (arith)
value_fault-value labels Label (Target place) suits = refl
value_fault-value labels _ _ suits = absurd suits

pub values_of-words : (labels : List ℕ → Option ℕ) (places : List Place) (operands : List Operand) → AllSuit labels places operands → AreOperands operands → values_of labels places (map operand_word operands) ≡ map value operands
values_of-words labels [] [] suit are = refl
values_of-words labels (place ∷ places) (operand ∷ operands) suit are =
    let first = value_of-word labels place operand suit.0 are.0 in
    let others = values_of-words labels places operands suit.1 are.1 in
    rw (first, others)
values_of-words labels _ _ suit are = absurd suit

pub operands_fault-words : (labels : List ℕ → Option ℕ) (places : List Place) (operands : List Operand) → AllSuit labels places operands → AreOperands operands → operands_fault labels places (map operand_word operands) ≡ None
operands_fault-words labels [] [] suit are = refl
operands_fault-words labels (place ∷ places) (operand ∷ operands) suit are =
    let first : value_of labels place (operand_word operand) ≡ Some (value operand) = value_of-word labels place operand suit.0 are.0 in
    ap (λ o. option_or (value_fault place o) (operands_fault labels places (map operand_word operands))) first
    ∙ ap (λ o. option_or o (operands_fault labels places (map operand_word operands))) (value_fault-value labels place operand suit.0)
    ∙ operands_fault-words labels places operands suit.1 are.1
operands_fault-words labels _ _ suit are = absurd suit

pub length-suit : (labels : List ℕ → Option ℕ) (places : List Place) (operands : List Operand) → AllSuit labels places operands → length places ≡ length (map operand_word operands)
length-suit labels [] [] suit = refl
length-suit labels (place ∷ places) (operand ∷ operands) suit = let others = length-suit labels places operands suit.1 in omega arith
length-suit labels _ _ suit = absurd suit

-- the bytes of a number
numeral-from_number : (word : List ℕ) (n : ℕ) → number_of word ≡ Some n → is_numeral word ≡ true
numeral-from_number word n is = grind (arith)

numeral-digits : (word : List ℕ) → is_numeral word ≡ true → list_all is_ascii_digit word ≡ true
numeral-digits [] is = refl
numeral-digits (b ∷ word) is = (and_parts _ _ is).0

numeral-some : (word : List ℕ) → is_numeral word ≡ true → is_some_piece word ≡ true
numeral-some [] is = is
numeral-some (b ∷ word) is = refl

digit-word_byte : (b : ℕ) → is_ascii_digit b ≡ true → is_word_byte b ≡ true
digit-word_byte b is = grind (arith)

digit-name_byte : (b : ℕ) → is_ascii_digit b ≡ true → is_name_byte b ≡ true
digit-name_byte b is = grind (arith)

digits-word_bytes : (word : List ℕ) → list_all is_ascii_digit word ≡ true → list_all is_word_byte word ≡ true
digits-word_bytes [] are = refl
digits-word_bytes (b ∷ word) are = and_from _ _ (digit-word_byte b (and_parts _ _ are).0) (digits-word_bytes word (and_parts _ _ are).1)

digits-name_bytes : (word : List ℕ) → list_all is_ascii_digit word ≡ true → list_all is_name_byte word ≡ true
digits-name_bytes [] are = refl
digits-name_bytes (b ∷ word) are = and_from _ _ (digit-name_byte b (and_parts _ _ are).0) (digits-name_bytes word (and_parts _ _ are).1)

decimal-digits : (n : ℕ) → n < 2 ^ 64 → list_all is_ascii_digit (decimal n) ≡ true
decimal-digits n small = numeral-digits (decimal n) (numeral-from_number (decimal n) n (number_of-decimal n small))

decimal-word_bytes : (n : ℕ) → n < 2 ^ 64 → list_all is_word_byte (decimal n) ≡ true
decimal-word_bytes n small = digits-word_bytes (decimal n) (decimal-digits n small)

-- an operand's word is a word
pub is_word-operand : (operand : Operand) → IsOperand operand → is_word (operand_word operand) ≡ true
is_word-operand (Register n) is = decimal-word_bytes n (omega arith)
is_word-operand (Number n) is =
    and_from _ _ (numeral-some (decimal n) (numeral-from_number (decimal n) n (number_of-decimal n is))) (decimal-word_bytes n is)
is_word-operand (Target place) is = decimal-word_bytes place is

pub are_words-operands : (operands : List Operand) → AreOperands operands → list_all is_word (map operand_word operands) ≡ true
are_words-operands [] are = refl
are_words-operands (operand ∷ operands) are =
    and_from _ _ (is_word-operand operand are.0) (are_words-operands operands are.1)

-- it is short
length-decimal : (n : ℕ) → n < 2 ^ 64 → length (decimal n) ≤ 20
length-decimal n small = length-decimal-le 20 n (omega arith) (omega arith) small

pub length-operand : (operand : Operand) → IsOperand operand → length (operand_word operand) ≤ 21
length-operand (Register n) is = let digits = length-decimal n (omega arith) in omega arith
length-operand (Number n) is = let digits = length-decimal n is in omega arith
length-operand (Target place) is = let digits = length-decimal place is in omega arith

-- a word is itself, and labels of two places differ
pub bytes_eq-same : (word : List ℕ) → bytes_eq word word ≡ true
bytes_eq-same word = grind (arith, bytes_eq-Decides)

pub bytes_eq-labels : (here there : ℕ) → here < 2 ^ 64 → there < 2 ^ 64 → here < there → bytes_eq (label here) (label there) ≡ false
bytes_eq-labels here there small large below = false_from_ne_true (bytes_eq (label here) (label there)) (λ yes.
    let same : label here ≡ label there = (bytes_eq-Decides (label here) (label there)).0 yes in
    let digits : decimal here ≡ decimal there = cc in
    omega (arith, decimal_injective here there small large digits))

-- a label and its line
is_name-label : (place : ℕ) → place < 2 ^ 64 → is_name (label place) ≡ true
is_name-label place small =
    let digits = length-decimal place small in
    let bytes : list_all is_name_byte (decimal place) ≡ true = digits-name_bytes (decimal place) (decimal-digits place small) in
    grind (arith)

pub is_word-label_word : (place : ℕ) → place < 2 ^ 64 → is_word (label place ++ (58 ∷ [])) ≡ true
is_word-label_word place small = list_all-append is_word_byte (decimal place) (58 ∷ []) ∙ and_from _ _ (decimal-word_bytes place small) refl

pub length-label_word : (place : ℕ) → place < 2 ^ 64 → length (label place ++ (58 ∷ [])) ≤ 22
length-label_word place small = let digits = length-decimal place small in omega (arith, length-append (label place) (58 ∷ []))

pub label_in-label_word : (place : ℕ) → place < 2 ^ 64 → label_in (label place ++ (58 ∷ [])) ≡ Some (label place)
label_in-label_word place small =
    let word = label place ++ (58 ∷ []) in
    let long : length word - 1 ≡ length (label place) = omega (arith, length-append (label place) (58 ∷ [])) in
    let front : take (length word - 1) word ≡ label place = ap (λ n. take n word) long ∙ take-append_seam (label place) (58 ∷ []) in
    ap (λ name. if bytes_eq word (name ++ (58 ∷ [])) && is_name name then Some name else None) front
    ∙ ap (λ b. if b && is_name (label place) then Some (label place) else None) (bytes_eq-same word)
    ∙ ap (λ b. if b then Some (label place) else None) (is_name-label place small)
