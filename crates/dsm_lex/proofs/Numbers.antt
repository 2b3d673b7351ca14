-- A word spells a number exactly where it is what that number prints as.
use Rattle.std.proofs.Common.{inl, inr, ◌⊎◌, ◌≡◌, ℕ, zero, suc, ◌+◌, ◌*◌, ◌<◌, ◌≤◌, ◌^◌, ◌&&◌, nat_lt, if◌then◌else◌, true, false, take, List, [], ◌∷◌, Option, None, Some, length, get_or, decimal, refl, sym, ap, ◌∙◌, subst, arith}
use Rattle.std.specs.Char.{is_ascii_digit, digit_value}
use Rattle.std.specs.List.{list_all}
use Rattle.std.specs.Str.Parse.{AllDigits, digits_value}
use Rattle.std.proofs.lemmas.Bool.{cases_Bool}
use Rattle.std.proofs.lemmas.Int.Digits.{digits_more, digits_value_more}
use Rattle.std.proofs.lemmas.Fmt.{decimal-digits_value, decimal_is_IsNumeral, first_decimal, decimal_digit}
use Rattle.std.proofs.lemmas.Str.Parse.{digits_value-take-le, numerals_by_value, tells_digits, digit_from_value}
use Rattle.std.proofs.lemmas.Str.{digit_value_digit}
use Rattle.dsm_lex.specs.Lexical.{is_numeral, number_of}

-- a digit by its byte, and by its value
digit-value : (b : ℕ) → is_ascii_digit b ≡ true → digit_value b < 10
digit-value b is = grind (arith, digit_value_digit)

value-digit : (b : ℕ) → digit_value b < 10 → is_ascii_digit b ≡ true
value-digit b small = let range = digit_from_value b small in grind (arith)

-- a test of all is a test of each
AllDigits-from_test : (ds : List ℕ) → list_all is_ascii_digit ds ≡ true → AllDigits 10 ds
AllDigits-from_test [] all = tt
AllDigits-from_test (b ∷ ds) all = (digit-value b (grind (arith)), AllDigits-from_test ds (grind (arith)))

test-from_digits : (ds : List ℕ) → AllDigits 10 ds → list_all is_ascii_digit ds ≡ true
test-from_digits [] all = refl
test-from_digits (b ∷ ds) all = let first = value-digit b all.0 in let others = test-from_digits ds all.1 in grind (arith)

-- what a numeral is
numeral-digits : (word : List ℕ) → is_numeral word ≡ true → AllDigits 10 word
numeral-digits [] is = cc
numeral-digits (b ∷ ds) is = AllDigits-from_test (b ∷ ds) (grind (arith))

numeral-zero : (word : List ℕ) → is_numeral word ≡ true → get_or word 0 0 ≡ 48 → length word ≡ 1
numeral-zero [] is zero_first = cc
numeral-zero (b ∷ ds) is zero_first = grind (arith)

numeral-some : (word : List ℕ) → is_numeral word ≡ true → 0 < length word
numeral-some [] is = cc
numeral-some (b ∷ ds) is = grind (arith)

numeral-back : (word : List ℕ) → 0 < length word → AllDigits 10 word → (get_or word 0 0 ≡ 48 → length word ≡ 1) → is_numeral word ≡ true
numeral-back [] some all zero_first = grind (arith)
numeral-back (b ∷ ds) some all zero_first = let each = test-from_digits (b ∷ ds) all in grind (arith)

decimal-zero : (n : ℕ) → n < 2 ^ 64 → get_or (decimal n) 0 0 ≡ 48 → length (decimal n) ≡ 1
decimal-zero zero small first = let one = decimal_digit 0 (grind (arith)) in ap length one
decimal-zero (suc n) small first = let above = first_decimal (suc n) (grind (arith)) small in grind (arith)

-- numbers
pub number_of-forth : (word : List ℕ) (n : ℕ) → number_of word ≡ Some n → (n < 2 ^ 64) × (word ≡ decimal n)
number_of-forth word n e =
    let numeral : is_numeral word ≡ true = grind (arith) in
    let value : digits_value 10 word ≡ n = grind (arith) in
    let small : digits_value 10 word < 2 ^ 64 = grind (arith) in
    let printed = decimal-digits_value (numerals_by_value (AllDigits 10) tells_digits) word (numeral-digits word numeral) (numeral-some word numeral) (numeral-zero word numeral) small in
    (subst (λ m. m < 2 ^ 64) value small, sym printed ∙ ap decimal value)

pub number_of-back : (word : List ℕ) (n : ℕ) → (n < 2 ^ 64) × (word ≡ decimal n) → number_of word ≡ Some n
number_of-back word n h =
    let is = decimal_is_IsNumeral n h.0 in
    let numeral : is_numeral word ≡ true = rw h.1 (numeral-back (decimal n) is.0.0 is.0.1 (decimal-zero n h.0)) in
    let value : digits_value 10 word ≡ n = rw h.1 (is.1) in
    grind (arith)

-- what spells no number
pub number_of-no_numeral : (word : List ℕ) → is_numeral word ≡ false → number_of word ≡ None
number_of-no_numeral word fails = rw fails

pub number_of-large : (word : List ℕ) → 2 ^ 64 ≤ digits_value 10 word → number_of word ≡ None
number_of-large word large = grind (arith)

no_test : (ds : List ℕ) (i : ℕ) → i < length ds → is_ascii_digit (get_or ds i 0) ≡ false → list_all is_ascii_digit ds ≡ false
no_test [] i inside fails = absurd (omega arith)
no_test (b ∷ ds) zero inside fails = rw fails
no_test (b ∷ ds) (suc i) inside fails = let others = no_test ds i (omega arith) fails in grind (arith)

number_of-no_digit : (word : List ℕ) (i : ℕ) → i < length word → is_ascii_digit (get_or word i 0) ≡ false → number_of word ≡ None
number_of-no_digit [] i inside fails = absurd (omega arith)
number_of-no_digit (b ∷ ds) i inside fails = number_of-no_numeral (b ∷ ds) (rw (no_test (b ∷ ds) i inside fails))

pub number_of-zero_first : (word : List ℕ) → 1 < length word → get_or word 0 0 ≡ 48 → number_of word ≡ None
number_of-zero_first [] long zero_first = absurd (omega arith)
number_of-zero_first (b ∷ ds) long zero_first = number_of-no_numeral (b ∷ ds) (grind (arith))

pub number_of-value : (word : List ℕ) (n : ℕ) → 0 < length word → AllDigits 10 word → (get_or word 0 0 ≡ 48 → length word ≡ 1) → n ≡ digits_value 10 word → n < 2 ^ 64 → number_of word ≡ Some n
number_of-value word n some all zero_first is small =
    let numeral = numeral-back word some all zero_first in
    let value : digits_value 10 word ≡ n = sym is in
    grind (arith)

-- one more digit, where the value of the digits before it is n
abbrev pub one_more : ℕ → ℕ → Option ℕ
one_more n b = if is_ascii_digit b && nat_lt (n * 10 + digit_value b) (2 ^ 64) then Some (n * 10 + digit_value b) else None

one_more-some : (n m b : ℕ) → Some m ≡ one_more n b → (is_ascii_digit b ≡ true) × (m ≡ n * 10 + digit_value b) × (m < 2 ^ 64)
one_more-some n m b e = elim (cases_Bool (is_ascii_digit b)) [
  | inl w ↦ (w, grind (arith), grind (arith))
  | inr w ↦ absurd (grind (arith))
]

one_more-none : (n b : ℕ) → None ≡ one_more n b → (is_ascii_digit b ≡ false) ⊎ (2 ^ 64 ≤ n * 10 + digit_value b)
one_more-none n b e = elim (cases_Bool (is_ascii_digit b)) [
  | inl w ↦ inr (grind (arith))
  | inr w ↦ inl w
]

pub digits-more : (word : List ℕ) (i n m : ℕ) → i < length word → AllDigits 10 (take i word) → n ≡ digits_value 10 (take i word) → Some m ≡ one_more n (get_or word i 0) → AllDigits 10 (take (i + 1) word) × (m ≡ digits_value 10 (take (i + 1) word)) × (m < 2 ^ 64)
digits-more word i n m inside all is e =
    let b = get_or word i 0 in
    let some = one_more-some n m b e in
    (digits_more 10 word i inside all (digit-value b some.0), some.1 ∙ ap (λ v. v * 10 + digit_value b) is ∙ sym (digits_value_more 10 word i inside), some.2)

pub digits-none : (word : List ℕ) (i n : ℕ) → i < length word → n ≡ digits_value 10 (take i word) → None ≡ one_more n (get_or word i 0) → number_of word ≡ None
digits-none word i n inside is e = elim (one_more-none n (get_or word i 0) e) [
  | inl w ↦ number_of-no_digit word i inside w
  | inr w ↦ number_of-large word (omega (arith, w, ap (λ v. v * 10 + digit_value (get_or word i 0)) is, digits_value_more 10 word i inside, digits_value-take-le 10 word (i + 1) (omega arith)))
]
