-- The first page of a set from one page on, by words.
use Rattle.std.proofs.Common.{◌≡◌, ℕ, ◌+◌, ◌-◌, ◌/◌, ◌%◌, ◌^◌, ◌<◌, ◌≤◌, ◌==◌, ◌⊎◌, inl, inr, Bool, true, false, List, w64, refl, ap, ◌∙◌, arith}
use Rattle.std.specs.Int.{bit_at, trailing_zeros}
use Rattle.std.specs.Prelude.{slice_index}
use Rattle.std.proofs.lemmas.Bool.{cases_lt}
use Rattle.std.proofs.lemmas.Nat.Bits.{bit_at_above}
use Rattle.dsm_words.specs.Pages.{has_page}
use Rattle.dsm_notice.proofs.Lowest.{lowest, no_bits}
use Rattle.dsm_machine.specs.Dirty.{HasNoPage}

-- a page in the word of another
in_word : (set : List ℕ) (at b : ℕ) → b / 64 ≡ at / 64 → has_page set b ≡ (bit_at (slice_index set (at / 64)) (b % 64) == 1)
in_word set at b e = ap (λ k. bit_at (slice_index set k) (b % 64) == 1) e

-- it is true of none of these numbers, nor of the following ones
pub no_more : (f : ℕ → Bool) (from at to : ℕ) → ((b : ℕ) → from ≤ b → b < at → f b ≡ false) → ((b : ℕ) → at ≤ b → b < to → f b ≡ false) → (b : ℕ) → from ≤ b → b < to → f b ≡ false
no_more f from at to h k b p q = go (cases_lt b at)
  where
    go : (b < at) ⊎ (at ≤ b) → f b ≡ false
    go (inl e) = h b p e
    go (inr e) = k b e q

-- its word has no page from there on
pub no_page : (set : List ℕ) (at : ℕ) → slice_index set (at / 64) / 2 ^ (at % 64) ≡ 0 → HasNoPage set at (at + (64 - at % 64))
no_page set at none b p q =
    let same : b / 64 ≡ at / 64 = omega arith in
    let later : at % 64 ≤ b % 64 = omega arith in
    in_word set at b same ∙ ap (λ x. x == 1) (no_bits (slice_index set (at / 64)) (at % 64) (b % 64 + 1) none (b % 64) later (omega arith))

-- a bit of a word is one of 64
low : (n i : ℕ) → n < 2 ^ 64 → bit_at n i ≡ 1 → i < 64
low n i small is = go (cases_lt i 64)
  where
    go : (i < 64) ⊎ (64 ≤ i) → i < 64
    go (inl e) = e
    go (inr e) = let none : bit_at n i ≡ 0 = bit_at_above n 64 i small e in absurd (omega (arith, none, is))

-- it has one
pub first_one : (set : List ℕ) (at g : ℕ) → slice_index set (at / 64) < 2 ^ 64 → 0 < slice_index set (at / 64) / 2 ^ (at % 64) → g ≡ at + trailing_zeros w64 (slice_index set (at / 64) / 2 ^ (at % 64)) → (has_page set g ≡ true) × HasNoPage set at g
first_one set at g small some is =
    let word = slice_index set (at / 64) in
    let z = trailing_zeros w64 (word / 2 ^ (at % 64)) in
    let found = lowest word (at % 64) (at % 64 + z) small some refl in
    let less : at % 64 + z < 64 = low word (at % 64 + z) small found.0 in
    let same : g / 64 ≡ at / 64 = omega (arith, is) in
    let place : g % 64 ≡ at % 64 + z = omega (arith, is) in (
      in_word set at g same ∙ ap (λ x. x == 1) (ap (λ i. bit_at word i) place ∙ found.0),
      λ b p q.
          let same' : b / 64 ≡ at / 64 = omega arith in
          in_word set at b same' ∙ ap (λ x. x == 1) (found.1 (b % 64) (omega arith) (omega arith)),
    )
