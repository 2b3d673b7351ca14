-- The dirty set as a list of flags.
use Rattle.std.proofs.Common.{◌≡◌, ◌≢◌, ℕ, zero, suc, ◌+◌, ◌/◌, ◌%◌, ◌<◌, ◌≤◌, ◌==◌, ◌||◌, Bool, true, false, List, [], ◌∷◌, length, refl, sym, ap, ap₂, ◌∙◌, arith, w64, eqb-true}
use Rattle.std.proofs.lemmas.Bool.{eqb-false}
use Rattle.std.proofs.lemmas.List.{get_or-set_same, get_or-set_other}
use Rattle.std.specs.Prelude.{replicate, slice_index, slice_index_or, slice_set, bit_or, max}
use Rattle.std.specs.Int.{bit_at}
use Rattle.std.proofs.lemmas.Nat.Bits.{bit_at_or, bit_at-lt, bit_at_clear_same, bit_at_clear_other, bit_at_set_same, bit_at_set_other}
use Rattle.dsm_words.specs.Pages.{has_page}
use Rattle.dsm_protocol.specs.Own.{with_pages}
use Rattle.dsm_machine.specs.Dirty.{flags_from, flags, cleared_in, with_page}

flag_from : (set : List ℕ) (k from g : ℕ) → g < k → slice_index_or (flags_from set from k) g false ≡ has_page set (from + g)
flag_from set zero from g h = absurd (omega arith)
flag_from set (suc k) from zero h = ap (has_page set) (omega arith)
flag_from set (suc k) from (suc g) h = flag_from set k (from + 1) g (omega arith) ∙ ap (has_page set) (omega arith)

pub flag_at : (set : List ℕ) (g : ℕ) → g < 256 → slice_index_or (flags set) g false ≡ has_page set g
unfolding flags
flag_at set g h = let e : 0 + g ≡ g = omega arith in flag_from set 256 0 g h ∙ ap (has_page set) e

flags_same : (set set' : List ℕ) (k from : ℕ) → ((b : ℕ) → from ≤ b → b < from + k → has_page set' b ≡ has_page set b) → flags_from set from k ≡ flags_from set' from k
flags_same set set' zero from h = refl
flags_same set set' (suc k) from h = ap₂ (λ (x : Bool) (xs : List Bool). x ∷ xs) (sym (h from (omega arith) (omega arith))) (flags_same set set' k (from + 1) (λ b p q. h b (omega arith) (omega arith)))

flags_set_from : (set set' : List ℕ) (v : Bool) (at : ℕ) (k from g : ℕ) → from + g ≡ at → g < k → from + k ≤ 256 → ((b : ℕ) → b < 256 → b ≢ at → has_page set' b ≡ has_page set b) → has_page set' at ≡ v → slice_set (flags_from set from k) g v ≡ flags_from set' from k
flags_set_from set set' v at zero from g e h m others is = absurd (omega arith)
flags_set_from set set' v at (suc k) from zero e h m others is =
    let f : at ≡ from = omega arith in
    ap₂ (λ (x : Bool) (xs : List Bool). x ∷ xs) (sym is ∙ ap (has_page set') f) (flags_same set set' k (from + 1) (λ b p q. others b (omega arith) (omega arith)))
flags_set_from set set' v at (suc k) from (suc g) e h m others is =
    ap₂ (λ (x : Bool) (xs : List Bool). x ∷ xs) (sym (others from (omega arith) (omega arith))) (flags_set_from set set' v at k (from + 1) g (omega arith) (omega arith) (omega arith) others is)

-- one page changes
pub flags_set : (set set' : List ℕ) (v : Bool) (at : ℕ) → at < 256 → ((b : ℕ) → b < 256 → b ≢ at → has_page set' b ≡ has_page set b) → has_page set' at ≡ v → slice_set (flags set) at v ≡ flags set'
unfolding flags
flags_set set set' v at h others is = flags_set_from set set' v at 256 0 at (omega arith) h (omega arith) others is

flags_join_from : (d s d' : List ℕ) (k from : ℕ) → from + k ≤ 256 → ((b : ℕ) → b < 256 → has_page d' b ≡ (has_page d b || has_page s b)) → with_pages (flags_from d from k) s from ≡ flags_from d' from k
flags_join_from d s d' zero from m h = refl
flags_join_from d s d' (suc k) from m h = ap₂ (λ (x : Bool) (xs : List Bool). x ∷ xs) (sym (h from (omega arith))) (flags_join_from d s d' k (from + 1) (omega arith) h)

-- a set joins
pub flags_join : (d s d' : List ℕ) → ((b : ℕ) → b < 256 → has_page d' b ≡ (has_page d b || has_page s b)) → with_pages (flags d) s 0 ≡ flags d'
unfolding flags
flags_join d s d' h = flags_join_from d s d' 256 0 (omega arith) h

-- The bits.
one_of : (x y : ℕ) → x < 2 → y < 2 → (max x y == 1) ≡ ((x == 1) || (y == 1))
one_of zero zero p q = refl
one_of zero (suc zero) p q = refl
one_of (suc zero) zero p q = refl
one_of (suc zero) (suc zero) p q = refl
one_of (suc (suc x)) y p q = absurd (omega arith)
one_of x (suc (suc y)) p q = absurd (omega arith)

pub or_bit : (a b i : ℕ) → (bit_at (bit_or a b) i == 1) ≡ ((bit_at a i == 1) || (bit_at b i == 1))
or_bit a b i = ap (λ x. x == 1) (bit_at_or a b i) ∙ one_of (bit_at a i) (bit_at b i) (bit_at-lt a i) (bit_at-lt b i)

-- four words, word by word
abbrev pub all_or : List ℕ → List ℕ → List ℕ
all_or d s = bit_or (slice_index d 0) (slice_index s 0) ∷ bit_or (slice_index d 1) (slice_index s 1) ∷ bit_or (slice_index d 2) (slice_index s 2) ∷ bit_or (slice_index d 3) (slice_index s 3) ∷ []

word_or : (d s : List ℕ) (k : ℕ) → k < 4 → slice_index (all_or d s) k ≡ bit_or (slice_index d k) (slice_index s k)
word_or d s zero h = refl
word_or d s (suc zero) h = refl
word_or d s (suc (suc zero)) h = refl
word_or d s (suc (suc (suc zero))) h = refl
word_or d s (suc (suc (suc (suc k)))) h = absurd (omega arith)

pub or_page : (d s : List ℕ) (b : ℕ) → b < 256 → has_page (all_or d s) b ≡ (has_page d b || has_page s b)
or_page d s b h = ap (λ w. bit_at w (b % 64) == 1) (word_or d s (b / 64) (omega arith)) ∙ or_bit (slice_index d (b / 64)) (slice_index s (b / 64)) (b % 64)

-- the word of page g becomes w
pub word_same : (set : List ℕ) (g w : ℕ) → g < 256 → length set ≡ 4 → has_page (slice_set set (g / 64) w) g ≡ (bit_at w (g % 64) == 1)
word_same set g w h four =
    let less : g / 64 < length set = omega (arith, four) in
    ap (λ x. bit_at x (g % 64) == 1) (get_or-set_same set (g / 64) w 0 less)

pub word_other : (set : List ℕ) (g w b : ℕ) → g < 256 → length set ≡ 4 → b ≢ g → ((i : ℕ) → i < 64 → i ≢ g % 64 → bit_at w i ≡ bit_at (slice_index set (g / 64)) i) → has_page (slice_set set (g / 64) w) b ≡ has_page set b
word_other set g w b h four ne kept = go (b / 64 == g / 64) refl
  where
    go : (t : Bool) → (b / 64 == g / 64) ≡ t → has_page (slice_set set (g / 64) w) b ≡ has_page set b
    go true q =
        let e : b / 64 ≡ g / 64 = eqb-true (b / 64) (g / 64) q in
        let less : g / 64 < length set = omega (arith, four) in
        let off : b % 64 ≢ g % 64 = λ i. ne (omega (arith, e, i)) in
        let below : b % 64 < 64 = omega arith in
        ap (λ k. bit_at (slice_index (slice_set set (g / 64) w) k) (b % 64) == 1) e
        ∙ (ap (λ x. bit_at x (b % 64) == 1) (get_or-set_same set (g / 64) w 0 less)
        ∙ (ap (λ x. x == 1) (kept (b % 64) below off)
        ∙ ap (λ k. bit_at (slice_index set k) (b % 64) == 1) (sym e)))
    go false q = ap (λ x. bit_at x (b % 64) == 1) (get_or-set_other set (g / 64) (b / 64) w 0 (eqb-false (b / 64) (g / 64) q))

-- the set without page g
pub clear_same : (set : List ℕ) (g : ℕ) → g < 256 → length set ≡ 4 → has_page (cleared_in set g) g ≡ false
clear_same set g h four = word_same set g _ h four ∙ ap (λ x. x == 1) (bit_at_clear_same w64 (slice_index set (g / 64)) (g % 64) (omega arith))

pub clear_other : (set : List ℕ) (g b : ℕ) → g < 256 → length set ≡ 4 → b ≢ g → has_page (cleared_in set g) b ≡ has_page set b
clear_other set g b h four ne = word_other set g _ b h four ne (λ i p q. bit_at_clear_other w64 (slice_index set (g / 64)) (g % 64) (omega arith) i p q)

-- the set with page g
pub soil_same : (set : List ℕ) (g : ℕ) → g < 256 → length set ≡ 4 → has_page (with_page set g) g ≡ true
soil_same set g h four = word_same set g _ h four ∙ ap (λ x. x == 1) (bit_at_set_same w64 (slice_index set (g / 64)) (g % 64) (omega arith))

pub soil_other : (set : List ℕ) (g b : ℕ) → g < 256 → length set ≡ 4 → b ≢ g → has_page (with_page set g) b ≡ has_page set b
soil_other set g b h four ne = word_other set g _ b h four ne (λ i p q. bit_at_set_other w64 (slice_index set (g / 64)) (g % 64) (omega arith) i q)

-- at the start no page is dirty
pub no_flags : flags (0 ∷ 0 ∷ 0 ∷ 0 ∷ []) ≡ replicate 256 false
unfolding flags
no_flags = refl
