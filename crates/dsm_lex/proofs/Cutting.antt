-- Where a text is cut into its lines, and a line into its words.
use Rattle.std.proofs.Common.{◌⊎◌, drop-cons, inl, inr, ◌≡◌, ◌≢◌, ℕ, zero, suc, ◌-◌, ◌<◌, ◌≤◌, List, [], ◌∷◌, true, false, length, get_or, take, drop, refl, sym, ap, ◌∙◌, arith}
use Rattle.std.specs.List.{filter}
use Rattle.std.proofs.lemmas.Bool.{cases_Bool, ne_eqb, eq-eqb}
use Rattle.std.proofs.lemmas.List.{drop_all}
use Rattle.std.proofs.lemmas.Bool.Decides.{eqb_tells}
use Rattle.std.proofs.Math.Nat.{sub-zero}
use Rattle.dsm_lex.specs.Lexical.{onto, lines_of, content_of, is_blank, ends_word, pieces_of, is_some_piece, words_of}

pub lines_of-feed : (b : ℕ) (bytes : List ℕ) → b ≡ 10 → lines_of (b ∷ bytes) ≡ [] ∷ lines_of bytes
lines_of-feed b bytes e = rw (eq-eqb b 10 e)

pub lines_of-other : (b : ℕ) (bytes : List ℕ) → b ≢ 10 → lines_of (b ∷ bytes) ≡ onto b (lines_of bytes)
lines_of-other b bytes e = rw (ne_eqb b 10 e)

content_of-semicolon : (b : ℕ) (bytes : List ℕ) → b ≡ 59 → content_of (b ∷ bytes) ≡ []
content_of-semicolon b bytes e = rw (eq-eqb b 59 e)

content_of-other : (b : ℕ) (bytes : List ℕ) → b ≢ 59 → content_of (b ∷ bytes) ≡ b ∷ content_of bytes
content_of-other b bytes e = rw (ne_eqb b 59 e)

pub pieces_of-blank : (b : ℕ) (bytes : List ℕ) → is_blank b ≡ true → pieces_of (b ∷ bytes) ≡ [] ∷ pieces_of bytes
pieces_of-blank b bytes e = rw e

pub pieces_of-other : (b : ℕ) (bytes : List ℕ) → is_blank b ≡ false → pieces_of (b ∷ bytes) ≡ onto b (pieces_of bytes)
pieces_of-other b bytes e = rw e

-- The first line ends at the first line feed, or at the text's end.
lines_of-first : (n : ℕ) (bytes : List ℕ) → 0 < length bytes → n ≤ length bytes → (n < length bytes → get_or bytes n 0 ≡ 10) → ((k : ℕ) → k < n → get_or bytes k 0 ≢ 10) → lines_of bytes ≡ take n bytes ∷ lines_of (drop (suc n) bytes)
lines_of-first n [] some within found first = absurd (omega arith)
lines_of-first zero (b ∷ bytes) some within found first = lines_of-feed b bytes (found (omega arith))
lines_of-first (suc n) (b ∷ []) some within found first =
    let e : n ≡ 0 = omega arith in lines_of-other b [] (first 0 (omega arith)) ∙ rw e
lines_of-first (suc n) (b ∷ c ∷ bytes) some within found first =
    lines_of-other b (c ∷ bytes) (first 0 (omega arith))
    ∙ ap (onto b) (lines_of-first n (c ∷ bytes) (omega arith) (omega arith) (λ inside. found (omega arith)) (λ k below. first (suc k) (omega arith)))

-- the same from a place on
pub lines_of-from : (text : List ℕ) (from end : ℕ) → from < length text → from ≤ end → end ≤ length text → (end < length text → get_or text end 0 ≡ 10) → ((k : ℕ) → from ≤ k → k < end → get_or text k 0 ≢ 10) → lines_of (drop from text) ≡ take (end - from) (drop from text) ∷ lines_of (drop (suc end) text)
lines_of-from [] from end some behind within found first = absurd (omega arith)
lines_of-from (b ∷ text) zero end some behind within found first =
    rw sub-zero (lines_of-first end (b ∷ text) (omega arith) within found (λ k below. first k (omega arith) below))
lines_of-from (b ∷ text) (suc from) zero some behind within found first = absurd (omega arith)
lines_of-from (b ∷ text) (suc from) (suc end) some behind within found first =
    let same : suc end - suc from ≡ end - from = omega arith in rw same (lines_of-from text from end (omega arith) (omega arith) (omega arith) (λ inside. found (omega arith)) (λ k above below. first (suc k) (omega arith) (omega arith)))

no_semicolon : (b : ℕ) → is_blank b ≡ true → b ≢ 59
no_semicolon b blank e = let no : is_blank 59 ≡ true = ap is_blank (sym e) ∙ blank in cc no

-- what ends a word, and what does not
end-is : (b : ℕ) → ends_word b ≡ true → (is_blank b ≡ true) ⊎ (b ≡ 59)
end-is b ends = elim (cases_Bool (is_blank b)) [
  | inl w ↦ inl w
  | inr w ↦ elim (eqb_tells b 59) [
    | inl v ↦ inr v.1
    | inr v ↦ absurd (let no = ne_eqb b 59 v.1 in cc (ends, w, no))
  ]
]

inside-no_blank : (b : ℕ) → ends_word b ≡ false → is_blank b ≡ false
inside-no_blank b inside = elim (cases_Bool (is_blank b)) [
  | inl w ↦ absurd (cc (inside, w))
  | inr w ↦ w
]

inside-no_semicolon : (b : ℕ) → ends_word b ≡ false → b ≢ 59
inside-no_semicolon b inside e = let no : ends_word 59 ≡ false = ap ends_word (sym e) ∙ inside in cc no

-- Blanks before the first word leave the words as they are.
words-blank : (b : ℕ) (bytes : List ℕ) → is_blank b ≡ true → words_of (content_of (b ∷ bytes)) ≡ words_of (content_of bytes)
words-blank b bytes blank = ap words_of (content_of-other b bytes (no_semicolon b blank)) ∙ ap (filter is_some_piece) (pieces_of-blank b (content_of bytes) blank)

words-skip : (bytes : List ℕ) (at : ℕ) → at ≤ length bytes → ((k : ℕ) → k < at → is_blank (get_or bytes k 0) ≡ true) → words_of (content_of bytes) ≡ words_of (content_of (drop at bytes))
words-skip bytes zero within blanks = refl
words-skip [] (suc at) within blanks = absurd (omega arith)
words-skip (b ∷ bytes) (suc at) within blanks = words-blank b bytes (blanks 0 (omega arith)) ∙ words-skip bytes at (omega arith) (λ k below. blanks (suc k) (omega arith))

-- the same from a place on
pub words-skip_from : (bytes : List ℕ) (from start : ℕ) → from ≤ start → start ≤ length bytes → ((k : ℕ) → from ≤ k → k < start → is_blank (get_or bytes k 0) ≡ true) → words_of (content_of (drop from bytes)) ≡ words_of (content_of (drop start bytes))
words-skip_from bytes zero start behind within blanks = words-skip bytes start within (λ k below. blanks k (omega arith) below)
words-skip_from bytes (suc from) zero behind within blanks = absurd (omega arith)
words-skip_from [] (suc from) (suc start) behind within blanks = absurd (omega arith)
words-skip_from (b ∷ bytes) (suc from) (suc start) behind within blanks =
    words-skip_from bytes from start (omega arith) (omega arith) (λ k above below. blanks (suc k) (omega arith) (omega arith))

-- There is no word where the line ends, and none in a comment.
pub words-end : (bytes : List ℕ) (at : ℕ) → length bytes ≤ at → words_of (content_of (drop at bytes)) ≡ []
words-end bytes at end = ap (λ left. words_of (content_of left)) (drop_all at bytes end)

pub words-comment : (bytes : List ℕ) (at : ℕ) → at < length bytes → get_or bytes at 0 ≡ 59 → words_of (content_of (drop at bytes)) ≡ []
words-comment bytes at inside semicolon = ap (λ left. words_of (content_of left)) (drop-cons bytes at 0 inside) ∙ ap words_of (content_of-semicolon (get_or bytes at 0) (drop (suc at) bytes) semicolon)

-- The first piece ends where a word ends; the words of the others are those from there on.
pieces-first : (n : ℕ) (bytes : List ℕ) → n ≤ length bytes → (n < length bytes → ends_word (get_or bytes n 0) ≡ true) → ((k : ℕ) → k < n → ends_word (get_or bytes k 0) ≡ false)
    → (others : List (List ℕ)) × (pieces_of (content_of bytes) ≡ take n bytes ∷ others) × (filter is_some_piece others ≡ words_of (content_of (drop n bytes)))
pieces-first zero [] within found first = ([], refl, refl)
pieces-first zero (b ∷ bytes) within found first = elim (end-is b (found (omega arith))) [
  | inl w ↦ (pieces_of (content_of bytes), ap pieces_of (content_of-other b bytes (no_semicolon b w)) ∙ pieces_of-blank b (content_of bytes) w, sym (words-blank b bytes w))
  | inr w ↦ ([], ap pieces_of (content_of-semicolon b bytes w), sym (ap words_of (content_of-semicolon b bytes w)))
]
pieces-first (suc n) [] within found first = absurd (omega arith)
pieces-first (suc n) (b ∷ bytes) within found first =
    let others = pieces-first n bytes (omega arith) (λ inside. found (omega arith)) (λ k below. first (suc k) (omega arith)) in
    let inside = first 0 (omega arith) in
    (others.0, ap pieces_of (content_of-other b bytes (inside-no_semicolon b inside)) ∙ pieces_of-other b (content_of bytes) (inside-no_blank b inside) ∙ ap (onto b) others.1, others.2)

-- A line that begins with a word has that word and the words behind it.
words-first : (n : ℕ) (bytes : List ℕ) → 0 < n → n ≤ length bytes → (n < length bytes → ends_word (get_or bytes n 0) ≡ true) → ((k : ℕ) → k < n → ends_word (get_or bytes k 0) ≡ false) → words_of (content_of bytes) ≡ take n bytes ∷ words_of (content_of (drop n bytes))
words-first zero bytes some within found first = absurd (omega arith)
words-first (suc n) [] some within found first = absurd (omega arith)
words-first (suc n) (b ∷ bytes) some within found first =
    let others = pieces-first (suc n) (b ∷ bytes) within found first in
    ap (filter is_some_piece) others.1 ∙ ap (λ ws. take (suc n) (b ∷ bytes) ∷ ws) others.2

-- the same from a place on
pub words-from : (bytes : List ℕ) (start end : ℕ) → start < end → end ≤ length bytes → (end < length bytes → ends_word (get_or bytes end 0) ≡ true) → ((k : ℕ) → start ≤ k → k < end → ends_word (get_or bytes k 0) ≡ false) → words_of (content_of (drop start bytes)) ≡ take (end - start) (drop start bytes) ∷ words_of (content_of (drop end bytes))
words-from bytes zero end some within found first = rw sub-zero (words-first end bytes some within found (λ k below. first k (omega arith) below))
words-from bytes (suc start) zero some within found first = absurd (omega arith)
words-from [] (suc start) (suc end) some within found first = absurd (omega arith)
words-from (b ∷ bytes) (suc start) (suc end) some within found first =
    let same : suc end - suc start ≡ end - start = omega arith in rw same (words-from bytes start end (omega arith) (omega arith) (λ inside. found (omega arith)) (λ k above below. first (suc k) (omega arith) (omega arith)))

-- A word that begins with a byte that is no blank and no semicolon, and ends where a word ends, has a byte.
pub word_has_bytes : (bytes : List ℕ) (start end : ℕ) → start < length bytes → start ≤ end → is_blank (get_or bytes start 0) ≡ false → get_or bytes start 0 ≢ 59 → (end < length bytes → ends_word (get_or bytes end 0) ≡ true) → start < end
word_has_bytes bytes start end inside behind other word found = elim (eqb_tells start end) [
  | inl w ↦ elim (end-is (get_or bytes start 0) (ap (λ k. ends_word (get_or bytes k 0)) w.1 ∙ found (omega arith))) [
    | inl v ↦ absurd (cc (other, v))
    | inr v ↦ absurd (word v)
  ]
  | inr w ↦ omega (arith, w.1)
]
