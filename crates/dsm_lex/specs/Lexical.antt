-- Lines, words, numbers and names.
use Rattle.std.specs.Prelude.{ℕ, ◌<◌, ◌≤◌, ◌^◌, ◌==◌, ◌&&◌, ◌||◌, not, nat_lt, nat_le, Bool, true, false, if◌then◌else◌, List, [], ◌∷◌, length, slice_index, slice_index_or, slice_range, filter, Option, None, Some}
use Rattle.std.specs.Char.{is_ascii_digit, is_ascii_lowercase}
use Rattle.std.specs.List.{list_all}
use Rattle.std.specs.Str.Parse.{digits_value}
use Rattle.dsm_lex.specs.declared.spans.Span.{Span}

-- the bytes of a span
abbrev pub spanned : List ℕ → Span → List ℕ
spanned text span = slice_range text span.start span.end

-- the span lies in the text
abbrev pub LiesIn : Span → List ℕ → Type 0
LiesIn span text = (span.start ≤ span.end) × (span.end ≤ length text)

-- the span lies within the other one
abbrev pub LiesWithin : Span → Span → Type 0
LiesWithin span outer = (outer.start ≤ span.start) × (span.start ≤ span.end) × (span.end ≤ outer.end)

-- P holds of each place and of the span there
abbrev pub EachPlace : List Span → (ℕ → Span → Type 0) → Type 0
EachPlace spans P = (k : ℕ) (d : Span) → k < length spans → P k (slice_index_or spans k d)

-- the byte goes onto the first piece
abbrev pub onto : ℕ → List (List ℕ) → List (List ℕ)
onto b [] = (b ∷ []) ∷ []
onto b (piece ∷ pieces) = (b ∷ piece) ∷ pieces

-- The lines of a text: it is cut at each line feed. What stands behind the last one is a line only where
-- it is not empty.
abbrev pub lines_of : List ℕ → List (List ℕ)
lines_of [] = []
lines_of (b ∷ bytes) = if b == 10 then [] ∷ lines_of bytes else onto b (lines_of bytes)

-- the content of a line: what stands before the first semicolon; the rest is comment
abbrev pub content_of : List ℕ → List ℕ
content_of [] = []
content_of (b ∷ bytes) = if b == 59 then [] else b ∷ content_of bytes

-- a blank is a space, a tab or a carriage return
abbrev pub is_blank : ℕ → Bool
is_blank b = (b == 32) || (b == 9) || (b == 13)

-- a blank ends a word, and so does a semicolon, which begins a comment
abbrev pub ends_word : ℕ → Bool
ends_word b = is_blank b || (b == 59)

-- the pieces of some bytes, which are cut at each blank
abbrev pub pieces_of : List ℕ → List (List ℕ)
pieces_of [] = [] ∷ []
pieces_of (b ∷ bytes) = if is_blank b then [] ∷ pieces_of bytes else onto b (pieces_of bytes)

-- the piece is not empty
abbrev pub is_some_piece : List ℕ → Bool
is_some_piece [] = false
is_some_piece (b ∷ bytes) = true

-- the words: the pieces that are not empty
abbrev pub words_of : List ℕ → List (List ℕ)
words_of bytes = filter is_some_piece (pieces_of bytes)

-- a byte of a name: a to z, 0 to 9 and _
abbrev pub is_name_byte : ℕ → Bool
is_name_byte b = is_ascii_lowercase b || is_ascii_digit b || (b == 95)

-- the bytes are a name: 1 to 32 such bytes, of which the first is no digit
abbrev pub is_name : List ℕ → Bool
is_name word =
    nat_le 1 (length word) && nat_le (length word) 32 && not (is_ascii_digit (slice_index word 0)) && list_all is_name_byte word

-- the word is digits: 0 alone, or some that do not begin with 0
abbrev pub is_numeral : List ℕ → Bool
is_numeral [] = false
is_numeral (b ∷ digits) = list_all is_ascii_digit (b ∷ digits) && (not (b == 48) || length digits == 0)

-- the number that a word spells: it is below 2^64
abbrev pub number_of : List ℕ → Option ℕ
number_of word = let n = digits_value 10 word in if is_numeral word && nat_lt n (2 ^ 64) then Some n else None
