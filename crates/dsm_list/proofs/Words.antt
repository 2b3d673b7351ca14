-- What is read of a line of words: these words.
use Rattle.std.proofs.Common.{◌≡◌, ℕ, nat_lt, nat_le, ◌==◌, ◌&&◌, ◌||◌, not, Bool, true, false, List, [], ◌∷◌, ◌++◌, map, flat_map, append-nil, append_assoc, refl, ap, ◌∙◌, arith}
use Rattle.std.specs.List.{list_all, filter}
use Rattle.std.proofs.lemmas.Bool.{and_parts, and_from}
use Rattle.std.proofs.lemmas.List.Folds.{list_all-append}
use Rattle.dsm_lex.specs.Lexical.{onto, lines_of, content_of, is_blank, pieces_of, is_some_piece, words_of}
use Rattle.dsm_grammar.specs.Lines.{is_plain}
use Rattle.dsm_list.specs.Lines.{joined, line}

-- a byte of a word: printable, and neither a space nor a semicolon
abbrev pub is_word_byte : ℕ → Bool
is_word_byte b = nat_lt 32 b && nat_le b 126 && not (b == 59)

-- some such bytes
abbrev pub is_word : List ℕ → Bool
is_word word = is_some_piece word && list_all is_word_byte word

-- a byte of a line of words
abbrev pub is_line_byte : ℕ → Bool
is_line_byte b = (b == 32) || is_word_byte b

word_byte-line : (b : ℕ) → is_word_byte b ≡ true → is_line_byte b ≡ true
word_byte-line b is = grind (arith)

word_byte-other : (b : ℕ) → is_word_byte b ≡ true → is_blank b ≡ false
word_byte-other b is = grind (arith)

line_byte-feed : (b : ℕ) → is_line_byte b ≡ true → (b == 10) ≡ false
line_byte-feed b is = grind (arith)

line_byte-content : (b : ℕ) → is_line_byte b ≡ true → (b == 59) ≡ false
line_byte-content b is = grind (arith)

line_byte-plain : (b : ℕ) → is_line_byte b ≡ true → (is_blank b || nat_le 32 b && nat_le b 126) ≡ true
line_byte-plain b is = grind (arith)

-- the bytes of words are those of lines
word-line_bytes : (word : List ℕ) → list_all is_word_byte word ≡ true → list_all is_line_byte word ≡ true
word-line_bytes [] is = refl
word-line_bytes (b ∷ word) is = and_from _ _ (word_byte-line b (and_parts _ _ is).0) (word-line_bytes word (and_parts _ _ is).1)

spaced-line_bytes : (words : List (List ℕ)) → list_all is_word words ≡ true → list_all is_line_byte (flat_map (λ w. 32 ∷ w) words) ≡ true
spaced-line_bytes [] are = refl
spaced-line_bytes (word ∷ words) are =
    list_all-append is_line_byte word (flat_map (λ w. 32 ∷ w) words) ∙ and_from _ _ (word-line_bytes word (and_parts _ _ (and_parts _ _ are).0).1) (spaced-line_bytes words (and_parts _ _ are).1)

pub joined-line_bytes : (words : List (List ℕ)) → list_all is_word words ≡ true → list_all is_line_byte (joined words) ≡ true
joined-line_bytes [] are = refl
joined-line_bytes (word ∷ words) are =
    list_all-append is_line_byte word (flat_map (λ w. 32 ∷ w) words) ∙ and_from _ _ (word-line_bytes word (and_parts _ _ (and_parts _ _ are).0).1) (spaced-line_bytes words (and_parts _ _ are).1)

-- such bytes are content, and plain
content_of-line_bytes : (bytes : List ℕ) → list_all is_line_byte bytes ≡ true → content_of bytes ≡ bytes
content_of-line_bytes [] are = refl
content_of-line_bytes (b ∷ bytes) are = rw (line_byte-content b (and_parts _ _ are).0) (ap (λ c. b ∷ c) (content_of-line_bytes bytes (and_parts _ _ are).1))

plain-line_bytes : (bytes : List ℕ) → list_all is_line_byte bytes ≡ true → list_all (λ b. is_blank b || nat_le 32 b && nat_le b 126) bytes ≡ true
plain-line_bytes [] are = refl
plain-line_bytes (b ∷ bytes) are = and_from _ _ (line_byte-plain b (and_parts _ _ are).0) (plain-line_bytes bytes (and_parts _ _ are).1)

pub is_plain-joined : (words : List (List ℕ)) → list_all is_word words ≡ true → is_plain (joined words) ≡ true
is_plain-joined words are =
    let bytes = joined-line_bytes words are in rw (content_of-line_bytes (joined words) bytes) (plain-line_bytes (joined words) bytes)

-- a line ends at its line feed
lines_of-line : (bytes rest : List ℕ) → list_all is_line_byte bytes ≡ true → lines_of (bytes ++ (10 ∷ rest)) ≡ bytes ∷ lines_of rest
lines_of-line [] rest are = refl
lines_of-line (b ∷ bytes) rest are = rw (line_byte-feed b (and_parts _ _ are).0) (ap (onto b) (lines_of-line bytes rest (and_parts _ _ are).1))

-- The lines of lines of words are those lines.
pub lines_of-lines : (lines : List (List (List ℕ))) → list_all (list_all is_word) lines ≡ true → lines_of (flat_map line lines) ≡ map joined lines
lines_of-lines [] are = refl
lines_of-lines (words ∷ lines) are =
    ap lines_of (append_assoc (joined words) (10 ∷ []) (flat_map line lines))
    ∙ lines_of-line (joined words) (flat_map line lines) (joined-line_bytes words (and_parts _ _ are).0)
    ∙ ap (λ ls. joined words ∷ ls) (lines_of-lines lines (and_parts _ _ are).1)

-- a word ends at a space, or with the bytes
pieces_of-word : (word rest : List ℕ) → list_all is_word_byte word ≡ true → pieces_of (word ++ (32 ∷ rest)) ≡ word ∷ pieces_of rest
pieces_of-word [] rest is = refl
pieces_of-word (b ∷ word) rest is = rw (word_byte-other b (and_parts _ _ is).0) (ap (onto b) (pieces_of-word word rest (and_parts _ _ is).1))

pieces_of-last : (word : List ℕ) → list_all is_word_byte word ≡ true → pieces_of word ≡ word ∷ []
pieces_of-last [] is = refl
pieces_of-last (b ∷ word) is = rw (word_byte-other b (and_parts _ _ is).0) (ap (onto b) (pieces_of-last word (and_parts _ _ is).1))

pieces_of-joined : (word : List ℕ) (words : List (List ℕ)) → list_all is_word_byte word ≡ true → list_all is_word words ≡ true → pieces_of (joined (word ∷ words)) ≡ word ∷ words
pieces_of-joined word [] is are = ap pieces_of (append-nil word) ∙ pieces_of-last word is
pieces_of-joined word (next ∷ words) is are =
    pieces_of-word word (joined (next ∷ words)) is ∙ ap (λ pieces. word ∷ pieces) (pieces_of-joined next words (and_parts _ _ (and_parts _ _ are).0).1 (and_parts _ _ are).1)

-- no word is empty
filter-words : (words : List (List ℕ)) → list_all is_word words ≡ true → filter is_some_piece words ≡ words
filter-words [] are = refl
filter-words (word ∷ words) are =
    let some : is_some_piece word ≡ true = (and_parts _ _ (and_parts _ _ are).0).0 in rw some (ap (λ ws. word ∷ ws) (filter-words words (and_parts _ _ are).1))

-- The words of a line of words are those words.
pub words_of-joined : (words : List (List ℕ)) → list_all is_word words ≡ true → words_of (content_of (joined words)) ≡ words
words_of-joined [] are = refl
words_of-joined (word ∷ words) are =
    ap words_of (content_of-line_bytes (joined (word ∷ words)) (joined-line_bytes (word ∷ words) are))
    ∙ ap (filter is_some_piece) (pieces_of-joined word words (and_parts _ _ (and_parts _ _ are).0).1 (and_parts _ _ are).1)
    ∙ filter-words (word ∷ words) are
