-- What a line of a text says.
use Rattle.std.specs.Prelude.{ℕ, ◌-◌, ◌&&◌, ◌||◌, nat_le, Bool, if◌then◌else◌, List, [], ◌∷◌, ◌++◌, length, take, Option, None, Some}
use Rattle.std.specs.List.{list_all}
use Rattle.std.specs.Option.{is_some}
use Rattle.std.specs.Str.{bytes_eq}
use Rattle.dsm_lex.specs.Lexical.{content_of, is_blank, is_name, words_of}

-- the line holds printable ASCII and blanks before its comment
abbrev pub is_plain : List ℕ → Bool
is_plain line = list_all (λ b. is_blank b || nat_le 32 b && nat_le b 126) (content_of line)

-- it has 200 bytes at most, with its comment
abbrev pub is_short : List ℕ → Bool
is_short line = nat_le (length line) 200

-- the name that a word defines as a label: a name and a colon
abbrev pub label_in : List ℕ → Option (List ℕ)
label_in word =
    let name = take (length word - 1) word in
    if bytes_eq word (name ++ (58 ∷ [])) && is_name name then Some name else None

-- the label that the words begin with
abbrev pub first_label : List (List ℕ) → Option (List ℕ)
first_label [] = None
first_label (word ∷ words) = label_in word

-- the words behind the label, where they begin with one
abbrev pub behind_label : List (List ℕ) → List (List ℕ)
behind_label [] = []
behind_label (word ∷ words) = if is_some (label_in word) then words else word ∷ words

-- the label that a line defines, whatever stands behind it
abbrev pub label_of : List ℕ → Option (List ℕ)
label_of line = if is_plain line && is_short line then first_label (words_of (content_of line)) else None

-- the directive or the instruction of a line
abbrev pub statement_of : List ℕ → List (List ℕ)
statement_of line = behind_label (words_of (content_of line))
