-- What holds of all lines and words.
use Rattle.std.specs.Prelude.{◌≢◌, ◌<◌, ◌^◌, ◌↔◌, ℕ, List, length, false, ◌≡◌, All, Some, decimal}
use Rattle.dsm_lex.specs.Lexical.{lines_of, words_of, is_blank, number_of}

-- no line has a line feed
abbrev pub LinesHaveNoFeed : Type 0
LinesHaveNoFeed = (text : List ℕ) → All (λ line. All (λ b. b ≢ 10) line) (lines_of text)

-- no word has a blank
abbrev pub WordsHaveNoBlank : Type 0
WordsHaveNoBlank = (bytes : List ℕ) → All (λ word. All (λ b. is_blank b ≡ false) word) (words_of bytes)

-- no word is empty
abbrev pub WordsHaveBytes : Type 0
WordsHaveBytes = (bytes : List ℕ) → All (λ word. 0 < length word) (words_of bytes)

-- a word spells a number exactly where it is what that number prints as
abbrev pub NumbersAsPrinted : Type 0
NumbersAsPrinted = (word : List ℕ) (n : ℕ) → (number_of word ≡ Some n) ↔ ((n < 2 ^ 64) × (word ≡ decimal n))
