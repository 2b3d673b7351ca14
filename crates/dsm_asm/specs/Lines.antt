-- What a line says, as it is held.
use Rattle.std.specs.Prelude.{◌≡◌, ℕ, ◌<◌, List, [], ◌∷◌, length, slice_index_or}
use Rattle.dsm_lex.specs.declared.splitting.Words.{Words}
use Rattle.dsm_lex.specs.Lexical.{content_of, words_of, spanned, EachPlace, LiesIn}
use Rattle.dsm_asm.specs.declared.said.Statement.{Statement}
use Rattle.dsm_asm.specs.Words.{Holds}

-- the words of a line
abbrev pub line_words : List ℕ → List (List ℕ)
line_words line = words_of (content_of line)

-- these are the number of its words, and where the first six stand
pub record Splits (line : List ℕ) (words : Words) : Type 0 where
  pub count : words.count ≡ length (line_words line)
  pub at : EachPlace words.at (λ k span. k < words.count → spanned line span ≡ slice_index_or (line_words line) k [])
  pub within : EachPlace words.at (λ k span. LiesIn span line)

-- the words are a name and the operands of a statement
pub record Says (words : List (List ℕ)) (s : Statement) : Type 0 where
  pub behind : List (List ℕ)
  pub are : words ≡ s.name.now ∷ behind
  pub operands : Holds s.operands behind
