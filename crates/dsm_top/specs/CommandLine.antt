-- The words of a command line.
use Rattle.std.specs.Prelude.{ℕ, List, map, drop}
use Rattle.std.specs.Str.Lossy.{utf8_lossy}

-- The words of these arguments: each but the first, which names the program, as text. What is no text in one stands as
-- U+FFFD, which no word of a plan has.
abbrev pub words_of : List (List ℕ) → List (List ℕ)
words_of arguments = map utf8_lossy (drop 1 arguments)
