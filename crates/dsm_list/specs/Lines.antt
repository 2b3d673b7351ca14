-- Lines of words.
use Rattle.std.specs.Prelude.{ℕ, List, [], ◌∷◌, ◌++◌, flat_map}

-- the words, with a space between two
abbrev pub joined : List (List ℕ) → List ℕ
joined [] = []
joined (word ∷ words) = word ++ flat_map (λ w. 32 ∷ w) words

-- the line of these words, with its line feed
abbrev pub line : List (List ℕ) → List ℕ
line words = joined words ++ 10 ∷ []
