-- What the directives set.
use Rattle.std.specs.Prelude.{ℕ, ◌==◌, nat_lt, if◌then◌else◌, List, [], ◌∷◌}
use Rattle.dsm_isa.specs.ProgramText.{Sizes}

-- the sizes, and the words that do not start as 0, by ascending addresses
pub record Settings : Type 0 where
  pub sizes : Sizes
  pub init : List (ℕ × ℕ)

-- what is not set: 1 page of 64 words, and no object
abbrev pub default_settings : Settings
default_settings = record { sizes = record { pages = 1; words = 64; locks = 0; barriers = 0; flags = 0 }; init = [] }

-- the word starts as this value, before these that start; 0 is not kept
abbrev pub starts_before : ℕ → ℕ → List (ℕ × ℕ) → List (ℕ × ℕ)
starts_before address value init = if value == 0 then init else (address, value) ∷ init

-- the word starts as this value, whatever it started as
abbrev pub starts_as : ℕ → ℕ → List (ℕ × ℕ) → List (ℕ × ℕ)
starts_as address value [] = starts_before address value []
starts_as address value (word ∷ init) =
    if nat_lt word.0 address then word ∷ starts_as address value init
    else if word.0 == address then starts_before address value init
    else starts_before address value (word ∷ init)
