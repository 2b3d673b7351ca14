-- What was made, in a list of operations with their answers.
use Rattle.std.specs.Prelude.{◌≡◌, ◌⊎◌, ℕ, ◌%◌, List, [], ◌∷◌}
use Rattle.std.specs.Int.{bit_at}
use Rattle.dsm_words.specs.declared.item.Item.{Item}
use Rattle.dsm_words.specs.Pages.{group_of}
use Rattle.dsm_words.specs.Script.{Act, Swap}

-- the operation was made, and this was its answer
abbrev pub Gave : List (Act × ℕ) → Act → ℕ → Type 0
Gave [] a v = ⊥
Gave (x ∷ xs) a v = ((x.0 ≡ a) × (x.1 ≡ v)) ⊎ Gave xs a v

-- the operation was made
abbrev pub WasMade : List (Act × ℕ) → Act → Type 0
WasMade xs a = (v : ℕ) × Gave xs a v

-- the word of page g's group was swapped for 0, and had the page's bit
abbrev pub TookPage : List (Act × ℕ) → (ℕ → Item) → ℕ → Type 0
TookPage xs word g = (bits : ℕ) × Gave xs (Swap (word (group_of g)) 0) bits × (bit_at bits (g % 64) ≡ 1)
