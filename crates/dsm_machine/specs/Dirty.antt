-- The dirty set in the code: four words of 64 pages each.
use Rattle.std.specs.Prelude.{◌≡◌, ◌-◌, ◌*◌, ◌/◌, ◌%◌, ◌^◌, slice_index, slice_set, bit_and, bit_or, ℕ, zero, suc, ◌+◌, ◌<◌, ◌≤◌, Bool, false, List, [], ◌∷◌}
use Rattle.dsm_words.specs.Pages.{has_page}

-- which of k pages from page g on are in the set
abbrev pub flags_from : List ℕ → ℕ → ℕ → List Bool
flags_from set g zero = []
flags_from set g (suc k) = has_page set g ∷ flags_from set (g + 1) k

-- which of all pages are
unfoldable pub flags : List ℕ → List Bool
flags set = flags_from set 0 256

-- none of these pages is in the set
abbrev pub HasNoPage : List ℕ → ℕ → ℕ → Type 0
HasNoPage set from to = (b : ℕ) → from ≤ b → b < to → has_page set b ≡ false

-- the set without page g
abbrev pub cleared_in : List ℕ → ℕ → List ℕ
cleared_in set g = slice_set set (g / 64) (bit_and (slice_index set (g / 64)) (18446744073709551615 - 1 * 2 ^ (g % 64) % 18446744073709551616))

-- the set with page g
abbrev pub with_page : List ℕ → ℕ → List ℕ
with_page set g = slice_set set (g / 64) (bit_or (slice_index set (g / 64)) (1 * 2 ^ (g % 64) % 18446744073709551616))
