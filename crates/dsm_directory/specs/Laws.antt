-- What the results of the directory's lists depend on.
use Rattle.std.specs.Prelude.{◌≡◌, ◌≢◌, ◌⊎◌, ◌↔◌, ℕ, ◌<◌, Bool, List, Option, None, Some, IsTrue}
use Rattle.dsm_words.specs.declared.item.Item.{Item}
use Rattle.dsm_words.specs.declared.item.Item.TheVariants.{Dir}
use Rattle.dsm_words.specs.Place.{Lay}
use Rattle.dsm_words.specs.Script.{Act, Get, Put, Makes}
use Rattle.dsm_words.specs.Answered.{Gave, WasMade}
use Rattle.dsm_directory.specs.declared.row.Row.{Row}
use Rattle.dsm_directory.specs.Directory.{sharers_script, holder_script, leave_script, is_busy}

-- Sharers: the own word is that of its node
abbrev pub TellsItsOwn : Type 0
TellsItsOwn = (l : Lay) (n g : ℕ) (xs : List (Act × ℕ)) (row : Row) → n < l.nodes → Makes (sharers_script l n g) xs row
    → Gave xs (Get (Dir n g)) row.own

-- the word of another node was not 0
abbrev pub OtherUses : ℕ → ℕ → List (Act × ℕ) → Type 0
OtherUses n g xs = (m : ℕ) × (v : ℕ) × (m ≢ n) × (v ≢ 0) × Gave xs (Get (Dir m g)) v

-- there are others exactly where that was so
abbrev pub TellsOfOthers : Type 0
TellsOfOthers = (l : Lay) (n g : ℕ) (xs : List (Act × ℕ)) (row : Row) → Makes (sharers_script l n g) xs row → IsTrue row.others ↔ OtherUses n g xs

-- a node is busy exactly where it is another one and its word was 2 or 3
abbrev pub TellsTheBusy : Type 0
TellsTheBusy = (l : Lay) (n g : ℕ) (xs : List (Act × ℕ)) (row : Row) → Makes (sharers_script l n g) xs row → (m : ℕ)
    → IsTrue (is_busy row.busy m) ↔ ((m ≢ n) × (Gave xs (Get (Dir m g)) 2 ⊎ Gave xs (Get (Dir m g)) 3))

-- Holder: there is none exactly where no word was 2
abbrev pub FindsNone : Type 0
FindsNone = (l : Lay) (g : ℕ) (xs : List (Act × ℕ)) (holder : Option ℕ) → Makes (holder_script l g) xs holder
    → (holder ≡ None) ↔ ((m : ℕ) → Gave xs (Get (Dir m g)) 2 → ⊥)

-- and it is node m exactly where the word of m was
abbrev pub FindsTheHolder : Type 0
FindsTheHolder = (l : Lay) (g : ℕ) (xs : List (Act × ℕ)) (holder : Option ℕ) → Makes (holder_script l g) xs holder → (m : ℕ)
    → (holder ≡ Some m) ↔ Gave xs (Get (Dir m g)) 2

-- Leave: the node leaves exactly where every word that was loaded was 0
abbrev pub LeavesUnused : Type 0
LeavesUnused = (l : Lay) (n g : ℕ) (xs : List (Act × ℕ)) (left : Bool) → Makes (leave_script l n g) xs left
    → IsTrue left ↔ ((it : Item) (v : ℕ) → Gave xs (Get it) v → v ≡ 0)

-- that is, where it stored that it doesn't use the page
abbrev pub LeavesInTheStore : Type 0
LeavesInTheStore = (l : Lay) (n g : ℕ) (xs : List (Act × ℕ)) (left : Bool) → Makes (leave_script l n g) xs left
    → IsTrue left ↔ WasMade xs (Put (Dir n g) 0)
