-- What dropping a twin depends on.
use Rattle.std.specs.Prelude.{◌≡◌, ◌↔◌, ℕ, Bool, List, IsTrue}
use Rattle.dsm_words.specs.declared.item.Item.TheVariants.{Map, Dir, Twined}
use Rattle.dsm_words.specs.Place.{Lay}
use Rattle.dsm_words.specs.Script.{Act, Get, Put, Makes}
use Rattle.dsm_words.specs.Answered.{Gave, WasMade}
use Rattle.dsm_twin.specs.Twins.{drop_twin_script}

-- the twin is dropped exactly where no mapping of the node's processors was for writing
abbrev pub DropsUnwritten : Type 0
DropsUnwritten = (l : Lay) (n g : ℕ) (xs : List (Act × ℕ)) (dropped : Bool) → Makes (drop_twin_script l n g) xs dropped → IsTrue dropped ↔ ((q : ℕ) → Gave xs (Get (Map q g)) 2 → ⊥)

-- that is, where it stored that there is none
abbrev pub DropsInTheStore : Type 0
DropsInTheStore = (l : Lay) (n g : ℕ) (xs : List (Act × ℕ)) (dropped : Bool) → Makes (drop_twin_script l n g) xs dropped → IsTrue dropped ↔ WasMade xs (Put (Twined n g) 0)

-- and it stores that the node doesn't use the page exactly where all these mappings were none
abbrev pub LeavesUnmapped : Type 0
LeavesUnmapped = (l : Lay) (n g : ℕ) (xs : List (Act × ℕ)) (dropped : Bool) → Makes (drop_twin_script l n g) xs dropped → WasMade xs (Put (Dir n g) 0) ↔ ((q v : ℕ) → Gave xs (Get (Map q g)) v → v ≡ 0)
