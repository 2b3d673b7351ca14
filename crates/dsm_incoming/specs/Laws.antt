-- What a merge and an overwrite leave, where nobody else changes the words between their operations.
use Rattle.std.specs.Prelude.{◌≡◌, ◌≢◌, ℕ, ◌<◌, ◌==◌, if◌then◌else◌, List, length}
use Rattle.dsm_words.specs.declared.item.Item.{Item}
use Rattle.dsm_words.specs.declared.item.Item.TheVariants.{Frame, Twin}
use Rattle.dsm_words.specs.Changes.{AlwaysLeaves, LeavesTheUnnamed, CanBeMade}
use Rattle.dsm_words.specs.Place.{Lay, IsWithin, total}
use Rattle.dsm_words.specs.Words.{word}
use Rattle.dsm_incoming.specs.Getting.{merge_script, overwrite_script}

-- node n's frame and twin of page g were merged with the frame of the home h
pub record IsMerged (l : Lay) (n g h : ℕ) (ws new : List ℕ) : Type 0 where
  -- each frame word is the master's where master and twin differed, and as it was elsewhere
  pub frame : (i : ℕ) → i < l.words
      → word l new (Frame n g i) ≡ (if word l ws (Frame h g i) == word l ws (Twin n g i) then word l ws (Frame n g i) else word l ws (Frame h g i))
  -- and so is each twin word
  pub twin : (i : ℕ) → i < l.words
      → word l new (Twin n g i) ≡ (if word l ws (Frame h g i) == word l ws (Twin n g i) then word l ws (Twin n g i) else word l ws (Frame h g i))
  -- every other word is as it was
  pub others : (it : Item) → IsWithin l it → ((i : ℕ) → it ≢ Frame n g i) → ((i : ℕ) → it ≢ Twin n g i) → word l new it ≡ word l ws it

-- node n's frame of page g was overwritten with the frame of the home h
pub record IsOverwritten (l : Lay) (n g h : ℕ) (ws new : List ℕ) : Type 0 where
  -- each frame word is the master's
  pub frame : (i : ℕ) → i < l.words → word l new (Frame n g i) ≡ word l ws (Frame h g i)
  -- every other word is as it was
  pub others : (it : Item) → IsWithin l it → ((i : ℕ) → it ≢ Frame n g i) → word l new it ≡ word l ws it

-- whatever list a merge makes alone, this is what it leaves
abbrev pub MergeGets : Type 0
MergeGets = (l : Lay) (n g h : ℕ) (ws : List ℕ) → n < l.nodes → g < l.pages → h < l.nodes → length ws ≡ total l
    → AlwaysLeaves l ws (merge_script l n g h) (λ new. IsMerged l n g h ws new)

-- there is such a list from any words on
abbrev pub MergeCanBeMade : Type 0
MergeCanBeMade = (l : Lay) (n g h : ℕ) → n < l.nodes → g < l.pages → h < l.nodes → CanBeMade l (merge_script l n g h)

-- and it leaves the word of every item that it doesn't name
abbrev pub MergeLeavesTheUnnamed : Type 0
MergeLeavesTheUnnamed = (l : Lay) (n g h : ℕ) → n < l.nodes → g < l.pages → h < l.nodes → LeavesTheUnnamed l (merge_script l n g h)

-- whatever list an overwrite makes alone, this is what it leaves
abbrev pub OverwriteGets : Type 0
OverwriteGets = (l : Lay) (n g h : ℕ) (ws : List ℕ) → n < l.nodes → g < l.pages → h < l.nodes → length ws ≡ total l
    → AlwaysLeaves l ws (overwrite_script l n g h) (λ new. IsOverwritten l n g h ws new)

-- there is such a list from any words on
abbrev pub OverwriteCanBeMade : Type 0
OverwriteCanBeMade = (l : Lay) (n g h : ℕ) → n < l.nodes → g < l.pages → h < l.nodes → CanBeMade l (overwrite_script l n g h)

-- and it leaves the word of every item that it doesn't name
abbrev pub OverwriteLeavesTheUnnamed : Type 0
OverwriteLeavesTheUnnamed = (l : Lay) (n g h : ℕ) → n < l.nodes → g < l.pages → h < l.nodes → LeavesTheUnnamed l (overwrite_script l n g h)
