-- What a flush leaves, where nobody else changes the words between its operations.
use Rattle.std.specs.Prelude.{◌≡◌, ◌≢◌, ℕ, ◌<◌, ◌==◌, if◌then◌else◌, List, length}
use Rattle.dsm_words.specs.declared.item.Item.{Item}
use Rattle.dsm_words.specs.declared.item.Item.TheVariants.{Frame, Twin}
use Rattle.dsm_words.specs.Changes.{AlwaysLeaves, LeavesTheUnnamed, CanBeMade}
use Rattle.dsm_words.specs.Place.{Lay, IsWithin, total}
use Rattle.dsm_words.specs.Words.{word}
use Rattle.dsm_outgoing.specs.Sending.{flush_script}

-- node n's frame of page g was sent to the home h
pub record IsFlushed (l : Lay) (n g h : ℕ) (ws new : List ℕ) : Type 0 where
  -- every frame word of its own node is as it was
  pub frames : (p i : ℕ) → p < l.pages → i < l.words → word l new (Frame n p i) ≡ word l ws (Frame n p i)
  -- each twin word is the frame's
  pub twin : (i : ℕ) → i < l.words → word l new (Twin n g i) ≡ word l ws (Frame n g i)
  -- the master word is the frame's where frame and twin differed, and as it was elsewhere
  pub master : (i : ℕ) → i < l.words
      → word l new (Frame h g i) ≡ (if word l ws (Frame n g i) == word l ws (Twin n g i) then word l ws (Frame h g i) else word l ws (Frame n g i))
  -- every other word is as it was
  pub others : (it : Item) → IsWithin l it → ((i : ℕ) → it ≢ Twin n g i) → ((i : ℕ) → it ≢ Frame h g i) → word l new it ≡ word l ws it

-- whatever list a flush makes alone, this is what it leaves
abbrev pub FlushSends : Type 0
FlushSends = (l : Lay) (n g h : ℕ) (ws : List ℕ) → n < l.nodes → g < l.pages → h < l.nodes → length ws ≡ total l
    → AlwaysLeaves l ws (flush_script l n g h) (λ new. IsFlushed l n g h ws new)

-- there is such a list from any words on
abbrev pub FlushCanBeMade : Type 0
FlushCanBeMade = (l : Lay) (n g h : ℕ) → n < l.nodes → g < l.pages → h < l.nodes → CanBeMade l (flush_script l n g h)

-- and it leaves the word of every item that it doesn't name
abbrev pub FlushLeavesTheUnnamed : Type 0
FlushLeavesTheUnnamed = (l : Lay) (n g h : ℕ) → n < l.nodes → g < l.pages → h < l.nodes → LeavesTheUnnamed l (flush_script l n g h)
