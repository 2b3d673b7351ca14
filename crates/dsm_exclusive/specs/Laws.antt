-- What a break and an enter leave, where nobody else changes the words between their operations.
use Rattle.std.specs.Prelude.{◌≡◌, ◌≢◌, ℕ, ◌+◌, ◌*◌, ◌<◌, ◌≤◌, ◌==◌, ◌⊎◌, true, if◌then◌else◌, List, length, bit_or}
use Rattle.dsm_words.specs.declared.item.Item.{Item}
use Rattle.dsm_words.specs.declared.item.Item.TheVariants.{Frame, Twin, Twined, Map, Dir, Update, Clock, Nle}
use Rattle.dsm_words.specs.Changes.{AlwaysLeaves, LeavesTheUnnamed, CanBeMade}
use Rattle.dsm_words.specs.Pages.{group_of, bit_of}
use Rattle.dsm_words.specs.Parts.{and_then}
use Rattle.dsm_words.specs.Place.{Lay, IsWithin, total}
use Rattle.dsm_words.specs.Script.{is_open}
use Rattle.dsm_words.specs.Words.{word}
use Rattle.dsm_exclusive.specs.declared.enter.Enter.{Enter}
use Rattle.dsm_exclusive.specs.Breaking.{break_script}
use Rattle.dsm_exclusive.specs.Entering.{enter_script, enter_rest, enter_tail, copy_left, is_copied}

-- processor q is one of node m's
abbrev pub IsOfNode : Lay → ℕ → ℕ → Type 0
IsOfNode l m q = (m * l.procs ≤ q) × (q < m * l.procs + l.procs)

-- node m's exclusive mode for page g, with the home h, was broken
pub record IsBroken (l : Lay) (m g h : ℕ) (ws new : List ℕ) : Type 0 where
  -- each frame word is as it was
  pub frame : (i : ℕ) → i < l.words → word l new (Frame m g i) ≡ word l ws (Frame m g i)
  -- each twin word and each master word is the frame's, where the node is not the home
  pub twin : (i : ℕ) → i < l.words → m ≢ h → word l new (Twin m g i) ≡ word l ws (Frame m g i)
  pub master : (i : ℕ) → i < l.words → m ≢ h → word l new (Frame h g i) ≡ word l ws (Frame m g i)
  -- the page's bit was set in the words of each processor of the node that may write it, and of no other
  pub told : (q : ℕ) → IsOfNode l m q
      → word l new (Nle q (group_of g)) ≡ (if word l ws (Map q g) == 2 then bit_or (word l ws (Nle q (group_of g))) (bit_of g) else word l ws (Nle q (group_of g)))
  -- where the node is the home, every other word but its own in the directory is as it was
  pub at_home : (it : Item) → IsWithin l it → m ≡ h → ((q : ℕ) → IsOfNode l m q → it ≢ Nle q (group_of g)) → it ≢ Dir m g
      → word l new it ≡ word l ws it
  -- and elsewhere every other but these and that it has a twin
  pub others : (it : Item) → IsWithin l it → ((q : ℕ) → IsOfNode l m q → it ≢ Nle q (group_of g)) → it ≢ Dir m g
      → ((i : ℕ) → it ≢ Twin m g i) → ((i : ℕ) → it ≢ Frame h g i) → it ≢ Twined m g → word l new it ≡ word l ws it

-- node n entered exclusive mode for page g, with the home h
pub record IsEntered (l : Lay) (n g h : ℕ) (ws new : List ℕ) : Type 0 where
  -- each frame word is the master's
  pub frame : (i : ℕ) → i < l.words → word l new (Frame n g i) ≡ word l ws (Frame h g i)
  -- every word but the frame's, the clock's, the update's and its own in the directory is as it was
  pub others : (it : Item) → IsWithin l it → ((i : ℕ) → it ≢ Frame n g i) → it ≢ Clock n → it ≢ Update n g → it ≢ Dir n g
      → word l new it ≡ word l ws it

-- whatever list a break makes alone, this is what it leaves
abbrev pub BreakSends : Type 0
BreakSends = (l : Lay) (m g h : ℕ) (ws : List ℕ) → m < l.nodes → g < l.pages → h < l.nodes → length ws ≡ total l
    → AlwaysLeaves l ws (break_script l m g h) (λ new. IsBroken l m g h ws new)

-- there is such a list from any words on
abbrev pub BreakCanBeMade : Type 0
BreakCanBeMade = (l : Lay) (m g h : ℕ) → m < l.nodes → g < l.pages → h < l.nodes → CanBeMade l (break_script l m g h)

-- and it leaves the word of every item that it doesn't name
abbrev pub BreakLeavesTheUnnamed : Type 0
BreakLeavesTheUnnamed = (l : Lay) (m g h : ℕ) → m < l.nodes → g < l.pages → h < l.nodes → LeavesTheUnnamed l (break_script l m g h)

-- whatever list an enter makes alone, this is what it leaves
abbrev pub EnterGets : Type 0
EnterGets = (l : Lay) (n g h : ℕ) (ws : List ℕ) → n < l.nodes → g < l.pages → h < l.nodes → length ws ≡ total l
    → AlwaysLeaves l ws (enter_script l n g h) (λ new. IsEntered l n g h ws new)

-- there is such a list from any words on
abbrev pub EnterCanBeMade : Type 0
EnterCanBeMade = (l : Lay) (n g h : ℕ) → n < l.nodes → g < l.pages → h < l.nodes → CanBeMade l (enter_script l n g h)

-- and it leaves the word of every item that it doesn't name
abbrev pub EnterLeavesTheUnnamed : Type 0
EnterLeavesTheUnnamed = (l : Lay) (n g h : ℕ) → n < l.nodes → g < l.pages → h < l.nodes → LeavesTheUnnamed l (enter_script l n g h)

-- until its copy is over, an Enter has to copy, and then to note the time and store
abbrev pub CopyComesFirst : Type 0
CopyComesFirst = (e : Enter) → (is_open (copy_left e) ≡ true) ⊎ (is_copied e ≡ true)
    → enter_rest e ≡ and_then (copy_left e) (λ t. enter_tail e.n e.g t)
