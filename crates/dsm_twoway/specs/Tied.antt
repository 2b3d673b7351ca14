-- What words, places and the other laws' states show of the copies of one word.
use Rattle.std.specs.Prelude.{◌≡◌, ◌≢◌, ◌⊎◌, ℕ, ◌/◌, ◌<◌, ◌≤◌, ◌==◌, Bool, true, false, Option, Some, List}
use Rattle.dsm_words.specs.declared.item.Item.TheVariants.{Frame, Twin, Twined, Dir, Update, Turn}
use Rattle.dsm_words.specs.Place.{processors}
use Rattle.dsm_words.specs.Words.{word}
use Rattle.dsm_clock.specs.declared.turns.TurnId.TheVariants.{Page}
use Rattle.dsm_protocol.specs.Own.{Who, node_of}
use Rattle.dsm_protocol.specs.Stages.{First, Stage, Filling, Filled, Copying, Copied, Work, turn_at}
use Rattle.dsm_copies.specs.Modes.{Mode, Bare, may_store}
use Rattle.dsm_copies.specs.Copies as W
use Rattle.dsm_copies.specs.Counts.{Count, sender}
use Rattle.dsm_debts.specs.Page as D
use Rattle.dsm_debts.specs.Joining.{has_flushed}
use Rattle.dsm_fresh.specs.Stages as F
use Rattle.dsm_fresh.specs.Pages as F'
use Rattle.dsm_ties.specs.Views.{AtStage}
use Rattle.dsm_twoway.specs.Views.{plain, resting, mode_view}
use Rattle.dsm_twoway.specs.Events.{place_of}

-- where it has begun to fetch, and the moment of that is still to be noted
abbrev pub is_beginning : Stage → Bool
is_beginning (Copying write h t twin k (First v)) = true
is_beginning (Filling h t k (First v)) = true
is_beginning s = false

-- where it fetches a copy and has read whether there is a twin, and where it has fetched and the stamp is still to come
abbrev pub is_copied : Stage → Bool
is_copied (Copying write h t twin k part) = true
is_copied (Copied write h t) = true
is_copied (Filled t) = true
is_copied s = false

-- what is known there: of the twin's word, and that the node has fetched
abbrev pub HasCopied : Stage → (fetched : Bool) → (twined : ℕ) → Type 0
HasCopied (Copying write h t twin k part) fetched twined = twin ≡ true → twined ≡ 1
HasCopied s fetched twined = fetched ≡ true

-- The page's home is node h.
module _ (h : ℕ) (u : Who) where
  -- node n is one of the layout's, and not the home
  abbrev pub IsAway : ℕ → Type 0
  IsAway n = (n < u.lay.nodes) × (n ≢ h)

  -- the sender at a node
  abbrev pub spot : ℕ → ℕ
  spot m = sender (place_of h m)

-- Word i of page g: the words, and the state of its copies.
module _ (h g i : ℕ) (u : Who) (ws : List ℕ) where
  -- what would be open at a node where nobody works
  abbrev pub rest_of : ℕ → Mode
  rest_of n = resting (word u.lay ws (Dir n g)) (word u.lay ws (Twined n g))

  -- The words of node n's copy are those of the state.
  pub record Copy (n : ℕ) (y : W.Node) : Type 0 where
    pub frame_is : word u.lay ws (Frame n g i) ≡ y.frame
    pub twin_is : word u.lay ws (Twin n g i) ≡ y.twin
    -- a node whose copy is stamped has fetched
    pub fetched_is : word u.lay ws (Update n g) ≢ 0 → y.fetched ≡ true
    -- where nobody works on a copy, nothing is open there
    pub rest_is : word u.lay ws (Turn n g) ≡ 0 → plain y.mode ≡ rest_of n
    -- a twin, or exclusive use, gives the right to store
    pub rights : (word u.lay ws (Twined n g) ≡ 1) ⊎ (word u.lay ws (Dir n g) ≡ 2) → may_store y.mode ≡ true

  -- So are the words of all copies.
  pub record Words (x : W.State) : Type 0 where
    pub master_is : word u.lay ws (Frame h g i) ≡ x.master
    pub home_is : (word u.lay ws (Dir h g) == 2) ≡ x.home_exclusive
    pub each : (n : ℕ) → IsAway h u n → Copy n (x.nodes n)
    pub none : (n : ℕ) → (n ≡ h) ⊎ (u.lay.nodes ≤ n) → (x.nodes n).mode ≡ Bare

-- For each sender m and node n the copy of the page at n as m sees it, and the numbers of sends.
module _ (h : ℕ) (u : Who) (fresh : (m n : ℕ) → F'.State) (c : Count) where
  -- the numbers of sends are those of each node's copy
  pub record Counted : Type 0 where
    pub sent_is : (m n : ℕ) → m < u.lay.nodes → m ≢ n → IsAway h u n → c.sent (spot h u m) ≡ (fresh m n).page.sent
    pub told_is : (m n : ℕ) → m < u.lay.nodes → m ≢ n → IsAway h u n → c.told (spot h u m) ≡ (fresh m n).page.told
    pub broken_is : (m n : ℕ) → m < u.lay.nodes → m ≢ n → IsAway h u n → c.broken (spot h u m) ≡ (fresh m n).page.broken
    pub got_is : (m n : ℕ) → m < u.lay.nodes → m ≢ n → IsAway h u n → c.got n (spot h u m) ≡ (fresh m n).page.got
    pub known_is : (m n q : ℕ) → m < u.lay.nodes → m ≢ n → IsAway h u n → q < processors u.lay → q / u.lay.procs ≡ n → c.known q (spot h u m) ≡ ((fresh m n).processors q).known
    pub snap_is : (m n q e t : ℕ) (enters : Bool) → m < u.lay.nodes → m ≢ n → IsAway h u n → (fresh m n).page.work ≡ F.Open q enters t e → c.snap n (spot h u m) ≡ e
    -- who is no sender has sent nothing
    pub silent : (k : ℕ) → ((m : ℕ) → m < u.lay.nodes → k ≢ spot h u m) → (c.told k ≡ 0) × (c.broken k ≡ 0) × ((q : ℕ) → c.known q k ≡ 0)

-- The words and the numbers are those of the state.
pub record Match (h g i : ℕ) (u : Who) (ws : List ℕ) (fresh : (m n : ℕ) → F'.State) (x : W.State) (c : Count) : Type 0 where
  pub words : Words h g i u ws x
  pub counted : Counted h u fresh c

-- What the state says of the processor at w, with the debts at each place.
pub record Knows (h g i : ℕ) (u : Who) (ws : List ℕ) (fresh : (m n : ℕ) → F'.State) (pages : Option ℕ → D.State) (x : W.State) (c : Count) (w : Work) : Type 0 where
  -- who holds the turn of a copy is at the operation that is open there
  pub mode : (n : ℕ) → IsAway h u n → turn_at u w ≡ Some (Page n g) → AtStage (λ s. plain (x.nodes n).mode ≡ mode_view i (rest_of h g i u ws n) (has_flushed (pages (Some n)).page.work) s) g w
  pub copied : IsAway h u (node_of u) → AtStage (λ s. is_copied s ≡ true → HasCopied s (x.nodes (node_of u)).fetched (word u.lay ws (Twined (node_of u) g))) g w
  pub beginning : IsAway h u (node_of u) → AtStage (λ s. is_beginning s ≡ true → (m : ℕ) → m < u.lay.nodes → m ≢ node_of u → c.snap (node_of u) (spot h u m) ≡ (fresh m (node_of u)).page.sent) g w
