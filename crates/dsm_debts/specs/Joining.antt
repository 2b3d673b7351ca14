-- The events at every node and at the home beside the copies of the word in all of them.
use Rattle.std.specs.Prelude.{◌≡◌, ◌≢◌, ℕ, Bool, true, false, ◌==◌, if◌then◌else◌, Option, None, Some, List, [], ◌∷◌}
use Rattle.dsm_copies.specs.Modes.{Mode, Exclusive, Flush_load, Flush_compare, Flush_refresh, Flush_send, Flush_end, Flush_tell, Flush_over, Enter_end, Break_load, Break_refresh, Break_send, Break_end}
use Rattle.dsm_copies.specs.Copies as W
use Rattle.dsm_copies.specs.Premises.{Premise, Released, Drops as Drops_of, Kept}
use Rattle.dsm_copies.specs.Counts.{no_count}
use Rattle.dsm_copies.specs.Debts.{no_debts, RunsOf}
use Rattle.dsm_copies.specs.Joining.{onto}
use Rattle.dsm_debts.specs.Page.{Part, Before, Loaded, Differs, Sending, After, Work, Flushing, Posting, Posted, Marking, Copying, Copied, Stage, State, Event, Store, Signal, Enter, Begin, Load, Same, Differ, Refresh, Send, Stamp, Stamp_bare, Tell, Drop, Finish, Break, End, End_home, after_event, start, IsClock}
use Rattle.dsm_debts.specs.Premises.{May}

-- where a word stands at a node, by what matters to debts
pub data Track : Type 0 where
  Quiet : Track
  Alone : Track
  In_flush : Part → Track
  In_post : Track
  Past_post : Track
  In_break : Part → Track

-- by what is open on the copy,
abbrev pub mode_track : Mode → Track
mode_track Exclusive = Alone
mode_track Flush_load = In_flush Before
mode_track (Flush_compare v seen) = In_flush Loaded
mode_track (Flush_refresh v seen) = In_flush Differs
mode_track (Flush_send v seen) = In_flush Sending
mode_track Flush_end = In_flush After
mode_track Flush_tell = In_post
mode_track Flush_over = Past_post
mode_track Break_load = In_break Before
mode_track (Break_refresh v seen) = In_break Loaded
mode_track (Break_send v seen) = In_break Sending
mode_track Break_end = In_break After
mode_track _ = Quiet

-- where nothing is open,
abbrev pub resting : Bool → Track
resting sole = if sole then Alone else Quiet

-- and by what the holder of the page's turn is at
abbrev pub page_track : Bool → Work → Track
page_track sole (Flushing p t x) = In_flush x
page_track sole (Posting p b) = if b then In_post else resting sole
page_track sole (Posted p b j) = if b then Past_post else resting sole
page_track sole (Marking j) = In_break Before
page_track sole (Copying x) = In_break x
page_track sole Copied = In_break After
page_track sole w = resting sole

-- the frame's word in the hand of a flush
abbrev pub hand : Mode → ℕ
hand (Flush_compare v seen) = v
hand _ = 0

-- the node becomes exclusive with the next operation
abbrev pub enters : Mode → Bool
enters (Enter_end late) = true
enters _ = false

-- a flush was made, and its twin stands
abbrev pub has_flushed : Work → Bool
has_flushed (Posting p b) = b
has_flushed (Posted p b j) = b
has_flushed _ = false

-- what an event is to the copies, away from the home, or nothing; v is the value of a store
abbrev pub word_event : ℕ → Work → ℕ → Event → Option W.Event
word_event n w v (Store q) = Some (W.Store q v)
word_event n w v (Signal q) = Some (W.Signal q)
word_event n w v Begin = Some (W.Begin n W.Flush)
word_event n w v Load = Some (W.Op n)
word_event n w v Same = Some (W.Op n)
word_event n w v Differ = Some (W.Op n)
word_event n w v Refresh = Some (W.Op n)
word_event n w v Send = Some (W.Op n)
word_event n w v Stamp = Some (W.Op n)
word_event n w v Tell = if has_flushed w then Some (W.Op n) else None
word_event n w v Drop = Some (W.Drop n)
word_event n w v Finish = if has_flushed w then Some (W.Op n) else None
word_event n w v Break = Some (W.Begin n W.Break)
word_event n w v End = Some (W.Op n)
word_event n w v Enter = Some (W.Op n)
word_event n w v e = None

-- and at the home
abbrev pub home_event : ℕ → Event → Option W.Event
home_event v (Store q) = Some (W.Store q v)
home_event v (Signal q) = Some (W.Signal q)
home_event v Stamp_bare = Some W.Home_sent
home_event v Tell = Some W.Home_told
home_event v Enter = Some W.Home_enter
home_event v End_home = Some W.Home_break
home_event v e = None

-- an event at a place, with the value of a store, or one that is of the copies alone
pub data Move : Type 0 where
  At : Option ℕ → (v : ℕ) → Event → Move
  Other : W.Event → Move

-- the places are the same
abbrev pub is_same : Option ℕ → Option ℕ → Bool
is_same None None = true
is_same (Some k) (Some n) = k == n
is_same _ _ = false

-- the place is the home
abbrev pub is_home : Option ℕ → Bool
is_home None = true
is_home (Some n) = false

-- what an event at a place is to the copies
abbrev pub event_at : Option ℕ → Work → ℕ → Event → Option W.Event
event_at None w v e = home_event v e
event_at (Some n) w v e = word_event n w v e

-- a block that is a fetch or makes a twin
abbrev pub IsFetch : W.Kind → Type 0
IsFetch W.Flush = ⊥
IsFetch W.Break = ⊥
IsFetch _ = Unit {0}

-- the page at each place, with another state at place h
abbrev pub put_page : (Option ℕ → State) → Option ℕ → State → Option ℕ → State
put_page f h x k = if is_same k h then x else f k

-- `place p` is where processor p is
module _ (place : ℕ → Option ℕ) where
  -- answers that the copies have too, and whose processor it is, away from the home
  abbrev pub Agrees : ℕ → W.State → Event → Type 0
  Agrees n s (Store q) = place q ≡ Some n
  Agrees n s (Signal q) = place q ≡ Some n
  Agrees n s Same = hand (s.nodes n).mode ≡ (s.nodes n).twin
  Agrees n s Differ = hand (s.nodes n).mode ≢ (s.nodes n).twin
  Agrees n s Enter = enters (s.nodes n).mode ≡ true
  Agrees n s e = Unit {0}

  -- and at the home
  abbrev pub HomeAgrees : Event → Type 0
  HomeAgrees (Store q) = place q ≡ None
  HomeAgrees (Signal q) = place q ≡ None
  HomeAgrees e = Unit {0}

  -- at a place
  abbrev pub AgreesAt : Option ℕ → W.State → Event → Type 0
  AgreesAt None s e = HomeAgrees e
  AgreesAt (Some n) s e = Agrees n s e

  -- events of the copies alone: loads, passes, fetches, and the operations of a fetch but the one that makes its node exclusive
  abbrev pub IsOther : W.State → W.Event → Type 0
  IsOther s (W.Load p v) = Unit {0}
  IsOther s (W.Pass p) = Unit {0}
  IsOther s (W.Begin k kind) = IsFetch kind × (mode_track (s.nodes k).mode ≡ Quiet)
  IsOther s (W.Op k) = (enters (s.nodes k).mode ≡ false) × (mode_track (s.nodes k).mode ≡ Quiet)
  IsOther s (W.Enter k) = mode_track (s.nodes k).mode ≡ Quiet
  IsOther s e = ⊥

-- `first` and `top` are the first processor of each place and the first past them
module _ (place : ℕ → Option ℕ) (first top : Option ℕ → ℕ) where
  -- the pages behind a list of moves, newest first,
  abbrev pub pages_after : (Option ℕ → State) → List Move → Option ℕ → State
  pages_after f [] = f
  pages_after f (At h v e ∷ older) = put_page (pages_after f older) h (after_event (is_home h) (first h) (pages_after f older h) e)
  pages_after f (Other e ∷ older) = pages_after f older

  -- what a move is to the copies, and what a list of them is
  abbrev pub event_of_move : (Option ℕ → State) → Move → Option W.Event
  event_of_move f (At h v e) = event_at h (f h).page.work v e
  event_of_move f (Other e) = Some e

  -- newest first
  abbrev pub events_of : (Option ℕ → State) → List Move → List W.Event
  events_of f [] = []
  events_of f (m ∷ older) = onto (event_of_move (pages_after f older) m) (events_of f older)

  -- what is asked of a move: at a place what the law for one node asks there
  abbrev pub MayMove : (Option ℕ → State) → W.State → Move → Type 0
  MayMove f s (At h v e) = May (is_home h) (first h) (top h) (f h) e × AgreesAt place h s e
  MayMove f s (Other e) = IsOther place s e

  -- each move of the list, newest first, meets it
  abbrev pub RunsMoves : (Option ℕ → State) → W.State → List Move → Type 0
  RunsMoves f s [] = Unit {0}
  RunsMoves f s (m ∷ older) = MayMove (pages_after f older) (W.after place s (events_of f older)) m × RunsMoves f s older

-- the premises on signals and on dropped twins
abbrev pub OnDebts : Premise → Type 0
OnDebts Released = Unit {0}
OnDebts Drops_of = Unit {0}
OnDebts Kept = Unit {0}
OnDebts _ = ⊥

-- and all others
abbrev pub OnOthers : Premise → Type 0
OnOthers Released = ⊥
OnOthers Drops_of = ⊥
OnOthers Kept = ⊥
OnOthers _ = Unit {0}

-- the pages of all places at the start
abbrev pub pages_start : (Option ℕ → ℕ) → (Option ℕ → ℕ → Stage) → Option ℕ → State
pages_start clock stages h = start (clock h) (stages h)

-- The list of the copies meets the premises on signals and on dropped twins,
abbrev pub DebtsAreKept : Type 0
DebtsAreKept =
    (place : ℕ → Option ℕ) (first top : Option ℕ → ℕ) (init : ℕ) (frames twins : ℕ → ℕ) (clock : Option ℕ → ℕ)
    (stages : Option ℕ → ℕ → Stage) (ms : List Move)
    → ((h : Option ℕ) → IsClock (clock h) (stages h))
    → RunsMoves place first top (pages_start clock stages) (W.start init frames twins) ms
    → RunsOf place OnDebts (W.start init frames twins) no_count no_debts (events_of place first top (pages_start clock stages) ms)

-- so that of those that are asked only the others need be shown
abbrev pub Together : (Premise → Type 0) → Type 0
Together asked =
    (place : ℕ → Option ℕ) (first top : Option ℕ → ℕ) (init : ℕ) (frames twins : ℕ → ℕ) (clock : Option ℕ → ℕ)
    (stages : Option ℕ → ℕ → Stage) (ms : List Move)
    → ((h : Option ℕ) → IsClock (clock h) (stages h))
    → RunsMoves place first top (pages_start clock stages) (W.start init frames twins) ms
    → let es = events_of place first top (pages_start clock stages) ms in
    RunsOf place (λ r. asked r × OnOthers r) (W.start init frames twins) no_count no_debts es
    → RunsOf place asked (W.start init frames twins) no_count no_debts es
