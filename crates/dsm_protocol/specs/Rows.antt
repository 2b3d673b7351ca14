-- The table of the protocol: from each stage, the operation that comes next and the stage behind its answer; the turns that are won; what is
-- decided with no operation; and what is noted.
use Rattle.std.specs.Prelude.{◌≡◌, ℕ, ◌+◌, ◌-◌, ◌*◌, ◌%◌, ◌^◌, ◌<◌, ◌≤◌, ◌==◌, ◌&&◌, ◌||◌, not, nat_lt, Bool, true, false, if◌then◌else◌, List, Option, None, length, replicate, slice_set, slice_index, slice_index_or}
use Rattle.std.specs.Int.{bit_at}
use Rattle.dsm_entry.specs.declared.entry.Entry.TheVariants.{Load, Store, Signal, Pass}
use Rattle.dsm_entry.specs.declared.entry.Obj.{Obj}
use Rattle.dsm_entry.specs.declared.entry.Obj.TheVariants.{Close as CloseOf}
use Rattle.dsm_words.specs.declared.item.Item.TheVariants.{Stop, Frame, Twin, Twined, Map, Dir, Update, Flush, Notice, Clock, Turn, NoticeTurn, Global, Own as OwnWord, Nle, Home}
use Rattle.dsm_words.specs.Place.{groups}
use Rattle.dsm_words.specs.Pages.{group_of, bit_of, pages_in, has_page}
use Rattle.dsm_words.specs.Script.{Act, Get, Put, Swap, Change, Add, Or}
use Rattle.dsm_clock.specs.declared.turns.TurnId.{TurnId}
use Rattle.dsm_clock.specs.declared.turns.TurnId.TheVariants.{Page, Notices}
use Rattle.dsm_directory.specs.declared.row.Row.{Row}
use Rattle.dsm_directory.specs.Directory.{no_row, row_with, is_busy}
use Rattle.dsm_protocol.specs.Own.{Who, Unready, node_of}
use Rattle.dsm_protocol.specs.Steps.{wanted, allows, page_of, address_item}
use Rattle.dsm_protocol.specs.Jobs.{Job, Note, Give, Go, Move, Append, Map_own, Soil, Clean, Join, Count, Happen, Passed, Acquired, Sent, Told as Told_all, Began, Fetched}
use Rattle.dsm_protocol.specs.Stages.{Cause, Fault, Closing, Seeker, For_fault, For_release, Part, Whole, First, Got, Differs, Half, Stage, Mapped, Asked, Seeking, Missing, Clearing, Registering, Sharing, Wanting, Parting, Visiting, Looking, Breaking, Marking, Saving, Ending, Broken, Broadcast, Parted, Back, Testing, Claiming, Claimed, Withdrawing, Entering, Filling, Filled, Entered, Ready, Compared, Fetching, Opened, Copying, Copied, Current, Making, Setting, Soiling, Giving, Released, Checking, Drawing, Timed, Flushing, Stamping, Stamped, Posting, Posted, Telling, Lowering, Dropping, Untwining, Unlisting, Done, Acquiring, Judging, Judged, Unmapping, Emptying, Emptied, Leaving, Over, Round, Idle, Waiting, Signalling, Admitted, Arrived, Dismissed, Quitting, Passing, Finished, Closed, Stopping, Access, Loaded, Stored, Collecting, Releasing, Cleaning, Draining, Hearing, Noticing, Flagging, Drained, Taking, Told, Closes, Holder, Work, Off, On, Gone, found, held_alone, departed, lowered}

-- the first word of a fetch is a moment of its own
abbrev pub loaded : ℕ → ℕ → Part
loaded i x = if i == 0 then First x else Got x

-- a count, or an entry of what is printed; in protocol work no entry, and no look
abbrev pub IsPlain : Option Job → Note → Type 0
IsPlain rest (Give d v) = ⊥
IsPlain rest (Go to) = ⊥
IsPlain rest Move = ⊥
IsPlain rest (Append (Load w v)) = ⊥
IsPlain rest (Append (Store w v)) = ⊥
IsPlain rest (Append (Signal of j)) = ⊥
IsPlain rest (Append (Pass of c)) = ⊥
IsPlain rest (Append e) = rest ≡ None
IsPlain rest (Map_own g k) = ⊥
IsPlain rest (Soil g) = ⊥
IsPlain rest (Clean g) = ⊥
IsPlain rest (Join set) = ⊥
IsPlain rest (Happen d) = ⊥
IsPlain rest (Count Unready) = rest ≡ None
IsPlain rest _ = Unit {0}

-- it is the closing barrier
abbrev pub is_close : Obj → Bool
is_close CloseOf = true
is_close of = false

-- the operations of processor u, whose mappings and dirty pages these are
module _ (u : Who) (maps : List ℕ) (dirty : List Bool) where
  abbrev pub map_at : ℕ → ℕ
  map_at g = slice_index maps g

  -- its mapping of the page of word a allows the access
  abbrev pub Allowed : Bool → ℕ → Type 0
  Allowed write a = page_of u a < length maps → allows write (map_at (page_of u a)) ≡ true

  -- An operation with its answer leads from where it stands to where it stands next.
  pub data Step : Work → Act → ℕ → Work → Type 0 where
    -- an access
    loads : {faulted : Bool} {a x : ℕ} → Allowed false a → Step (Off (Access faulted false a)) (Get (address_item u a)) x (Off (Loaded a x))
    stores : {faulted : Bool} {a v x : ℕ} → Allowed true a → Step (Off (Access faulted true a)) (Put (address_item u a) v) x (Off (Stored a v))
    -- a fault
    sees_dir : {r : Round} {g x : ℕ} {write : Bool} → Step (On r g (Asked write)) (Get (Dir (node_of u) g)) x (On r g (if x == 2 then Setting write true else Seeking (For_fault write x)))
    seeks : {r : Round} {g x : ℕ} {a : Seeker} → Step (On r g (Seeking a)) (Get (Home g)) x (On r g (if x == 0 then Missing a else found u a ((x - 1) % u.lay.nodes)))
    settles : {r : Round} {g x : ℕ} {a : Seeker} → Step (On r g (Missing a)) (Change (Home g) 0 (node_of u + 1)) x (On r g (found u a (if x == 0 then node_of u else (x - 1) % u.lay.nodes)))
    clears : {r : Round} {g h x : ℕ} {write : Bool} → Step (On r g (Clearing write h)) (Put (Update (node_of u) g) 0) x (On r g (Registering write h))
    registers : {r : Round} {g h x : ℕ} {write : Bool} → Step (On r g (Registering write h)) (Put (Dir (node_of u) g) 1) x (On r g (Sharing write h 0 no_row))
    shares : {r : Round} {g h j x : ℕ} {write : Bool} {row : Row} → Step (On r g (Sharing write h j row)) (Get (Dir j g)) x (On r g (Sharing write h (j + 1) (row_with (node_of u) j x row)))
    wants : {r : Round} {g h busy x : ℕ} {write : Bool} → (map_at g == 0) ≡ true → Step (On r g (Wanting write h busy)) (Put (Map u.p g) 3) x (On r g (Mapped 3 (Parting write h busy)))
    parts : {r : Round} {g h busy x : ℕ} {write : Bool} → Step (On r g (Parting write h busy)) (Put (Turn (node_of u) g) 0) x (On r g (Visiting write h busy 0))
    -- a visit
    looks : {r : Round} {g j x : ℕ} {c : Cause} → Step (On r g (Looking c j)) (Get (Dir j g)) x (On r g (if x == 2 then held_alone u c j else Parted c j))
    reads_map : {r : Round} {g h j q x : ℕ} {c : Cause} → Step (On r g (Breaking c h j q)) (Get (Map q g)) x (On r g (if x == 2 then Marking c h j q else Breaking c h j (q + 1)))
    marks : {r : Round} {g h j q x : ℕ} {c : Cause} → j * u.lay.procs ≤ q → q < j * u.lay.procs + u.lay.procs → Step (On r g (Marking c h j q)) (Or (Nle q (group_of g)) (bit_of g)) x (On r g (Breaking c h j (q + 1)))
    saves : {r : Round} {g h j i x : ℕ} {c : Cause} → Step (On r g (Saving c h j i Whole)) (Get (Frame j g i)) x (On r g (Saving c h j i (Got x)))
    saves_twin : {r : Round} {g h j i v x : ℕ} {c : Cause} → Step (On r g (Saving c h j i (Got v))) (Put (Twin j g i) v) x (On r g (Saving c h j i (Half v)))
    saves_home : {r : Round} {g h j i v x : ℕ} {c : Cause} → Step (On r g (Saving c h j i (Half v))) (Put (Frame h g i) v) x (On r g (Saving c h j (i + 1) Whole))
    twins_broken : {r : Round} {g h j x : ℕ} {c : Cause} → (j == h) ≡ false → Step (On r g (Saving c h j u.lay.words Whole)) (Put (Twined j g) 1) x (On r g (Ending c j))
    breaks : {r : Round} {g j x : ℕ} {c : Cause} → Step (On r g (Ending c j)) (Put (Dir j g) 1) x (On r g (Broken c j))
    departs : {r : Round} {g j x : ℕ} {c : Cause} → Step (On r g (Parted c j)) (Put (Turn j g) 0) x (departed r g c j)
    sees_again : {r : Round} {g h x : ℕ} {write : Bool} → Step (On r g (Back write h)) (Get (Dir (node_of u) g)) x (On r g (if x == 2 then Setting write true else Ready write h))
    -- a claim
    tests : {r : Round} {g h x : ℕ} → Step (On r g (Testing h)) (Get (Twined (node_of u) g)) x (On r g (if x == 1 then Ready true h else Claiming h))
    claims : {r : Round} {g h x : ℕ} → Step (On r g (Claiming h)) (Put (Dir (node_of u) g) 3) x (On r g (Claimed h 0 no_row))
    looks_again : {r : Round} {g h j x : ℕ} {row : Row} → Step (On r g (Claimed h j row)) (Get (Dir j g)) x (On r g (Claimed h (j + 1) (row_with (node_of u) j x row)))
    withdraws : {r : Round} {g h x : ℕ} → Step (On r g (Withdrawing h)) (Put (Dir (node_of u) g) 1) x (On r g (Ready true h))
    draws_enter : {r : Round} {g h x : ℕ} → Step (On r g (Entering h)) (Add (Clock (node_of u)) 1) x (On r g (Filling h x 0 Whole))
    fills : {r : Round} {g h t i x : ℕ} → Step (On r g (Filling h t i Whole)) (Get (Frame h g i)) x (On r g (Filling h t i (loaded i x)))
    fills_own : {r : Round} {g h t i v x : ℕ} → Step (On r g (Filling h t i (Got v))) (Put (Frame (node_of u) g i) v) x (On r g (Filling h t (i + 1) Whole))
    stamps_enter : {r : Round} {g t x : ℕ} → Step (On r g (Filled t)) (Put (Update (node_of u) g) t) x (On r g Entered)
    enters : {r : Round} {g x : ℕ} → Step (On r g Entered) (Put (Dir (node_of u) g) 2) x (On r g (Setting true true))
    -- the copy is brought up to date
    compares : {r : Round} {g h x : ℕ} {write : Bool} → (node_of u == h) ≡ false → Step (On r g (Ready write h)) (Get (Update (node_of u) g)) x (On r g (Compared write h x))
    judges : {r : Round} {g h y x : ℕ} {write : Bool} → Step (On r g (Compared write h y)) (Get (Notice (node_of u) g)) x (On r g (if y == 0 || nat_lt y x then Fetching write h else Current write h))
    draws : {r : Round} {g h x : ℕ} {write : Bool} → Step (On r g (Fetching write h)) (Add (Clock (node_of u)) 1) x (On r g (Opened write h x))
    sees_twin : {r : Round} {g h t x : ℕ} {write : Bool} → Step (On r g (Opened write h t)) (Get (Twined (node_of u) g)) x (On r g (Copying write h t (x == 1) 0 Whole))
    copies : {r : Round} {g h t i x : ℕ} {write twin : Bool} → Step (On r g (Copying write h t twin i Whole)) (Get (Frame h g i)) x (On r g (Copying write h t twin i (loaded i x)))
    copies_over : {r : Round} {g h t i v x : ℕ} {write : Bool} → Step (On r g (Copying write h t false i (Got v))) (Put (Frame (node_of u) g i) v) x (On r g (Copying write h t false (i + 1) Whole))
    merges : {r : Round} {g h t i v x : ℕ} {write : Bool} → Step (On r g (Copying write h t true i (Got v))) (Get (Twin (node_of u) g i)) x (On r g (if v == x then Copying write h t true (i + 1) Whole else Copying write h t true i (Differs v)))
    merges_own : {r : Round} {g h t i v x : ℕ} {write : Bool} → Step (On r g (Copying write h t true i (Differs v))) (Put (Frame (node_of u) g i) v) x (On r g (Copying write h t true i (Half v)))
    merges_twin : {r : Round} {g h t i v x : ℕ} {write : Bool} → Step (On r g (Copying write h t true i (Half v))) (Put (Twin (node_of u) g i) v) x (On r g (Copying write h t true (i + 1) Whole))
    stamps : {r : Round} {g h t x : ℕ} {write : Bool} → Step (On r g (Copied write h t)) (Put (Update (node_of u) g) t) x (On r g (Current write h))
    -- a twin is made, and the mapping stored
    has_twin : {r : Round} {g h x : ℕ} → Step (On r g (Current true h)) (Get (Twined (node_of u) g)) x (On r g (if x == 1 then Setting true false else Making 0 Whole))
    makes : {r : Round} {g i x : ℕ} → Step (On r g (Making i Whole)) (Get (Frame (node_of u) g i)) x (On r g (Making i (Got x)))
    makes_twin : {r : Round} {g i v x : ℕ} → Step (On r g (Making i (Got v))) (Put (Twin (node_of u) g i) v) x (On r g (Making (i + 1) Whole))
    made : {r : Round} {g x : ℕ} → Step (On r g (Making u.lay.words Whole)) (Put (Twined (node_of u) g) 1) x (On r g (Setting true false))
    sets : {r : Round} {g x : ℕ} {write alone : Bool} → Step (On r g (Setting write alone)) (Put (Map u.p g) (wanted write)) x (On r g (Mapped (wanted write) (if write && not alone then Soiling else Giving)))
    gives : {g a x : ℕ} {write : Bool} → Step (On (Access true write a) g Giving) (Put (Turn (node_of u) g) 0) x (Off (Access true write a))
    -- a page of a release
    sees_release : {r : Round} {g x : ℕ} → Step (On r g Released) (Get (Dir (node_of u) g)) x (On r g (if x == 2 then Done else Seeking For_release))
    lasts : {t0 k g h x : ℕ} → Step (On (Releasing t0 k) g (Checking h)) (Get (Flush (node_of u) g)) x (On (Releasing t0 k) g (if nat_lt t0 x then Lowering false else Drawing h))
    draws_send : {r : Round} {g h x : ℕ} → Step (On r g (Drawing h)) (Add (Clock (node_of u)) 1) x (On r g (if node_of u == h then Stamping h x false else Timed h x))
    tests_flush : {r : Round} {g h t x : ℕ} → (node_of u == h) ≡ false → Step (On r g (Timed h t)) (Get (Twined (node_of u) g)) x (On r g (if x == 1 then Flushing h t 0 Whole else Stamping h t false))
    flushes : {r : Round} {g h t i x : ℕ} → Step (On r g (Flushing h t i Whole)) (Get (Frame (node_of u) g i)) x (On r g (Flushing h t i (Got x)))
    flushes_same : {r : Round} {g h t i v x : ℕ} → Step (On r g (Flushing h t i (Got v))) (Get (Twin (node_of u) g i)) x (On r g (if v == x then Flushing h t (i + 1) Whole else Flushing h t i (Differs v)))
    flushes_twin : {r : Round} {g h t i v x : ℕ} → Step (On r g (Flushing h t i (Differs v))) (Put (Twin (node_of u) g i) v) x (On r g (Flushing h t i (Half v)))
    flushes_home : {r : Round} {g h t i v x : ℕ} → Step (On r g (Flushing h t i (Half v))) (Put (Frame h g i) v) x (On r g (Flushing h t (i + 1) Whole))
    stamps_flush : {r : Round} {g h t x : ℕ} {flushed : Bool} → Step (On r g (Stamping h t flushed)) (Put (Flush (node_of u) g) t) x (On r g (Stamped h flushed))
    reads_dir : {r : Round} {g h j x : ℕ} {flushed : Bool} → Step (On r g (Posting h flushed j)) (Get (Dir j g)) x (On r g (if x == 0 || j == node_of u || j == h then Posting h flushed (j + 1) else Telling h flushed j))
    posts : {r : Round} {g h j x : ℕ} {flushed : Bool} (v : ℕ) → (v == 0 || j == node_of u || j == h) ≡ false → Step (On r g (Telling h flushed j)) (Or (Global j (node_of u) (group_of g)) (bit_of g)) x (On r g (Posting h flushed (j + 1)))
    lowers : {r : Round} {g x : ℕ} {flushed : Bool} → (map_at g == 2) ≡ true → Step (On r g (Lowering flushed)) (Put (Map u.p g) 1) x (On r g (Mapped 1 (lowered u flushed)))
    drops : {r : Round} {g q x : ℕ} {unwritten free : Bool} → node_of u * u.lay.procs ≤ q → q < node_of u * u.lay.procs + u.lay.procs → Step (On r g (Dropping q unwritten free)) (Get (Map q g)) x (On r g (Dropping (q + 1) (unwritten && not (x == 2)) (free && x == 0)))
    untwins : {r : Round} {g x : ℕ} {free : Bool} → Step (On r g (Untwining free)) (Put (Twined (node_of u) g) 0) x (On r g (if free then Unlisting else Done))
    unlists : {r : Round} {g x : ℕ} → Step (On r g Unlisting) (Put (Dir (node_of u) g) 0) x (On r g Done)
    finishes : {t0 g x : ℕ} → Step (On (Releasing t0 g) g Done) (Put (Turn (node_of u) g) 0) x (Off (Cleaning t0 g))
    -- a page of an acquire
    sees_acquire : {r : Round} {g x : ℕ} → Step (On r g Acquiring) (Get (Dir (node_of u) g)) x (On r g (if x == 2 then Over else Judging))
    compares_own : {r : Round} {g x : ℕ} → Step (On r g Judging) (Get (Update (node_of u) g)) x (On r g (Judged x))
    judges_own : {r : Round} {g y x : ℕ} → Step (On r g (Judged y)) (Get (Notice (node_of u) g)) x (On r g (if y == 0 || nat_lt y x then Unmapping else Over))
    unmaps : {r : Round} {g x : ℕ} → Step (On r g Unmapping) (Put (Map u.p g) 0) x (On r g (Mapped 0 (Emptying (node_of u * u.lay.procs) true)))
    empties : {r : Round} {g q x : ℕ} {free : Bool} → node_of u * u.lay.procs ≤ q → q < node_of u * u.lay.procs + u.lay.procs → Step (On r g (Emptying q free)) (Get (Map q g)) x (On r g (Emptying (q + 1) (free && x == 0)))
    sees_bare : {r : Round} {g x : ℕ} → Step (On r g Emptied) (Get (Twined (node_of u) g)) x (On r g (if x == 0 then Leaving else Over))
    leaves : {r : Round} {g x : ℕ} → Step (On r g Leaving) (Put (Dir (node_of u) g) 0) x (On r g Over)
    gives_over : {g x : ℕ} {set : List ℕ} → Step (On (Told set g) g Over) (Put (Turn (node_of u) g) 0) x (Off (Told set (g + 1)))
    -- on no page: a release begins
    draws_release : {x : ℕ} → Step (Off Idle) (Add (Clock (node_of u)) 1) x (Off (Collecting x 0 (replicate 4 0)))
    collects : {t0 k x : ℕ} {set : List ℕ} → Step (Off (Collecting t0 k set)) (Swap (Nle u.p k) 0) x (Off (Collecting t0 (k + 1) (slice_set set k (x % 2 ^ pages_in u.lay k))))
    -- notices are drained
    drains : {j k x : ℕ} → Step (Off (Draining j k)) (Swap (Global (node_of u) j k) 0) x (Off (Hearing j k x 0))
    draws_notice : {j k bits b x : ℕ} → (bit_at bits b == 1) ≡ true → j < u.lay.nodes → 64 * k + b < u.lay.pages → Step (Off (Hearing j k bits b)) (Add (Clock (node_of u)) 1) x (Off (Noticing j k bits b x))
    notices : {j k bits b t x : ℕ} → Step (Off (Noticing j k bits b t)) (Put (Notice (node_of u) (64 * k + b)) t) x (Off (Flagging j k bits b (node_of u * u.lay.procs)))
    flags : {j k bits b q x : ℕ} → (bit_at bits b == 1) ≡ true → node_of u * u.lay.procs ≤ q → q < node_of u * u.lay.procs + u.lay.procs → Step (Off (Flagging j k bits b q)) (Or (OwnWord q k) (2 ^ b)) x (Off (Flagging j k bits b (q + 1)))
    gives_notices : {x : ℕ} → Step (Off Drained) (Put (NoticeTurn (node_of u)) 0) x (Off (Taking 0 (replicate 4 0)))
    takes : {k x : ℕ} {set : List ℕ} → Step (Off (Taking k set)) (Swap (OwnWord u.p k) 0) x (Off (Taking (k + 1) (slice_set set k (x % 2 ^ pages_in u.lay k))))
    -- the closing work
    seeks_holder : {g j x : ℕ} → Step (Off (Closes g j)) (Get (Dir j g)) x (Off (if x == 2 then Holder g j else Closes g (j + 1)))
    -- it tells all others to stop, and ends
    stops : {x : ℕ} → Step (Off Stopping) (Change Stop 0 (u.p + 1)) x Gone

  -- A turn is won, and leads from where it stands to where it stands next.
  pub data Wins : Work → TurnId → Work → Type 0 where
    faults : {a : ℕ} {write : Bool} → allows write (map_at (page_of u a)) ≡ false → Wins (Off (Access false write a)) (Page (node_of u) (page_of u a)) (On (Access true write a) (page_of u a) (Asked write))
    visits : {r : Round} {g h busy i : ℕ} {write : Bool} (j : ℕ) → i ≤ j → is_busy busy j ≡ true → ((k : ℕ) → i ≤ k → k < j → is_busy busy k ≡ false) → Wins (On r g (Visiting write h busy i)) (Page j g) (On r g (Looking (Fault write h busy) j))
    returns : {r : Round} {g h busy i : ℕ} {write : Bool} → ((k : ℕ) → i ≤ k → k < u.lay.nodes → is_busy busy k ≡ false) → Wins (On r g (Visiting write h busy i)) (Page (node_of u) g) (On r g (Back write h))
    releases : {t0 g : ℕ} → slice_index_or dirty g false ≡ true → Wins (Off (Releasing t0 g)) (Page (node_of u) g) (On (Releasing t0 g) g Released)
    hears : Wins (Off Passing) (Notices (node_of u)) (Off (Draining 0 0))
    acquires : {g : ℕ} {set : List ℕ} → (has_page set g && not (map_at g == 0)) ≡ true → Wins (Off (Told set g)) (Page (node_of u) g) (On (Told set g) g Acquiring)
    closes : {g j : ℕ} → Wins (Off (Holder g j)) (Page j g) (On (Holder g j) g (Looking Closing j))

  -- It is decided with no operation.
  pub data Slip : Work → Work → Type 0 where
    -- an instruction
    accesses : {write : Bool} {a : ℕ} → Slip (Off Idle) (Off (Access false write a))
    waits : Slip (Off Idle) (Off Waiting)
    tells : Slip (Off Waiting) (Off Stopping)
    finished : Slip (Off Waiting) (Off Finished)
    ends : Slip (Off Finished) Gone
    -- at the closing barrier another one has stopped, and this is its end; its looks are used up
    forsaken : Slip (Off Arrived) Gone
    despairs : Slip (Off Arrived) (Off Stopping)
    -- on a page
    shared : {r : Round} {g h : ℕ} {write : Bool} {row : Row} → Slip (On r g (Sharing write h u.lay.nodes row)) (On r g (if row.busy == 0 then (if write && not row.others then Testing h else Ready write h) else Wanting write h row.busy))
    unwanted : {r : Round} {g h busy : ℕ} {write : Bool} → (map_at g == 0) ≡ false → Slip (On r g (Wanting write h busy)) (On r g (Parting write h busy))
    marked : {r : Round} {g h j : ℕ} {c : Cause} → Slip (On r g (Breaking c h j (j * u.lay.procs + u.lay.procs))) (On r g (if j == h then Ending c j else Saving c h j 0 Whole))
    claimed : {r : Round} {g h : ℕ} {row : Row} → Slip (On r g (Claimed h u.lay.nodes row)) (On r g (if row.others then Withdrawing h else (if node_of u == h then Entered else Entering h)))
    at_home : {r : Round} {g h : ℕ} {write : Bool} → (node_of u == h) ≡ true → Slip (On r g (Ready write h)) (On r g (Setting write false))
    read_only : {r : Round} {g h : ℕ} → Slip (On r g (Current false h)) (On r g (Setting false false))
    flushed_all : {r : Round} {g h t : ℕ} → Slip (On r g (Flushing h t u.lay.words Whole)) (On r g (Stamping h t true))
    unsent : {r : Round} {g h : ℕ} {flushed : Bool} → (flushed || node_of u == h) ≡ false → Slip (On r g (Stamped h flushed)) (On r g (Posting h flushed 0))
    posted : {r : Round} {g h : ℕ} {flushed : Bool} → Slip (On r g (Posting h flushed u.lay.nodes)) (On r g (Posted h flushed))
    untold : {r : Round} {g h : ℕ} {flushed : Bool} → (flushed || node_of u == h) ≡ false → Slip (On r g (Posted h flushed)) (On r g (Lowering flushed))
    unlowered : {r : Round} {g : ℕ} {flushed : Bool} → (map_at g == 2) ≡ false → Slip (On r g (Lowering flushed)) (On r g (lowered u flushed))
    dropped : {r : Round} {g : ℕ} {unwritten free : Bool} → Slip (On r g (Dropping (node_of u * u.lay.procs + u.lay.procs) unwritten free)) (On r g (if unwritten then Untwining free else Done))
    emptied : {r : Round} {g : ℕ} {free : Bool} → Slip (On r g (Emptying (node_of u * u.lay.procs + u.lay.procs) free)) (On r g (if free then Emptied else Over))
    -- on no page
    clean : {t0 g : ℕ} → slice_index_or dirty g false ≡ false → Slip (Off (Releasing t0 g)) (Off (Releasing t0 (g + 1)))
    released : {t0 : ℕ} → Slip (Off (Releasing t0 u.lay.pages)) (Off (Signalling t0))
    unheard : {j k bits b : ℕ} → (bit_at bits b == 1) ≡ false → Slip (Off (Hearing j k bits b)) (Off (Hearing j k bits (b + 1)))
    heard : {j k bits : ℕ} → Slip (Off (Hearing j k bits (pages_in u.lay k))) (Off (Draining j (k + 1)))
    flagged : {j k bits b : ℕ} → Slip (Off (Flagging j k bits b (node_of u * u.lay.procs + u.lay.procs))) (Off (Hearing j k bits (b + 1)))
    next_node : {j : ℕ} → Slip (Off (Draining j (groups u.lay))) (Off (Draining (j + 1) 0))
    drained : Slip (Off (Draining u.lay.nodes 0)) (Off Drained)
    taken : {set : List ℕ} → Slip (Off (Taking (groups u.lay) set)) (Off (Told set 0))
    passed_over : {g : ℕ} {set : List ℕ} → (has_page set g && not (map_at g == 0)) ≡ false → Slip (Off (Told set g)) (Off (Told set (g + 1)))
    closing : (u.p == 0) ≡ true → Slip (Off Quitting) (Off (Closes 0 0))
    unclosing : (u.p == 0) ≡ false → Slip (Off Quitting) (Off Closed)
    unheld : {g : ℕ} → Slip (Off (Closes g u.lay.nodes)) (Off (Closes (g + 1) 0))
    closed : Slip (Off (Closes u.lay.pages 0)) (Off Closed)

-- It notes something, in the event of the operation before it. Where there is a rest, it does protocol work, and notes nothing of the
-- reader, of entries and of looks.
pub data Noted (u : Who) (rest : Option Job) : Work → Note → Work → Type 0 where
  -- what it holds
  maps : {r : Round} {g k : ℕ} {s : Stage} → Noted u rest (On r g (Mapped k s)) (Map_own g k) (On r g s)
  soils : {r : Round} {g : ℕ} → Noted u rest (On r g Soiling) (Soil g) (On r g Giving)
  cleans : {t0 g : ℕ} → Noted u rest (Off (Cleaning t0 g)) (Clean g) (Off (Releasing t0 (g + 1)))
  joins : {t0 : ℕ} {set : List ℕ} → Noted u rest (Off (Collecting t0 (groups u.lay) set)) (Join set) (Off (Releasing t0 0))
  -- its loads and stores
  appends_load : {w x : ℕ} → rest ≡ None → Noted u rest (Off (Loaded w x)) (Append (Load w x)) (Off Finished)
  appends_store : {w v : ℕ} → rest ≡ None → Noted u rest (Off (Stored w v)) (Append (Store w v)) (Off Finished)
  -- it signals behind its release, or passes; the closing barrier has places of its own
  signals : {t0 : ℕ} {of : Obj} {j : ℕ} → rest ≡ None → is_close of ≡ false → Noted u rest (Off (Signalling t0)) (Append (Signal of j)) (Off Waiting)
  admits : {of : Obj} {c : ℕ} → rest ≡ None → is_close of ≡ false → Noted u rest (Off Waiting) (Append (Pass of c)) (Off Admitted)
  arrives : {t0 j : ℕ} → rest ≡ None → Noted u rest (Off (Signalling t0)) (Append (Signal CloseOf j)) (Off Arrived)
  dismisses : {c : ℕ} → rest ≡ None → Noted u rest (Off Arrived) (Append (Pass CloseOf c)) (Off Dismissed)
  -- the instruction is done
  gives : {d v : ℕ} → rest ≡ None → Noted u rest (Off Finished) (Give d v) (Off Idle)
  goes : {to : ℕ} → rest ≡ None → Noted u rest (Off Finished) (Go to) (Off Idle)
  moves : rest ≡ None → Noted u rest (Off Finished) Move (Off Idle)
  -- the moments
  passes : rest ≡ None → Noted u rest (Off Admitted) (Happen (Passed u.p)) (Off Passing)
  quits : rest ≡ None → Noted u rest (Off Dismissed) (Happen (Passed u.p)) (Off Quitting)
  acquired : {set : List ℕ} → Noted u rest (Off (Told set u.lay.pages)) (Happen (Acquired u.p)) (Off Finished)
  begins_copy : {r : Round} {g h t v : ℕ} {write twin : Bool} → Noted u rest (On r g (Copying write h t twin 0 (First v))) (Happen (Began (node_of u) g)) (On r g (Copying write h t twin 0 (Got v)))
  begins_fill : {r : Round} {g h t v : ℕ} → Noted u rest (On r g (Filling h t 0 (First v))) (Happen (Began (node_of u) g)) (On r g (Filling h t 0 (Got v)))
  fetched : {r : Round} {g h t : ℕ} {write twin : Bool} → Noted u rest (On r g (Copying write h t twin u.lay.words Whole)) (Happen (Fetched (node_of u) g)) (On r g (Copied write h t))
  filled : {r : Round} {g h t : ℕ} → Noted u rest (On r g (Filling h t u.lay.words Whole)) (Happen (Fetched (node_of u) g)) (On r g (Filled t))
  broken : {r : Round} {g j : ℕ} {c : Cause} → Noted u rest (On r g (Broken c j)) (Happen (Sent j g)) (On r g (Broadcast c j))
  broadcast : {r : Round} {g j : ℕ} {c : Cause} → Noted u rest (On r g (Broadcast c j)) (Happen (Told_all j g)) (On r g (Parted c j))
  sent : {r : Round} {g h : ℕ} {flushed : Bool} → (flushed || node_of u == h) ≡ true → Noted u rest (On r g (Stamped h flushed)) (Happen (Sent (node_of u) g)) (On r g (Posting h flushed 0))
  told : {r : Round} {g h : ℕ} {flushed : Bool} → (flushed || node_of u == h) ≡ true → Noted u rest (On r g (Posted h flushed)) (Happen (Told_all (node_of u) g)) (On r g (Lowering flushed))
  -- what no stage is about
  counts : {w : Work} {n : Note} → IsPlain rest n → Noted u rest w n w
