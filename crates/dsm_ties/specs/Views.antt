-- What a processor's place in the table is to one page's directory.
use Rattle.std.specs.Prelude.{◌≡◌, ℕ, ◌+◌, ◌*◌, ◌==◌, not, Bool, true, false, if◌then◌else◌, List, Option, None, Some}
use Rattle.dsm_directory.specs.Directory.{is_busy}
use Rattle.dsm_protocol.specs.Own.{Who, node_of}
use Rattle.dsm_protocol.specs.Stages.{Cause, Fault, Closing, Seeker, For_fault, For_release, For_closing, Stage, Mapped, Asked, Seeking, Missing, Clearing, Registering, Sharing, Wanting, Parting, Visiting, Looking, Breaking, Marking, Saving, Ending, Broken, Broadcast, Parted, Back, Testing, Claiming, Claimed, Withdrawing, Entering, Filling, Filled, Entered, Ready, Compared, Fetching, Opened, Copying, Copied, Current, Making, Setting, Soiling, Giving, Released, Checking, Drawing, Timed, Flushing, Stamping, Stamped, Posting, Posted, Telling, Lowering, Dropping, Untwining, Unlisting, Done, Acquiring, Judging, Judged, Unmapping, Emptying, Emptied, Leaving, Over, Round, Access, Collecting, Releasing, Cleaning, Hearing, Noticing, Flagging, Taking, Told, Holder, Work, Off, On, Gone}
use Rattle.dsm_owners.specs.Stages as O

-- why a node is visited
abbrev pub why : Cause → O.Why
why (Fault write h busy) = O.faulting write (is_busy busy)
why Closing = O.closing

-- who asks for the home stands here to the directory; and where the page has none yet
abbrev pub seek_view : Seeker → O.Stage
seek_view (For_fault write d) = O.Known write d
seek_view For_release = O.Checked
seek_view (For_closing j) = O.Breaking O.closing j

abbrev pub miss_view : Seeker → O.Stage
miss_view (For_fault write d) = O.Finding write
miss_view For_release = O.Checked
miss_view (For_closing j) = O.Breaking O.closing j

-- the directory's stage of a processor that is at this one of the page
abbrev pub stage_view : Who → Stage → O.Stage
stage_view u (Mapped k s) = stage_view u s
stage_view u (Asked write) = O.Asked write
stage_view u (Seeking a) = seek_view a
stage_view u (Missing a) = miss_view a
stage_view u (Clearing write h) = O.Clearing write
stage_view u (Registering write h) = O.Registering write
stage_view u (Sharing write h j row) = O.Sharing write j row.others (is_busy row.busy)
stage_view u (Wanting write h busy) = O.Wanting write (is_busy busy)
stage_view u (Parting write h busy) = O.Parting write (is_busy busy)
stage_view u (Visiting write h busy i) = O.Visiting write i (is_busy busy)
stage_view u (Looking c j) = O.Looking (why c) j
stage_view u (Breaking c h j q) = O.Breaking (why c) j
stage_view u (Marking c h j q) = O.Breaking (why c) j
stage_view u (Saving c h j i part) = O.Breaking (why c) j
stage_view u (Ending c j) = O.Ending (why c) j
stage_view u (Broken c j) = O.Parted (why c) j
stage_view u (Broadcast c j) = O.Parted (why c) j
stage_view u (Parted c j) = O.Parted (why c) j
stage_view u (Back write h) = O.Back write
stage_view u (Testing h) = O.Shared true false
stage_view u (Claiming h) = O.Claiming
stage_view u (Claimed h j row) = if row.others then O.Failing else O.Claimed j
stage_view u (Withdrawing h) = O.Failing
stage_view u (Entering h) = O.Entering
stage_view u (Filling h t i part) = O.Copying
stage_view u (Filled t) = O.Copying
stage_view u Entered = O.Entered
stage_view u (Ready write h) = O.Ready write
stage_view u (Compared write h x) = O.Compared write (not (x == 0))
stage_view u (Fetching write h) = O.Fetching write
stage_view u (Opened write h t) = O.Opened write
stage_view u (Copying write h t twin i part) = O.Opened write
stage_view u (Copied write h t) = O.Opened write
stage_view u (Current write h) = O.Fetched write
stage_view u (Making i part) = O.Making
stage_view u (Setting write alone) = O.Setting write alone
stage_view u Soiling = O.Giving
stage_view u Giving = O.Giving
stage_view u Released = O.Releasing
stage_view u (Checking h) = O.Checked
stage_view u (Drawing h) = O.Checked
stage_view u (Timed h t) = O.Checked
stage_view u (Flushing h t i part) = O.Flushing
stage_view u (Stamping h t flushed) = if flushed then O.Flushing else (if node_of u == h then O.Checked else O.Posting false)
stage_view u (Stamped h flushed) = O.Posting flushed
stage_view u (Posting h flushed j) = O.Posting flushed
stage_view u (Telling h flushed j) = O.Posting flushed
stage_view u (Posted h flushed) = O.Lowering flushed
stage_view u (Lowering flushed) = O.Lowering flushed
stage_view u (Dropping q unwritten free) = if unwritten then O.Dropping q (not free) else O.Clean
stage_view u (Untwining free) = O.Dropping (node_of u * u.lay.procs + u.lay.procs) (not free)
stage_view u Unlisting = O.Unlisting
stage_view u Done = O.Clean
stage_view u Acquiring = O.Acquiring
stage_view u Judging = O.Judging
stage_view u (Judged x) = O.Judging
stage_view u Unmapping = O.Judging
stage_view u (Emptying q free) = if free then O.Emptying q else O.Over
stage_view u Emptied = O.Emptying (node_of u * u.lay.procs + u.lay.procs)
stage_view u Leaving = O.Emptied
stage_view u Over = O.Over

-- for page g: work on another page is rest
abbrev pub view : Who → ℕ → Work → O.Stage
view u g (Off r) = O.Rest
view u g (On r h s) = if h == g then stage_view u s else O.Rest
view u g Gone = O.Ended

-- What a processor has in hand at a place: the home that it has found,
abbrev pub home_in : Stage → Option ℕ
home_in (Mapped k s) = home_in s
home_in (Clearing write h) = Some h
home_in (Registering write h) = Some h
home_in (Sharing write h j row) = Some h
home_in (Wanting write h busy) = Some h
home_in (Parting write h busy) = Some h
home_in (Visiting write h busy i) = Some h
home_in (Looking (Fault write h busy) j) = Some h
home_in (Breaking c h j q) = Some h
home_in (Marking c h j q) = Some h
home_in (Saving c h j i part) = Some h
home_in (Ending (Fault write h busy) j) = Some h
home_in (Broken (Fault write h busy) j) = Some h
home_in (Broadcast (Fault write h busy) j) = Some h
home_in (Parted (Fault write h busy) j) = Some h
home_in (Back write h) = Some h
home_in (Testing h) = Some h
home_in (Claiming h) = Some h
home_in (Claimed h j row) = Some h
home_in (Withdrawing h) = Some h
home_in (Entering h) = Some h
home_in (Filling h t i part) = Some h
home_in (Ready write h) = Some h
home_in (Compared write h x) = Some h
home_in (Fetching write h) = Some h
home_in (Opened write h t) = Some h
home_in (Copying write h t twin i part) = Some h
home_in (Copied write h t) = Some h
home_in (Current write h) = Some h
home_in (Checking h) = Some h
home_in (Drawing h) = Some h
home_in (Timed h t) = Some h
home_in (Flushing h t i part) = Some h
home_in (Stamping h t flushed) = Some h
home_in (Stamped h flushed) = Some h
home_in (Posting h flushed j) = Some h
home_in (Telling h flushed j) = Some h
home_in (Posted h flushed) = Some h
home_in s = None

-- the time that a copy will be stamped with,
abbrev pub time_in : Stage → Option ℕ
time_in (Mapped k s) = time_in s
time_in (Filling h t i part) = Some t
time_in (Filled t) = Some t
time_in (Opened write h t) = Some t
time_in (Copying write h t twin i part) = Some t
time_in (Copied write h t) = Some t
time_in s = None

-- the pages of which it was told,
abbrev pub told_in : Work → Option (List ℕ)
told_in (Off (Taking k set)) = Some set
told_in (Off (Told set g)) = Some set
told_in (On (Told set g) h s) = Some set
told_in w = None

-- the pages that joins its dirty set,
abbrev pub joins_in : Work → Option (List ℕ)
joins_in (Off (Collecting t0 k set)) = Some set
joins_in w = None

-- and the notices that it drains: a group and its bits.
abbrev pub heard_in : Work → Option (ℕ × ℕ)
heard_in (Off (Hearing j k bits b)) = Some (k, bits)
heard_in (Off (Noticing j k bits b t)) = Some (k, bits)
heard_in (Off (Flagging j k bits b q)) = Some (k, bits)
heard_in w = None

-- a page that is released, and still to be noted as clean
abbrev pub is_cleaned : Work → ℕ → Bool
is_cleaned (Off (Cleaning t0 h)) g = h == g
is_cleaned w g = false

-- the home at which a node is broken in a fault is the one that the fault has found
abbrev pub IsHomeOf : Cause → ℕ → Type 0
IsHomeOf (Fault write h busy) k = k ≡ h
IsHomeOf Closing k = Unit {0}

-- the stages that are come to: the home of a page that a node uses is there
abbrev pub IsMet : Stage → Type 0
IsMet (Mapped k s) = IsMet s
IsMet (Breaking c h j q) = IsHomeOf c h
IsMet (Marking c h j q) = IsHomeOf c h
IsMet (Saving c h j i part) = IsHomeOf c h
IsMet (Missing (For_fault write d)) = d ≡ 0
IsMet (Missing For_release) = ⊥
IsMet (Missing (For_closing j)) = ⊥
IsMet s = Unit {0}

-- it is still to be noted as dirty
abbrev pub is_soiling : Stage → Bool
is_soiling (Mapped k s) = is_soiling s
is_soiling Soiling = true
is_soiling s = false

-- of the stage of page g, where it stands at one
abbrev pub AtStage : (Stage → Type 0) → ℕ → Work → Type 0
AtStage P g (On r h s) = h ≡ g → P s
AtStage P g w = Unit {0}

-- the rounds in which a page is worked on
abbrev pub IsWorked : Round → Type 0
IsWorked (Access faulted write a) = Unit {0}
IsWorked (Releasing t0 g) = Unit {0}
IsWorked (Told set g) = Unit {0}
IsWorked (Holder g j) = Unit {0}
IsWorked r = ⊥

abbrev pub AtRound : Work → Type 0
AtRound (On r g s) = IsWorked r
AtRound w = Unit {0}
