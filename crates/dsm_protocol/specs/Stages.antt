-- Where a processor stands: one stage for each place between two of its operations, with the data that is still used there.
use Rattle.std.specs.Prelude.{ℕ, ◌==◌, ◌+◌, ◌*◌, Bool, true, false, List, Option, None, Some}
use Rattle.dsm_clock.specs.declared.turns.TurnId.{TurnId}
use Rattle.dsm_clock.specs.declared.turns.TurnId.TheVariants.{Page, Notices}
use Rattle.dsm_directory.specs.declared.row.Row.{Row}
use Rattle.dsm_directory.specs.Directory.{no_row}
use Rattle.dsm_protocol.specs.Own.{Who, node_of}

-- Why a node is visited: for a fault, a write fault or not, with the page's home and the set of busy nodes; or in the closing work.
pub data Cause : Type 0 where
  Fault : Bool → ℕ → ℕ → Cause
  Closing : Cause

-- Who asks for the home: a fault, a write fault or not, with its node's word in the directory; a release; the closing work, at a node.
pub data Seeker : Type 0 where
  For_fault : Bool → ℕ → Seeker
  For_release : Seeker
  For_closing : ℕ → Seeker

-- How far a word is copied: not begun; the first word of a fetch was loaded, and is v; a word was loaded, and is v; it differs from the twin's;
-- it is stored in the first of two places.
pub data Part : Type 0 where
  Whole : Part
  First : ℕ → Part
  Got : ℕ → Part
  Differs : ℕ → Part
  Half : ℕ → Part

-- What is next on a page whose turn is held, or, in Visiting, was given back. In their order: whether a fault is a write fault; the home; a
-- time; a node; the next processor or word; what was found so far.
pub data Stage : Type 0 where
  -- the word of its mapping is stored, and it still has to know of it; then a stage
  Mapped : ℕ → Stage → Stage
  -- a fault: its node's word in the directory, the home, the registration, the sharers
  Asked : Bool → Stage
  Seeking : Seeker → Stage
  Missing : Seeker → Stage
  Clearing : Bool → ℕ → Stage
  Registering : Bool → ℕ → Stage
  Sharing : Bool → ℕ → ℕ → Row → Stage
  -- some nodes are busy: the wanted mapping, the turn given back, the visits from a node on
  Wanting : Bool → ℕ → ℕ → Stage
  Parting : Bool → ℕ → ℕ → Stage
  Visiting : Bool → ℕ → ℕ → ℕ → Stage
  -- a visit, in a fault or in the closing work: the node's word, its processors' mappings, its words, its end
  Looking : Cause → ℕ → Stage
  Breaking : Cause → ℕ → ℕ → ℕ → Stage
  Marking : Cause → ℕ → ℕ → ℕ → Stage
  Saving : Cause → ℕ → ℕ → ℕ → Part → Stage
  Ending : Cause → ℕ → Stage
  Broken : Cause → ℕ → Stage
  Broadcast : Cause → ℕ → Stage
  Parted : Cause → ℕ → Stage
  -- all visits are made
  Back : Bool → ℕ → Stage
  -- a claim of a page that no other node uses: the twin, the claim, the second look, the withdrawal or the page's words
  Testing : ℕ → Stage
  Claiming : ℕ → Stage
  Claimed : ℕ → ℕ → Row → Stage
  Withdrawing : ℕ → Stage
  Entering : ℕ → Stage
  Filling : ℕ → ℕ → ℕ → Part → Stage
  Filled : ℕ → Stage
  Entered : Stage
  -- the copy is brought up to date
  Ready : Bool → ℕ → Stage
  Compared : Bool → ℕ → ℕ → Stage
  Fetching : Bool → ℕ → Stage
  Opened : Bool → ℕ → ℕ → Stage
  Copying : Bool → ℕ → ℕ → Bool → ℕ → Part → Stage
  Copied : Bool → ℕ → ℕ → Stage
  Current : Bool → ℕ → Stage
  -- a twin is made
  Making : ℕ → Part → Stage
  -- the mapping, of a write fault or not, where the node has the page alone or not; the dirty set; the turn
  Setting : Bool → Bool → Stage
  Soiling : Stage
  Giving : Stage
  -- a page of a release: the home, the last flush, a time
  Released : Stage
  Checking : ℕ → Stage
  Drawing : ℕ → Stage
  Timed : ℕ → ℕ → Stage
  -- it is sent; from here on whether a twin was flushed
  Flushing : ℕ → ℕ → ℕ → Part → Stage
  Stamping : ℕ → ℕ → Bool → Stage
  Stamped : ℕ → Bool → Stage
  Posting : ℕ → Bool → ℕ → Stage
  Posted : ℕ → Bool → Stage
  Telling : ℕ → Bool → ℕ → Stage
  -- its mapping is lowered, and the twin dropped: no mapping to write so far, and no mapping at all
  Lowering : Bool → Stage
  Dropping : ℕ → Bool → Bool → Stage
  Untwining : Bool → Stage
  Unlisting : Stage
  Done : Stage
  -- a page of an acquire: the times of its node's copy, the mapping, the node's other mappings
  Acquiring : Stage
  Judging : Stage
  Judged : ℕ → Stage
  Unmapping : Stage
  Emptying : ℕ → Bool → Stage
  Emptied : Stage
  Leaving : Stage
  Over : Stage

-- What goes on beside the pages.
pub data Round : Type 0 where
  -- the next instruction has not begun
  Idle : Round
  -- it does no protocol work, and no release in this instruction any more
  Waiting : Round
  -- its release, which began at this time, is over, and it signals next
  Signalling : ℕ → Round
  -- it has passed an object, as its trace says, and the moment is still to be noted
  Admitted : Round
  -- it has arrived at the closing barrier, and waits for all
  Arrived : Round
  -- it has passed the closing barrier, as its trace says, and the moment is still to be noted
  Dismissed : Round
  -- it has passed the closing barrier, and the closing work or its end comes
  Quitting : Round
  -- its acquire comes; no protocol work comes in this instruction any more; nor in any other one, since it has halted
  Passing : Round
  Finished : Round
  Closed : Round
  -- it tells all others to stop
  Stopping : Round
  -- an access, behind a fault or not, a store or not, to a word; it is made, and its entry is still to come
  Access : Bool → Bool → ℕ → Round
  Loaded : ℕ → ℕ → Round
  Stored : ℕ → ℕ → Round
  -- a release from a time on: the words of the set that it takes, and the set so far; the pages from one on; a page that is done
  Collecting : ℕ → ℕ → List ℕ → Round
  Releasing : ℕ → ℕ → Round
  Cleaning : ℕ → ℕ → Round
  -- an acquire drains notices: from a node, of a group; the group's bits, from one on; of a page with a time; of a page, to a processor
  Draining : ℕ → ℕ → Round
  Hearing : ℕ → ℕ → ℕ → ℕ → Round
  Noticing : ℕ → ℕ → ℕ → ℕ → ℕ → Round
  Flagging : ℕ → ℕ → ℕ → ℕ → ℕ → Round
  Drained : Round
  -- it takes its own words, and looks at the pages of the set from one on
  Taking : ℕ → List ℕ → Round
  Told : List ℕ → ℕ → Round
  -- the closing work, of a page: its holder is looked for from a node on; it is found
  Closes : ℕ → ℕ → Round
  Holder : ℕ → ℕ → Round

-- On no page; on page g; ended.
pub data Work : Type 0 where
  Off : Round → Work
  On : Round → ℕ → Stage → Work
  Gone : Work

-- the home is found: its node registers, where it has not yet
abbrev pub registered : Bool → ℕ → Bool → Stage
registered write h true = Clearing write h
registered write h false = Sharing write h 0 no_row

abbrev pub found : Who → Seeker → ℕ → Stage
found u (For_fault write d) h = registered write h (d == 0)
found u For_release h = Checking h
found u (For_closing j) h = Breaking Closing h j (j * u.lay.procs)

-- node j, which is visited, has the page alone
abbrev pub held_alone : Who → Cause → ℕ → Stage
held_alone u (Fault write h busy) j = Breaking (Fault write h busy) h j (j * u.lay.procs)
held_alone u Closing j = Seeking (For_closing j)

-- the turn of node j's copy of page g, which was visited, is given back
abbrev pub departed : Round → ℕ → Cause → ℕ → Work
departed r g (Fault write h busy) j = On r g (Visiting write h busy (j + 1))
departed r g Closing j = Off (Closes (g + 1) 0)

-- the mapping is lowered, or needs not be: a twin that was flushed is dropped
abbrev pub lowered : Who → Bool → Stage
lowered u true = Dropping (node_of u * u.lay.procs) true true
lowered u false = Done

-- Whose turn of the page is held.
abbrev pub seeker_node : Who → Seeker → ℕ
seeker_node u (For_fault write d) = node_of u
seeker_node u For_release = node_of u
seeker_node u (For_closing j) = j

abbrev pub stage_turn : Who → ℕ → Stage → Option TurnId
stage_turn u g (Seeking a) = Some (Page (seeker_node u a) g)
stage_turn u g (Missing a) = Some (Page (seeker_node u a) g)
stage_turn u g (Visiting write h busy j) = None
stage_turn u g (Looking c j) = Some (Page j g)
stage_turn u g (Breaking c h j q) = Some (Page j g)
stage_turn u g (Marking c h j q) = Some (Page j g)
stage_turn u g (Saving c h j i part) = Some (Page j g)
stage_turn u g (Ending c j) = Some (Page j g)
stage_turn u g (Broken c j) = Some (Page j g)
stage_turn u g (Broadcast c j) = Some (Page j g)
stage_turn u g (Parted c j) = Some (Page j g)
stage_turn u g s = Some (Page (node_of u) g)

abbrev pub round_turn : Who → Round → Option TurnId
round_turn u (Draining j k) = Some (Notices (node_of u))
round_turn u (Hearing j k bits b) = Some (Notices (node_of u))
round_turn u (Noticing j k bits b t) = Some (Notices (node_of u))
round_turn u (Flagging j k bits b q) = Some (Notices (node_of u))
round_turn u Drained = Some (Notices (node_of u))
round_turn u r = None

-- the turn that it holds there
abbrev pub turn_at : Who → Work → Option TurnId
turn_at u (Off r) = round_turn u r
turn_at u (On r g s) = stage_turn u g s
turn_at u Gone = None
