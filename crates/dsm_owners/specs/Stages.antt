-- Where a processor stands in its work on one page, between two operations.
use Rattle.std.specs.Prelude.{ℕ, suc, Bool, true, false}

-- why a processor is at another node: a fault, to read or to write, that has these nodes to visit; or the closing work
pub record Why : Type 0 where
  pub faults : Bool
  pub writes : Bool
  pub busy : ℕ → Bool

abbrev pub faulting : (write : Bool) (busy : ℕ → Bool) → Why
faulting write busy = record { faults = true; writes = write; busy = busy }

-- no node
abbrev pub nobody : ℕ → Bool
nobody k = false

abbrev pub closing : Why
closing = record { faults = false; writes = false; busy = nobody }

-- The places. `write` says of a fault whether it is one to write.
pub data Stage : Type 0 where
  -- nothing under way; and it has ended
  Rest : Stage
  Ended : Stage
  -- a fault: its turn is taken; its node's word was read and is not 2; the page has no home yet
  Asked : (write : Bool) → Stage
  Known : (write : Bool) (dir : ℕ) → Stage
  Finding : (write : Bool) → Stage
  -- its node is being registered: before the stamp is cleared, and before the word is stored
  Clearing : (write : Bool) → Stage
  Registering : (write : Bool) → Stage
  -- it has read the words of the nodes below j: whether another one was not 0, and which were 2 or 3
  Sharing : (write : Bool) (j : ℕ) (found : Bool) (busy : ℕ → Bool) → Stage
  -- some were: before its wanted mapping, before it gives its turn, and while it has the busy nodes from i on to visit
  Wanting : (write : Bool) (busy : ℕ → Bool) → Stage
  Parting : (write : Bool) (busy : ℕ → Bool) → Stage
  Visiting : (write : Bool) (i : ℕ) (busy : ℕ → Bool) → Stage
  -- it has the turn of node j: before it reads the word; the word is 2; its twin is up, or it is the home; nothing is left to do there
  Looking : Why → (j : ℕ) → Stage
  Breaking : Why → (j : ℕ) → Stage
  Ending : Why → (j : ℕ) → Stage
  Parted : Why → (j : ℕ) → Stage
  -- it has its own turn again behind its visits
  Back : (write : Bool) → Stage
  -- no word was 2 or 3
  Shared : (write found : Bool) → Stage
  -- a claim: before it; the nodes below j were found unregistered since; one was not; all were, before the copy, in it, and behind it
  Claiming : Stage
  Claimed : (j : ℕ) → Stage
  Failing : Stage
  Entering : Stage
  Copying : Stage
  Entered : Stage
  -- before the stamp is compared; whether it was not 0; the copy is stale; a fetch is open; the copy is current
  Ready : (write : Bool) → Stage
  Compared : (write stamped : Bool) → Stage
  Fetching : (write : Bool) → Stage
  Opened : (write : Bool) → Stage
  Fetched : (write : Bool) → Stage
  -- the twin is being made; before the mapping, on a node that is exclusive or not; before the turn is given
  Making : Stage
  Setting : (write sole : Bool) → Stage
  Giving : Stage
  -- a release: its turn is taken; the word is not 2; a flush is under way; notices are being posted, of a flush or not
  Releasing : Stage
  Checked : Stage
  Flushing : Stage
  Posting : (flushed : Bool) → Stage
  -- before the mapping is lowered; behind it
  Lowering : (flushed : Bool) → Stage
  Lowered : (flushed : Bool) → Stage
  -- it has looked at the mappings of its node's processors below j, and whether one was not 0; before the word is 0; all is told
  Dropping : (j : ℕ) (any : Bool) → Stage
  Unlisting : Stage
  Clean : Stage
  -- an acquire: its turn is taken; the word is not 2; the mappings below j are 0; all are, and no twin is up; before the turn is given
  Acquiring : Stage
  Judging : Stage
  Emptying : (j : ℕ) → Stage
  Emptied : Stage
  Over : Stage

-- the node whose turn is held at a stage, plus 1, and 0 for none; n is the processor's own node
abbrev pub held : ℕ → Stage → ℕ
held n Rest = 0
held n Ended = 0
held n (Visiting write i busy) = 0
held n (Looking why j) = suc j
held n (Breaking why j) = suc j
held n (Ending why j) = suc j
held n (Parted why j) = suc j
held n _ = suc n

-- past its second look at the directory, and not yet exclusive
abbrev pub is_entering : Stage → Bool
is_entering Entering = true
is_entering Copying = true
is_entering Entered = true
is_entering _ = false

-- past its visits in a fault: it fetches, makes a twin, or is about to map the page
abbrev pub is_using : Stage → Bool
is_using (Shared write found) = true
is_using (Ready write) = true
is_using (Compared write stamped) = true
is_using (Fetching write) = true
is_using (Opened write) = true
is_using (Fetched write) = true
is_using Making = true
is_using (Setting write sole) = true
is_using _ = false
