-- One word of one page at one node: who may store to it, who has to flush it, and how far each processor's last store has come.
use Rattle.std.specs.Prelude.{◌≡◌, ℕ, suc, ◌<◌, ◌⊎◌, Bool, true, false, ◌==◌, ◌||◌, if◌then◌else◌, List, [], ◌∷◌}
use Rattle.dsm_copies.specs.Modes.{cover, next, break_over, exclusive, owed, covered, ended, told}

-- The word's part in a flush or a break, by the operation that comes next: the load of the frame, the load of the twin (in a break its
-- store), the store of the twin, the store at the home, none.
pub data Part : Type 0 where
  Before : Part
  Loaded : Part
  Differs : Part
  Sending : Part
  After : Part

-- What the holder of the page's turn at this node is at. A release of processor p: the time t of its flush is drawn; it flushes; it has
-- stamped and posts; it has posted, where `true` says that a flush was made and its twin still stands, and no processor below j was
-- read to have a write mapping. A break: the bits of the processors below j are set; it copies; the twin is up.
pub data Work : Type 0 where
  Idle : Work
  Ready : ℕ → ℕ → Work
  Flushing : ℕ → ℕ → Part → Work
  Posting : ℕ → Bool → Work
  Posted : ℕ → Bool → ℕ → Work
  Marking : ℕ → Work
  Copying : Part → Work
  Copied : Work

-- A processor outside a release, past the first draw of one, past the taking of its bits.
pub data Stage : Type 0 where
  Running : Stage
  Drawn : ℕ → Stage
  Releasing : ℕ → Stage

-- The page at the node: the time of the last flush, the clock, whether there is a twin, whether the node is exclusive (`sole`), and
-- what the holder of its turn is at.
pub record Page : Type 0 where
  pub flush : ℕ
  pub clock : ℕ
  pub twin : Bool
  pub sole : Bool
  pub work : Work

-- A processor: whether it has a write mapping, whether the page is in its dirty set, its bit "no longer exclusive", where it is in its
-- release, how far its last store has come, and whether a flush or break loaded the frame after that and has not finished the word's
-- part.
pub record Processor : Type 0 where
  pub writes : Bool
  pub dirty : Bool
  pub bit : Bool
  pub stage : Stage
  pub debt : ℕ
  pub seen : Bool

-- the page at the node, and every processor
pub record State : Type 0 where
  pub page : Page
  pub processors : ℕ → Processor

-- What happens to the page, as far as the word's stores are concerned. A number is a processor.
pub data Event : Type 0 where
  -- another use of the clock draws a time
  Tick : Event
  -- processor q stores to the word
  Store : (q : ℕ) → Event
  -- it draws the time at which its release begins
  Open : (q : ℕ) → Event
  -- it takes its bit: where it was set, the page is in its dirty set
  Take : (q : ℕ) → Event
  -- it signals, and its release is over
  Signal : (q : ℕ) → Event
  -- its release leaves the page, for the node is exclusive
  Keep : (q : ℕ) → Event
  -- its release leaves the page, for a sibling has flushed it since
  Early : (q : ℕ) → Event
  -- it gets a write mapping where the node is exclusive
  Map_exclusive : (q : ℕ) → Event
  -- it gets a write mapping, and the page is in its dirty set
  Map_write : (q : ℕ) → Event
  -- it loses its write mapping
  Unmap : (q : ℕ) → Event
  -- a twin is up
  Make : Event
  -- the node is exclusive
  Enter : Event
  -- the release of q draws the time of its flush
  Draw : (q : ℕ) → Event
  -- the flush begins
  Begin : Event
  -- the flush or break loads the word of the frame
  Load : Event
  -- the twin has the same value, so that nothing is sent
  Same : Event
  -- the twin has another value
  Differ : Event
  -- the twin gets the value
  Refresh : Event
  -- the home gets it
  Send : Event
  -- the time of the flush is noted
  Stamp : Event
  -- and so is that of a release that has nothing to flush
  Stamp_bare : Event
  -- the write notices are posted
  Tell : Event
  -- the releasing processor gives up its write mapping
  Lower : Event
  -- the next processor of the node is read to have none
  Look : Event
  -- the twin is dropped
  Drop : Event
  -- the page leaves the dirty set of the releasing processor
  Finish : Event
  -- a break of the node's exclusive use begins
  Break : Event
  -- the next processor gets its bit
  Mark : Event
  -- the next processor has no write mapping, and gets none
  Pass_by : Event
  -- the copying begins
  Copy : Event
  -- the twin is up again
  Raise : Event
  -- the break is over: the node is no longer exclusive
  End : Event
  -- and so is a break of the home's exclusive use
  End_home : Event

-- the word's part comes to this operation
abbrev pub with_part : Part → Work → Work
with_part x (Flushing p t y) = Flushing p t x
with_part x (Copying y) = Copying x
with_part x w = w

-- the load of the frame is made
abbrev pub has_loaded : Part → Bool
has_loaded Before = false
has_loaded _ = true

-- a flush or break of the node has loaded the word's frame and has not ended
abbrev pub is_loaded : Work → Bool
is_loaded (Flushing p t x) = has_loaded x
is_loaded (Copying x) = has_loaded x
is_loaded Copied = true
is_loaded _ = false

-- a break is past the load of the word
abbrev pub is_broken : Work → Bool
is_broken (Copying Before) = false
is_broken (Copying x) = true
is_broken Copied = true
is_broken _ = false

-- the time drawn for a flush
abbrev pub time_of : Work → ℕ
time_of (Ready p t) = t
time_of (Flushing p t x) = t
time_of _ = 0

-- the processor whose release it is
abbrev pub worker : Work → ℕ
worker (Ready p t) = p
worker (Flushing p t x) = p
worker (Posting p b) = p
worker (Posted p b j) = p
worker _ = 0

-- the processor whose word comes next
abbrev pub index : Work → ℕ
index (Posted p b j) = j
index (Marking j) = j
index _ = 0

-- a flush begins
abbrev pub begun : Work → Work
begun (Ready p t) = Flushing p t Before
begun w = w

-- the notices are posted, and the processors from j on are to be looked at
abbrev pub posted : ℕ → Work → Work
posted j (Posting p b) = Posted p b j
posted j w = w

-- the twin of the flush no longer stands
abbrev pub dropped : Work → Work
dropped (Posted p b j) = Posted p false j
dropped w = w

-- one more processor is dealt with
abbrev pub looked : Work → Work
looked (Posted p b j) = Posted p b (suc j)
looked (Marking j) = Marking (suc j)
looked w = w

-- the time at which its release began
abbrev pub opened : Stage → ℕ
opened Running = 0
opened (Drawn t) = t
opened (Releasing t) = t

-- its bits are taken
abbrev pub has_taken : Stage → Bool
has_taken (Releasing t) = true
has_taken _ = false

-- a release of the page is due
abbrev pub IsDue : Processor → Type 0
IsDue x = (x.dirty ≡ true) ⊎ ((has_taken x.stage ≡ false) × (x.bit ≡ true))

-- `home`: the node is the page's home. `first`: the node's first processor.
module _ (home : Bool) (first : ℕ) where
  -- how far a store is when it is made
  abbrev pub store_debt : Page → ℕ
  store_debt g = if home then covered else (if g.sole then (if is_loaded g.work then owed else exclusive) else owed)

  -- what an event leaves of the page
  abbrev pub page_after : Page → Event → Page
  page_after g Tick = record g { clock = suc g.clock }
  page_after g (Open p) = record g { clock = suc g.clock }
  page_after g Make = record g { twin = true }
  page_after g Enter = record g { sole = true }
  page_after g (Draw p) = record g { clock = suc g.clock; work = Ready p g.clock }
  page_after g Begin = record g { work = begun g.work }
  page_after g Load = record g { work = with_part Loaded g.work }
  page_after g Same = record g { work = with_part After g.work }
  page_after g Differ = record g { work = with_part Differs g.work }
  page_after g Refresh = record g { work = with_part Sending g.work }
  page_after g Send = record g { work = with_part After g.work }
  page_after g Stamp = record g { flush = time_of g.work; work = Posting (worker g.work) true }
  page_after g Stamp_bare = record g { flush = time_of g.work; work = Posting (worker g.work) false }
  page_after g Tell = record g { work = posted first g.work }
  page_after g Look = record g { work = looked g.work }
  page_after g Drop = record g { twin = false; work = dropped g.work }
  page_after g Finish = record g { work = Idle }
  page_after g Break = record g { work = Marking first }
  page_after g Mark = record g { work = looked g.work }
  page_after g Pass_by = record g { work = looked g.work }
  page_after g Copy = record g { work = Copying Before }
  page_after g Raise = record g { twin = true; work = Copied }
  page_after g End = record g { sole = false; work = Idle }
  page_after g End_home = record g { sole = false; work = Idle }
  page_after g _ = g

  -- what an event leaves of processor q
  abbrev pub processor_after : Page → ℕ → Processor → Event → Processor
  processor_after g q x (Store p) = if q == p then record x { debt = store_debt g; seen = false } else x
  processor_after g q x (Open p) = if q == p then record x { stage = Drawn g.clock } else x
  processor_after g q x (Take p) = if q == p then record x { dirty = x.dirty || x.bit; bit = false; stage = Releasing (opened x.stage) } else x
  processor_after g q x (Signal p) = if q == p then record x { stage = Running } else x
  processor_after g q x (Keep p) = if q == p then record x { dirty = false } else x
  processor_after g q x (Early p) = if q == p then record x { dirty = false } else x
  processor_after g q x (Map_exclusive p) = if q == p then record x { writes = true } else x
  processor_after g q x (Map_write p) = if q == p then record x { writes = true; dirty = true } else x
  processor_after g q x (Unmap p) = if q == p then record x { writes = false } else x
  processor_after g q x Load = record x { seen = true }
  processor_after g q x Same = record x { debt = cover true x.seen x.debt; seen = false }
  processor_after g q x Send = record x { debt = cover true x.seen x.debt; seen = false }
  processor_after g q x Stamp = record x { debt = next true covered x.debt }
  processor_after g q x Stamp_bare = record x { debt = next true covered x.debt }
  processor_after g q x Tell = record x { debt = next true ended x.debt }
  processor_after g q x Lower = if q == worker g.work then record x { writes = false } else x
  processor_after g q x Finish = if q == worker g.work then record x { dirty = false } else x
  processor_after g q x Mark = if q == index g.work then record x { bit = true } else x
  processor_after g q x End = record x { debt = break_over true x.debt }
  processor_after g q x End_home = record x { debt = break_over true x.debt }
  processor_after g q x _ = x

  -- the state behind one event
  abbrev pub after_event : State → Event → State
  after_event s e = record { page = page_after s.page e; processors = λ q. processor_after s.page q (s.processors q) e }

  -- the state behind a list of events, newest first
  abbrev pub after : State → List Event → State
  after s [] = s
  after s (e ∷ older) = after_event (after s older) e

-- nothing of the page was touched yet; the clock and the stages may be any
abbrev pub start : ℕ → (ℕ → Stage) → State
start clock stages = record {
  page = record { flush = 0; clock = clock; twin = false; sole = false; work = Idle };
  processors = λ q. record { writes = false; dirty = false; bit = false; stage = stages q; debt = told; seen = false };
}

-- the clock is past each of these times
abbrev pub IsClock : ℕ → (ℕ → Stage) → Type 0
IsClock clock stages = (0 < clock) × ((q : ℕ) → opened (stages q) < clock)
