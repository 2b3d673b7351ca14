-- What is asked of the list of what happened to a page at one node.
use Rattle.std.specs.Prelude.{◌≡◌, ℕ, ◌≤◌, ◌<◌, ◌⊎◌, Bool, true, false, List, [], ◌∷◌}
use Rattle.dsm_debts.specs.Page.{Part, Before, Loaded, Differs, Sending, After, Work, Idle, Ready, Flushing, Posting, Posted, Marking, Copying, Copied, Running, Drawn, Releasing, State, Event, Tick, Store, Open, Take, Signal, Keep, Early, Map_exclusive, Map_write, Unmap, Make, Enter, Draw, Begin, Load, Same, Differ, Refresh, Send, Stamp, Stamp_bare, Tell, Lower, Look, Drop, Finish, Break, Mark, Pass_by, Copy, Raise, End, End_home, after}

-- the word's part stands before this operation
abbrev pub IsPart : Part → Work → Type 0
IsPart x (Flushing p t y) = y ≡ x
IsPart x (Copying y) = y ≡ x
IsPart x _ = ⊥

-- it does so in a flush
abbrev pub IsFlushPart : Part → Work → Type 0
IsFlushPart x (Flushing p t y) = y ≡ x
IsFlushPart x _ = ⊥

-- the store of the twin comes next
abbrev pub IsRefreshing : Work → Type 0
IsRefreshing (Flushing p t y) = y ≡ Differs
IsRefreshing (Copying y) = y ≡ Loaded
IsRefreshing _ = ⊥

-- the node's processors are those from `first` on and below `top`
module _ (home : Bool) (first top : ℕ) where
  -- q is one of them
  abbrev pub IsOf : ℕ → Type 0
  IsOf q = (first ≤ q) × (q < top)

  -- What is asked of each event; each line has its reason above it.
  abbrev pub May : State → Event → Type 0
  May s Tick = Unit {0}
  -- a store is made outside a release, and through a write mapping: what a release has left behind must stay so
  May s (Store q) = ((s.processors q).stage ≡ Running) × ((s.processors q).writes ≡ true)
  -- one release at a time: its time must lie behind all stores that it is for
  May s (Open q) = (s.processors q).stage ≡ Running
  -- the bits are taken behind the draw of that time: a break that sets one later is behind it too
  May s (Take q) = (t : ℕ) × ((s.processors q).stage ≡ Drawn t)
  -- the walk over the dirty set is over: what is still in it was not flushed
  May s (Signal q) = (t : ℕ) × ((s.processors q).stage ≡ Releasing t) × ((s.processors q).dirty ≡ false)
  -- the node is exclusive, read under the turn: else the page would be left with its stores unsent
  May s (Keep q) = (s.page.work ≡ Idle) × (s.page.sole ≡ true)
  -- a flush was timed behind the begin of the release, and no write mapping is left: what was stored before was in that flush
  May s (Early q) = (t : ℕ) × ((s.processors q).stage ≡ Releasing t) × (s.page.work ≡ Idle) × (t < s.page.flush) × ((s.processors q).writes ≡ false)
  -- such a mapping needs no entry in the dirty set only where the node is exclusive
  May s (Map_exclusive q) = IsOf q × (s.page.work ≡ Idle) × (s.page.sole ≡ true)
  -- away from the home there is a twin: else no flush finds the stores
  May s (Map_write q) = IsOf q × (s.page.work ≡ Idle) × ((home ≡ true) ⊎ (s.page.twin ≡ true))
  -- a mapping is taken away under the turn: a release of the page is then not under way
  May s (Unmap q) = s.page.work ≡ Idle
  -- the home needs no twin, and an exclusive node must have none, for it enters and breaks without one
  May s Make = (s.page.work ≡ Idle) × (home ≡ false) × (s.page.sole ≡ false)
  -- no twin stands when the node becomes exclusive: its stores must all be told
  May s Enter = (s.page.work ≡ Idle) × (s.page.twin ≡ false)
  -- the time of a flush is drawn under the turn, by a release that has the page in its dirty set: so each flush is timed before its loads
  May s (Draw q) = (t : ℕ) × ((s.processors q).stage ≡ Releasing t) × ((s.processors q).dirty ≡ true) × (s.page.work ≡ Idle)
  -- a flush needs a twin to compare with
  May s Begin = (p : ℕ) × (t : ℕ) × (s.page.work ≡ Ready p t) × (s.page.twin ≡ true)
  -- the operations on the word come in their order, here and in the next lines: a value is loaded before it is sent
  May s Load = IsPart Before s.page.work
  May s Same = IsFlushPart Loaded s.page.work
  May s Differ = IsFlushPart Loaded s.page.work
  May s Refresh = IsRefreshing s.page.work
  May s Send = IsPart Sending s.page.work
  -- the time is noted when the whole page was flushed: who reads it may leave the page
  May s Stamp = IsFlushPart After s.page.work
  -- only the home, or a node with no twin, has nothing to flush
  May s Stamp_bare = (p : ℕ) × (t : ℕ) × (s.page.work ≡ Ready p t) × ((home ≡ true) ⊎ (s.page.twin ≡ false))
  -- the notices are posted behind the stamp: who is told must find the value at the home
  May s Tell = (p : ℕ) × (b : Bool) × (s.page.work ≡ Posting p b)
  -- a release gives up its own mapping: its next store must have the page in the dirty set again
  May s Lower = (p : ℕ) × (b : Bool) × (j : ℕ) × (s.page.work ≡ Posted p b j)
  -- no other writer may have its stores in the twin alone
  May s Look = (p : ℕ) × (b : Bool) × (j : ℕ) × (s.page.work ≡ Posted p b j) × ((s.processors j).writes ≡ false)
  -- all processors of the node were looked at, and the flush was made
  May s Drop = (p : ℕ) × (j : ℕ) × (s.page.work ≡ Posted p true j) × (top ≤ j)
  -- the page leaves the dirty set when its stores are told and the mapping is given up
  May s Finish = (p : ℕ) × (b : Bool) × (j : ℕ) × (s.page.work ≡ Posted p b j) × ((s.processors p).writes ≡ false)
  -- only exclusive use is broken, under the turn
  May s Break = (s.page.work ≡ Idle) × (s.page.sole ≡ true)
  -- the bits are set one by one,
  May s Mark = (j : ℕ) × (s.page.work ≡ Marking j)
  -- and left out only where there is no write mapping: else a writer has no release of the page before it
  May s Pass_by = (j : ℕ) × (s.page.work ≡ Marking j) × ((s.processors j).writes ≡ false)
  -- the copying begins behind all bits: a store behind its load must be in some release
  May s Copy = (j : ℕ) × (s.page.work ≡ Marking j) × (top ≤ j) × (home ≡ false)
  -- the twin is up before the break ends: a writer needs one when the node is no longer exclusive
  May s Raise = s.page.work ≡ Copying After
  -- the break ends behind its copying
  May s End = s.page.work ≡ Copied
  -- at the home nothing is copied: its break ends behind all bits
  May s End_home = (j : ℕ) × (s.page.work ≡ Marking j) × (top ≤ j) × (home ≡ true)

  -- each event of the list, newest first, meets what is asked
  abbrev pub Runs : State → List Event → Type 0
  Runs s [] = Unit {0}
  Runs s (e ∷ older) = May (after home first s older) e × Runs s older
