-- What a processor does to one page, an operation or a decision at a time.
use Rattle.std.specs.Prelude.{ℕ, suc, Bool, true, false, ◌==◌, if◌then◌else◌}
use Rattle.dsm_owners.specs.Stages.{Why, faulting, closing, nobody, Stage, Rest, Ended, Asked, Known, Finding, Clearing, Registering, Sharing, Wanting, Parting, Visiting, Looking, Breaking, Ending, Parted, Back, Shared, Claiming, Claimed, Failing, Entering, Copying, Entered, Ready, Compared, Fetching, Opened, Fetched, Making, Setting, Giving, Releasing, Checked, Flushing, Posting, Lowering, Lowered, Dropping, Unlisting, Clean, Acquiring, Judging, Emptying, Emptied, Over}

-- The acts. `j` is the node or the processor that is looked at.
pub data Act : Type 0 where
  -- A fault takes its turn and reads its node's word.
  Take : (write : Bool) → Act
  See_sole : (write : Bool) → Act
  See : (write : Bool) (dir : ℕ) → Act
  -- It finds the home, which is there, or is not and it or another node becomes it.
  Find_new : (write : Bool) → Act
  Find_old : (write : Bool) (dir : ℕ) → Act
  Find_none : (write : Bool) (dir : ℕ) → Act
  Find_late : (write : Bool) → Act
  -- It registers its node.
  Clear : (write : Bool) → Act
  Register : (write : Bool) → Act
  -- It reads the words of all nodes: its own is passed over; of the others one is 0, 1, or 2 or 3.
  Share_own : (write : Bool) (j : ℕ) (found : Bool) (busy : ℕ → Bool) → Act
  Share_none : (write : Bool) (j : ℕ) (found : Bool) (busy : ℕ → Bool) → Act
  Share_one : (write : Bool) (j : ℕ) (found : Bool) (busy : ℕ → Bool) → Act
  Share_busy : (write : Bool) (j : ℕ) (found : Bool) (busy : ℕ → Bool) → Act
  -- Node m was found at 2 or 3; none was.
  Busy : (write : Bool) (j : ℕ) (found : Bool) (busy : ℕ → Bool) (m : ℕ) → Act
  Free : (write : Bool) (j : ℕ) (found : Bool) (busy : ℕ → Bool) → Act
  -- It wants the page, if no mapping keeps its node registered, and gives its turn.
  Want : (write : Bool) (busy : ℕ → Bool) → Act
  Want_none : (write : Bool) (busy : ℕ → Bool) → Act
  Part : (write : Bool) (busy : ℕ → Bool) → Act
  -- It takes the turn of the next busy node j; or the closing work that of any.
  Visit : (write : Bool) (i : ℕ) (busy : ℕ → Bool) (j : ℕ) → Act
  Close : (j : ℕ) → Act
  -- There it reads the word, and where that is 2 it breaks the node: its twin is put up, or it is the home; then the word is 1.
  Look_sole : (why : Why) (j : ℕ) → Act
  Look_on : (why : Why) (j : ℕ) → Act
  Twin_up : (why : Why) (j : ℕ) → Act
  Twin_home : (why : Why) (j : ℕ) → Act
  Break : (why : Why) (j : ℕ) → Act
  -- It gives that turn.
  Go_back : (write : Bool) (busy : ℕ → Bool) (j : ℕ) → Act
  Close_end : (j : ℕ) → Act
  -- All are visited: it takes its own turn again and reads its node's word.
  Return : (write : Bool) (i : ℕ) (busy : ℕ → Bool) → Act
  Back_sole : (write : Bool) → Act
  Back_on : (write : Bool) → Act
  -- No other node was found: it looks for a twin. Else, or to read, it goes on.
  Test_twin : Act
  Test_none : Act
  Go_on : (write found : Bool) → Act
  -- It claims the page, and reads the words of all nodes again: its own, one that is 0, one that is not, behind which it withdraws.
  Claim : Act
  Look_own : (j : ℕ) → Act
  Look_none : (j : ℕ) → Act
  Look_some : (j : ℕ) → Act
  Withdraw : Act
  -- All were 0: away from the home it copies the page first, at the home it does not; then it is exclusive.
  Alone : (j : ℕ) → Act
  Alone_home : (j : ℕ) → Act
  Enter_first : Act
  Enter_stamp : Act
  Enter : Act
  -- At the home nothing is fetched. Elsewhere the stamp is 0 or not; the copy is current; or stale, and then fetched.
  Ready_home : (write : Bool) → Act
  Compare : (write stamped : Bool) → Act
  Current : (write : Bool) → Act
  Stale : (write stamped : Bool) → Act
  First : (write : Bool) → Act
  Stamp : (write : Bool) → Act
  -- To read, it is ready; to write, a twin is up, or is made.
  Read_ready : Act
  Has_twin : Act
  No_twin : Act
  Make : Act
  -- It maps the page to read; to write, where its node is exclusive; to write, with a twin. It gives its turn.
  Set_read : (sole : Bool) → Act
  Set_sole : Act
  Set_write : Act
  Give : Act
  -- A release takes over what breaks have left for this processor to tell; takes its turn; reads its node's word.
  Collect : Act
  Release : Act
  Release_sole : Act
  Release_on : Act
  -- A later flush has told its stores; else it flushes, or notes a send of the home, or finds no twin.
  Coalesce : Act
  Flush : Act
  Send : Act
  Send_home : Act
  Send_none : Act
  -- It posts a notice to node j; all are posted.
  Post : (flushed : Bool) (j : ℕ) → Act
  Posted : (flushed : Bool) → Act
  -- It lowers its mapping, if that is 2. Where it made no flush it is done.
  Lower : (flushed : Bool) → Act
  Lower_none : (flushed : Bool) → Act
  Lower_end : Act
  -- It looks at the mappings of its node, processor j's being 0, not 2, or 2; drops the twin where none is 2, and unlists the node where all are 0.
  Drop_begin : (j : ℕ) → Act
  Drop_zero : (j : ℕ) (any : Bool) → Act
  Drop_one : (j : ℕ) (any : Bool) → Act
  Drop_two : (j : ℕ) (any : Bool) → Act
  Drop_kept : (j : ℕ) → Act
  Drop_last : (j : ℕ) → Act
  Unlist : Act
  -- All is told, and it gives its turn.
  Finish : Act
  -- An acquire takes its turn and reads its node's word; keeps a copy that is current.
  Acquire : Act
  Acquire_sole : Act
  Acquire_on : Act
  Acquire_keep : Act
  -- Else it gives up its mapping, and looks at those of its node, processor j's being 0 or not; where all are 0 and no twin is up, the node leaves.
  Unmap : (j : ℕ) → Act
  Empty_zero : (j : ℕ) → Act
  Empty_some : (j : ℕ) → Act
  Empty_none : (j : ℕ) → Act
  Empty_twin : (j : ℕ) → Act
  Leave : Act
  Done : Act
  -- It ends, at rest or starved in its visits.
  Stop : Act
  Stop_visit : (write : Bool) (i : ℕ) (busy : ℕ → Bool) → Act

-- a table with x at n
abbrev pub put : {A : Type 0} → (ℕ → A) → ℕ → A → ℕ → A
put f n x k = if k == n then x else f k

-- the stage at which an act is made, and the next one
abbrev pub moves : Act → Stage × Stage
moves (Take write) = (Rest, Asked write)
moves (See_sole write) = (Asked write, Setting write true)
moves (See write dir) = (Asked write, Known write dir)
moves (Find_new write) = (Known write 0, Clearing write)
moves (Find_old write dir) = (Known write dir, Sharing write 0 false nobody)
moves (Find_none write dir) = (Known write dir, Finding write)
moves (Find_late write) = (Finding write, Clearing write)
moves (Clear write) = (Clearing write, Registering write)
moves (Register write) = (Registering write, Sharing write 0 false nobody)
moves (Share_own write j found busy) = (Sharing write j found busy, Sharing write (suc j) found busy)
moves (Share_none write j found busy) = (Sharing write j found busy, Sharing write (suc j) found busy)
moves (Share_one write j found busy) = (Sharing write j found busy, Sharing write (suc j) true busy)
moves (Share_busy write j found busy) = (Sharing write j found busy, Sharing write (suc j) true (put busy j true))
moves (Busy write j found busy m) = (Sharing write j found busy, Wanting write busy)
moves (Free write j found busy) = (Sharing write j found busy, Shared write found)
moves (Want write busy) = (Wanting write busy, Parting write busy)
moves (Want_none write busy) = (Wanting write busy, Parting write busy)
moves (Part write busy) = (Parting write busy, Visiting write 0 busy)
moves (Visit write i busy j) = (Visiting write i busy, Looking (faulting write busy) j)
moves (Close j) = (Rest, Looking closing j)
moves (Look_sole why j) = (Looking why j, Breaking why j)
moves (Look_on why j) = (Looking why j, Parted why j)
moves (Twin_up why j) = (Breaking why j, Ending why j)
moves (Twin_home why j) = (Breaking why j, Ending why j)
moves (Break why j) = (Ending why j, Parted why j)
moves (Go_back write busy j) = (Parted (faulting write busy) j, Visiting write (suc j) busy)
moves (Close_end j) = (Parted closing j, Rest)
moves (Return write i busy) = (Visiting write i busy, Back write)
moves (Back_sole write) = (Back write, Setting write true)
moves (Back_on write) = (Back write, Ready write)
moves Test_twin = (Shared true false, Ready true)
moves Test_none = (Shared true false, Claiming)
moves (Go_on write found) = (Shared write found, Ready write)
moves Claim = (Claiming, Claimed 0)
moves (Look_own j) = (Claimed j, Claimed (suc j))
moves (Look_none j) = (Claimed j, Claimed (suc j))
moves (Look_some j) = (Claimed j, Failing)
moves Withdraw = (Failing, Ready true)
moves (Alone j) = (Claimed j, Entering)
moves (Alone_home j) = (Claimed j, Entered)
moves Enter_first = (Entering, Copying)
moves Enter_stamp = (Copying, Entered)
moves Enter = (Entered, Setting true true)
moves (Ready_home write) = (Ready write, Setting write false)
moves (Compare write stamped) = (Ready write, Compared write stamped)
moves (Current write) = (Compared write true, Fetched write)
moves (Stale write stamped) = (Compared write stamped, Fetching write)
moves (First write) = (Fetching write, Opened write)
moves (Stamp write) = (Opened write, Fetched write)
moves Read_ready = (Fetched false, Setting false false)
moves Has_twin = (Fetched true, Setting true false)
moves No_twin = (Fetched true, Making)
moves Make = (Making, Setting true false)
moves (Set_read sole) = (Setting false sole, Giving)
moves Set_sole = (Setting true true, Giving)
moves Set_write = (Setting true false, Giving)
moves Give = (Giving, Rest)
moves Collect = (Rest, Rest)
moves Release = (Rest, Releasing)
moves Release_sole = (Releasing, Clean)
moves Release_on = (Releasing, Checked)
moves Coalesce = (Checked, Lowering false)
moves Flush = (Checked, Flushing)
moves Send = (Flushing, Posting true)
moves Send_home = (Checked, Posting false)
moves Send_none = (Checked, Posting false)
moves (Post flushed j) = (Posting flushed, Posting flushed)
moves (Posted flushed) = (Posting flushed, Lowering flushed)
moves (Lower flushed) = (Lowering flushed, Lowered flushed)
moves (Lower_none flushed) = (Lowering flushed, Lowered flushed)
moves Lower_end = (Lowered false, Clean)
moves (Drop_begin j) = (Lowered true, Dropping j false)
moves (Drop_zero j any) = (Dropping j any, Dropping (suc j) any)
moves (Drop_one j any) = (Dropping j any, Dropping (suc j) true)
moves (Drop_two j any) = (Dropping j any, Clean)
moves (Drop_kept j) = (Dropping j true, Clean)
moves (Drop_last j) = (Dropping j false, Unlisting)
moves Unlist = (Unlisting, Clean)
moves Finish = (Clean, Rest)
moves Acquire = (Rest, Acquiring)
moves Acquire_sole = (Acquiring, Over)
moves Acquire_on = (Acquiring, Judging)
moves Acquire_keep = (Judging, Over)
moves (Unmap j) = (Judging, Emptying j)
moves (Empty_zero j) = (Emptying j, Emptying (suc j))
moves (Empty_some j) = (Emptying j, Over)
moves (Empty_none j) = (Emptying j, Emptied)
moves (Empty_twin j) = (Emptying j, Over)
moves Leave = (Emptied, Over)
moves Done = (Over, Rest)
moves Stop = (Rest, Ended)
moves (Stop_visit write i busy) = (Visiting write i busy, Ended)

-- the node whose words an act changes; n is the processor's own
abbrev pub place : ℕ → Act → ℕ
place n (Visit write i busy j) = j
place n (Close j) = j
place n (Look_sole why j) = j
place n (Look_on why j) = j
place n (Twin_up why j) = j
place n (Twin_home why j) = j
place n (Break why j) = j
place n (Go_back write busy j) = j
place n (Close_end j) = j
place n (Post flushed j) = j
place n _ = n
