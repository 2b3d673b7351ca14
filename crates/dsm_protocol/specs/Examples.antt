-- One processor's way through the table, written out: first a lock that is passed, then a store that faults, the unlock, and the lock once more.
use Rattle.std.specs.Prelude.{◌≡◌, ℕ, Bool, true, false, List, [], ◌∷◌, Option, None, Some, map, replicate}
use Rattle.dsm_entry.specs.declared.entry.Entry.{Entry}
use Rattle.dsm_entry.specs.declared.entry.Entry.TheVariants.{Store, Signal, Pass}
use Rattle.dsm_entry.specs.declared.entry.Obj.TheVariants.{Lock as OfLock}
use Rattle.dsm_isa.specs.declared.instr.Instr.{Instr}
use Rattle.dsm_isa.specs.declared.instr.Instr.TheVariants.{Li, St, Lock as Take_lock, Unlock}
use Rattle.dsm_words.specs.declared.item.Item.TheVariants.{Stop, Frame, Twin, Twined, Map, Dir, Update, Flush, Notice, Clock, Turn, NoticeTurn, Global, Own as OwnWord, Nle, Lock, Home}
use Rattle.dsm_words.specs.Script.{Act, Get, Put, Swap, Change, Add, Or}
use Rattle.dsm_directory.specs.Directory.{no_row}
use Rattle.dsm_protocol.specs.declared.counts.Counts.{Counts}
use Rattle.dsm_protocol.specs.Own.{Own, Who, no_counts, new_own}
use Rattle.dsm_protocol.specs.Jobs.{first_act}
use Rattle.dsm_protocol.specs.Processors.{Processor, new_processor, after_given}
use Rattle.dsm_protocol.specs.Stages.{Cause, Fault, For_fault, For_release, Whole, Got, Differs, Half, Stage, Asked, Seeking, Clearing, Registering, Sharing, Wanting, Parting, Visiting, Looking, Breaking, Marking, Saving, Ending, Parted, Back, Ready, Compared, Fetching, Opened, Copying, Copied, Current, Making, Setting, Giving, Released, Checking, Drawing, Timed, Flushing, Stamping, Posting, Telling, Lowering, Dropping, Untwining, Done, Acquiring, Judging, Judged, Unmapping, Emptying, Emptied, Leaving, Over, Round, Idle, Waiting, Signalling, Passing, Access, Collecting, Releasing, Draining, Hearing, Noticing, Flagging, Drained, Taking, Told, Work, Off, On}
use Rattle.dsm_protocol.specs.Standing.{Path, Does}

-- one operation as a reader wants to see it: the place where it is made, the operation, the answer
pub record Line : Type 0 where
  pub at : Work
  pub act : Act
  pub got : ℕ

-- on no page, and on page 0
abbrev pub off : Round → Act → ℕ → Line
off r a x = record { at = Off r; act = a; got = x }

abbrev pub on : Round → Stage → Act → ℕ → Line
on r s a x = record { at = On r 0 s; act = a; got = x }

-- an example: what the processor holds at first; operations, one behind the other; the place behind the last, and what it holds there
pub record Example : Type 0 where
  pub before : Own
  pub lines : List Line
  pub last : Work
  pub after : Own

-- where the next operation is made
abbrev pub next_place : List Line → Work → Work
next_place [] last = last
next_place (l ∷ ls) last = l.at

-- its answers, and its operations
abbrev pub answers : Example → List ℕ
answers e = map (λ l. l.got) e.lines

abbrev pub acts : Example → List Act
acts e = map (λ l. l.act) e.lines

-- the processor behind this answer, and behind these
abbrev pub behind : Who → List Instr → Processor → ℕ → Processor
behind u code m x = after_given u code m (record { starved = false; got = x })

abbrev pub behind_all : Who → List Instr → Processor → List ℕ → Processor
behind_all u code m [] = m
behind_all u code m (x ∷ xs) = behind_all u code (behind u code m x) xs

-- the operations that it makes while it is given these answers
abbrev pub made_by : Who → List Instr → Processor → List ℕ → List Act
made_by u code m [] = []
made_by u code m (x ∷ xs) = first_act m.todo ∷ made_by u code (behind u code m x) xs

-- Given the answers of the example, the processor makes its operations, and holds what it says.
abbrev pub Makes : Who → List Instr → Processor → Example → Type 0
Makes u code m e = (m.own ≡ e.before) × (made_by u code m (answers e) ≡ acts e) × ((behind_all u code m (answers e)).own ≡ e.after)

-- By the table alone a processor that holds o comes along these lines: each operation is made at the place that its line names, and from where it leads
-- decisions and notes go on to the next place. At the end it stands at the last place.
pub data Goes (u : Who) : Own → List Line → Work → Own → Type 0 where
  Arrived : {o : Own} {last : Work} → Goes u o [] last o
  Then : {o p q : Own} {l : Line} {ls : List Line} {to last : Work} → Does u o l.at l.act l.got to → Path u to o (next_place ls last) p → Goes u p ls last q → Goes u o (l ∷ ls) last q

abbrev pub Follows : Who → Example → Type 0
Follows u e = Goes u e.before e.lines e.last e.after

-- Three nodes of one processor each, and one page of two words. The processor is number 1; it takes the lock, stores 7 in word 0, gives the lock back,
-- and takes it again.
abbrev pub who : Who
who = record { lay = record { nodes = 3; procs = 1; pages = 1; words = 2; locks = 1; barriers = 0; flags = 0 }; p = 1; limits = record { turns = 100; looks = None } }

abbrev pub code : List Instr
code = Li 1 7 ∷ Take_lock 0 ∷ St 1 2 0 ∷ Unlock 0 ∷ Take_lock 0 ∷ []

-- what it holds behind so many instructions, with 7 in register 1: its open pass of the lock, its mapping of the page, whether the page is dirty, its
-- trace and counts
abbrev pub holding : ℕ → Option ℕ → ℕ → Bool → List Entry → Counts → Own
holding done pass mapping dirty trace counts =
    record {
      reader = record { registers = 0 ∷ 7 ∷ replicate 14 0; passes = pass ∷ replicate 63 None; place = done; done = done };
      maps = mapping ∷ replicate 255 0;
      dirty = dirty ∷ replicate 255 false;
      trace = trace;
      counts = counts;
    }

-- before its store, behind it, behind the unlock, and at the end
abbrev pub before_store : Own
before_store = holding 2 (Some 0) 0 false (Pass (OfLock 0) 0 ∷ []) no_counts

abbrev pub behind_store : Own
behind_store = holding 3 (Some 0) 2 true (Pass (OfLock 0) 0 ∷ Store 0 7 ∷ []) (record no_counts { write_faults = 1; overwrites = 1; twins = 1; breaks = 1 })

abbrev pub behind_unlock : Own
behind_unlock =
    holding 4 None 1 false (Pass (OfLock 0) 0 ∷ Store 0 7 ∷ Signal (OfLock 0) 0 ∷ []) (record no_counts { write_faults = 1; overwrites = 1; twins = 1; breaks = 1; flushes = 1; notices = 1 })

abbrev pub at_last : Own
at_last =
    holding 5 (Some 2) 0 false (Pass (OfLock 0) 0 ∷ Store 0 7 ∷ Signal (OfLock 0) 0 ∷ Pass (OfLock 0) 2 ∷ []) (record no_counts { write_faults = 1; overwrites = 1; twins = 1; breaks = 1; flushes = 1; notices = 1; unmaps = 1 })

-- sets of pages: none, and page 0
abbrev pub no_pages : List ℕ
no_pages = 0 ∷ 0 ∷ 0 ∷ 0 ∷ []

abbrev pub page_0 : List ℕ
page_0 = 1 ∷ 0 ∷ 0 ∷ 0 ∷ []

-- The register is set, with a load of the stop word. The lock is free, and is passed with count 0. There are no notices, and the processor was told of no
-- page. Then it stands before its store.
abbrev pub locking : Example
locking =
    record {
      before = new_own;
      lines =
          off Waiting (Get Stop) 0
          ∷ off Waiting (Get (Lock 0)) 0
          ∷ off Waiting (Change (Lock 0) 0 1) 0
          ∷ off Passing (Change (NoticeTurn 1) 0 2) 0
          ∷ off (Draining 0 0) (Swap (Global 1 0 0) 0) 0
          ∷ off (Draining 1 0) (Swap (Global 1 1 0) 0) 0
          ∷ off (Draining 2 0) (Swap (Global 1 2 0) 0) 0
          ∷ off Drained (Put (NoticeTurn 1) 0) 0
          ∷ off (Taking 0 no_pages) (Swap (OwnWord 1 0) 0) 0
          ∷ [];
      last = Off (Access false true 0);
      after = before_store;
    }

-- It has no mapping to write, and faults; its node is not registered yet. The home is node 0, and node 2 has the page alone, so node 2 is visited: its turn
-- is lost once, and won; its processor, which may write the page, is told, and words 5 and 6 go to the home. Then the page is fetched at time 1, a twin
-- is made, and the store comes.
abbrev pub storing : Round
storing = Access true true 0

-- node 2, which is bit 2 of the set of busy nodes, is visited for this
abbrev pub visit : Cause
visit = Fault true 0 4

abbrev pub faulting : Example
faulting =
    record {
      before = before_store;
      lines =
          off (Access false true 0) (Change (Turn 1 0) 0 2) 0
          ∷ on storing (Asked true) (Get (Dir 1 0)) 0
          ∷ on storing (Seeking (For_fault true 0)) (Get (Home 0)) 1
          ∷ on storing (Clearing true 0) (Put (Update 1 0) 0) 0
          ∷ on storing (Registering true 0) (Put (Dir 1 0) 1) 0
          ∷ on storing (Sharing true 0 0 no_row) (Get (Dir 0 0)) 0
          ∷ on storing (Sharing true 0 1 no_row) (Get (Dir 1 0)) 1
          ∷ on storing (Sharing true 0 2 (record { own = 1; others = false; busy = 0 })) (Get (Dir 2 0)) 2
          ∷ on storing (Wanting true 0 4) (Put (Map 1 0) 3) 0
          ∷ on storing (Parting true 0 4) (Put (Turn 1 0) 0) 0
          ∷ on storing (Visiting true 0 4 0) (Change (Turn 2 0) 0 2) 3
          ∷ on storing (Visiting true 0 4 0) (Change (Turn 2 0) 0 2) 0
          ∷ on storing (Looking visit 2) (Get (Dir 2 0)) 2
          ∷ on storing (Breaking visit 0 2 2) (Get (Map 2 0)) 2
          ∷ on storing (Marking visit 0 2 2) (Or (Nle 2 0) 1) 0
          ∷ on storing (Saving visit 0 2 0 Whole) (Get (Frame 2 0 0)) 5
          ∷ on storing (Saving visit 0 2 0 (Got 5)) (Put (Twin 2 0 0) 5) 0
          ∷ on storing (Saving visit 0 2 0 (Half 5)) (Put (Frame 0 0 0) 5) 0
          ∷ on storing (Saving visit 0 2 1 Whole) (Get (Frame 2 0 1)) 6
          ∷ on storing (Saving visit 0 2 1 (Got 6)) (Put (Twin 2 0 1) 6) 0
          ∷ on storing (Saving visit 0 2 1 (Half 6)) (Put (Frame 0 0 1) 6) 0
          ∷ on storing (Saving visit 0 2 2 Whole) (Put (Twined 2 0) 1) 0
          ∷ on storing (Ending visit 2) (Put (Dir 2 0) 1) 0
          ∷ on storing (Parted visit 2) (Put (Turn 2 0) 0) 0
          ∷ on storing (Visiting true 0 4 3) (Change (Turn 1 0) 0 2) 0
          ∷ on storing (Back true 0) (Get (Dir 1 0)) 1
          ∷ on storing (Ready true 0) (Get (Update 1 0)) 0
          ∷ on storing (Compared true 0 0) (Get (Notice 1 0)) 0
          ∷ on storing (Fetching true 0) (Add (Clock 1) 1) 1
          ∷ on storing (Opened true 0 1) (Get (Twined 1 0)) 0
          ∷ on storing (Copying true 0 1 false 0 Whole) (Get (Frame 0 0 0)) 5
          ∷ on storing (Copying true 0 1 false 0 (Got 5)) (Put (Frame 1 0 0) 5) 0
          ∷ on storing (Copying true 0 1 false 1 Whole) (Get (Frame 0 0 1)) 6
          ∷ on storing (Copying true 0 1 false 1 (Got 6)) (Put (Frame 1 0 1) 6) 0
          ∷ on storing (Copied true 0 1) (Put (Update 1 0) 1) 0
          ∷ on storing (Current true 0) (Get (Twined 1 0)) 0
          ∷ on storing (Making 0 Whole) (Get (Frame 1 0 0)) 5
          ∷ on storing (Making 0 (Got 5)) (Put (Twin 1 0 0) 5) 0
          ∷ on storing (Making 1 Whole) (Get (Frame 1 0 1)) 6
          ∷ on storing (Making 1 (Got 6)) (Put (Twin 1 0 1) 6) 0
          ∷ on storing (Making 2 Whole) (Put (Twined 1 0) 1) 0
          ∷ on storing (Setting true false) (Put (Map 1 0) 2) 0
          ∷ on storing Giving (Put (Turn 1 0) 0) 0
          ∷ off storing (Put (Frame 1 0 0) 7) 0
          ∷ [];
      last = Off Idle;
      after = behind_store;
    }

-- The release begins at time 2, and the page is dirty. At time 3 the twin is flushed: word 0 has changed and is stored, word 1 has not. Of the other nodes
-- node 0 is the home, so node 2 alone is told. The mapping is lowered, the twin dropped, and the turn given back; then the lock is given back too.
abbrev pub sending : Round
sending = Releasing 2 0

abbrev pub unlocking : Example
unlocking =
    record {
      before = behind_store;
      lines =
          off Idle (Add (Clock 1) 1) 2
          ∷ off (Collecting 2 0 no_pages) (Swap (Nle 1 0) 0) 0
          ∷ off sending (Change (Turn 1 0) 0 2) 0
          ∷ on sending Released (Get (Dir 1 0)) 1
          ∷ on sending (Seeking For_release) (Get (Home 0)) 1
          ∷ on sending (Checking 0) (Get (Flush 1 0)) 0
          ∷ on sending (Drawing 0) (Add (Clock 1) 1) 3
          ∷ on sending (Timed 0 3) (Get (Twined 1 0)) 1
          ∷ on sending (Flushing 0 3 0 Whole) (Get (Frame 1 0 0)) 7
          ∷ on sending (Flushing 0 3 0 (Got 7)) (Get (Twin 1 0 0)) 5
          ∷ on sending (Flushing 0 3 0 (Differs 7)) (Put (Twin 1 0 0) 7) 0
          ∷ on sending (Flushing 0 3 0 (Half 7)) (Put (Frame 0 0 0) 7) 0
          ∷ on sending (Flushing 0 3 1 Whole) (Get (Frame 1 0 1)) 6
          ∷ on sending (Flushing 0 3 1 (Got 6)) (Get (Twin 1 0 1)) 6
          ∷ on sending (Stamping 0 3 true) (Put (Flush 1 0) 3) 0
          ∷ on sending (Posting 0 true 0) (Get (Dir 0 0)) 0
          ∷ on sending (Posting 0 true 1) (Get (Dir 1 0)) 1
          ∷ on sending (Posting 0 true 2) (Get (Dir 2 0)) 1
          ∷ on sending (Telling 0 true 2) (Or (Global 2 1 0) 1) 0
          ∷ on sending (Lowering true) (Put (Map 1 0) 1) 0
          ∷ on sending (Dropping 1 true true) (Get (Map 1 0)) 1
          ∷ on sending (Untwining false) (Put (Twined 1 0) 0) 0
          ∷ on sending Done (Put (Turn 1 0) 0) 0
          ∷ off (Signalling 2) (Put (Lock 0) 2) 0
          ∷ [];
      last = Off Waiting;
      after = behind_unlock;
    }

-- Meanwhile another has held the lock, and it is passed with count 2. A notice of node 2 is drained, and noted at time 4, which is later than the fetch:
-- the copy is out of date, and the page is unmapped. Nobody else of the node uses it, so the node leaves.
abbrev pub looking : Round
looking = Told page_0 0

abbrev pub locking_again : Example
locking_again =
    record {
      before = behind_unlock;
      lines =
          off Waiting (Get (Lock 0)) 4
          ∷ off Waiting (Change (Lock 0) 4 5) 4
          ∷ off Passing (Change (NoticeTurn 1) 0 2) 0
          ∷ off (Draining 0 0) (Swap (Global 1 0 0) 0) 0
          ∷ off (Draining 1 0) (Swap (Global 1 1 0) 0) 0
          ∷ off (Draining 2 0) (Swap (Global 1 2 0) 0) 1
          ∷ off (Hearing 2 0 1 0) (Add (Clock 1) 1) 4
          ∷ off (Noticing 2 0 1 0 4) (Put (Notice 1 0) 4) 0
          ∷ off (Flagging 2 0 1 0 1) (Or (OwnWord 1 0) 1) 0
          ∷ off Drained (Put (NoticeTurn 1) 0) 0
          ∷ off (Taking 0 no_pages) (Swap (OwnWord 1 0) 0) 1
          ∷ off looking (Change (Turn 1 0) 0 2) 0
          ∷ on looking Acquiring (Get (Dir 1 0)) 1
          ∷ on looking Judging (Get (Update 1 0)) 1
          ∷ on looking (Judged 1) (Get (Notice 1 0)) 4
          ∷ on looking Unmapping (Put (Map 1 0) 0) 0
          ∷ on looking (Emptying 1 true) (Get (Map 1 0)) 0
          ∷ on looking Emptied (Get (Twined 1 0)) 0
          ∷ on looking Leaving (Put (Dir 1 0) 0) 0
          ∷ on looking Over (Put (Turn 1 0) 0) 0
          ∷ [];
      last = Off Idle;
      after = at_last;
    }

-- the processor that has done nothing, and the same one behind each example but the last
abbrev pub at_first : Processor
at_first = new_processor who code

abbrev pub locked : Processor
locked = behind_all who code at_first (answers locking)

abbrev pub written : Processor
written = behind_all who code locked (answers faulting)

abbrev pub unlocked : Processor
unlocked = behind_all who code written (answers unlocking)
