-- Small runs, worked out from the sentences on what a processor does, and computed by the checker.
use Rattle.std.specs.Prelude.{◌≡◌, ℕ, ◌+◌, Bool, true, false, List, [], ◌∷◌, ◌++◌, length, replicate, Option, None, Some, flat_map, map, slice_get}
use Rattle.std.specs.List.{range_with_len}
use Rattle.dsm_entry.specs.declared.entry.Entry.TheVariants.{Load, Store, Signal, Pass, Out}
use Rattle.dsm_entry.specs.declared.entry.Obj.TheVariants.{Lock as OfLock, Barrier as OfBarrier, Flag as OfFlag, Close as OfClose}
use Rattle.dsm_isa.specs.declared.instr.Instr.{Instr}
use Rattle.dsm_isa.specs.declared.instr.Instr.TheVariants.{Li, Me, Div, Addi, Ld, St, Jmp, Beq, Bne, Lock, Unlock, Bar, Set, Wait, Out as Print, Halt}
use Rattle.dsm_local.specs.declared.end.Trap.TheVariants.{Address, NotHeld, DivideByZero}
use Rattle.dsm_words.specs.declared.op.Op.TheVariants.{Load as LoadAt, Exchange}
use Rattle.dsm_words.specs.declared.item.Item.{Item}
use Rattle.dsm_words.specs.declared.item.Item.TheVariants.{Stop, Frame, Twin, Twined, Map, Dir, Update, Flush, Notice, Clock, Turn, NoticeTurn, Global, Own as OwnWord, Home, Lock as LockWord}
use Rattle.dsm_words.specs.Place.{total}
use Rattle.dsm_words.specs.Words.{word}
use Rattle.dsm_local.specs.declared.end.End.TheVariants.{Halted, Trapped, Spent, Looked, Stopped, NoMemory}
use Rattle.dsm_protocol.specs.Own.{no_counts}
use Rattle.dsm_protocol.specs.Jobs.{Moment, Passed, Acquired, Sent, Told, Began, Fetched}
use Rattle.dsm_protocol.specs.Processors.{Given, next_op, ending, processor_of}
use Rattle.dsm_runs.specs.Setups.{Setup, lay_in, who_at, first_words}
use Rattle.dsm_runs.specs.Clusters.{Cluster, Event, AreDefined, start, exactly, after_event, after_all_loose, given_by, all_defined, reached}
use Rattle.dsm_runs.specs.Moments.{history, moments_if}
use Rattle.dsm_runs.specs.Outcomes.{Outcome}

-- so many nodes with so many processors each, and one page of so many words with these first values, one lock, one barrier and one flag
abbrev pub cluster : ℕ → ℕ → ℕ → List (ℕ × ℕ) → List Instr → Setup
cluster nodes procs words init code =
    record {
      program = record { shape = record { pages = 1; words = words; locks = 1; barriers = 1; flags = 1 }; init = init; code = code };
      nodes = nodes;
      procs = procs;
      limits = record { turns = 100; looks = Some 100 };
    }

-- one node
abbrev pub node : ℕ → ℕ → List Instr → Setup
node procs words code = cluster 1 procs words [] code

-- two nodes of one processor each, and two words, which start as 5 and 0
abbrev pub pair : List Instr → Setup
pair code = cluster 2 1 2 ((0, 5) ∷ []) code

abbrev pub with_turns : ℕ → Setup → Setup
with_turns turns s = record s { limits = record { turns = turns; looks = s.limits.looks } }

abbrev pub with_looks : ℕ → Setup → Setup
with_looks looks s = record s { limits = record { turns = s.limits.turns; looks = Some looks } }

-- so many pages
abbrev pub with_pages : ℕ → Setup → Setup
with_pages pages s = record s { program = record s.program { shape = record s.program.shape { pages = pages } } }

-- events of these processors, one after the other, and one without memory
abbrev pub of_all : List ℕ → List Event
of_all ps = map (λ p. record { p = p; starved = false }) ps

abbrev pub starved : ℕ → Event
starved p = record { p = p; starved = true }

-- two processors in turn, so many times
abbrev pub in_turn : ℕ → List ℕ
in_turn rounds = flat_map (λ k. 0 ∷ 1 ∷ []) (range_with_len 0 rounds)

-- a processor, and so many events of it, one pair after the other
abbrev pub in_order : List (ℕ × ℕ) → List Event
in_order runs = flat_map (λ r. of_all (replicate r.1 r.0)) runs

-- A halt: the release draws a time and takes the pages that are no longer exclusive; it arrives, and looks; the closing work finds no page held alone.
abbrev pub Halts : Type 0
Halts =
    Outcome (node 1 2 (Halt ∷ [])) (of_all (replicate 4 0))
    (record { traces = (Signal OfClose 0 ∷ Pass OfClose 1 ∷ []) ∷ []; ends = None ∷ []; pages = 0 ∷ 0 ∷ []; counts = no_counts })
    × Outcome (node 1 2 (Halt ∷ [])) (of_all (replicate 5 0))
    (record { traces = (Signal OfClose 0 ∷ Pass OfClose 1 ∷ []) ∷ []; ends = Some Halted ∷ []; pages = 0 ∷ 0 ∷ []; counts = no_counts })

-- One processor: its first store faults. The node finds that it is the home, claims the page, and enters: thirteen operations. The load has the mapping
-- already. The closing work breaks the page.
abbrev pub first_program : List Instr
first_program = Li 1 7 ∷ Li 2 2 ∷ St 1 2 0 ∷ Ld 3 2 0 ∷ Print 3 ∷ Halt ∷ []

abbrev pub StoresAndLoads : Type 0
StoresAndLoads =
    Outcome (node 1 4 first_program) (of_all (replicate 30 0))
    (record {
      traces = (Store 2 7 ∷ Load 2 7 ∷ Out 7 ∷ Signal OfClose 0 ∷ Pass OfClose 1 ∷ []) ∷ [];
      ends = Some Halted ∷ [];
      pages = 0 ∷ 0 ∷ 7 ∷ 0 ∷ [];
      counts = record no_counts { write_faults = 1; enters = 1; breaks = 1 };
    })

-- Node 1 loads word 0 of a page that starts as 5. It is the first to touch it, and so its home: nothing is copied.
abbrev pub remote : Setup
remote = pair (Me 1 ∷ Li 2 0 ∷ Beq 1 2 5 ∷ Ld 3 2 0 ∷ Print 3 ∷ Halt ∷ [])

abbrev pub LoadsRemotely : Type 0
LoadsRemotely =
    Outcome remote (of_all (in_turn 19 ++ 0 ∷ 0 ∷ []))
    (record {
      traces = (Signal OfClose 0 ∷ Pass OfClose 2 ∷ []) ∷ (Load 0 5 ∷ Out 5 ∷ Signal OfClose 1 ∷ Pass OfClose 2 ∷ []) ∷ [];
      ends = Some Halted ∷ Some Halted ∷ [];
      pages = 5 ∷ 0 ∷ [];
      counts = record no_counts { read_faults = 1; unready = 6 };
    })

-- A read fault that overwrites. Both nodes load the page; node 0 is the home. It stores, which needs no twin at home, and its release tells node 1. That
-- acquires, unmaps its copy, which is out of date, and with its next load gets the home's words.
abbrev pub overwriting : Setup
overwriting = pair (Me 1 ∷ Bne 1 2 7 ∷ Ld 3 2 0 ∷ Addi 3 3 2 ∷ St 3 2 0 ∷ Set 0 ∷ Halt ∷ Ld 3 2 0 ∷ Wait 0 1 ∷ Ld 4 2 0 ∷ Print 4 ∷ Halt ∷ [])

abbrev pub Overwrites : Type 0
Overwrites =
    Outcome overwriting (in_order ((0, 13) ∷ (1, 21) ∷ (0, 23) ∷ (1, 38) ∷ (0, 3) ∷ (1, 4) ∷ (0, 3) ∷ []))
    (record {
      traces =
          (Load 0 5 ∷ Store 0 7 ∷ Signal (OfFlag 0) 0 ∷ Signal OfClose 0 ∷ Pass OfClose 2 ∷ [])
          ∷ (Load 0 5 ∷ Pass (OfFlag 0) 1 ∷ Load 0 7 ∷ Out 7 ∷ Signal OfClose 1 ∷ Pass OfClose 2 ∷ [])
          ∷ [];
      ends = Some Halted ∷ Some Halted ∷ [];
      pages = 7 ∷ 0 ∷ [];
      counts = record no_counts { read_faults = 3; write_faults = 1; overwrites = 2; notices = 1; unmaps = 1 };
    })

-- A write fault that makes a twin, a merge, and a flush. Node 0, the home, uses the page, so node 1 shares it: it overwrites its frame, makes a twin and
-- stores 9 in word 1. Node 0 stores 7 in word 0, and tells. Node 1 unmaps the page, but keeps its twin: its next load merges the home's 7 beside its own
-- 9. Its last release flushes the 9, and drops the twin.
abbrev pub merging : Setup
merging = pair (Me 1 ∷ Bne 1 2 7 ∷ Ld 3 2 0 ∷ Addi 3 3 2 ∷ St 3 2 0 ∷ Set 0 ∷ Halt ∷ Li 3 9 ∷ St 3 2 1 ∷ Wait 0 1 ∷ Ld 4 2 0 ∷ Ld 5 2 1 ∷ Halt ∷ [])

abbrev pub merging_events : List Event
merging_events = in_order ((0, 13) ∷ (1, 28) ∷ (0, 23) ∷ (1, 37) ∷ (0, 3) ∷ (1, 22) ∷ (0, 3) ∷ [])

abbrev pub MergesAndFlushes : Type 0
MergesAndFlushes =
    Outcome merging merging_events
    (record {
      traces =
          (Load 0 5 ∷ Store 0 7 ∷ Signal (OfFlag 0) 0 ∷ Signal OfClose 0 ∷ Pass OfClose 2 ∷ [])
          ∷ (Store 1 9 ∷ Pass (OfFlag 0) 1 ∷ Load 0 7 ∷ Load 1 9 ∷ Signal OfClose 1 ∷ Pass OfClose 2 ∷ [])
          ∷ [];
      ends = Some Halted ∷ Some Halted ∷ [];
      pages = 7 ∷ 9 ∷ [];
      counts = record no_counts { read_faults = 2; write_faults = 2; overwrites = 1; merges = 1; twins = 1; flushes = 1; notices = 1; unmaps = 1 };
    })

-- The same run part by part, with words at the end of each: node 0 becomes the home; node 1 has a copy and a twin, and the copy has the 9; the home has
-- the 7, and a notice is posted; it is heard, and the page unmapped, and node 1 stays registered; the copy has both; the home has both, the twin is
-- dropped, and no turn is held.
abbrev pub words_behind : List (ℕ × ℕ) → List Item → List ℕ
words_behind runs items = map (word (lay_in merging) (reached merging (in_order runs)).words) items

abbrev pub GoesAsTold : Type 0
GoesAsTold =
    (words_behind ((0, 13) ∷ []) (Home 0 ∷ Dir 0 0 ∷ Map 0 0 ∷ []) ≡ 1 ∷ 1 ∷ 1 ∷ [])
    × (words_behind ((0, 13) ∷ (1, 28) ∷ []) (Dir 1 0 ∷ Update 1 0 ∷ Twined 1 0 ∷ Map 1 0 ∷ Frame 1 0 0 ∷ Frame 1 0 1 ∷ Twin 1 0 0 ∷ Twin 1 0 1 ∷ Clock 1 ∷ [])
    ≡ 1 ∷ 1 ∷ 1 ∷ 2 ∷ 5 ∷ 9 ∷ 5 ∷ 0 ∷ 2 ∷ [])
    × (words_behind ((0, 13) ∷ (1, 28) ∷ (0, 23) ∷ []) (Frame 0 0 0 ∷ Frame 1 0 0 ∷ Flush 0 0 ∷ Global 1 0 0 ∷ Map 0 0 ∷ Clock 0 ∷ []) ≡ 7 ∷ 5 ∷ 2 ∷ 1 ∷ 1 ∷ 3 ∷ [])
    × (words_behind ((0, 13) ∷ (1, 28) ∷ (0, 23) ∷ (1, 17) ∷ []) (Global 1 0 0 ∷ Notice 1 0 ∷ OwnWord 1 0 ∷ Map 1 0 ∷ Dir 1 0 ∷ Twined 1 0 ∷ Clock 1 ∷ [])
    ≡ 0 ∷ 2 ∷ 0 ∷ 0 ∷ 1 ∷ 1 ∷ 3 ∷ [])
    × (words_behind ((0, 13) ∷ (1, 28) ∷ (0, 23) ∷ (1, 37) ∷ []) (Frame 1 0 0 ∷ Frame 1 0 1 ∷ Twin 1 0 0 ∷ Twin 1 0 1 ∷ Frame 0 0 1 ∷ Update 1 0 ∷ Map 1 0 ∷ [])
    ≡ 7 ∷ 9 ∷ 7 ∷ 0 ∷ 0 ∷ 3 ∷ 1 ∷ [])
    × (map (word (lay_in merging) (reached merging merging_events).words) (Frame 0 0 0 ∷ Frame 0 0 1 ∷ Twin 1 0 1 ∷ Twined 1 0 ∷ Flush 1 0 ∷ []) ≡ 7 ∷ 9 ∷ 9 ∷ 0 ∷ 5 ∷ [])
    × (map (word (lay_in merging) (reached merging merging_events).words) (Turn 0 0 ∷ Turn 1 0 ∷ NoticeTurn 0 ∷ NoticeTurn 1 ∷ []) ≡ 0 ∷ 0 ∷ 0 ∷ 0 ∷ [])

-- An enter, and a break by another node's visit. Node 0 has become the home, and not yet registered, when node 1 enters: its word of the directory is 2.
-- Node 0 finds it busy, visits it with no turn of its own held, and breaks the page: so it loads the 7 that node 1 stored. Node 1, which may still write,
-- has a twin now, and flushes the 8 that it stores later.
abbrev pub entering : Setup
entering = pair (Me 1 ∷ Bne 1 2 4 ∷ Ld 3 2 0 ∷ Halt ∷ Li 3 7 ∷ St 3 2 0 ∷ Li 3 8 ∷ St 3 2 0 ∷ Halt ∷ [])

abbrev pub IsBrokenByAVisit : Type 0
IsBrokenByAVisit =
    (word (lay_in entering) (reached entering (in_order ((0, 6) ∷ (1, 24) ∷ []))).words (Dir 1 0) ≡ 2)
    × Outcome entering (in_order ((0, 6) ∷ (1, 24) ∷ (0, 24) ∷ (1, 2) ∷ (0, 3) ∷ (1, 23) ∷ (0, 3) ∷ []))
    (record {
      traces = (Load 0 7 ∷ Signal OfClose 0 ∷ Pass OfClose 2 ∷ []) ∷ (Store 0 7 ∷ Store 0 8 ∷ Signal OfClose 1 ∷ Pass OfClose 2 ∷ []) ∷ [];
      ends = Some Halted ∷ Some Halted ∷ [];
      pages = 8 ∷ 0 ∷ [];
      counts = record no_counts { read_faults = 1; write_faults = 1; overwrites = 1; flushes = 1; enters = 1; breaks = 1 };
    })

-- The same, with node 0 starved before its visit: it holds no turn then, and ends with mapping 3, so that its node stays registered. Node 1 still has the
-- page alone when it is stopped.
abbrev pub KeepsTheWantedMapping : Type 0
KeepsTheWantedMapping =
    let events = in_order ((0, 6) ∷ (1, 24) ∷ (0, 6) ∷ []) ++ starved 0 ∷ in_order ((1, 7) ∷ []) in
    Outcome entering events
    (record {
      traces = [] ∷ (Store 0 7 ∷ Store 0 8 ∷ Signal OfClose 0 ∷ []) ∷ [];
      ends = Some NoMemory ∷ Some (Stopped 0) ∷ [];
      pages = 5 ∷ 0 ∷ [];
      counts = record no_counts { write_faults = 1; overwrites = 1; enters = 1; unready = 1 };
    })
    × (map (word (lay_in entering) (reached entering events).words) (Map 0 0 ∷ Dir 0 0 ∷ Dir 1 0 ∷ Turn 0 0 ∷ []) ≡ 3 ∷ 1 ∷ 2 ∷ 0 ∷ [])

-- A claim that is withdrawn. Node 0 has claimed the page, and looks again: node 1 has registered meanwhile, so both share it. Node 1 had found node 0
-- busy, and its visit finds nothing to break.
abbrev pub claiming : Setup
claiming = cluster 2 1 2 [] (Me 1 ∷ Li 3 7 ∷ St 3 1 0 ∷ Halt ∷ [])

abbrev pub WithdrawsItsClaim : Type 0
WithdrawsItsClaim =
    (word (lay_in claiming) (reached claiming (in_order ((0, 12) ∷ (1, 9) ∷ []))).words (Dir 0 0) ≡ 3)
    × Outcome claiming (in_order ((0, 12) ∷ (1, 9) ∷ (0, 6) ∷ (1, 25) ∷ (0, 14) ∷ (1, 23) ∷ (0, 3) ∷ []))
    (record {
      traces = (Store 0 7 ∷ Signal OfClose 0 ∷ Pass OfClose 2 ∷ []) ∷ (Store 1 7 ∷ Signal OfClose 1 ∷ Pass OfClose 2 ∷ []) ∷ [];
      ends = Some Halted ∷ Some Halted ∷ [];
      pages = 7 ∷ 7 ∷ [];
      counts = record no_counts { write_faults = 2; overwrites = 1; twins = 1; flushes = 1; notices = 1 };
    })

-- A release that another has made already. Processors 2 and 3 of node 1 have the page dirty. Processor 2 draws the time of its release; then processor 3
-- flushes the page; so processor 2 need not.
abbrev pub coalescing : Setup
coalescing = cluster 2 2 4 [] (Me 1 ∷ Bne 1 2 4 ∷ Ld 3 2 0 ∷ Halt ∷ Li 3 1 ∷ Beq 1 3 7 ∷ St 1 1 0 ∷ Halt ∷ [])

abbrev pub CoalescesAFlush : Type 0
CoalescesAFlush =
    Outcome coalescing (in_order ((0, 13) ∷ (2, 37) ∷ (3, 15) ∷ (2, 2) ∷ (3, 28) ∷ (2, 7) ∷ (1, 7) ∷ (0, 6) ∷ (1, 1) ∷ (2, 1) ∷ (3, 1) ∷ []))
    (record {
      traces =
          (Load 0 0 ∷ Signal OfClose 3 ∷ Pass OfClose 4 ∷ [])
          ∷ (Signal OfClose 2 ∷ Pass OfClose 4 ∷ [])
          ∷ (Store 2 2 ∷ Signal OfClose 1 ∷ Pass OfClose 4 ∷ [])
          ∷ (Store 3 3 ∷ Signal OfClose 0 ∷ Pass OfClose 4 ∷ [])
          ∷ [];
      ends = Some Halted ∷ Some Halted ∷ Some Halted ∷ Some Halted ∷ [];
      pages = 0 ∷ 0 ∷ 2 ∷ 3 ∷ [];
      counts = record no_counts { read_faults = 1; write_faults = 2; overwrites = 1; twins = 1; flushes = 1; early = 1 };
    })

-- A visit that finds the page broken. Nodes 0 and 1 both find node 2 busy; node 0's visit breaks the page, and node 1's, which comes later, does not.
abbrev pub visiting : Setup
visiting = cluster 3 1 1 [] (Me 1 ∷ Li 3 2 ∷ Bne 1 3 5 ∷ St 3 2 0 ∷ Halt ∷ Ld 4 2 0 ∷ Halt ∷ [])

abbrev pub BreaksOnce : Type 0
BreaksOnce =
    Outcome visiting (in_order ((2, 21) ∷ (0, 13) ∷ (1, 13) ∷ (0, 18) ∷ (1, 15) ∷ (0, 3) ∷ (1, 3) ∷ (2, 17) ∷ (1, 1) ∷ (0, 4) ∷ []))
    (record {
      traces =
          (Load 0 2 ∷ Signal OfClose 0 ∷ Pass OfClose 3 ∷ [])
          ∷ (Load 0 2 ∷ Signal OfClose 1 ∷ Pass OfClose 3 ∷ [])
          ∷ (Store 0 2 ∷ Signal OfClose 2 ∷ Pass OfClose 3 ∷ [])
          ∷ [];
      ends = Some Halted ∷ Some Halted ∷ Some Halted ∷ [];
      pages = 2 ∷ [];
      counts = record no_counts { read_faults = 2; write_faults = 1; overwrites = 2; notices = 2; enters = 1; breaks = 1 };
    })

-- Two processors of a node add 1 to a word under a lock. Processor 1 loses its first exchange, finds the lock held, and then takes it with count 1; it
-- may use the page at once, which its node has alone.
abbrev pub adding : Setup
adding = node 2 1 (Lock 0 ∷ Ld 3 2 0 ∷ Addi 3 3 1 ∷ St 3 2 0 ∷ Unlock 0 ∷ Halt ∷ [])

abbrev pub adding_events : List Event
adding_events = in_order ((0, 1) ∷ (1, 1) ∷ (0, 1) ∷ (1, 4) ∷ (0, 29) ∷ (1, 23) ∷ (0, 14) ∷ (1, 1) ∷ [])

abbrev pub LocksInTurn : Type 0
LocksInTurn =
    Outcome adding adding_events
    (record {
      traces =
          (Pass (OfLock 0) 0 ∷ Load 0 0 ∷ Store 0 1 ∷ Signal (OfLock 0) 0 ∷ Signal OfClose 1 ∷ Pass OfClose 2 ∷ [])
          ∷ (Pass (OfLock 0) 1 ∷ Load 0 1 ∷ Store 0 2 ∷ Signal (OfLock 0) 1 ∷ Signal OfClose 0 ∷ Pass OfClose 2 ∷ [])
          ∷ [];
      ends = Some Halted ∷ Some Halted ∷ [];
      pages = 2 ∷ [];
      counts = record no_counts { read_faults = 2; write_faults = 2; enters = 1; breaks = 1; unready = 2 };
    })

-- The lock's word is 1 while it is held for the first time, and 4 behind two unlocks.
abbrev pub LockWordCounts : Type 0
LockWordCounts =
    (word (lay_in adding) (reached adding (in_order ((0, 1) ∷ (1, 1) ∷ (0, 1) ∷ []))).words (LockWord 0) ≡ 1)
    × (word (lay_in adding) (reached adding adding_events).words (LockWord 0) ≡ 4)

-- A lost exchange is an unready look: where it is the last one allowed, the processor ends by the exchange of the stop word that comes next.
abbrev pub LooksAtALock : Type 0
LooksAtALock =
    Outcome (with_looks 1 adding) (in_order ((0, 1) ∷ (1, 1) ∷ (0, 1) ∷ (1, 2) ∷ []))
    (record { traces = (Pass (OfLock 0) 0 ∷ []) ∷ [] ∷ []; ends = None ∷ Some Looked ∷ []; pages = 0 ∷ []; counts = record no_counts { unready = 1 } })

-- Two processors meet at a barrier twice: the second round needs four arrivals.
abbrev pub MeetTwice : Type 0
MeetTwice =
    Outcome (node 2 1 (Bar 0 ∷ Bar 0 ∷ Halt ∷ [])) (in_order ((0, 3) ∷ (1, 3) ∷ (0, 5) ∷ (1, 5) ∷ (0, 3) ∷ (1, 3) ∷ (0, 5) ∷ (1, 5) ∷ (0, 3) ∷ (1, 4) ∷ (0, 2) ∷ []))
    (record {
      traces =
          (Signal (OfBarrier 0) 0 ∷ Pass (OfBarrier 0) 2 ∷ Signal (OfBarrier 0) 2 ∷ Pass (OfBarrier 0) 4 ∷ Signal OfClose 0 ∷ Pass OfClose 2 ∷ [])
          ∷ (Signal (OfBarrier 0) 1 ∷ Pass (OfBarrier 0) 2 ∷ Signal (OfBarrier 0) 3 ∷ Pass (OfBarrier 0) 4 ∷ Signal OfClose 1 ∷ Pass OfClose 2 ∷ [])
          ∷ [];
      ends = Some Halted ∷ Some Halted ∷ [];
      pages = 0 ∷ [];
      counts = no_counts;
    })

-- Processor 0 waits for a flag that processor 1 sets: it looks twice in vain, each time with a load of the stop word, and then passes.
abbrev pub PassesAtTheThirdLook : Type 0
PassesAtTheThirdLook =
    Outcome (node 2 1 (Me 1 ∷ Bne 1 2 4 ∷ Wait 0 1 ∷ Halt ∷ Set 0 ∷ Halt ∷ [])) (in_order ((0, 6) ∷ (1, 5) ∷ (0, 8) ∷ (1, 4) ∷ (0, 2) ∷ []))
    (record {
      traces = (Pass (OfFlag 0) 1 ∷ Signal OfClose 0 ∷ Pass OfClose 2 ∷ []) ∷ (Signal (OfFlag 0) 0 ∷ Signal OfClose 1 ∷ Pass OfClose 2 ∷ []) ∷ [];
      ends = Some Halted ∷ Some Halted ∷ [];
      pages = 0 ∷ [];
      counts = record no_counts { unready = 2 };
    })

-- Nobody sets the flag that processor 0 waits for, and so nobody passes the barrier. Both end at their fifth unready look; the stop word names processor 0,
-- the first to end.
abbrev pub waiting : Setup
waiting = with_looks 5 (node 2 2 (Me 1 ∷ Li 2 0 ∷ Bne 1 2 4 ∷ Wait 0 1 ∷ Bar 0 ∷ Halt ∷ []))

abbrev pub BothLook : Type 0
BothLook =
    let events = in_order ((0, 12) ∷ (1, 15) ∷ (0, 1) ∷ (1, 1) ∷ []) in
    Outcome waiting events
    (record { traces = [] ∷ (Signal (OfBarrier 0) 0 ∷ []) ∷ []; ends = Some Looked ∷ Some Looked ∷ []; pages = 0 ∷ 0 ∷ []; counts = record no_counts { unready = 10 } })
    × (word (lay_in waiting) (reached waiting events).words Stop ≡ 1)

-- Processor 1 divides by 0: its one operation there is the exchange of the stop word, and the end comes with it. Processor 0, which waits, is stopped by it.
abbrev pub dividing : Setup
dividing = node 2 1 (Me 1 ∷ Bne 1 2 3 ∷ Wait 0 1 ∷ Div 1 2 3 ∷ Halt ∷ [])

abbrev pub StoppedByATrap : Type 0
StoppedByATrap =
    Outcome dividing (of_all (0 ∷ 1 ∷ 0 ∷ 1 ∷ 0 ∷ []))
    (record { traces = [] ∷ [] ∷ []; ends = None ∷ None ∷ []; pages = 0 ∷ []; counts = record no_counts { unready = 1 } })
    × Outcome dividing (of_all (in_turn 3 ++ 0 ∷ []))
    (record { traces = [] ∷ [] ∷ []; ends = Some (Stopped 1) ∷ Some (Trapped 3 DivideByZero) ∷ []; pages = 0 ∷ []; counts = record no_counts { unready = 1 } })
    × (word (lay_in dividing) (reached dividing (of_all (in_turn 3))).words Stop ≡ 2)

-- A load past the last word, and an unlock of a lock that is not held.
abbrev pub TrapsAtOnce : Type 0
TrapsAtOnce =
    Outcome (node 1 4 (Ld 1 2 4 ∷ Halt ∷ [])) (of_all (0 ∷ []))
    (record { traces = [] ∷ []; ends = Some (Trapped 0 (Address 4)) ∷ []; pages = 0 ∷ 0 ∷ 0 ∷ 0 ∷ []; counts = no_counts })
    × Outcome (node 1 1 (Unlock 0 ∷ Halt ∷ [])) (of_all (0 ∷ []))
    (record { traces = [] ∷ []; ends = Some (Trapped 0 (NotHeld 0)) ∷ []; pages = 0 ∷ []; counts = no_counts })

-- An unlock that was done forgets the pass: a second one is of a lock that is not held.
abbrev pub UnlocksOnce : Type 0
UnlocksOnce =
    Outcome (node 1 1 (Lock 0 ∷ Unlock 0 ∷ Unlock 0 ∷ [])) (of_all (replicate 10 0))
    (record { traces = (Pass (OfLock 0) 0 ∷ Signal (OfLock 0) 0 ∷ []) ∷ []; ends = Some (Trapped 2 (NotHeld 0)) ∷ []; pages = 0 ∷ []; counts = no_counts })

-- Processor 1 has no memory for its arrival: it tells all others to stop and ends, and processor 0, which waits for it, is stopped.
abbrev pub StoppedByAStarved : Type 0
StoppedByAStarved =
    Outcome (node 2 1 (Halt ∷ [])) (in_order ((0, 3) ∷ []) ++ starved 1 ∷ in_order ((0, 2) ∷ []))
    (record { traces = (Signal OfClose 0 ∷ []) ∷ [] ∷ []; ends = Some (Stopped 1) ∷ Some NoMemory ∷ []; pages = 0 ∷ []; counts = record no_counts { unready = 1 } })

-- With two instructions allowed, the third event is the exchange of the stop word, and the end comes with it.
abbrev pub SpendsTwo : Type 0
SpendsTwo =
    Outcome (with_turns 2 (node 1 1 (Jmp 0 ∷ []))) (of_all (replicate 2 0)) (record { traces = [] ∷ []; ends = None ∷ []; pages = 0 ∷ []; counts = no_counts })
    × Outcome (with_turns 2 (node 1 1 (Jmp 0 ∷ []))) (of_all (replicate 3 0)) (record { traces = [] ∷ []; ends = Some Spent ∷ []; pages = 0 ∷ []; counts = no_counts })

-- A processor that has ended has no further event, starved or not, and one that there is not has none at all.
abbrev pub NoneBehindTheEnd : Type 0
NoneBehindTheEnd =
    (all_defined (node 1 1 (Halt ∷ [])) (start (node 1 1 (Halt ∷ []))) (of_all (replicate 6 0)) ≡ false)
    × (all_defined (node 1 1 (Halt ∷ [])) (start (node 1 1 (Halt ∷ []))) (of_all (replicate 5 0) ++ starved 0 ∷ []) ≡ false)
    × (all_defined (node 1 1 (Halt ∷ [])) (start (node 1 1 (Halt ∷ []))) (of_all (1 ∷ [])) ≡ false)

-- The third operation of the first program takes a turn. One that holds a turn is not starved; before that, and once it is given back, it can be.
abbrev pub may_starve_behind : ℕ → Bool
may_starve_behind events = all_defined (node 1 4 first_program) (start (node 1 4 first_program)) (of_all (replicate events 0) ++ starved 0 ∷ [])

abbrev pub NoneStarvedWithATurn : Type 0
NoneStarvedWithATurn = map may_starve_behind (2 ∷ 3 ∷ 14 ∷ 15 ∷ []) ≡ true ∷ false ∷ false ∷ true ∷ []

-- In a loose event a load of a frame's word may have any answer; those of other words have their own. The load's fault takes nine operations.
abbrev pub loading : Setup
loading = node 1 1 (Li 1 3 ∷ Ld 1 2 0 ∷ Ld 1 2 0 ∷ [])

abbrev pub LoadsLoosely : Type 0
LoadsLoosely =
    let nine : Event × Option ℕ = (record { p = 0; starved = false }, Some 9) in
    let none : Event × Option ℕ = (record { p = 0; starved = false }, None) in
    map (λ m. m.own.trace) (after_all_loose loading (start loading) (replicate 11 nine ++ none ∷ [])).processors ≡ (Load 0 9 ∷ Load 0 0 ∷ []) ∷ []

-- One processor by itself, given its answers, the newest first: it waits for a flag, and the answers say whether it was set and whether another has stopped.
abbrev pub told : List ℕ → List Given
told answers = map (λ got. record { starved = false; got = got }) answers

abbrev pub IsWhatItWasGiven : Type 0
IsWhatItWasGiven =
    (next_op (who_at dividing 0) (processor_of (who_at dividing 0) (Wait 0 2 ∷ []) []) ≡ Some (LoadAt 20))
    × (next_op (who_at dividing 0) (processor_of (who_at dividing 0) (Wait 0 2 ∷ []) (told (1 ∷ []))) ≡ Some (LoadAt 0))
    × (ending (processor_of (who_at dividing 0) (Wait 0 2 ∷ []) (told (2 ∷ 1 ∷ []))) ≡ Some (Stopped 1))
    × ((processor_of (who_at dividing 0) (Wait 0 2 ∷ []) (told (3 ∷ 0 ∷ 1 ∷ []))).own.trace ≡ Pass (OfFlag 0) 3 ∷ [])
    × (next_op (who_at dividing 0) (processor_of (who_at dividing 0) (Unlock 0 ∷ []) []) ≡ Some (Exchange 0 0 1))

-- The moments of a list of events, each with the number of its event; the first event has number k.
unfoldable pub numbered : Setup → Cluster → ℕ → List Event → List (ℕ × Moment)
numbered s c k [] = []
numbered s c k (e ∷ es) = map (λ d. (k, d)) (moments_if s c e None (slice_get c.processors e.p)) ++ numbered s (after_event s c e) (k + 1) es

-- These events can be from the start on, and their history is these moments, each in the event with its number; the first event has number 1.
pub record HasMoments (s : Setup) (events : List Event) (noted : List (ℕ × Moment)) : Type 0 where
  pub defined : AreDefined s events
  pub numbers : numbered s (start s) 1 events ≡ noted
  pub moments : history s (start s) (map exactly events) ≡ map (λ m. m.1) noted

-- The run with a merge and a flush. Processor 1 stores for the first time: node 1 overwrites its frame, in events 28 to 31. Processor 0 stores and
-- releases: the home stores the time of its flush in event 58, and the last word of the directory that it looks at for its notices is that of event 61.
-- Processor 1 finds the flag set, and its acquire, which unmaps the page, ends where it gives the page's turn back. Its next load merges, in events 91 to
-- 96. Its last release flushes, notes the time in event 119, and looks at the directory for the last time in event 121. Both find that all have arrived.
abbrev pub HasItsMoments : Type 0
HasItsMoments =
    HasMoments merging merging_events
    ((28, Began 1 0)
    ∷ (31, Fetched 1 0)
    ∷ (58, Sent 0 0)
    ∷ (61, Told 0 0)
    ∷ (65, Passed 1)
    ∷ (81, Acquired 1)
    ∷ (91, Began 1 0)
    ∷ (96, Fetched 1 0)
    ∷ (119, Sent 1 0)
    ∷ (121, Told 1 0)
    ∷ (126, Passed 1)
    ∷ (127, Passed 0)
    ∷ [])

-- The copy of an enter, and the two ways to break. Two pages of one word. Node 0 has become the home of page 0 and has not yet registered (events 1 to 6),
-- when processor 1 stores to it: node 1 enters, and copies the home's word in events 21 and 22. It is itself the home of page 1, to which processor 1
-- stores next: there it enters without a copy (to event 43). Processor 0 goes on, and visits node 1: the last operation of the break of page 0 is event 58,
-- with which the page is sent and all are told. Processor 1's last release flushes this page once more: events 75 and 77. Processor 0 finds that both have
-- arrived, and its closing work breaks page 1 at its home, which ends with event 96. Then processor 1 finds the same.
abbrev pub breaking : Setup
breaking = with_pages 2 (cluster 2 1 1 [] (Me 1 ∷ Bne 1 2 4 ∷ Ld 3 2 0 ∷ Halt ∷ St 1 2 0 ∷ St 1 2 1 ∷ Halt ∷ []))

abbrev pub NotesItsBreaks : Type 0
NotesItsBreaks =
    HasMoments breaking (in_order ((0, 6) ∷ (1, 37) ∷ (0, 21) ∷ (1, 18) ∷ (0, 15) ∷ (1, 1) ∷ []))
    ((21, Began 1 0)
    ∷ (22, Fetched 1 0)
    ∷ (58, Sent 1 0)
    ∷ (58, Told 1 0)
    ∷ (75, Sent 1 0)
    ∷ (77, Told 1 0)
    ∷ (86, Passed 0)
    ∷ (96, Sent 1 1)
    ∷ (96, Told 1 1)
    ∷ (98, Passed 1)
    ∷ [])

-- A send that is told late. One page of two words. Node 0 becomes its home, and registers (events 1 to 9); processor 1 stores to word 1 behind a copy of
-- events 25 to 28; processor 0 stores to word 0. Processor 1 releases: the flush is noted in event 59, and nobody is told yet. Processor 0 releases: sent
-- with event 67, told with event 71. Processor 2 passes the flag, and was told of no page: its acquire ends where it takes its own notices, event 84. It
-- loads word 0: its node registers, and copies both words in events 97 to 100. Only now processor 1 goes on: it finds node 2 in the directory, and posts
-- it a notice, which is its last operation there, event 108. So behind its second pass processor 2 drops a copy that has all that was sent, and its node
-- leaves the directory; the acquire ends with event 132.
abbrev pub late : Setup
late = cluster 3 1 2 [] (Me 1 ∷ Li 3 2 ∷ Beq 1 3 6 ∷ St 3 1 0 ∷ Set 0 ∷ Halt ∷ Wait 0 1 ∷ Ld 4 2 0 ∷ Wait 0 2 ∷ Halt ∷ [])

abbrev pub late_events : List Event
late_events = in_order ((0, 9) ∷ (1, 29) ∷ (0, 6) ∷ (1, 15) ∷ (0, 15) ∷ (2, 30) ∷ (1, 9) ∷ (2, 19) ∷ [])

abbrev pub NotesALateTelling : Type 0
NotesALateTelling =
    HasMoments late late_events
    ((25, Began 1 0)
    ∷ (28, Fetched 1 0)
    ∷ (59, Sent 1 0)
    ∷ (67, Sent 0 0)
    ∷ (71, Told 0 0)
    ∷ (78, Passed 2)
    ∷ (84, Acquired 2)
    ∷ (97, Began 2 0)
    ∷ (100, Fetched 2 0)
    ∷ (108, Told 1 0)
    ∷ (114, Passed 2)
    ∷ (132, Acquired 2)
    ∷ [])

-- An acquire that drops a copy, and one that keeps it. Two nodes of two processors, and one page of one word, which starts as 5. Node 0 becomes the home, and
-- registers (events 1 to 8). Processor 2 loads, and copies for its node in events 22 and 23; processor 3 loads too, which needs no copy. Processor 0 stores
-- 0 and releases: sent with event 52, told with the notice of event 55. Processor 2 passes, hands the notice on to processor 3, and unmaps the page; its
-- acquire ends with event 76. Its next load copies in events 86 and 87. Processor 3 passes, finds the page among its own notices, and its node's copy up to
-- date: it keeps its mapping. Its acquire ends where it gives the page's turn back, event 102, and its load is one operation.
abbrev pub keeping : Setup
keeping = cluster 2 2 1 ((0, 5) ∷ []) (Me 1 ∷ Bne 1 2 5 ∷ St 2 2 0 ∷ Set 0 ∷ Halt ∷ Ld 3 2 0 ∷ Wait 0 1 ∷ Ld 3 2 0 ∷ Halt ∷ [])

abbrev pub keeping_runs : List (ℕ × ℕ)
keeping_runs = (0, 8) ∷ (2, 19) ∷ (3, 12) ∷ (0, 19) ∷ (2, 33) ∷ (3, 12) ∷ []

abbrev pub NotesWhoKeeps : Type 0
NotesWhoKeeps =
    HasMoments keeping (in_order keeping_runs)
    ((22, Began 1 0)
    ∷ (23, Fetched 1 0)
    ∷ (52, Sent 0 0)
    ∷ (55, Told 0 0)
    ∷ (59, Passed 2)
    ∷ (76, Acquired 2)
    ∷ (86, Began 1 0)
    ∷ (87, Fetched 1 0)
    ∷ (92, Passed 3)
    ∷ (102, Acquired 3)
    ∷ [])
    × (map (λ m. m.own.trace) (reached keeping (in_order keeping_runs)).processors
    ≡ (Store 0 0 ∷ Signal (OfFlag 0) 0 ∷ [])
    ∷ []
    ∷ (Load 0 5 ∷ Pass (OfFlag 0) 1 ∷ Load 0 0 ∷ [])
    ∷ (Load 0 5 ∷ Pass (OfFlag 0) 1 ∷ Load 0 0 ∷ [])
    ∷ [])
    × (map (λ m. m.own.counts.unmaps) (reached keeping (in_order keeping_runs)).processors ≡ 0 ∷ 0 ∷ 1 ∷ 0 ∷ [])

-- Releases that send nothing. Two nodes of two processors, and one page of four words, a word for each. Node 0 becomes the home, and registers (events 1 to
-- 8). Processor 2 stores: node 1 copies in events 22 to 29, and makes a twin. Processor 3 stores by the same copy. Processors 0 and 1 store at home.
-- Processor 1 begins its release, and draws its time (event 73); then processor 0 releases: sent with event 82, told with event 85. So processor 1 finds a
-- later flush, and notes nothing. Processor 3 passes, and unmaps the page, which is still dirty; its acquire ends with event 115. Processor 2's release
-- flushes what both stored: sent with event 137, told with event 139; and it drops the twin. Processor 3's release finds no twin. It stores the time of a
-- flush in event 154, and looks in the directory whom to tell in events 155 and 156, but it sends nothing, and notes nothing.
abbrev pub sending_nothing : Setup
sending_nothing = cluster 2 2 4 [] (Me 1 ∷ Li 3 3 ∷ St 1 1 0 ∷ Bne 1 3 5 ∷ Wait 0 1 ∷ Set 0 ∷ Halt ∷ [])

abbrev pub sending_nothing_runs : List (ℕ × ℕ)
sending_nothing_runs = (0, 8) ∷ (2, 35) ∷ (3, 13) ∷ (0, 5) ∷ (1, 12) ∷ (0, 15) ∷ (1, 8) ∷ (3, 19) ∷ (2, 30) ∷ []

abbrev pub NotesNoSend : Type 0
NotesNoSend =
    let events = in_order (sending_nothing_runs ++ (3, 13) ∷ []) in
    HasMoments sending_nothing events
    ((22, Began 1 0)
    ∷ (29, Fetched 1 0)
    ∷ (82, Sent 0 0)
    ∷ (85, Told 0 0)
    ∷ (98, Passed 3)
    ∷ (115, Acquired 3)
    ∷ (137, Sent 1 0)
    ∷ (139, Told 1 0)
    ∷ [])
    × (map (word (lay_in sending_nothing) (reached sending_nothing (in_order sending_nothing_runs)).words)
    (Flush 0 0 ∷ Flush 1 0 ∷ Twined 1 0 ∷ Frame 0 0 0 ∷ Frame 0 0 1 ∷ Frame 0 0 2 ∷ Frame 0 0 3 ∷ [])
    ≡ 3 ∷ 4 ∷ 0 ∷ 0 ∷ 1 ∷ 2 ∷ 3 ∷ [])
    × (map (word (lay_in sending_nothing) (reached sending_nothing events).words) (Flush 0 0 ∷ Flush 1 0 ∷ []) ≡ 3 ∷ 6 ∷ [])

-- 130 pages of one word, and notices in three groups. Node 1 is the home of pages 0, 64 and 129. Processor 0 loads each while processor 1, which stores to
-- it, has registered and not yet looked who else uses it. Processor 1 sets the flag: its release sends and tells the three pages, one behind the other. The
-- notices for node 0 are bit 0 of group 0, bit 0 of group 1 and bit 1 of group 2. Processor 0 passes, takes all three, and unmaps three pages; its acquire
-- ends with event 174. It loads the last page again.
abbrev pub spreading : Setup
spreading =
    with_pages 130
    (cluster 2 1 1 []
    (Me 1 ∷ Bne 1 2 8 ∷ Ld 3 2 0 ∷ Ld 3 2 64 ∷ Ld 3 2 129 ∷ Wait 0 1 ∷ Ld 3 2 129 ∷ Halt ∷ St 1 2 0 ∷ St 1 2 64 ∷ St 1 2 129 ∷ Set 0 ∷ Halt ∷ []))

-- up to the set of the flag
abbrev pub spreading_runs : List (ℕ × ℕ)
spreading_runs = (1, 8) ∷ (0, 19) ∷ (1, 11) ∷ (0, 17) ∷ (1, 11) ∷ (0, 17) ∷ (1, 43) ∷ []

abbrev pub NotesThreeGroups : Type 0
NotesThreeGroups =
    HasMoments spreading (in_order (spreading_runs ++ (0, 61) ∷ []))
    ((22, Began 0 0)
    ∷ (23, Fetched 0 0)
    ∷ (50, Began 0 64)
    ∷ (51, Fetched 0 64)
    ∷ (78, Began 0 129)
    ∷ (79, Fetched 0 129)
    ∷ (98, Sent 1 0)
    ∷ (101, Told 1 0)
    ∷ (109, Sent 1 64)
    ∷ (112, Told 1 64)
    ∷ (120, Sent 1 129)
    ∷ (123, Told 1 129)
    ∷ (127, Passed 0)
    ∷ (174, Acquired 0)
    ∷ (186, Began 0 129)
    ∷ (187, Fetched 0 129)
    ∷ [])
    × (map (word (lay_in spreading) (reached spreading (in_order spreading_runs)).words) (Global 0 1 0 ∷ Global 0 1 1 ∷ Global 0 1 2 ∷ []) ≡ 1 ∷ 1 ∷ 2 ∷ [])

-- What the events gave, where processor 1 is starved before its arrival: processor 0 was given a time, no page, the number of its arrival, that of the
-- arrivals it then found, and the stop word; processor 1 was starved, and found the stop word as 0.
abbrev pub halting : Setup
halting = node 2 1 (Halt ∷ [])

abbrev pub GivesEachItsOwn : Type 0
GivesEachItsOwn =
    let events = map exactly (in_order ((0, 3) ∷ []) ++ starved 1 ∷ in_order ((0, 2) ∷ [])) in
    (given_by halting events 0 ≡ told (2 ∷ 1 ∷ 0 ∷ 0 ∷ 1 ∷ []))
    × (given_by halting events 1 ≡ record { starved = true; got = 0 } ∷ [])

-- At the start of two nodes with two pages of one word, each node has the program's values, the clocks are 1, and no page has a home.
abbrev pub two_nodes : Setup
two_nodes =
    record {
      program = record { shape = record { pages = 2; words = 1; locks = 1; barriers = 1; flags = 1 }; init = (0, 5) ∷ (1, 6) ∷ []; code = [] };
      nodes = 2;
      procs = 1;
      limits = record { turns = 1; looks = None };
    }

abbrev pub Starts : Type 0
Starts =
    (length (first_words two_nodes) ≡ total (lay_in two_nodes))
    × (map (word (lay_in two_nodes) (first_words two_nodes)) (Frame 0 0 0 ∷ Frame 0 1 0 ∷ Frame 1 0 0 ∷ Frame 1 1 0 ∷ []) ≡ 5 ∷ 6 ∷ 5 ∷ 6 ∷ [])
    × (map (word (lay_in two_nodes) (first_words two_nodes)) (Stop ∷ Notice 1 1 ∷ Clock 0 ∷ Clock 1 ∷ Turn 0 0 ∷ Home 1 ∷ []) ≡ 0 ∷ 0 ∷ 1 ∷ 1 ∷ 0 ∷ 0 ∷ [])
