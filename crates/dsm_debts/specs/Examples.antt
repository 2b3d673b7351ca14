-- Lists of events that meet every premise, worked out by hand, with the oldest event first.
use Rattle.std.specs.Prelude.{ℕ, suc, Bool, Option, None, Some, List, [], ◌∷◌, reverse}
use Rattle.dsm_copies.specs.Copies as W
use Rattle.dsm_copies.specs.Examples.{places, origin}
use Rattle.dsm_debts.specs.Page.{Running, Event, Tick, Store, Open, Take, Signal, Keep, Early, Map_exclusive, Map_write, Unmap, Make, Enter, Draw, Begin, Load, Differ, Refresh, Send, Stamp, Stamp_bare, Tell, Lower, Look, Drop, Finish, Break, Mark, Pass_by, Copy, Raise, End, End_home, State, after, start}
use Rattle.dsm_debts.specs.Premises.{Runs}
use Rattle.dsm_debts.specs.Joining.{Move, At, Other, RunsMoves, events_of, pages_start}

-- the node's processors are 0, 1 and 2, the clock begins at 1, and no release has begun
abbrev pub begins : State
begins = start 1 (λ q. Running)

-- the list meets every premise
abbrev pub Meets : Bool → List Event → Type 0
Meets home es = Runs home 0 3 begins (reverse es)

-- how far the last store of processor q has come behind the list
abbrev pub debt_after : Bool → List Event → ℕ → ℕ
debt_after home es q = ((after home 0 begins (reverse es)).processors q).debt

-- Three processors store. The release of processor 0 flushes; that of processor 1 began before this flush was timed, and so is early;
-- processor 2 has stored behind the load, flushes by itself, and drops the twin.
abbrev pub shared : List Event
shared =
    Make ∷ Map_write 0 ∷ Map_write 1 ∷ Map_write 2 ∷ Store 0 ∷ Store 1 ∷ Open 0 ∷ Take 0 ∷ Open 1 ∷ Take 1 ∷ Draw 0 ∷ Begin ∷
    Load ∷ Store 2 ∷ Differ ∷ Refresh ∷ Send ∷ Stamp ∷ Tell ∷ Lower ∷ Look ∷ Finish ∷ Signal 0 ∷ Unmap 1 ∷ Early 1 ∷ Signal 1 ∷
    Open 2 ∷ Take 2 ∷ Draw 2 ∷ Begin ∷ Load ∷ Differ ∷ Refresh ∷ Send ∷ Stamp ∷ Tell ∷ Lower ∷ Look ∷ Look ∷ Look ∷ Drop ∷
    Finish ∷ Signal 2 ∷ []

-- A store is still due when the node becomes exclusive; its break has a store behind its load of the word, and bits that are taken.
abbrev pub alone : List Event
alone =
    Make ∷ Map_write 0 ∷ Store 0 ∷ Unmap 0 ∷ Map_write 1 ∷ Open 1 ∷ Take 1 ∷ Draw 1 ∷ Begin ∷ Load ∷ Differ ∷ Refresh ∷ Send ∷
    Stamp ∷ Tell ∷ Lower ∷ Look ∷ Look ∷ Look ∷ Drop ∷ Finish ∷ Signal 1 ∷ Enter ∷ Map_exclusive 0 ∷ Map_exclusive 1 ∷
    Store 0 ∷ Open 0 ∷ Take 0 ∷ Keep 0 ∷ Signal 0 ∷ Break ∷ Mark ∷ Mark ∷ Pass_by ∷ Copy ∷ Load ∷ Store 1 ∷ Refresh ∷ Send ∷
    Raise ∷ End ∷ Store 0 ∷ Open 1 ∷ Take 1 ∷ Open 0 ∷ Take 0 ∷ Draw 1 ∷ Begin ∷ Load ∷ Differ ∷ Refresh ∷ Send ∷ Stamp ∷
    Tell ∷ Lower ∷ Finish ∷ Signal 1 ∷ Unmap 0 ∷ Early 0 ∷ Signal 0 ∷ Tick ∷ []

-- The home: a release, a store in exclusive use that is signalled before it is told, the break, and the bit that it sets.
abbrev pub home : List Event
home =
    Map_write 0 ∷ Store 0 ∷ Open 0 ∷ Take 0 ∷ Draw 0 ∷ Stamp_bare ∷ Tell ∷ Lower ∷ Finish ∷ Signal 0 ∷ Enter ∷
    Map_exclusive 1 ∷ Store 1 ∷ Open 1 ∷ Take 1 ∷ Signal 1 ∷ Break ∷ Pass_by ∷ Mark ∷ Pass_by ∷ End_home ∷ Open 1 ∷ Take 1 ∷
    Draw 1 ∷ Stamp_bare ∷ Tell ∷ Lower ∷ Finish ∷ Signal 1 ∷ []

-- up to the load of the flush by processor 0, and the store of processor 2 behind it
abbrev pub early : List Event
early =
    Make ∷ Map_write 0 ∷ Map_write 1 ∷ Map_write 2 ∷ Store 0 ∷ Store 1 ∷ Open 0 ∷ Take 0 ∷ Open 1 ∷ Take 1 ∷ Draw 0 ∷ Begin ∷
    Load ∷ Store 2 ∷ []

-- and up to the end of that flush
abbrev pub flushed : List Event
flushed =
    Make ∷ Map_write 0 ∷ Map_write 1 ∷ Map_write 2 ∷ Store 0 ∷ Store 1 ∷ Open 0 ∷ Take 0 ∷ Open 1 ∷ Take 1 ∷ Draw 0 ∷ Begin ∷
    Load ∷ Store 2 ∷ Differ ∷ Refresh ∷ Send ∷ Stamp ∷ Tell ∷ Lower ∷ Look ∷ Finish ∷ []

-- one processor at each place: where its processors begin, and where they end
abbrev pub first : Option ℕ → ℕ
first None = 0
first (Some n) = n

abbrev pub top : Option ℕ → ℕ
top None = 1
top (Some n) = suc n

-- Node 1 stores 5, flushes it, and drops its twin; the others load it. Node 1 enters, stores 6 and signals, and is broken; node 2
-- loads 6.
abbrev pub moves : List Move
moves =
    Other (W.Begin 1 W.Overwrite) ∷ Other (W.Op 1) ∷ Other (W.Op 1) ∷ Other (W.Op 1) ∷ Other (W.Begin 1 W.Make) ∷
    Other (W.Op 1) ∷ Other (W.Op 1) ∷ Other (W.Op 1) ∷ At (Some 1) 0 Make ∷ At (Some 1) 0 (Map_write 1) ∷
    At (Some 1) 5 (Store 1) ∷ At (Some 1) 0 (Open 1) ∷ At (Some 1) 0 (Take 1) ∷ At (Some 1) 0 (Draw 1) ∷ At (Some 1) 0 Begin ∷
    At (Some 1) 0 Load ∷ At (Some 1) 0 Differ ∷ At (Some 1) 0 Refresh ∷ At (Some 1) 0 Send ∷ At (Some 1) 0 Stamp ∷
    At (Some 1) 0 Tell ∷ At (Some 1) 0 Lower ∷ At (Some 1) 0 Look ∷ At (Some 1) 0 Drop ∷ At (Some 1) 0 Finish ∷
    At (Some 1) 0 (Signal 1) ∷ Other (W.Pass 2) ∷ Other (W.Begin 2 W.Overwrite) ∷ Other (W.Op 2) ∷ Other (W.Op 2) ∷
    Other (W.Op 2) ∷ Other (W.Load 2 5) ∷ Other (W.Pass 0) ∷ Other (W.Load 0 5) ∷ Other (W.Enter 1) ∷ Other (W.Op 1) ∷
    Other (W.Op 1) ∷ At (Some 1) 0 Enter ∷ At (Some 1) 0 (Map_exclusive 1) ∷ At (Some 1) 6 (Store 1) ∷ At (Some 1) 0 (Open 1) ∷
    At (Some 1) 0 (Take 1) ∷ At (Some 1) 0 (Signal 1) ∷ Other (W.Pass 2) ∷ At (Some 1) 0 Break ∷ At (Some 1) 0 Mark ∷
    At (Some 1) 0 Copy ∷ At (Some 1) 0 Load ∷ At (Some 1) 0 Refresh ∷ At (Some 1) 0 Send ∷ At (Some 1) 0 Raise ∷
    At (Some 1) 0 End ∷ Other (W.Begin 2 W.Overwrite) ∷ Other (W.Op 2) ∷ Other (W.Op 2) ∷ Other (W.Op 2) ∷ Other (W.Load 2 6) ∷ []

-- the list of moves meets every premise,
abbrev pub MovesMeet : Type 0
MovesMeet = RunsMoves places first top (pages_start (λ h. 1) (λ h q. Running)) origin (reverse moves)

-- and this is what it is to the copies
abbrev pub copies_of_moves : List W.Event
copies_of_moves = events_of places first top (pages_start (λ h. 1) (λ h q. Running)) (reverse moves)
