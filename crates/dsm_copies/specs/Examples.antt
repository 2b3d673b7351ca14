-- Lists of what happened to one word, written out by hand: some that meet every premise, and for each premise one that breaks the
-- law without it. They are written with the oldest event first.
use Rattle.std.specs.Prelude.{◌≢◌, ℕ, ◌==◌, if◌then◌else◌, Option, None, Some, List, [], ◌∷◌, ◌++◌, reverse, replicate}
use Rattle.dsm_copies.specs.Copies.{State, Event, Load, Store, Signal, Pass, Begin, Op, Drop, Enter, Home_sent, Home_told, Home_enter, Home_break, Flush, Merge, Overwrite, Make, Break, start, latest}
use Rattle.dsm_copies.specs.Premises.{Premise, Values, Order, Apart, Fetched, Told, Broken, Rights, Released, Flushes, Merges, Overwrites, Makes, Breaks, Drops, Kept, Home_sends, Enters, Home_tells, RunsUnder, Every, But}
use Rattle.dsm_copies.specs.Counts.{no_count}
use Rattle.dsm_copies.specs.Debts.{no_debts, RunsOf}
use Rattle.dsm_copies.specs.Laws.{Stored}

-- processor 0 is at the home, and processor p at node p
abbrev pub places : ℕ → Option ℕ
places p = if p == 0 then None else Some p

-- the word starts as 3; all frames have 0, and node k's twin has k
abbrev pub origin : State
origin = start 3 (λ k. 0) (λ k. k)

-- so many operations of the block that is open at node n
abbrev pub ops : ℕ → ℕ → List Event
ops n k = replicate k (Op n)

-- node n fetches the word,
abbrev pub fetches : ℕ → List Event
fetches n = Begin n Overwrite ∷ ops n 3

-- makes a twin,
abbrev pub twins_it : ℕ → List Event
twins_it n = Begin n Make ∷ ops n 3

-- flushes a value that differs from its twin, and tells it,
abbrev pub flushes_it : ℕ → List Event
flushes_it n = Begin n Flush ∷ ops n 6

-- flushes a value that is its twin's,
abbrev pub flushes_nothing : ℕ → List Event
flushes_nothing n = Begin n Flush ∷ ops n 4

-- merges a value that is its twin's,
abbrev pub merges_nothing : ℕ → List Event
merges_nothing n = Begin n Merge ∷ ops n 3

-- enters exclusive use,
abbrev pub enters : ℕ → List Event
enters n = Enter n ∷ ops n 3

-- and ends it by a break
abbrev pub breaks_it : ℕ → List Event
breaks_it n = Begin n Break ∷ ops n 4

-- Node 1 stores 5, flushes it and signals; node 2 passes, fetches and loads it, and so does the home. Node 1 enters, stores 6 and
-- signals; node 2 passes before that is told, node 1 is broken, node 2 fetches and loads 6.
abbrev pub handed_on : List Event
handed_on =
    fetches 1 ++ twins_it 1 ++ Store 1 5 ∷ flushes_it 1 ++ Drop 1 ∷ Signal 1 ∷ Pass 2 ∷ fetches 2 ++ Load 2 5 ∷ Pass 0 ∷ Load 0 5
    ∷ enters 1 ++ Store 1 6 ∷ Signal 1 ∷ Pass 2 ∷ breaks_it 1 ++ fetches 2 ++ Load 2 6 ∷ []

-- The silent store. Node 1 has a twin with 3 in it. The home stores 3 again, sends, tells and signals. Node 1 passes and merges: the
-- home's word is its twin's, so nothing is written, and its load of 3 is that of the home's store. It stores 7, and while a flush of it
-- is under way stores 8. The flush sends 7, and only the next one, which finds 8, covers the last store. The home passes and loads 8.
abbrev pub silent : List Event
silent =
    fetches 1 ++ twins_it 1 ++ Store 0 3 ∷ Home_sent ∷ Home_told ∷ Signal 0 ∷ Pass 1 ∷ merges_nothing 1 ++ Load 1 3 ∷ Store 1 7
    ∷ Begin 1 Flush ∷ Op 1 ∷ Store 1 8 ∷ ops 1 6 ++ flushes_it 1 ++ Drop 1 ∷ Signal 1 ∷ Pass 0 ∷ Load 0 8 ∷ []

-- The home becomes exclusive, stores and signals; node 1 passes before that is told, fetches behind the home's break, and loads.
abbrev pub home_alone : List Event
home_alone = Home_enter ∷ Store 0 5 ∷ Signal 0 ∷ Pass 1 ∷ Home_break ∷ fetches 1 ++ Load 1 5 ∷ []

-- the list meets every premise
abbrev pub MeetsAll : List Event → Type 0
MeetsAll es = RunsUnder places Every origin (reverse es)

-- and so it does where fetches are asked by numbers of sends, and releases by debts
abbrev pub MeetsAllBySends : List Event → Type 0
MeetsAllBySends es = RunsOf places Every origin no_count no_debts (reverse es)

-- a list, and then a load of v by processor p, without one premise
pub record Case : Type 0 where
  pub without : Premise
  pub events : List Event
  pub p : ℕ
  pub v : ℕ

-- it meets every other premise, and v is not the latest store
abbrev pub Misses : Case → Type 0
Misses c = RunsUnder places (But c.without) origin (Load c.p c.v ∷ reverse c.events) × (c.v ≢ latest 3 (reverse c.events))

-- and v is neither the initial value nor one that was stored
abbrev pub Invents : Case → Type 0
Invents c = RunsUnder places (But c.without) origin (Load c.p c.v ∷ reverse c.events) × (c.v ≢ 3) × (Stored (reverse c.events) c.v → ⊥)

-- a load of what stands nowhere
abbrev pub without_values : Case
without_values = record { without = Values; events = []; p = 0; v = 7 }

-- node 1's store races with the home's load
abbrev pub without_order : Case
without_order = record { without = Order; events = fetches 1 ++ twins_it 1 ++ Store 1 5 ∷ []; p = 0; v = 3 }

-- node 1 is exclusive and has signalled its store; the home loads without a break
abbrev pub without_apart : Case
without_apart = record { without = Apart; events = enters 1 ++ Store 1 5 ∷ Signal 1 ∷ Pass 0 ∷ []; p = 0; v = 3 }

-- node 1 loads what its frame started with
abbrev pub without_fetched : Case
without_fetched = record { without = Fetched; events = []; p = 1; v = 0 }

-- node 2 fetched before the home's store, was told of it, and loads without another fetch
abbrev pub without_told : Case
without_told = record {
  without = Told;
  events = fetches 2 ++ Store 0 5 ∷ Home_sent ∷ Home_told ∷ Signal 0 ∷ Pass 2 ∷ [];
  p = 2;
  v = 3;
}

-- node 2 passed while node 1 was exclusive, and loads behind the break without another fetch
abbrev pub without_broken : Case
without_broken = record {
  without = Broken;
  events = fetches 2 ++ enters 1 ++ Store 1 5 ∷ Signal 1 ∷ Pass 2 ∷ breaks_it 1;
  p = 2;
  v = 3;
}

-- node 1 stores without a twin; the twin that it makes then has the store, and the flush finds nothing
abbrev pub without_rights : Case
without_rights = record {
  without = Rights;
  events = fetches 1 ++ Store 1 5 ∷ twins_it 1 ++ flushes_nothing 1 ++ Signal 1 ∷ Pass 0 ∷ [];
  p = 0;
  v = 3;
}

-- node 1 signals a store that it has not flushed
abbrev pub without_released : Case
without_released = record {
  without = Released;
  events = fetches 1 ++ twins_it 1 ++ Store 1 5 ∷ Signal 1 ∷ Pass 0 ∷ [];
  p = 0;
  v = 3;
}

-- node 1 flushes a frame that it never fetched
abbrev pub without_flushes : Case
without_flushes = record { without = Flushes; events = Begin 1 Flush ∷ ops 1 4; p = 0; v = 0 }

-- node 3 merges without a twin: by chance what stands there is the home's value, so the frame stays what it was
abbrev pub without_merges : Case
without_merges = record { without = Merges; events = merges_nothing 3; p = 3; v = 0 }

-- node 1 overwrites its own store
abbrev pub without_overwrites : Case
without_overwrites = record { without = Overwrites; events = fetches 1 ++ twins_it 1 ++ Store 1 5 ∷ fetches 1; p = 1; v = 3 }

-- node 1 makes a second twin behind its store, and the flush finds nothing
abbrev pub without_makes : Case
without_makes = record {
  without = Makes;
  events = fetches 1 ++ twins_it 1 ++ Store 1 5 ∷ twins_it 1 ++ flushes_nothing 1 ++ Signal 1 ∷ Pass 0 ∷ [];
  p = 0;
  v = 3;
}

-- node 1 is broken where it is not exclusive, and sends what its frame started with
abbrev pub without_breaks : Case
without_breaks = record { without = Breaks; events = breaks_it 1; p = 0; v = 0 }

-- node 1 drops its twin between the end and the telling of its flush, enters and signals; the break tells nothing, since the store
-- has a send that ended
abbrev pub without_drops : Case
without_drops = record {
  without = Drops;
  events = fetches 2 ++ fetches 1 ++ twins_it 1 ++ Store 1 5 ∷ Begin 1 Flush ∷ ops 1 5 ++ Drop 1 ∷ enters 1 ++ Signal 1 ∷ Pass 2 ∷ breaks_it 1;
  p = 2;
  v = 3;
}

-- node 1 stores while its flush is under way, and drops the twin with that store in it
abbrev pub without_kept : Case
without_kept = record {
  without = Kept;
  events = fetches 1 ++ twins_it 1 ++ Begin 1 Flush ∷ Op 1 ∷ Store 1 5 ∷ ops 1 3 ++ Drop 1 ∷ fetches 1;
  p = 1;
  v = 3;
}

-- the exclusive home notes a send, so that its end tells nothing
abbrev pub without_home_sends : Case
without_home_sends = record {
  without = Home_sends;
  events = fetches 2 ++ Home_enter ∷ Store 0 5 ∷ Signal 0 ∷ Pass 2 ∷ Home_sent ∷ Home_break ∷ [];
  p = 2;
  v = 3;
}

-- node 2 enters while node 1 owes its store, and its break sends the older value over it
abbrev pub without_enters : Case
without_enters = record {
  without = Enters;
  events = fetches 1 ++ twins_it 1 ++ Store 1 5 ∷ enters 2 ++ flushes_it 1 ++ breaks_it 2 ++ Signal 1 ∷ Pass 0 ∷ [];
  p = 0;
  v = 3;
}

-- the home becomes exclusive where its send has ended and is not told
abbrev pub without_home_tells : Case
without_home_tells = record {
  without = Home_tells;
  events = fetches 2 ++ Store 0 5 ∷ Home_sent ∷ Home_enter ∷ Signal 0 ∷ Pass 2 ∷ Home_break ∷ [];
  p = 2;
  v = 3;
}
