-- Whose event comes next.
use Rattle.std.specs.Prelude.{◌≡◌, ◌↔◌, ◌⊎◌, ℕ, zero, suc, ◌+◌, ◌-◌, ◌*◌, ◌%◌, ◌≤◌, Bool, true, false, IsTrue, if◌then◌else◌, List, [], ◌∷◌, ◌++◌, length, Option, None, Some, Contains, slice_get}
use Rattle.std.specs.List.{range_with_len, filter}
use Rattle.std.specs.Int.{w64, to_le_bytes, from_le_bytes}
use Rattle.rand_xoshiro.specs.SplitMix64.{mix_u64}
use Rattle.dsm_local.specs.declared.end.End.TheVariants.{NoMemory}
use Rattle.dsm_runs.specs.Setups.{Setup}
use Rattle.dsm_runs.specs.Clusters.{Cluster, Event, AreDefined, may_go, reached}
use Rattle.dsm_runs.specs.Outcomes.{Ran, Outcome, ran_of}
use Rattle.dsm_core.specs.States.{IsEvent, AllEnded}
use Rattle.dsm_sched.specs.declared.kind.Kind.{Kind}
use Rattle.dsm_sched.specs.declared.kind.Kind.TheVariants.{Round, Mixed}

-- all processors in cyclic order, from p on
abbrev pub cyclic : ℕ → ℕ → List ℕ
cyclic all p = range_with_len p (all - p) ++ range_with_len 0 p

-- the first of these that has not ended
abbrev pub first_running : Cluster → List ℕ → Option ℕ
first_running c [] = None
first_running c (p ∷ ps) = if may_go false (slice_get c.processors p) then Some p else first_running c ps

-- where the cyclic order begins: behind the processor of the last event, and at the start with processor 0
abbrev pub behind_last : ℕ → List Event → ℕ
behind_last p [] = p
behind_last p (e ∷ es) = behind_last (e.p + 1) es

-- all that have not ended, ascending
abbrev pub running : Cluster → List ℕ
running c = filter (λ p. may_go false (slice_get c.processors p)) (range_with_len 0 (length c.processors))

-- the state of SplitMix64 behind so many words, where it begins with the eight bytes of the seed, the lowest first
unfoldable pub words_drawn : ℕ → ℕ → ℕ
words_drawn seed zero = from_le_bytes w64 (to_le_bytes w64 seed)
words_drawn seed (suc n) = (mix_u64 (words_drawn seed n)).1

-- its word number n, from 0
abbrev pub word : ℕ → ℕ → ℕ
word seed n = (mix_u64 (words_drawn seed n)).0

-- item u mod m of a list of m
abbrev pub drawn : List ℕ → ℕ → Option ℕ
drawn ps u = slice_get ps (u % length ps)

-- whose event comes next, behind these: the next in cyclic order that has not ended, or the one of those that
-- have not ended which the seed's word for this event draws
abbrev pub next_by : Kind → Setup → List Event → Option ℕ
next_by Round s events = first_running (reached s events) (cyclic (s.nodes * s.procs) (behind_last 0 events))
next_by (Mixed seed) s events = drawn (running (reached s events)) (word seed (length events))

-- the events come in this order, with memory or without
pub data IsScheduled (kind : Kind) (s : Setup) : List Event → Type 0 where
  Begins : IsScheduled kind s []
  Goes : {events : List Event} (p : ℕ) (starved : Bool) → IsScheduled kind s events → next_by kind s events ≡ Some p → IsScheduled kind s (events ++ record { p = p; starved = starved } ∷ [])

-- they are as many as `steps`, or fewer where all processors have ended
pub record Schedule (kind : Kind) (s : Setup) (steps : ℕ) (events : List Event) : Type 0 where
  pub scheduled : IsScheduled kind s events
  pub within : length events ≤ steps
  pub whole : (length events ≡ steps) ⊎ AllEnded (reached s events)

-- a schedule of so many events leads to this state
pub record Leads (kind : Kind) (s : Setup) (steps : ℕ) (c : Cluster) : Type 0 where
  pub events : List Event
  pub schedule : Schedule kind s steps events
  pub defined : AreDefined s events
  pub reaches : c ≡ reached s events

-- one event of the processor at this place among those that have not ended leads from the old state to the new one;
-- and the place of the one behind it
abbrev pub Moves : Setup → Cluster → Cluster → ℕ → ℕ → Type 0
Moves s old new at next = (p : ℕ) × (starved : Bool) × (slice_get (running old) at ≡ Some p) × IsEvent s old new (record { p = p; starved = starved }) × (next ≡ (if may_go false (slice_get new.processors p) then at + 1 else at))

-- one event more, with memory
abbrev pub more : Option ℕ → List Event → List Event
more None events = events
more (Some p) events = events ++ record { p = p; starved = false } ∷ []

-- the schedule where memory is never wanting
unfoldable pub events_of : Kind → Setup → ℕ → List Event
events_of kind s zero = []
events_of kind s (suc n) = let events = events_of kind s n in more (next_by kind s events) events

-- processor p ended for want of memory
abbrev pub Wants : Ran → ℕ → Type 0
Wants ran p = slice_get ran.ends p ≡ Some (Some NoMemory)

-- what the run of a schedule leaves, and whether it was cut
pub record Simulated (kind : Kind) (s : Setup) (steps : ℕ) (ran : Ran) (cut : Bool) : Type 0 where
  pub events : List Event
  pub schedule : Schedule kind s steps events
  pub outcome : Outcome s events ran
  -- it was cut where so many events were made and some processor has not ended
  pub cut_is : IsTrue cut ↔ ((length events ≡ steps) × Contains ran.ends None)
  -- exactly those end for want of memory that made an event without
  pub wants : (p : ℕ) → Wants ran p ↔ Contains events (record { p = p; starved = true })
  -- and where there are none, what is left is a function of the kind, the setup and the steps
  pub same : ((p : ℕ) → Wants ran p → ⊥) → ran ≡ ran_of s (reached s (events_of kind s steps))
