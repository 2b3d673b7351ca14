-- All words and all processors, and what an event does to them.
use Rattle.std.specs.Prelude.{◌≡◌, ℕ, ◌*◌, ◌==◌, ◌&&◌, ◌||◌, not, Bool, true, false, if◌then◌else◌, List, [], ◌∷◌, map, Option, None, Some, is_some, slice_get, slice_set}
use Rattle.std.specs.List.{range_with_len}
use Rattle.dsm_words.specs.declared.item.Item.TheVariants.{Frame, Twin}
use Rattle.dsm_words.specs.Script.{Act, Get}
use Rattle.dsm_words.specs.Words.{done, reply}
use Rattle.dsm_protocol.specs.Jobs.{Job, first_act, has_ended, held_turn}
use Rattle.dsm_protocol.specs.Processors.{Processor, Given, new_processor, wanting, after_given}
use Rattle.dsm_runs.specs.Setups.{Setup, lay_in, who_at, first_words}

-- a state
pub record Cluster : Type 0 where
  pub words : List ℕ
  pub processors : List Processor

-- before any event
unfoldable pub start : Setup → Cluster
start s = record { words = first_words s; processors = map (λ p. new_processor (who_at s p) s.program.code) (range_with_len 0 (s.nodes * s.procs)) }

-- processor p makes its next operation, or, starved of memory, tells all others to stop
pub record Event : Type 0 where
  pub p : ℕ
  pub starved : Bool

-- nothing happens to a processor that has ended, and one that holds a turn is not starved
abbrev pub stays : Bool → Job → Bool
stays false j = has_ended j
stays true j = has_ended j || is_some (held_turn j)

-- such an event of this processor can be, where there is one
abbrev pub may_go : Bool → Option Processor → Bool
may_go starved None = false
may_go starved (Some m) = not (stays starved m.todo)

-- the event can be in this state
abbrev pub is_defined : Cluster → Event → Bool
is_defined c e = may_go e.starved (slice_get c.processors e.p)

-- the answer that is given, or else this one
abbrev pub any_or : Option ℕ → ℕ → ℕ
any_or None x = x
any_or (Some y) x = y

-- the answer that a processor gets: in a loose event the load of a frame's or a twin's word may have any, and these words say nothing then
abbrev pub answer : Option ℕ → Act → ℕ → ℕ
answer any (Get (Frame n g i)) x = any_or any x
answer any (Get (Twin n g i)) x = any_or any x
answer any a x = x

-- the operation that the event makes by processor m
abbrev pub act_in : Setup → Event → Processor → Act
act_in s e m = first_act (wanting (who_at s e.p) e.starved m).todo

-- what processor m is given by the event
abbrev pub given_in : Setup → Cluster → Event → Option ℕ → Processor → Given
given_in s c e any m = record { starved = e.starved; got = answer any (act_in s e m) (reply (lay_in s) c.words (act_in s e m)) }

-- the words behind the operation, and the processor behind what it was given
abbrev pub moved : Setup → Cluster → Event → Option ℕ → Processor → Cluster
moved s c e any m =
    record {
      words = done (lay_in s) c.words (act_in s e m);
      processors = slice_set c.processors e.p (after_given (who_at s e.p) s.program.code m (given_in s c e any m));
    }

-- the same, where there is such a processor and the event can be; else nothing changes
abbrev pub moved_if : Setup → Cluster → Event → Option ℕ → Option Processor → Cluster
moved_if s c e any None = c
moved_if s c e any (Some m) = if stays e.starved m.todo then c else moved s c e any m

-- the state behind a loose event, whose answer may be given
unfoldable pub after_loose : Setup → Cluster → Event → Option ℕ → Cluster
after_loose s c e any = moved_if s c e any (slice_get c.processors e.p)

-- the state behind an event, whose answer is that of the words
abbrev pub after_event : Setup → Cluster → Event → Cluster
after_event s c e = after_loose s c e None

-- an event as a loose one whose answer is not given
abbrev pub exactly : Event → Event × Option ℕ
exactly e = (e, None)

-- the state behind a list of loose events, each with its answer if that is given
unfoldable pub after_all_loose : Setup → Cluster → List (Event × Option ℕ) → Cluster
after_all_loose s c [] = c
after_all_loose s c (e ∷ es) = after_all_loose s (after_loose s c e.0 e.1) es

-- what such an event gives processor p, before what it was given so far: nothing where it is another's or can't be
abbrev pub given_if : Setup → Cluster → Event → Option ℕ → Option Processor → List Given → List Given
given_if s c e any None gs = gs
given_if s c e any (Some m) gs = if stays e.starved m.todo then gs else given_in s c e any m ∷ gs

abbrev pub given_more : Setup → Cluster → Event → Option ℕ → ℕ → List Given → List Given
given_more s c e any p gs = if e.p == p then given_if s c e any (slice_get c.processors e.p) gs else gs

-- what a list of loose events gives it, the newest first, before what it was given so far
unfoldable pub given_behind : Setup → Cluster → List (Event × Option ℕ) → ℕ → List Given → List Given
given_behind s c [] p gs = gs
given_behind s c (e ∷ es) p gs = given_behind s (after_loose s c e.0 e.1) es p (given_more s c e.0 e.1 p gs)

-- what the events gave it from the start on
abbrev pub given_by : Setup → List (Event × Option ℕ) → ℕ → List Given
given_by s events p = given_behind s (start s) events p []

-- the state behind a list of events
unfoldable pub after : Setup → Cluster → List Event → Cluster
after s c [] = c
after s c (e ∷ es) = after s (after_event s c e) es

-- each of them can be when it comes
unfoldable pub all_defined : Setup → Cluster → List Event → Bool
all_defined s c [] = true
all_defined s c (e ∷ es) = is_defined c e && all_defined s (after_event s c e) es

-- the state behind a list of events from the start; the list counts where each event can be when it comes
unfoldable pub reached : Setup → List Event → Cluster
reached s events = after s (start s) events

-- each of them can be, from the start on
abbrev pub AreDefined : Setup → List Event → Type 0
AreDefined s events = all_defined s (start s) events ≡ true

-- some list of events reaches it
abbrev pub IsReached : Setup → Cluster → Type 0
IsReached s c = (events : List Event) × AreDefined s events × (c ≡ reached s events)
