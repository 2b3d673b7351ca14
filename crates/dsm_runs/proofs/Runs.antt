-- Lists of events, one event more at their end.
use Rattle.std.proofs.Common.{◌≡◌, ℕ, Bool, true, false, List, [], ◌∷◌, ◌++◌, Option, Some, None, refl, ap, ◌∙◌, ◌&&◌, not, if◌then◌else◌}
use Rattle.std.specs.Prelude.{slice_get}
use Rattle.dsm_protocol.specs.Processors.{Processor}
use Rattle.dsm_runs.specs.Setups.{Setup}
use Rattle.dsm_runs.specs.Clusters.{Cluster, Event, stays, start, moved, moved_if, after_loose, after_event, after_all_loose, after, may_go, is_defined, all_defined, reached, AreDefined}
use Rattle.dsm_runs.specs.Laws.{EventsAreLoose}

pub after_one_more : (s : Setup) (c : Cluster) (es : List Event) (e : Event) → after s c (es ++ e ∷ []) ≡ after_event s (after s c es) e
unfolding after
after_one_more s c [] e = refl
after_one_more s c (x ∷ es) e = after_one_more s (after_event s c x) es e

pub defined_one_more : (s : Setup) (c : Cluster) (es : List Event) (e : Event) → all_defined s c es ≡ true → is_defined (after s c es) e ≡ true → all_defined s c (es ++ e ∷ []) ≡ true
unfolding after all_defined
defined_one_more s c [] e all one = rw one refl
defined_one_more s c (x ∷ es) e all one = go (is_defined c x) (λ rest. defined_one_more s (after_event s c x) es e rest one) all
  where
    go : (b : Bool) → (all_defined s (after_event s c x) es ≡ true → all_defined s (after_event s c x) (es ++ e ∷ []) ≡ true) → (b && all_defined s (after_event s c x) es) ≡ true → (b && all_defined s (after_event s c x) (es ++ e ∷ [])) ≡ true
    go true more rest = more rest
    go false more rest = absurd (cc rest)

pub reached_none : (s : Setup) → reached s [] ≡ start s
unfolding reached after
reached_none s = refl

pub reached_one_more : (s : Setup) (es : List Event) (e : Event) → reached s (es ++ e ∷ []) ≡ after_event s (reached s es) e
unfolding reached
reached_one_more s es e = after_one_more s (start s) es e

pub are_defined_none : (s : Setup) → AreDefined s []
unfolding all_defined
are_defined_none s = refl

pub are_defined_one_more : (s : Setup) (es : List Event) (e : Event) → AreDefined s es → is_defined (reached s es) e ≡ true → AreDefined s (es ++ e ∷ [])
unfolding reached
are_defined_one_more s es e all one = defined_one_more s (start s) es e all one

-- an event of a processor that is there and may go
pub event_is : (s : Setup) (c : Cluster) (e : Event) (any : Option ℕ) (m : Processor) → slice_get c.processors e.p ≡ Some m → stays e.starved m.todo ≡ false → after_loose s c e any ≡ moved s c e any m
unfolding after_loose
event_is s c e any m here goes = ap (moved_if s c e any) here ∙ ap (λ b. if b then c else moved s c e any m) goes

-- events are loose ones
pub events_are_loose : EventsAreLoose
unfolding after after_all_loose
events_are_loose s c [] = refl
events_are_loose s c (e ∷ es) = events_are_loose s (after_event s c e) es

-- an event that can be has a processor that may go
pub defined_is : (c : Cluster) (e : Event) → is_defined c e ≡ true → (m : Processor) × (slice_get c.processors e.p ≡ Some m) × (stays e.starved m.todo ≡ false)
defined_is c e is = go (slice_get c.processors e.p) refl is
  where
    turned : (b : Bool) → not b ≡ true → b ≡ false
    turned true h = absurd (cc h)
    turned false h = refl

    go : (o : Option Processor) → slice_get c.processors e.p ≡ o → may_go e.starved o ≡ true → (m : Processor) × (slice_get c.processors e.p ≡ Some m) × (stays e.starved m.todo ≡ false)
    go None here h = absurd (cc h)
    go (Some m) here h = (m, here, turned (stays e.starved m.todo) h)

pub defined_both : (s : Setup) (c : Cluster) (e : Event) (es : List Event) → all_defined s c (e ∷ es) ≡ true → (is_defined c e ≡ true) × (all_defined s (after_event s c e) es ≡ true)
unfolding all_defined
defined_both s c e es h = go (is_defined c e) (all_defined s (after_event s c e) es) h
  where
    go : (a b : Bool) → (a && b) ≡ true → (a ≡ true) × (b ≡ true)
    go true b h = (refl, h)
    go false b h = absurd (cc h)
