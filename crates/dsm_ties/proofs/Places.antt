-- Where the processors of a cluster stand, over every list of loose events.
use Rattle.std.proofs.Common.{◌≡◌, ℕ, ◌*◌, ◌<◌, false, List, Option, Some, ap, ◌∙◌, subst, if◌then◌else◌}
use Rattle.std.specs.Prelude.{slice_get}
use Rattle.std.proofs.lemmas.Option.{slice_get_within}
use Rattle.dsm_protocol.specs.Processors.{Processor, IsMade, after_given}
use Rattle.dsm_protocol.specs.Stages.{Work}
use Rattle.dsm_protocol.specs.Standing.{Stands, Moves, starts_from}
use Rattle.dsm_protocol.proofs.Moving.{every_processor_stands, every_event_is_a_row}
use Rattle.dsm_runs.specs.Setups.{Setup, who_at}
use Rattle.dsm_runs.specs.Clusters.{Cluster, Event, start, stays, act_in, given_in, moved, moved_if, after_loose, after_all_loose, given_by}
use Rattle.dsm_runs.proofs.Alive.{alive}
use Rattle.dsm_runs.proofs.Events.{every_given}
use Rattle.dsm_runs.proofs.Lists.{slice_get-set_same}
use Rattle.dsm_runs.proofs.Starting.{every_whole}
use Rattle.dsm_ties.specs.Always.{AlwaysLoosely}
use Rattle.dsm_ties.specs.Places.{EachStands, EventsAreRows}

-- each processor of a reached state is one of the cluster's, and made
pub processor_in : (s : Setup) (events : List (Event × Option ℕ)) (p : ℕ) (m : Processor) → slice_get (after_all_loose s (start s) events).processors p ≡ Some m → p < s.nodes * s.procs
processor_in s events p m at = subst (λ n. p < n) (every_whole s events).1 (slice_get_within _ p m at)

pub processor_made : (s : Setup) (events : List (Event × Option ℕ)) (p : ℕ) (m : Processor) → slice_get (after_all_loose s (start s) events).processors p ≡ Some m → IsMade (who_at s p) s.program.code m
unfolding IsMade
processor_made s events p m at = (given_by s events p, false, every_given s events p m at)

pub each_stands : AlwaysLoosely EachStands
each_stands s events is p m at = every_processor_stands (who_at s p) s.program.code m (processor_in s events p m at) (processor_made s events p m at)

-- the state behind an event that can be
pub after_is : (s : Setup) (c : Cluster) (e : Event) (any : Option ℕ) (m : Processor) → slice_get c.processors e.p ≡ Some m → stays e.starved m.todo ≡ false → after_loose s c e any ≡ moved s c e any m
unfolding after_loose
after_is s c e any m at goes = ap (moved_if s c e any) at ∙ ap (λ b. if b then c else moved s c e any m) goes

-- what an event does to its processor
pub event_row : (s : Setup) (c : Cluster) (e : Event) (any : Option ℕ) (m : Processor) (w : Work)
    → e.p < s.nodes * s.procs → stays e.starved m.todo ≡ false → Stands (who_at s e.p) w m
    → let n = after_given (who_at s e.p) s.program.code m (given_in s c e any m) in
    (v : Work) × Stands (who_at s e.p) v n × Moves (who_at s e.p) (starts_from e.starved w) m.own (act_in s e m) (given_in s c e any m).got v n
event_row s c e any m w e_in goes h =
    every_event_is_a_row (who_at s e.p) s.program.code w m (given_in s c e any m) e_in h (alive e.starved m.todo goes)

pub events_are_rows : AlwaysLoosely EventsAreRows
events_are_rows s events is e any m w at goes h =
    let c = after_all_loose s (start s) events in
    let r = event_row s c e any m w (processor_in s events e.p m at) goes h in
    let here = ap (λ d. slice_get d.processors e.p) (after_is s c e any m at goes) ∙ slice_get-set_same c.processors e.p m _ at in
    (r.0, after_given (who_at s e.p) s.program.code m (given_in s c e any m), here, r.1, r.2)
