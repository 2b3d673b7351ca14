-- The history of a run: the moments of which laws speak, in the order in which they came.
use Rattle.std.specs.Prelude.{ℕ, if◌then◌else◌, List, [], ◌∷◌, ◌++◌, Option, None, Some, slice_get}
use Rattle.dsm_protocol.specs.Own.{Own}
use Rattle.dsm_protocol.specs.Jobs.{Moment, Happen, Job, Make, Again, Mark, Ask, Begin, Ended, own_after, job_after}
use Rattle.dsm_protocol.specs.Processors.{Processor, wanting}
use Rattle.dsm_runs.specs.Setups.{Setup, who_at}
use Rattle.dsm_runs.specs.Clusters.{Cluster, Event, stays, given_in, after_loose}

-- the moments that a job notes before its next operation, a head or the end
abbrev pub moments : Own → Job → List Moment
moments o (Make a k) = []
moments o (Again a wanted j) = []
moments o (Mark (Happen d) j) = d ∷ moments o j
moments o (Mark n j) = moments (own_after o n) j
moments o (Ask f) = moments o (f o)
moments o (Begin h) = []
moments o (Ended e) = []

-- those of an event of this processor, where it can be
abbrev pub moments_if : Setup → Cluster → Event → Option ℕ → Option Processor → List Moment
moments_if s c e any None = []
moments_if s c e any (Some m) = if stays e.starved m.todo then [] else moments m.own (job_after (wanting (who_at s e.p) e.starved m).todo (given_in s c e any m).got)

-- those of a list of loose events
unfoldable pub history : Setup → Cluster → List (Event × Option ℕ) → List Moment
history s c [] = []
history s c (e ∷ es) = moments_if s c e.0 e.1 (slice_get c.processors e.0.p) ++ history s (after_loose s c e.0 e.1) es
