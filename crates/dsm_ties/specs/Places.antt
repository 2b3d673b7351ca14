-- Where the processors of a cluster stand in the table of the protocol, and what an event is to it.
use Rattle.std.specs.Prelude.{◌≡◌, ℕ, false, Option, Some, slice_get}
use Rattle.dsm_words.specs.Words.{reply}
use Rattle.dsm_protocol.specs.Processors.{Processor}
use Rattle.dsm_protocol.specs.Stages.{Work}
use Rattle.dsm_protocol.specs.Standing.{Stands, Moves, starts_from}
use Rattle.dsm_runs.specs.Setups.{Setup, lay_in, who_at}
use Rattle.dsm_runs.specs.Clusters.{Cluster, Event, stays, answer, act_in, after_loose}

-- each processor stands at some place of the table
abbrev pub EachStands : Setup → Cluster → Type 0
EachStands s c = (p : ℕ) (m : Processor) → slice_get c.processors p ≡ Some m → (w : Work) × Stands (who_at s p) w m

-- From wherever its processor stands, an event that can be leads it by the table to where it stands then: decisions, one operation with the
-- answer that it gets, decisions and notes. Nothing else changes what the processor holds.
abbrev pub EventsAreRows : Setup → Cluster → Type 0
EventsAreRows s c =
    (e : Event) (any : Option ℕ) (m : Processor) (w : Work) → slice_get c.processors e.p ≡ Some m → stays e.starved m.todo ≡ false → Stands (who_at s e.p) w m
    → (v : Work) × (n : Processor) × (slice_get (after_loose s c e any).processors e.p ≡ Some n) × Stands (who_at s e.p) v n
    × Moves (who_at s e.p) (starts_from e.starved w) m.own (act_in s e m) (answer any (act_in s e m) (reply (lay_in s) c.words (act_in s e m))) v n
