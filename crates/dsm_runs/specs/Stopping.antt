-- Who stops whom.
use Rattle.std.specs.Prelude.{◌≡◌, ◌⊎◌, ℕ, ◌+◌, ◌*◌, ◌<◌, ◌^◌, List, Option, Some, slice_get}
use Rattle.dsm_words.specs.declared.item.Item.TheVariants.{Stop}
use Rattle.dsm_words.specs.Words.{word}
use Rattle.dsm_local.specs.declared.end.End.{End as Ending}
use Rattle.dsm_local.specs.declared.end.End.TheVariants.{Halted, Trapped, Spent, Looked, Stopped, NoMemory}
use Rattle.dsm_protocol.specs.Jobs.{Ended}
use Rattle.dsm_protocol.specs.Processors.{Processor, ending}
use Rattle.dsm_runs.specs.Setups.{Setup, lay_in}
use Rattle.dsm_runs.specs.Clusters.{Cluster, Event, start, after_all_loose}

-- a processor with this end told all others to stop
abbrev pub TellsAll : Ending → Type 0
TellsAll Halted = ⊥
TellsAll (Trapped at fault) = Unit {0}
TellsAll Spent = Unit {0}
TellsAll Looked = Unit {0}
TellsAll (Stopped by) = ⊥
TellsAll NoMemory = Unit {0}

-- processor b has ended, and told all others to stop
abbrev pub HasToldAll : Cluster → ℕ → Type 0
HasToldAll c b = (m : Processor) × (e : Ending) × (slice_get c.processors b ≡ Some m) × (m.todo ≡ Ended e) × TellsAll e

-- the stop word is 0 or names such a processor
abbrev pub StopWordNames : Setup → Cluster → Type 0
StopWordNames s c = (word (lay_in s) c.words Stop ≡ 0) ⊎ ((b : ℕ) × (word (lay_in s) c.words Stop ≡ b + 1) × HasToldAll c b)

-- it is or does over every list of events
abbrev pub EveryStopIsTold : Type 0
EveryStopIsTold = (s : Setup) (events : List (Event × Option ℕ)) → s.nodes * s.procs < 2 ^ 32 → StopWordNames s (after_all_loose s (start s) events)

-- and whoever is stopped is stopped by a processor that told all others to
abbrev pub EveryStoppedIsTold : Type 0
EveryStoppedIsTold = (s : Setup) (events : List (Event × Option ℕ)) (p b : ℕ) (m : Processor) → s.nodes * s.procs < 2 ^ 32
    → slice_get (after_all_loose s (start s) events).processors p ≡ Some m → ending m ≡ Some (Stopped b) → HasToldAll (after_all_loose s (start s) events) b
