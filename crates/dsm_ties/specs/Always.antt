-- What holds behind every list of events.
use Rattle.std.specs.Prelude.{ℕ, List, Option}
use Rattle.dsm_runs.specs.Setups.{Setup, IsSetup}
use Rattle.dsm_runs.specs.Clusters.{Cluster, Event, start, after_all_loose}

-- it holds of the state behind each list of loose events
abbrev pub AlwaysLoosely : (Setup → Cluster → Type 0) → Type 0
AlwaysLoosely P = (s : Setup) (events : List (Event × Option ℕ)) → IsSetup s → P s (after_all_loose s (start s) events)
