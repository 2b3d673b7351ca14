-- Synchronisation over every list of events.
use Rattle.std.specs.Prelude.{ℕ, ◌*◌, List, map, Option}
use Rattle.dsm_flat.specs.Sync.{SyncLegal}
use Rattle.dsm_runs.specs.Setups.{Setup, IsSetup}
use Rattle.dsm_runs.specs.Clusters.{Event, start, after_all_loose}

-- Whatever the events, and whatever the loads of frames and twins then answer: nothing is before itself, a lock has one holder at a time, a barrier is
-- passed behind all its arrivals, and a flag behind as many sets as were asked.
abbrev pub EverySyncIsLegal : Type 0
EverySyncIsLegal = (s : Setup) (events : List (Event × Option ℕ)) → IsSetup s
    → SyncLegal (map (λ m. m.own.trace) (after_all_loose s (start s) events).processors) (s.nodes * s.procs)
