-- The headline, of a state.
use Rattle.std.specs.Prelude.{ℕ}
use Rattle.dsm_runs.specs.Setups.{Setup}
use Rattle.dsm_runs.specs.Clusters.{Cluster}
use Rattle.dsm_runs.specs.Outcomes.{ran_of}
use Rattle.dsm_runs.specs.Promises.{Promises}
use Rattle.dsm_twoway.specs.Promise.{WordPromise}

-- what the state leaves keeps what is promised of every run,
abbrev pub KeepsPromises : Setup → Cluster → Type 0
KeepsPromises s c = Promises s (ran_of s c)

-- and of every word
abbrev pub KeepsWords : Setup → Cluster → Type 0
KeepsWords s c = (w : ℕ) → WordPromise s (ran_of s c) w
