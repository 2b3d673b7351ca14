-- Before any step the position is as each is to be, and a run of exact events is taken apart into exact operations.
use Rattle.std.proofs.Common.{List, [], ◌∷◌, map, refl, sym, subst}
use Rattle.dsm_runs.specs.Setups.{Setup, IsSetup}
use Rattle.dsm_runs.specs.Clusters.{Event, start, exactly}
use Rattle.dsm_ties.proofs.EventTrails.{Sound}
use Rattle.dsm_ties.proofs.Homes.{all_none}
use Rattle.dsm_ties.proofs.RunTrails.{sound, idle_stood, every_run}
use Rattle.dsm_ties.proofs.Trails.{AllExact, Fine, IsExact, outset}

-- before any step all words are there, no clock is 0, and nobody holds a turn
pub outset_fine : (s : Setup) → IsSetup s → Fine s (outset s)
outset_fine s is =
    let first : Sound s (start s) = subst (Sound s) (sym (all_none s (start s))) (sound s is []) in
    record { long = first.ground.long; clocks = first.ground.clocks; turns = λ q t q_in i. (idle_stood s first q).turns t i; settled = λ q q_in. tt }

-- each exact event has the answer that the words give
all_exact : (events : List Event) → AllExact (map exactly events)
all_exact [] = tt
all_exact (e ∷ es) = (refl, all_exact es)

-- and so each operation of their trail has it
pub exact_run : (s : Setup) (is : IsSetup s) (events : List Event) → IsExact s (every_run s is (map exactly events)).trail
exact_run s is events = (every_run s is (map exactly events)).exact (all_exact events)
