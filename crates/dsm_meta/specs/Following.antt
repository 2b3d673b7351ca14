-- Runs whose events a list of processors' numbers names.
use Rattle.std.specs.Prelude.{◌≡◌, ℕ, true, false, Bool, List, [], ◌∷◌, ◌++◌, All}
use Rattle.dsm_isa.specs.ProgramText.{ProgramText}
use Rattle.dsm_runs.specs.Setups.{Setup, IsSetup}
use Rattle.dsm_runs.specs.Clusters.{Cluster, Event, start, is_defined, after, all_defined}
use Rattle.dsm_core.specs.declared.state.State.{State}
use Rattle.dsm_core.specs.States.{setup_in, cluster_in, HasEnded}

-- From state c on, the events are the schedule's numbers in order, each starved or not, without those whose processor had ended by then.
pub data FollowsSchedule (s : Setup) (c : Cluster) : List ℕ → List Event → Type 0 where
  Begins : FollowsSchedule s c [] []
  Leaves_out : {schedule : List ℕ} {events : List Event} (p : ℕ) → FollowsSchedule s c schedule events → HasEnded (after s c events) p → FollowsSchedule s c (schedule ++ p ∷ []) events
  Takes : {schedule : List ℕ} {events : List Event} (p : ℕ) (starved : Bool) → FollowsSchedule s c schedule events → is_defined (after s c events) (record { p = p; starved = starved }) ≡ true
      → FollowsSchedule s c (schedule ++ p ∷ []) (events ++ record { p = p; starved = starved } ∷ [])

-- such events lead from state c to state d
pub record FollowedFrom (s : Setup) (c : Cluster) (schedule : List ℕ) (d : Cluster) : Type 0 where
  pub events : List Event
  pub follows : FollowsSchedule s c schedule events
  pub defined : all_defined s c events ≡ true
  pub reaches : d ≡ after s c events

-- and none of them is starved
pub record FollowedFed (s : Setup) (c : Cluster) (schedule : List ℕ) (d : Cluster) : Type 0 where
  pub from : FollowedFrom s c schedule d
  pub fed : All (λ e. e.starved ≡ false) from.events

-- they lead to it from the start
abbrev pub Followed : Setup → List ℕ → Cluster → Type 0
Followed s schedule d = FollowedFrom s (start s) schedule d

-- it holds of the code's state that runs this program, where its setup is in its ranges
abbrev pub HoldsIn : (Setup → Cluster → Type 0) → ProgramText → State → Type 0
HoldsIn P program st = IsSetup (setup_in st program) → P (setup_in st program) (cluster_in st program.code)
