-- What a threaded run leaves.
use Rattle.std.specs.Prelude.{◌≡◌, ℕ, List, map, Option, Some, IsSome, slice_get}
use Rattle.dsm_local.specs.declared.end.End.{End}
use Rattle.dsm_local.specs.declared.end.End.TheVariants.{Looked}
use Rattle.dsm_protocol.specs.Processors.{ending}
use Rattle.dsm_runs.specs.Setups.{Setup}
use Rattle.dsm_runs.specs.Clusters.{Event}
use Rattle.dsm_runs.specs.Outcomes.{Ran, Outcome, total_counts}
use Rattle.dsm_runner.specs.Workers.{processors_by}
use Rattle.dsm_runner.specs.declared.worker.Worker.{Worker}

-- it is what some list of events leaves: that of the steps that were made
abbrev pub IsOutcome : Setup → Ran → Type 0
IsOutcome s ran = (events : List Event) × Outcome s events ran

-- the traces and the ends are those of the workers' processors, in this order, and the counts are theirs together
pub record IsOf (ws : List Worker) (ran : Ran) : Type 0 where
  pub traces : ran.traces ≡ map (λ m. m.own.trace) (processors_by ws)
  pub ends : ran.ends ≡ map ending (processors_by ws)
  pub counts : ran.counts ≡ total_counts (processors_by ws)

-- every processor has ended
abbrev pub AllOver : List (Option End) → Type 0
AllOver ends = (p : ℕ) (e : Option End) → slice_get ends p ≡ Some e → IsSome e

-- none has used up its looks
abbrev pub NoneLooked : List (Option End) → Type 0
NoneLooked ends = (p : ℕ) → slice_get ends p ≡ Some (Some Looked) → ⊥
