-- What is promised of every run.
use Rattle.std.specs.Prelude.{◌≡◌, ℕ, ◌*◌, List, Option, Some, slice_get}
use Rattle.dsm_entry.specs.declared.entry.Entry.{Entry}
use Rattle.dsm_flat.specs.Flat.{Ordered}
use Rattle.dsm_flat.specs.Sync.{SyncLegal}
use Rattle.dsm_local.specs.declared.end.End.{End}
use Rattle.dsm_local.specs.declared.end.End.TheVariants.{Stopped}
use Rattle.dsm_local.specs.Local.{Local}
use Rattle.dsm_runs.specs.Setups.{Setup, IsSetup}
use Rattle.dsm_runs.specs.Clusters.{Event}
use Rattle.dsm_runs.specs.Outcomes.{Ran, Outcome}
use Rattle.dsm_runs.specs.Stopping.{TellsAll}

-- each trace and end are those of a plain sequential reader of the program
abbrev pub AllLocal : Setup → Ran → Type 0
AllLocal s ran = (p : ℕ) (trace : List Entry) (end : Option End) → slice_get ran.traces p ≡ Some trace → slice_get ran.ends p ≡ Some end → Local s.program p (s.nodes * s.procs) s.limits.turns trace end

-- whoever was stopped was stopped by a processor that has ended and told all others to stop
abbrev pub AllTold : Ran → Type 0
AllTold ran = (p b : ℕ) → slice_get ran.ends p ≡ Some (Some (Stopped b)) → (e : End) × (slice_get ran.ends b ≡ Some (Some e)) × TellsAll e

-- each processor does what its program says; synchronisation is legal, and nothing is before itself
pub record Promises (s : Setup) (ran : Ran) : Type 0 where
  pub local : AllLocal s ran
  pub told : AllTold ran
  pub legal : SyncLegal ran.traces (s.nodes * s.procs)

-- they hold of what any list of events leaves, so at every step of every interleaving
abbrev pub EveryRunKeepsThem : Type 0
EveryRunKeepsThem = (s : Setup) (events : List Event) (ran : Ran) → IsSetup s → Outcome s events ran → Promises s ran

-- where a processor is alone, each word is ordered
abbrev pub AloneIsOrdered : Type 0
AloneIsOrdered = (s : Setup) (events : List Event) (ran : Ran) → s.nodes * s.procs ≡ 1 → Outcome s events ran → (w : ℕ) → Ordered ran.traces w
