-- A run of a program, as the top call answers it.
use Rattle.std.specs.Prelude.{◌≡◌, ℕ, ◌*◌, Bool, true, false, Option, None, Some, IsSome, List, slice_get}
use Rattle.dsm_isa.specs.ProgramText.{ProgramText}
use Rattle.dsm_words.specs.declared.topology.Topology.{Topology}
use Rattle.dsm_protocol.specs.declared.limits.Limits.{Limits}
use Rattle.dsm_flat.specs.Flat.{Ordered}
use Rattle.dsm_local.specs.declared.end.End.{End}
use Rattle.dsm_local.specs.declared.end.End.TheVariants.{Looked}
use Rattle.dsm_runs.specs.Clusters.{Event}
use Rattle.dsm_runs.specs.Outcomes.{Ran, Outcome}
use Rattle.dsm_runs.specs.Setups.{IsSetup}
use Rattle.dsm_runs.specs.Promises.{Promises}
use Rattle.dsm_twoway.specs.Promise.{WordPromise}
use Rattle.dsm_core.specs.States.{setup_of}
use Rattle.dsm_sched.specs.declared.kind.Kind.{Kind}
use Rattle.dsm_sched.specs.declared.kind.Kind.TheVariants.{Round}
use Rattle.dsm_sched.specs.Schedules.{Simulated}
use Rattle.dsm_top.specs.declared.plans.Plan.{Plan}
use Rattle.dsm_top.specs.declared.plans.Plan.TheVariants.{Check, List as Listing, Sim, Run, Gen}

-- the program on this cluster keeps the rules and ranges that the laws ask for; with threads no look is the last allowed one
abbrev pub IsRunnable : Plan → ProgramText → Type 0
IsRunnable Check p = Unit {0}
IsRunnable Listing p = Unit {0}
IsRunnable (Sim t limits kind steps trace) p = IsSetup (setup_of p t limits)
IsRunnable (Run t limits trace) p = IsSetup (setup_of p t limits) × (limits.looks ≡ None)
IsRunnable (Gen seed t limits steps false) p = IsSetup (setup_of p t limits)
IsRunnable (Gen seed t limits steps true) p = IsSetup (setup_of p t limits) × (limits.looks ≡ None)

-- what a run left is as promised of every run, and so is each of its words; and where a processor is alone, each word is ordered
pub record Kept (t : Topology) (limits : Limits) (p : ProgramText) (ran : Ran) : Type 0 where
  pub promises : Promises (setup_of p t limits) ran
  pub words : (w : ℕ) → WordPromise (setup_of p t limits) ran w
  pub alone : t.nodes * t.procs ≡ 1 → (w : ℕ) → Ordered ran.traces w

-- this is what a run of the program by the schedule left, and it is as promised
pub record Runs (t : Topology) (limits : Limits) (kind : Kind) (steps : ℕ) (p : ProgramText) (ran : Ran) : Type 0 where
  pub cut : Bool
  pub simulated : Simulated kind (setup_of p t limits) steps ran cut
  pub kept : Kept t limits p ran

-- this is what a run of the program by threads left: what some list of events leaves. Every processor has ended, none by its looks, and it is as
-- promised.
pub record RunsInThreads (t : Topology) (limits : Limits) (p : ProgramText) (ran : Ran) : Type 0 where
  pub events : List Event
  pub outcome : Outcome (setup_of p t limits) events ran
  pub over : (p : ℕ) (e : Option End) → slice_get ran.ends p ≡ Some e → IsSome e
  pub looked : (p : ℕ) → slice_get ran.ends p ≡ Some (Some Looked) → ⊥
  pub kept : Kept t limits p ran

-- this is what the run that the plan asks for left; that of a generated program is in cyclic order, or by threads
abbrev pub RunsBy : Plan → ProgramText → Ran → Type 0
RunsBy Check p ran = ⊥
RunsBy Listing p ran = ⊥
RunsBy (Sim t limits kind steps trace) p ran = Runs t limits kind steps p ran
RunsBy (Run t limits trace) p ran = RunsInThreads t limits p ran
RunsBy (Gen seed t limits steps false) p ran = Runs t limits Round steps p ran
RunsBy (Gen seed t limits steps true) p ran = RunsInThreads t limits p ran
