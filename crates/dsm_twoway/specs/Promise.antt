-- What is promised of every word and of every trace of every run.
use Rattle.std.specs.Prelude.{◌≡◌, ℕ, ◌+◌, ◌*◌, ◌<◌, ◌≤◌, List, Some, length, slice_get, slice_index}
use Rattle.dsm_entry.specs.declared.entry.Entry.{Entry}
use Rattle.dsm_flat.specs.Flat.{Ordered, Flat, Sourced, Final}
use Rattle.dsm_runs.specs.Setups.{Setup, IsSetup, initial}
use Rattle.dsm_runs.specs.Clusters.{Event}
use Rattle.dsm_runs.specs.Outcomes.{Ran, Outcome, AllHalted}

-- What is promised of word w, whatever its neighbours do: the memory that this speaks of is flat, and knows no page, no node and no copy.
pub record WordPromise (s : Setup) (ran : Ran) (w : ℕ) : Type 0 where
  -- no load returned a value that was not there
  pub sourced : Sourced ran.traces (initial s.program.init w) w
  -- if its conflicting accesses are ordered, each load of it returned the last store ordered before it,
  pub flat : Ordered ran.traces w → Flat ran.traces (initial s.program.init w) w
  -- and once all processors have halted, its home has its last store
  pub last : Ordered ran.traces w → AllHalted ran.ends → w < s.program.shape.pages * s.program.shape.words → Final ran.traces (initial s.program.init w) w (slice_index ran.pages w)

-- it holds of each word, of what any list of events leaves, so at every step of every interleaving on every cluster
abbrev pub EveryRunKeepsWords : Type 0
EveryRunKeepsWords = (s : Setup) (events : List Event) (ran : Ran) → IsSetup s → Outcome s events ran → (w : ℕ) → WordPromise s ran w

-- What is promised of how long the traces are.
pub record TracePromise (s : Setup) (ran : Ran) : Type 0 where
  -- there is one for each processor,
  pub all : length ran.traces ≡ s.nodes * s.procs
  -- with at most two entries for each instruction that the processor may do, and two more for its end
  pub short : (p : ℕ) (trace : List Entry) → slice_get ran.traces p ≡ Some trace → length trace ≤ 2 * s.limits.turns + 2

-- it holds of what any list of events leaves
abbrev pub EveryRunIsShort : Type 0
EveryRunIsShort = (s : Setup) (events : List Event) (ran : Ran) → IsSetup s → Outcome s events ran → TracePromise s ran
