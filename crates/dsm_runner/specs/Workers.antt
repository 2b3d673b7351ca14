-- The workers of a table.
use Rattle.std.specs.Prelude.{◌≡◌, ℕ, suc, ◌+◌, List, [], map, length, Some, IsSome, slice_get}
use Rattle.dsm_protocol.specs.Processors.{Processor, Given, ending}
use Rattle.dsm_runner.specs.Sights.{procs_of}
use Rattle.dsm_runner.specs.Helds.{Board, processor_by}
use Rattle.dsm_runner.specs.declared.worker.Worker.{Worker}

-- the worker of processor p at this table
pub record IsWorker (b : Board) (p : ℕ) (w : Worker) : Type 0 where
  pub table : w.table ≡ b.table
  pub setup : w.setup ≡ b.setup
  pub number : w.number ≡ p

-- they are the workers of all processors, in their order
pub record AreWorkers (b : Board) (ws : List Worker) : Type 0 where
  pub count : length ws ≡ procs_of b.setup
  pub each : (p : ℕ) (w : Worker) → slice_get ws p ≡ Some w → IsWorker b p w

-- a worker whose processor has done nothing
pub record IsNew (b : Board) (p : ℕ) (w : Worker) : Type 0 where
  pub is : IsWorker b p w
  pub still : w.given ≡ []

-- each worker is new, in the order of the processors
abbrev pub AreNew : Board → List Worker → Type 0
AreNew b ws = (p : ℕ) (w : Worker) → slice_get ws p ≡ Some w → IsNew b p w

-- the same for those from processor 1 on
abbrev pub AreLater : Board → List Worker → Type 0
AreLater b ws = (j : ℕ) (w : Worker) → slice_get ws j ≡ Some w → IsNew b (suc j) w

-- the workers from processor n on
abbrev pub AreRest : Board → ℕ → List Worker → Type 0
AreRest b n ws = (j : ℕ) (w : Worker) → slice_get ws j ≡ Some w → IsWorker b (n + j) w

-- what they were given
abbrev pub given_to : Worker → List Given
given_to w = w.given

-- their processors
abbrev pub processors_by : List Worker → List Processor
processors_by ws = map (λ w. processor_by w) ws

-- each has ended
abbrev pub AreEnded : List Worker → Type 0
AreEnded ws = (p : ℕ) (w : Worker) → slice_get ws p ≡ Some w → IsSome (ending (processor_by w))
