-- Where the workers are while threads run.
use Rattle.std.specs.Prelude.{◌≡◌, ℕ, List, length, Some, slice_get}
use Rattle.dsm_runner.specs.Sights.{procs_of}
use Rattle.dsm_runner.specs.Helds.{Board}
use Rattle.dsm_runner.specs.Workers.{IsWorker}
use Rattle.dsm_runner.specs.declared.run.WorkerOf.{WorkerOf}
use Rattle.dsm_runner.specs.declared.run.Place.{Place}
use Rattle.dsm_runner.specs.declared.run.Place.TheVariants.{There, Here}

-- the promise of the worker of number n at this table
pub record IsPromise (b : Board) (n : ℕ) (p : WorkerOf) : Type 0 where
  pub number : p.number ≡ n
  pub board : p.shared.value ≡ b

-- that worker, or the promise of it
abbrev pub IsPlace : Board → ℕ → Place → Type 0
IsPlace b n (There h) = IsPromise b n h.promise
IsPlace b n (Here w) = IsWorker b n w

-- each place is that of its number
abbrev pub AreFirst : Board → List Place → Type 0
AreFirst b ps = (n : ℕ) (p : Place) → slice_get ps n ≡ Some p → IsPlace b n p

-- the places of all workers
pub record ArePlaces (b : Board) (ps : List Place) : Type 0 where
  pub count : length ps ≡ procs_of b.setup
  pub each : AreFirst b ps
