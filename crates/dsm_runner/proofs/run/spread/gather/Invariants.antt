use Rattle.std.proofs.Common.{◌≡◌, ℕ, ◌+◌, ◌≤◌, length, Some, vec_len, vec_capacity}
use Rattle.std.specs.Prelude.{slice_get}
use Rattle.std.specs.Vec.Iter.{into_iter_items}
use Rattle.dsm_runner.specs.Sights.{procs_of}
use Rattle.dsm_runner.specs.Workers.{IsWorker, AreEnded}
use Rattle.dsm_runner.specs.Places.{IsPlace}
use Rattle.dsm_runner.specs.declared.run.Place.{Place}
use Rattle.dsm_runner.specs.declared.worker.Worker.{Worker}
use Rattle.dsm_runner.proofs.run.spread.gather.Given as goal

abbrev pub invariant-loop-place : goal.invariant-loop-place
invariant-loop-place g l =
    let b = l.shared in
    let rest = into_iter_items l.place-iterator in record {
      count : length l.workers.items + length rest ≡ procs_of b.setup;
      room : vec_len l.workers + length rest ≤ vec_capacity l.workers;
      rest : (j : ℕ) (p : Place) → slice_get rest j ≡ Some p → IsPlace b (vec_len l.workers + j) p;
      done : (n : ℕ) (w : Worker) → slice_get l.workers.items n ≡ Some w → IsWorker b n w;
      ended : AreEnded l.workers.items;
    }
