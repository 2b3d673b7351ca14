use Rattle.std.proofs.Common.{◌≡◌, ◌+◌, ◌≤◌, length, vec_len, vec_capacity}
use Rattle.std.specs.Vec.Iter.{into_iter_items}
use Rattle.dsm_runner.specs.Sights.{procs_of}
use Rattle.dsm_runner.specs.Workers.{AreRest}
use Rattle.dsm_runner.specs.Places.{AreFirst}
use Rattle.dsm_runner.proofs.run.spread.spread.Given as goal

abbrev pub invariant-loop-worker : goal.invariant-loop-worker
invariant-loop-worker g l =
    let rest = into_iter_items l.worker-iterator in record {
      count : length l.places.items + length rest ≡ procs_of l.shared.setup;
      room : vec_len l.places + length rest ≤ vec_capacity l.places;
      rest : AreRest l.shared (vec_len l.places) rest;
      done : AreFirst l.shared l.places.items;
    }
