use Rattle.dsm_runner.specs.Workers.{IsWorker}
use Rattle.dsm_tests.proofs.workers.finish.Given as goal

abbrev pub invariant-loop : goal.invariant-loop
invariant-loop g l = record {
  can : (goal.iterator-loop g).can_next l.iterator';
  finite : (goal.iterator-loop g).is_finite l.iterator';
  worker : IsWorker l.shared l.number l.worker;
}
