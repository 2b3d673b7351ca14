use Rattle.std.proofs.Common.{◌≡◌, ◌+◌, suc, [], length}
use Rattle.std.specs.Vec.Iter.{into_iter_items}
use Rattle.dsm_runner.specs.Sights.{first_with, procs_of}
use Rattle.dsm_runner.specs.Machines.{AreFresh}
use Rattle.dsm_runner.specs.Workers.{AreLater}
use Rattle.dsm_runner.proofs.open.later_workers.Given as goal

-- the seats that are made, the workers so far, and the machines that are left
abbrev pub invariant-loop-machine : goal.invariant-loop-machine
invariant-loop-machine l = record {
  table : l.first.table_id ≡ l.initial.first.table_id;
  id : l.first.id ≡ l.initial.first.id;
  view : l.first.me ≡ (first_with l.shared.setup (suc (length l.workers.items)), []);
  fresh : AreFresh l.shared.setup (suc (length l.workers.items)) (into_iter_items l.machine-iterator);
  all : suc (length l.workers.items + length (into_iter_items l.machine-iterator)) ≡ procs_of l.shared.setup;
  each : AreLater l.shared l.workers.items;
}
