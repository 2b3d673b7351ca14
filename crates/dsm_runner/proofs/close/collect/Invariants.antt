use Rattle.std.proofs.Common.{◌≡◌, ◌∷◌, ◌++◌, suc, length, map}
use Rattle.std.specs.Vec.Iter.{into_iter_items}
use Rattle.dsm_runner.specs.Machines.{joined_sight, AreGiven}
use Rattle.dsm_runner.specs.Workers.{AreRest, given_to}
use Rattle.dsm_runner.proofs.close.collect.Given as goal

-- the seat is the first, with those that it took in; they and the rest are all; and the machines are theirs
abbrev pub invariant-loop-worker : goal.invariant-loop-worker
invariant-loop-worker l =
    let v = l.seat.me.0 in let shared = l.fn.table.shared in record {
      table : l.seat.table_id ≡ shared.table_id;
      shape : v ≡ joined_sight shared.key (v.given ∷ v.joined);
      all : (v.given ∷ v.joined) ++ map given_to (into_iter_items l.worker-iterator) ≡ map given_to l.fn.workers.items;
      rest : AreRest (record { table = shared.table_id; setup = shared.key }) (suc (length v.joined)) (into_iter_items l.worker-iterator);
      count : length l.machines.items ≡ suc (length v.joined);
      machines : AreGiven shared.key (v.given ∷ v.joined) l.machines.items;
    }
