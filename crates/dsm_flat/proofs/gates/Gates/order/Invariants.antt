use Rattle.std.proofs.Common.{◌≡◌}
use Rattle.dsm_flat.specs.Gates.{AreOrdered}
use Rattle.dsm_flat.proofs.gates.Gates.order.Given as goal

abbrev pub invariant-loop-k : goal.invariant-loop-k
invariant-loop-k l =
    record {
      index : l.self.index ≡ l.fn.self.index;
      list : AreOrdered l.k l.fn.self.list.items l.self.list.items;
    }
