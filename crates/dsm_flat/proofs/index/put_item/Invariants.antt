use Rattle.std.proofs.Common.{◌≡◌, ℕ, length}
use Rattle.dsm_flat.specs.Gates.{item_of}
use Rattle.dsm_flat.proofs.index.put_item.Given as goal

abbrev pub invariant-loop-m : goal.invariant-loop-m
invariant-loop-m l =
    record {
      len : length l.table.items ≡ l._m;
      same : (m : ℕ) → item_of l.table.items m ≡ item_of l.fn.table.items m;
    }
