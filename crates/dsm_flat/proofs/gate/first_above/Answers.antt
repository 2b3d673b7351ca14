use Rattle.std.proofs.Common.{◌≡◌, ℕ, ◌≤◌, List, true, false, length, arith, rules}
use Rattle.std.specs.Prelude.{slice_index}
use Rattle.std.proofs.lemmas.Bool.{leb-true}
use Rattle.std.proofs.Math.Dec.{leb}
use Rattle.std.specs.List.Sorted.{IsPartitionPoint}
use Rattle.std.proofs.lemmas.List.Sorted.{IsPartitionPoint-from_clause, IsPartitionedBy-leb}
use Rattle.dsm_flat.specs.Gates.{IsFirstAbove}
use Rattle.dsm_flat.proofs.Gating.{rises_by_index, not_le}
use Rattle.dsm_flat.proofs.gate.first_above.Goals as goal

first : (counts : List ℕ) (j k : ℕ) → k ≤ length counts → IsPartitionPoint (λ y. leb y j ≡ true) (λ y. leb y j ≡ false) counts k → IsFirstAbove counts j k
first counts j k le h =
    record {
      within = le;
      below = λ m lt. leb-true (slice_index counts m) j (h.0 m 0 (omega arith) lt);
      above = λ m lo lt. not_le (slice_index counts m) j (h.1 m 0 lo lt);
    }

pub returns-clause-above : goal.returns-clause-above
returns-clause-above c = λ rises.
    first c.args.counts.now c.args.j c.partition_point.result c.partition_point.ensures.bound
    (IsPartitionPoint-from_clause (λ y. leb y c.args.j) c.args.counts.now c.partition_point.result c.partition_point.ensures.partitioned
    (IsPartitionedBy-leb (λ x. x) c.args.counts.now c.args.j (rises_by_index c.args.counts.now rises)) (λ a r q k. search rules))
