use Rattle.std.proofs.Common.{rules}
use Rattle.std.proofs.lemmas.List.Sorted.{IsPartitionPoint-from_clause}
use Rattle.dsm_flat.proofs.Finding.{is_under, partitioned, found}
use Rattle.dsm_flat.proofs.accesses.index_of.Goals as goal

pub returns : goal.returns
returns c = λ ts w k bound a g at is.
    found ts w bound c.args.list.now g c.args.x c.partition_point.result k a
    (IsPartitionPoint-from_clause (is_under c.args.x) c.args.list.now c.partition_point.result c.partition_point.ensures.partitioned (partitioned ts w bound c.args.list.now g c.args.x) (λ a r q k. search rules)) at is
