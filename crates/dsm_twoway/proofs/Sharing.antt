-- Where a run has halted, no node has a page alone.
use Rattle.std.proofs.Common.{map}
use Rattle.dsm_protocol.specs.Processors.{ending}
use Rattle.dsm_runs.specs.Clusters.{start, exactly, after_all_loose}
use Rattle.dsm_runs.proofs.Promising.{map_of_item}
use Rattle.dsm_ties.proofs.Closing.{halted_shared}
use Rattle.dsm_twoway.proofs.Closing.{halted_at}
use Rattle.dsm_twoway.proofs.Headline.{NoneIsAlone}

pub none_is_alone : NoneIsAlone
none_is_alone s is events halted n g n_in g_in =
    let ps = (after_all_loose s (start s) (map exactly events)).processors in
    halted_shared s (map exactly events) is (λ p m here. halted_at (map ending ps) p (ending m) halted (map_of_item ending ps p m here)) n g n_in g_in
