use Rattle.dsm_incoming.proofs.Merging.{merge_gets, merge_leaves, merge_made}
use Rattle.dsm_incoming.proofs.Overwriting.{overwrite_gets, overwrite_leaves, overwrite_made}
use Rattle.dsm_incoming.proofs.law.incoming_law.Goals as goal

pub returns : goal.returns
returns c = record { merge = merge_gets; merge_unnamed = merge_leaves; merge_made = merge_made; overwrite = overwrite_gets; overwrite_unnamed = overwrite_leaves; overwrite_made = overwrite_made }
