use Rattle.dsm_flat.proofs.History.{one_more, old_stays, newest_is_there, rank_own}
use Rattle.dsm_flat.proofs.LogAccesses.{are_accesses, latest_step, in_order_step}
use Rattle.dsm_flat.proofs.laws.log_law.Goals as goal

pub returns : goal.returns
returns c = record { one_more = one_more; old = old_stays; newest = newest_is_there; own = rank_own; accesses = are_accesses; latest = latest_step; order = in_order_step }
