use Rattle.dsm_copies.proofs.Every.{flat, final_value}
use Rattle.dsm_copies.proofs.Origins.{sourced}
use Rattle.dsm_copies.proofs.Premised.{enough, owed_by}
use Rattle.dsm_copies.proofs.Joining.{order_known, joined, joined_by_sends}
use Rattle.dsm_copies.proofs.laws.copies_law.Goals as goal

pub returns : goal.returns
returns c = record { latest = flat; home = final_value; source = sourced; enough = enough; owed = owed_by; known = order_known; joined = joined; joined_by_sends = joined_by_sends }
