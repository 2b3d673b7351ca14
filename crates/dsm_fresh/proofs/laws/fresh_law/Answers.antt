use Rattle.dsm_fresh.proofs.Keeps.{fresh, usable, alone}
use Rattle.dsm_fresh.proofs.Places.{since, since_break, since_start}
use Rattle.dsm_fresh.proofs.laws.fresh_law.Goals as goal

pub returns : goal.returns
returns c = record { fresh = fresh; since = since; usable = usable; since_break = since_break; since_start = since_start; alone = alone }
