use Rattle.dsm_releases.proofs.Tying.{tied}
use Rattle.dsm_releases.proofs.laws.releases_law.Goals as goal

pub returns : goal.returns
returns c = record { tied = tied }
