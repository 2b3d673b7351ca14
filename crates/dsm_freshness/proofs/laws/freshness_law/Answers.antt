use Rattle.dsm_freshness.proofs.Remembering.{always_fresh}
use Rattle.dsm_freshness.proofs.Trailing.{every_fresh}
use Rattle.dsm_freshness.proofs.laws.freshness_law.Goals as goal

pub returns : goal.returns
returns c = record {
  tied = every_fresh;
  fresh = always_fresh;
}
