use Rattle.dsm_runs.proofs.Wants.{every_want}
use Rattle.dsm_runs.proofs.laws.want_law.Goals as goal

pub returns : goal.returns
returns c = every_want
