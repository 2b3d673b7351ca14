use Rattle.dsm_runs.proofs.Legality.{every_sync_legal}
use Rattle.dsm_runs.proofs.laws.sync_law.Goals as goal

pub returns : goal.returns
returns c = every_sync_legal
