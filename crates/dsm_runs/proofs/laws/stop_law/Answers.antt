use Rattle.dsm_runs.proofs.Stops.{every_stop, every_stopped}
use Rattle.dsm_runs.proofs.laws.stop_law.Goals as goal

pub returns : goal.returns
returns c = record { word = every_stop; stopped = every_stopped }
