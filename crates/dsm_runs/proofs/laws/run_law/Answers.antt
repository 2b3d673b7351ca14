use Rattle.dsm_runs.proofs.Mappings.{leaves_other_mappings}
use Rattle.dsm_runs.proofs.Promising.{every_run, alone_is_ordered}
use Rattle.dsm_runs.proofs.laws.run_law.Goals as goal

pub returns : goal.returns
returns c = record { runs = every_run; mappings = leaves_other_mappings; alone = alone_is_ordered }
