use Rattle.dsm_list.proofs.Whole.{accepted, same}
use Rattle.dsm_list.proofs.laws.list_law.Goals as goal

pub returns-clause-accepted : goal.returns-clause-accepted
returns-clause-accepted c = accepted

pub returns-clause-same : goal.returns-clause-same
returns-clause-same c = same
