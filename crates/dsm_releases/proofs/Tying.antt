-- What is owed, over every list of loose events.
use Rattle.dsm_ties.specs.Always.{AlwaysLoosely}
use Rattle.dsm_ties.proofs.Along.{dir_tied}
use Rattle.dsm_ties.proofs.RunTrails.{every_run}
use Rattle.dsm_releases.specs.Tied.{Tied}
use Rattle.dsm_releases.proofs.Joining.{each_acts}
use Rattle.dsm_releases.proofs.Trailing.{debts_of_taken}

pub tied : AlwaysLoosely Tied
tied s events is = debts_of_taken s (λ g g_in z t. dir_tied s g g_in t) each_acts events is (every_run s is events)
