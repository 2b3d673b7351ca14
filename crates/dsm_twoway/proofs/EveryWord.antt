-- Every word of every exact run is tied.
use Rattle.std.proofs.Common.{map}
use Rattle.dsm_runs.specs.Clusters.{exactly}
use Rattle.dsm_ties.proofs.RunTrails.{every_run}
use Rattle.dsm_ties.proofs.Fining.{exact_run}
use Rattle.dsm_twoway.proofs.Headline.{EveryWordIsTied}
use Rattle.dsm_twoway.proofs.Joining.{each_acts}
use Rattle.dsm_twoway.proofs.Trailing.{word_tied}

pub words_are_tied : EveryWordIsTied
words_are_tied s is events h g i h_in g_in i_in is_home =
    word_tied s is h g i h_in g_in i_in each_acts (every_run s is (map exactly events)).trail (exact_run s is events) is_home
