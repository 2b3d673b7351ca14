use Rattle.dsm_runs.proofs.Mappings.{leaves_other_mappings}
use Rattle.dsm_runs.proofs.Promising.{every_run, alone_is_ordered}
use Rattle.dsm_twoway.proofs.EveryWord.{words_are_tied}
use Rattle.dsm_twoway.proofs.Headline.{every_word}
use Rattle.dsm_twoway.proofs.Sharing.{none_is_alone}
use Rattle.dsm_twoway.proofs.Short.{every_trace_is_short}
use Rattle.dsm_twoway.proofs.laws.every_list.Goals as goal

pub returns-clause-runs : goal.returns-clause-runs
returns-clause-runs c = every_run

pub returns-clause-words : goal.returns-clause-words
returns-clause-words c = every_word words_are_tied none_is_alone

pub returns-clause-mappings : goal.returns-clause-mappings
returns-clause-mappings c = leaves_other_mappings

pub returns-clause-alone : goal.returns-clause-alone
returns-clause-alone c = alone_is_ordered

pub returns-clause-short : goal.returns-clause-short
returns-clause-short c = every_trace_is_short
