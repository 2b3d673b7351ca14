-- The headline, of every reached state.
use Rattle.std.proofs.Common.{ap, sym}
use Rattle.dsm_runs.specs.Setups.{Setup, IsSetup}
use Rattle.dsm_runs.specs.Clusters.{Cluster, IsReached}
use Rattle.dsm_runs.specs.Outcomes.{Outcome, ran_of}
use Rattle.dsm_runs.proofs.Promising.{every_run}
use Rattle.dsm_twoway.specs.After.{KeepsPromises, KeepsWords}
use Rattle.dsm_twoway.proofs.EveryWord.{words_are_tied}
use Rattle.dsm_twoway.proofs.Headline.{every_word}
use Rattle.dsm_twoway.proofs.Sharing.{none_is_alone}

module _ (s : Setup) (c : Cluster) (is : IsSetup s) (r : IsReached s c) where
  -- what the state leaves is what the events that reach it leave
  outcome : Outcome s r.0 (ran_of s c)
  outcome = record { defined = r.1; leaves = ap (ran_of s) (sym r.2) }

  pub keeps_promises : KeepsPromises s c
  keeps_promises = every_run s r.0 (ran_of s c) is outcome

  pub keeps_words : KeepsWords s c
  keeps_words = every_word words_are_tied none_is_alone s r.0 (ran_of s c) is outcome
