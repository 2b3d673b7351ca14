-- A state that the calls make is a reached one, and what it leaves is as promised.
use Rattle.std.proofs.Common.{◌≡◌, ℕ, [], ◌∷◌, ◌++◌, true, false, sym, ap, ◌∙◌, subst}
use Rattle.dsm_runs.specs.Setups.{Setup, IsSetup}
use Rattle.dsm_runs.specs.Clusters.{Cluster, Event, start, is_defined, after_event, IsReached}
use Rattle.dsm_runs.specs.Outcomes.{Ran, ran_of}
use Rattle.dsm_runs.specs.Promises.{Promises}
use Rattle.dsm_core.specs.declared.state.Step.{Step}
use Rattle.dsm_core.specs.declared.state.Step.TheVariants.{Did, Ended, NoMemory}
use Rattle.dsm_core.specs.States.{IsEvent, Stepped}
use Rattle.dsm_runs.proofs.Promising.{every_run}
use Rattle.dsm_runs.proofs.Runs.{reached_none, are_defined_none, reached_one_more, are_defined_one_more}

pub reached_start : (s : Setup) → IsReached s (start s)
reached_start s = ([], are_defined_none s, sym (reached_none s))

reached_event : (s : Setup) (old new : Cluster) (e : Event) → IsEvent s old new e → IsReached s old → IsReached s new
reached_event s old new e event (events, defined, is) = (
  events ++ e ∷ [],
  are_defined_one_more s events e defined (ap (λ c. is_defined c e) (sym is) ∙ event.0),
  event.1 ∙ ap (λ c. after_event s c e) is ∙ sym (reached_one_more s events e),
)

pub reached_stepped : (s : Setup) (old new : Cluster) (p : ℕ) (step : Step) → Stepped s old new p step → IsReached s old → IsReached s new
reached_stepped s old new p Did did h = reached_event s old new (record { p = p; starved = false }) did h
reached_stepped s old new p NoMemory did h = reached_event s old new (record { p = p; starved = true }) did h
reached_stepped s old new p Ended did h = subst (IsReached s) (sym did.1) h

pub promised : (s : Setup) (c : Cluster) (ran : Ran) → ran ≡ ran_of s c → IsSetup s → IsReached s c → Promises s ran
promised s c ran is setup (events, defined, at) = every_run s events ran setup (record { defined = defined; leaves = sym (is ∙ ap (ran_of s) at) })
