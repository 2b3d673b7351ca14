-- From the workers of a new table to what they leave.
use Rattle.std.proofs.Common.{◌≡◌, zero, suc, List, [], ◌∷◌, map, length, Option, None, IsSome, refl, sym, ap, subst, ◌∙◌}
use Rattle.dsm_local.specs.declared.end.End.{End as Ending}
use Rattle.dsm_protocol.specs.Processors.{ending}
use Rattle.dsm_runs.specs.Setups.{Setup}
use Rattle.dsm_runs.specs.Outcomes.{Ran}
use Rattle.dsm_runs.proofs.Lists.{some_one}
use Rattle.dsm_runner.specs.Sights.{procs_of}
use Rattle.dsm_runner.specs.Helds.{Board, processor_by}
use Rattle.dsm_runner.specs.Workers.{AreWorkers, AreNew, AreEnded, processors_by}
use Rattle.dsm_runner.specs.Outcomes.{IsOutcome, IsOf, AllOver, NoneLooked}
use Rattle.dsm_runner.specs.declared.worker.Worker.{Worker}
use Rattle.dsm_runner.proofs.Looks.{none_looked}

-- the workers of a new table are those of all processors
pub all_workers : (b : Board) (s : Setup) (ws : List Worker) → b.setup ≡ s → length ws ≡ procs_of s → AreNew b ws → AreWorkers b ws
all_workers b s ws setup count new = record { count = count ∙ ap (λ (x : Setup). procs_of x) (sym setup); each = λ p w at. (new p w at).is }

over : (ws : List Worker) → AreEnded ws → AllOver (map ending (processors_by ws))
over [] ended p e at = absurd (cc at)
over (w ∷ ws) ended zero e at = subst (λ (x : Option Ending). IsSome x) (some_one (ending (processor_by w)) e at) (ended 0 w refl)
over (w ∷ ws) ended (suc p) e at = over ws (λ q x. ended (suc q) x) p e at

-- ended workers leave ends
pub all_over : (ws : List Worker) (ran : Ran) → AreEnded ws → IsOf ws ran → AllOver ran.ends
all_over ws ran ended of = subst AllOver (sym of.ends) (over ws ended)

-- where the setup told to the table has no limit of looks, none has used up its looks
pub never_looked : (b : Board) (s : Setup) (ran : Ran) → b.setup ≡ s → s.limits.looks ≡ None → IsOutcome b.setup ran → NoneLooked ran.ends
never_looked b s ran setup never = none_looked b.setup ran (ap (λ (x : Setup). x.limits.looks) setup ∙ never)
