use Rattle.std.proofs.Common.{[], ◌∷◌, codes}
use Rattle.dsm_top.specs.declared.plans.Command.TheVariants.{Run as ToRun}
use Rattle.dsm_top.specs.Plans.{texts}
use Rattle.dsm_top.proofs.Fronts.{run-front, fault-front}
use Rattle.dsm_top.proofs.planning.threaded.Goals as goal

pub returns-in-Ok-clause-plan : goal.returns-in-Ok-clause-plan
returns-in-Ok-clause-plan c = let (others, spelt, give) = c.in-Ok.ensures.cluster in rw spelt (c.threaded.ensures others give)

pub returns-in-Err-clause-fault : goal.returns-in-Err-clause-fault
returns-in-Err-clause-fault c = fault-front ToRun (codes "run" ∷ []) run-front (texts c.args.rest.now) c.in-Err.k c.in-Err.ensures.fault
