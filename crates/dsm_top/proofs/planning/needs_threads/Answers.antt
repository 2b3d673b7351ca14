use Rattle.dsm_top.specs.Plans.{texts}
use Rattle.dsm_top.proofs.Words.{none-PlanOf}
use Rattle.dsm_top.proofs.OnePlan.{by_plan}
use Rattle.dsm_top.proofs.planning.needs_threads.Goals as goal

pub returns-in-Ok : goal.returns-in-Ok
returns-in-Ok c = by_plan (texts c.args.words.now) c.in-Ok.plan c.in-Ok.ensures.plan c.runs_by_threads.result c.runs_by_threads.ensures

pub returns-in-Err : goal.returns-in-Err
returns-in-Err c = (λ wrong. absurd (cc wrong), λ (q, asked, so). absurd (none-PlanOf (texts c.args.words.now) c.in-Err.field-0 c.in-Err.ensures.fault q asked))
