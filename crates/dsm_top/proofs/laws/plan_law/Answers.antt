use Rattle.dsm_top.proofs.OnePlan.{one_plan}
use Rattle.dsm_top.proofs.laws.plan_law.Goals as goal

pub returns : goal.returns
returns c = one_plan
