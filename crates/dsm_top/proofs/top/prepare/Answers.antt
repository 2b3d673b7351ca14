use Rattle.std.proofs.Common.{refl}
use Rattle.dsm_top.specs.Plans.{texts}
use Rattle.dsm_top.proofs.Words.{none-PlanOf}
use Rattle.dsm_top.proofs.Concluding.{done_without_plan}
use Rattle.dsm_top.proofs.top.prepare.Goals as goal

pub returns-in-Err-clause-done : goal.returns-in-Err-clause-done
returns-in-Err-clause-done g c =
    let words = texts c.args.words.now in
    done_without_plan words _ _ _ _ c.refuse.result c.in-Err.k c.in-Err.ensures.fault (none-PlanOf words c.in-Err.k c.in-Err.ensures.fault) refl refl c.refuse.ensures.status c.refuse.ensures.ran (rw c.refuse_word.ensures at c.refuse.ensures.line)
