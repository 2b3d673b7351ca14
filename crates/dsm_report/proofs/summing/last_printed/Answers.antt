use Rattle.std.proofs.Common.{arith}
use Rattle.std.proofs.lemmas.Grind.{common_steps}
use Rattle.std.proofs.lemmas.Option.{gets}
use Rattle.dsm_report.proofs.Printed.{printed-more}
use Rattle.dsm_report.proofs.summing.last_printed.Goals as goal
use Rattle.dsm_report.proofs.summing.last_printed.Goals.{in-Some, in_default}

pub loop-i-preserved : goal.loop-i-preserved
loop-i-preserved c =
    elim c.match-get.branch [ in-Some w ↦ grind (arith, common_steps, gets, printed-more) | in_default w ↦ grind (arith, common_steps, gets) ]
