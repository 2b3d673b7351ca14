use Rattle.std.proofs.Common.{arith}
use Rattle.std.proofs.lemmas.Grind.{common_steps}
use Rattle.std.proofs.lemmas.Option.{gets}
use Rattle.dsm_report.proofs.outs.write_outs_of.Goals as goal
use Rattle.dsm_report.proofs.outs.write_outs_of.Goals.{in-Some+in_ok-write_out, in_default}

pub loop-i-preserved : goal.loop-i-preserved
loop-i-preserved c =
    elim c.match-get.branch [ in-Some+in_ok-write_out w ↦ grind (arith, common_steps, gets) | in_default w ↦ grind (arith, common_steps, gets) ]
