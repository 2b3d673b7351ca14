use Rattle.std.proofs.Common.{arith}
use Rattle.std.proofs.lemmas.Grind.{common_steps}
use Rattle.std.proofs.lemmas.Option.{gets}
use Rattle.dsm_report.proofs.traces.write_trace.Goals as goal
use Rattle.dsm_report.proofs.traces.write_trace.Goals.{in-Some+in_ok-write_entry, in_default}

pub loop-i-preserved : goal.loop-i-preserved
loop-i-preserved c =
    elim c.match-get.branch [ in-Some+in_ok-write_entry w ↦ grind (arith, common_steps, gets) | in_default w ↦ grind (arith, common_steps, gets) ]
