use Rattle.std.proofs.Common.{arith}
use Rattle.std.proofs.lemmas.Bool.Decides.{nat_tests}
use Rattle.std.proofs.lemmas.Grind.{common_steps}
use Rattle.dsm_asm.proofs.Starting.{nonzero_next}
use Rattle.dsm_asm.proofs.settings.Settings.initial.Goals as goal

pub loop-word-preserved : goal.loop-word-preserved
loop-word-preserved c = grind (arith, common_steps, nat_tests, nonzero_next)
