use Rattle.std.proofs.Common.{sym, ap, subst}
use Rattle.dsm_machine.specs.Machines.{who}
use Rattle.dsm_protocol.specs.Processors.{going_on, IsMade}
use Rattle.dsm_protocol.proofs.Reading.{IsMade-new}
use Rattle.dsm_machine.proofs.machine.Machine.new.Goals as goal

pub returns-clause-new : goal.returns-clause-new
returns-clause-new c = λ code. ap (λ m. going_on (who c.before_all.result) code m) c.before_all.ensures.seen

pub returns-clause-made : goal.returns-clause-made
returns-clause-made c = λ code. subst (IsMade (who c.before_all.result) code) (sym (returns-clause-new c code)) (IsMade-new (who c.before_all.result) code)
