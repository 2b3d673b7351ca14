use Rattle.dsm_top.proofs.Taking.{takes_answer, generates_nothing}
use Rattle.dsm_top.proofs.reading.take_program.Goals as goal

pub returns-in_default-clause-program : goal.returns-in_default-clause-program
returns-in_default-clause-program g c = takes_answer c.args.plan c.in_default.not-Gen _ c.read_program.result c.read_program.ensures.program

pub returns-in_default-clause-left : goal.returns-in_default-clause-left
returns-in_default-clause-left g c = λ is. absurd (generates_nothing c.args.plan c.in_default.not-Gen is)

pub returns-in_default-clause-memory : goal.returns-in_default-clause-memory
returns-in_default-clause-memory g c = λ is. absurd (generates_nothing c.args.plan c.in_default.not-Gen is)
