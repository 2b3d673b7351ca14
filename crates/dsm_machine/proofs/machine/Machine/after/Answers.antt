use Rattle.dsm_protocol.proofs.Reading.{IsMade-after, every_trace_is_local}
use Rattle.dsm_machine.specs.Machines.{who, processor_in}
use Rattle.dsm_machine.proofs.machine.Machine.after.Goals as goal

pub returns-clause-made : goal.returns-clause-made
returns-clause-made c =
    let m = c.args.self.now in
    let n = c.take_answer.new.self in
    let code = c.args.code.now in
    IsMade-after (who m) (who n) code (processor_in m code) (processor_in n code) c.args.got c.take_answer.ensures.who c.take_answer.ensures.event

pub returns-clause-local : goal.returns-clause-local
returns-clause-local c = λ made.
    let n = c.take_answer.new.self in
    every_trace_is_local (who n) c.args.code.now (processor_in n c.args.code.now) n.p_in (returns-clause-made c made)
