use Rattle.std.proofs.Common.{ap, ◌∙◌}
use Rattle.dsm_words.specs.Op.{words_after, answer_of}
use Rattle.dsm_words.specs.Words.{done, reply}
use Rattle.dsm_machine.specs.Machines.{who, processor_in}
use Rattle.dsm_protocol.specs.Processors.{after_answer}
use Rattle.dsm_core.proofs.Stepping.{op_is}
use Rattle.dsm_core.proofs.state.acting.act.Goals as goal

pub returns-clause-words : goal.returns-clause-words
unfolding done
returns-clause-words c = c.apply-got.ensures.words ∙ ap (words_after c.args.words.now) (op_is _ _ c.in-Some.op c.in-Some.ensures.op)

pub returns-clause-event : goal.returns-clause-event
unfolding reply
returns-clause-event c =
    let m = c.args.machine.now in
    let code = c.args.code.now in
    c.after.ensures.event
    ∙ ap (after_answer (who m) code (processor_in m code)) (c.apply-got.ensures.answer ∙ ap (answer_of c.args.words.now) (op_is _ _ c.in-Some.op c.in-Some.ensures.op))

pub returns-clause-spends : goal.returns-clause-spends
returns-clause-spends c = c.after.ensures.spends.one
