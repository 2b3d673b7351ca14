use Rattle.dsm_core.specs.States.{setup_of}
use Rattle.dsm_top.proofs.Running.{pages_many, few_traces, short_traces}
use Rattle.dsm_top.proofs.answering.report.Goals as goal

pub text-requires-clause-pages : goal.text-requires-clause-pages
text-requires-clause-pages c = pages_many (setup_of c.args.program.now c.args.t c.args.limits) c.requires.outcome.0 c.args.ran c.requires.outcome.1

pub text-requires-clause-few : goal.text-requires-clause-few
text-requires-clause-few c =
    let s = setup_of c.args.program.now c.args.t c.args.limits in
    few_traces s c.args.ran c.requires.setup (c.every_list.ensures.short s c.requires.outcome.0 c.args.ran c.requires.setup c.requires.outcome.1)

pub text-requires-clause-no_circle : goal.text-requires-clause-no_circle
text-requires-clause-no_circle c = (c.every_list.ensures.runs (setup_of c.args.program.now c.args.t c.args.limits) c.requires.outcome.0 c.args.ran c.requires.setup c.requires.outcome.1).legal.no_circle

pub text-requires-clause-short : goal.text-requires-clause-short
text-requires-clause-short c =
    let s = setup_of c.args.program.now c.args.t c.args.limits in
    short_traces s c.args.ran c.requires.setup (c.every_list.ensures.short s c.requires.outcome.0 c.args.ran c.requires.setup c.requires.outcome.1)
