use Rattle.dsm_top.proofs.Running.{runs_are, reported}
use Rattle.dsm_top.proofs.answering.run_and_report.Goals as goal

pub report-requires-clause-outcome : goal.report-requires-clause-outcome
report-requires-clause-outcome c = (c.in_ok-ran.ensures.events, c.in_ok-ran.ensures.outcome)

pub returns : goal.returns
returns c =
    let left = c.in_ok-ran.field-0 in
    reported (c.args.t) c.args.limits c.args.kind c.args.steps c.args.trace c.args.program.now left.ran c.report.result
    (runs_are c.args.t c.args.limits c.args.kind c.args.steps c.args.program.now left.ran left.cut c.every_list.ensures.runs c.every_list.ensures.words c.every_list.ensures.alone c.requires c.in_ok-ran.ensures) c.report.ensures.ran c.report.ensures.text
