use Rattle.dsm_top.proofs.Running.{runs_in_threads, reported_by_threads}
use Rattle.dsm_top.proofs.answering.run_threads_and_report.Goals as goal

pub returns : goal.returns
returns g c =
    let ran = c.in_ok-ran.ran in
    let runs = runs_in_threads c.args.t c.args.limits c.args.program.now ran c.every_list.ensures.runs c.every_list.ensures.words c.every_list.ensures.alone c.requires.setup c.in_ok-ran.ensures.outcome c.in_ok-ran.ensures.ended c.in_ok-ran.ensures.looked in
    reported_by_threads c.args.t c.args.limits c.args.trace c.args.program.now ran c.report.result runs c.report.ensures.ran c.report.ensures.text
