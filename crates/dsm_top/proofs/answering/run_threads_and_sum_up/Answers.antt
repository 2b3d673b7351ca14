use Rattle.dsm_top.proofs.Running.{runs_in_threads}
use Rattle.dsm_top.proofs.answering.run_threads_and_sum_up.Goals as goal

pub returns : goal.returns
returns g c = (
  runs_in_threads c.args.t c.args.limits c.args.program.now c.in_ok-ran.ran c.every_list.ensures.runs c.every_list.ensures.words c.every_list.ensures.alone c.requires.setup c.in_ok-ran.ensures.outcome c.in_ok-ran.ensures.ended c.in_ok-ran.ensures.looked,
  c.in_ok-text.ensures,
)
