use Rattle.dsm_sched.specs.declared.kind.Kind.TheVariants.{Round}
use Rattle.dsm_top.proofs.Running.{runs_are}
use Rattle.dsm_top.proofs.answering.run_and_sum_up.Goals as goal

pub returns : goal.returns
returns c =
    let left = c.in_ok-ran.field-0 in (
      runs_are c.args.t c.args.limits Round c.args.steps c.args.program.now left.ran left.cut c.every_list.ensures.runs c.every_list.ensures.words c.every_list.ensures.alone c.requires c.in_ok-ran.ensures,
      c.in_ok-text.ensures,
    )
