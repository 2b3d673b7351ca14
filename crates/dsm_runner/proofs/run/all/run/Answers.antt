use Rattle.std.proofs.lemmas.Result.{IfOk-weaker}
use Rattle.dsm_core.specs.States.{setup_of}
use Rattle.dsm_runner.proofs.Running.{all_workers, all_over, never_looked}
use Rattle.dsm_runner.proofs.run.all.run.Goals as goal

pub all-requires-clause-workers : goal.all-requires-clause-workers
all-requires-clause-workers g c κs within =
    let made = c.in_ok-shared.ensures in
    all_workers c.in_ok-shared.shared (setup_of c.args.program.now c.args.t c.args.limits) c.in_ok-shared.workers.items made.setup made.count made.each

pub returns-clause-ended : goal.returns-clause-ended
returns-clause-ended g c = IfOk-weaker c.close.result _ _ (λ ran of. all_over c.in_ok-workers.workers.items ran c.in_ok-workers.ensures.ended of) c.close.ensures.workers

pub returns-clause-looked : goal.returns-clause-looked
returns-clause-looked g c =
    IfOk-weaker c.close.result _ _ (λ ran is. never_looked c.in_ok-shared.shared (setup_of c.args.program.now c.args.t c.args.limits) ran c.in_ok-shared.ensures.setup c.requires is) c.close.ensures.outcome
