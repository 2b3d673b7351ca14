use Rattle.dsm_top.specs.declared.plans.Setting.TheVariants.{Kind as OfKind, Seed, Turns, Looks, Steps, Trace, Threads}
use Rattle.dsm_top.proofs.Settings.{with-IsGivenBy}
use Rattle.dsm_top.proofs.planning.Given.with.Goals as goal

pub returns-in-Kind : goal.returns-in-Kind
returns-in-Kind c = rw c.in-Kind.is (with-IsGivenBy c.args.self (OfKind c.in-Kind.kind))

pub returns-in-Seed : goal.returns-in-Seed
returns-in-Seed c = rw c.in-Seed.is (with-IsGivenBy c.args.self (Seed c.in-Seed.n))

pub returns-in-Turns : goal.returns-in-Turns
returns-in-Turns c = rw c.in-Turns.is (with-IsGivenBy c.args.self (Turns c.in-Turns.n))

pub returns-in-Looks : goal.returns-in-Looks
returns-in-Looks c = rw c.in-Looks.is (with-IsGivenBy c.args.self (Looks c.in-Looks.n))

pub returns-in-Steps : goal.returns-in-Steps
returns-in-Steps c = rw c.in-Steps.is (with-IsGivenBy c.args.self (Steps c.in-Steps.n))

pub returns-in-Trace : goal.returns-in-Trace
returns-in-Trace c = rw c.in-Trace.is (with-IsGivenBy c.args.self Trace)

pub returns-in-Threads : goal.returns-in-Threads
returns-in-Threads c = rw c.in-Threads.is (with-IsGivenBy c.args.self Threads)
