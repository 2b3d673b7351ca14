use Rattle.std.proofs.Common.{codes}
use Rattle.dsm_top.specs.Plans.{kind_of, seed_of, turns_of, looks_of, steps_of, trace_of, threads_of}
use Rattle.dsm_top.proofs.Settings.{given-Any, kind-named, seed-named, turns-named, looks-named, steps-named, trace-named, threads-named}
use Rattle.dsm_top.proofs.planning.Given.has.Goals as goal

pub returns-in-Kind : goal.returns-in-Kind
returns-in-Kind c settings given = rw (c.is_some.ensures, c.in-Kind.is) (given-Any kind_of (codes "kind") kind-named settings c.args.self.kind given.kind)

pub returns-in-Seed : goal.returns-in-Seed
returns-in-Seed c settings given = rw (c.is_some-in-Seed.ensures, c.in-Seed.is) (given-Any seed_of (codes "seed") seed-named settings c.args.self.seed given.seed)

pub returns-in-Turns : goal.returns-in-Turns
returns-in-Turns c settings given = rw (c.is_some-in-Turns.ensures, c.in-Turns.is) (given-Any turns_of (codes "turns") turns-named settings c.args.self.turns given.turns)

pub returns-in-Looks : goal.returns-in-Looks
returns-in-Looks c settings given = rw (c.is_some-in-Looks.ensures, c.in-Looks.is) (given-Any looks_of (codes "looks") looks-named settings c.args.self.looks given.looks)

pub returns-in-Steps : goal.returns-in-Steps
returns-in-Steps c settings given = rw (c.is_some-in-Steps.ensures, c.in-Steps.is) (given-Any steps_of (codes "steps") steps-named settings c.args.self.steps given.steps)

pub returns-in-Trace : goal.returns-in-Trace
returns-in-Trace c settings given = rw (c.is_some-in-Trace.ensures, c.in-Trace.is) (given-Any trace_of (codes "trace") trace-named settings c.args.self.trace given.trace)

pub returns-in-Threads : goal.returns-in-Threads
returns-in-Threads c settings given = rw (c.is_some-in-Threads.ensures, c.in-Threads.is) (given-Any threads_of (codes "threads") threads-named settings c.args.self.threads given.threads)
