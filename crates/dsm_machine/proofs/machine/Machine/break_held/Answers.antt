use Rattle.std.proofs.Common.{refl, ap, ◌∙◌}
use Rattle.dsm_protocol.specs.Processors.{settled}
use Rattle.dsm_machine.specs.declared.closing.ClosingAt.TheVariants.{Broken}
use Rattle.dsm_machine.specs.declared.point.Next.TheVariants.{Closing}
use Rattle.dsm_machine.specs.Machines.{who, own_of}
use Rattle.dsm_machine.specs.Points.{next_job}
use Rattle.dsm_machine.proofs.Fetching.{break_begun}
use Rattle.dsm_machine.proofs.machine.Machine.break_held.Goals as goal

pub returns-clause-seen : goal.returns-clause-seen
returns-clause-seen c =
    let u = who c.args.self.now in
    let g = c.args.g in
    c.start.ensures.seen ∙ ap (settled (own_of c.args.self.now)) (break_begun u (next_job u (Closing g c.args.m Broken)) c.args.m g g c.args.h c.breaking-breaking.result refl c.breaking-breaking.ensures.rest)
