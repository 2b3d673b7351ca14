use Rattle.std.proofs.Common.{ap, ◌∙◌}
use Rattle.dsm_protocol.specs.Steps.{page_of}
use Rattle.dsm_protocol.specs.Processors.{settled}
use Rattle.dsm_machine.specs.declared.fault.FaultAt.TheVariants.{VisitBroken}
use Rattle.dsm_machine.specs.declared.point.Next.TheVariants.{Fault}
use Rattle.dsm_machine.specs.Faults.{page_at}
use Rattle.dsm_machine.specs.Machines.{who, own_of}
use Rattle.dsm_machine.specs.Points.{next_job}
use Rattle.dsm_machine.proofs.Fetching.{break_begun}
use Rattle.dsm_machine.proofs.machine.Machine.break_page.Goals as goal

pub returns-clause-seen : goal.returns-clause-seen
returns-clause-seen c =
    let o = own_of c.args.self.now in
    let u = who c.args.self.now in
    let a = c.args.access in
    let m = c.args.m in
    let h = c.args.h in
    c.start.ensures.seen
    ∙ ap (settled o) (break_begun u (next_job u (Fault a (VisitBroken h c.args.busy m))) m c.page-g.result (page_at u a) h c.breaking-breaking.result (c.page-g.ensures.value ∙ ap (page_of u) c.address.ensures) c.breaking-breaking.ensures.rest)
