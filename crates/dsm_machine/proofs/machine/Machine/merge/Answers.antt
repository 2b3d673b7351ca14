use Rattle.std.proofs.Common.{true, ap, ◌∙◌}
use Rattle.dsm_protocol.specs.Steps.{page_of}
use Rattle.dsm_protocol.specs.Processors.{settled}
use Rattle.dsm_machine.specs.declared.fault.FaultAt.TheVariants.{FetchCopied}
use Rattle.dsm_machine.specs.declared.point.Next.TheVariants.{Fault}
use Rattle.dsm_machine.specs.Faults.{page_at}
use Rattle.dsm_machine.specs.Machines.{who, own_of}
use Rattle.dsm_machine.specs.Points.{next_job}
use Rattle.dsm_machine.proofs.Fetching.{merge_begun}
use Rattle.dsm_machine.proofs.machine.Machine.merge.Goals as goal

pub returns-clause-seen : goal.returns-clause-seen
returns-clause-seen c =
    let o = own_of c.args.self.now in
    let u = who c.args.self.now in
    let a = c.args.access in
    c.start.ensures.seen
    ∙ ap (settled o) (merge_begun u (next_job u (Fault a (FetchCopied c.args.t true))) c.node.result c.page-g.result (page_at u a) c.args.h c.merge_from-merge.result c.node.ensures.value (c.page-g.ensures.value ∙ ap (page_of u) c.address.ensures) c.merge_from-merge.ensures.rest)
