use Rattle.std.proofs.Common.{ℕ, ◌==◌, ◌||◌, sym, ap, ◌∙◌}
use Rattle.dsm_protocol.specs.Own.{node_of}
use Rattle.dsm_protocol.specs.Jobs.{Told}
use Rattle.dsm_protocol.specs.Steps.{lower_job, drop_job}
use Rattle.dsm_protocol.specs.Processors.{settled}
use Rattle.dsm_machine.specs.declared.outcome.Outcome.TheVariants.{Node}
use Rattle.dsm_machine.specs.declared.release.ReleaseAt.TheVariants.{Home}
use Rattle.dsm_machine.specs.Machines.{who, own_of}
use Rattle.dsm_machine.specs.Releases.{release_next, page_over}
use Rattle.dsm_machine.proofs.Releasing.{settled_moment}
use Rattle.dsm_machine.proofs.machine.Machine.release_on.Goals as goal

pub returns-in-Home-clause-seen : goal.returns-in-Home-clause-seen
returns-in-Home-clause-seen c =
    let u = who c.args.self.now in
    let o = own_of c.args.self.now in
    let r = c.args.r in
    c.tell.ensures.seen ∙ (ap (λ (h : ℕ). settled o (release_next u r Home (Node h))) c.node.ensures ∙ ap (λ at. settled o (release_next u r at c.args.out)) (sym c.in-Home.is))

pub returns-in-Posted-clause-seen : goal.returns-in-Posted-clause-seen
returns-in-Posted-clause-seen c =
    let u = who c.args.self.now in
    let o = own_of c.args.self.now in
    let r = c.args.r in
    let flushed = c.in-Posted.flushed in
    c.lower.ensures.seen
    ∙ (sym (settled_moment (flushed || node_of u == c.in-Posted.h) o (Told (node_of u) r.g) (lower_job u r.g (drop_job u r.g flushed (page_over u r))))
    ∙ ap (λ at. settled o (release_next u r at c.args.out)) (sym c.in-Posted.is))
