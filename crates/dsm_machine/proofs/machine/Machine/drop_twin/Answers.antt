use Rattle.std.proofs.Common.{◌≡◌, ℕ, sym, ap, ◌∙◌}
use Rattle.dsm_twin.specs.Twins.{drop_twin_script}
use Rattle.dsm_twin.specs.Rests.{drop_rest}
use Rattle.dsm_protocol.specs.Own.{node_of}
use Rattle.dsm_protocol.specs.Jobs.{call}
use Rattle.dsm_protocol.specs.Steps.{drop_job}
use Rattle.dsm_protocol.specs.Processors.{settled}
use Rattle.dsm_machine.specs.Machines.{who, own_of}
use Rattle.dsm_machine.specs.Releases.{page_over}
use Rattle.dsm_machine.proofs.machine.Machine.drop_twin.Goals as goal

pub returns-then-flushed-clause-seen : goal.returns-then-flushed-clause-seen
returns-then-flushed-clause-seen c =
    let u = who c.args.self.now in
    let o = own_of c.args.self.now in
    let r = c.args.r in
    let script : drop_rest c.new-drop.result ≡ drop_twin_script u.lay (node_of u) r.g = c.new-drop.ensures.rest ∙ ap (λ (n : ℕ). drop_twin_script u.lay n r.g) c.node.ensures.value in
    c.start.ensures.seen ∙ (ap (λ s. settled o (call s (λ _. page_over u r))) script ∙ ap (λ b. settled o (drop_job u r.g b (page_over u r))) (sym c.if-flushed.true))
