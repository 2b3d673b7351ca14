use Rattle.std.proofs.Common.{◌≡◌, ℕ, true, ap, ◌∙◌}
use Rattle.dsm_words.specs.Place.{Lay, home}
use Rattle.dsm_outgoing.specs.Sending.{flush_script, flush_rest}
use Rattle.dsm_protocol.specs.Own.{Flushes, node_of}
use Rattle.dsm_protocol.specs.Jobs.{Mark, Count, call}
use Rattle.dsm_protocol.specs.Steps.{sent_job}
use Rattle.dsm_protocol.specs.Processors.{settled}
use Rattle.dsm_machine.specs.Machines.{who, own_of}
use Rattle.dsm_machine.specs.Releases.{page_over}
use Rattle.dsm_machine.proofs.machine.Machine.flush.Goals as goal

pub returns-clause-seen : goal.returns-clause-seen
returns-clause-seen c =
    let u = who c.args.self.now in
    let o = own_of c.args.self.now in
    let r = c.args.r in
    let told = c.with_home.result in
    let script : flush_rest c.new-flush.result ≡ flush_script u.lay (node_of u) r.g c.args.h =
    c.new-flush.ensures.rest
    ∙ (ap (λ (l : Lay). flush_script l c.node.result r.g (home told r.g)) c.with_home.ensures.lay
    ∙ (ap (λ (h : ℕ). flush_script u.lay c.node.result r.g h) c.with_home.ensures.home ∙ ap (λ (n : ℕ). flush_script u.lay n r.g c.args.h) c.node.ensures.value)) in
    c.start.ensures.seen ∙ ap (λ s. settled o (call s (λ _. Mark (Count Flushes) (sent_job u r.g c.args.h c.args.t true (page_over u r))))) script
