use Rattle.std.proofs.Common.{sym, ap, ◌∙◌}
use Rattle.dsm_protocol.specs.Steps.{ready_job}
use Rattle.dsm_protocol.specs.Processors.{settled}
use Rattle.dsm_machine.specs.Faults.{is_store, page_at, made_job}
use Rattle.dsm_machine.specs.Machines.{who, own_of}
use Rattle.dsm_machine.proofs.machine.Machine.ready_to_share.Goals as goal

pub returns-in-Store-clause-seen : goal.returns-in-Store-clause-seen
returns-in-Store-clause-seen c =
    let m = c.args.self.now in
    let u = who m in
    c.look_twin.ensures.seen ∙ ap (λ a. settled (own_of m) (ready_job u (is_store a) (page_at u a) (made_job u a))) (sym c.in-Store.is)
