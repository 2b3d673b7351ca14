use Rattle.std.proofs.Common.{sym, ap, ◌∙◌, if◌then◌else◌}
use Rattle.dsm_protocol.specs.Steps.{sole_job, share_job}
use Rattle.dsm_protocol.specs.Processors.{settled}
use Rattle.dsm_machine.specs.Faults.{is_store, page_at, made_job}
use Rattle.dsm_machine.specs.Machines.{who, own_of}
use Rattle.dsm_machine.proofs.machine.Machine.unshared.Goals as goal

pub returns-in-Store-clause-seen : goal.returns-in-Store-clause-seen
returns-in-Store-clause-seen c =
    let m = c.args.self.now in
    let u = who m in
    let h = c.args.h in
    c.look_sole.ensures.seen
    ∙ ap (λ a. settled (own_of m) (if is_store a then sole_job u (page_at u a) h (made_job u a) else share_job u (is_store a) (page_at u a) h (made_job u a))) (sym c.in-Store.is)
