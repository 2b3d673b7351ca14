use Rattle.std.proofs.Common.{false, sym, ap, ◌∙◌}
use Rattle.dsm_protocol.specs.Processors.{settled}
use Rattle.dsm_protocol.specs.Steps.{access_job, action_job, load_job}
use Rattle.dsm_machine.specs.Machines.{who, own_of}
use Rattle.dsm_machine.proofs.machine.Machine.act.Goals as goal

pub returns-in-LoadWord-clause-seen : goal.returns-in-LoadWord-clause-seen
returns-in-LoadWord-clause-seen c =
    let u = who c.args.self.now in
    let o = own_of c.args.self.now in
    c.load.ensures.seen
    ∙ (ap (λ d. settled o (access_job u o false c.in-LoadWord.w (load_job u d c.in-LoadWord.w))) c.index-d-in-LoadWord.ensures.value
    ∙ ap (λ a. settled o (action_job u o a)) (sym c.in-LoadWord.is))
