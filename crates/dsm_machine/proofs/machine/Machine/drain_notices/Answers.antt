use Rattle.std.proofs.Common.{ℕ, ap, ◌∙◌}
use Rattle.dsm_words.specs.Place.{lay_of}
use Rattle.dsm_notice.specs.Notices.{drain_script}
use Rattle.dsm_machine.specs.Acquires.{notices_left}
use Rattle.dsm_machine.specs.Machines.{who, own_of}
use Rattle.dsm_protocol.specs.Jobs.{call}
use Rattle.dsm_protocol.specs.Processors.{settled}
use Rattle.dsm_machine.proofs.machine.Machine.drain_notices.Goals as goal

pub returns-clause-seen : goal.returns-clause-seen
returns-clause-seen c =
    let m = c.args.self.now in
    c.start.ensures.seen
    ∙ ap (λ s. settled (own_of m) (call s (λ _. notices_left (who m)))) (c.new-drain.ensures.rest ∙ ap (λ (n : ℕ). drain_script (lay_of m.lay) n) c.node.ensures.value)
