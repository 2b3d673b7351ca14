use Rattle.std.proofs.Common.{◌+◌, sym, ap, ◌∙◌}
use Rattle.dsm_protocol.specs.Jobs.{call}
use Rattle.dsm_protocol.specs.Steps.{closing_page}
use Rattle.dsm_protocol.specs.Processors.{settled}
use Rattle.dsm_machine.specs.Closings.{closing_left}
use Rattle.dsm_machine.specs.Machines.{who, own_of}
use Rattle.dsm_machine.proofs.Closings.{closing_one}
use Rattle.dsm_machine.proofs.Holding.{held_holder}
use Rattle.dsm_machine.proofs.machine.Machine.hold.Goals as goal

pub returns-then-g-self-clause-seen : goal.returns-then-g-self-clause-seen
returns-then-g-self-clause-seen c =
    let u = who c.args.self.now in
    let o = own_of c.args.self.now in
    let g = c.args.g in
    c.start_free.ensures.seen
    ∙ (ap (λ s. settled o (call s (λ m. closing_page u g m (closing_left u (g + 1))))) c.new-holder.ensures.rest ∙ ap (settled o) (sym (closing_one u g c.if-g-self.true)))

pub start_free-requires-clause-free : goal.start_free-requires-clause-free
start_free-requires-clause-free c = held_holder (who c.args.self.now) c.new-holder.result c.args.g 0 c.new-holder.ensures.rest
