use Rattle.std.proofs.Common.{ℕ, sym, ap, ◌∙◌}
use Rattle.dsm_machine.specs.declared.outcome.Outcome.TheVariants.{Number}
use Rattle.dsm_machine.specs.declared.write.WriteAt.TheVariants.{EnterDrawn}
use Rattle.dsm_machine.specs.Writes.{write_next}
use Rattle.dsm_machine.specs.Machines.{who, own_of}
use Rattle.dsm_protocol.specs.Processors.{settled}
use Rattle.dsm_machine.proofs.machine.Machine.write_on.Goals as goal

pub returns-in-EnterDrawn-clause-seen : goal.returns-in-EnterDrawn-clause-seen
returns-in-EnterDrawn-clause-seen c =
    let m = c.args.self.now in
    let u = who m in
    let w = c.args.w in
    let v = c.args.v in
    c.enter_copy.ensures.seen
    ∙ (ap (λ (t : ℕ). settled (own_of m) (write_next u w v (EnterDrawn c.in-EnterDrawn.h) (Number t))) c.number.ensures
    ∙ ap (λ at. settled (own_of m) (write_next u w v at c.args.out)) (sym c.in-EnterDrawn.is))
