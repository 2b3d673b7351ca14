use Rattle.std.proofs.Common.{ap, subst, ◌∙◌}
use Rattle.dsm_local.specs.Readers.{next_action, IsInside}
use Rattle.dsm_machine.specs.Machines.{who}
use Rattle.dsm_machine.proofs.Within.{IsWithinLay-next_action}
use Rattle.dsm_machine.proofs.machine.Machine.action.Goals as goal

pub returns-clause-within : goal.returns-clause-within
returns-clause-within c =
    let m = c.args.self.now in
    IsWithinLay-next_action (who m) c.args.code.now m.reader c.next.result c.requires
    (c.next.ensures.value ∙ ap (λ s. next_action c.args.code.now s m.reader) c.setting.ensures)
    (subst (λ s. IsInside s.size c.next.result) c.setting.ensures c.next.ensures.inside)
