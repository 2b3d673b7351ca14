use Rattle.std.proofs.Common.{◌≡◌, length, map, ap, ◌∙◌, arith}
use Rattle.std.proofs.lemmas.List.{with_items_is}
use Rattle.dsm_machine.specs.Machines.{who}
use Rattle.dsm_core.proofs.Rooms.{numbered_alike}
use Rattle.dsm_core.proofs.state.State.ready.Goals as goal

pub invariant_of-self-clause-all_machines : goal.invariant_of-self-clause-all_machines
invariant_of-self-clause-all_machines c =
    let s = c.args.self.now in
    let long : length c.ready_all.new.machines ≡ s.machines.len = omega (arith, c.ready_all.auto.machines, c.deref_mut.ensures.len, s.machines.ok) in
    ap length (with_items_is s.machines c.ready_all.new.machines long) ∙ c.ready_all.auto.machines ∙ ap length c.deref_mut.ensures.value ∙ s.all_machines

pub invariant_of-self-clause-numbered : goal.invariant_of-self-clause-numbered
invariant_of-self-clause-numbered c =
    let s = c.args.self.now in
    let long : length c.ready_all.new.machines ≡ s.machines.len = omega (arith, c.ready_all.auto.machines, c.deref_mut.ensures.len, s.machines.ok) in
    numbered_alike s _ (ap (map who) (with_items_is s.machines c.ready_all.new.machines long) ∙ c.ready_all.ensures.who ∙ ap (map who) c.deref_mut.ensures.value)
