use Rattle.std.proofs.Common.{◌≡◌, ℕ, ◌-◌, refl, sym, ap, ◌∙◌, arith}
use Rattle.dsm_clock.specs.declared.turns.TurnId.TheVariants.{Page}
use Rattle.dsm_clock.specs.Taking.{take_script, take_rest}
use Rattle.dsm_machine.specs.declared.acquire.AcquireAt.TheVariants.{Taken}
use Rattle.dsm_machine.specs.declared.outcome.Outcome.TheVariants.{Nothing}
use Rattle.dsm_machine.specs.Acquires.{acquire_next}
use Rattle.dsm_machine.specs.Machines.{who, own_of}
use Rattle.dsm_machine.proofs.Acquiring.{next_mapped, none_mapped}
use Rattle.dsm_protocol.specs.Own.{node_of}
use Rattle.dsm_protocol.specs.Jobs.{call}
use Rattle.dsm_protocol.specs.Processors.{settled}
use Rattle.dsm_machine.proofs.machine.Machine.acquire_from.Goals as goal

pub returns-in-Some-clause-seen : goal.returns-in-Some-clause-seen
returns-in-Some-clause-seen c =
    let m = c.args.self.now in
    let u = who m in
    let o = own_of m in
    let g = c.in-Some.g in
    let found = c.in-Some.ensures.some in
    let script : take_rest c.page-take.result ≡ take_script (Page (node_of u) g) u.p = c.page-take.ensures.rest ∙ ap (λ (n : ℕ). take_script (Page n g) u.p) c.node.ensures.value in
    c.start.ensures.seen
    ∙ (ap (λ s. settled o (call s (λ _. acquire_next u c.args.set g Taken Nothing))) script
    ∙ sym (next_mapped u o c.args.set m.lay.pages (m.lay.pages - c.args.from) c.args.from g (omega (arith, c.requires.from)) found.0 found.1 found.2 found.3))

pub returns-in-None-clause-seen : goal.returns-in-None-clause-seen
returns-in-None-clause-seen c =
    let m = c.args.self.now in
    c.moved.ensures.seen ∙ sym (none_mapped (who m) (own_of m) c.args.set m.lay.pages (m.lay.pages - c.args.from) c.args.from (omega (arith, c.requires.from)) (c.in-None.ensures.none refl))
