use Rattle.std.proofs.Common.{◌≡◌, ℕ, ◌-◌, ◌<◌, ◌≤◌, refl, sym, ap, ◌∙◌, arith}
use Rattle.dsm_clock.specs.declared.turns.TurnId.TheVariants.{Page}
use Rattle.dsm_clock.specs.Taking.{take_script, take_rest}
use Rattle.dsm_protocol.specs.Own.{node_of}
use Rattle.dsm_protocol.specs.Jobs.{call}
use Rattle.dsm_protocol.specs.Processors.{settled}
use Rattle.dsm_machine.specs.declared.outcome.Outcome.TheVariants.{Nothing}
use Rattle.dsm_machine.specs.declared.release.ReleaseAt.TheVariants.{Taken}
use Rattle.dsm_machine.specs.Machines.{who, own_of}
use Rattle.dsm_machine.specs.Releases.{release_next, signal_job}
use Rattle.dsm_machine.proofs.Flags.{flag_at}
use Rattle.dsm_machine.proofs.Releasing.{next_dirty, none_dirty}
use Rattle.dsm_machine.proofs.machine.Machine.to_page.Goals as goal

pub returns-in-Some-clause-seen : goal.returns-in-Some-clause-seen
returns-in-Some-clause-seen c =
    let m = c.args.self.now in
    let u = who m in
    let o = own_of m in
    let g = c.in-Some.g in
    let found = c.in-Some.ensures.some in
    let more : c.args.from ≤ g = found.0 in
    let less : g < m.lay.pages = found.1 in
    let script : take_rest c.page-take.result ≡ take_script (Page (node_of u) g) u.p = c.page-take.ensures.rest ∙ ap (λ (n : ℕ). take_script (Page n g) u.p) c.node.ensures.value in
    c.start.ensures.seen
    ∙ (ap (λ s. settled o (call s (λ _. release_next u (record { signal = c.args.signal; t0 = c.args.t0; g = g }) Taken Nothing))) script
    ∙ sym (next_dirty u o c.args.t0 m.lay.pages (signal_job u c.args.signal) (m.lay.pages - c.args.from) c.args.from g (omega (arith, c.requires.from)) more less
    (flag_at m.dirty g (omega (arith, m.lay.most_pages)) ∙ found.2) (λ b p q. flag_at m.dirty b (omega (arith, m.lay.most_pages)) ∙ found.3 b p q)))

pub returns-in-None-clause-seen : goal.returns-in-None-clause-seen
returns-in-None-clause-seen c =
    let m = c.args.self.now in
    let u = who m in
    let none = c.in-None.ensures.none refl in
    c.signal.ensures.seen ∙ sym (none_dirty u (own_of m) c.args.t0 m.lay.pages (signal_job u c.args.signal) (m.lay.pages - c.args.from) c.args.from (omega (arith, c.requires.from))
    (λ b p q. flag_at m.dirty b (omega (arith, m.lay.most_pages)) ∙ none b p q))
