use Rattle.std.proofs.Common.{◌≡◌, ◌∷◌, true, false, refl, sym, ap, ◌∙◌, subst}
use Rattle.dsm_protocol.specs.Processors.{wanting}
use Rattle.dsm_runs.specs.Clusters.{stays}
use Rattle.dsm_machine.specs.Machines.{who, processor_in}
use Rattle.dsm_core.proofs.Stepping.{none_is}
use Rattle.dsm_runner.specs.Sights.{gift}
use Rattle.dsm_runner.specs.Helds.{Held, processor_by}
use Rattle.dsm_runner.proofs.Afters.{code_is, goes_on, held_after}
use Rattle.dsm_runner.proofs.worker.Worker.step.Goals as goal

pub starve-got-requires-clause-goes : goal.starve-got-requires-clause-goes
starve-got-requires-clause-goes c =
    let w = c.self.inside in
    let code = c.code-code.result.now in
    let coded = code_is w.seat.me.0.setup c.args.self.now c.args.program.now code (ap (λ (h : Held). h.setup) c.self.view_is) c.requires.program c.code-code.ensures.value in
    let runs = sym (c.end.ensures.begun code) ∙ none_is c.end.result (sym c.is_some.ensures ∙ c.if-is_some.false) in
    goes_on w code true c.self.invariant coded runs (λ _. c.starves-starved.ensures.turn c.if-starved.true)

pub invariant_of-self : goal.invariant_of-self
invariant_of-self c =
    let w = c.self.inside in
    let mid = c.starves-starved.new.machine in
    let code = c.code-code.result.now in
    let coded = code_is w.seat.me.0.setup c.args.self.now c.args.program.now code (ap (λ (h : Held). h.setup) c.self.view_is) c.requires.program c.code-code.ensures.value in
    let wants = c.starves-starved.ensures.wanting ∙ ap (λ b. wanting (who w.machine) b (processor_in w.machine code)) c.if-starved.true in
    held_after w (record { number = w.number; machine = c.after.new.self; seat = c.starve-got.new.seat }) mid code true c.starve-got.result c.self.invariant coded refl c.starve-got.ensures.table.0 c.starve-got.ensures.view c.starves-starved.ensures.who wants c.after.ensures.who c.after.ensures.event

pub invariant_of-self-2 : goal.invariant_of-self-2
invariant_of-self-2 c =
    let w = c.self.inside in
    let mid = c.starves-starved.new.machine in
    let code = c.code-code.result.now in
    let coded = code_is w.seat.me.0.setup c.args.self.now c.args.program.now code (ap (λ (h : Held). h.setup) c.self.view_is) c.requires.program c.code-code.ensures.value in
    let wants = c.starves-starved.ensures.wanting ∙ ap (λ b. wanting (who w.machine) b (processor_in w.machine code)) c.if-starved.false in
    held_after w (record { number = w.number; machine = c.after-2.new.self; seat = c.perform-got.new.seat }) mid code false c.perform-got.result c.self.invariant coded refl c.perform-got.ensures.table.0 c.perform-got.ensures.view c.starves-starved.ensures.who wants c.after-2.ensures.who c.after-2.ensures.event

pub returns-then-starved-clause-step : goal.returns-then-starved-clause-step
returns-then-starved-clause-step c =
    let w = c.self.inside in
    let code = c.code-code.result.now in
    let coded = code_is w.seat.me.0.setup c.args.self.now c.args.program.now code (ap (λ (h : Held). h.setup) c.self.view_is) c.requires.program c.code-code.ensures.value in
    let runs = sym (c.end.ensures.begun code) ∙ none_is c.end.result (sym c.is_some.ensures ∙ c.if-is_some.false) in
    let goes = goes_on w code true c.self.invariant coded runs (λ _. c.starves-starved.ensures.turn c.if-starved.true) in (
      subst (λ (h : Held). stays true (processor_by h).todo ≡ false) c.self.view_is goes,
      (c.starve-got.result, ap (λ m. m.0.given) c.starve-got.ensures.view ∙ ap (λ (h : Held). gift true c.starve-got.result ∷ h.given) c.self.view_is),
    )

pub returns-clause-step : goal.returns-clause-step
returns-clause-step c =
    let w = c.self.inside in
    let code = c.code-code.result.now in
    let coded = code_is w.seat.me.0.setup c.args.self.now c.args.program.now code (ap (λ (h : Held). h.setup) c.self.view_is) c.requires.program c.code-code.ensures.value in
    let runs = sym (c.end.ensures.begun code) ∙ none_is c.end.result (sym c.is_some.ensures ∙ c.if-is_some.false) in
    let goes = goes_on w code false c.self.invariant coded runs (λ t. absurd (cc t)) in (
      subst (λ (h : Held). stays false (processor_by h).todo ≡ false) c.self.view_is goes,
      (c.perform-got.result, ap (λ m. m.0.given) c.perform-got.ensures.view ∙ ap (λ (h : Held). gift false c.perform-got.result ∷ h.given) c.self.view_is),
    )
