use Rattle.std.proofs.Common.{ap, ◌∙◌}
use Rattle.dsm_words.specs.Place.{processors}
use Rattle.dsm_runs.specs.Setups.{lay_in}
use Rattle.dsm_core.specs.States.{setup_of}
use Rattle.dsm_runner.proofs.Fresh.{start_fresh}
use Rattle.dsm_runner.proofs.open.first_parts.Goals as goal

pub returns-clause-lay : goal.returns-clause-lay
returns-clause-lay c = c.into_parts.ensures.is_for c.args.program.now c.in_ok-state.ensures.is_for ∙ ap lay_in c.in_ok-state.ensures.setup

pub returns-clause-count : goal.returns-clause-count
returns-clause-count c = c.into_parts.ensures.whole.machines ∙ ap processors (returns-clause-lay c)

pub returns-clause-fresh : goal.returns-clause-fresh
returns-clause-fresh c =
    let program = c.args.program.now in
    let limits = ap (λ s. s.limits) (c.into_parts.ensures.setup program ∙ c.in_ok-state.ensures.setup) in
    let same = c.into_parts.ensures.cluster program.code ∙ c.in_ok-state.ensures.start in
    start_fresh (setup_of program c.args.t c.args.limits) c.into_parts.result.machines.items
    (λ j m at. c.into_parts.ensures.whole.numbered j m at ∙ (λ i. record { lay = returns-clause-lay c i; p = j; limits = limits i }))
    (ap (λ s. s.processors) same)
