use Rattle.std.proofs.Common.{◌≡◌, ap, ◌∙◌, subst}
use Rattle.dsm_runs.specs.Setups.{Setup}
use Rattle.dsm_runs.specs.Outcomes.{ran_of}
use Rattle.dsm_core.specs.States.{setup_of, setup_in, cluster_in}
use Rattle.dsm_sched.specs.Schedules.{Leads}
use Rattle.dsm_sched.proofs.Simulating.{leads_simulated}
use Rattle.dsm_sched.proofs.simulation.sim.Goals as goal

pub returns : goal.returns
returns c =
    let program = c.args.program.now in
    let s : Setup = setup_of program c.args.t c.args.limits in
    let st = c.go.new.state in
    let here : setup_in st program ≡ s = c.go.ensures.setup ∙ c.in_ok-state.ensures.setup in
    let leads = subst (λ (x : Setup). Leads c.args.kind x c.args.steps (cluster_in st program.code)) c.in_ok-state.ensures.setup c.go.ensures.leads in
    let left = c.in_ok-into_ran.ensures.shows program c.go.ensures.is_for ∙ ap (λ (x : Setup). ran_of x (cluster_in st program.code)) here in
    leads_simulated c.args.kind s c.args.steps (cluster_in st program.code) leads c.ended-cut.result (c.ended-cut.ensures program.code) _ left
