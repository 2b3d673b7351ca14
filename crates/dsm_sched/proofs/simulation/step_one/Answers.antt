use Rattle.std.proofs.Common.{◌≡◌, ◌∙◌, sym, ap, arith, true, false, if◌then◌else◌, ◌*◌, ◌+◌}
use Rattle.std.specs.Prelude.{remove}
use Rattle.dsm_runs.specs.Setups.{Setup}
use Rattle.dsm_core.specs.States.{cluster_in}
use Rattle.dsm_sched.proofs.Choosing.{goes}
use Rattle.dsm_sched.proofs.Finding.{end_says}
use Rattle.dsm_sched.proofs.Going.{stepped_on, list_behind}
use Rattle.dsm_sched.proofs.Listing.{stands, stands_inside}
use Rattle.dsm_sched.proofs.simulation.step_one.Goals as goal

pub step-requires-clause-p : goal.step-requires-clause-p
step-requires-clause-p c =
    let code = c.args.program.now.code in
    stands_inside c.args.state.now code c.args.at c.index-p.result.now (stands (cluster_in c.args.state.now code) c.args.running.now.items c.args.at c.index-p.result.now c.requires.running c.requires.at c.index-p.ensures)

pub end-requires : goal.end-requires
end-requires c =
    let code = c.args.program.now.code in
    let inside = stands_inside c.args.state.now code c.args.at c.index-p.result.now (stands (cluster_in c.args.state.now code) c.args.running.now.items c.args.at c.index-p.result.now c.requires.running c.requires.at c.index-p.ensures) in
    omega (arith, inside, ap (λ (x : Setup). x.nodes * x.procs) c.step.ensures.setup)

pub returns-then-is_none-clause-running : goal.returns-then-is_none-clause-running
returns-then-is_none-clause-running c =
    let code = c.args.program.now.code in
    let old = cluster_in c.args.state.now code in
    let new = cluster_in c.step.new.self code in
    let there = stands old c.args.running.now.items c.args.at c.index-p.result.now c.requires.running c.requires.at c.index-p.ensures in
    let on : goes new c.index-p.result.now ≡ true = end_says new c.index-p.result.now c.end.result c.is_none.result (c.end.ensures code) c.is_none.ensures ∙ c.if-is_none.true in
    c.requires.running ∙ sym ((list_behind _ old new c.args.at c.index-p.result.now there c.step.result c.step.ensures.step).0 on)

pub returns-then-is_none-clause-moves : goal.returns-then-is_none-clause-moves
returns-then-is_none-clause-moves c =
    let code = c.args.program.now.code in
    let old = cluster_in c.args.state.now code in
    let new = cluster_in c.step.new.self code in
    let there = stands old c.args.running.now.items c.args.at c.index-p.result.now c.requires.running c.requires.at c.index-p.ensures in
    let on : goes new c.index-p.result.now ≡ true = end_says new c.index-p.result.now c.end.result c.is_none.result (c.end.ensures code) c.is_none.ensures ∙ c.if-is_none.true in
    stepped_on _ old new c.args.at c.index-p.result.now there c.step.result c.step.ensures.step (c.args.at + 1) (ap (λ b. if b then c.args.at + 1 else c.args.at) (sym on))

pub returns-else-is_none-clause-running : goal.returns-else-is_none-clause-running
returns-else-is_none-clause-running c =
    let code = c.args.program.now.code in
    let old = cluster_in c.args.state.now code in
    let new = cluster_in c.step.new.self code in
    let there = stands old c.args.running.now.items c.args.at c.index-p.result.now c.requires.running c.requires.at c.index-p.ensures in
    let over : goes new c.index-p.result.now ≡ false = end_says new c.index-p.result.now c.end.result c.is_none.result (c.end.ensures code) c.is_none.ensures ∙ c.if-is_none.false in
    c.remove.ensures.items ∙ ap (λ ps. remove ps c.args.at) c.requires.running ∙ sym ((list_behind _ old new c.args.at c.index-p.result.now there c.step.result c.step.ensures.step).1 over)

pub returns-else-is_none-clause-moves : goal.returns-else-is_none-clause-moves
returns-else-is_none-clause-moves c =
    let code = c.args.program.now.code in
    let old = cluster_in c.args.state.now code in
    let new = cluster_in c.step.new.self code in
    let there = stands old c.args.running.now.items c.args.at c.index-p.result.now c.requires.running c.requires.at c.index-p.ensures in
    let over : goes new c.index-p.result.now ≡ false = end_says new c.index-p.result.now c.end.result c.is_none.result (c.end.ensures code) c.is_none.ensures ∙ c.if-is_none.false in
    stepped_on _ old new c.args.at c.index-p.result.now there c.step.result c.step.ensures.step c.args.at (ap (λ b. if b then c.args.at + 1 else c.args.at) (sym over))
