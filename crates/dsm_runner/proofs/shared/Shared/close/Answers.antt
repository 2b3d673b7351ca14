use Rattle.std.proofs.Common.{◌≡◌, List, map, sym, ap, subst, ◌∙◌}
use Rattle.std.proofs.lemmas.List.{length-map}
use Rattle.std.proofs.lemmas.Result.{IfOk-weaker}
use Rattle.dsm_isa.specs.ProgramText.{ProgramText}
use Rattle.dsm_machine.specs.declared.machine.Machine.{Machine}
use Rattle.dsm_protocol.specs.Processors.{Given}
use Rattle.dsm_core.specs.declared.state.State.{State}
use Rattle.dsm_core.specs.States.{setup_in, cluster_in, IsFor}
use Rattle.dsm_runs.specs.Setups.{Setup, lay_in}
use Rattle.dsm_runs.specs.Clusters.{Cluster, reached}
use Rattle.dsm_runs.specs.Outcomes.{Ran, ran_of}
use Rattle.dsm_runner.specs.Sights.{procs_of}
use Rattle.dsm_runner.specs.Helds.{Board}
use Rattle.dsm_runner.specs.Machines.{processors_of}
use Rattle.dsm_runner.specs.Outcomes.{IsOutcome, IsOf}
use Rattle.dsm_runner.specs.Workers.{given_to, processors_by}
use Rattle.dsm_runner.specs.declared.worker.Worker.{Worker}
use Rattle.dsm_runner.proofs.Ends.{machines_are, workers_are, ended, left_by}
use Rattle.dsm_runner.proofs.shared.Shared.close.Goals as goal

pub returns : goal.returns
returns c =
    let b : Board = c.args.self in
    let ws : List Worker = c.args.workers.items in
    let all : List (List Given) = map given_to ws in
    let board = c.self.invariant in
    let s : Setup = c.self.inside.table.shared.key in
    let key : s ≡ b.setup = ap (λ (x : Board). x.setup) c.self.view_is in
    let seat = c.in_ok-seat.field-0.seat in
    let ms : List Machine = c.in_ok-seat.field-0.machines.items in
    let got = c.in_ok-seat.ensures in
    let last = c.close_with-closed.ensures.values.2 in
    let end = ended s last.0.words last.0.views seat.id seat.me.0 all board.some last.1.0 last.1.1 got.view (length-map ws given_to ∙ c.requires.count ∙ ap procs_of (sym key)) in
    let to : Cluster = reached s end.0 in
    let st : State = c.of_parts-state.result in
    let setup : setup_in st s.program ≡ s = c.of_parts-state.ensures.setup s.program ∙ sym board.setup in
    let for : IsFor st s.program = c.of_parts-state.ensures.is_for s.program (board.lay_is ∙ ap lay_in board.setup) in
    let words : c.in_ok-words.words.items ≡ last.0.words = c.in_ok-words.ensures ∙ sym last.2 in
    let machines = machines_are s all ms (got.count ∙ sym (length-map ws given_to)) got.machines in
    let state : cluster_in st s.program.code ≡ to = c.of_parts-state.ensures.cluster s.program.code ∙ (λ i. record { words = words i; processors = machines i }) ∙ sym end.2 in
    let left : (ran : Ran) → ((program : ProgramText) → IsFor st program → ran ≡ ran_of (setup_in st program) (cluster_in st program.code)) → ran ≡ ran_of s to =
    λ ran shows. shows s.program for ∙ (λ i. ran_of (setup i) (state i)) in
    let processors : to.processors ≡ processors_by ws = ap (λ (x : Cluster). x.processors) end.2 ∙ ap (λ z. processors_of z 0 all) key ∙ sym (workers_are b ws c.requires) in
    record {
      outcome = IfOk-weaker c.into_ran.result _ (IsOutcome b.setup) (λ ran shows. subst (λ z. IsOutcome z ran) key (end.0, record { defined = end.1; leaves = sym (left ran shows) })) c.into_ran.ensures.shows;
      workers = IfOk-weaker c.into_ran.result _ (IsOf ws) (λ ran shows. left_by s to ws ran (left ran shows) processors) c.into_ran.ensures.shows;
    }
