use Rattle.std.proofs.Common.{◌≡◌, ℕ, List, [], ◌∷◌, length, refl, sym, ap, ◌∙◌, subst, arith}
use Rattle.dsm_machine.specs.declared.machine.Machine.{Machine}
use Rattle.dsm_runs.specs.Setups.{Setup}
use Rattle.dsm_runs.specs.Clusters.{start}
use Rattle.dsm_runs.proofs.Starting.{length-words}
use Rattle.dsm_core.specs.States.{setup_of}
use Rattle.dsm_runner.specs.Sights.{Kept, procs_of, first_sight, first_with}
use Rattle.dsm_runner.specs.Machines.{AreFresh}
use Rattle.dsm_runner.proofs.Seats.{begins}
use Rattle.dsm_runner.proofs.Fresh.{some_processors, board_new, fresh_first, removed_first, fresh_rest, held_new}
use Rattle.dsm_runner.proofs.shared.Shared.open.Goals as goal

pub of_words-requires : goal.of_words-requires
of_words-requires c =
    let s : Setup = setup_of c.args.program.now c.args.t c.args.limits in
    let key : setup_of c.of.result.value c.args.t c.args.limits ≡ s = ap (λ p. setup_of p c.args.t c.args.limits) c.of.ensures in
    let words : c.as_slice.result.now ≡ (start s).words = c.as_slice.ensures.value ∙ c.in_ok-lay.ensures.words in
    subst (λ (x : Setup × List ℕ). Kept x.0 x.1 (first_sight x.0 ∷ [])) (λ i. (sym key i, sym words i)) (begins s (some_processors c.args.t))

pub remove-machine-requires : goal.remove-machine-requires
remove-machine-requires c = let some = some_processors c.args.t in let count = c.in_ok-lay.ensures.count in let len = c.in_ok-lay.field-0.machines.ok.0 in omega (arith, some, count, len)

pub invariant_of-shared : goal.invariant_of-shared
invariant_of-shared c =
    let o = c.in_ok-table.ensures in
    board_new _ c.of.result.value c.args.program.now c.args.t c.as_slice.result.now c.of.ensures (c.as_slice.ensures.value ∙ c.in_ok-lay.ensures.words) o.5 c.in_ok-lay.ensures.lay o.1 o.0

pub invariant_of-shared-2 : goal.invariant_of-shared-2
invariant_of-shared-2 c =
    let o = c.in_ok-table.ensures in
    board_new _ c.of.result.value c.args.program.now c.args.t c.as_slice.result.now c.of.ensures (c.as_slice.ensures.value ∙ c.in_ok-lay.ensures.words) o.5 c.in_ok-lay.ensures.lay o.1 o.0

pub later_workers-requires : goal.later_workers-requires
later_workers-requires c =
    let s : Setup = setup_of c.args.program.now c.args.t c.args.limits in
    let all : List Machine = c.in_ok-lay.field-0.machines.items in
    let rest : List Machine = c.remove-machine.new.self.items in
    let o = c.in_ok-table.ensures in
    let key : c.in_ok-table.table.shared.key ≡ s = o.5 ∙ ap (λ p. setup_of p c.args.t c.args.limits) c.of.ensures in
    let is : all ≡ c.remove-machine.result ∷ rest = removed_first c.in_ok-lay.ensures.count (some_processors c.args.t) c.remove-machine.ensures.value c.remove-machine.ensures.items in
    record {
      table = o.2;
      view = o.4 ∙ ap (λ x. (first_sight x, [])) (sym o.5);
      fresh = subst (λ x. AreFresh x 1 rest) (sym key) (fresh_rest s 0 is c.in_ok-lay.ensures.fresh 1 refl);
      all = ap length (sym is) ∙ c.in_ok-lay.ensures.count ∙ ap procs_of (sym key);
    }

pub invariant_of-insert : goal.invariant_of-insert
invariant_of-insert c =
    let s : Setup = setup_of c.args.program.now c.args.t c.args.limits in
    let all : List Machine = c.in_ok-lay.field-0.machines.items in
    let rest : List Machine = c.remove-machine.new.self.items in
    let o = c.in_ok-table.ensures in
    let key : c.in_ok-table.table.shared.key ≡ s = o.5 ∙ ap (λ p. setup_of p c.args.t c.args.limits) c.of.ensures in
    let is : all ≡ c.remove-machine.result ∷ rest = removed_first c.in_ok-lay.ensures.count (some_processors c.args.t) c.remove-machine.ensures.value c.remove-machine.ensures.items in
    let words = ap length (c.as_slice.ensures.value ∙ c.in_ok-lay.ensures.words) ∙ length-words s in
    held_new (record { number = 0; machine = c.remove-machine.result; seat = c.later_workers.new.first }) s 0
    (c.in_ok-workers.ensures.view ∙ ap (λ x. (first_with x (procs_of x), [])) key)
    (fresh_first s 0 is c.in_ok-lay.ensures.fresh)
    refl
    (some_processors c.args.t)
    (ap (λ t. t.words) (c.in_ok-workers.ensures.first.0 ∙ o.2) ∙ o.0 ∙ words)
