use Rattle.std.proofs.Common.{◌≡◌, [], ◌∷◌, ◌++◌, map, take, get_or, ap, sym, ◌∙◌, arith}
use Rattle.std.proofs.lemmas.List.{take_all, take_more, map_push}
use Rattle.dsm_machine.specs.declared.machine.Machine.{Machine}
use Rattle.dsm_protocol.specs.Own.{added}
use Rattle.dsm_machine.specs.Machines.{processor_in}
use Rattle.dsm_protocol.specs.Processors.{Processor}
use Rattle.dsm_runs.specs.Outcomes.{total_counts}
use Rattle.dsm_core.proofs.Leaving.{counts_more}
use Rattle.dsm_core.proofs.state.State.counts.Goals as goal

pub loop-machine-preserved : goal.loop-machine-preserved
loop-machine-preserved c = λ code.
    let ms = c.args.self.now.machines.items in
    let m = c.machine-item.result in
    let i = c.loop-machine.machine-index in
    let f : Machine → Processor = λ k. processor_in k code in
    let is : m ≡ get_or ms i m = c.machine-item.is ∙ ap (λ l. get_or l i m) c.deref-machine-items.ensures.value in
    c.add-counts.ensures
    ∙ ap (added c.loop-machine.counts) (c.counts.ensures.begun code)
    ∙ ap (λ k. added k (f m).own.counts) (c.loop-machine.invariant code)
    ∙ counts_more (map f (take i ms)) (f m)
    ∙ ap total_counts (sym (map_push f (take i ms) m))
    ∙ ap (λ k. total_counts (map f (take i ms ++ k ∷ []))) is
    ∙ ap (λ l. total_counts (map f l)) (sym (take_more ms i m (omega arith)))

pub returns : goal.returns
returns c = λ code. c.loop-machine.invariant code ∙ ap (λ l. total_counts (map (λ m. processor_in m code) l)) (take_all c.loop-machine.machine-index c.args.self.now.machines.items (omega arith))
