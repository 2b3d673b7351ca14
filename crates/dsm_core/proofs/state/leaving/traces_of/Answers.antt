use Rattle.std.proofs.Common.{map, ap, sym, ◌∙◌, rules}
use Rattle.std.proofs.lemmas.List.{map-id}
use Rattle.std.proofs.lemmas.Iterator.Adapters.{YieldsList-from_vec}
use Rattle.std.proofs.lemmas.Iterator.Consumers.{YieldsList-end}
use Rattle.dsm_machine.specs.Machines.{processor_in}
use Rattle.dsm_core.proofs.state.leaving.traces_of.Goals as goal

pub returns : goal.returns
returns c = λ code.
    let ms = c.args.machines.items in
    let all = YieldsList-end (YieldsList-from_vec ms (search rules) (search rules)) c.loop-machine.yielded _ c.loop-machine.yielded_by _ c.next.new.self c.in-None.is c.next.ensures.steps in
    c.loop-machine.invariant code ∙ ap (λ l. map (λ m. m.own.trace) (map (λ m. processor_in m code) l)) (sym (map-id c.loop-machine.yielded) ∙ all.0)
