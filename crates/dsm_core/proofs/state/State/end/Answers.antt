use Rattle.std.proofs.Common.{Some, map, ap, sym, ◌∙◌, arith}
use Rattle.std.specs.Prelude.{option_map}
use Rattle.std.proofs.lemmas.Option.{slice_get-map}
use Rattle.dsm_machine.specs.declared.machine.Machine.{Machine}
use Rattle.dsm_protocol.specs.Processors.{Processor, ending}
use Rattle.dsm_machine.specs.Machines.{processor_in}
use Rattle.dsm_core.proofs.Stepping.{at_processor}
use Rattle.dsm_core.proofs.state.State.end.Goals as goal

pub returns : goal.returns
returns c = λ code.
    let s = c.args.self.now in
    let f : Machine → Processor = λ m. processor_in m code in
    slice_get-map ending (map f s.machines.items) c.args.p
    ∙ ap (option_map ending) (at_processor s c.args.p c.index.result.now (omega arith) c.index.ensures f)
    ∙ ap Some (sym (c.end.ensures.begun code))
