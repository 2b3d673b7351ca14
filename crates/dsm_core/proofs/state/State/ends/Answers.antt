use Rattle.std.proofs.Common.{map, ap, ◌∙◌, arith}
use Rattle.std.proofs.lemmas.List.{take_all}
use Rattle.dsm_machine.specs.Machines.{processor_in}
use Rattle.dsm_protocol.specs.Processors.{ending}
use Rattle.dsm_core.proofs.state.State.ends.Goals as goal

pub returns : goal.returns
returns c = λ code. c.loop-machine.invariant code ∙ ap (λ l. map ending (map (λ m. processor_in m code) l)) (take_all c.loop-machine.machine-index c.args.self.now.machines.items (omega arith))
