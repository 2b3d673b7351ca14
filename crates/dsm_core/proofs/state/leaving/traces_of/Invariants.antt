use Rattle.std.proofs.Common.{◌≡◌, List, map}
use Rattle.dsm_isa.specs.declared.instr.Instr.{Instr}
use Rattle.dsm_machine.specs.Machines.{processor_in}
use Rattle.dsm_core.proofs.state.leaving.traces_of.Given as goal

abbrev pub invariant-loop-machine : goal.invariant-loop-machine
invariant-loop-machine l = (code : List Instr) → map (λ t. t.list) l.traces.items ≡ map (λ m. m.own.trace) (map (λ m. processor_in m code) l.yielded)
