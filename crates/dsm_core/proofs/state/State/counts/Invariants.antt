use Rattle.std.proofs.Common.{◌≡◌, List, map, take}
use Rattle.dsm_isa.specs.declared.instr.Instr.{Instr}
use Rattle.dsm_machine.specs.Machines.{processor_in}
use Rattle.dsm_runs.specs.Outcomes.{total_counts}
use Rattle.dsm_core.proofs.state.State.counts.Given as goal

abbrev pub invariant-loop-machine : goal.invariant-loop-machine
invariant-loop-machine l = (code : List Instr) → l.counts ≡ total_counts (map (λ m. processor_in m code) (take l.machine-index l.self.machines.items))
