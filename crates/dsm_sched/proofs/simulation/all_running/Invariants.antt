use Rattle.std.proofs.Common.{◌≡◌, List}
use Rattle.std.specs.List.{range_with_len}
use Rattle.dsm_isa.specs.declared.instr.Instr.{Instr}
use Rattle.dsm_core.specs.States.{cluster_in}
use Rattle.dsm_sched.proofs.Choosing.{kept}
use Rattle.dsm_sched.proofs.simulation.all_running.Given as goal

-- so far those before p
abbrev pub invariant-loop-p : goal.invariant-loop-p
invariant-loop-p l = (code : List Instr) → l.running.items ≡ kept (cluster_in l.state code) (range_with_len 0 l.p)
