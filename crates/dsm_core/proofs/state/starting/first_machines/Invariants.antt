use Rattle.std.proofs.Common.{◌≡◌, List, map}
use Rattle.std.specs.List.{range_with_len}
use Rattle.dsm_isa.specs.declared.instr.Instr.{Instr}
use Rattle.dsm_words.specs.Place.{lay_of}
use Rattle.dsm_machine.specs.Machines.{who, processor_in}
use Rattle.dsm_protocol.specs.Processors.{new_processor}
use Rattle.dsm_core.proofs.state.starting.first_machines.Given as goal

-- the machines so far have their numbers, and have done nothing
abbrev pub invariant-loop-p : goal.invariant-loop-p
invariant-loop-p l = record {
  numbered : map who l.machines.items ≡ map (λ q. record { lay = lay_of l.fn.lay; p = q; limits = l.fn.limits }) (range_with_len 0 l.p);
  new : (code : List Instr) → map (λ m. processor_in m code) l.machines.items ≡ map (λ q. new_processor (record { lay = lay_of l.fn.lay; p = q; limits = l.fn.limits }) code) (range_with_len 0 l.p);
}
