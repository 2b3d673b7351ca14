use Rattle.std.proofs.Common.{◌≡◌, ◌≤◌, List, All, map, take}
use Rattle.std.specs.List.{AllZip}
use Rattle.dsm_isa.specs.declared.instr.Instr.{Instr}
use Rattle.dsm_machine.specs.Machines.{who, processor_in, spare_of}
use Rattle.dsm_core.proofs.state.room.ready_all.Given as goal

-- nothing is changed but room, none of which is lost; the machines so far have enough
abbrev pub invariant-loop-machine : goal.invariant-loop-machine
invariant-loop-machine l =
    record {
      who : map who l.machines ≡ map who l.fn.machines;
      same : (code : List Instr) → map (λ m. processor_in m code) l.machines ≡ map (λ m. processor_in m code) l.fn.machines;
      ready : All (λ room. l.count ≤ room) (map spare_of (take l.machine-index l.machines));
      kept : AllZip (λ had has. had ≤ has) (map spare_of l.fn.machines) (map spare_of l.machines);
      spare : All (λ room. l.count ≤ room) (map spare_of l.fn.machines) → map spare_of l.machines ≡ map spare_of l.fn.machines;
    }
