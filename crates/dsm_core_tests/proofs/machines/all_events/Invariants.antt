use Rattle.dsm_isa.specs.Rules.{ObjectsInside}
use Rattle.dsm_protocol.specs.Own.{sizes_in}
use Rattle.dsm_machine.specs.Machines.{who}
use Rattle.dsm_core_tests.proofs.machines.all_events.Given as goal

abbrev pub invariant-loop-t : goal.invariant-loop-t
invariant-loop-t g l = ObjectsInside (sizes_in (who l.machine).lay) l.code
