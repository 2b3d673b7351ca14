use Rattle.dsm_core.specs.States.{IsFor}
use Rattle.dsm_core_tests.proofs.states.steps.Given as goal

abbrev pub invariant-loop-p : goal.invariant-loop-p
invariant-loop-p over l = IsFor l.state l.program
