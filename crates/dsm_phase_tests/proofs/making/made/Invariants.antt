use Rattle.std.proofs.Common.{◌≡◌, true}
use Rattle.dsm_words.specs.Script.{is_open}
use Rattle.dsm_phase_tests.proofs.making.made.Given as goal

abbrev pub invariant-loop-i : goal.invariant-loop-i
invariant-loop-i over l = is_open (over.P.Phase.rest l.phase) ≡ true
