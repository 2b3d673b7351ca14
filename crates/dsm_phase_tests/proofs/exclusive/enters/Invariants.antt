use Rattle.std.proofs.Common.{◌≡◌, true}
use Rattle.dsm_words.specs.Script.{is_open}
use Rattle.dsm_exclusive.specs.Entering.{enter_rest}
use Rattle.dsm_phase_tests.proofs.exclusive.enters.Given as goal

abbrev pub invariant-loop-k : goal.invariant-loop-k
invariant-loop-k l = is_open (enter_rest l.enter) ≡ true
