use Rattle.std.proofs.Common.{◌≡◌, vec_len}
use Rattle.dsm_runner.specs.Places.{ArePlaces}
use Rattle.dsm_runner.proofs.run.spread.rounds.Given as goal

abbrev pub invariant-loop-i : goal.invariant-loop-i
invariant-loop-i g l = record {
  len : vec_len l.places ≡ l.i-end;
  places : ArePlaces l.shared l.places.items;
}

abbrev pub invariant-loop : goal.invariant-loop
invariant-loop g l = record {
  can : (goal.iterator-loop g).can_next l.iterator';
  finite : (goal.iterator-loop g).is_finite l.iterator';
  places : ArePlaces l.shared l.places.items;
}
