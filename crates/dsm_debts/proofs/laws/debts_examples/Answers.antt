use Rattle.std.proofs.Common.{refl}
use Rattle.dsm_debts.proofs.Worked.{shared_meets, alone_meets, home_meets, moves_meet}
use Rattle.dsm_debts.proofs.laws.debts_examples.Goals as goal

pub returns : goal.returns
returns c = record {
  shared = shared_meets;
  alone = alone_meets;
  home = home_meets;
  loaded_first = refl;
  loaded_sibling = refl;
  loaded_later = refl;
  flushed_first = refl;
  flushed_sibling = refl;
  flushed_later = refl;
  moves = moves_meet;
  handed_on = refl;
}
