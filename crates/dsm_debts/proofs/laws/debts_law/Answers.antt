use Rattle.dsm_debts.proofs.Keeps.{standing, signals, drops, exclusive_is, owed_is, untold}
use Rattle.dsm_debts.proofs.Joined.{debts_are_kept, together}
use Rattle.dsm_copies.specs.Premises.{Order, Every, But}
use Rattle.dsm_debts.proofs.laws.debts_law.Goals as goal

pub returns : goal.returns
returns c = record {
  standing = standing;
  signals = signals;
  drops = drops;
  exclusive = exclusive_is;
  owed = owed_is;
  untold = untold;
  kept = debts_are_kept;
  together = together Every;
  unordered = together (But Order);
}
