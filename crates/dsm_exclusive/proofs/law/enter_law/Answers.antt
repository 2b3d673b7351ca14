use Rattle.dsm_exclusive.proofs.Entered.{enter_gets, enter_leaves, enter_made, copy_first}
use Rattle.dsm_exclusive.proofs.law.enter_law.Goals as goal

pub returns : goal.returns
returns c = record { gets = enter_gets; unnamed = enter_leaves; made = enter_made; copy = copy_first }
