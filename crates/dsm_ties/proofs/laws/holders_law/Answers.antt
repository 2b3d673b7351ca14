use Rattle.dsm_ties.proofs.Along.{tied}
use Rattle.dsm_ties.proofs.Closing.{halted_shared}
use Rattle.dsm_ties.proofs.Holders.{one_holder, unregistered, writers, home_bare, untouched}
use Rattle.dsm_ties.proofs.Unwritten.{unwritten}
use Rattle.dsm_ties.proofs.laws.holders_law.Goals as goal

pub returns : goal.returns
returns c = record {
  tied = tied;
  one_holder = one_holder tied;
  unregistered = unregistered tied;
  writers = writers tied;
  home_bare = home_bare tied;
  untouched = untouched tied;
  unwritten = unwritten tied;
  halted_shared = halted_shared;
}
