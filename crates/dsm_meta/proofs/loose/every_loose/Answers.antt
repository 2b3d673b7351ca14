use Rattle.dsm_ties.proofs.Along.{tied}
use Rattle.dsm_ties.proofs.Bounding.{clock_bound, clocks_stand}
use Rattle.dsm_ties.proofs.Holders.{one_holder, unregistered, writers, home_bare, untouched}
use Rattle.dsm_ties.proofs.Unwritten.{unwritten}
use Rattle.dsm_freshness.proofs.Remembering.{always_fresh}
use Rattle.dsm_meta.proofs.Every.{sync_is_legal, own_maps, some_goes_on, spares_mappings, home_fixed}
use Rattle.dsm_meta.proofs.Turns.{turn_holders}
use Rattle.dsm_meta.proofs.loose.every_loose.Goals as goal

pub returns : goal.returns
returns c = record {
  sync_legal = sync_is_legal;
  own_maps = own_maps;
  turn_holders = turn_holders;
  no_circle = some_goes_on;
  other_maps = spares_mappings;
  home_fixed = home_fixed;
  clock_bound = clock_bound;
  clocks = clocks_stand;
  one_holder = one_holder tied;
  unregistered = unregistered tied;
  writers = writers tied;
  home_bare = home_bare tied;
  untouched = untouched tied;
  unwritten = unwritten tied;
  fresh = always_fresh;
}
