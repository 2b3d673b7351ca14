use Rattle.std.proofs.Common.{refl}
use Rattle.dsm_copies.specs.Examples.{handed_on, silent, home_alone, without_values, without_order, without_apart, without_fetched, without_told, without_broken, without_rights, without_released, without_flushes, without_merges, without_overwrites, without_makes, without_breaks, without_drops, without_kept, without_home_sends, without_enters, without_home_tells}
use Rattle.dsm_copies.proofs.Worked.{meets, meets_by_sends, misses, invents}
use Rattle.dsm_copies.proofs.laws.copies_examples.Goals as goal

pub returns : goal.returns
returns c = record {
  handed_on = meets handed_on refl;
  silent = meets silent refl;
  home_alone = meets home_alone refl;
  handed_on_by_sends = meets_by_sends handed_on refl;
  silent_by_sends = meets_by_sends silent refl;
  home_alone_by_sends = meets_by_sends home_alone refl;
  values = invents without_values refl;
  order = misses without_order refl;
  apart = misses without_apart refl;
  fetched = invents without_fetched refl;
  told = misses without_told refl;
  broken = misses without_broken refl;
  rights = misses without_rights refl;
  released = misses without_released refl;
  flushes = invents without_flushes refl;
  merges = invents without_merges refl;
  overwrites = misses without_overwrites refl;
  makes = misses without_makes refl;
  breaks = invents without_breaks refl;
  drops = misses without_drops refl;
  kept = misses without_kept refl;
  home_sends = misses without_home_sends refl;
  enters = misses without_enters refl;
  home_tells = misses without_home_tells refl;
}
