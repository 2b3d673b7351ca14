-- A place that changes.
use Rattle.std.proofs.Common.{◌≡◌, ℕ, List, length-set, Some, ◌∙◌}
use Rattle.std.specs.Prelude.{slice_get, slice_set}
use Rattle.dsm_runs.proofs.Lists.{each_set}
use Rattle.dsm_runner.specs.Helds.{Board}
use Rattle.dsm_runner.specs.Places.{IsPlace, ArePlaces}
use Rattle.dsm_runner.specs.declared.run.Place.{Place}

-- where it stays that of its number, all stay the places of all workers
pub places_set : (b : Board) (ps : List Place) (i : ℕ) (old new : Place) → ArePlaces b ps → slice_get ps i ≡ Some old → ((n : ℕ) → IsPlace b n old → IsPlace b n new) → ArePlaces b (slice_set ps i new)
places_set b ps i old new are at keeps = record {
  count = length-set ps i new ∙ are.count;
  each = each_set (IsPlace b) ps i old new at (keeps i (are.each i old at)) are.each;
}
