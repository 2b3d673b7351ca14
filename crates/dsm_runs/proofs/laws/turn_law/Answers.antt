use Rattle.dsm_runs.proofs.Mapped.{mapped_load, mapped_store}
use Rattle.dsm_runs.proofs.Mappings.{leaves_other_mappings}
use Rattle.dsm_runs.proofs.Seating.{maps_are_its_own, maps_are_stored_by_their_own, holds_its_turn, tries_holding_none, each_turn_is_held, no_circle}
use Rattle.dsm_runs.proofs.laws.turn_law.Goals as goal

pub returns : goal.returns
returns c =
    record {
      maps = maps_are_its_own;
      stored = maps_are_stored_by_their_own;
      mappings = leaves_other_mappings;
      load = mapped_load;
      store = mapped_store;
      turns = holds_its_turn;
      tries = tries_holding_none;
      held = each_turn_is_held;
      goes = no_circle;
    }
