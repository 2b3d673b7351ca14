use Rattle.std.proofs.Common.{◌≡◌, length}
use Rattle.dsm_entry.specs.Told.{lists_of}
use Rattle.dsm_flat.specs.Following.{AreVisits}
use Rattle.dsm_flat.specs.Latest.{AreLatest}
use Rattle.dsm_flat.proofs.Deciding.{left_from}
use Rattle.dsm_flat.proofs.raced.raced.Given as goal

abbrev pub invariant-loop-visits : goal.invariant-loop-visits
invariant-loop-visits l =
    record {
      visits : AreVisits (lists_of l.traces) l.visits;
      len : length l.list.items ≡ l.words;
      latest : AreLatest (lists_of l.traces) l.visits.done l.list.items;
    }

abbrev pub decreases-loop-visits : goal.decreases-loop-visits
decreases-loop-visits l = left_from (lists_of l.traces) 0 l.visits.done
