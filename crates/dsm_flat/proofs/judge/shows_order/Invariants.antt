use Rattle.dsm_entry.specs.Told.{lists_of}
use Rattle.dsm_flat.specs.Following.{AreVisits}
use Rattle.dsm_flat.specs.Latest.{IsLatest}
use Rattle.dsm_flat.proofs.Deciding.{left_from}
use Rattle.dsm_flat.proofs.judge.shows_order.Given as goal

abbrev pub invariant-loop-visits : goal.invariant-loop-visits
invariant-loop-visits l =
    record {
      visits : AreVisits (lists_of l.traces) l.visits;
      latest : IsLatest (lists_of l.traces) l.w l.visits.done l.latest;
    }

abbrev pub decreases-loop-visits : goal.decreases-loop-visits
decreases-loop-visits l = left_from (lists_of l.traces) 0 l.visits.done
