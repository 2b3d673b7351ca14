use Rattle.dsm_entry.specs.Told.{lists_of}
use Rattle.dsm_flat.specs.Following.{AreVisits}
use Rattle.dsm_flat.specs.Accesses.{AreKept}
use Rattle.dsm_flat.proofs.Deciding.{left_from}
use Rattle.dsm_flat.proofs.shown.clocks.Given as goal

abbrev pub invariant-loop-visits : goal.invariant-loop-visits
invariant-loop-visits l =
    record {
      visits : AreVisits (lists_of l.traces) l.visits;
      kept : AreKept (lists_of l.traces) l.visits.done l.list l.kept.items;
    }

abbrev pub decreases-loop-visits : goal.decreases-loop-visits
decreases-loop-visits l = left_from (lists_of l.traces) 0 l.visits.done
