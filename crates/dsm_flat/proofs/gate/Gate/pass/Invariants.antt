use Rattle.std.proofs.Common.{◌≡◌, ℕ, List, length}
use Rattle.dsm_flat.specs.Order.{Traces}
use Rattle.dsm_flat.specs.Visits.{AreVisited}
use Rattle.dsm_flat.specs.Gates.{AreAlike, IsGateOf}
use Rattle.dsm_flat.proofs.gate.Gate.pass.Given as goal

abbrev pub invariant-loop-k : goal.invariant-loop-k
invariant-loop-k l =
    record {
      alike : AreAlike l.self l.fn.self;
      len : length l.self.clocks.items ≡ length l.fn.self.clocks.items;
      closed : l.self.closed ≡ l._k;
      gate : (ts : Traces) (done : List ℕ) → IsGateOf ts done l.fn.self → AreVisited ts l.fn.self.o done l.c → IsGateOf ts done l.self;
    }
