use Rattle.std.proofs.Common.{◌≡◌, ℕ, ◌-◌, ◌<◌, ◌≤◌, length}
use Rattle.std.specs.Prelude.{Some, slice_get}
use Rattle.dsm_flat.specs.declared.gate.Mark.{Mark}
use Rattle.dsm_flat.specs.Clocks.{Counted}
use Rattle.dsm_flat.specs.Gates.{AreAlike}
use Rattle.dsm_flat.proofs.gate.Gate.see.Given as goal

abbrev pub invariant-loop-self : goal.invariant-loop-self
invariant-loop-self l =
    record {
      alike : AreAlike l.self l.fn.self;
      clocks : l.self.clocks.items ≡ l.fn.self.clocks.items;
      closed : l.self.closed ≡ l.fn.self.closed;
      all : l.self.all ≡ l.fn.self.all;
      on : l.fn.self.seen ≤ l.self.seen;
      visited : (k : ℕ) (m : Mark) → l.fn.self.seen ≤ k → k < l.self.seen → slice_get l.fn.self.signals.items k ≡ Some m → Counted l.done m.place;
    }

abbrev pub decreases-loop-self : goal.decreases-loop-self
decreases-loop-self l = length l.self.signals.items - l.self.seen
