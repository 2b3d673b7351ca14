use Rattle.std.proofs.Common.{◌≡◌, ℕ, ◌≤◌, List, Bool, true, false, MatchBool, length, refl, subst}
use Rattle.std.specs.Prelude.{Some, slice_get}
use Rattle.std.proofs.Math.Dec.{leb}
use Rattle.std.proofs.lemmas.Bool.{leb-true}
use Rattle.std.proofs.lemmas.Option.{slice_get_read, slice_get_past}
use Rattle.dsm_flat.specs.declared.gate.Mark.{Mark}
use Rattle.dsm_flat.specs.declared.gate.Gate.{Gate}
use Rattle.dsm_flat.specs.Order.{Traces}
use Rattle.dsm_flat.specs.Visits.{AreVisited, IsWaiting}
use Rattle.dsm_flat.specs.Gates.{IsGateOf}
use Rattle.dsm_flat.proofs.Gating.{waits, opens, opens_all, not_le}
use Rattle.dsm_flat.proofs.gate.Gate.is_open.Goals as goal

-- the number of the next signal decides
decides : (ts : Traces) (done : List ℕ) (g : Gate) (m : Mark) (c : ℕ) → IsGateOf ts done g → slice_get g.signals.items g.seen ≡ Some m → (b : Bool) → leb c m.j ≡ b → MatchBool b (AreVisited ts g.o done c) (IsWaiting ts g.o done c)
decides ts done g m c i at true e = opens ts done g.o g.signals.items g.seen g.counts.items g.clocks.items g.closed g.all i m at c (leb-true c m.j e)
decides ts done g m c i at false e = waits ts done g.o g.signals.items g.seen g.counts.items g.clocks.items g.closed g.all i m at c (not_le c m.j e)

pub returns-in-Some : goal.returns-in-Some
returns-in-Some c = λ ts done g. decides ts done c.args.self.now c.in-Some.m.now c.args.c g (subst (λ s. slice_get s c.args.self.now.seen ≡ Some c.in-Some.m.now) c.deref.ensures.value (slice_get_read c.deref.result.now (length c.deref.result.now) c.args.self.now.seen c.in-Some.m.now refl c.in-Some.ensures.lookup.3.0 c.in-Some.ensures.lookup.1)) (leb c.args.c c.in-Some.m.now.j) refl

pub returns-in-None : goal.returns-in-None
returns-in-None c = λ ts done g.
    let s = c.args.self.now in
    opens_all ts done s.o s.signals.items s.seen s.counts.items s.clocks.items s.closed s.all g (slice_get_past s.signals.items s.seen (subst (λ xs. length xs ≤ s.seen) c.deref.ensures.value c.in-None.ensures.lookup.3)) c.args.c
