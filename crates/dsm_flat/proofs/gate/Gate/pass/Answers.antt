use Rattle.std.proofs.Common.{◌≡◌, ℕ, ◌+◌, ◌-◌, ◌<◌, ◌≤◌, ◌⊎◌, List, length, get_or, refl, ap, ◌∙◌, subst, arith}
use Rattle.std.specs.Prelude.{◌↔◌, slice_index}
use Rattle.std.proofs.lemmas.Option.{slice_get_read}
use Rattle.std.proofs.lemmas.Result.{on_ok_weaker}
use Rattle.dsm_entry.specs.declared.entry.Place.{Place}
use Rattle.dsm_entry.specs.declared.entry.Entry.TheVariants.{Pass}
use Rattle.dsm_flat.specs.declared.gate.Gate.{Gate}
use Rattle.dsm_flat.specs.Order.{Traces, Holds}
use Rattle.dsm_flat.specs.Clocks.{Counted, FromSignals, IsUnion}
use Rattle.dsm_flat.specs.Visits.{AreVisited}
use Rattle.dsm_flat.specs.Gates.{Rises, IsFirstAbove, IsGateOf, AreAlike}
use Rattle.dsm_flat.proofs.Gating.{last_is, passes}
use Rattle.dsm_flat.proofs.gate.Gate.pass.Goals as goal

-- signals below an earlier count are visited
closing : (ts : Traces) (done : List ℕ) (old now : Gate) (lent : List ℕ) (c n k : ℕ) → IsGateOf ts done old → AreVisited ts old.o done c → lent ≡ old.counts.items → (Rises lent → IsFirstAbove lent c n) → AreAlike now old → now.closed ≡ k → k < n
    → AreVisited ts now.o done (slice_index now.counts.items now.closed)
closing ts done old now lent c n k g v e f a closed lt =
    rw (a.o, a.counts, closed) (λ z j h less. let le = (rw e at f g.rising).below k lt in v z j h (omega (arith, less, le)))

-- the count is the last of those up to it
last : (ts : Traces) (done : List ℕ) (old : Gate) (lent : List ℕ) (c n : ℕ) (y : Place) → IsGateOf ts done old → Holds ts y (Pass old.o c) → lent ≡ old.counts.items → (Rises lent → IsFirstAbove lent c n) → (k : ℕ) × (n ≡ k + 1) × (k < length old.counts.items) × (slice_index old.counts.items k ≡ c)
last ts done old lent c n y g h e f =
    last_is ts done old.o old.signals.items old.seen old.counts.items old.clocks.items old.closed old.all g y c n h ((rw e at f) g.rising)

-- the clock of the count is joined
joins : (ts : Traces) (done : List ℕ) (old now : Gate) (c n k : ℕ) (here own past : List ℕ) → IsGateOf ts done now → AreAlike now old → (m : ℕ) × (n ≡ m + 1) × (m < length old.counts.items) × (slice_index old.counts.items m ≡ c) → now.closed ≡ k → n ≤ k
    → here ≡ get_or now.clocks.items (n - 1) here → IsUnion own here past → (x : Place) → Counted past x ↔ (Counted own x ⊎ FromSignals ts old.o c x)
joins ts done old now c n k here own past g a l closed le is union x =
    let m = l.0 in
    let e : n - 1 ≡ m = omega (arith, l.1) in
    let len : length now.counts.items ≡ length old.counts.items = ap length a.counts in
    let count : slice_index now.counts.items m ≡ c = ap (λ xs. slice_index xs m) a.counts ∙ l.3 in
    let within : m < now.closed = omega (arith, le, closed, l.1) in
    let at = slice_get_read now.clocks.items (length now.clocks.items) m here refl (omega (arith, l.2, len, g.len)) (subst (λ i. here ≡ get_or now.clocks.items i here) e is) in
    subst (λ o. Counted past x ↔ (Counted own x ⊎ FromSignals ts o c x)) a.o
    (passes ts done now.o now.signals.items now.seen now.counts.items now.clocks.items now.closed now.all g c m here own past count within at union x)

pub loop-k-preserved : goal.loop-k-preserved
loop-k-preserved c =
    let i = c.loop-k.invariant in
    let e = c.in_ok-close_next.ensures in
    record {
      alike = record { o = e.alike.o ∙ i.alike.o; signals = e.alike.signals ∙ i.alike.signals; counts = e.alike.counts ∙ i.alike.counts };
      len = e.len ∙ i.len;
      closed = e.closed ∙ ap (λ n. n + 1) i.closed;
      gate = λ ts done g v. e.gate ts done (i.gate ts done g v) (closing ts done c.args.self.now c.loop-k.self c.deref.result.now c.args.c c.first_above-n.result c.loop-k._k g v c.deref.ensures.value c.first_above-n.ensures.above i.alike i.closed c.loop-k-test.true);
    }

pub overflow_sub-n : goal.overflow_sub-n
overflow_sub-n c =
    let l = last c.requires.0 c.requires.1 c.args.self.now c.deref.result.now c.args.c c.first_above-n.result c.requires.2 c.requires.3 c.requires.4 c.deref.ensures.value c.first_above-n.ensures.above in
    omega (arith, l.1)

pub returns-clause-clock : goal.returns-clause-clock
returns-clause-clock c =
    on_ok_weaker c.join.result (λ union ts done y g v h.
    joins ts done c.args.self.now c.loop-k.self c.args.c c.first_above-n.result c.loop-k._k c.index.result.now c.args.clock.now c.join.new.self (c.loop-k.invariant.gate ts done g v) c.loop-k.invariant.alike
    (last ts done c.args.self.now c.deref.result.now c.args.c c.first_above-n.result y g h c.deref.ensures.value c.first_above-n.ensures.above) c.loop-k.invariant.closed c.loop-k-test.false c.index.ensures union) c.join.ensures
