use Rattle.std.proofs.Common.{◌≡◌, ℕ, List, length, refl, rules}
use Rattle.std.proofs.lemmas.Option.{slice_get_read}
use Rattle.dsm_entry.specs.declared.entry.Place.{Place}
use Rattle.dsm_entry.specs.declared.entry.Entry.TheVariants.{Signal}
use Rattle.dsm_flat.specs.declared.gate.Gate.{Gate}
use Rattle.dsm_flat.specs.Order.{Traces, Holds}
use Rattle.dsm_flat.specs.Racing.{IsVisit}
use Rattle.dsm_flat.specs.Gates.{Rises, IsFirstAbove, IsSeen, IsJoinedAt, AreAlike, IsGateOf}
use Rattle.dsm_flat.proofs.Gating.{signalled, joined_there, joined_nowhere}
use Rattle.dsm_flat.proofs.gate.Gate.signal.Goals as goal
use Rattle.dsm_flat.proofs.gate.Gate.signal.Goals.{then-k-len+in_ok-join, else-k-len}

-- the clock is joined, and others are as they were
record Mid (old mid : Gate) (k : ℕ) (clock : List ℕ) : Type 0 where
  alike : AreAlike mid old
  join : IsJoinedAt old.clocks.items k clock mid.clocks.items
  seen : mid.seen ≡ old.seen
  closed : mid.closed ≡ old.closed
  all : mid.all ≡ old.all

signals : (ts : Traces) (before : List ℕ) (y : Place) (clock done : List ℕ) (j k : ℕ) (lent : List ℕ) (old mid new : Gate) → IsVisit ts before y clock done → Holds ts y (Signal old.o j) → IsGateOf ts before old
    → lent ≡ old.counts.items → (Rises lent → IsFirstAbove lent j k) → Mid old mid k clock → AreAlike new mid → new.clocks.items ≡ mid.clocks.items → new.closed ≡ mid.closed → new.all ≡ mid.all → IsSeen mid.signals.items done mid.seen new.seen → IsGateOf ts done new
signals ts before y clock done j k lent old mid new v h g e f m b clocks closed all s =
    rw (b.o, b.signals, b.counts, clocks, closed, all, m.alike.o, m.alike.signals, m.alike.counts, m.closed, m.all)
    (signalled ts before old.o old.signals.items old.seen old.counts.items old.clocks.items old.closed old.all g y clock done v j k h ((rw e at f) g.rising) mid.clocks.items m.join new.seen
    (rw (m.seen, m.alike.signals) at s))

pub returns-clause-gate : goal.returns-clause-gate
returns-clause-gate c = λ ts before y v h g.
    let old = c.args.self.now in
    let k = c.first_above-k.result in
    let e = c.see.ensures in
    let mid : Mid old c.if-k-len.self k c.args.clock.now =
    elim c.if-k-len.branch [
      | then-k-len+in_ok-join w ↦
          rw w.self-is
          (record {
            alike = record { o = refl; signals = refl; counts = refl };
            join = joined_there old.clocks.items k w.index_mut.result.now c.args.clock.now w.join.new.self (slice_get_read old.clocks.items (length old.clocks.items) k w.index_mut.result.now refl (search rules) w.index_mut.ensures.value) w.in_ok-join.ensures;
            seen = refl;
            closed = refl;
            all = refl;
          })
      | else-k-len w ↦
          rw w.self-is
          (record {
            alike = record { o = refl; signals = refl; counts = refl };
            join = joined_nowhere old.clocks.items k c.args.clock.now (search rules);
            seen = refl;
            closed = refl;
            all = refl;
          })
    ] in
    signals ts before y c.args.clock.now c.args.done.now c.args.j k c.deref.result.now old c.if-k-len.self c.see.new.self v h g c.deref.ensures.value c.first_above-k.ensures.above mid e.alike e.clocks e.closed e.all e.seen
