-- One entry more is visited, as the code does it.
use Rattle.std.proofs.Common.{◌≡◌, ◌≢◌, ℕ, ◌+◌, ◌<◌, ◌≤◌, ◌⊎◌, List, [], Some, Bool, true, false, MatchBool, length, refl, sym, ap, ◌∙◌, subst, inl, inr, arith}
use Rattle.std.specs.Prelude.{◌↔◌, slice_get, slice_index, slice_set}
use Rattle.std.proofs.lemmas.List.{length-set}
use Rattle.std.proofs.lemmas.Option.{same_Some}
use Rattle.dsm_entry.specs.declared.entry.Obj.{Obj}
use Rattle.dsm_entry.specs.declared.entry.Entry.{Entry}
use Rattle.dsm_entry.specs.declared.entry.Entry.TheVariants.{Pass}
use Rattle.dsm_entry.specs.declared.entry.Place.{Place}
use Rattle.dsm_flat.specs.declared.visits.Visit.{Visit}
use Rattle.dsm_flat.specs.declared.visits.Visits.{Visits}
use Rattle.dsm_flat.specs.declared.gates.Gates.{Gates}
use Rattle.dsm_flat.specs.Order.{Traces, Holds, Waits, Sync}
use Rattle.dsm_flat.specs.Clocks.{Counted, FromSignals, next_of, IsPut, IsBlocked}
use Rattle.dsm_flat.specs.Racing.{IsClosed, IsVisit, CountsNone}
use Rattle.dsm_flat.specs.Visits.{AreVisited, IsWaiting, IsOwnClock, JoinsSignals, IsStep}
use Rattle.dsm_flat.specs.Gates.{AreGates}
use Rattle.dsm_flat.specs.Following.{IsFree, IsHeld, CanVisit, AreVisits, IsNextVisit}
use Rattle.dsm_flat.proofs.OrderLaws.{within}
use Rattle.dsm_flat.proofs.Clocks.{put_at}
use Rattle.dsm_flat.proofs.Visiting.{step_visits, others_stay}
use Rattle.dsm_flat.proofs.Gating.{get_set}
use Rattle.dsm_flat.proofs.Adding.{set_here}

-- a pass is free where the signals below its count are visited
pub free_pass : (ts : Traces) (done : List ℕ) (e : Entry) (o : Obj) (c : ℕ) → e ≡ Pass o c → (b : Bool) → MatchBool b (AreVisited ts o done c) (IsWaiting ts o done c) → MatchBool b (IsFree ts done e) (IsHeld ts done e)
free_pass ts done e o c is true v = λ q n w. free q n (subst (λ d. Waits d q n) is w)
  where
    free : (q : Obj) (n : ℕ) → Waits (Pass o c) q n → AreVisited ts q done n
    free q n (a, b) = rw (a, b) v
free_pass ts done e o c is false w = (o, c, subst (λ d. Waits d o c) (sym is) (refl, refl), w)

pub free_at : (ts : Traces) (done : List ℕ) (e : Entry) (o : Obj) (c : ℕ) → e ≡ Pass o c → IsFree ts done e → AreVisited ts o done c
free_at ts done e o c is f = f o c (subst (λ d. Waits d o c) (sym is) (refl, refl))

-- the clock of a pass is joined with the signals that it stands behind
pub joins_pass : (ts : Traces) (e : Entry) (o : Obj) (c : ℕ) (own past : List ℕ) → e ≡ Pass o c → ((x : Place) → Counted past x ↔ (Counted own x ⊎ FromSignals ts o c x)) → JoinsSignals ts e own past
joins_pass ts e o c own past is h x = (λ k. forth ((h x).0 k), λ f. (h x).1 (back f))
  where
    forth : Counted own x ⊎ FromSignals ts o c x → Counted own x ⊎ ((q : Obj) × (n : ℕ) × Waits e q n × FromSignals ts q n x)
    forth (inl k) = inl k
    forth (inr f) = inr (o, c, subst (λ d. Waits d o c) (sym is) (refl, refl), f)

    same : (q : Obj) (n : ℕ) → Waits (Pass o c) q n → FromSignals ts q n x → FromSignals ts o c x
    same q n (a, b) f = rw (sym a, sym b) f

    back : Counted own x ⊎ ((q : Obj) × (n : ℕ) × Waits e q n × FromSignals ts q n x) → Counted own x ⊎ FromSignals ts o c x
    back (inl k) = inl k
    back (inr (q, n, w, f)) = inr (same q n (subst (λ d. Waits d q n) is w) f)

-- what is held is blocked
pub blocked : (ts : Traces) (done : List ℕ) (p : ℕ) (e : Entry) → Holds ts (next_of done p) e → IsHeld ts done e → IsBlocked ts done p
blocked ts done p e there (o, n, w, (z, j, h, lt, no_z)) = (z, Sync o j n e h there w lt, no_z)

-- in the beginning nothing is visited
pub nothing_visited : (ts : Traces) (v : Visits) → v.done ≡ [] → length v.clocks.items ≡ length ts → ((k : ℕ) (clock : List ℕ) → slice_get v.clocks.items k ≡ Some clock → clock ≡ []) → ((done : List ℕ) → CountsNone done → AreGates ts done v.gates) → AreVisits ts v
nothing_visited ts v e len empty gates =
    record {
      closed = λ x y edge c. absurd (omega (arith, c, none y.p));
      len = len;
      within = λ q t at. omega (arith, none q);
      own = λ q clock at x. (λ c. absurd (no_count clock (empty q clock at) x c), λ f. let i = f.2 in absurd (omega (arith, i, none q)));
      gates = gates v.done none;
    }
  where
    none : (q : ℕ) → slice_index v.done q ≡ 0
    none q = ap (λ d. slice_index d q) e

    no_count : (clock : List ℕ) → clock ≡ [] → (x : Place) → Counted clock x → ⊥
    no_count clock e x c = let zero : slice_index clock x.p ≡ 0 = ap (λ xs. slice_index xs x.p) e in absurd (omega (arith, c, zero))

-- the clocks and objects after a visit
module _ (ts : Traces) (old new : Visits) (a : AreVisits ts old) (v : Visit) (can : CanVisit ts old.done v) (mid : List (List ℕ)) (mid_gates : Gates) (own past clock : List ℕ) where
  abbrev p : ℕ
  p = v.place.p

  module _ (room : p < length old.clocks.items) (len : length mid ≡ length old.clocks.items) (others : (q : ℕ) → q ≢ p → slice_get mid q ≡ slice_get old.clocks.items q) (own_at : slice_get old.clocks.items p ≡ Some own)
      (joins : JoinsSignals ts v.entry own past) (put : IsPut past p (v.place.i + 1) clock) (put_done : IsPut old.done p (v.place.i + 1) new.done) (clocks : new.clocks.items ≡ slice_set mid p clock)
      (gates : (now : List ℕ) → slice_get (slice_set mid p clock) p ≡ Some now → IsVisit ts old.done v.place now new.done → AreGates ts new.done new.gates) where
    i_is : v.place.i ≡ slice_index old.done p
    i_is = ap (λ z. z.i) can.place

    step : IsStep ts old.done p v.entry clock new.done
    step =
        record {
          closed = a.closed;
          there = subst (λ z. Holds ts z v.entry) can.place can.there;
          behind = can.free;
          made = (own, past, a.own p own own_at, joins, subst (λ i. IsPut past p (i + 1) clock) i_is put);
          counted = subst (λ i. IsPut old.done p (i + 1) new.done) i_is put_done;
        }

    result : IsVisit ts old.done (next_of old.done p) clock new.done × IsClosed ts new.done × IsOwnClock ts new.done p clock
    result = step_visits ts old.done p v.entry clock new.done step

    visit : IsVisit ts old.done v.place clock new.done
    visit = subst (λ z. IsVisit ts old.done z clock new.done) (sym can.place) result.0

    clock_at : slice_get (slice_set mid p clock) p ≡ Some clock
    clock_at = set_here mid p clock (omega (arith, room, len))

    pub visited : AreVisits ts new × IsNextVisit ts old v new
    visited = (
      record {
        closed = result.1;
        len = ap length clocks ∙ (length-set mid p clock ∙ (len ∙ a.len));
        within = λ q t at. within_now q t at (put_at old.done new.done p (v.place.i + 1) put_done q);
        own = λ q now at. own_now q now (get_set mid p q clock now (ap (λ cs. slice_get cs q) (sym clocks) ∙ at));
        gates = gates clock clock_at visit;
      },
      record {
        can = can;
        put = put_done;
        visit = λ now at. subst (λ c. IsVisit ts old.done v.place c new.done) (same_Some clock now (sym clock_at ∙ (ap (λ cs. slice_get cs p) (sym clocks) ∙ at))) visit;
      },
    )
      where
        within_now : (q : ℕ) (t : List Entry) → slice_get ts q ≡ Some t → ((p ≡ q) × (slice_index new.done q ≡ v.place.i + 1)) ⊎ ((p ≢ q) × (slice_index new.done q ≡ slice_index old.done q)) → slice_index new.done q ≤ length t
        within_now q t at (inr d) = omega (arith, d.1, a.within q t at)
        within_now q t at (inl e) =
            let w = within ts v.place v.entry can.there in
            let same : w.trace ≡ t = same_Some w.trace t (sym w.at ∙ (ap (λ n. slice_get ts n) e.0 ∙ at)) in
            let n : length w.trace ≡ length t = ap length same in
            omega (arith, e.1, w.inside, n)

        own_now : (q : ℕ) (now : List ℕ) → ((q ≡ p) × (now ≡ clock) × (q < length mid)) ⊎ ((q ≢ p) × (slice_get mid q ≡ Some now)) → IsOwnClock ts new.done q now
        own_now q now (inl e) = rw (e.0, e.1) result.2
        own_now q now (inr d) = others_stay ts old.done p v.entry clock new.done q now step d.0 (a.own q now (sym (others q d.0) ∙ d.1))
