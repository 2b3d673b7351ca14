-- One entry more is visited.
use Rattle.std.proofs.Common.{◌≡◌, ◌≢◌, ℕ, ◌+◌, ◌<◌, ◌⊎◌, List, refl, sym, ap, ◌∙◌, subst, inl, inr, arith}
use Rattle.std.specs.Prelude.{◌↔◌, slice_index}
use Rattle.std.proofs.lemmas.Bool.{cases_eq}
use Rattle.dsm_entry.specs.declared.entry.Obj.{Obj}
use Rattle.dsm_entry.specs.declared.entry.Entry.{Entry}
use Rattle.dsm_entry.specs.declared.entry.Place.{Place}
use Rattle.dsm_flat.specs.Order.{Traces, Waits, Edge, Next, Sync, Before}
use Rattle.dsm_flat.specs.Clocks.{Counted, UpTo, FromPrevious, FromSignals, next_of, IsPast, IsClock}
use Rattle.dsm_flat.specs.Racing.{IsClosed, IsVisit}
use Rattle.dsm_flat.specs.Visits.{IsOwnClock, IsStep, StepVisits, OthersStay}
use Rattle.dsm_flat.proofs.OrderLaws.{same_place}
use Rattle.dsm_flat.proofs.Clocks.{by_edges, clock_of, last_edge, put_at}
use Rattle.dsm_flat.proofs.Racing.{closed_before}

module _ (ts : Traces) (done : List ℕ) (p : ℕ) (e : Entry) (clock now : List ℕ) (s : IsStep ts done p e clock now) where
  -- what is counted now is old or the new entry
  one_more : (x : Place) → Counted now x ↔ (Counted done x ⊎ (x ≡ next_of done p))
  one_more x = (forth (put_at done now p (slice_index done p + 1) s.counted x.p), back (put_at done now p (slice_index done p + 1) s.counted x.p))
    where
      forth : ((p ≡ x.p) × (slice_index now x.p ≡ slice_index done p + 1)) ⊎ ((p ≢ x.p) × (slice_index now x.p ≡ slice_index done x.p)) → Counted now x → Counted done x ⊎ (x ≡ next_of done p)
      forth (inr d) c = inl (omega (arith, c, d.1))
      forth (inl h) c = go (cases_eq x.i (slice_index done p))
        where
          same : slice_index done p ≡ slice_index done x.p
          same = ap (λ q. slice_index done q) h.0

          go : (x.i ≡ slice_index done p) ⊎ (x.i ≡ slice_index done p → ⊥) → Counted done x ⊎ (x ≡ next_of done p)
          go (inl i) = inr (same_place x (next_of done p) (sym h.0) i)
          go (inr d) = inl (omega (arith, c, h.1, d, same))

      back : ((p ≡ x.p) × (slice_index now x.p ≡ slice_index done p + 1)) ⊎ ((p ≢ x.p) × (slice_index now x.p ≡ slice_index done x.p)) → Counted done x ⊎ (x ≡ next_of done p) → Counted now x
      back (inr d) (inl c) = omega (arith, c, d.1)
      back (inr d) (inr f) = absurd (d.0 (sym (ap (λ z. z.p) f)))
      back (inl h) (inl c) = let same : slice_index done p ≡ slice_index done x.p = ap (λ q. slice_index done q) h.0 in omega (arith, c, h.1, same)
      back (inl h) (inr f) = let i : x.i ≡ slice_index done p = ap (λ z. z.i) f in omega (arith, i, h.1)

  -- where an edge to the new entry comes from is counted
  source_counted : (x : Place) → Edge ts x (next_of done p) → Counted done x
  source_counted x (Next d f h k q i) = let same : slice_index done p ≡ slice_index done x.p = ap (λ r. slice_index done r) q in omega (arith, i, same)
  source_counted x (Sync o j n f h k w lt) = let there = s.there in let same : f ≡ e = cc (k, there) in s.behind o n (subst (λ a. Waits a o n) same w) x j h lt

  closed_now : IsClosed ts now
  closed_now x z edge c = go ((one_more z).0 c)
    where
      go : Counted done z ⊎ (z ≡ next_of done p) → Counted now x
      go (inl d) = (one_more x).1 (inl (s.closed x z edge d))
      go (inr f) = (one_more x).1 (inl (source_counted x (subst (λ a. Edge ts x a) f edge)))

  past_is : IsPast ts (next_of done p) s.made.1
  past_is x = (λ c. (by_edges ts x (next_of done p) e s.there).1 (forth ((s.made.3 x).0 c)), λ b. (s.made.3 x).1 (back ((by_edges ts x (next_of done p) e s.there).0 b)))
    where
      forth : Counted s.made.0 x ⊎ ((o : Obj) × (n : ℕ) × Waits e o n × FromSignals ts o n x) → FromPrevious ts (next_of done p) x ⊎ ((o : Obj) × (n : ℕ) × Waits e o n × FromSignals ts o n x)
      forth (inl c) = inl ((s.made.2 x).0 c)
      forth (inr f) = inr f

      back : FromPrevious ts (next_of done p) x ⊎ ((o : Obj) × (n : ℕ) × Waits e o n × FromSignals ts o n x) → Counted s.made.0 x ⊎ ((o : Obj) × (n : ℕ) × Waits e o n × FromSignals ts o n x)
      back (inl f) = inl ((s.made.2 x).1 f)
      back (inr f) = inr f

  -- what is before the new entry is counted,
  before_counted : (x : Place) → Before ts x (next_of done p) → Counted done x
  before_counted x b = let r = last_edge ts x (next_of done p) b in go r.0 (source_counted r.0 r.1) r.2
    where
      go : (z : Place) → Counted done z → UpTo ts z x → Counted done x
      go z c (inl e) = subst (λ a. Counted done a) (sym e) c
      go z c (inr f) = closed_before ts done s.closed x z f c

  -- and so none is behind it in its trace
  earlier : (x : Place) → Before ts x (next_of done p) → x.p ≡ p → x.i < slice_index done p
  earlier x b q = let c = before_counted x b in let same : slice_index done x.p ≡ slice_index done p = ap (λ r. slice_index done r) q in omega (arith, c, same)

  clock_is : IsClock ts (next_of done p) clock
  clock_is = clock_of ts (next_of done p) e s.made.1 clock earlier s.there past_is s.made.4

  own_now : IsOwnClock ts now p clock
  own_now x = (λ c. (next_of done p, refl, s.counted.own, (clock_is x).0 c), back)
    where
      back : FromPrevious ts (next_of now p) x → Counted clock x
      back (z, q, i, u) =
          let own = s.counted.own in
          let same : z ≡ next_of done p = same_place z (next_of done p) q (omega (arith, i, own)) in
          (clock_is x).1 (subst (λ a. UpTo ts a x) same u)

  visit : IsVisit ts done (next_of done p) clock now
  visit = record { next = refl; closed = s.closed; clock_is = clock_is; one_more = one_more }

pub step_visits : StepVisits
step_visits ts done p e clock now s = (visit ts done p e clock now s, closed_now ts done p e clock now s, own_now ts done p e clock now s)

pub others_stay : OthersStay
others_stay ts done p e clock now q other s d g x = (λ c. there ((g x).0 c), λ f. (g x).1 (back f))
  where
    same : slice_index now q ≡ slice_index done q
    same = s.counted.others q d

    there : FromPrevious ts (next_of done q) x → FromPrevious ts (next_of now q) x
    there (z, r, i, u) = (z, r, same ∙ i, u)

    back : FromPrevious ts (next_of now q) x → FromPrevious ts (next_of done q) x
    back (z, r, i, u) = (z, r, sym same ∙ i, u)
