-- Laws of the order.
use Rattle.std.proofs.Common.{◌≡◌, ◌≢◌, ℕ, zero, suc, ◌+◌, ◌-◌, ◌<◌, ◌≤◌, ◌⊎◌, List, [], ◌∷◌, Option, Some, None, length, get_or, refl, sym, ap, ◌∙◌, subst, inl, inr, arith}
use Rattle.std.specs.Prelude.{slice_get}
use Rattle.std.proofs.lemmas.Bool.{cases_eq, cases_order}
use Rattle.std.proofs.lemmas.Option.{slice_get_within, slice_get_cases}
use Rattle.dsm_entry.specs.declared.entry.Entry.{Entry}
use Rattle.dsm_entry.specs.declared.entry.Entry.TheVariants.{Load, Store, Signal}
use Rattle.dsm_entry.specs.declared.entry.Place.{Place}
use Rattle.dsm_flat.specs.Order.{Traces, found_in, entry_at, Holds, Edge, Next, Sync, Before, One, Then, NoCircle}
use Rattle.dsm_flat.specs.Flat.{Stores, IsAccess, Ordered, Never, Stored, Untouched, Closed}
use Rattle.dsm_flat.specs.Laws.{Raises, LastIsDetermined, FinalIsDetermined, IsEarlier, OneTrace, Carried, SignalThenPass}

pub transitive : (ts : Traces) (x y z : Place) → Before ts x y → Before ts y z → Before ts x z
transitive ts x y z (One e) g = Then e g
transitive ts x y z (Then {z = u} e f) g = Then e (transitive ts u y z f g)

pub raised : (ts : Traces) (rank : Place → ℕ) (x y : Place) → Raises ts rank → Before ts x y → rank x < rank y
raised ts rank x y r (One e) = r x y e
raised ts rank x y r (Then {z = z} e f) = let a = r x z e in let b = raised ts rank z y r f in omega arith

pub rank_excludes : (ts : Traces) (rank : Place → ℕ) → Raises ts rank → NoCircle ts
rank_excludes ts rank r x b = absurd (let a = raised ts rank x x r b in omega arith)

pub same_place : (x y : Place) → x.p ≡ y.p → x.i ≡ y.i → x ≡ y
same_place x y e f = λ k. record { p = e k; i = f k }

-- two places are the same or not
pub place_cases : (x y : Place) → (x ≡ y) ⊎ (x ≢ y)
place_cases x y = go (cases_eq x.p y.p) (cases_eq x.i y.i)
  where
    go : (x.p ≡ y.p) ⊎ (x.p ≡ y.p → ⊥) → (x.i ≡ y.i) ⊎ (x.i ≡ y.i → ⊥) → (x ≡ y) ⊎ (x ≢ y)
    go (inl e) (inl f) = inl (same_place x y e f)
    go (inr e) f = inr (λ g. e (ap (λ z. z.p) g))
    go (inl e) (inr f) = inr (λ g. f (ap (λ z. z.i) g))

same_value : (ts : Traces) (w : ℕ) (x y : Place) (u v : ℕ) → Stores ts w x u → Stores ts w y v → x ≡ y → u ≡ v
same_value ts w x y u v s t e =
    let f : entry_at ts x ≡ entry_at ts y = ap (λ z. entry_at ts z) e in cc (s, t, f)

pub last_is : LastIsDetermined
last_is ts initial w x u v nc (Never n e) (Never m f) = e ∙ sym f
last_is ts initial w x u v nc (Never n e) (Stored y s b l) = absurd (n y (v, s) b)
last_is ts initial w x u v nc (Stored y s b l) (Never n e) = absurd (n y (u, s) b)
last_is ts initial w x u v nc (Stored y s b l) (Stored z t c m) = go (place_cases y z)
  where
    go : (y ≡ z) ⊎ (y ≢ z) → u ≡ v
    go (inl e) = same_value ts w y z u v s t e
    go (inr ne) = absurd (nc y (transitive ts y z y (m y (u, s) b ne) (l z (v, t) c (λ e. ne (sym e)))))

pub final_is : FinalIsDetermined
final_is ts initial w u v nc (Untouched n e) (Untouched m f) = e ∙ sym f
final_is ts initial w u v nc (Untouched n e) (Closed y s l) = absurd (n y (v, s))
final_is ts initial w u v nc (Closed y s l) (Untouched n e) = absurd (n y (u, s))
final_is ts initial w u v nc (Closed y s l) (Closed z t m) = go (place_cases y z)
  where
    go : (y ≡ z) ⊎ (y ≢ z) → u ≡ v
    go (inl e) = same_value ts w y z u v s t e
    go (inr ne) = absurd (nc y (transitive ts y z y (m y (u, s) ne) (l z (v, t) (λ e. ne (sym e)))))

-- the trace that a place is in
pub record Within (ts : Traces) (x : Place) (e : Entry) : Type 0 where
  pub trace : List Entry
  pub at : slice_get ts x.p ≡ Some trace
  pub entry : slice_get trace x.i ≡ Some e
  pub inside : x.i < length trace

pub within : (ts : Traces) (x : Place) (e : Entry) → Holds ts x e → Within ts x e
within ts x e h = go (slice_get ts x.p) refl
  where
    go : (o : Option (List Entry)) → slice_get ts x.p ≡ o → Within ts x e
    go None f = absurd (let g : entry_at ts x ≡ None = ap (λ o. found_in o x.i) f in cc (g, h))
    go (Some t) f =
        let g : slice_get t x.i ≡ Some e = sym (ap (λ o. found_in o x.i) f) ∙ h in
        record { trace = t; at = f; entry = g; inside = slice_get_within t x.i e g }

pub inside : (ts : Traces) (p i : ℕ) (t : List Entry) → slice_get ts p ≡ Some t → i < length t → (e : Entry) × Holds ts (record { p = p; i = i }) e
inside ts p i t at lt = go (slice_get_cases t i).1
  where
    go : ((x : Entry) × (i < length t) × (slice_get t i ≡ Some x) × (get_or t i x ≡ x)) ⊎ ((length t ≤ i) × (slice_get t i ≡ None)) → (e : Entry) × Holds ts (record { p = p; i = i }) e
    go (inl h) = (h.0, ap (λ o. found_in o i) at ∙ h.2)
    go (inr h) = absurd (omega (arith, h.0))

step_on : (ts : Traces) (p i : ℕ) (t : List Entry) → slice_get ts p ≡ Some t → i + 1 < length t → Edge ts (record { p = p; i = i }) (record { p = p; i = i + 1 })
step_on ts p i t at lt =
    let a = inside ts p i t at (omega arith) in
    let b = inside ts p (i + 1) t at lt in
    Next a.0 b.0 a.1 b.1 refl refl

-- of one processor, a later entry is after
along : (ts : Traces) (p n i : ℕ) (t : List Entry) → slice_get ts p ≡ Some t → i + suc n < length t → Before ts (record { p = p; i = i }) (record { p = p; i = i + suc n })
along ts p zero i t at lt =
    let e : i + 1 ≡ i + suc zero = omega arith in
    subst (λ j. Before ts (record { p = p; i = i }) (record { p = p; i = j })) e (One (step_on ts p i t at (omega arith)))
along ts p (suc n) i t at lt =
    let e : i + 1 + suc n ≡ i + suc (suc n) = omega arith in
    subst (λ j. Before ts (record { p = p; i = i }) (record { p = p; i = j })) e
    (Then (step_on ts p i t at (omega arith)) (along ts p n (i + 1) t at (omega arith)))

pub own_before : (ts : Traces) (x y : Place) → IsEarlier ts x y → Before ts x y
own_before ts x y h =
    let w = within ts y h.there.0 h.there.1 in
    let n = y.i - suc x.i in
    let lt = h.earlier in
    let e : x.i + suc n ≡ y.i = omega (arith, lt) in
    let b = along ts y.p n x.i w.trace w.at (omega (arith, w.inside, e)) in
    subst (λ z. Before ts z y) (same_place (record { p = y.p; i = x.i }) x (sym h.same) refl)
    (subst (λ z. Before ts (record { p = y.p; i = x.i }) z) (same_place (record { p = y.p; i = x.i + suc n }) y refl e) b)

pub edge_ends : (ts : Traces) (x y : Place) → Edge ts x y → ((e : Entry) × Holds ts x e) × ((e : Entry) × Holds ts y e)
edge_ends ts x y (Next e f h g p i) = ((e, h), (f, g))
edge_ends ts x y (Sync o j n e h g wt lt) = ((Signal o j, h), (e, g))

pub end_of : (ts : Traces) (x y : Place) → Before ts x y → (e : Entry) × Holds ts y e
end_of ts x y (One e) = (edge_ends ts x y e).1
end_of ts x y (Then {z = z} e f) = end_of ts z y f

pub start_of : (ts : Traces) (x y : Place) → Before ts x y → (e : Entry) × Holds ts x e
start_of ts x y (One e) = (edge_ends ts x y e).0
start_of ts x y (Then {z = z} e f) = (edge_ends ts x z e).0

-- where there is no circle, before within one processor is earlier
pub own_earlier : (ts : Traces) (x y : Place) → NoCircle ts → Before ts x y → x.p ≡ y.p → x.i < y.i
own_earlier ts x y nc b e = go (cases_order x.i y.i)
  where
    go : (x.i ≡ y.i) ⊎ ((x.i < y.i) ⊎ (y.i < x.i)) → x.i < y.i
    go (inl f) = absurd (nc x (subst (λ z. Before ts x z) (sym (same_place x y e f)) b))
    go (inr (inl lt)) = lt
    go (inr (inr gt)) =
        absurd (nc x (transitive ts x y x b (own_before ts y x (record { same = sym e; earlier = gt; there = start_of ts x y b }))))

only : (t : List Entry) (p i : ℕ) (e : Entry) → found_in (slice_get (t ∷ []) p) i ≡ Some e → p ≡ 0
only t zero i e h = refl
only t (suc p) i e h = absurd (cc h)

pub one_trace : OneTrace
one_trace t x y nc = (
  λ b.
      let s = start_of (t ∷ []) x y b in
      let f = end_of (t ∷ []) x y b in
      let same = only t x.p x.i s.0 s.1 ∙ sym (only t y.p y.i f.0 f.1) in
      record { same = same; earlier = own_earlier (t ∷ []) x y nc b same; there = f },
  own_before (t ∷ []) x y,
)

-- an access is an entry
access_there : (ts : Traces) (w : ℕ) (x : Place) → IsAccess ts w x → (e : Entry) × Holds ts x e
access_there ts w x (v, inl h) = (Load w v, h)
access_there ts w x (v, inr h) = (Store w v, h)

-- of one processor alone, every word is ordered
pub Ordered-one : (t : List Entry) (w : ℕ) → Ordered (t ∷ []) w
Ordered-one t w x y (ne, a, b, s) = go (cases_order x.i y.i)
  where
    same : x.p ≡ y.p
    same =
        let g = access_there (t ∷ []) w x a in
        let h = access_there (t ∷ []) w y b in
        only t x.p x.i g.0 g.1 ∙ sym (only t y.p y.i h.0 h.1)

    go : (x.i ≡ y.i) ⊎ ((x.i < y.i) ⊎ (y.i < x.i)) → Before (t ∷ []) x y ⊎ Before (t ∷ []) y x
    go (inl f) = absurd (ne (same_place x y same f))
    go (inr (inl lt)) = inl (own_before (t ∷ []) x y (record { same = same; earlier = lt; there = access_there (t ∷ []) w y b }))
    go (inr (inr gt)) = inr (own_before (t ∷ []) y x (record { same = sym same; earlier = gt; there = access_there (t ∷ []) w x a }))

pub carried : SignalThenPass
carried ts rank x y r (One (Next e f h g p i)) ne = absurd (ne (sym p))
carried ts rank x y r (One (Sync o j n e h g wt lt)) ne =
    record {
      from = x;
      to = y;
      from_own = refl;
      from_after = omega arith;
      signal = (o, j, h);
      to_own = refl;
      to_before = omega arith;
      pass = (e, o, n, g, wt);
      above = omega arith;
      rises = r x y (Sync o j n e h g wt lt);
      below = omega arith;
    }
carried ts rank x y r (Then {z = z} (Next e f h g p i) b) ne =
    let c = carried ts rank z y r b (λ q. ne (sym p ∙ q)) in
    let up = r x z (Next e f h g p i) in
    record {
      from = c.from;
      to = c.to;
      from_own = c.from_own ∙ p;
      from_after = omega (arith, c.from_after, i);
      signal = c.signal;
      to_own = c.to_own;
      to_before = c.to_before;
      pass = c.pass;
      above = omega (arith, c.above, up);
      rises = c.rises;
      below = c.below;
    }
carried ts rank x y r (Then {z = z} (Sync o j n e h g wt lt) b) ne = go (cases_eq z.p y.p) (λ q. carried ts rank z y r b q)
  where
    up : rank x < rank z
    up = r x z (Sync o j n e h g wt lt)

    on : rank z < rank y
    on = raised ts rank z y r b

    go : (z.p ≡ y.p) ⊎ (z.p ≡ y.p → ⊥) → (z.p ≢ y.p → Carried ts rank z y) → Carried ts rank x y
    go (inl q) ih =
        let f = own_earlier ts z y (rank_excludes ts rank r) b q in
        record {
          from = x;
          to = z;
          from_own = refl;
          from_after = omega arith;
          signal = (o, j, h);
          to_own = q;
          to_before = omega (arith, f);
          pass = (e, o, n, g, wt);
          above = omega arith;
          rises = up;
          below = omega (arith, on);
        }
    go (inr q) ih =
        let d = ih q in
        record {
          from = x;
          to = d.to;
          from_own = refl;
          from_after = omega arith;
          signal = (o, j, h);
          to_own = d.to_own;
          to_before = d.to_before;
          pass = d.pass;
          above = omega arith;
          rises = omega (arith, up, d.above, d.rises);
          below = d.below;
        }
