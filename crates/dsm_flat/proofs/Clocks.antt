-- Clocks of places.
use Rattle.std.proofs.Common.{◌≡◌, ◌≢◌, ℕ, zero, suc, ◌+◌, ◌<◌, ◌≤◌, ◌⊎◌, List, Option, None, Some, length, refl, sym, ap, subst, inl, inr, arith}
use Rattle.std.specs.Prelude.{slice_get, slice_index}
use Rattle.std.proofs.lemmas.Bool.{cases_eq, cases_order, cases_lt}
use Rattle.std.proofs.lemmas.Option.{slice_get_within}
use Rattle.dsm_entry.specs.declared.entry.Obj.{Obj}
use Rattle.dsm_entry.specs.declared.entry.Entry.{Entry}
use Rattle.dsm_entry.specs.declared.entry.Place.{Place}
use Rattle.dsm_flat.specs.Order.{Traces, Holds, Waits, Edge, Next, Sync, Before, One, Then}
use Rattle.dsm_flat.specs.Clocks.{Counted, IsPut, UpTo, IsClock, IsPast, FromPrevious, FromSignals, BeforeByEdges, ClockOfPast, ClockTells, ClockIsDetermined, next_of, IsLeft, NotAllBlocked}
use Rattle.dsm_flat.proofs.OrderLaws.{transitive, same_place, within, own_before, own_earlier, start_of}

pub up_then : (ts : Traces) (x z y : Place) → UpTo ts z x → Before ts z y → Before ts x y
up_then ts x z y (inl s) b = subst (λ a. Before ts a y) (sym s) b
up_then ts x z y (inr a) b = transitive ts x z y a b

-- the last edge of a chain
pub last_edge : (ts : Traces) (x y : Place) → Before ts x y → (z : Place) × Edge ts z y × UpTo ts z x
last_edge ts x y (One e) = (x, e, inl refl)
last_edge ts x y (Then {z = u} e f) = let r = last_edge ts u y f in (r.0, r.1, inr (go r.0 r.2))
  where
    go : (z : Place) → UpTo ts z u → Before ts x z
    go z (inl s) = subst (λ a. Before ts x a) s (One e)
    go z (inr b) = Then e b

pub by_edges : BeforeByEdges
by_edges ts x y e h = (λ b. let r = last_edge ts x y b in sort r.0 r.1 r.2, back)
  where
    sort : (z : Place) → Edge ts z y → UpTo ts z x → FromPrevious ts y x ⊎ ((o : Obj) × (n : ℕ) × Waits e o n × FromSignals ts o n x)
    sort z (Next d f k g p i) u = inl (z, sym p, i, u)
    sort z (Sync o j n f k g w lt) u =
        let same : f ≡ e = cc (g, h) in
        inr (o, n, subst (λ a. Waits a o n) same w, (z, j, k, lt, u))

    back : FromPrevious ts y x ⊎ ((o : Obj) × (n : ℕ) × Waits e o n × FromSignals ts o n x) → Before ts x y
    back (inl (z, p, i, u)) = up_then ts x z y u (own_before ts z y (record { same = p; earlier = omega (arith, i); there = (e, h) }))
    back (inr (o, n, w, (z, j, k, lt, u))) = up_then ts x z y u (One (Sync o j n e k h w lt))

-- a processor that has an entry has a trace
pub has_trace : (ts : Traces) (y : Place) (e : Entry) → Holds ts y e → y.p < length ts
has_trace ts y e h = let w = within ts y e h in slice_get_within ts y.p w.trace w.at

-- a number is the one that was put, or an old one
pub put_at : (old new : List ℕ) (p n : ℕ) → IsPut old p n new → (q : ℕ) → ((p ≡ q) × (slice_index new q ≡ n)) ⊎ ((p ≢ q) × (slice_index new q ≡ slice_index old q))
put_at old new p n h q = go (cases_eq p q)
  where
    go : (p ≡ q) ⊎ (p ≡ q → ⊥) → ((p ≡ q) × (slice_index new q ≡ n)) ⊎ ((p ≢ q) × (slice_index new q ≡ slice_index old q))
    go (inl e) = inl (e, subst (λ z. slice_index new z ≡ n) e h.own)
    go (inr d) = inr (d, h.others q (λ e. d (sym e)))

-- with one entry more of its own processor, what counts the entries before a place, none of which is behind it in its trace, is its clock
pub clock_of : (ts : Traces) (y : Place) (e : Entry) (past clock : List ℕ) → ((x : Place) → Before ts x y → x.p ≡ y.p → x.i < y.i) → Holds ts y e → IsPast ts y past → IsPut past y.p (y.i + 1) clock → IsClock ts y clock
clock_of ts y e past clock earlier h g put x = (counted (put_at past clock y.p (y.i + 1) put x.p), up (put_at past clock y.p (y.i + 1) put x.p))
  where
    counted : ((y.p ≡ x.p) × (slice_index clock x.p ≡ y.i + 1)) ⊎ ((y.p ≢ x.p) × (slice_index clock x.p ≡ slice_index past x.p)) → Counted clock x → UpTo ts y x
    counted (inl k) c = go (cases_order x.i y.i)
      where
        go : (x.i ≡ y.i) ⊎ ((x.i < y.i) ⊎ (y.i < x.i)) → UpTo ts y x
        go (inl i) = inl (same_place x y (sym k.0) i)
        go (inr (inl lt)) = inr (own_before ts x y (record { same = sym k.0; earlier = lt; there = (e, h) }))
        go (inr (inr gt)) = absurd (omega (arith, gt, c, k.1))
    counted (inr k) c = inr ((g x).0 (omega (arith, c, k.1)))

    up : ((y.p ≡ x.p) × (slice_index clock x.p ≡ y.i + 1)) ⊎ ((y.p ≢ x.p) × (slice_index clock x.p ≡ slice_index past x.p)) → UpTo ts y x → Counted clock x
    up (inl k) (inl s) = let i : x.i ≡ y.i = ap (λ z. z.i) s in omega (arith, i, k.1)
    up (inl k) (inr b) = let lt = earlier x b (sym k.0) in omega (arith, lt, k.1)
    up (inr k) (inl s) = absurd (k.0 (sym (ap (λ z. z.p) s)))
    up (inr k) (inr b) = let c = (g x).1 b in omega (arith, c, k.1)

pub clock_of_past : ClockOfPast
clock_of_past ts y e past clock nc = clock_of ts y e past clock (λ x b p. own_earlier ts x y nc b p)

pub clock_tells : ClockTells
clock_tells ts x y clock g ne = (λ c. go ((g x).0 c), λ b. (g x).1 (inr b))
  where
    go : UpTo ts y x → Before ts x y
    go (inl s) = absurd (ne s)
    go (inr b) = b

-- one clock has no more of a processor than another of the same place
not_more : (ts : Traces) (y : Place) (a b : List ℕ) → IsClock ts y a → IsClock ts y b → (q : ℕ) → slice_index a q ≤ slice_index b q
not_more ts y a b f g q = go (cases_lt (slice_index b q) (slice_index a q))
  where
    x : Place
    x = record { p = q; i = slice_index b q }

    go : (slice_index b q < slice_index a q) ⊎ (slice_index a q ≤ slice_index b q) → slice_index a q ≤ slice_index b q
    go (inr le) = le
    go (inl lt) = let c : slice_index b q < slice_index b q = (g x).1 ((f x).0 lt) in absurd (omega (arith, c))

pub clock_is_determined : ClockIsDetermined
clock_is_determined ts y a b f g q = let u = not_more ts y a b f g q in let v = not_more ts y b a g f q in omega (arith, u, v)

-- among finitely many numbers, of which each that is left has one before it, none is left
module _ (R : ℕ → ℕ → Type 0) (L : ℕ → Type 0) (left_or_not : (q : ℕ) → L q ⊎ (L q → ⊥)) (chain : (a b c : ℕ) → R a b → R b c → R a c) (strict : (a : ℕ) → R a a → ⊥) where
  pub none_left : (m : ℕ) → ((q : ℕ) → q < m → L q → (r : ℕ) × (r < m) × L r × R r q) → (q : ℕ) → q < m → L q → ⊥
  none_left zero f q lt l = absurd (omega (arith, lt))
  none_left (suc m) f q lt l = pick (left_or_not m) (none_left m)
    where
      pick : L m ⊎ (L m → ⊥) → (((q : ℕ) → q < m → L q → (r : ℕ) × (r < m) × L r × R r q) → (q : ℕ) → q < m → L q → ⊥) → ⊥
      pick (inr no_m) rest = rest g q (below q lt l) l
        where
          below : (r : ℕ) → r < suc m → L r → r < m
          below r lt l = go (cases_eq r m)
            where
              go : (r ≡ m) ⊎ (r ≡ m → ⊥) → r < m
              go (inl s) = absurd (no_m (subst L s l))
              go (inr d) = omega (arith, lt, d)

          g : (q : ℕ) → q < m → L q → (r : ℕ) × (r < m) × L r × R r q
          g q lt l = let s = f q (omega (arith, lt)) l in (s.0, below s.0 s.1 s.2, s.2, s.3)
      pick (inl m_left) rest = rest g first.0 first.1 first.2
        where
          first : (r : ℕ) × (r < m) × L r × R r m
          first = let s = f m (omega arith) m_left in go s.0 s.1 s.2 s.3 (cases_eq s.0 m)
            where
              go : (r : ℕ) → r < suc m → L r → R r m → (r ≡ m) ⊎ (r ≡ m → ⊥) → (r : ℕ) × (r < m) × L r × R r m
              go r lt l b (inl s) = absurd (strict m (subst (λ z. R z m) s b))
              go r lt l b (inr d) = (r, omega (arith, lt, d), l, b)

          g : (q : ℕ) → q < m → L q → (r : ℕ) × (r < m) × L r × R r q
          g q lt l = let s = f q (omega (arith, lt)) l in go s.0 s.1 s.2 s.3 (cases_eq s.0 m)
            where
              go : (r : ℕ) → r < suc m → L r → R r q → (r ≡ m) ⊎ (r ≡ m → ⊥) → (r : ℕ) × (r < m) × L r × R r q
              go r lt l b (inl s) = (first.0, first.1, first.2, chain first.0 m q first.3 (subst (λ z. R z q) s b))
              go r lt l b (inr d) = (r, omega (arith, lt, d), l, b)

-- a processor has an entry left, or not
left_or_not : (ts : Traces) (done : List ℕ) (q : ℕ) → IsLeft ts done q ⊎ (IsLeft ts done q → ⊥)
left_or_not ts done q = go (slice_get ts q) refl
  where
    go : (o : Option (List Entry)) → slice_get ts q ≡ o → IsLeft ts done q ⊎ (IsLeft ts done q → ⊥)
    go None s = inr (λ l. let a = l.1 in absurd (cc (a, s)))
    go (Some t) s = pick (cases_lt (slice_index done q) (length t))
      where
        pick : (slice_index done q < length t) ⊎ (length t ≤ slice_index done q) → IsLeft ts done q ⊎ (IsLeft ts done q → ⊥)
        pick (inl lt) = inl (t, s, lt)
        pick (inr le) = inr (λ l. let same : t ≡ l.0 = (let a = l.1 in cc (a, s)) in let n : length t ≡ length l.0 = ap length same in let lt = l.2 in absurd (omega (arith, n, le, lt)))

pub not_all_blocked : NotAllBlocked
not_all_blocked ts done p nc l f =
    none_left (λ a b. Before ts (next_of done a) (next_of done b)) (IsLeft ts done) (left_or_not ts done)
    (λ a b c. transitive ts (next_of done a) (next_of done b) (next_of done c)) (λ a. nc (next_of done a)) (length ts) g p (slice_get_within ts p l.0 l.1) l
  where
    -- what blocks q is behind the next entry of its own processor, or is that
    source : (q : ℕ) (z : Place) → Edge ts z (next_of done q) → (Counted done z → ⊥) → (r : ℕ) × (r < length ts) × IsLeft ts done r × Before ts (next_of done r) (next_of done q)
    source q z e no_z =
        let s = start_of ts z (next_of done q) (One e) in
        let w = within ts z s.0 s.1 in
        (z.p, has_trace ts z s.0 s.1, (w.trace, w.at, omega (arith, le, w.inside)), go (cases_eq (slice_index done z.p) z.i) s)
      where
        le : slice_index done z.p ≤ z.i
        le = pick (cases_lt z.i (slice_index done z.p))
          where
            pick : (z.i < slice_index done z.p) ⊎ (slice_index done z.p ≤ z.i) → slice_index done z.p ≤ z.i
            pick (inl lt) = absurd (no_z lt)
            pick (inr le) = le

        go : (slice_index done z.p ≡ z.i) ⊎ (slice_index done z.p ≡ z.i → ⊥) → (e : Entry) × Holds ts z e → Before ts (next_of done z.p) (next_of done q)
        go (inl i) there = subst (λ a. Before ts a (next_of done q)) (same_place z (next_of done z.p) refl (sym i)) (One e)
        go (inr d) there = transitive ts (next_of done z.p) z (next_of done q) (own_before ts (next_of done z.p) z (record { same = refl; earlier = omega (arith, le, d); there = there })) (One e)

    g : (q : ℕ) → q < length ts → IsLeft ts done q → (r : ℕ) × (r < length ts) × IsLeft ts done r × Before ts (next_of done r) (next_of done q)
    g q lt l = let b = f q l in source q b.0 b.1 b.2
