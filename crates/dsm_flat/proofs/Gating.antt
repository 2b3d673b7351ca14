-- Signals that are visited, and the clocks that they leave for passes.
use Rattle.std.proofs.Common.{◌≡◌, ◌≢◌, ℕ, zero, suc, ◌+◌, ◌-◌, ◌<◌, ◌≤◌, ◌⊎◌, List, [], ◌∷◌, Some, None, false, length, refl, sym, ap, ◌∙◌, subst, inl, inr, arith}
use Rattle.std.specs.Prelude.{◌↔◌, slice_get, slice_index, slice_index_or, slice_set}
use Rattle.std.specs.List.{Contains}
use Rattle.std.proofs.Math.Dec.{leb}
use Rattle.std.proofs.lemmas.Bool.{cases_eq, cases_lt, le-leb}
use Rattle.std.proofs.lemmas.List.{length-set}
use Rattle.std.proofs.lemmas.Grind.{get_or_default_zero}
use Rattle.std.proofs.lemmas.Option.{slice_get_within, slice_get_read, get_or_from_slice_get, same_Some}
use Rattle.std.specs.List.{dedup}
use Rattle.std.specs.Ordering.{nat_cmp}
use Rattle.std.specs.List.Sorted.{IsPermutation, IsNonDecreasingBy, IsSorted, IsStrictlyIncreasing}
use Rattle.std.proofs.lemmas.List.Sorted.{Contains-permutation, IsPermutation-sym}
use Rattle.std.proofs.lemmas.List.Kept.{Contains-dedup_nat}
use Rattle.std.proofs.lemmas.Map.Keys.{IsStrictlyIncreasing-dedup}
use Rattle.std.proofs.Math.Dec.{eqb}
use Rattle.dsm_entry.specs.declared.entry.Obj.{Obj}
use Rattle.dsm_entry.specs.declared.entry.Entry.{Entry}
use Rattle.dsm_entry.specs.declared.entry.Entry.TheVariants.{Signal, Pass}
use Rattle.dsm_entry.specs.declared.entry.Place.{Place}
use Rattle.dsm_flat.specs.declared.gate.Mark.{Mark}
use Rattle.dsm_flat.specs.Order.{Traces, Holds}
use Rattle.dsm_flat.specs.Clocks.{Counted, UpTo, FromSignals, IsUnion}
use Rattle.dsm_flat.specs.Judge.{IsBelow}
use Rattle.dsm_flat.specs.Accesses.{first_place}
use Rattle.dsm_flat.specs.Racing.{IsVisit, CountsNone}
use Rattle.dsm_flat.specs.Visits.{AreVisited, IsWaiting}
use Rattle.dsm_flat.specs.Gates.{Rises, IsFirstAbove, IsSeen, IsJoinedAt, AreSigns, in_front, FromBetween, IsGate}
use Rattle.dsm_flat.proofs.Clocks.{has_trace}

-- one item is put, and the others stay
pub get_set : {A : Type 0} (xs : List A) (k m : ℕ) (new a : A) → slice_get (slice_set xs k new) m ≡ Some a → ((m ≡ k) × (a ≡ new) × (m < length xs)) ⊎ ((m ≢ k) × (slice_get xs m ≡ Some a))
get_set [] k m new a h = absurd (cc h)
get_set (x ∷ xs) zero zero new a h = inl (refl, sym (same_Some new a h), omega arith)
get_set (x ∷ xs) zero (suc m) new a h = inr ((λ e. absurd (omega (arith, e))), h)
get_set (x ∷ xs) (suc k) zero new a h = inr ((λ e. absurd (omega (arith, e))), h)
get_set (x ∷ xs) (suc k) (suc m) new a h = go (get_set xs k m new a h)
  where
    go : ((m ≡ k) × (a ≡ new) × (m < length xs)) ⊎ ((m ≢ k) × (slice_get xs m ≡ Some a)) → ((suc m ≡ suc k) × (a ≡ new) × (suc m < suc (length xs))) ⊎ ((suc m ≢ suc k) × (slice_get xs m ≡ Some a))
    go (inl g) = inl (ap suc g.0, g.1, omega (arith, g.2))
    go (inr g) = inr ((λ e. g.0 (omega (arith, e))), g.1)

pub contains_at : {A : Type 0} (xs : List A) (k : ℕ) (x : A) → slice_get xs k ≡ Some x → Contains xs x
contains_at xs k x h = (k, slice_get_within xs k x h, get_or_from_slice_get xs k x x h)

pub at_contained : {A : Type 0} (xs : List A) (x : A) → Contains xs x → (k : ℕ) × (slice_get xs k ≡ Some x)
at_contained xs x c = (c.0, slice_get_read xs (length xs) c.0 x refl c.1 (sym c.2))

no_hole : {A : Type 0} (xs : List A) (k : ℕ) → k < length xs → slice_get xs k ≡ None → ⊥
no_hole [] k lt h = absurd (omega (arith, lt))
no_hole (x ∷ xs) zero lt h = absurd (cc h)
no_hole (x ∷ xs) (suc k) lt h = no_hole xs k (omega (arith, lt)) h

-- what is above, where the test fails
pub not_le : (n j : ℕ) → leb n j ≡ false → j < n
not_le n j f = go (cases_lt j n)
  where
    go : (j < n) ⊎ (n ≤ j) → j < n
    go (inl lt) = lt
    go (inr le) = let t = le-leb n j le in absurd (cc (t, f))

-- numbers that rise don't fall
pub rises_by_index : (counts : List ℕ) → Rises counts → (i j : ℕ) (d : ℕ) → i ≤ j → j < length counts → slice_index_or counts i d ≤ slice_index_or counts j d
rises_by_index counts r i j d le lt = go (cases_eq i j)
  where
    go : (i ≡ j) ⊎ (i ≡ j → ⊥) → slice_index_or counts i d ≤ slice_index_or counts j d
    go (inl e) = let s : slice_index_or counts i d ≡ slice_index_or counts j d = ap (λ z. slice_index_or counts z d) e in omega (arith, s)
    go (inr n) = let s = r i j (omega (arith, le, n)) lt in omega (arith, s, get_or_default_zero counts i d (omega (arith, le, lt)), get_or_default_zero counts j d lt)

-- a signal has one number
signal_number : (ts : Traces) (y : Place) (o : Obj) (i j : ℕ) → Holds ts y (Signal o i) → Holds ts y (Signal o j) → i ≡ j
signal_number ts y o i j h k = cc (h, k)

in_front_next : (counts : List ℕ) (k : ℕ) → slice_index counts k ≡ in_front counts (k + 1)
in_front_next counts k = let e : suc k ≡ k + 1 = omega arith in ap (λ m. in_front counts m) e

-- the count in front of an index is below the count there, and not below any further in front
front_below : (counts : List ℕ) (k : ℕ) → Rises counts → k < length counts → (k ≡ 0) ⊎ (in_front counts k < slice_index counts k)
front_below counts zero r lt = inl refl
front_below counts (suc k) r lt = inr (r k (suc k) (omega arith) lt)

not_in_front : (counts : List ℕ) (k m : ℕ) → Rises counts → k < m → m ≤ length counts → slice_index counts k ≤ in_front counts m
not_in_front counts k zero r lt le = absurd (omega (arith, lt))
not_in_front counts k (suc m) r lt le = go (cases_eq k m)
  where
    go : (k ≡ m) ⊎ (k ≡ m → ⊥) → slice_index counts k ≤ slice_index counts m
    go (inl e) = let s : slice_index counts k ≡ slice_index counts m = ap (λ z. slice_index counts z) e in omega (arith, s)
    go (inr d) = let s = r k m (omega (arith, lt, d)) (omega (arith, le)) in omega (arith, s)

module _ (ts : Traces) (done : List ℕ) (o : Obj) (signals : List Mark) (seen : ℕ) (counts : List ℕ) (clocks : List (List ℕ)) (closed : ℕ) (all : List ℕ) (g : IsGate ts done o signals seen counts clocks closed all) where
  -- signals below a count come from below the count in front of it, or from between the two
  split : (k : ℕ) → k < length counts → AreVisited ts o done (slice_index counts k) → (x : Place) → FromSignals ts o (slice_index counts k) x ↔ (FromSignals ts o (in_front counts k) x ⊎ FromBetween ts o done counts k x)
  split k lt v x = (forth, back)
    where
      forth : FromSignals ts o (slice_index counts k) x → FromSignals ts o (in_front counts k) x ⊎ FromBetween ts o done counts k x
      forth (z, j, h, less, u) = go (cases_lt j (in_front counts k))
        where
          go : (j < in_front counts k) ⊎ (in_front counts k ≤ j) → FromSignals ts o (in_front counts k) x ⊎ FromBetween ts o done counts k x
          go (inl b) = inl (z, j, h, b, u)
          go (inr b) = inr (z, j, h, b, less, v z j h less, u)

      back : FromSignals ts o (in_front counts k) x ⊎ FromBetween ts o done counts k x → FromSignals ts o (slice_index counts k) x
      back (inl (z, j, h, less, u)) = go (front_below counts k g.rising lt)
        where
          go : (k ≡ 0) ⊎ (in_front counts k < slice_index counts k) → FromSignals ts o (slice_index counts k) x
          go (inl e) = let none : in_front counts k ≡ 0 = ap (λ m. in_front counts m) e in absurd (omega (arith, less, none))
          go (inr b) = (z, j, h, omega (arith, less, b), u)
      back (inr (z, j, h, b, less, c, u)) = (z, j, h, less, u)

  -- the next clock is closed: it counts the signals below its count
  pub closes : (here all' here' : List ℕ) → closed < length clocks → slice_get clocks closed ≡ Some here → AreVisited ts o done (slice_index counts closed) → IsUnion all here all' → IsUnion here all' here'
      → IsGate ts done o signals seen counts (slice_set clocks closed here') (closed + 1) all'
  closes here all' here' lt at v union union' =
      record {
        signal = g.signal;
        only = g.only;
        pass = g.pass;
        by_number = g.by_number;
        rising = g.rising;
        len = length-set clocks closed here' ∙ g.len;
        visited = g.visited;
        unvisited = g.unvisited;
        within = omega (arith, inside);
        behind = λ k less. behind k less (cases_eq k closed);
        first = λ k clock less h. first k clock less (get_set clocks closed k here' clock h);
        others = λ k clock le h. others k clock le (get_set clocks closed k here' clock h);
        all_is = λ x. rw (in_front_next counts closed) at (all_now x);
      }
    where
      inside : closed < length counts
      inside = omega (arith, lt, g.len)

      all_now : (x : Place) → Counted all' x ↔ FromSignals ts o (slice_index counts closed) x
      all_now x = (λ c. (split closed inside v x).1 (forth ((union x).0 c)), λ f. (union x).1 (back ((split closed inside v x).0 f)))
        where
          forth : Counted all x ⊎ Counted here x → FromSignals ts o (in_front counts closed) x ⊎ FromBetween ts o done counts closed x
          forth (inl c) = inl ((g.all_is x).0 c)
          forth (inr c) = inr ((g.others closed here (omega arith) at x).0 c)

          back : FromSignals ts o (in_front counts closed) x ⊎ FromBetween ts o done counts closed x → Counted all x ⊎ Counted here x
          back (inl f) = inl ((g.all_is x).1 f)
          back (inr f) = inr ((g.others closed here (omega arith) at x).1 f)

      here_now : (x : Place) → Counted here' x ↔ FromSignals ts o (slice_index counts closed) x
      here_now x = (λ c. forth ((union' x).0 c), λ f. (union' x).1 (inr ((all_now x).1 f)))
        where
          forth : Counted here x ⊎ Counted all' x → FromSignals ts o (slice_index counts closed) x
          forth (inl c) = (all_now x).0 ((union x).1 (inr c))
          forth (inr c) = (all_now x).0 c

      behind : (k : ℕ) → k < closed + 1 → (k ≡ closed) ⊎ (k ≡ closed → ⊥) → AreVisited ts o done (slice_index counts k)
      behind k less (inl e) = subst (λ m. AreVisited ts o done (slice_index counts m)) (sym e) v
      behind k less (inr d) = g.behind k (omega (arith, less, d))

      first : (k : ℕ) (clock : List ℕ) → k < closed + 1 → ((k ≡ closed) × (clock ≡ here') × (k < length clocks)) ⊎ ((k ≢ closed) × (slice_get clocks k ≡ Some clock)) → (x : Place) → Counted clock x ↔ FromSignals ts o (slice_index counts k) x
      first k clock less (inl e) x = rw (e.0, e.1) (here_now x)
      first k clock less (inr d) x = g.first k clock (omega (arith, less, d.0)) d.1 x

      others : (k : ℕ) (clock : List ℕ) → closed + 1 ≤ k → ((k ≡ closed) × (clock ≡ here') × (k < length clocks)) ⊎ ((k ≢ closed) × (slice_get clocks k ≡ Some clock)) → (x : Place) → Counted clock x ↔ FromBetween ts o done counts k x
      others k clock le (inl e) x = absurd (omega (arith, le, e.0))
      others k clock le (inr d) x = g.others k clock (omega (arith, le)) d.1 x

  -- the signal in front of all that are not visited tells of a count above it that some signal below it is not visited,
  pub waits : (m : Mark) → slice_get signals seen ≡ Some m → (c : ℕ) → m.j < c → IsWaiting ts o done c
  waits m at c lt = (m.place, m.j, g.only m (contains_at signals seen m at), lt, g.unvisited m at)

  -- and of another that all are
  pub opens : (m : Mark) → slice_get signals seen ≡ Some m → (c : ℕ) → c ≤ m.j → AreVisited ts o done c
  opens m at c le z j h lt = go (cases_lt k.0 seen)
    where
      k : (k : ℕ) × (slice_get signals k ≡ Some (record { j = j; place = z }))
      k = at_contained signals (record { j = j; place = z }) (g.signal z j h)

      go : (k.0 < seen) ⊎ (seen ≤ k.0) → Counted done z
      go (inl less) = g.visited k.0 (record { j = j; place = z }) less k.1
      go (inr more) = pick (cases_eq seen k.0)
        where
          pick : (seen ≡ k.0) ⊎ (seen ≡ k.0 → ⊥) → Counted done z
          pick (inl e) =
              let same : m ≡ record { j = j; place = z } = same_Some m (record { j = j; place = z }) (sym at ∙ (ap (λ n. slice_get signals n) e ∙ k.1)) in
              let number : m.j ≡ j = ap (λ n. n.j) same in
              absurd (omega (arith, number, le, lt))
          pick (inr d) = let above = g.by_number seen k.0 m (record { j = j; place = z }) (omega (arith, more, d)) at k.1 in absurd (omega (arith, above, le, lt))

  -- where no signal is in front, all are visited
  pub opens_all : slice_get signals seen ≡ None → (c : ℕ) → AreVisited ts o done c
  opens_all none c z j h lt = go (cases_lt k.0 seen)
    where
      k : (k : ℕ) × (slice_get signals k ≡ Some (record { j = j; place = z }))
      k = at_contained signals (record { j = j; place = z }) (g.signal z j h)

      go : (k.0 < seen) ⊎ (seen ≤ k.0) → Counted done z
      go (inl less) = g.visited k.0 (record { j = j; place = z }) less k.1
      go (inr more) = absurd (past (cases_lt seen (length signals)))
        where
          past : (seen < length signals) ⊎ (length signals ≤ seen) → ⊥
          past (inl lt) = no_hole signals seen lt none
          past (inr le) = let w = slice_get_within signals k.0 (record { j = j; place = z }) k.1 in absurd (omega (arith, w, le, more))

  -- the count of a pass is the last that is not above it
  pub last_is : (y : Place) (c n : ℕ) → Holds ts y (Pass o c) → IsFirstAbove counts c n → (k : ℕ) × (n ≡ k + 1) × (k < length counts) × (slice_index counts k ≡ c)
  last_is y c n h f = (n - 1, omega (arith, up), omega (arith, up, f.within), level (cases_eq m (n - 1)))
    where
      h' : Contains counts c
      h' = g.pass y c h

      m : ℕ
      m = h'.0

      at : slice_index counts m ≡ c
      at = sym (get_or_default_zero counts m c h'.1) ∙ h'.2

      up : m < n
      up = go (cases_lt m n)
        where
          go : (m < n) ⊎ (n ≤ m) → m < n
          go (inl lt) = lt
          go (inr le) = absurd (omega (arith, f.above m le h'.1, at))

      level : (m ≡ n - 1) ⊎ (m ≡ n - 1 → ⊥) → slice_index counts (n - 1) ≡ c
      level (inl e) = ap (λ k. slice_index counts k) (sym e) ∙ at
      level (inr d) = absurd (omega (arith, at, g.rising m (n - 1) (omega (arith, d, up)) (omega (arith, up, f.within)), f.below (n - 1) (omega (arith, up))))

  -- a clock with that of the count of a pass has the signals that the pass stands behind
  pub passes : (c k : ℕ) (here own past : List ℕ) → slice_index counts k ≡ c → k < closed → slice_get clocks k ≡ Some here → IsUnion own here past → (x : Place) → Counted past x ↔ (Counted own x ⊎ FromSignals ts o c x)
  passes c k here own past e lt at union x = (λ h. forth ((union x).0 h), λ h. (union x).1 (back h))
    where
      forth : Counted own x ⊎ Counted here x → Counted own x ⊎ FromSignals ts o c x
      forth (inl h) = inl h
      forth (inr h) = inr (subst (λ n. FromSignals ts o n x) e ((g.first k here lt at x).0 h))

      back : Counted own x ⊎ FromSignals ts o c x → Counted own x ⊎ Counted here x
      back (inl h) = inl h
      back (inr h) = inr ((g.first k here lt at x).1 (subst (λ n. FromSignals ts o n x) (sym e) h))

  module _ (y : Place) (clock now : List ℕ) (v : IsVisit ts done y clock now) where
    -- y is new
    fresh : Counted done y → ⊥
    fresh c = absurd (omega (arith, c, v.next))

    keep : (x : Place) → Counted done x → Counted now x
    keep x c = (v.one_more x).1 (inl c)

    keep_visited : (c : ℕ) → AreVisited ts o done c → AreVisited ts o now c
    keep_visited c a z j h lt = keep z (a z j h lt)

    -- an entry that is no signal of the object changes nothing
    pub unsignalled : ((j : ℕ) → Holds ts y (Signal o j) → ⊥) → IsGate ts now o signals seen counts clocks closed all
    unsignalled none =
        record {
          signal = g.signal;
          only = g.only;
          pass = g.pass;
          by_number = g.by_number;
          rising = g.rising;
          len = g.len;
          visited = λ k m lt at. keep m.place (g.visited k m lt at);
          unvisited = λ m at c. unvisited m at ((v.one_more m.place).0 c);
          within = g.within;
          behind = λ k lt. keep_visited (slice_index counts k) (g.behind k lt);
          first = g.first;
          others = λ k here le at x. (λ c. forth k x ((g.others k here le at x).0 c), λ f. (g.others k here le at x).1 (back k x f));
          all_is = g.all_is;
        }
      where
        unvisited : (m : Mark) → slice_get signals seen ≡ Some m → Counted done m.place ⊎ (m.place ≡ y) → ⊥
        unvisited m at (inl c) = g.unvisited m at c
        unvisited m at (inr e) = none m.j (subst (λ z. Holds ts z (Signal o m.j)) e (g.only m (contains_at signals seen m at)))

        forth : (k : ℕ) (x : Place) → FromBetween ts o done counts k x → FromBetween ts o now counts k x
        forth k x (z, j, h, lo, hi, c, u) = (z, j, h, lo, hi, keep z c, u)

        back : (k : ℕ) (x : Place) → FromBetween ts o now counts k x → FromBetween ts o done counts k x
        back k x (z, j, h, lo, hi, c, u) = (z, j, h, lo, hi, old ((v.one_more z).0 c), u)
          where
            old : Counted done z ⊎ (z ≡ y) → Counted done z
            old (inl c) = c
            old (inr e) = absurd (none j (subst (λ z. Holds ts z (Signal o j)) e h))

    -- a signal's clock is joined to that of the first count above its number
    module _ (j k : ℕ) (h : Holds ts y (Signal o j)) (f : IsFirstAbove counts j k) (new : List (List ℕ)) (join : IsJoinedAt clocks k clock new) (seen' : ℕ) (s : IsSeen signals now seen seen') where
      -- its count is not closed
      not_closed : closed ≤ k
      not_closed = go (cases_lt k closed)
        where
          go : (k < closed) ⊎ (closed ≤ k) → closed ≤ k
          go (inr le) = le
          go (inl lt) = absurd (fresh (g.behind k lt y j h (f.above k (omega arith) (omega (arith, lt, g.within)))))

      front : in_front counts k ≤ j
      front = go k refl
        where
          go : (n : ℕ) → k ≡ n → in_front counts n ≤ j
          go zero e = omega arith
          go (suc n) e = f.below n (omega (arith, e))

      -- it is between no other counts
      only_there : (m : ℕ) → m < length counts → in_front counts m ≤ j → j < slice_index counts m → m ≡ k
      only_there m lt lo hi = go (cases_lt m k)
        where
          go : (m < k) ⊎ (k ≤ m) → m ≡ k
          go (inl less) = absurd (omega (arith, hi, f.below m less))
          go (inr le) = pick (cases_eq k m)
            where
              pick : (k ≡ m) ⊎ (k ≡ m → ⊥) → m ≡ k
              pick (inl e) = sym e
              pick (inr d) =
                  let above = f.above k (omega arith) (omega (arith, le, lt)) in
                  let more = not_in_front counts k m g.rising (omega (arith, le, d)) (omega (arith, lt)) in
                  absurd (omega (arith, above, more, lo))

      pub signalled : IsGate ts now o signals seen' counts new closed all
      signalled =
          record {
            signal = g.signal;
            only = g.only;
            pass = g.pass;
            by_number = g.by_number;
            rising = g.rising;
            len = join.len ∙ g.len;
            visited = λ i m lt at. visited i m lt at (cases_lt i seen);
            unvisited = s.unvisited;
            within = g.within;
            behind = λ i lt. keep_visited (slice_index counts i) (g.behind i lt);
            first = λ i here lt at. first i here lt (join.each i here at);
            others = λ i here le at. others i here le (slice_get_within new i here at) (join.each i here at);
            all_is = g.all_is;
          }
        where
          visited : (i : ℕ) (m : Mark) → i < seen' → slice_get signals i ≡ Some m → (i < seen) ⊎ (seen ≤ i) → Counted now m.place
          visited i m lt at (inl less) = keep m.place (g.visited i m less at)
          visited i m lt at (inr more) = s.visited i m more lt at

          first : (i : ℕ) (here : List ℕ) → i < closed → ((i ≢ k) × (slice_get clocks i ≡ Some here)) ⊎ ((i ≡ k) × ((old : List ℕ) × (slice_get clocks k ≡ Some old) × IsUnion old clock here)) → (x : Place) → Counted here x ↔ FromSignals ts o (slice_index counts i) x
          first i here lt (inl d) = g.first i here lt d.1
          first i here lt (inr e) = absurd (omega (arith, lt, e.0, not_closed))

          others : (i : ℕ) (here : List ℕ) → closed ≤ i → i < length new → ((i ≢ k) × (slice_get clocks i ≡ Some here)) ⊎ ((i ≡ k) × ((old : List ℕ) × (slice_get clocks k ≡ Some old) × IsUnion old clock here)) → (x : Place) → Counted here x ↔ FromBetween ts o now counts i x
          others i here le lt (inl d) x = (λ c. forth ((g.others i here le d.1 x).0 c), λ b. (g.others i here le d.1 x).1 (back b))
            where
              inside : i < length counts
              inside = omega (arith, lt, join.len, g.len)

              forth : FromBetween ts o done counts i x → FromBetween ts o now counts i x
              forth (z, n, a, lo, hi, c, u) = (z, n, a, lo, hi, keep z c, u)

              back : FromBetween ts o now counts i x → FromBetween ts o done counts i x
              back (z, n, a, lo, hi, c, u) = (z, n, a, lo, hi, old ((v.one_more z).0 c), u)
                where
                  old : Counted done z ⊎ (z ≡ y) → Counted done z
                  old (inl c) = c
                  old (inr e) =
                      let same : n ≡ j = signal_number ts y o n j (subst (λ z. Holds ts z (Signal o n)) e a) h in
                      absurd (d.0 (only_there i inside (omega (arith, lo, same)) (omega (arith, hi, same))))
          others i here le lt (inr (e, (old, at, union))) x = rw e (λ c. forth ((union x).0 c), λ b. (union x).1 (back b))
            where
              inside : k < length counts
              inside = omega (arith, lt, e, join.len, g.len)

              forth : Counted old x ⊎ Counted clock x → FromBetween ts o now counts k x
              forth (inl c) = let b = (g.others k old not_closed at x).0 c in (b.0, b.1, b.2, b.3, b.4, keep b.0 b.5, b.6)
              forth (inr c) = (y, j, h, front, f.above k (omega arith) inside, (v.one_more y).1 (inr refl), (v.clock_is x).0 c)

              back : FromBetween ts o now counts k x → Counted old x ⊎ Counted clock x
              back (z, n, a, lo, hi, c, u) = pick ((v.one_more z).0 c)
                where
                  pick : Counted done z ⊎ (z ≡ y) → Counted old x ⊎ Counted clock x
                  pick (inl c) = inl ((g.others k old not_closed at x).1 (z, n, a, lo, hi, c, u))
                  pick (inr e) = inr ((v.clock_is x).1 (subst (λ z. UpTo ts z x) e u))

-- a clock that is joined at its index
pub joined_there : (clocks : List (List ℕ)) (k : ℕ) (was clock now : List ℕ) → slice_get clocks k ≡ Some was → IsUnion was clock now → IsJoinedAt clocks k clock (slice_set clocks k now)
joined_there clocks k was clock now at union =
    record { len = length-set clocks k now; each = λ m here h. go m here (get_set clocks k m now here h) }
  where
    go : (m : ℕ) (here : List ℕ) → ((m ≡ k) × (here ≡ now) × (m < length clocks)) ⊎ ((m ≢ k) × (slice_get clocks m ≡ Some here))
        → ((m ≢ k) × (slice_get clocks m ≡ Some here)) ⊎ ((m ≡ k) × ((old : List ℕ) × (slice_get clocks k ≡ Some old) × IsUnion old clock here))
    go m here (inl e) = inr (e.0, (was, at, subst (λ c. IsUnion was clock c) (sym e.1) union))
    go m here (inr d) = inl d

-- behind the last index none is
pub joined_nowhere : (clocks : List (List ℕ)) (k : ℕ) (clock : List ℕ) → length clocks ≤ k → IsJoinedAt clocks k clock clocks
joined_nowhere clocks k clock le = record { len = refl; each = λ m here h. let w = slice_get_within clocks m here h in inl ((λ e. absurd (omega (arith, w, le, e))), h) }

-- numbers that rise from each to the next rise
pub rises_by_step : (counts : List ℕ) → IsStrictlyIncreasing counts → Rises counts
rises_by_step counts s k m lt inside = go (m - suc k) m (omega (arith, lt)) inside
  where
    go : (n m : ℕ) → m ≡ k + 1 + n → m < length counts → slice_index counts k < slice_index counts m
    go zero m e inside = let f : k + 1 ≡ m = omega (arith, e) in subst (λ i. slice_index counts k < slice_index counts i) f (s k (omega (arith, e, inside)))
    go (suc n) m e inside =
        let f : k + 1 + n + 1 ≡ m = omega (arith, e) in
        let less = go n (k + 1 + n) refl (omega (arith, e, inside)) in
        let next = s (k + 1 + n) (omega (arith, e, inside)) in
        subst (λ i. slice_index counts k < slice_index counts i) f (omega (arith, less, next))

-- every place with an entry is below the end of all traces
pub below_end : (ts : Traces) (x : Place) (e : Entry) → Holds ts x e → IsBelow x (first_place (length ts))
below_end ts x e h = inl (has_trace ts x e h)

-- in order, signals and counts are an object of which nothing is used
pub ordered : (ts : Traces) (done : List ℕ) (o : Obj) (signals sorted : List Mark) (counts rising distinct : List ℕ) (clocks : List (List ℕ)) → CountsNone done → AreSigns ts o (first_place (length ts)) signals counts
    → IsPermutation signals sorted → IsNonDecreasingBy (λ m. m.j) sorted → IsPermutation counts rising → IsSorted nat_cmp rising → distinct ≡ dedup eqb rising
    → length clocks ≡ length distinct → ((k : ℕ) (clock : List ℕ) → slice_get clocks k ≡ Some clock → clock ≡ []) → IsGate ts done o sorted 0 distinct clocks 0 []
ordered ts done o signals sorted counts rising distinct clocks none g moved by moved_counts up is len empty =
    record {
      signal = λ x j h. Contains-permutation signals sorted (record { j = j; place = x }) moved (g.signal x j h (below_end ts x (Signal o j) h));
      only = λ m h. g.only m (Contains-permutation sorted signals m (IsPermutation-sym signals sorted moved) h);
      pass = λ x c h. subst (λ cs. Contains cs c) (sym is) (Contains-dedup_nat rising c (Contains-permutation counts rising c moved_counts (g.pass x c h (below_end ts x (Pass o c) h))));
      by_number = λ k m a b lt p q. number k m a b lt p q;
      rising = subst Rises (sym is) (rises_by_step (dedup eqb rising) (IsStrictlyIncreasing-dedup rising up));
      len = len;
      visited = λ k m lt. absurd (omega (arith, lt));
      unvisited = λ m at c. absurd (omega (arith, c, none m.place.p));
      within = omega arith;
      behind = λ k lt. absurd (omega (arith, lt));
      first = λ k clock lt. absurd (omega (arith, lt));
      others = λ k clock le at x. ((λ c. absurd (no_count clock (empty k clock at) x c)), λ f. let c = f.5 in absurd (omega (arith, c, none f.0.p)));
      all_is = λ x. ((λ c. absurd (no_count [] refl x c)), λ f. let lt = f.3 in absurd (omega (arith, lt)));
    }
  where
    no_count : (clock : List ℕ) → clock ≡ [] → (x : Place) → Counted clock x → ⊥
    no_count clock e x c = let zero : slice_index clock x.p ≡ 0 = ap (λ xs. slice_index xs x.p) e in absurd (omega (arith, c, zero))

    number : (k m : ℕ) (a b : Mark) → k < m → slice_get sorted k ≡ Some a → slice_get sorted m ≡ Some b → a.j ≤ b.j
    number k m a b lt p q =
        let h = by k m a (omega (arith, lt)) (slice_get_within sorted m b q) in
        let s : (slice_index_or sorted k a).j ≡ a.j = ap (λ z. z.j) (get_or_from_slice_get sorted k a a p) in
        let t : (slice_index_or sorted m a).j ≡ b.j = ap (λ z. z.j) (get_or_from_slice_get sorted m b a q) in
        omega (arith, h, s, t)
