-- The list of accesses, and the first pair of it that is not ordered.
use Rattle.std.proofs.Common.{◌≡◌, ◌≢◌, ℕ, ◌+◌, ◌<◌, ◌≤◌, ◌⊎◌, Bool, true, false, List, [], ◌∷◌, ◌++◌, Some, None, length, get_or, refl, sym, ap, ◌∙◌, subst, inl, inr, arith, ◌==◌, if◌then◌else◌}
use Rattle.std.specs.Prelude.{◌↔◌, slice_get, IsTrue, MatchBool}
use Rattle.std.proofs.lemmas.Bool.{cases_eq, cases_order, cases_Bool, eq-eqb, eqb-true}
use Rattle.std.proofs.lemmas.Option.{slice_get_within, slice_get_cases, slice_get-get_or, same_Some}
use Rattle.dsm_entry.specs.declared.entry.Entry.{Entry}
use Rattle.dsm_entry.specs.declared.entry.Entry.TheVariants.{Load, Store, Signal, Pass, Out}
use Rattle.dsm_entry.specs.declared.entry.Place.{Place}
use Rattle.dsm_flat.specs.declared.accesses.Access.{Access}
use Rattle.dsm_flat.specs.declared.verdict.Verdict.TheVariants as verdict
use Rattle.dsm_flat.specs.Order.{Traces, Holds, Before}
use Rattle.dsm_flat.specs.Flat.{IsStore, IsAccess, Conflict, Ordered}
use Rattle.dsm_flat.specs.Judge.{IsBelow, Race, IsFirstRace}
use Rattle.dsm_flat.specs.Accesses.{kind_of, IsAccessTo, first_place, IsListed, AreAt, IsBeforeAt, IsOrderedPair, IsOrderedAt, IsRacyAt, IsOrderedUpTo}
use Rattle.dsm_flat.proofs.OrderLaws.{same_place, within}
use Rattle.dsm_flat.proofs.Lists.{get_push, get_push_old, get_push_new}

-- what kind_of says
pub data Kind (w : ℕ) (e : Entry) (s : Bool) : Type 0 where
  IsLoad : (v : ℕ) → e ≡ Load w v → s ≡ false → Kind w e s
  IsStored : (v : ℕ) → e ≡ Store w v → s ≡ true → Kind w e s

pub kind_is : (w : ℕ) (e : Entry) (s : Bool) → kind_of w e ≡ Some s → Kind w e s
kind_is w (Load w' v) s h = go (w' == w) refl h
  where
    go : (b : Bool) → (w' == w) ≡ b → (if b then Some false else None) ≡ Some s → Kind w (Load w' v) s
    go true f g = IsLoad v (ap (λ z. Load z v) (eqb-true w' w f)) (let k : false ≡ s = cc g in sym k)
    go false f g = absurd (cc g)
kind_is w (Store w' v) s h = go (w' == w) refl h
  where
    go : (b : Bool) → (w' == w) ≡ b → (if b then Some true else None) ≡ Some s → Kind w (Store w' v) s
    go true f g = IsStored v (ap (λ z. Store z v) (eqb-true w' w f)) (let k : true ≡ s = cc g in sym k)
    go false f g = absurd (cc g)
kind_is w (Signal o j) s h = absurd (cc h)
kind_is w (Pass o c) s h = absurd (cc h)
kind_is w (Out v) s h = absurd (cc h)

pub access_of : (ts : Traces) (w : ℕ) (a : Access) → IsAccessTo ts w a → IsAccess ts w a.place
access_of ts w a h = go (kind_is w h.0 a.stores h.2)
  where
    go : Kind w h.0 a.stores → IsAccess ts w a.place
    go (IsLoad v e s) = (v, inl (subst (λ z. Holds ts a.place z) e h.1))
    go (IsStored v e s) = (v, inr (subst (λ z. Holds ts a.place z) e h.1))

-- a place that accesses w is in the list of accesses
pub as_access : (ts : Traces) (w : ℕ) (x : Place) → IsAccess ts w x → (s : Bool) × IsAccessTo ts w (record { place = x; stores = s })
as_access ts w x (v, inl h) = (false, (Load w v, h, ap (λ b. if b then Some false else None) (eq-eqb w w refl)))
as_access ts w x (v, inr h) = (true, (Store w v, h, ap (λ b. if b then Some true else None) (eq-eqb w w refl)))

-- a place that stores is listed as storing
pub stores_of : (ts : Traces) (w : ℕ) (a : Access) → IsAccessTo ts w a → IsStore ts w a.place → a.stores ≡ true
stores_of ts w a h s = go (kind_is w h.0 a.stores h.2)
  where
    go : Kind w h.0 a.stores → a.stores ≡ true
    go (IsLoad v e k) = absurd (let f : Holds ts a.place (Load w v) = subst (λ z. Holds ts a.place z) e h.1 in let g = s.1 in cc (f, g))
    go (IsStored v e k) = k

pub store_of : (ts : Traces) (w : ℕ) (a : Access) → IsAccessTo ts w a → a.stores ≡ true → IsStore ts w a.place
store_of ts w a h s = go (kind_is w h.0 a.stores h.2)
  where
    go : Kind w h.0 a.stores → IsStore ts w a.place
    go (IsLoad v e k) = absurd (cc (s, k))
    go (IsStored v e k) = (v, subst (λ z. Holds ts a.place z) e h.1)

below_next : (x : Place) (p i : ℕ) → IsBelow x (record { p = p; i = i }) → IsBelow x (record { p = p; i = i + 1 })
below_next x p i (inl lt) = inl lt
below_next x p i (inr h) = inr (h.0, omega (arith, h.1))

-- below the next place is below this one or at it
next_below : (x : Place) (p i : ℕ) → IsBelow x (record { p = p; i = i + 1 }) → IsBelow x (record { p = p; i = i }) ⊎ (x ≡ record { p = p; i = i })
next_below x p i (inl lt) = inl (inl lt)
next_below x p i (inr h) = go (cases_order x.i i)
  where
    go : (x.i ≡ i) ⊎ ((x.i < i) ⊎ (i < x.i)) → IsBelow x (record { p = p; i = i }) ⊎ (x ≡ record { p = p; i = i })
    go (inl e) = inr (same_place x (record { p = p; i = i }) h.0 e)
    go (inr (inl lt)) = inl (inr (h.0, lt))
    go (inr (inr gt)) = absurd (omega (arith, h.1, gt))

module _ (ts : Traces) (w p i : ℕ) (list : List Access) (g : IsListed ts w (record { p = p; i = i }) list) where
  pub listed_push : (e : Entry) (s : Bool) → Holds ts (record { p = p; i = i }) e → kind_of w e ≡ Some s → IsListed ts w (record { p = p; i = i + 1 }) (list ++ record { place = record { p = p; i = i }; stores = s } ∷ [])
  listed_push e s h k =
      record {
        each = λ n a at. each n a (get_push list new a n at);
        all = λ a at b. all a at (next_below a.place p i b);
        sorted = λ n m a b lt f f'. sorted n m a b lt (get_push list new a n f) (get_push list new b m f');
      }
    where
      new : Access
      new = record { place = record { p = p; i = i }; stores = s }

      each : (n : ℕ) (a : Access) → (slice_get list n ≡ Some a) ⊎ ((n ≡ length list) × (record { place = record { p = p; i = i }; stores = s } ≡ a)) → IsBelow a.place (record { p = p; i = i + 1 }) × IsAccessTo ts w a
      each n a (inl at) = (below_next a.place p i (g.each n a at).0, (g.each n a at).1)
      each n a (inr at) =
          subst (λ z. IsBelow z.place (record { p = p; i = i + 1 }) × IsAccessTo ts w z) at.1 (inr (refl, omega arith), (e, h, k))

      all : (a : Access) → IsAccessTo ts w a → IsBelow a.place (record { p = p; i = i }) ⊎ (a.place ≡ record { p = p; i = i }) → (n : ℕ) × (slice_get (list ++ record { place = record { p = p; i = i }; stores = s } ∷ []) n ≡ Some a)
      all a at (inl b) = let r = g.all a at b in (r.0, get_push_old list new a r.0 r.1)
      all a at (inr is) =
          let f : Holds ts (record { p = p; i = i }) at.0 = subst (λ z. Holds ts z at.0) is at.1 in
          let q : at.0 ≡ e = cc (f, h) in
          let r : kind_of w at.0 ≡ kind_of w e = ap (λ z. kind_of w z) q in
          let t : s ≡ a.stores = let u = at.2 in cc (r, k, u) in
          let same : record { place = record { p = p; i = i }; stores = s } ≡ a = λ j. record { place = sym is j; stores = t j } in
          (length list, get_push_new list new ∙ ap (λ z. Some z) same)

      sorted : (n m : ℕ) (a b : Access) → n < m → (slice_get list n ≡ Some a) ⊎ ((n ≡ length list) × (record { place = record { p = p; i = i }; stores = s } ≡ a)) → (slice_get list m ≡ Some b) ⊎ ((m ≡ length list) × (record { place = record { p = p; i = i }; stores = s } ≡ b)) → IsBelow a.place b.place
      sorted n m a b lt (inl f) (inl f') = g.sorted n m a b lt f f'
      sorted n m a b lt (inl f) (inr f') = subst (λ z. IsBelow a.place z.place) f'.1 (g.each n a f).0
      sorted n m a b lt (inr f) (inl f') = let c = slice_get_within list m b f' in absurd (omega (arith, c, f.0, lt))
      sorted n m a b lt (inr f) (inr f') = absurd (omega (arith, f.0, f'.0, lt))

  pub listed_skip : (e : Entry) → Holds ts (record { p = p; i = i }) e → kind_of w e ≡ None → IsListed ts w (record { p = p; i = i + 1 }) list
  listed_skip e h k =
      record {
        each = λ n a at. (below_next a.place p i (g.each n a at).0, (g.each n a at).1);
        all = λ a at b. all a at (next_below a.place p i b);
        sorted = g.sorted;
      }
    where
      all : (a : Access) → IsAccessTo ts w a → IsBelow a.place (record { p = p; i = i }) ⊎ (a.place ≡ record { p = p; i = i }) → (n : ℕ) × (slice_get list n ≡ Some a)
      all a at (inl b) = g.all a at b
      all a at (inr is) =
          absurd (let f : Holds ts (record { p = p; i = i }) at.0 = subst (λ z. Holds ts z at.0) is at.1 in
          let q : at.0 ≡ e = cc (f, h) in
          let r : kind_of w at.0 ≡ kind_of w e = ap (λ z. kind_of w z) q in
          let u = at.2 in cc (r, k, u))

  -- past the end of a trace
  pub listed_next : (t : List Entry) → slice_get ts p ≡ Some t → length t ≤ i → IsListed ts w (first_place (p + 1)) list
  listed_next t at le =
      record {
        each = λ n a f. (up a.place (g.each n a f).0, (g.each n a f).1);
        all = λ a f b. all a f b;
        sorted = g.sorted;
      }
    where
      up : (x : Place) → IsBelow x (record { p = p; i = i }) → IsBelow x (first_place (p + 1))
      up x (inl lt) = inl (omega (arith, lt))
      up x (inr h) = inl (omega (arith, h.0))

      down : (a : Access) → IsAccessTo ts w a → a.place.p < p + 1 → (a.place.p ≡ p) ⊎ (a.place.p ≡ p → ⊥) → IsBelow a.place (record { p = p; i = i })
      down a f lt (inr d) = inl (omega (arith, lt, d))
      down a f lt (inl e) =
          let v = within ts a.place f.0 f.1 in
          let s : Some v.trace ≡ Some t = sym v.at ∙ (ap (λ q. slice_get ts q) e ∙ at) in
          let r : v.trace ≡ t = cc s in
          let n : length v.trace ≡ length t = ap length r in
          inr (e, omega (arith, v.inside, n, le))

      all : (a : Access) → IsAccessTo ts w a → IsBelow a.place (first_place (p + 1)) → (n : ℕ) × (slice_get list n ≡ Some a)
      all a f (inl lt) = g.all a f (down a f lt (cases_eq a.place.p p))
      all a f (inr h) = absurd (omega (arith, h.1))

not_below : (x y : Place) → IsBelow x y → IsBelow y x → ⊥
not_below x y (inl p) (inl q) = absurd (omega (arith, p, q))
not_below x y (inl p) (inr q) = absurd (omega (arith, p, q.0))
not_below x y (inr p) (inl q) = absurd (omega (arith, p.0, q))
not_below x y (inr p) (inr q) = absurd (omega (arith, p.1, q.1))

-- there is one first race at most
pub first_race_is : (ts : Traces) (w : ℕ) (x y u v : Place) → IsFirstRace ts w x y → IsFirstRace ts w u v → (x ≡ u) × (y ≡ v)
first_race_is ts w x y u v f g = go (f.first u v g.below g.race) (g.first x y f.below f.race)
  where
    -- a place is not below itself
    not_self : (a b : Place) → a ≡ b → IsBelow a b → ⊥
    not_self a b e h = not_below a b h (subst (λ z. IsBelow z a) e (subst (λ z. IsBelow a z) (sym e) h))

    second : x ≡ u → IsBelow y v ⊎ (y ≡ v) → IsBelow v y ⊎ (v ≡ y) → (x ≡ u) × (y ≡ v)
    second e (inr h) k = (e, h)
    second e (inl h) (inr k) = (e, sym k)
    second e (inl h) (inl k) = absurd (not_below y v h k)

    go : IsBelow x u ⊎ ((x ≡ u) × (IsBelow y v ⊎ (y ≡ v))) → IsBelow u x ⊎ ((u ≡ x) × (IsBelow v y ⊎ (v ≡ y))) → (x ≡ u) × (y ≡ v)
    go (inl h) (inl k) = absurd (not_below x u h k)
    go (inl h) (inr k) = absurd (not_self x u (sym k.0) h)
    go (inr h) (inl k) = absurd (not_self u x (sym h.0) k)
    go (inr h) (inr k) = second h.0 h.1 k.1

-- item k of the list, as the code reads it
abbrev pub item : List Access → ℕ → Access
item list k = get_or list k (record { place = record { p = 0; i = 0 }; stores = false })

pub item_at : (list : List Access) (k : ℕ) → k < length list → slice_get list k ≡ Some (item list k)
item_at list k lt = slice_get-get_or list k (record { place = record { p = 0; i = 0 }; stores = false }) lt

-- which access stands at an index is determined
pub before_at : (ts : Traces) (list : List Access) (k m : ℕ) (x y : Access) → slice_get list k ≡ Some x → slice_get list m ≡ Some y → Before ts x.place y.place ↔ IsBeforeAt ts list k m
before_at ts list k m x y at_x at_y =
    (λ b u v at_u at_v. subst (λ z. Before ts u.place z.place) (same_Some y v (sym at_y ∙ at_v)) (subst (λ z. Before ts z.place y.place) (same_Some x u (sym at_x ∙ at_u)) b), λ b. b x y at_x at_y)

-- an item of the list has one place
placed_at : (list : List Access) (n : ℕ) (x : Place) (s : Bool) (c : Access) → slice_get list n ≡ Some (record { place = x; stores = s }) → slice_get list n ≡ Some c → x ≡ c.place
placed_at list n x s c h h' =
    let d : Access = record { place = x; stores = s } in
    let e : Some d ≡ Some c = sym h ∙ h' in
    let q : d ≡ c = cc e in
    ap (λ z. z.place) q

-- where one of two accesses stores and the first is not before the second, it is for the second whether it is before the first
pub ordered_back : (ts : Traces) (list : List Access) (k m : ℕ) (b : Bool) → k < length list → m < length list → ((item list k).stores ≡ true) ⊎ ((item list m).stores ≡ true) → (IsBeforeAt ts list k m → ⊥) → IsTrue b ↔ IsBeforeAt ts list m k → MatchBool b (IsOrderedAt ts list k m) (IsRacyAt ts list k m)
ordered_back ts list k m true lk lm stores no_k f = λ x y at_x at_y. inr (inr (f.0 refl y x at_y at_x))
ordered_back ts list k m false lk lm stores no_k f = λ x y at_x at_y o. go x y at_x at_y o
  where
    loads : (n : ℕ) (x : Access) → n < length list → slice_get list n ≡ Some x → x.stores ≡ false → (item list n).stores ≡ true → ⊥
    loads n x lt at e t = absurd (let same : item list n ≡ x = same_Some (item list n) x (sym (item_at list n lt) ∙ at) in let s = ap (λ z. z.stores) same in cc (s, e, t))

    none : (x y : Access) → slice_get list k ≡ Some x → slice_get list m ≡ Some y → (x.stores ≡ false) × (y.stores ≡ false) → ((item list k).stores ≡ true) ⊎ ((item list m).stores ≡ true) → ⊥
    none x y at_x at_y n (inl t) = loads k x lk at_x n.0 t
    none x y at_x at_y n (inr t) = loads m y lm at_y n.1 t

    go : (x y : Access) → slice_get list k ≡ Some x → slice_get list m ≡ Some y → IsOrderedPair ts x y → ⊥
    go x y at_x at_y (inl n) = none x y at_x at_y n stores
    go x y at_x at_y (inr (inl b)) = no_k ((before_at ts list k m x y at_x at_y).0 b)
    go x y at_x at_y (inr (inr b)) = absurd (let e = f.1 ((before_at ts list m k y x at_y at_x).0 b) in cc e)

pub ordered_more : (ts : Traces) (list : List Access) (k m : ℕ) → IsOrderedUpTo ts list k m → IsOrderedAt ts list k m → IsOrderedUpTo ts list k (m + 1)
ordered_more ts list k m g o n lo hi = go (cases_eq m n)
  where
    go : (m ≡ n) ⊎ (m ≡ n → ⊥) → IsOrderedAt ts list k n
    go (inl e) = subst (λ z. IsOrderedAt ts list k z) e o
    go (inr d) = g n lo (omega (arith, hi, d))

pub at_of : (ts : Traces) (w : ℕ) (bound : Place) (list : List Access) → IsListed ts w bound list → AreAt ts list
at_of ts w bound list g k a at = (w, access_of ts w a (g.each k a at).1)

pub apart : (x y : Place) → IsBelow x y → x ≢ y
apart x y (inl lt) e = absurd (let f : x.p ≡ y.p = ap (λ z. z.p) e in omega (arith, lt, f))
apart x y (inr h) e = absurd (let f : x.i ≡ y.i = ap (λ z. z.i) e in omega (arith, h.1, f))

-- a word with all pairs ordered, and one with a first pair that is not
module _ (ts : Traces) (w : ℕ) (list : List Access) (g : IsListed ts w (first_place (length ts)) list) where
  everywhere : (a : Access) → IsAccessTo ts w a → IsBelow a.place (first_place (length ts))
  everywhere a h = let v = within ts a.place h.0 h.1 in inl (slice_get_within ts a.place.p v.trace v.at)

  -- where an access stands in the list
  pub record Listed (x : Place) : Type 0 where
    pub k : ℕ
    pub stores : Bool
    pub at : slice_get list k ≡ Some (record { place = x; stores = stores })
    pub is : IsAccessTo ts w (record { place = x; stores = stores })

  listed : (x : Place) → IsAccess ts w x → Listed x
  listed x h =
      let a = as_access ts w x h in
      let r = g.all (record { place = x; stores = a.0 }) a.1 (everywhere (record { place = x; stores = a.0 }) a.1) in
      record { k = r.0; stores = a.0; at = r.1; is = a.1 }

  not_both : (x y : Place) (lx : Listed x) (ly : Listed y) → Conflict ts w x y → (lx.stores ≡ false) × (ly.stores ≡ false) → ⊥
  not_both x y lx ly c h = go c.3
    where
      go : IsStore ts w x ⊎ IsStore ts w y → ⊥
      go (inl s) = absurd (let a = h.0 in let b = stores_of ts w (record { place = x; stores = lx.stores }) lx.is s in cc (a, b))
      go (inr s) = absurd (let a = h.1 in let b = stores_of ts w (record { place = y; stores = ly.stores }) ly.is s in cc (a, b))

  pub all_ordered : ((k : ℕ) → k < length list → IsOrderedUpTo ts list k (length list)) → Ordered ts w
  all_ordered pairs x y c = go (cases_order lx.k ly.k)
    where
      lx : Listed x
      lx = listed x c.1

      ly : Listed y
      ly = listed y c.2

      ordered : (a b : Place) (la : Listed a) (lb : Listed b) → Conflict ts w a b → la.k < lb.k → Before ts a b ⊎ Before ts b a
      ordered a b la lb c lt =
          pick (pairs la.k (slice_get_within list la.k _ la.at) lb.k lt (slice_get_within list lb.k _ lb.at) _ _ la.at lb.at)
        where
          pick : ((la.stores ≡ false) × (lb.stores ≡ false)) ⊎ (Before ts a b ⊎ Before ts b a) → Before ts a b ⊎ Before ts b a
          pick (inl n) = absurd (not_both a b la lb c n)
          pick (inr o) = o

      swap : Before ts y x ⊎ Before ts x y → Before ts x y ⊎ Before ts y x
      swap (inl b) = inr b
      swap (inr b) = inl b

      other : IsStore ts w x ⊎ IsStore ts w y → IsStore ts w y ⊎ IsStore ts w x
      other (inl s) = inr s
      other (inr s) = inl s

      go : (lx.k ≡ ly.k) ⊎ ((lx.k < ly.k) ⊎ (ly.k < lx.k)) → Before ts x y ⊎ Before ts y x
      go (inl e) = absurd (c.0 (placed_at list ly.k x lx.stores (record { place = y; stores = ly.stores }) (ap (λ n. slice_get list n) (sym e) ∙ lx.at) ly.at))
      go (inr (inl lt)) = ordered x y lx ly c lt
      go (inr (inr lt)) = swap (ordered y x ly lx (λ e. c.0 (sym e), c.2, c.1, other c.3) lt)

  pub first_race : (k m : ℕ) (a b : Access) → ((n : ℕ) → n < k → IsOrderedUpTo ts list n (length list)) → IsOrderedUpTo ts list k m → IsRacyAt ts list k m → k < m → slice_get list k ≡ Some a → slice_get list m ≡ Some b → IsFirstRace ts w a.place b.place
  first_race k m a b before upto racy_at lt fa fb =
      record {
        race = ((apart a.place b.place below, access_of ts w a (g.each k a fa).1, access_of ts w b (g.each m b fb).1, store (cases_Bool a.stores) (cases_Bool b.stores)), λ f. racy (inr (inl f)), λ f. racy (inr (inr f)));
        below = below;
        first = λ u v bel r. first u v bel r (listed u r.0.1) (listed v r.0.2);
      }
    where
      racy : IsOrderedPair ts a b → ⊥
      racy = racy_at a b fa fb

      below : IsBelow a.place b.place
      below = g.sorted k m a b lt fa fb

      store : (a.stores ≡ true) ⊎ (a.stores ≡ false) → (b.stores ≡ true) ⊎ (b.stores ≡ false) → IsStore ts w a.place ⊎ IsStore ts w b.place
      store (inl s) t = inl (store_of ts w a (g.each k a fa).1 s)
      store (inr s) (inl t) = inr (store_of ts w b (g.each m b fb).1 t)
      store (inr s) (inr t) = absurd (racy (inl (s, t)))

      -- accesses that race are not ordered
      clash : (u v : Place) (lu : Listed u) (lv : Listed v) → Race ts w u v → IsOrderedAt ts list lu.k lv.k → ⊥
      clash u v lu lv r o = go (o _ _ lu.at lv.at)
        where
          go : ((lu.stores ≡ false) × (lv.stores ≡ false)) ⊎ (Before ts u v ⊎ Before ts v u) → ⊥
          go (inl n) = not_both u v lu lv r.0 n
          go (inr (inl x)) = r.1 x
          go (inr (inr x)) = r.2 x

      first : (u v : Place) → IsBelow u v → Race ts w u v → Listed u → Listed v → IsBelow a.place u ⊎ ((a.place ≡ u) × (IsBelow b.place v ⊎ (b.place ≡ v)))
      first u v bel r lu lv = one (cases_order lu.k lv.k)
        where
          -- u stands before v in the list
          one : (lu.k ≡ lv.k) ⊎ ((lu.k < lv.k) ⊎ (lv.k < lu.k)) → IsBelow a.place u ⊎ ((a.place ≡ u) × (IsBelow b.place v ⊎ (b.place ≡ v)))
          one (inl e) =
              absurd (r.0.0 (placed_at list lv.k u lu.stores (record { place = v; stores = lv.stores }) (ap (λ n. slice_get list n) (sym e) ∙ lu.at) lv.at))
          one (inr (inr gt)) = absurd (not_below u v bel (g.sorted lv.k lu.k _ _ gt lv.at lu.at))
          one (inr (inl lt')) = two (cases_order lu.k k)
            where
              three : lu.k ≡ k → (lv.k ≡ m) ⊎ ((lv.k < m) ⊎ (m < lv.k)) → IsBelow b.place v ⊎ (b.place ≡ v)
              three e (inl f) = inr (sym (placed_at list lv.k v lv.stores b lv.at (ap (λ n. slice_get list n) f ∙ fb)))
              three e (inr (inl l)) = absurd (clash u v lu lv r (subst (λ z. IsOrderedAt ts list z lv.k) (sym e) (upto lv.k (omega (arith, e, lt')) l)))
              three e (inr (inr l)) = inl (g.sorted m lv.k b _ l fb lv.at)

              two : (lu.k ≡ k) ⊎ ((lu.k < k) ⊎ (k < lu.k)) → IsBelow a.place u ⊎ ((a.place ≡ u) × (IsBelow b.place v ⊎ (b.place ≡ v)))
              two (inl e) = inr (sym (placed_at list lu.k u lu.stores a lu.at (ap (λ n. slice_get list n) e ∙ fa)), three e (cases_order lv.k m))
              two (inr (inl l)) = absurd (clash u v lu lv r (before lu.k l lv.k lt' (slice_get_within list lv.k _ lv.at)))
              two (inr (inr l)) = inl (g.sorted k lu.k a _ l fa lu.at)

-- an entry within a trace is there
pub no_gap : (t : List Entry) (i : ℕ) → i < length t → slice_get t i ≡ None → ⊥
no_gap t i lt h = go (slice_get_cases t i).1
  where
    go : ((x : Entry) × (i < length t) × (slice_get t i ≡ Some x) × (get_or t i x ≡ x)) ⊎ ((length t ≤ i) × (slice_get t i ≡ None)) → ⊥
    go (inl k) = absurd (let f = k.2 in cc (f, h))
    go (inr k) = absurd (omega (arith, k.0, lt))

-- where all are ordered there is no race
race_excludes : (ts : Traces) (w : ℕ) (x y : Place) → Ordered ts w → IsFirstRace ts w x y → ⊥
race_excludes ts w x y o f = go (o x y f.race.0)
  where
    go : Before ts x y ⊎ Before ts y x → ⊥
    go (inl b) = f.race.1 b
    go (inr b) = f.race.2 b

-- what each of the two answers says, where it is right
pub ordered_says_ordered : (ts : Traces) (w : ℕ) → Ordered ts w → (verdict.Ordered ≡ verdict.Ordered) ↔ Ordered ts w
ordered_says_ordered ts w o = (λ e. o, λ h. refl)

pub ordered_says_raced : (ts : Traces) (w : ℕ) (x y : Place) → Ordered ts w → (verdict.Ordered ≡ verdict.Raced x y) ↔ IsFirstRace ts w x y
ordered_says_raced ts w x y o = (λ e. absurd (cc e), λ f. absurd (race_excludes ts w x y o f))

pub raced_says_ordered : (ts : Traces) (w : ℕ) (u v : Place) → IsFirstRace ts w u v → (verdict.Raced u v ≡ verdict.Ordered) ↔ Ordered ts w
raced_says_ordered ts w u v f = (λ e. absurd (cc e), λ o. absurd (race_excludes ts w u v o f))

pub raced_says_raced : (ts : Traces) (w : ℕ) (u v x y : Place) → IsFirstRace ts w u v → (verdict.Raced u v ≡ verdict.Raced x y) ↔ IsFirstRace ts w x y
raced_says_raced ts w u v x y f = (forth, back)
  where
    forth : verdict.Raced u v ≡ verdict.Raced x y → IsFirstRace ts w x y
    forth e =
        let p : u ≡ x = cc e in
        let q : v ≡ y = cc e in
        subst (λ z. IsFirstRace ts w x z) q (subst (λ z. IsFirstRace ts w z v) p f)

    back : IsFirstRace ts w x y → verdict.Raced u v ≡ verdict.Raced x y
    back g = let e = first_race_is ts w u v x y f g in λ i. verdict.Raced (e.0 i) (e.1 i)
