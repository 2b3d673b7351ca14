-- The accesses to a word that decide about later ones.
use Rattle.std.proofs.Common.{◌≡◌, ◌≢◌, ℕ, ◌+◌, ◌-◌, ◌<◌, ◌⊎◌, List, Option, Some, refl, sym, ap, ◌∙◌, subst, inl, inr, arith}
use Rattle.std.specs.Prelude.{slice_index}
use Rattle.std.proofs.lemmas.Option.{same_Some}
use Rattle.dsm_entry.specs.declared.entry.Entry.{Entry}
use Rattle.dsm_entry.specs.declared.entry.Entry.TheVariants.{Load, Store}
use Rattle.dsm_entry.specs.declared.entry.Place.{Place}
use Rattle.dsm_flat.specs.Order.{Traces, Holds, Before, One, Then}
use Rattle.dsm_flat.specs.Flat.{IsStore, IsAccess, Conflict, Ordered}
use Rattle.dsm_flat.specs.Clocks.{Counted, IsPut, UpTo}
use Rattle.dsm_flat.specs.Racing.{IsLoad, IsClosed, IsDeciding, IsVisit, CountsNone, CountsLast, CountsLoads, StartDecides, OtherDecides, LoadDecides, StoreDecides, LastStoreRaces, LoadRaces, AllDecided}
use Rattle.dsm_flat.proofs.OrderLaws.{transitive, same_place}
use Rattle.dsm_flat.proofs.Clocks.{up_then, put_at}

-- an access is an entry
access_there : (ts : Traces) (w : ℕ) (x : Place) → IsAccess ts w x → (e : Entry) × Holds ts x e
access_there ts w x (v, inl h) = (Load w v, h)
access_there ts w x (v, inr h) = (Store w v, h)

-- what is before a counted place is counted
pub closed_before : (ts : Traces) (done : List ℕ) → IsClosed ts done → (x y : Place) → Before ts x y → Counted done y → Counted done x
closed_before ts done g x y (One e) c = g x y e c
closed_before ts done g x y (Then {z = z} e f) c = g x z e (closed_before ts done g z y f c)

not_both : (ts : Traces) (w : ℕ) (x : Place) → IsLoad ts w x → IsStore ts w x → ⊥
not_both ts w x (v, h) (u, k) = absurd (cc (h, k))

load_or_store : (ts : Traces) (w : ℕ) (x : Place) → IsAccess ts w x → IsLoad ts w x ⊎ IsStore ts w x
load_or_store ts w x (v, inl h) = inl (v, h)
load_or_store ts w x (v, inr h) = inr (v, h)

pub start_decides : StartDecides
start_decides ts w done loads d l =
    record {
      ordered = λ x y f a b. absurd (omega (arith, a, d x.p));
      stored = λ s e. absurd (cc e);
      latest = λ x f a. absurd (omega (arith, a, d x.p));
      since = λ x f a. absurd (omega (arith, a, d x.p));
      loaded = λ q i e. absurd (omega (arith, e, l q));
    }

pub all_decided : AllDecided
all_decided ts w done last loads g all x y f =
    let a = access_there ts w x f.1 in
    let b = access_there ts w y f.2 in
    g.ordered x y f (all x a.0 a.1) (all y b.0 b.1)

module _ (ts : Traces) (w : ℕ) (done : List ℕ) (y : Place) (clock now : List ℕ) (last : Option Place) (loads : List ℕ) (v : IsVisit ts done y clock now) (g : IsDeciding ts w done last loads) where
  -- y is new
  fresh : Counted done y → ⊥
  fresh c = absurd (omega (arith, c, v.next))

  old_other : (x : Place) → Counted done x → x ≢ y
  old_other x c e = fresh (subst (λ z. Counted done z) e c)

  keep : (x : Place) → Counted done x → Counted now x
  keep x c = (v.one_more x).1 (inl c)

  -- y is not before a counted place
  not_after : (x : Place) → Counted done x → Before ts y x → ⊥
  not_after x c b = fresh (closed_before ts done v.closed y x b c)

  -- what the clock counts of the old places is before y
  clock_before : (x : Place) → Counted done x → Counted clock x → Before ts x y
  clock_before x c k = go ((v.clock_is x).0 k)
    where
      go : UpTo ts y x → Before ts x y
      go (inl e) = absurd (old_other x c e)
      go (inr b) = b

  -- where those before y are so, the conflicting places stay ordered
  extend : ((x : Place) → Conflict ts w x y → Counted done x → Before ts x y) → (a b : Place) → Conflict ts w a b → Counted now a → Counted now b → Before ts a b ⊎ Before ts b a
  extend all a b f c d = go ((v.one_more a).0 c) ((v.one_more b).0 d)
    where
      go : Counted done a ⊎ (a ≡ y) → Counted done b ⊎ (b ≡ y) → Before ts a b ⊎ Before ts b a
      go (inl c) (inl d) = g.ordered a b f c d
      go (inl c) (inr e) = inl (subst (λ z. Before ts a z) (sym e) (all a (subst (λ z. Conflict ts w a z) e f) c))
      go (inr e) (inl d) = inr (subst (λ z. Before ts b z) (sym e) (all b (turn f.3) d))
        where
          turn : IsStore ts w a ⊎ IsStore ts w b → Conflict ts w b y
          turn (inl s) = (old_other b d, f.2, subst (λ z. IsAccess ts w z) e f.1, inr (subst (λ z. IsStore ts w z) e s))
          turn (inr s) = (old_other b d, f.2, subst (λ z. IsAccess ts w z) e f.1, inl s)
      go (inr e) (inr d) = absurd (f.0 (e ∙ sym d))

  -- the last store is before y, and so are the stores up to it
  store_before : CountsLast clock last → (x : Place) → IsStore ts w x → Counted done x → Before ts x y
  store_before k x f c = let l = g.latest x f c in up_then ts x l.0 y l.2 (clock_before l.0 ((g.stored l.0 l.1).1) (k l.0 l.1))

  other_decides : (IsAccess ts w y → ⊥) → IsDeciding ts w now last loads
  other_decides none =
      record {
        ordered = extend (λ x f c. absurd (none f.2));
        stored = λ s e. let h = g.stored s e in (h.0, keep s h.1);
        latest = λ x f c. g.latest x f (old x (store_access x f) ((v.one_more x).0 c));
        since = λ x f c. g.since x f (old x (load_access x f) ((v.one_more x).0 c));
        loaded = λ q i e. let h = g.loaded q i e in (h.0, keep (record { p = q; i = i }) h.1);
      }
    where
      store_access : (x : Place) → IsStore ts w x → IsAccess ts w x
      store_access x (u, h) = (u, inr h)

      load_access : (x : Place) → IsLoad ts w x → IsAccess ts w x
      load_access x (u, h) = (u, inl h)

      old : (x : Place) → IsAccess ts w x → Counted done x ⊎ (x ≡ y) → Counted done x
      old x f (inl c) = c
      old x f (inr e) = absurd (none (subst (λ z. IsAccess ts w z) e f))

  load_decides : IsLoad ts w y → CountsLast clock last → (new : List ℕ) → IsPut loads y.p (y.i + 1) new → IsDeciding ts w now last new
  load_decides load k new put =
      record {
        ordered = extend (λ x f c. before x f.3 c);
        stored = λ s e. let h = g.stored s e in (h.0, keep s h.1);
        latest = λ x f c. latest x f ((v.one_more x).0 c);
        since = λ x f c. since x f ((v.one_more x).0 c) (put_at loads new y.p (y.i + 1) put x.p);
        loaded = λ q i e. loaded q i e (put_at loads new y.p (y.i + 1) put q);
      }
    where
      before : (x : Place) → IsStore ts w x ⊎ IsStore ts w y → Counted done x → Before ts x y
      before x (inl s) c = store_before k x s c
      before x (inr s) c = absurd (not_both ts w y load s)

      latest : (x : Place) → IsStore ts w x → Counted done x ⊎ (x ≡ y) → (s : Place) × (last ≡ Some s) × UpTo ts s x
      latest x f (inl c) = g.latest x f c
      latest x f (inr e) = absurd (not_both ts w y load (subst (λ z. IsStore ts w z) e f))

      since : (x : Place) → IsLoad ts w x → Counted done x ⊎ (x ≡ y) → ((y.p ≡ x.p) × (slice_index new x.p ≡ y.i + 1)) ⊎ ((y.p ≢ x.p) × (slice_index new x.p ≡ slice_index loads x.p))
          → Counted new x ⊎ ((s : Place) × (last ≡ Some s) × Before ts x s)
      since x f (inl c) (inl h) =
          let n : slice_index done y.p ≡ slice_index done x.p = ap (λ z. slice_index done z) h.0 in
          inl (omega (arith, c, n, v.next, h.1))
      since x f (inl c) (inr h) = go (g.since x f c)
        where
          go : Counted loads x ⊎ ((s : Place) × (last ≡ Some s) × Before ts x s) → Counted new x ⊎ ((s : Place) × (last ≡ Some s) × Before ts x s)
          go (inl l) = inl (omega (arith, l, h.1))
          go (inr s) = inr s
      since x f (inr e) (inl h) = let i : x.i ≡ y.i = ap (λ z. z.i) e in inl (omega (arith, i, h.1))
      since x f (inr e) (inr h) = absurd (h.0 (sym (ap (λ z. z.p) e)))

      loaded : (q i : ℕ) → slice_index new q ≡ i + 1 → ((y.p ≡ q) × (slice_index new q ≡ y.i + 1)) ⊎ ((y.p ≢ q) × (slice_index new q ≡ slice_index loads q))
          → IsLoad ts w (record { p = q; i = i }) × Counted now (record { p = q; i = i })
      loaded q i e (inl h) =
          let same : y ≡ record { p = q; i = i } = same_place y (record { p = q; i = i }) h.0 (omega (arith, e, h.1)) in
          (subst (λ z. IsLoad ts w z) same load, (v.one_more (record { p = q; i = i })).1 (inr (sym same)))
      loaded q i e (inr h) = let l = g.loaded q i (sym h.1 ∙ e) in (l.0, keep (record { p = q; i = i }) l.1)

  module _ (store : IsStore ts w y) where
    store_decides : (none : List ℕ) → CountsLast clock last → CountsLoads clock loads → CountsNone none → IsDeciding ts w now (Some y) none
    store_decides none k l n =
        record {
          ordered = extend (λ x f c. before x f.1 c);
          stored = λ s e. let same : y ≡ s = same_Some y s e in (subst (λ z. IsStore ts w z) same store, (v.one_more s).1 (inr (sym same)));
          latest = λ x f c. latest x f ((v.one_more x).0 c);
          since = λ x f c. inr (y, refl, since x f ((v.one_more x).0 c));
          loaded = λ q i e. absurd (omega (arith, e, n q));
        }
      where
        load_before : (x : Place) → IsLoad ts w x → Counted done x → Before ts x y
        load_before x f c = go (g.since x f c)
          where
            go : Counted loads x ⊎ ((s : Place) × (last ≡ Some s) × Before ts x s) → Before ts x y
            go (inl h) = clock_before x c (omega (arith, h, l x.p))
            go (inr s) = transitive ts x s.0 y s.2 (clock_before s.0 ((g.stored s.0 s.1).1) (k s.0 s.1))

        before : (x : Place) → IsAccess ts w x → Counted done x → Before ts x y
        before x f c = go (load_or_store ts w x f)
          where
            go : IsLoad ts w x ⊎ IsStore ts w x → Before ts x y
            go (inl h) = load_before x h c
            go (inr h) = store_before k x h c

        latest : (x : Place) → IsStore ts w x → Counted done x ⊎ (x ≡ y) → (s : Place) × (Some y ≡ Some s) × UpTo ts s x
        latest x f (inl c) = (y, refl, inr (store_before k x f c))
        latest x f (inr e) = (y, refl, inl e)

        since : (x : Place) → IsLoad ts w x → Counted done x ⊎ (x ≡ y) → Before ts x y
        since x f (inl c) = load_before x f c
        since x f (inr e) = absurd (not_both ts w y (subst (λ z. IsLoad ts w z) e f) store)

    load_races : (q : ℕ) → slice_index clock q < slice_index loads q → Ordered ts w → ⊥
    load_races q lt o = go (o x y (old_other x l.1, (l.0.0, inl l.0.1), (store.0, inr store.1), inr store))
      where
        x : Place
        x = record { p = q; i = slice_index loads q - 1 }

        l : IsLoad ts w x × Counted done x
        l = g.loaded q (slice_index loads q - 1) (omega (arith, lt))

        go : Before ts x y ⊎ Before ts y x → ⊥
        go (inl b) = let c : slice_index loads q - 1 < slice_index clock q = (v.clock_is x).1 (inr b) in absurd (omega (arith, c, lt))
        go (inr b) = not_after x l.1 b

  last_store_races : (s : Place) → IsAccess ts w y → last ≡ Some s → (Counted clock s → ⊥) → Ordered ts w → ⊥
  last_store_races s f e nay o = go (o s y (old_other s h.1, (h.0.0, inr h.0.1), f, inl h.0))
    where
      h : IsStore ts w s × Counted done s
      h = g.stored s e

      go : Before ts s y ⊎ Before ts y s → ⊥
      go (inl b) = nay ((v.clock_is s).1 (inr b))
      go (inr b) = not_after s h.1 b

pub other_law : OtherDecides
other_law ts w done y clock now last loads v g = other_decides ts w done y clock now last loads v g

pub load_law : LoadDecides
load_law ts w done y clock now last loads new v g l k = load_decides ts w done y clock now last loads v g l k new

pub store_law : StoreDecides
store_law ts w done y clock now last loads none v g s = store_decides ts w done y clock now last loads v g s none

pub last_store_law : LastStoreRaces
last_store_law ts w done y clock now last loads s v g = last_store_races ts w done y clock now last loads v g s

pub load_race_law : LoadRaces
load_race_law ts w done y clock now last loads q v g s = load_races ts w done y clock now last loads v g s q
