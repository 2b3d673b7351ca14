-- Objects that are made of the entries of all traces.
use Rattle.std.proofs.Common.{◌≡◌, ◌≢◌, ℕ, zero, suc, ◌+◌, ◌<◌, ◌≤◌, ◌⊎◌, List, [], ◌∷◌, ◌++◌, Some, None, length, get_or, refl, sym, ap, ◌∙◌, subst, inl, inr, arith}
use Rattle.std.specs.Prelude.{slice_get, slice_set}
use Rattle.std.specs.List.{Contains}
use Rattle.std.proofs.lemmas.Bool.{cases_eq}
use Rattle.std.proofs.lemmas.List.{length-set}
use Rattle.std.proofs.lemmas.Option.{slice_get_within, slice_get_read, same_Some}
use Rattle.dsm_entry.specs.declared.entry.Obj.{Obj}
use Rattle.dsm_entry.specs.declared.entry.Entry.{Entry}
use Rattle.dsm_entry.specs.declared.entry.Entry.TheVariants.{Signal, Pass}
use Rattle.dsm_entry.specs.declared.entry.Place.{Place}
use Rattle.dsm_flat.specs.declared.gate.Mark.{Mark}
use Rattle.dsm_flat.specs.declared.gate.Gate.{Gate}
use Rattle.dsm_flat.specs.declared.gates.Gates.{Gates}
use Rattle.dsm_flat.specs.declared.index.Index.{Index}
use Rattle.dsm_flat.specs.Order.{Traces, Holds}
use Rattle.dsm_flat.specs.Judge.{IsBelow}
use Rattle.dsm_flat.specs.Accesses.{first_place}
use Rattle.dsm_flat.specs.Racing.{IsVisit, CountsNone}
use Rattle.dsm_flat.specs.Gates.{place_of, next_place, IsNew, IsOf, OfSignal, OfPass, IsIndexed, AreSigns, AreAdded, IsOrderOf, AreOrdered, IsGateOf, AreGates}
use Rattle.dsm_flat.proofs.OrderLaws.{same_place, within}
use Rattle.dsm_flat.proofs.Objects.{obj_cases}
use Rattle.dsm_flat.proofs.Lists.{get_push, get_push_old, get_push_new}
use Rattle.dsm_flat.proofs.Gating.{get_set, contains_at, at_contained, unsignalled, below_end}

-- an item that is put is there, and the others stay
pub set_here : {A : Type 0} (xs : List A) (k : ℕ) (new : A) → k < length xs → slice_get (slice_set xs k new) k ≡ Some new
set_here [] k new lt = absurd (omega (arith, lt))
set_here (x ∷ xs) zero new lt = refl
set_here (x ∷ xs) (suc k) new lt = set_here xs k new (omega (arith, lt))

pub set_there : {A : Type 0} (xs : List A) (k m : ℕ) (new : A) → m ≢ k → slice_get (slice_set xs k new) m ≡ slice_get xs m
set_there [] k m new d = refl
set_there (x ∷ xs) zero zero new d = absurd (d refl)
set_there (x ∷ xs) zero (suc m) new d = refl
set_there (x ∷ xs) (suc k) zero new d = refl
set_there (x ∷ xs) (suc k) (suc m) new d = set_there xs k m new (λ e. d (ap suc e))

-- there is an item below the end
pub item_there : {A : Type 0} (xs : List A) (k : ℕ) → k < length xs → (x : A) × (slice_get xs k ≡ Some x)
item_there [] k lt = absurd (omega (arith, lt))
item_there (x ∷ xs) zero lt = (x, refl)
item_there (x ∷ xs) (suc k) lt = item_there xs k (omega (arith, lt))

-- two entries of the list have two objects
pub one_place : (index : Index) (list : List Gate) → IsIndexed index list → (k m : ℕ) (g h : Gate) → slice_get list k ≡ Some g → slice_get list m ≡ Some h → g.o ≡ h.o → k ≡ m
one_place index list i k m g h at there e = let a = i.all k g at in let b = i.all m h there in let s = ap (λ o. place_of index o) e in cc (a, b, s)

-- an object is put for one of the same name
pub indexed_set : (index : Index) (list : List Gate) (k : ℕ) (g new : Gate) → IsIndexed index list → slice_get list k ≡ Some g → new.o ≡ g.o → IsIndexed index (slice_set list k new)
indexed_set index list k g new i at e =
    record {
      found = λ o m h. found o m (i.found o m h) (cases_eq m k);
      all = λ m h there. all m h (get_set list k m new h there);
    }
  where
    found : (o : Obj) (m : ℕ) → (h : Gate) × (slice_get list m ≡ Some h) × (h.o ≡ o) → (m ≡ k) ⊎ (m ≡ k → ⊥) → (h : Gate) × (slice_get (slice_set list k new) m ≡ Some h) × (h.o ≡ o)
    found o m (h, there, f) (inr d) = (h, set_there list k m new d ∙ there, f)
    found o m (h, there, f) (inl s) =
        let same : g ≡ h = same_Some g h (sym at ∙ (ap (λ n. slice_get list n) (sym s) ∙ there)) in
        (new, ap (λ n. slice_get (slice_set list k new) n) s ∙ set_here list k new (slice_get_within list k g at), e ∙ (ap (λ a. a.o) same ∙ f))

    all : (m : ℕ) (h : Gate) → ((m ≡ k) × (h ≡ new) × (m < length list)) ⊎ ((m ≢ k) × (slice_get list m ≡ Some h)) → place_of index h.o ≡ Some m
    all m h (inl s) = rw (s.0, s.1, e) (i.all k g at)
    all m h (inr d) = i.all m h d.1

-- a new object is put behind the others
pub indexed_push : (index now : Index) (list : List Gate) (o : Obj) (new : Gate) → IsIndexed index list → place_of index o ≡ None → place_of now o ≡ Some (length list) → ((q : Obj) → q ≢ o → place_of now q ≡ place_of index q) → new.o ≡ o
    → IsIndexed now (list ++ new ∷ [])
indexed_push index now list o new i none own others e =
    record {
      found = λ q m h. found q m h (obj_cases q o);
      all = λ m h there. all m h (get_push list new h m there);
    }
  where
    found : (q : Obj) (m : ℕ) → place_of now q ≡ Some m → (q ≡ o) ⊎ (q ≢ o) → (h : Gate) × (slice_get (list ++ new ∷ []) m ≡ Some h) × (h.o ≡ q)
    found q m h (inl s) =
        let n : length list ≡ m = same_Some (length list) m (sym own ∙ (ap (λ a. place_of now a) (sym s) ∙ h)) in
        (new, ap (λ k. slice_get (list ++ new ∷ []) k) (sym n) ∙ get_push_new list new, e ∙ sym s)
    found q m h (inr d) = let f = i.found q m (sym (others q d) ∙ h) in (f.0, get_push_old list new f.0 m f.1, f.2)

    all : (m : ℕ) (h : Gate) → (slice_get list m ≡ Some h) ⊎ ((m ≡ length list) × (new ≡ h)) → place_of now h.o ≡ Some m
    all m h (inr s) = rw (s.0, sym s.1, e) own
    all m h (inl there) = others h.o (λ s. absurd (let a = i.all m h there in let b = ap (λ q. place_of index q) s in cc (a, b, none))) ∙ i.all m h there

-- a signal and a pass are of one object
pub signal_of : (o q : Obj) (j : ℕ) → IsOf q (Signal o j) → q ≡ o
signal_of o q j (OfSignal i) = refl

pub pass_of : (o q : Obj) (c : ℕ) → IsOf q (Pass o c) → q ≡ o
pass_of o q c (OfPass d) = refl

-- what is below the next place is below the place, or the place
below_next : (x y : Place) → IsBelow x (next_place y) → IsBelow x y ⊎ (x ≡ y)
below_next x y (inl lt) = inl (inl lt)
below_next x y (inr (p, lt)) = go (cases_eq x.i y.i)
  where
    go : (x.i ≡ y.i) ⊎ (x.i ≡ y.i → ⊥) → IsBelow x y ⊎ (x ≡ y)
    go (inl e) = inr (same_place x y p e)
    go (inr d) = inl (inr (p, omega (arith, lt, d)))

pub same_entry : (ts : Traces) (x : Place) (e f : Entry) → Holds ts x e → Holds ts x f → e ≡ f
same_entry ts x e f h k = same_Some e f (sym h ∙ k)

module _ (ts : Traces) (y : Place) (e : Entry) (here : Holds ts y e) where
  -- an entry of another object, or of none
  pub signs_other : (o : Obj) (signals : List Mark) (counts : List ℕ) → (IsOf o e → ⊥) → AreSigns ts o y signals counts → AreSigns ts o (next_place y) signals counts
  signs_other o signals counts none g =
      record {
        signal = λ x j h b. signal x j h (below_next x y b);
        only = g.only;
        pass = λ x c h b. pass x c h (below_next x y b);
      }
    where
      signal : (x : Place) (j : ℕ) → Holds ts x (Signal o j) → IsBelow x y ⊎ (x ≡ y) → Contains signals (record { j = j; place = x })
      signal x j h (inl b) = g.signal x j h b
      signal x j h (inr s) = absurd (none (subst (λ f. IsOf o f) (same_entry ts y (Signal o j) e (subst (λ z. Holds ts z (Signal o j)) s h) here) (OfSignal j)))

      pass : (x : Place) (c : ℕ) → Holds ts x (Pass o c) → IsBelow x y ⊎ (x ≡ y) → Contains counts c
      pass x c h (inl b) = g.pass x c h b
      pass x c h (inr s) = absurd (none (subst (λ f. IsOf o f) (same_entry ts y (Pass o c) e (subst (λ z. Holds ts z (Pass o c)) s h) here) (OfPass c)))

  -- a signal
  pub signs_signal : (o : Obj) (n : ℕ) (signals : List Mark) (counts : List ℕ) → e ≡ Signal o n → AreSigns ts o y signals counts → AreSigns ts o (next_place y) (signals ++ record { j = n; place = y } ∷ []) counts
  signs_signal o n signals counts is g =
      record {
        signal = λ x j h b. signal x j h (below_next x y b);
        only = λ m h. let k = at_contained (signals ++ new ∷ []) m h in only m (k.0, get_push signals new m k.0 k.1);
        pass = λ x c h b. pass x c h (below_next x y b);
      }
    where
      new : Mark
      new = record { j = n; place = y }

      signal : (x : Place) (j : ℕ) → Holds ts x (Signal o j) → IsBelow x y ⊎ (x ≡ y) → Contains (signals ++ new ∷ []) (record { j = j; place = x })
      signal x j h (inl b) =
          let k = at_contained signals (record { j = j; place = x }) (g.signal x j h b) in
          contains_at (signals ++ new ∷ []) k.0 (record { j = j; place = x }) (get_push_old signals new (record { j = j; place = x }) k.0 k.1)
      signal x j h (inr s) =
          let f : Signal o n ≡ Signal o j = sym is ∙ same_entry ts y e (Signal o j) here (subst (λ z. Holds ts z (Signal o j)) s h) in
          let number : n ≡ j = cc f in
          let same : new ≡ record { j = j; place = x } = λ i. record { j = number i; place = (sym s) i } in
          contains_at (signals ++ new ∷ []) (length signals) (record { j = j; place = x }) (get_push_new signals new ∙ ap Some same)

      only : (m : Mark) → (k : ℕ) × ((slice_get signals k ≡ Some m) ⊎ ((k ≡ length signals) × (new ≡ m))) → Holds ts m.place (Signal o m.j)
      only m (k, inl at) = g.only m (contains_at signals k m at)
      only m (k, inr s) = rw (sym s.1) (here ∙ ap Some is)

      pass : (x : Place) (c : ℕ) → Holds ts x (Pass o c) → IsBelow x y ⊎ (x ≡ y) → Contains counts c
      pass x c h (inl b) = g.pass x c h b
      pass x c h (inr s) = absurd (let f = sym is ∙ same_entry ts y e (Pass o c) here (subst (λ z. Holds ts z (Pass o c)) s h) in cc f)

  -- a pass
  pub signs_pass : (o : Obj) (n : ℕ) (signals : List Mark) (counts : List ℕ) → e ≡ Pass o n → AreSigns ts o y signals counts → AreSigns ts o (next_place y) signals (counts ++ n ∷ [])
  signs_pass o n signals counts is g =
      record {
        signal = λ x j h b. signal x j h (below_next x y b);
        only = g.only;
        pass = λ x c h b. pass x c h (below_next x y b);
      }
    where
      signal : (x : Place) (j : ℕ) → Holds ts x (Signal o j) → IsBelow x y ⊎ (x ≡ y) → Contains signals (record { j = j; place = x })
      signal x j h (inl b) = g.signal x j h b
      signal x j h (inr s) = absurd (let f = sym is ∙ same_entry ts y e (Signal o j) here (subst (λ z. Holds ts z (Signal o j)) s h) in cc f)

      pass : (x : Place) (c : ℕ) → Holds ts x (Pass o c) → IsBelow x y ⊎ (x ≡ y) → Contains (counts ++ n ∷ []) c
      pass x c h (inl b) = let k = at_contained counts c (g.pass x c h b) in contains_at (counts ++ n ∷ []) k.0 c (get_push_old counts n c k.0 k.1)
      pass x c h (inr s) =
          let f : Pass o n ≡ Pass o c = sym is ∙ same_entry ts y e (Pass o c) here (subst (λ z. Holds ts z (Pass o c)) s h) in
          let number : n ≡ c = cc f in
          contains_at (counts ++ n ∷ []) (length counts) c (get_push_new counts n ∙ ap Some number)

  -- an entry of no object
  pub added_other : (gates : Gates) → ((o : Obj) → IsOf o e → ⊥) → AreAdded ts y gates → AreAdded ts (next_place y) gates
  added_other gates none g =
      record {
        indexed = g.indexed;
        each = λ k h at. ((g.each k h at).0, signs_other h.o h.signals.items h.counts.items (none h.o) (g.each k h at).1);
        all = λ x f o h is b. all x f o h is (below_next x y b);
      }
    where
      all : (x : Place) (f : Entry) (o : Obj) → Holds ts x f → IsOf o f → IsBelow x y ⊎ (x ≡ y) → (k : ℕ) × (place_of gates.index o ≡ Some k)
      all x f o h is (inl b) = g.all x f o h is b
      all x f o h is (inr s) = absurd (none o (subst (λ d. IsOf o d) (same_entry ts y f e (subst (λ z. Holds ts z f) s h) here) is))

  -- an entry of an object that is there
  pub added_one : (old new : Gates) (k : ℕ) (g h : Gate) (o : Obj) → AreAdded ts y old → new.index ≡ old.index → new.list.items ≡ slice_set old.list.items k h → slice_get old.list.items k ≡ Some g → h.o ≡ g.o → g.o ≡ o → IsOf o e → ((q : Obj) → IsOf q e → q ≡ o)
      → IsNew h → (AreSigns ts g.o y g.signals.items g.counts.items → AreSigns ts g.o (next_place y) h.signals.items h.counts.items) → AreAdded ts (next_place y) new
  added_one old new k g h o a index list at same named of unique fresh signs =
      record {
        indexed = rw (index, list) (indexed_set old.index old.list.items k g h a.indexed at same);
        each = λ m d there. each m d (get_set old.list.items k m h d (ap (λ xs. slice_get xs m) (sym list) ∙ there));
        all = λ x f q held is b. all x f q held is (below_next x y b);
      }
    where
      each : (m : ℕ) (d : Gate) → ((m ≡ k) × (d ≡ h) × (m < length old.list.items)) ⊎ ((m ≢ k) × (slice_get old.list.items m ≡ Some d)) → IsNew d × AreSigns ts d.o (next_place y) d.signals.items d.counts.items
      each m d (inl s) = rw s.1 (fresh, rw same (signs (a.each k g at).1))
      each m d (inr n) =
          ((a.each m d n.1).0, signs_other d.o d.signals.items d.counts.items (λ is. n.0 (one_place old.index old.list.items a.indexed m k d g n.1 at (unique d.o is ∙ sym named))) (a.each m d n.1).1)

      all : (x : Place) (f : Entry) (q : Obj) → Holds ts x f → IsOf q f → IsBelow x y ⊎ (x ≡ y) → (n : ℕ) × (place_of new.index q ≡ Some n)
      all x f q held is (inl b) = let r = a.all x f q held is b in (r.0, ap (λ i. place_of i q) index ∙ r.1)
      all x f q held is (inr s) =
          let e_of : IsOf q e = subst (λ d. IsOf q d) (same_entry ts y f e (subst (λ z. Holds ts z f) s held) here) is in
          (k, ap (λ i. place_of i q) index ∙ (ap (λ c. place_of old.index c) (unique q e_of ∙ sym named) ∙ a.indexed.all k g at))

-- an object that no entry has yet is put behind the others
pub added_push : (ts : Traces) (bound : Place) (old new : Gates) (o : Obj) (h : Gate) → AreAdded ts bound old → place_of old.index o ≡ None → place_of new.index o ≡ Some (length old.list.items) → ((q : Obj) → q ≢ o → place_of new.index q ≡ place_of old.index q)
    → new.list.items ≡ old.list.items ++ h ∷ [] → h.o ≡ o → IsNew h → h.signals.items ≡ [] → h.counts.items ≡ [] → AreAdded ts bound new
added_push ts bound old new o h a none own others list named fresh signals counts =
    record {
      indexed = rw list (indexed_push old.index new.index old.list.items o h a.indexed none own others named);
      each = λ m d at. each m d (get_push old.list.items h d m (ap (λ xs. slice_get xs m) (sym list) ∙ at));
      all = λ x f q held is b. all q (a.all x f q held is b) (obj_cases q o);
    }
  where
    each : (m : ℕ) (d : Gate) → (slice_get old.list.items m ≡ Some d) ⊎ ((m ≡ length old.list.items) × (h ≡ d)) → IsNew d × AreSigns ts d.o bound d.signals.items d.counts.items
    each m d (inl at) = a.each m d at
    each m d (inr s) =
        rw (sym s.1) (
          fresh,
          rw (named, signals, counts)
              (record {
                signal = λ x j held b. absurd (let r = a.all x (Signal o j) o held (OfSignal j) b in let p = r.1 in cc (p, none));
                only = λ m c. absurd (let lt = c.1 in omega (arith, lt));
                pass = λ x c held b. absurd (let r = a.all x (Pass o c) o held (OfPass c) b in let p = r.1 in cc (p, none));
              }),
        )

    all : (q : Obj) → (k : ℕ) × (place_of old.index q ≡ Some k) → (q ≡ o) ⊎ (q ≢ o) → (k : ℕ) × (place_of new.index q ≡ Some k)
    all q r (inl s) = (length old.list.items, ap (λ a. place_of new.index a) s ∙ own)
    all q r (inr d) = (r.0, others q d ∙ r.1)

-- a bound that is as good
pub rebound : (ts : Traces) (low high : Place) (gates : Gates) → ((x : Place) (e : Entry) → Holds ts x e → IsBelow x high → IsBelow x low) → AreAdded ts low gates → AreAdded ts high gates
rebound ts low high gates down a =
    record {
      indexed = a.indexed;
      each = λ k g at.
          let s = (a.each k g at).1 in
          ((a.each k g at).0, record { signal = λ x j h b. s.signal x j h (down x (Signal g.o j) h b); only = s.only; pass = λ x c h b. s.pass x c h (down x (Pass g.o c) h b) });
      all = λ x e o h is b. a.all x e o h is (down x e h b);
    }

-- the end of a trace is as good as the start of the next
pub trace_end : (ts : Traces) (p i : ℕ) (t : List Entry) (gates : Gates) → slice_get ts p ≡ Some t → length t ≤ i → AreAdded ts (record { p = p; i = i }) gates → AreAdded ts (first_place (p + 1)) gates
trace_end ts p i t gates at le a = rebound ts (record { p = p; i = i }) (first_place (p + 1)) gates (λ x e h b. down x e h b) a
  where
    in_trace : (x : Place) (e : Entry) → Holds ts x e → (x.p ≡ p) ⊎ (x.p ≡ p → ⊥) → x.p < p + 1 → IsBelow x (record { p = p; i = i })
    in_trace x e h (inr d) lt = inl (omega (arith, lt, d))
    in_trace x e h (inl s) lt =
        let v = within ts x e h in
        let r : v.trace ≡ t = same_Some v.trace t (sym v.at ∙ (ap (λ q. slice_get ts q) s ∙ at)) in
        let n : length v.trace ≡ length t = ap length r in
        inr (s, omega (arith, v.inside, n, le))

    down : (x : Place) (e : Entry) → Holds ts x e → IsBelow x (first_place (p + 1)) → IsBelow x (record { p = p; i = i })
    down x e h (inl lt) = in_trace x e h (cases_eq x.p p) lt
    down x e h (inr s) = absurd (let lt = s.1 in omega (arith, lt))

-- all objects in order
pub all_ordered_gates : (ts : Traces) (done : List ℕ) (old new : Gates) (n : ℕ) → CountsNone done → AreAdded ts (first_place (length ts)) old → new.index ≡ old.index → AreOrdered n old.list.items new.list.items → length new.list.items ≤ n → AreGates ts done new
all_ordered_gates ts done old new n none a index o le =
    record {
      indexed = record { found = λ q k h. found q k (a.indexed.found q k (sym (ap (λ i. place_of i q) index) ∙ h)); all = λ k h at. all k h at (was k h at) };
      each = λ k h at. each k h at (was k h at);
      all = λ x e q h is. let r = a.all x e q h is (below_end ts x e h) in (r.0, ap (λ i. place_of i q) index ∙ r.1);
    }
  where
    was : (k : ℕ) (h : Gate) → slice_get new.list.items k ≡ Some h → (g : Gate) × (slice_get old.list.items k ≡ Some g)
    was k h at = item_there old.list.items k (let w = slice_get_within new.list.items k h at in omega (arith, w, o.len))

    order_of : (k : ℕ) (h : Gate) → slice_get new.list.items k ≡ Some h → (r : (g : Gate) × (slice_get old.list.items k ≡ Some g)) → IsOrderOf r.0 h
    order_of k h at r = o.low k r.0 h (let w = slice_get_within new.list.items k h at in omega (arith, w, le)) r.1 at

    found : (q : Obj) (k : ℕ) → (g : Gate) × (slice_get old.list.items k ≡ Some g) × (g.o ≡ q) → (h : Gate) × (slice_get new.list.items k ≡ Some h) × (h.o ≡ q)
    found q k (g, at, e) =
        let r = item_there new.list.items k (let w = slice_get_within old.list.items k g at in omega (arith, w, o.len)) in
        (r.0, r.1, (order_of k r.0 r.1 (g, at)).o ∙ e)

    all : (k : ℕ) (h : Gate) → slice_get new.list.items k ≡ Some h → (g : Gate) × (slice_get old.list.items k ≡ Some g) → place_of new.index h.o ≡ Some k
    all k h at r = rw (index, (order_of k h at r).o) (a.indexed.all k r.0 r.1)

    each : (k : ℕ) (h : Gate) → slice_get new.list.items k ≡ Some h → (g : Gate) × (slice_get old.list.items k ≡ Some g) → IsGateOf ts done h
    each k h at r = (order_of k h at r).gate ts done none (a.each k r.0 r.1).0 (a.each k r.0 r.1).1

-- one object more is put in order
pub ordered_more : (k : ℕ) (old now : List Gate) (g h : Gate) → AreOrdered k old now → slice_get now k ≡ Some g → IsOrderOf g h → AreOrdered (k + 1) old (slice_set now k h)
ordered_more k old now g h o at is =
    record {
      len = length-set now k h ∙ o.len;
      low = λ m a b lt p q. low m a b lt p (get_set now k m h b q);
      high = λ m b le q. high m b le (get_set now k m h b q);
    }
  where
    low : (m : ℕ) (a b : Gate) → m < k + 1 → slice_get old m ≡ Some a → ((m ≡ k) × (b ≡ h) × (m < length now)) ⊎ ((m ≢ k) × (slice_get now m ≡ Some b)) → IsOrderOf a b
    low m a b lt p (inr d) = o.low m a b (omega (arith, lt, d.0)) p d.1
    low m a b lt p (inl s) =
        let there : slice_get old k ≡ Some g = o.high k g (omega arith) at in
        let same : g ≡ a = same_Some g a (sym there ∙ (ap (λ n. slice_get old n) (sym s.0) ∙ p)) in
        rw (s.1, sym same) is

    high : (m : ℕ) (b : Gate) → k + 1 ≤ m → ((m ≡ k) × (b ≡ h) × (m < length now)) ⊎ ((m ≢ k) × (slice_get now m ≡ Some b)) → slice_get old m ≡ Some b
    high m b le (inr d) = o.high m b (omega (arith, le)) d.1
    high m b le (inl s) = absurd (omega (arith, le, s.0))

-- one object is put for one of the same name, and what each is now follows from what it was
pub gates_set : (ts : Traces) (before now : List ℕ) (old new : Gates) (k : ℕ) (g h : Gate) → AreGates ts before old → new.index ≡ old.index → new.list.items ≡ slice_set old.list.items k h → slice_get old.list.items k ≡ Some g → h.o ≡ g.o
    → (IsGateOf ts before g → IsGateOf ts now h) → ((m : ℕ) (d : Gate) → m ≢ k → slice_get old.list.items m ≡ Some d → IsGateOf ts before d → IsGateOf ts now d) → AreGates ts now new
gates_set ts before now old new k g h a index list at same own others =
    record {
      indexed = rw (index, list) (indexed_set old.index old.list.items k g h a.indexed at same);
      each = λ m d there. each m d (get_set old.list.items k m h d (ap (λ xs. slice_get xs m) (sym list) ∙ there));
      all = λ x e o held is. let r = a.all x e o held is in (r.0, ap (λ i. place_of i o) index ∙ r.1);
    }
  where
    each : (m : ℕ) (d : Gate) → ((m ≡ k) × (d ≡ h) × (m < length old.list.items)) ⊎ ((m ≢ k) × (slice_get old.list.items m ≡ Some d)) → IsGateOf ts now d
    each m d (inl s) = rw s.1 (own (a.each k g at))
    each m d (inr n) = others m d n.0 n.1 (a.each m d n.1)

module _ (ts : Traces) (before : List ℕ) (y : Place) (clock now : List ℕ) (v : IsVisit ts before y clock now) where
  -- an entry that is no signal is visited
  pub gates_other : (gates : Gates) → ((o : Obj) (j : ℕ) → Holds ts y (Signal o j) → ⊥) → AreGates ts before gates → AreGates ts now gates
  gates_other gates none a =
      record {
        indexed = a.indexed;
        each = λ k g at. unsignalled ts before g.o g.signals.items g.seen g.counts.items g.clocks.items g.closed g.all (a.each k g at) y clock now v (none g.o);
        all = a.all;
      }

  -- a signal is visited
  pub gates_signal : (o : Obj) (j : ℕ) (old new : Gates) (k : ℕ) (g h : Gate) → Holds ts y (Signal o j) → AreGates ts before old → new.index ≡ old.index → new.list.items ≡ slice_set old.list.items k h → slice_get old.list.items k ≡ Some g → h.o ≡ g.o → g.o ≡ o
      → (IsGateOf ts before g → IsGateOf ts now h) → AreGates ts now new
  gates_signal o j old new k g h held a index list at same named own = gates_set ts before now old new k g h a index list at same own others
    where
      others : (m : ℕ) (d : Gate) → m ≢ k → slice_get old.list.items m ≡ Some d → IsGateOf ts before d → IsGateOf ts now d
      others m d n there i =
          unsignalled ts before d.o d.signals.items d.seen d.counts.items d.clocks.items d.closed d.all i y clock now v
          (λ l also. let f : Signal d.o l ≡ Signal o j = same_entry ts y (Signal d.o l) (Signal o j) also held in n (one_place old.index old.list.items a.indexed m k d g there at (cc (f, named))))

-- where an object is not there, none of its signals is
pub no_signal : (ts : Traces) (done : List ℕ) (gates : Gates) (o : Obj) → AreGates ts done gates → place_of gates.index o ≡ None → (z : Place) (j : ℕ) → Holds ts z (Signal o j) → ⊥
no_signal ts done gates o a none z j h = let r = a.all z (Signal o j) o h (OfSignal j) in let p = r.1 in absurd (cc (p, none))

pub no_pass : (ts : Traces) (done : List ℕ) (gates : Gates) (o : Obj) → AreGates ts done gates → place_of gates.index o ≡ None → (z : Place) (c : ℕ) → Holds ts z (Pass o c) → ⊥
no_pass ts done gates o a none z c h = let r = a.all z (Pass o c) o h (OfPass c) in let p = r.1 in absurd (cc (p, none))

-- an object as the code reads it
pub at_place : (index : Index) (list : List Gate) (o : Obj) (k : ℕ) (g : Gate) → IsIndexed index list → place_of index o ≡ Some k → g ≡ get_or list k g → (slice_get list k ≡ Some g) × (g.o ≡ o)
at_place index list o k g i h is =
    let r = i.found o k h in
    let at = slice_get_read list (length list) k g refl (slice_get_within list k r.0 r.1) is in
    (at, ap (λ a. a.o) (same_Some g r.0 (sym at ∙ r.1)) ∙ r.2)
