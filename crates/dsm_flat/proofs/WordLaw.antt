-- The law for one word, over the list of its accesses.
use Rattle.std.proofs.Common.{◌≡◌, ◌≢◌, ℕ, zero, suc, ◌<◌, ◌⊎◌, List, [], ◌∷◌, Some, refl, sym, ap, ◌∙◌, subst, inl, inr, arith}
use Rattle.std.specs.Prelude.{slice_get}
use Rattle.dsm_entry.specs.declared.entry.Entry.{Entry}
use Rattle.dsm_entry.specs.declared.entry.Entry.TheVariants.{Load, Store}
use Rattle.dsm_entry.specs.declared.entry.Place.{Place}
use Rattle.dsm_flat.specs.Order.{Traces, Holds, Before}
use Rattle.dsm_flat.specs.Flat.{IsStore, Stores, IsAccess, Ordered, Last, Never, Stored, Final, Untouched, Closed, Flat, Sourced}
use Rattle.dsm_flat.specs.Laws.{Raises}
use Rattle.dsm_flat.specs.WordLaw.{Made, left_by, latest, Gets, InOrder, Falls, AreAccesses, WordIsFlat, WordIsHandedOver}
use Rattle.dsm_flat.proofs.OrderLaws.{raised, carried}

-- a list without its newest access
falls_older : (rank : Place → ℕ) (m : Made) (older : List Made) → Falls rank (m ∷ older) → Falls rank older
falls_older rank m older falls i j a b lt = falls (suc i) (suc j) a b (omega (arith, lt))

-- v is that of the store of highest rank in the list, or there is no store and it is initial
data Cause (initial : ℕ) (rank : Place → ℕ) (list : List Made) (v : ℕ) : Type 0 where
  Start : v ≡ initial → ((i : ℕ) (m : Made) (w u : ℕ) → slice_get list i ≡ Some m → m.entry ≡ Store w u → ⊥) → Cause initial rank list v
  From : (i : ℕ) (m : Made) (w : ℕ) → slice_get list i ≡ Some m → m.entry ≡ Store w v
      → ((j : ℕ) (n : Made) (w u : ℕ) → slice_get list j ≡ Some n → n.entry ≡ Store w u → n.place ≢ m.place → rank n.place < rank m.place)
      → Cause initial rank list v

-- the latest store is that of highest rank
latest_is : (initial : ℕ) (rank : Place → ℕ) (list : List Made) → Falls rank list → Cause initial rank list (latest initial list)
latest_is initial rank [] falls = Start refl (λ i m w u h e. absurd (cc h))
latest_is initial rank (m ∷ older) falls = go m.entry refl (latest_is initial rank older (falls_older rank m older falls))
  where
    -- the newest access is no store
    past : (v : ℕ) → ((w u : ℕ) → m.entry ≡ Store w u → ⊥) → Cause initial rank older v → Cause initial rank (m ∷ older) v
    past v other (Start e none) = Start e pick
      where
        pick : (i : ℕ) (n : Made) (w u : ℕ) → slice_get (m ∷ older) i ≡ Some n → n.entry ≡ Store w u → ⊥
        pick zero n w u h s = other w u (cc (h, s))
        pick (suc i) n w u h s = none i n w u h s
    past v other (From i k w h e top) = From (suc i) k w h e pick
      where
        pick : (j : ℕ) (n : Made) (w u : ℕ) → slice_get (m ∷ older) j ≡ Some n → n.entry ≡ Store w u → n.place ≢ k.place → rank n.place < rank k.place
        pick zero n w u g s ne = absurd (other w u (cc (g, s)))
        pick (suc j) n w u g s ne = top j n w u g s ne

    go : (e : Entry) → m.entry ≡ e → Cause initial rank older (latest initial older) → Cause initial rank (m ∷ older) (left_by e (latest initial older))
    go (Store w v) is ih = From 0 m w refl is pick
      where
        pick : (j : ℕ) (n : Made) (w' u : ℕ) → slice_get (m ∷ older) j ≡ Some n → n.entry ≡ Store w' u → n.place ≢ m.place → rank n.place < rank m.place
        pick zero n w' u g s ne = absurd (ne (cc g))
        pick (suc j) n w' u g s ne = falls 0 (suc j) m n (omega arith) refl g
    go e is ih = past (latest initial older) (λ w u s. absurd (cc (is, s))) ih

-- the accesses that were made before m, with the value that m has if it is a load
record Past (initial : ℕ) (rank : Place → ℕ) (list : List Made) (m : Made) : Type 0 where
  older : List Made
  falls : Falls rank older
  gets : Gets m.entry (latest initial older)
  from : (k : ℕ) (n : Made) → slice_get older k ≡ Some n → (j : ℕ) × (slice_get list j ≡ Some n) × (rank n.place < rank m.place)
  upto : (j : ℕ) (n : Made) → slice_get list j ≡ Some n → rank n.place < rank m.place → (k : ℕ) × (slice_get older k ≡ Some n)

-- each access of the list has a past
past_of : (initial : ℕ) (rank : Place → ℕ) (list : List Made) (i : ℕ) (m : Made) → Falls rank list → InOrder initial list → slice_get list i ≡ Some m → Past initial rank list m
past_of initial rank [] i m falls ok h = absurd (cc h)
past_of initial rank (a ∷ older) zero m falls ok h =
    let is : a ≡ m = cc h in
    record {
      older = older;
      falls = falls_older rank a older falls;
      gets = subst (λ e. Gets e (latest initial older)) (ap (λ x. x.entry) is) ok.0;
      from = λ k n g. (suc k, g, falls 0 (suc k) m n (omega arith) h g);
      upto = pick;
    }
  where
    pick : (j : ℕ) (n : Made) → slice_get (a ∷ older) j ≡ Some n → rank n.place < rank m.place → (k : ℕ) × (slice_get older k ≡ Some n)
    pick zero n g lt = absurd (let same : n ≡ m = cc (g, h) in let r : rank n.place ≡ rank m.place = ap (λ x. rank x.place) same in omega (arith, lt, r))
    pick (suc j) n g lt = (j, g)
past_of initial rank (a ∷ older) (suc i) m falls ok h =
    let p = past_of initial rank older i m (falls_older rank a older falls) ok.1 h in
    record {
      older = p.older;
      falls = p.falls;
      gets = p.gets;
      from = λ k n g. let f = p.from k n g in (suc f.0, f.1, f.2);
      upto = pick p;
    }
  where
    pick : (p : Past initial rank older m) (j : ℕ) (n : Made) → slice_get (a ∷ older) j ≡ Some n → rank n.place < rank m.place → (k : ℕ) × (slice_get p.older k ≡ Some n)
    pick p zero n g lt = absurd (omega (arith, lt, falls 0 (suc i) n m (omega arith) g h))
    pick p (suc j) n g lt = p.upto j n g lt

-- what was made later is not before
not_later : (ts : Traces) (rank : Place → ℕ) (x y : Place) → Raises ts rank → rank x < rank y → Before ts y x → ⊥
not_later ts rank x y raises lt b = absurd (let r = raised ts rank y x raises b in omega (arith, lt, r))

-- two places of an ordered word come in the order of their ranks
in_turn : (ts : Traces) (rank : Place → ℕ) (w : ℕ) (x y : Place) → Raises ts rank → Ordered ts w → IsAccess ts w x → IsAccess ts w y → IsStore ts w x ⊎ IsStore ts w y → rank x < rank y → Before ts x y
in_turn ts rank w x y raises ord a b s lt = go (ord x y (apart, a, b, s))
  where
    apart : x ≢ y
    apart e = absurd (let r : rank x ≡ rank y = ap rank e in omega (arith, lt, r))

    go : Before ts x y ⊎ Before ts y x → Before ts x y
    go (inl f) = f
    go (inr f) = absurd (not_later ts rank x y raises lt f)

pub handed_over : WordIsHandedOver
handed_over ts rank w x y raises ord s a lt ne = carried ts rank x y raises (in_turn ts rank w x y raises ord (s.0, inr s.1) a (inl s) lt) ne

module _ (ts : Traces) (rank : Place → ℕ) (initial w : ℕ) (list : List Made) (raises : Raises ts rank) (are : AreAccesses ts w rank list) (ok : InOrder initial list) where
  -- an access that the traces hold is in the list
  listed : (x : Place) (e : Entry) → Holds ts x e → IsAccess ts w x → (i : ℕ) × (slice_get list i ≡ Some (record { place = x; entry = e }))
  listed x e h a =
      let f = are.all x a in
      let held : Holds ts x f.1.entry = subst (λ z. Holds ts z f.1.entry) f.3 (are.held f.0 f.1 f.2).0 in
      let same : f.1.entry ≡ e = cc (held, h) in
      let both : f.1 ≡ record { place = x; entry = e } = λ k. record { place = f.3 k; entry = same k } in
      (f.0, f.2 ∙ ap (λ m. Some m) both)

  listed_store : (y : Place) (s : IsStore ts w y) → (i : ℕ) × (slice_get list i ≡ Some (record { place = y; entry = Store w s.0 }))
  listed_store y s = listed y (Store w s.0) s.1 (s.0, inr s.1)

  -- a store of the list is one to w in the traces
  is_store : (i : ℕ) (m : Made) (u v : ℕ) → slice_get list i ≡ Some m → m.entry ≡ Store u v → Stores ts w m.place v
  is_store i m u v h e = let f = are.held i m h in go f.0 f.1.1
    where
      go : {a : ℕ} → Holds ts m.place m.entry → (Holds ts m.place (Load w a) ⊎ Holds ts m.place (Store w a)) → Stores ts w m.place v
      go here (inl l) = absurd (cc (here, l, e))
      go here (inr s) = let same : u ≡ w = cc (here, s, e) in cc (here, e, same)

  -- the latest of the stores made before a load
  cause : (x : Place) (v : ℕ) → Holds ts x (Load w v) → (p : Past initial rank list (record { place = x; entry = Load w v })) × Cause initial rank p.older v
  cause x v h =
      let f = listed x (Load w v) h (v, inl h) in
      let p = past_of initial rank list f.0 _ are.falls ok f.1 in
      (p, subst (λ u. Cause initial rank p.older u) (sym p.gets) (latest_is initial rank p.older p.falls))

  sourced : Sourced ts initial w
  sourced x v h = let f = cause x v h in go f.0 f.1
    where
      go : (p : Past initial rank list (record { place = x; entry = Load w v })) → Cause initial rank p.older v → (v ≡ initial) ⊎ ((y : Place) × Stores ts w y v × (Before ts x y → ⊥))
      go p (Start e none) = inl e
      go p (From i m u at s top) = let g = p.from i m at in inr (m.place, is_store g.0 m u v g.1 s, not_later ts rank m.place x raises g.2)

  flat : Ordered ts w → Flat ts initial w
  flat ord x v h = let f = cause x v h in go f.0 f.1
    where
      old : (p : Past initial rank list (record { place = x; entry = Load w v })) (y : Place) (s : IsStore ts w y) → Before ts y x → (k : ℕ) × (slice_get p.older k ≡ Some (record { place = y; entry = Store w s.0 }))
      old p y s b = let f = listed_store y s in p.upto f.0 _ f.1 (raised ts rank y x raises b)

      go : (p : Past initial rank list (record { place = x; entry = Load w v })) → Cause initial rank p.older v → Last ts initial w x v
      go p (Start e none) = Never (λ y s b. let g = old p y s b in none g.0 _ w s.0 g.1 refl) e
      go p (From i m u at s top) =
          let g = p.from i m at in
          let st = is_store g.0 m u v g.1 s in
          Stored m.place st (in_turn ts rank w m.place x raises ord (v, inr st) (v, inl h) (inl (v, st)) g.2)
          (λ y z b ne. in_turn ts rank w y m.place raises ord (z.0, inr z.1) (v, inr st) (inl z) (let k = old p y z b in top k.0 _ w z.0 k.1 refl ne))

  final_value : Ordered ts w → Final ts initial w (latest initial list)
  final_value ord = go (latest_is initial rank list are.falls)
    where
      go : {v : ℕ} → Cause initial rank list v → Final ts initial w v
      go (Start e none) = Untouched (λ y s. let f = listed_store y s in none f.0 _ w s.0 f.1 refl) e
      go {v} (From i m u at s top) =
          let st = is_store i m u v at s in
          Closed m.place st
          (λ y z ne. let f = listed_store y z in
          in_turn ts rank w y m.place raises ord (z.0, inr z.1) (v, inr st) (inl z) (top f.0 _ w z.0 f.1 refl ne))

pub word_is_flat : WordIsFlat
word_is_flat ts rank initial w list raises are ok =
    (sourced ts rank initial w list raises are ok, flat ts rank initial w list raises are ok, final_value ts rank initial w list raises are ok)
