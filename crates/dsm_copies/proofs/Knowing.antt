-- Who knows the last store, by the log.
use Rattle.std.proofs.Common.{◌≡◌, ℕ, ◌<◌, ◌⊎◌, Bool, true, false, Option, None, Some, List, [], ◌∷◌, refl, sym, ap, ◌∙◌, subst, inl, inr, arith, if◌then◌else◌, ◌==◌}
use Rattle.std.specs.Prelude.{◌||◌}
use Rattle.std.proofs.lemmas.Bool.{eq-eqb, eqb-true}
use Rattle.dsm_entry.specs.declared.entry.Obj.{Obj}
use Rattle.dsm_entry.specs.declared.entry.Entry.{Entry}
use Rattle.dsm_entry.specs.declared.entry.Entry.TheVariants.{Load as LoadOf, Store as StoreOf, Signal as SignalOf, Pass as PassOf}
use Rattle.dsm_entry.specs.declared.entry.Place.{Place}
use Rattle.dsm_flat.specs.Logs.{Deed, Log, Was, rank, newest, IsOld, IsNewest}
use Rattle.dsm_flat.proofs.History.{one_more, old_stays, newest_is_there}
use Rattle.dsm_copies.specs.Copies.{State, Event, Load, Store, Signal, Pass, is_by, put, store_at, after_event, after, start}
use Rattle.dsm_copies.specs.Premises.{Every}
use Rattle.dsm_copies.specs.Joining.{is_deed, deeds_in, event_of, onto, deeds_of}
use Rattle.dsm_copies.proofs.Holds.{each_put}
use Rattle.dsm_copies.proofs.Events.{or_left, or_right}
use Rattle.dsm_copies.proofs.Deeds.{SameKnown, split, none_known}

-- x is the last store, by p: a later signal of p releases it, and whoever passes after such a signal knows it
pub record IsLast (w : ℕ) (log : Log) (s : State) (p : ℕ) : Type 0 where
  pub x : Place
  pub v : ℕ
  pub was : Was log x (StoreOf w v)
  pub own : x.p ≡ p
  pub maker : s.knows p ≡ true
  pub signals : (a : Place) (o : Obj) (j : ℕ) → Was log a (SignalOf o j) → a.p ≡ p → rank log x < rank log a → s.released ≡ true
  pub passes : (a b : Place) (o q : Obj) (j c : ℕ) → Was log a (SignalOf o j) → a.p ≡ p → rank log x < rank log a
      → Was log b (PassOf q c) → rank log a < rank log b → s.knows b.p ≡ true

-- what is known of the last store behind a log
pub record Knowing (w : ℕ) (log : Log) (s : State) : Type 0 where
  pub none : s.by ≡ None → (s.released ≡ true) × ((q : ℕ) → s.knows q ≡ true)
  pub some : (p : ℕ) → s.by ≡ Some p → IsLast w log s p

-- a deed that is no store to the word, and what it makes known
record Goes (d : Deed) (s s' : State) : Type 0 where
  by : s'.by ≡ s.by
  released : s.released ≡ true → s'.released ≡ true
  knows : (q : ℕ) → s.knows q ≡ true → s'.knows q ≡ true
  signal : (o : Obj) (j : ℕ) → d.e ≡ SignalOf o j → s.by ≡ Some d.p → s'.released ≡ true
  pass : (o : Obj) (c : ℕ) → d.e ≡ PassOf o c → s.released ≡ true → s'.knows d.p ≡ true

knowing_goes : (w : ℕ) (d : Deed) (log : Log) (s s' : State) → Goes d s s' → Knowing w log s → Knowing w (d ∷ log) s'
knowing_goes w d log s s' g k = record { none = λ e. let z = k.none (sym g.by ∙ e) in (g.released z.0, λ q. g.knows q (z.1 q)); some = λ p e. some p (sym g.by ∙ e) (k.some p (sym g.by ∙ e)) }
  where
    some : (p : ℕ) → s.by ≡ Some p → IsLast w log s p → IsLast w (d ∷ log) s' p
    some p by i =
        let stays = old_stays d log i.x (StoreOf w i.v) i.was in
        record { x = i.x; v = i.v; was = stays.0; own = i.own; maker = g.knows p i.maker; signals = signals stays.1; passes = passes stays.1 }
      where
        signals : IsOld d log i.x (StoreOf w i.v) → (a : Place) (o : Obj) (j : ℕ) → Was (d ∷ log) a (SignalOf o j) → a.p ≡ p → rank (d ∷ log) i.x < rank (d ∷ log) a → s'.released ≡ true
        signals x a o j h own lt = go (one_more d log a (SignalOf o j) h)
          where
            go : IsOld d log a (SignalOf o j) ⊎ IsNewest d log a (SignalOf o j) → s'.released ≡ true
            go (inl old) = g.released (i.signals a o j old.was own (let r = x.rank_same in let q = old.rank_same in omega (arith, lt, r, q)))
            go (inr new) = g.signal o j (sym new.entry_is) (by ∙ ap (λ z. Some z) (sym own ∙ new.own))

        passes : IsOld d log i.x (StoreOf w i.v) → (a b : Place) (o q : Obj) (j c : ℕ) → Was (d ∷ log) a (SignalOf o j) → a.p ≡ p → rank (d ∷ log) i.x < rank (d ∷ log) a
            → Was (d ∷ log) b (PassOf q c) → rank (d ∷ log) a < rank (d ∷ log) b → s'.knows b.p ≡ true
        passes x a b o q j c ha own lt hb up = go (one_more d log a (SignalOf o j) ha) (one_more d log b (PassOf q c) hb)
          where
            go : IsOld d log a (SignalOf o j) ⊎ IsNewest d log a (SignalOf o j) → IsOld d log b (PassOf q c) ⊎ IsNewest d log b (PassOf q c) → s'.knows b.p ≡ true
            go (inl m) (inl n) = g.knows b.p (i.passes a b o q j c m.was own (let r = x.rank_same in let t = m.rank_same in omega (arith, lt, r, t)) n.was (let r = m.rank_same in let t = n.rank_same in omega (arith, up, r, t)))
            go (inl m) (inr n) = subst (λ z. s'.knows z ≡ true) (sym n.own) (g.pass q c (sym n.entry_is) (i.signals a o j m.was own (let r = x.rank_same in let t = m.rank_same in omega (arith, lt, r, t))))
            go (inr m) (inl n) = absurd (let r = m.rank_is in let t = n.rank_same in let u = n.rank_below in omega (arith, up, r, t, u))
            go (inr m) (inr n) = absurd (let r = m.rank_is in let t = n.rank_is in omega (arith, up, r, t))

-- what happens to the copies
knowing_same : (w : ℕ) (log : Log) (s s' : State) → SameKnown s s' → Knowing w log s → Knowing w log s'
knowing_same w log s s' g k = record { none = λ e. let z = k.none (sym g.by ∙ e) in (g.released ∙ z.0, λ q. ap (λ f. f q) g.knows ∙ z.1 q); some = λ p e. some p (k.some p (sym g.by ∙ e)) }
  where
    some : (p : ℕ) → IsLast w log s p → IsLast w log s' p
    some p i = record { x = i.x; v = i.v; was = i.was; own = i.own; maker = ap (λ f. f p) g.knows ∙ i.maker; signals = λ a o j h own lt. g.released ∙ i.signals a o j h own lt; passes = λ a b o q j c h own lt f up. ap (λ f. f b.p) g.knows ∙ i.passes a b o q j c h own lt f up }

stored_by_it : (s : State) (p v : ℕ) (at : Option ℕ) → (store_at s p at v).by ≡ Some p
stored_by_it s p v None = refl
stored_by_it s p v (Some n) = refl

maker_knows : (s : State) (p v : ℕ) (at : Option ℕ) → (store_at s p at v).knows p ≡ true
maker_knows s p v None = eq-eqb p p refl
maker_knows s p v (Some n) = eq-eqb p p refl

-- a store to the word
knowing_store : (w : ℕ) (d : Deed) (log : Log) (s : State) (v : ℕ) (at : Option ℕ) → d.e ≡ StoreOf w v → Knowing w (d ∷ log) (store_at s d.p at v)
knowing_store w d log s v at is = record { none = λ e. absurd (let z : Some d.p ≡ None = sym (stored_by_it s d.p v at) ∙ e in cc z); some = λ p e. some p (let z : Some d.p ≡ Some p = sym (stored_by_it s d.p v at) ∙ e in cc z) }
  where
    there : Was (d ∷ log) (newest d log) d.e × IsNewest d log (newest d log) d.e
    there = newest_is_there d log

    -- nothing is newer
    top : (a : Place) (e : Entry) → Was (d ∷ log) a e → rank (d ∷ log) (newest d log) < rank (d ∷ log) a → ⊥
    top a e h lt = go (one_more d log a e h)
      where
        go : IsOld d log a e ⊎ IsNewest d log a e → ⊥
        go (inl old) = absurd (let r = there.1.rank_is in let t = old.rank_same in let u = old.rank_below in omega (arith, lt, r, t, u))
        go (inr new) = absurd (let r = there.1.rank_is in let t = new.rank_is in omega (arith, lt, r, t))

    some : (p : ℕ) → d.p ≡ p → IsLast w (d ∷ log) (store_at s d.p at v) p
    some p own = record {
      x = newest d log;
      v = v;
      was = subst (λ e. Was (d ∷ log) (newest d log) e) is there.0;
      own = own;
      maker = subst (λ q. (store_at s d.p at v).knows q ≡ true) own (maker_knows s d.p v at);
      signals = λ a o j h f lt. absurd (top a (SignalOf o j) h lt);
      passes = λ a b o q j c h f lt g up. absurd (top a (SignalOf o j) h lt);
    }

-- an access, as an event of the word, is that entry
pub load_of : (w p q v : ℕ) (e : Entry) → event_of w p e ≡ Some (Load q v) → (p ≡ q) × (e ≡ LoadOf w v)
load_of w p q v (LoadOf u x) h = go (u == w) refl h
  where
    go : (b : Bool) → (u == w) ≡ b → (if b then Some (Load p x) else None) ≡ Some (Load q v) → (p ≡ q) × (LoadOf u x ≡ LoadOf w v)
    go true e g = let a : u ≡ w = eqb-true u w e in (cc g, cc (a, g))
    go false e g = absurd (cc g)
load_of w p q v (StoreOf u x) h = go (u == w) h
  where
    go : (b : Bool) → (if b then Some (Store p x) else None) ≡ Some (Load q v) → (p ≡ q) × (StoreOf u x ≡ LoadOf w v)
    go true g = absurd (cc g)
    go false g = absurd (cc g)
load_of w p q v e h = absurd (cc h)

pub store_of : (w p q v : ℕ) (e : Entry) → event_of w p e ≡ Some (Store q v) → (p ≡ q) × (e ≡ StoreOf w v)
store_of w p q v (StoreOf u x) h = go (u == w) refl h
  where
    go : (b : Bool) → (u == w) ≡ b → (if b then Some (Store p x) else None) ≡ Some (Store q v) → (p ≡ q) × (StoreOf u x ≡ StoreOf w v)
    go true e g = let a : u ≡ w = eqb-true u w e in (cc g, cc (a, g))
    go false e g = absurd (cc g)
store_of w p q v (LoadOf u x) h = go (u == w) h
  where
    go : (b : Bool) → (if b then Some (Load p x) else None) ≡ Some (Store q v) → (p ≡ q) × (LoadOf u x ≡ StoreOf w v)
    go true g = absurd (cc g)
    go false g = absurd (cc g)
store_of w p q v e h = absurd (cc h)

-- what an entry is to the word is a deed
deed_of : (w p : ℕ) (x : Entry) (e : Event) → event_of w p x ≡ Some e → is_deed e ≡ true
deed_of w p (LoadOf u x) e h = go (u == w) h
  where
    go : (b : Bool) → (if b then Some (Load p x) else None) ≡ Some e → is_deed e ≡ true
    go true g = let z : Load p x ≡ e = cc g in subst (λ y. is_deed y ≡ true) z refl
    go false g = absurd (cc g)
deed_of w p (StoreOf u x) e h = go (u == w) h
  where
    go : (b : Bool) → (if b then Some (Store p x) else None) ≡ Some e → is_deed e ≡ true
    go true g = let z : Store p x ≡ e = cc g in subst (λ y. is_deed y ≡ true) z refl
    go false g = absurd (cc g)
deed_of w p (SignalOf o j) e h = let z : Signal p ≡ e = cc h in subst (λ y. is_deed y ≡ true) z refl
deed_of w p (PassOf o c) e h = let z : Pass p ≡ e = cc h in subst (λ y. is_deed y ≡ true) z refl
deed_of w p x e h = absurd (cc h)

module _ (place : ℕ → Option ℕ) where
  -- an entry is one event
  one_event : (w p : ℕ) (x y : Entry) (e f : Event) → x ≡ y → event_of w p x ≡ Some e → event_of w p y ≡ Some f → f ≡ e
  one_event w p x y e f same is at = let z : Some f ≡ Some e = sym at ∙ (sym (ap (event_of w p) same) ∙ is) in cc z

  -- what each event makes of a deed
  goes : (w : ℕ) (d : Deed) (s : State) (e : Event) → event_of w d.p d.e ≡ Some e → ((p v : ℕ) → e ≡ Store p v → ⊥) → Goes d s (after_event place s e)
  goes w d s (Load p v) is other = record { by = refl; released = λ a. a; knows = λ q a. a; signal = λ o j f b. absurd (cc (one_event w d.p d.e (SignalOf o j) (Load p v) (Signal d.p) f is refl)); pass = λ o c f b. absurd (cc (one_event w d.p d.e (PassOf o c) (Load p v) (Pass d.p) f is refl)) }
  goes w d s (Store p v) is other = absurd (other p v refl)
  goes w d s (Signal p) is other = record { by = refl; released = λ a. or_left s.released (is_by s.by p) a; knows = λ q a. a; signal = λ o j f b. signal o j f b; pass = λ o c f b. absurd (cc (one_event w d.p d.e (PassOf o c) (Signal p) (Pass d.p) f is refl)) }
    where
      signal : (o : Obj) (j : ℕ) → d.e ≡ SignalOf o j → s.by ≡ Some d.p → (s.released || is_by s.by p) ≡ true
      signal o j f b = let z : Some (Signal d.p) ≡ Some (Signal p) = sym (ap (event_of w d.p) f) ∙ is in let own : d.p ≡ p = cc z in or_right s.released (is_by s.by p) (rw b (eq-eqb d.p p own))
  goes w d s (Pass q) is other = record { by = refl; released = λ a. a; knows = λ r a. stays r a; signal = λ o j f b. absurd (cc (one_event w d.p d.e (SignalOf o j) (Pass q) (Signal d.p) f is refl)); pass = λ o c f b. pass o c f b }
    where
      stays : (r : ℕ) → s.knows r ≡ true → put s.knows q (s.knows q || s.released) r ≡ true
      stays r a = each_put (λ x b. s.knows x ≡ true → b ≡ true) s.knows q (s.knows q || s.released) (λ e. or_left (s.knows q) s.released e) (λ x ne e. e) r a

      pass : (o : Obj) (c : ℕ) → d.e ≡ PassOf o c → s.released ≡ true → put s.knows q (s.knows q || s.released) d.p ≡ true
      pass o c f b = let z : Some (Pass d.p) ≡ Some (Pass q) = sym (ap (event_of w d.p) f) ∙ is in let own : d.p ≡ q = cc z in rw (eq-eqb d.p q own) (or_right (s.knows q) s.released b)
  goes w d s e is other = absurd (let z = deed_of w d.p d.e e is in cc z)

  -- the log and the list know the same
  pub knowing : (init : ℕ) (frames twins : ℕ → ℕ) (w : ℕ) (log : Log) (es : List Event) → deeds_in es ≡ deeds_of w log → Knowing w log (after place (start init frames twins) es)
  knowing init frames twins w [] es h =
      knowing_same w [] (start init frames twins) (after place (start init frames twins) es) (none_known place Every (start init frames twins) es h)
      (record { none = λ e. (refl, λ q. refl); some = λ p e. absurd (cc e) })
  knowing init frames twins w (d ∷ log) es h = go (event_of w d.p d.e) refl h (λ x g. knowing init frames twins w log x g)
    where
      s : List Event → State
      s = after place (start init frames twins)

      step : (e : Event) (older : List Event) → event_of w d.p d.e ≡ Some e → Knowing w log (s older) → Knowing w (d ∷ log) (after_event place (s older) e)
      step (Store p v) older is k = let f = store_of w d.p p v d.e is in subst (λ q. Knowing w (d ∷ log) (store_at (s older) q (place q) v)) f.0 (knowing_store w d log (s older) v (place d.p) f.1)
      step (Load p v) older is k = knowing_goes w d log (s older) (s older) (goes w d (s older) (Load p v) is (λ q u e. absurd (cc e))) k
      step (Signal p) older is k = knowing_goes w d log (s older) (after_event place (s older) (Signal p)) (goes w d (s older) (Signal p) is (λ q u e. absurd (cc e))) k
      step (Pass p) older is k = knowing_goes w d log (s older) (after_event place (s older) (Pass p)) (goes w d (s older) (Pass p) is (λ q u e. absurd (cc e))) k
      step e older is k = absurd (let z = deed_of w d.p d.e e is in cc z)

      -- an entry that is nothing to the word
      silent : event_of w d.p d.e ≡ None → Goes d (s es) (s es)
      silent is = record { by = refl; released = λ a. a; knows = λ q a. a; signal = λ o j f b. absurd (let z : Some (Signal d.p) ≡ None = sym (ap (event_of w d.p) f) ∙ is in cc z); pass = λ o c f b. absurd (let z : Some (Pass d.p) ≡ None = sym (ap (event_of w d.p) f) ∙ is in cc z) }

      go : (x : Option Event) → event_of w d.p d.e ≡ x → deeds_in es ≡ onto x (deeds_of w log) → ((y : List Event) → deeds_in y ≡ deeds_of w log → Knowing w log (s y)) → Knowing w (d ∷ log) (s es)
      go None is g ih = knowing_goes w d log (s es) (s es) (silent is) (ih es g)
      go (Some e) is g ih =
          let f = split place Every (start init frames twins) es e (deeds_of w log) g in
          knowing_same w (d ∷ log) (s (e ∷ f.older)) (s es) f.known (step e f.older is (ih f.older f.same))
