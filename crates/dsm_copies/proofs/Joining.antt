-- The list of one word and the traces: the order of the traces is the premise of order, and what the list gives is right in them.
use Rattle.std.proofs.Common.{◌≡◌, ◌≢◌, ℕ, ◌<◌, ◌≤◌, ◌⊎◌, Bool, true, false, Option, None, Some, List, [], ◌∷◌, length, refl, sym, ap, ◌∙◌, subst, inl, inr, arith, if◌then◌else◌, ◌==◌}
use Rattle.std.proofs.lemmas.Bool.{cases_eq, eq-eqb}
use Rattle.dsm_entry.specs.declared.entry.Obj.{Obj}
use Rattle.dsm_entry.specs.declared.entry.Entry.{Entry}
use Rattle.dsm_entry.specs.declared.entry.Entry.TheVariants.{Load as LoadOf, Store as StoreOf, Signal as SignalOf, Pass as PassOf}
use Rattle.dsm_entry.specs.declared.entry.Place.{Place}
use Rattle.dsm_flat.specs.Order.{Traces, Holds, Waits, Before, One, Then}
use Rattle.dsm_flat.specs.Flat.{IsAccess, Ordered, Sourced, Flat, Final}
use Rattle.dsm_flat.specs.Laws.{Raises, Carried}
use Rattle.dsm_flat.specs.WordLaw.{latest as latest_made, InOrder}
use Rattle.dsm_flat.specs.Logs.{Deed, Log, Was, rank, newest, IsOld, IsNewest, accesses_of, stored_by as stored_by_entry}
use Rattle.dsm_flat.proofs.History.{one_more, old_stays, newest_is_there, rank_own}
use Rattle.dsm_flat.proofs.LogAccesses.{are_accesses, latest_step, in_order_step}
use Rattle.dsm_flat.proofs.WordLaw.{word_is_flat, handed_over}
use Rattle.dsm_copies.specs.Copies.{State, Event, Load, Store, Signal, Pass, after, start, latest}
use Rattle.dsm_copies.specs.Premises.{Premise, Order, Told, Broken, Released, Kept, AtAccess, Asks, RunsUnder, Every, But, Loose}
use Rattle.dsm_copies.specs.Counts.{Count, no_count, count_after}
use Rattle.dsm_copies.specs.Debts.{Debts, no_debts, debts_after, AsksOf, RunsOf}
use Rattle.dsm_copies.specs.Laws.{Stores, Stored}
use Rattle.dsm_copies.specs.Joining.{is_deed, deeds_in, event_of, onto, deeds_of, IsJoined, AllSignalled, OrderIsKnown, IsRight, JoinedIsRight, JoinedBySends}
use Rattle.dsm_copies.proofs.Every.{flat, final_value}
use Rattle.dsm_copies.proofs.Origins.{sourced}
use Rattle.dsm_copies.proofs.Premised.{enough}
use Rattle.dsm_copies.proofs.Deeds.{split, rest_of, OlderIn, Whole, without_newest, older_older, was_newer, was_older, log_split}
use Rattle.dsm_copies.proofs.Knowing.{IsLast, Knowing, knowing, load_of, store_of}

-- premises for a list, from those with one and that one
combine : (place : ℕ → Option ℕ) (s : State) (e : Event) (r : Premise) → (r ≢ Order → Asks place r s e) → (r ≡ Order → Asks place r s e) → Asks place r s e
combine place s e Order a b = b refl
combine place s e r a b = a (λ f. absurd (cc f))

combine_of : (place : ℕ → Option ℕ) (s : State) (c : Count) (d : Debts) (e : Event) (r : Premise) → (r ≢ Order → AsksOf place r s c d e) → (r ≡ Order → Asks place r s e) → AsksOf place r s c d e
combine_of place s c d e Order a b = b refl
combine_of place s c d e r a b = a (λ f. absurd (cc f))

-- the loose premises are none of order, of sends and of debts
loose_but : (place : ℕ → Option ℕ) (s : State) (e : Event) (r : Premise) → Loose r → (r ≢ Order → Asks place r s e) → Asks place r s e
loose_but place s e Order l a = absurd l
loose_but place s e r l a = a (λ f. absurd (cc f))

loose_of : (place : ℕ → Option ℕ) (s : State) (c : Count) (d : Debts) (e : Event) (r : Premise) → Loose r → (r ≢ Order → AsksOf place r s c d e) → Asks place r s e
loose_of place s c d e Order l a = absurd l
loose_of place s c d e Told l a = absurd l
loose_of place s c d e Broken l a = absurd l
loose_of place s c d e Released l a = absurd l
loose_of place s c d e Kept l a = absurd l
loose_of place s c d e r l a = a (λ f. absurd (cc f))

module _ (place : ℕ → Option ℕ) (s : State) where
  runs_combine : (es : List Event) → RunsUnder place (But Order) s es → RunsUnder place (λ r. r ≡ Order) s es → RunsUnder place Every s es
  runs_combine [] a b = tt
  runs_combine (e ∷ older) a b = (λ r x. combine place (after place s older) e r (a.0 r) (b.0 r), runs_combine older a.1 b.1)

  runs_loose : (es : List Event) → RunsUnder place (But Order) s es → RunsUnder place Loose s es
  runs_loose [] a = tt
  runs_loose (e ∷ older) a = (λ r l. loose_but place (after place s older) e r l (a.0 r), runs_loose older a.1)

  runs_of_combine : (c : Count) (d : Debts) (es : List Event) → RunsOf place (But Order) s c d es → RunsUnder place (λ r. r ≡ Order) s es → RunsOf place Every s c d es
  runs_of_combine c d [] a b = tt
  runs_of_combine c d (e ∷ older) a b = (λ r x. combine_of place (after place s older) (count_after place s c older) (debts_after place s d older) e r (a.0 r) (b.0 r), runs_of_combine c d older a.1 b.1)

  runs_of_loose : (c : Count) (d : Debts) (es : List Event) → RunsOf place (But Order) s c d es → RunsUnder place Loose s es
  runs_of_loose c d [] a = tt
  runs_of_loose c d (e ∷ older) a = (λ r l. loose_of place (after place s older) (count_after place s c older) (debts_after place s d older) e r l (a.0 r), runs_of_loose c d older a.1)

-- what is before has the lower rank
raised : (ts : Traces) (n : Place → ℕ) (x y : Place) → Raises ts n → Before ts x y → n x < n y
raised ts n x y raises (One e) = raises x y e
raised ts n x y raises (Then {z = z} e b) = let a = raises x z e in let c = raised ts n z y raises b in omega (arith, a, c)

-- places of one processor that hold different entries are different
apart : (log : Log) (x y : Place) (e f : Entry) → Was log x e → Was log y f → x.p ≡ y.p → e ≢ f → x.i ≤ y.i → rank log x < rank log y
apart log x y e f a b own ne le = rank_own log x y e f a b own (go (cases_eq x.i y.i))
  where
    go : (x.i ≡ y.i) ⊎ (x.i ≢ y.i) → x.i < y.i
    go (inl same) = absurd (ne (let z : x ≡ y = λ k. record { p = own k; i = same k } in let c : Was log y e = subst (λ q. Was log q e) z a in cc (c, b)))
    go (inr other) = omega (arith, le, other)

module _ (place : ℕ → Option ℕ) (init : ℕ) (frames twins : ℕ → ℕ) (ts : Traces) (w : ℕ) where
  -- the state behind a list of events
  abbrev s : List Event → State
  s es = after place (start init frames twins) es

  module _ (all : Log) (history : (x : Place) (e : Entry) → Holds ts x e → Was all x e) (back : (x : Place) (e : Entry) → Was all x e → Holds ts x e) (raises : Raises ts (rank all)) (ord : Ordered ts w) where
    -- an access by another processor than that of the last store: a signal and then a pass came between
    carried_knows : (d : Deed) (log : Log) (es : List Event) (p : ℕ) → OlderIn (d ∷ log) all → IsAccess ts w (newest d log) → ((o : Obj) (c : ℕ) → d.e ≢ PassOf o c)
        → IsLast w log (s es) p → p ≢ d.p → (s es).knows d.p ≡ true
    carried_knows d log es p inside access other last ne = go (handed_over ts (rank all) w last.x (newest d log) raises ord (last.v, back last.x (StoreOf w last.v) x.0) access low (λ e. ne (sym last.own ∙ e)))
      where
        x : Was all last.x (StoreOf w last.v) × (rank all last.x ≡ rank log last.x)
        x = was_newer log all (without_newest d log all inside) last.x (StoreOf w last.v) last.was

        there : Was (d ∷ log) (newest d log) d.e × IsNewest d log (newest d log) d.e
        there = newest_is_there d log

        top : rank all (newest d log) ≡ length log
        top = (was_newer (d ∷ log) all inside (newest d log) d.e there.0).1 ∙ there.1.rank_is

        low : rank all last.x < rank all (newest d log)
        low = let o = (old_stays d log last.x (StoreOf w last.v) last.was).1 in let b = o.rank_below in let r = x.1 in let t = top in omega (arith, b, r, t)

        -- what has a lower rank was there before
        before : (y : Place) (e : Entry) → Holds ts y e → rank all y < rank all (newest d log) → Was log y e × (rank all y ≡ rank log y)
        before y e h lt = was_older log all (without_newest d log all inside) y e (history y e h) (let t = top in omega (arith, lt, t))

        go : Carried ts (rank all) last.x (newest d log) → (s es).knows d.p ≡ true
        go c = pass c.pass.0 c.pass.2 c.pass.3 c.pass.4
          where
            from : Was log c.from (SignalOf c.signal.0 c.signal.1) × (rank all c.from ≡ rank log c.from)
            from = before c.from (SignalOf c.signal.0 c.signal.1) c.signal.2 (let a = c.rises in let b = c.below in omega (arith, a, b))

            above : rank log last.x < rank log c.from
            above = apart log last.x c.from (StoreOf w last.v) (SignalOf c.signal.0 c.signal.1) last.was from.0 (sym c.from_own) (λ e. absurd (cc e)) c.from_after

            pass : (e : Entry) (n : ℕ) → Holds ts c.to e → Waits e c.pass.1 n → (s es).knows d.p ≡ true
            pass (PassOf q n) m h waits =
                let own : c.to.p ≡ d.p = c.to_own in
                let low = apart all c.to (newest d log) (PassOf q n) d.e (history c.to (PassOf q n) h) (was_newer (d ∷ log) all inside (newest d log) d.e there.0).0 own (λ e. other q n (sym e)) c.to_before in
                let to = before c.to (PassOf q n) h low in
                subst (λ z. (s es).knows z ≡ true) own
                (last.passes c.from c.to c.signal.0 q c.signal.1 n from.0 (c.from_own ∙ last.own) above to.0 (let a = c.rises in let b = from.1 in let e = to.1 in omega (arith, a, b, e)))
            pass e n h waits = absurd waits

    -- who accesses the word knows its last store
    knows_at : (d : Deed) (log : Log) (es : List Event) → OlderIn (d ∷ log) all → deeds_in es ≡ deeds_of w log → IsAccess ts w (newest d log) → ((o : Obj) (c : ℕ) → d.e ≢ PassOf o c) → (s es).knows d.p ≡ true
    knows_at d log es inside same access other = go (s es).by refl
      where
        k : Knowing w log (s es)
        k = knowing place init frames twins w log es same

        go : (x : Option ℕ) → (s es).by ≡ x → (s es).knows d.p ≡ true
        go None e = (k.none e).1 d.p
        go (Some p) e = pick (cases_eq p d.p)
          where
            pick : (p ≡ d.p) ⊎ (p ≢ d.p) → (s es).knows d.p ≡ true
            pick (inl is) = subst (λ q. (s es).knows q ≡ true) is (k.some p e).maker
            pick (inr ne) = carried_knows d log es p inside access other (k.some p e) ne

    holds_newest : (d : Deed) (log : Log) (e : Entry) → OlderIn (d ∷ log) all → d.e ≡ e → Holds ts (newest d log) e
    holds_newest d log e inside is = back (newest d log) e (subst (λ x. Was all (newest d log) x) is (was_newer (d ∷ log) all inside (newest d log) d.e (newest_is_there d log).0).0)

    known : (es : List Event) (log : Log) → OlderIn log all → deeds_in es ≡ deeds_of w log → RunsUnder place (λ r. r ≡ Order) (start init frames twins) es
    known [] log inside same = tt
    known (e ∷ es) log inside same = go (is_deed e) refl same (λ l i h. known es l i h)
      where
        asks : (x : Event) (d : Deed) (older : Log) → event_of w d.p d.e ≡ Some x → OlderIn (d ∷ older) all → deeds_in es ≡ deeds_of w older → AtAccess (λ p. (s es).knows p ≡ true) x
        asks (Load p v) d older is i h = let f = load_of w d.p p v d.e is in subst (λ q. (s es).knows q ≡ true) f.0 (knows_at d older es i h (v, inl (holds_newest d older (LoadOf w v) i f.1)) (λ o c g. absurd (cc (f.1, g))))
        asks (Store p v) d older is i h = let f = store_of w d.p p v d.e is in subst (λ q. (s es).knows q ≡ true) f.0 (knows_at d older es i h (v, inr (holds_newest d older (StoreOf w v) i f.1)) (λ o c g. absurd (cc (f.1, g))))
        asks x d older is i h = tt

        quiet : (x : Event) → is_deed x ≡ false → AtAccess (λ p. (s es).knows p ≡ true) x
        quiet (Load p v) f = absurd (cc f)
        quiet (Store p v) f = absurd (cc f)
        quiet x f = tt

        order : AtAccess (λ p. (s es).knows p ≡ true) e → (r : Premise) → r ≡ Order → Asks place r (s es) e
        order a r is = subst (λ q. Asks place q (s es) e) (sym is) a

        go : (b : Bool) → is_deed e ≡ b → (if b then e ∷ deeds_in es else deeds_in es) ≡ deeds_of w log
            → ((l : Log) → OlderIn l all → deeds_in es ≡ deeds_of w l → RunsUnder place (λ r. r ≡ Order) (start init frames twins) es) → RunsUnder place (λ r. r ≡ Order) (start init frames twins) (e ∷ es)
        go false is g ih = (order (quiet e is), ih log inside g)
        go true is g ih =
            let f = log_split w log e (deeds_in es) (sym g) in
            let i = older_older (f.deed ∷ f.older) log all f.inside inside in
            (order (asks e f.deed f.older f.is i (sym f.same)), ih f.older (without_newest f.deed f.older all i) (sym f.same))

pub order_known : OrderIsKnown
order_known place init frames twins ts log w es j ord = known place init frames twins ts w log (λ x e. (j.history x e).0) (λ x e. (j.history x e).1) j.raises ord es log Whole j.same

-- the latest store of the list is that of the log
latest_deeds : (init : ℕ) (es : List Event) → latest init es ≡ latest init (deeds_in es)
latest_deeds init [] = refl
latest_deeds init (e ∷ es) = go e (latest_deeds init es)
  where
    go : (x : Event) → latest init es ≡ latest init (deeds_in es) → latest init (x ∷ es) ≡ latest init (if is_deed x then x ∷ deeds_in es else deeds_in es)
    go (Store p v) ih = refl
    go x ih = ih

latest_entry : (init w p : ℕ) (e : Entry) (older : List Event) → latest init (onto (event_of w p e) older) ≡ stored_by_entry w e (latest init older)
latest_entry init w p (LoadOf u v) older = go (u == w)
  where
    go : (b : Bool) → latest init (onto (if b then Some (Load p v) else None) older) ≡ latest init older
    go true = refl
    go false = refl
latest_entry init w p (StoreOf u v) older = go (u == w)
  where
    go : (b : Bool) → latest init (onto (if b then Some (Store p v) else None) older) ≡ (if b then v else latest init older)
    go true = refl
    go false = refl
latest_entry init w p e older = refl

latest_log : (init w : ℕ) (log : Log) → latest init (deeds_of w log) ≡ latest_made init (accesses_of w log)
latest_log init w [] = refl
latest_log init w (d ∷ log) = latest_entry init w d.p d.e (deeds_of w log) ∙ ap (stored_by_entry w d.e) (latest_log init w log) ∙ sym (latest_step init w d log)

latest_same : (init w : ℕ) (log : Log) (es : List Event) → deeds_in es ≡ deeds_of w log → latest init es ≡ latest_made init (accesses_of w log)
latest_same init w log es same = latest_deeds init es ∙ ap (latest init) same ∙ latest_log init w log

-- an entry that loads w is a load of the word
load_event : (w p v : ℕ) (e : Entry) → e ≡ LoadOf w v → event_of w p e ≡ Some (Load p v)
load_event w p v e is = ap (event_of w p) is ∙ ap (λ b. if b then Some (Load p v) else None) (eq-eqb w w refl)

-- a value that was stored in the list was stored in the log
stored_deeds : (es : List Event) (v : ℕ) → Stored es v → Stored (deeds_in es) v
stored_deeds [] v st = st
stored_deeds (e ∷ es) v st = go e st (stored_deeds es v)
  where
    go : (x : Event) → Stores x v ⊎ Stored es v → (Stored es v → Stored (deeds_in es) v) → Stored (if is_deed x then x ∷ deeds_in es else deeds_in es) v
    go (Load p u) (inl a) ih = absurd a
    go (Load p u) (inr a) ih = inr (ih a)
    go (Store p u) (inl a) ih = inl a
    go (Store p u) (inr a) ih = inr (ih a)
    go (Signal p) (inl a) ih = absurd a
    go (Signal p) (inr a) ih = inr (ih a)
    go (Pass p) (inl a) ih = absurd a
    go (Pass p) (inr a) ih = inr (ih a)
    go x (inl a) ih = absurd a
    go x (inr a) ih = ih a

stored_log : (w : ℕ) (log : Log) (v : ℕ) → Stored (deeds_of w log) v → (y : Place) × Was log y (StoreOf w v) × (rank log y < length log)
stored_log w [] v st = absurd st
stored_log w (d ∷ log) v st = go (event_of w d.p d.e) refl st (stored_log w log v)
  where
    old : (y : Place) × Was log y (StoreOf w v) × (rank log y < length log) → (y : Place) × Was (d ∷ log) y (StoreOf w v) × (rank (d ∷ log) y < length (d ∷ log))
    old f = let a = old_stays d log f.0 (StoreOf w v) f.1 in (f.0, a.0, let r = a.1.rank_same in let b = a.1.rank_below in omega (arith, r, b))

    new : (e : Event) → event_of w d.p d.e ≡ Some e → Stores e v → (y : Place) × Was (d ∷ log) y (StoreOf w v) × (rank (d ∷ log) y < length (d ∷ log))
    new (Store p u) is e =
        let f = store_of w d.p p u d.e is in
        let t = newest_is_there d log in
        (newest d log, subst (λ x. Was (d ∷ log) (newest d log) x) (f.1 ∙ ap (StoreOf w) e) t.0, let r = t.1.rank_is in omega (arith, r))
    new (Load p u) is e = absurd e
    new x is e = absurd e

    go : (x : Option Event) → event_of w d.p d.e ≡ x → Stored (onto x (deeds_of w log)) v → (Stored (deeds_of w log) v → (y : Place) × Was log y (StoreOf w v) × (rank log y < length log)) → (y : Place) × Was (d ∷ log) y (StoreOf w v) × (rank (d ∷ log) y < length (d ∷ log))
    go None is a ih = old (ih a)
    go (Some e) is (inl a) ih = new e is a
    go (Some e) is (inr a) ih = old (ih a)

module _ (place : ℕ → Option ℕ) (init : ℕ) (frames twins : ℕ → ℕ) (w : ℕ) where
  -- the accesses of the log are in order
  in_order : (log : Log) (es : List Event) → deeds_in es ≡ deeds_of w log → RunsUnder place Every (start init frames twins) es → InOrder init (accesses_of w log)
  in_order [] es same runs = tt
  in_order (d ∷ log) es same runs =
      let f = rest_of place Every (start init frames twins) w d log es same in
      in_order_step init w d log gets (in_order log f.older f.same (f.runs runs))
    where
      gets : (v : ℕ) → d.e ≡ LoadOf w v → v ≡ latest_made init (accesses_of w log)
      gets v is =
          let f = split place Every (start init frames twins) es (Load d.p v) (deeds_of w log) (same ∙ ap (λ x. onto x (deeds_of w log)) (load_event w d.p v d.e is)) in
          flat place init frames twins d.p v f.older (f.runs runs) ∙ latest_same init w log f.older f.same

  -- each load of the log has a source of lower rank
  source : (log : Log) (es : List Event) → deeds_in es ≡ deeds_of w log → RunsUnder place Loose (start init frames twins) es → (x : Place) (v : ℕ) → Was log x (LoadOf w v)
      → (v ≡ init) ⊎ ((y : Place) × Was log y (StoreOf w v) × (rank log y < rank log x))
  source [] es same runs x v was = absurd (cc was)
  source (d ∷ log) es same runs x v was = go (one_more d log x (LoadOf w v) was) (λ l h r a. source log l h r x v a)
    where
      old : IsOld d log x (LoadOf w v) → (v ≡ init) ⊎ ((y : Place) × Was log y (StoreOf w v) × (rank log y < rank log x)) → (v ≡ init) ⊎ ((y : Place) × Was (d ∷ log) y (StoreOf w v) × (rank (d ∷ log) y < rank (d ∷ log) x))
      old o (inl e) = inl e
      old o (inr f) = let a = old_stays d log f.0 (StoreOf w v) f.1 in inr (f.0, a.0, let r = a.1.rank_same in let q = o.rank_same in let t = f.2 in omega (arith, r, q, t))

      new : IsNewest d log x (LoadOf w v) → (older : List Event) → deeds_in older ≡ deeds_of w log → (v ≡ init) ⊎ Stored older v → (v ≡ init) ⊎ ((y : Place) × Was (d ∷ log) y (StoreOf w v) × (rank (d ∷ log) y < rank (d ∷ log) x))
      new n older h (inl e) = inl e
      new n older h (inr st) =
          let f = stored_log w log v (subst (λ l. Stored l v) h (stored_deeds older v st)) in
          let a = old_stays d log f.0 (StoreOf w v) f.1 in
          inr (f.0, a.0, let r = a.1.rank_same in let q = n.rank_is in let t = f.2 in omega (arith, r, q, t))

      go : IsOld d log x (LoadOf w v) ⊎ IsNewest d log x (LoadOf w v)
          → ((l : List Event) → deeds_in l ≡ deeds_of w log → RunsUnder place Loose (start init frames twins) l → Was log x (LoadOf w v) → (v ≡ init) ⊎ ((y : Place) × Was log y (StoreOf w v) × (rank log y < rank log x)))
          → (v ≡ init) ⊎ ((y : Place) × Was (d ∷ log) y (StoreOf w v) × (rank (d ∷ log) y < rank (d ∷ log) x))
      go (inl o) ih = let f = rest_of place Loose (start init frames twins) w d log es same in old o (ih f.older f.same (f.runs runs) o.was)
      go (inr n) ih =
          let f = split place Loose (start init frames twins) es (Load d.p v) (deeds_of w log) (same ∙ ap (λ x. onto x (deeds_of w log)) (load_event w d.p v d.e (sym n.entry_is))) in
          new n f.older f.same (sourced place init frames twins d.p v f.older (f.runs runs))

  module _ (ts : Traces) (log : Log) (es : List Event) (j : IsJoined ts log w es) where
    all_sourced : RunsUnder place Loose (start init frames twins) es → Sourced ts init w
    all_sourced runs x v h = go (source log es j.same runs x v ((j.history x (LoadOf w v)).0 h))
      where
        go : (v ≡ init) ⊎ ((y : Place) × Was log y (StoreOf w v) × (rank log y < rank log x)) → (v ≡ init) ⊎ ((y : Place) × Holds ts y (StoreOf w v) × (Before ts x y → ⊥))
        go (inl e) = inl e
        go (inr f) = inr (f.0, (j.history f.0 (StoreOf w v)).1 f.1, λ b. absurd (let r = raised ts (rank log) x f.0 j.raises b in let t = f.2 in omega (arith, r, t)))

    released : AllSignalled ts log w → (after place (start init frames twins) es).released ≡ true
    released all = go (after place (start init frames twins) es).by refl
      where
        k : Knowing w log (after place (start init frames twins) es)
        k = knowing place init frames twins w log es j.same

        go : (x : Option ℕ) → (after place (start init frames twins) es).by ≡ x → (after place (start init frames twins) es).released ≡ true
        go None e = (k.none e).0
        go (Some p) e =
            let i = k.some p e in
            let a = all i.x (i.v, (j.history i.x (StoreOf w i.v)).1 i.was) in
            i.signals a.0 a.1 a.2 ((j.history a.0 (SignalOf a.1 a.2)).0 a.3) (a.4 ∙ i.own) a.5

    right : RunsUnder place Loose (start init frames twins) es → (Ordered ts w → RunsUnder place Every (start init frames twins) es)
        → IsRight ts log init w (after place (start init frames twins) es)
    right loose every = record {
      sourced = all_sourced loose;
      flat = λ ord. (flat_word ord).1 ord;
      final_value = λ ord all none.
          let m = final_value place init frames twins es (every ord) (released all) none in
          subst (λ v. Final ts init w v) (sym (m ∙ latest_same init w log es j.same)) ((flat_word ord).2 ord);
    }
      where
        flat_word : Ordered ts w → Sourced ts init w × (Ordered ts w → Flat ts init w) × (Ordered ts w → Final ts init w (latest_made init (accesses_of w log)))
        flat_word ord = word_is_flat ts (rank log) init w (accesses_of w log) j.raises (are_accesses w log ts j.history) (in_order log es j.same (every ord))

pub joined : JoinedIsRight
joined place init frames twins ts log w es j runs =
    right place init frames twins w ts log es j (runs_loose place (start init frames twins) es runs)
    (λ ord. runs_combine place (start init frames twins) es runs (order_known place init frames twins ts log w es j ord))

pub joined_by_sends : JoinedBySends
joined_by_sends place init frames twins ts log w es j runs =
    right place init frames twins w ts log es j (runs_of_loose place (start init frames twins) no_count no_debts es runs)
    (λ ord. enough place init frames twins es (runs_of_combine place (start init frames twins) no_count no_debts es runs (order_known place init frames twins ts log w es j ord)))
