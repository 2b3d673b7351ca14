-- The accesses to a word in a log.
use Rattle.std.proofs.Common.{◌≡◌, ℕ, zero, suc, ◌⊎◌, Bool, true, false, List, [], ◌∷◌, Some, length, refl, sym, ap, ◌∙◌, subst, inl, inr, arith, if◌then◌else◌, ◌==◌}
use Rattle.std.specs.Prelude.{slice_get}
use Rattle.std.proofs.lemmas.Bool.{eq-eqb, eqb-true}
use Rattle.dsm_entry.specs.declared.entry.Entry.{Entry}
use Rattle.dsm_entry.specs.declared.entry.Entry.TheVariants.{Load, Store}
use Rattle.dsm_entry.specs.declared.entry.Place.{Place}
use Rattle.dsm_flat.specs.Order.{Holds}
use Rattle.dsm_flat.specs.WordLaw.{Made, left_by, latest, Gets, InOrder, Falls}
use Rattle.dsm_flat.specs.Logs.{Deed, Log, Was, newest, rank, LogHasAccesses, stored_by, LatestGrows, OrderGrows}
pub use Rattle.dsm_flat.specs.Logs.{accesses_word, made_by, accesses_of}
use Rattle.dsm_flat.proofs.History.{IsNew, new_or_old, still, new_is, new_place, rank_new, rank_old, rank_below}

-- an entry is of w in the log
abbrev IsOf : ℕ → Entry → Type 0
IsOf w e = (v : ℕ) × ((e ≡ Load w v) ⊎ (e ≡ Store w v))

is_of : (w : ℕ) (e : Entry) → accesses_word w e ≡ true → IsOf w e
is_of w (Load u v) is = (v, inl (ap (λ a. Load a v) (eqb-true u w is)))
is_of w (Store u v) is = (v, inr (ap (λ a. Store a v) (eqb-true u w is)))
is_of w e is = absurd (cc is)

of_is : (w : ℕ) (e : Entry) → IsOf w e → accesses_word w e ≡ true
of_is w e (v, inl is) = ap (accesses_word w) is ∙ eq-eqb w w refl
of_is w e (v, inr is) = ap (accesses_word w) is ∙ eq-eqb w w refl

-- the list has the accesses to w that were made, the newest first
record Has (w : ℕ) (log : Log) (list : List Made) : Type 0 where
  held : (i : ℕ) (m : Made) → slice_get list i ≡ Some m → Was log m.place m.entry × IsOf w m.entry
  all : (x : Place) (e : Entry) → Was log x e → IsOf w e → (i : ℕ) × (slice_get list i ≡ Some (record { place = x; entry = e }))
  falls : Falls (rank log) list

-- a deed leaves the ranks of what was made before
falls_still : (w : ℕ) (d : Deed) (log : Log) (list : List Made) → Has w log list → Falls (rank (d ∷ log)) list
falls_still w d log list h i j m n lt a b = omega (arith, rank_old d log m.place m.entry (h.held i m a).0, rank_old d log n.place n.entry (h.held j n b).0, h.falls i j m n lt a b)

has_step : (w : ℕ) (d : Deed) (log : Log) (list : List Made) → Has w log list → Has w (d ∷ log) (made_by w d log list)
has_step w d log list h = go (accesses_word w d.e) refl
  where
    new : Made
    new = record { place = newest d log; entry = d.e }

    go : (b : Bool) → accesses_word w d.e ≡ b → Has w (d ∷ log) (if b then new ∷ list else list)
    go false off = record { held = λ i m a. let k = h.held i m a in (still d log m.place m.entry k.0, k.1); all = λ x e g of. pick x e of (new_or_old d log x e g); falls = falls_still w d log list h }
      where
        pick : (x : Place) (e : Entry) → IsOf w e → Was log x e ⊎ IsNew d log x e → (i : ℕ) × (slice_get list i ≡ Some (record { place = x; entry = e }))
        pick x e of (inl a) = h.all x e a of
        pick x e of (inr n) = absurd (let is = of_is w e of in let same : accesses_word w e ≡ accesses_word w d.e = ap (accesses_word w) n.is in cc (is, same, off))
    go true on = record { held = held; all = λ x e g of. pick x e of (new_or_old d log x e g); falls = falls }
      where
        held : (i : ℕ) (m : Made) → slice_get (new ∷ list) i ≡ Some m → Was (d ∷ log) m.place m.entry × IsOf w m.entry
        held zero m a = subst (λ n. Was (d ∷ log) n.place n.entry × IsOf w n.entry) (let is : new ≡ m = cc a in is) (new_is d log, is_of w d.e on)
        held (suc i) m a = let k = h.held i m a in (still d log m.place m.entry k.0, k.1)

        pick : (x : Place) (e : Entry) → IsOf w e → Was log x e ⊎ IsNew d log x e → (i : ℕ) × (slice_get (new ∷ list) i ≡ Some (record { place = x; entry = e }))
        pick x e of (inl a) = let k = h.all x e a of in (suc k.0, k.1)
        pick x e of (inr n) =
            let at : newest d log ≡ x = new_place d log (newest d log) x d.e e (record { own = refl; at = refl; is = refl }) n in
            let both : new ≡ record { place = x; entry = e } = λ k. record { place = at k; entry = sym n.is k } in
            (0, ap (λ m. Some m) both)

        falls : Falls (rank (d ∷ log)) (new ∷ list)
        falls i zero m n lt a b = absurd (omega (arith, lt))
        falls zero (suc j) m n lt a b =
            let is : new ≡ m = cc a in
            let was = (h.held j n b).0 in
            let top : rank (d ∷ log) m.place ≡ length log = ap (λ x. rank (d ∷ log) x.place) (sym is) ∙ rank_new d log (newest d log) d.e (record { own = refl; at = refl; is = refl }) in
            omega (arith, top, rank_old d log n.place n.entry was, rank_below log n.place n.entry was)
        falls (suc i) (suc j) m n lt a b = falls_still w d log list h i j m n (omega (arith, lt)) a b

has : (w : ℕ) (log : Log) → Has w log (accesses_of w log)
has w [] = record { held = λ i m a. absurd (cc a); all = λ x e g of. absurd (cc g); falls = λ i j m n lt a b. absurd (cc a) }
has w (d ∷ log) = has_step w d log (accesses_of w log) (has w log)

-- the accesses to a word in a log are those in its traces
pub are_accesses : LogHasAccesses
are_accesses w log ts history =
    let h = has w log in
    record {
      held = λ i m a. let k = h.held i m a in let at = (history m.place m.entry).1 k.0 in (at, (k.1.0, access m.place m.entry k.1.0 at k.1.1));
      all = λ x a. found x a.0 a.1;
      falls = h.falls;
    }
  where
    access : (x : Place) (e : Entry) (v : ℕ) → Holds ts x e → (e ≡ Load w v) ⊎ (e ≡ Store w v) → Holds ts x (Load w v) ⊎ Holds ts x (Store w v)
    access x e v at (inl is) = inl (cc (at, is))
    access x e v at (inr is) = inr (cc (at, is))

    listed : (x : Place) (e : Entry) → Holds ts x e → IsOf w e → (i : ℕ) × (m : Made) × (slice_get (accesses_of w log) i ≡ Some m) × (m.place ≡ x)
    listed x e at of = let k = (has w log).all x e ((history x e).0 at) of in (k.0, record { place = x; entry = e }, k.1, refl)

    found : (x : Place) (v : ℕ) → Holds ts x (Load w v) ⊎ Holds ts x (Store w v) → (i : ℕ) × (m : Made) × (slice_get (accesses_of w log) i ≡ Some m) × (m.place ≡ x)
    found x v (inl at) = listed x (Load w v) at (v, inl refl)
    found x v (inr at) = listed x (Store w v) at (v, inr refl)

-- what a deed does to the value of the latest store
pub latest_step : LatestGrows
latest_step initial w d log = go d.e (accesses_of w log)
  where
    pick : (e : Entry) (list : List Made) (b : Bool) → latest initial (if b then record { place = newest d log; entry = e } ∷ list else list) ≡ (if b then left_by e (latest initial list) else latest initial list)
    pick e list true = refl
    pick e list false = refl

    same : (b : Bool) (n : ℕ) → (if b then n else n) ≡ n
    same true n = refl
    same false n = refl

    go : (e : Entry) (list : List Made) → latest initial (if accesses_word w e then record { place = newest d log; entry = e } ∷ list else list) ≡ stored_by w e (latest initial list)
    go (Store u v) list = pick (Store u v) list (u == w)
    go (Load u v) list = pick (Load u v) list (u == w) ∙ same (u == w) (latest initial list)
    go e list = refl

-- a deed that gets the value of the latest store where it loads w keeps the order
pub in_order_step : OrderGrows
in_order_step initial w d log got ok = go (accesses_word w d.e) refl
  where
    gets : (e : Entry) → d.e ≡ e → accesses_word w e ≡ true → Gets e (latest initial (accesses_of w log))
    gets (Load u v) is on = got v (is ∙ ap (λ a. Load a v) (eqb-true u w on))
    gets e is on = tt

    go : (b : Bool) → accesses_word w d.e ≡ b → InOrder initial (if b then record { place = newest d log; entry = d.e } ∷ accesses_of w log else accesses_of w log)
    go true on = (gets d.e refl on, ok)
    go false off = ok
