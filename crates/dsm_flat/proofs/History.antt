-- What one deed more does to a log: what stays, and what is new.
use Rattle.std.proofs.Common.{◌≡◌, ◌≢◌, ℕ, zero, suc, ◌<◌, ◌⊎◌, List, [], ◌∷◌, ◌++◌, Some, length, refl, sym, ap, ◌∙◌, inl, inr, arith, if◌then◌else◌, ◌==◌}
use Rattle.std.specs.Prelude.{slice_get}
use Rattle.std.proofs.lemmas.Bool.{cases_eq, ne_eqb, eq-eqb, and_from, and_right}
use Rattle.std.proofs.lemmas.Option.{slice_get_within}
use Rattle.dsm_entry.specs.declared.entry.Entry.{Entry}
use Rattle.dsm_entry.specs.declared.entry.Place.{Place}
use Rattle.dsm_flat.specs.Logs.{IsOld, IsNewest, NewIsOneMore, OldStays, NewestIsThere, OwnRises}
pub use Rattle.dsm_flat.specs.Logs.{Deed, Log, mine, Was, IsHistory, newest, rank}

-- x is the place of the newest deed, and e its entry
pub record IsNew (d : Deed) (log : Log) (x : Place) (e : Entry) : Type 0 where
  pub own : d.p ≡ x.p
  pub at : x.i ≡ length (mine x.p log)
  pub is : e ≡ d.e

-- a list keeps its items where one is appended
get_push_old : (xs : List Entry) (y e : Entry) (i : ℕ) → slice_get xs i ≡ Some e → slice_get (xs ++ y ∷ []) i ≡ Some e
get_push_old [] y e i h = absurd (cc h)
get_push_old (x ∷ xs) y e zero h = h
get_push_old (x ∷ xs) y e (suc i) h = get_push_old xs y e i h

-- an item of a list with one appended is an old one or that one
get_push : (xs : List Entry) (y e : Entry) (i : ℕ) → slice_get (xs ++ y ∷ []) i ≡ Some e → (slice_get xs i ≡ Some e) ⊎ ((i ≡ length xs) × (e ≡ y))
get_push [] y e zero h = inr (refl, cc h)
get_push [] y e (suc i) h = absurd (cc h)
get_push (x ∷ xs) y e zero h = inl h
get_push (x ∷ xs) y e (suc i) h = go (get_push xs y e i h)
  where
    go : (slice_get xs i ≡ Some e) ⊎ ((i ≡ length xs) × (e ≡ y)) → (slice_get xs i ≡ Some e) ⊎ ((suc i ≡ suc (length xs)) × (e ≡ y))
    go (inl g) = inl g
    go (inr g) = inr (ap suc g.0, g.1)

-- the item that was appended
pub get_push_new : (xs : List Entry) (y : Entry) → slice_get (xs ++ y ∷ []) (length xs) ≡ Some y
get_push_new [] y = refl
get_push_new (x ∷ xs) y = get_push_new xs y

-- a deed is appended to its own processor's entries
pub mine_own : (d : Deed) (log : Log) (q : ℕ) → d.p ≡ q → mine q (d ∷ log) ≡ mine q log ++ d.e ∷ []
mine_own d log q e = ap (λ b. if b then mine q log ++ d.e ∷ [] else mine q log) (eq-eqb d.p q e)

-- and leaves those of the others
pub mine_other : (d : Deed) (log : Log) (q : ℕ) → d.p ≢ q → mine q (d ∷ log) ≡ mine q log
mine_other d log q e = ap (λ b. if b then mine q log ++ d.e ∷ [] else mine q log) (ne_eqb d.p q e)

-- what is in a log with one deed more was there before, or is the newest
pub new_or_old : (d : Deed) (log : Log) (x : Place) (e : Entry) → Was (d ∷ log) x e → Was log x e ⊎ IsNew d log x e
new_or_old d log x e h = go (cases_eq d.p x.p)
  where
    go : (d.p ≡ x.p) ⊎ (d.p ≡ x.p → ⊥) → Was log x e ⊎ IsNew d log x e
    go (inl own) = pick (get_push (mine x.p log) d.e e x.i (sym (ap (λ t. slice_get t x.i) (mine_own d log x.p own)) ∙ h))
      where
        pick : (slice_get (mine x.p log) x.i ≡ Some e) ⊎ ((x.i ≡ length (mine x.p log)) × (e ≡ d.e)) → Was log x e ⊎ IsNew d log x e
        pick (inl g) = inl g
        pick (inr g) = inr (record { own = own; at = g.0; is = g.1 })
    go (inr ne) = inl (sym (ap (λ t. slice_get t x.i) (mine_other d log x.p ne)) ∙ h)

-- what is in the log stays in it
pub still : (d : Deed) (log : Log) (x : Place) (e : Entry) → Was log x e → Was (d ∷ log) x e
still d log x e h = go (cases_eq d.p x.p)
  where
    go : (d.p ≡ x.p) ⊎ (d.p ≡ x.p → ⊥) → Was (d ∷ log) x e
    go (inl own) = ap (λ t. slice_get t x.i) (mine_own d log x.p own) ∙ get_push_old (mine x.p log) d.e e x.i h
    go (inr ne) = ap (λ t. slice_get t x.i) (mine_other d log x.p ne) ∙ h

pub new_is : (d : Deed) (log : Log) → Was (d ∷ log) (newest d log) d.e
new_is d log = ap (λ t. slice_get t (length (mine d.p log))) (mine_own d log d.p refl) ∙ get_push_new (mine d.p log) d.e

pub was_below : (log : Log) (x : Place) (e : Entry) → Was log x e → x.i < length (mine x.p log)
was_below log x e h = slice_get_within (mine x.p log) x.i e h

pub new_place : (d : Deed) (log : Log) (x y : Place) (e f : Entry) → IsNew d log x e → IsNew d log y f → x ≡ y
new_place d log x y e f a b =
    let p : x.p ≡ y.p = sym a.own ∙ b.own in
    let i : x.i ≡ y.i = a.at ∙ (ap (λ q. length (mine q log)) p ∙ sym b.at) in
    λ k. record { p = p k; i = i k }

pub rank_new : (d : Deed) (log : Log) (x : Place) (e : Entry) → IsNew d log x e → rank (d ∷ log) x ≡ length log
rank_new d log x e n =
    ap (λ b. if b then length log else rank log x)
    (and_from (d.p == x.p) (length (mine x.p log) == x.i) (eq-eqb d.p x.p n.own) (eq-eqb (length (mine x.p log)) x.i (sym n.at)))

pub rank_old : (d : Deed) (log : Log) (x : Place) (e : Entry) → Was log x e → rank (d ∷ log) x ≡ rank log x
rank_old d log x e h =
    ap (λ b. if b then length log else rank log x)
    (and_right (d.p == x.p) (length (mine x.p log) == x.i) (ne_eqb (length (mine x.p log)) x.i (λ f. let lt = was_below log x e h in absurd (omega (arith, lt, f)))))

pub rank_below : (log : Log) (x : Place) (e : Entry) → Was log x e → rank log x < length log
rank_below [] x e h = absurd (cc h)
rank_below (d ∷ log) x e h = go (new_or_old d log x e h) (λ o. rank_below log x e o)
  where
    go : Was log x e ⊎ IsNew d log x e → (Was log x e → rank log x < length log) → rank (d ∷ log) x < suc (length log)
    go (inl o) ih = let a = rank_old d log x e o in let b = ih o in omega (arith, a, b)
    go (inr n) ih = let a = rank_new d log x e n in omega (arith, a)

-- in one processor's trace a later entry was made later
pub rank_own : OwnRises
rank_own [] x y e f h g p lt = absurd (cc h)
rank_own (d ∷ log) x y e f h g p lt = go (new_or_old d log x e h) (new_or_old d log y f g) (λ a b. rank_own log x y e f a b p lt)
  where
    go : Was log x e ⊎ IsNew d log x e → Was log y f ⊎ IsNew d log y f → (Was log x e → Was log y f → rank log x < rank log y) → rank (d ∷ log) x < rank (d ∷ log) y
    go (inl a) (inl b) ih = let i = ih a b in omega (arith, rank_old d log x e a, rank_old d log y f b, i)
    go (inl a) (inr b) ih = omega (arith, rank_old d log x e a, rank_new d log y f b, rank_below log x e a)
    go (inr a) (inl b) ih =
        let low = was_below log y f b in
        let s : length (mine x.p log) ≡ length (mine y.p log) = ap (λ q. length (mine q log)) p in
        absurd (omega (arith, low, s, a.at, lt))
    go (inr a) (inr b) ih = let s : x.i ≡ y.i = ap (λ z. z.i) (new_place d log x y e f a b) in absurd (omega (arith, s, lt))

-- the same with the ranks
as_old : (d : Deed) (log : Log) (x : Place) (e : Entry) → Was log x e → IsOld d log x e
as_old d log x e h = record { was = h; rank_same = rank_old d log x e h; rank_below = rank_below log x e h }

as_newest : (d : Deed) (log : Log) (x : Place) (e : Entry) → IsNew d log x e → IsNewest d log x e
as_newest d log x e n = record { own = sym n.own; entry_is = n.is; rank_is = rank_new d log x e n }

pub one_more : NewIsOneMore
one_more d log x e h = go (new_or_old d log x e h)
  where
    go : Was log x e ⊎ IsNew d log x e → IsOld d log x e ⊎ IsNewest d log x e
    go (inl a) = inl (as_old d log x e a)
    go (inr n) = inr (as_newest d log x e n)

pub old_stays : OldStays
old_stays d log x e h = (still d log x e h, as_old d log x e h)

pub newest_is_there : NewestIsThere
newest_is_there d log = (new_is d log, as_newest d log (newest d log) d.e (record { own = refl; at = refl; is = refl }))
