-- Where nobody signals, or nobody passes, no place is before itself.
use Rattle.std.proofs.Common.{◌≡◌, ℕ, zero, suc, ◌<◌, Bool, true, false, ◌||◌, List, [], ◌∷◌, Some, refl, subst, arith}
use Rattle.std.specs.Prelude.{slice_get}
use Rattle.dsm_entry.specs.declared.entry.Entry.{Entry}
use Rattle.dsm_entry.specs.declared.entry.Entry.TheVariants.{Load, Store, Signal, Pass, Out}
use Rattle.dsm_entry.specs.declared.entry.Obj.{Obj}
use Rattle.dsm_entry.specs.declared.entry.Place.{Place}
use Rattle.dsm_flat.specs.Order.{Traces, found_in, Holds, Waits, Next, Sync, Before, One, Then, NoCircle}

abbrev pub is_signal : Entry → Bool
is_signal (Signal o j) = true
is_signal e = false

abbrev pub is_pass : Entry → Bool
is_pass (Pass o c) = true
is_pass e = false

-- some entry is such
abbrev pub some_in : (Entry → Bool) → List Entry → Bool
some_in f [] = false
some_in f (e ∷ t) = f e || some_in f t

-- some entry of some trace
abbrev pub some_of : (Entry → Bool) → Traces → Bool
some_of f [] = false
some_of f (t ∷ ts) = some_in f t || some_of f ts

-- neither of two
neither : (a b : Bool) → (a || b) ≡ false → (a ≡ false) × (b ≡ false)
neither true b h = absurd (cc h)
neither false b h = (refl, h)

none_in : (f : Entry → Bool) (t : List Entry) → some_in f t ≡ false → (i : ℕ) (e : Entry) → slice_get t i ≡ Some e → f e ≡ false
none_in f [] none i e h = absurd (cc h)
none_in f (d ∷ t) none zero e h = subst (λ x. f x ≡ false) (cc h) (neither (f d) (some_in f t) none).0
none_in f (d ∷ t) none (suc i) e h = none_in f t (neither (f d) (some_in f t) none).1 i e h

none_of : (f : Entry → Bool) (ts : Traces) → some_of f ts ≡ false → (p i : ℕ) (e : Entry) → found_in (slice_get ts p) i ≡ Some e → f e ≡ false
none_of f [] none p i e h = absurd (cc h)
none_of f (t ∷ ts) none zero i e h = none_in f t (neither (some_in f t) (some_of f ts) none).0 i e h
none_of f (t ∷ ts) none (suc p) i e h = none_of f ts (neither (some_in f t) (some_of f ts) none).1 p i e h

-- who waits passes
waits_passes : (e : Entry) (o : Obj) (n : ℕ) → Waits e o n → is_pass e ≡ true
waits_passes (Load w v) o n h = absurd h
waits_passes (Store w v) o n h = absurd h
waits_passes (Signal q j) o n h = absurd h
waits_passes (Pass q c) o n h = refl
waits_passes (Out v) o n h = absurd h

-- where no pass waits for a signal, each place is before later ones of its trace alone
module _ (ts : Traces) (never : (x y : Place) (o : Obj) (j n : ℕ) (e : Entry) → Holds ts x (Signal o j) → Holds ts y e → Waits e o n → ⊥) where
  rises : {x y : Place} → Before ts x y → x.i < y.i
  rises (One (Next e f a b p i)) = omega (arith, i)
  rises (One {x = x} {y = y} (Sync o j n e a b w lt)) = absurd (never x y o j n e a b w)
  rises (Then (Next e f a b p i) rest) = let r = rises rest in omega (arith, i, r)
  rises (Then {x = x} {z = z} (Sync o j n e a b w lt) rest) = absurd (never x z o j n e a b w)

  none_before_itself : NoCircle ts
  none_before_itself x b = let r = rises b in omega (arith, r)

pub without_signals : (ts : Traces) → some_of is_signal ts ≡ false → NoCircle ts
without_signals ts none = none_before_itself ts (λ x y o j n e a b w. absurd (cc (none_of is_signal ts none x.p x.i (Signal o j) a)))

pub without_passes : (ts : Traces) → some_of is_pass ts ≡ false → NoCircle ts
without_passes ts none = none_before_itself ts (λ x y o j n e a b w. absurd (cc (none_of is_pass ts none y.p y.i e b, waits_passes e o n w)))
