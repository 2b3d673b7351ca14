-- A script in front of another.
use Rattle.std.proofs.Common.{◌≡◌, ℕ, Bool, true, false, refl, if◌then◌else◌, ◌==◌}
use Rattle.dsm_words.specs.declared.turn.Turn.TheVariants.{More}
use Rattle.dsm_words.specs.Script.{Script, End, Do, Until, is_open, first, step, turn_of}
use Rattle.dsm_words.specs.Parts.{and_then}

-- as long as the first is open, so is the whole, and its next operation is the first's
pub is_open-and_then : {A B : Type 0} (s : Script A) (f : A → Script B) → is_open s ≡ true → is_open (and_then s f) ≡ true
is_open-and_then (End r) f h = absurd (cc h)
is_open-and_then (Do a k) f h = refl
is_open-and_then (Until a wanted s) f h = refl

pub turn_of-and_then : {A B : Type 0} (s : Script A) (f : A → Script B) → is_open s ≡ true → turn_of (and_then s f) ≡ More
turn_of-and_then (End r) f h = absurd (cc h)
turn_of-and_then (Do a k) f h = refl
turn_of-and_then (Until a wanted s) f h = refl

pub first-and_then : {A B : Type 0} (s : Script A) (f : A → Script B) → is_open s ≡ true → first (and_then s f) ≡ first s
first-and_then (End r) f h = absurd (cc h)
first-and_then (Do a k) f h = refl
first-and_then (Until a wanted s) f h = refl

-- its answer goes to the first
pub step-and_then : {A B : Type 0} (s : Script A) (f : A → Script B) (x : ℕ) → is_open s ≡ true → step (and_then s f) x ≡ and_then (step s x) f
step-and_then (End r) f x h = absurd (cc h)
step-and_then (Do a k) f x h = refl
step-and_then (Until a wanted s) f x h = go (x == wanted)
  where
    go : (b : Bool) → (if b then and_then s f else Until a wanted (and_then s f)) ≡ and_then (if b then s else Until a wanted s) f
    go true = refl
    go false = refl
