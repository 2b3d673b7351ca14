-- The list of the accesses to a word, and which of them are before others.
use Rattle.std.specs.Prelude.{◌≡◌, ℕ, ◌<◌, ◌⊎◌, Bool, true, false, ◌==◌, if◌then◌else◌, List, Option, Some, None, length, slice_get}
use Rattle.dsm_entry.specs.declared.entry.Entry.{Entry}
use Rattle.dsm_entry.specs.declared.entry.Entry.TheVariants.{Load, Store}
use Rattle.dsm_entry.specs.declared.entry.Place.{Place}
use Rattle.dsm_flat.specs.declared.accesses.Access.{Access}
use Rattle.dsm_flat.specs.declared.shown.Shown.{Shown}
use Rattle.dsm_flat.specs.declared.shown.Shown.TheVariants.{Rows, Clocks}
use Rattle.dsm_flat.specs.Order.{Traces, Holds, Before}
use Rattle.dsm_flat.specs.Judge.{IsBelow}
use Rattle.dsm_flat.specs.Clocks.{Counted, IsClock}
use Rattle.dsm_flat.specs.Rows.{IsAt, IsReach}

-- whether an entry stores to w, and None where it doesn't access w
abbrev pub kind_of : ℕ → Entry → Option Bool
kind_of w (Load w' v) = if w' == w then Some false else None
kind_of w (Store w' v) = if w' == w then Some true else None
kind_of w _ = None

-- the place accesses w in this way
abbrev pub IsAccessTo : Traces → ℕ → Access → Type 0
IsAccessTo ts w a = (e : Entry) × Holds ts a.place e × (kind_of w e ≡ Some a.stores)

-- the first place of a processor
abbrev pub first_place : ℕ → Place
first_place p = record { p = p; i = 0 }

-- the list has all accesses to w below the place, in their order
pub record IsListed (ts : Traces) (w : ℕ) (bound : Place) (list : List Access) : Type 0 where
  pub each : (k : ℕ) (a : Access) → slice_get list k ≡ Some a → IsBelow a.place bound × IsAccessTo ts w a
  pub all : (a : Access) → IsAccessTo ts w a → IsBelow a.place bound → (k : ℕ) × (slice_get list k ≡ Some a)
  pub sorted : (k m : ℕ) (a b : Access) → k < m → slice_get list k ≡ Some a → slice_get list m ≡ Some b → IsBelow a.place b.place

-- some word is accessed at each place of the list
abbrev pub AreAt : Traces → List Access → Type 0
AreAt ts list = (k : ℕ) (a : Access) → slice_get list k ≡ Some a → IsAt ts a.place

-- row k covers what access k is before
pub record AreRows (ts : Traces) (list : List Access) (rows : List (List ℕ)) : Type 0 where
  pub len : length rows ≡ length list
  pub each : (k : ℕ) (a : Access) (row : List ℕ) → slice_get list k ≡ Some a → slice_get rows k ≡ Some row → IsReach ts a.place row

-- clock k is that of access k, where this is counted
pub record AreKept (ts : Traces) (done : List ℕ) (list : List Access) (clocks : List (List ℕ)) : Type 0 where
  pub len : length clocks ≡ length list
  pub each : (k : ℕ) (a : Access) (clock : List ℕ) → slice_get list k ≡ Some a → slice_get clocks k ≡ Some clock → Counted done a.place → IsClock ts a.place clock

-- clock k is that of access k
pub record AreClocks (ts : Traces) (list : List Access) (clocks : List (List ℕ)) : Type 0 where
  pub len : length clocks ≡ length list
  pub each : (k : ℕ) (a : Access) (clock : List ℕ) → slice_get list k ≡ Some a → slice_get clocks k ≡ Some clock → IsClock ts a.place clock

-- rows or clocks show which accesses are before others
abbrev pub ShowsOrder : Traces → List Access → Shown → Type 0
ShowsOrder ts list (Rows rows) = AreRows ts list rows.items
ShowsOrder ts list (Clocks clocks) = AreClocks ts list clocks.items

-- the list has all accesses to w, and it is shown which of them are before others
pub record IsShown (ts : Traces) (w : ℕ) (list : List Access) (shown : Shown) : Type 0 where
  pub listed : IsListed ts w (first_place (length ts)) list
  pub order : ShowsOrder ts list shown

-- access k is before access m
abbrev pub IsBeforeAt : Traces → List Access → ℕ → ℕ → Type 0
IsBeforeAt ts list k m = (x y : Access) → slice_get list k ≡ Some x → slice_get list m ≡ Some y → Before ts x.place y.place

-- neither access stores, or one is before the other
abbrev pub IsOrderedPair : Traces → Access → Access → Type 0
IsOrderedPair ts x y = ((x.stores ≡ false) × (y.stores ≡ false)) ⊎ (Before ts x.place y.place ⊎ Before ts y.place x.place)

-- accesses k and m need no order, or have one
abbrev pub IsOrderedAt : Traces → List Access → ℕ → ℕ → Type 0
IsOrderedAt ts list k m = (x y : Access) → slice_get list k ≡ Some x → slice_get list m ≡ Some y → IsOrderedPair ts x y

-- accesses k and m need an order, and have none
abbrev pub IsRacyAt : Traces → List Access → ℕ → ℕ → Type 0
IsRacyAt ts list k m = (x y : Access) → slice_get list k ≡ Some x → slice_get list m ≡ Some y → IsOrderedPair ts x y → ⊥

-- access k is ordered with those behind it and before access m
abbrev pub IsOrderedUpTo : Traces → List Access → ℕ → ℕ → Type 0
IsOrderedUpTo ts list k m = (n : ℕ) → k < n → n < m → IsOrderedAt ts list k n
