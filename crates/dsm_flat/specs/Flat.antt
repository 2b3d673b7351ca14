-- A flat memory: each load has the value of the last store that is ordered before it.
use Rattle.std.specs.Prelude.{◌≡◌, ◌≢◌, ℕ, ◌⊎◌}
use Rattle.dsm_entry.specs.declared.entry.Entry.TheVariants.{Load, Store}
use Rattle.dsm_entry.specs.declared.entry.Place.{Place}
use Rattle.dsm_flat.specs.Order.{Traces, Holds, Before}

-- x is a load of w that was given v
abbrev pub Loads : Traces → ℕ → Place → ℕ → Type 0
Loads ts w x v = Holds ts x (Load w v)

-- x is a store of v to w
abbrev pub Stores : Traces → ℕ → Place → ℕ → Type 0
Stores ts w x v = Holds ts x (Store w v)

-- x is a store to w
abbrev pub IsStore : Traces → ℕ → Place → Type 0
IsStore ts w x = (v : ℕ) × Stores ts w x v

-- x is a load of w or a store to w
abbrev pub IsAccess : Traces → ℕ → Place → Type 0
IsAccess ts w x = (v : ℕ) × (Loads ts w x v ⊎ Stores ts w x v)

-- x and y are two different places, both access w, and at least one is a store
abbrev pub Conflict : Traces → ℕ → Place → Place → Type 0
Conflict ts w x y = (x ≢ y) × IsAccess ts w x × IsAccess ts w y × (IsStore ts w x ⊎ IsStore ts w y)

-- of every two conflicting places of w one is before the other
abbrev pub Ordered : Traces → ℕ → Type 0
Ordered ts w = (x y : Place) → Conflict ts w x y → Before ts x y ⊎ Before ts y x

-- v is the value of the store to w that is before x and that every other store to w before x is
-- before, and it is the initial value where no store to w is before x
pub data Last (ts : Traces) (initial w : ℕ) (x : Place) (v : ℕ) : Type 0 where
  Never : ((y : Place) → IsStore ts w y → Before ts y x → ⊥) → v ≡ initial → Last ts initial w x v
  Stored : (y : Place) → Stores ts w y v → Before ts y x
      → ((z : Place) → IsStore ts w z → Before ts z x → z ≢ y → Before ts z y) → Last ts initial w x v

-- v is the value of the store to w that every other store to w is before, and it is the initial
-- value where there is no store to w
pub data Final (ts : Traces) (initial w v : ℕ) : Type 0 where
  Untouched : ((y : Place) → IsStore ts w y → ⊥) → v ≡ initial → Final ts initial w v
  Closed : (y : Place) → Stores ts w y v
      → ((z : Place) → IsStore ts w z → z ≢ y → Before ts z y) → Final ts initial w v

-- every load of w has the value of the last store to w before it
abbrev pub Flat : Traces → ℕ → ℕ → Type 0
Flat ts initial w = (x : Place) (v : ℕ) → Loads ts w x v → Last ts initial w x v

-- every load of w has the initial value, or that of a store to w which the load is not before
abbrev pub Sourced : Traces → ℕ → ℕ → Type 0
Sourced ts initial w =
    (x : Place) (v : ℕ) → Loads ts w x v → (v ≡ initial) ⊎ ((y : Place) × Stores ts w y v × (Before ts x y → ⊥))
