-- The first pair of conflicting places that is not ordered.
use Rattle.std.specs.Prelude.{◌≡◌, ℕ, ◌<◌, ◌⊎◌}
use Rattle.dsm_entry.specs.declared.entry.Place.{Place}
use Rattle.dsm_flat.specs.Order.{Traces, Before}
use Rattle.dsm_flat.specs.Flat.{Conflict}

-- x comes before y in the order of places: by processor, then by entry
abbrev pub IsBelow : Place → Place → Type 0
IsBelow x y = (x.p < y.p) ⊎ ((x.p ≡ y.p) × (x.i < y.i))

-- x and y conflict, and neither is before the other
abbrev pub Race : Traces → ℕ → Place → Place → Type 0
Race ts w x y = Conflict ts w x y × (Before ts x y → ⊥) × (Before ts y x → ⊥)

-- x and y race, and of all races x is the least place and then y the least above it
pub record IsFirstRace (ts : Traces) (w : ℕ) (x y : Place) : Type 0 where
  pub race : Race ts w x y
  pub below : IsBelow x y
  pub first : (u v : Place) → IsBelow u v → Race ts w u v → IsBelow x u ⊎ ((x ≡ u) × (IsBelow y v ⊎ (y ≡ v)))
