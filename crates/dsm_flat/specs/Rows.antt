-- What a place is before, as an index for each processor.
use Rattle.std.specs.Prelude.{◌≡◌, ℕ, ◌<◌, ◌≤◌, ◌↔◌, List, length, slice_index, min}
use Rattle.dsm_entry.specs.declared.entry.Entry.{Entry}
use Rattle.dsm_entry.specs.declared.entry.Place.{Place}
use Rattle.dsm_flat.specs.Order.{Traces, Holds, Before}
use Rattle.dsm_flat.specs.Flat.{IsAccess}

-- the place is at or behind the index of its processor
abbrev pub Covers : List ℕ → Place → Type 0
Covers row x = slice_index row x.p ≤ x.i

-- for each processor below n the lesser of two indices, and the old one for the others
pub record IsLoweredBelow (n : ℕ) (old to new : List ℕ) : Type 0 where
  pub len : length new ≡ length old
  pub lesser : (q : ℕ) → q < n → slice_index new q ≡ min (slice_index old q) (slice_index to q)
  pub same : (q : ℕ) → n ≤ q → slice_index new q ≡ slice_index old q

-- for each processor of the row `to` the lesser of two indices, and the old one for the others
abbrev pub IsLowered : List ℕ → List ℕ → List ℕ → Type 0
IsLowered old to new = IsLoweredBelow (length to) old to new

-- some word is accessed at x
abbrev pub IsAt : Traces → Place → Type 0
IsAt ts x = (w : ℕ) × IsAccess ts w x

-- the row covers those places that x is before
pub record IsReach (ts : Traces) (x : Place) (row : List ℕ) : Type 0 where
  pub len : length row ≡ length ts
  pub after : (y : Place) (e : Entry) → Holds ts y e → Covers row y ↔ Before ts x y
