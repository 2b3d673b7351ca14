-- The order of what processors did: each processor's own order, and what waits for what.
use Rattle.std.specs.Prelude.{◌≡◌, ℕ, ◌+◌, ◌<◌, List, Option, None, Some, slice_get}
use Rattle.dsm_entry.specs.declared.entry.Obj.{Obj}
use Rattle.dsm_entry.specs.declared.entry.Entry.{Entry}
use Rattle.dsm_entry.specs.declared.entry.Entry.TheVariants.{Signal, Pass}
use Rattle.dsm_entry.specs.declared.entry.Place.{Place}

-- what each processor did, oldest entry first: trace p is that of processor p
abbrev pub Traces : Type 0
Traces = List (List Entry)

-- entry i of a trace, and None where there is no such trace or entry
abbrev pub found_in : Option (List Entry) → ℕ → Option Entry
found_in None i = None
found_in (Some t) i = slice_get t i

-- the entry at a place, and None where there is none
abbrev pub entry_at : Traces → Place → Option Entry
entry_at ts x = found_in (slice_get ts x.p) x.i

-- the entry at x is e
abbrev pub Holds : Traces → Place → Entry → Type 0
Holds ts x e = entry_at ts x ≡ Some e

-- the entry stands behind the signals of o with numbers below n: it is a pass of o with the count n
abbrev pub Waits : Entry → Obj → ℕ → Type 0
Waits (Pass q c) o n = (o ≡ q) × (n ≡ c)
Waits _ o n = ⊥

-- An edge leads from each entry to the next of its processor, and from a signal to each pass of the
-- same object with a count greater than the signal's number.
pub data Edge (ts : Traces) (x y : Place) : Type 0 where
  Next : (e f : Entry) → Holds ts x e → Holds ts y f → y.p ≡ x.p → y.i ≡ x.i + 1 → Edge ts x y
  Sync : (o : Obj) (j n : ℕ) (e : Entry) → Holds ts x (Signal o j) → Holds ts y e → Waits e o n → j < n → Edge ts x y

-- a chain of one or more edges leads from the first place to the second
pub data Before (ts : Traces) : Place → Place → Type 0 where
  One : {x y : Place} → Edge ts x y → Before ts x y
  Then : {x z y : Place} → Edge ts x z → Before ts z y → Before ts x y

-- no place is before itself
abbrev pub NoCircle : Traces → Type 0
NoCircle ts = (x : Place) → Before ts x x → ⊥
