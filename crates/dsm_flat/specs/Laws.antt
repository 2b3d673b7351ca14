-- Laws of the order, which hold of all traces.
use Rattle.std.specs.Prelude.{◌≡◌, ◌≢◌, ℕ, ◌<◌, ◌≤◌, ◌↔◌, List, [], ◌∷◌}
use Rattle.dsm_entry.specs.declared.entry.Obj.{Obj}
use Rattle.dsm_entry.specs.declared.entry.Entry.{Entry}
use Rattle.dsm_entry.specs.declared.entry.Entry.TheVariants.{Signal}
use Rattle.dsm_entry.specs.declared.entry.Place.{Place}
use Rattle.dsm_flat.specs.Order.{Traces, Holds, Waits, Edge, Before, NoCircle}
use Rattle.dsm_flat.specs.Flat.{Last, Final}

-- what is before a place is before all that the place is before
abbrev pub IsTransitive : Type 0
IsTransitive = (ts : Traces) (x y z : Place) → Before ts x y → Before ts y z → Before ts x z

-- every edge leads to a place of greater rank
abbrev pub Raises : Traces → (Place → ℕ) → Type 0
Raises ts rank = (x y : Place) → Edge ts x y → rank x < rank y

-- where places can be ranked so that every edge leads upwards, no place is before itself
abbrev pub RankExcludesCircles : Type 0
RankExcludesCircles = (ts : Traces) (rank : Place → ℕ) → Raises ts rank → NoCircle ts

-- where no place is before itself, there is at most one last value before a place
abbrev pub LastIsDetermined : Type 0
LastIsDetermined = (ts : Traces) (initial w : ℕ) (x : Place) (u v : ℕ) → NoCircle ts → Last ts initial w x u → Last ts initial w x v → u ≡ v

-- where no place is before itself, there is at most one final value
abbrev pub FinalIsDetermined : Type 0
FinalIsDetermined = (ts : Traces) (initial w u v : ℕ) → NoCircle ts → Final ts initial w u → Final ts initial w v → u ≡ v

-- y holds an entry, and x is an earlier place of the same processor
pub record IsEarlier (ts : Traces) (x y : Place) : Type 0 where
  pub same : x.p ≡ y.p
  pub earlier : x.i < y.i
  pub there : (e : Entry) × Holds ts y e

-- for one trace in which no place is before itself, before is the order of places
abbrev pub OneTrace : Type 0
OneTrace = (t : List Entry) (x y : Place) → NoCircle (t ∷ []) → Before (t ∷ []) x y ↔ IsEarlier (t ∷ []) x y

-- a signal at or after x and a pass at or before y, each of that place's processor, with ranks that rise
pub record Carried (ts : Traces) (rank : Place → ℕ) (x y : Place) : Type 0 where
  pub from : Place
  pub to : Place
  pub from_own : from.p ≡ x.p
  pub from_after : x.i ≤ from.i
  pub signal : (o : Obj) × (j : ℕ) × Holds ts from (Signal o j)
  pub to_own : to.p ≡ y.p
  pub to_before : to.i ≤ y.i
  pub pass : (e : Entry) × (o : Obj) × (n : ℕ) × Holds ts to e × Waits e o n
  pub above : rank x ≤ rank from
  pub rises : rank from < rank to
  pub below : rank to ≤ rank y

-- what is before a place of another processor left by a signal and came in by a later pass
abbrev pub SignalThenPass : Type 0
SignalThenPass = (ts : Traces) (rank : Place → ℕ) (x y : Place) → Raises ts rank → Before ts x y → x.p ≢ y.p → Carried ts rank x y
