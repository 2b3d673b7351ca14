-- How far all traces are visited, as the code keeps it.
use Rattle.std.specs.Prelude.{◌≡◌, ℕ, ◌+◌, ◌<◌, ◌≤◌, ◌^◌, List, Some, length, slice_get, slice_index}
use Rattle.dsm_entry.specs.declared.entry.Obj.{Obj}
use Rattle.dsm_entry.specs.declared.entry.Entry.{Entry}
use Rattle.dsm_entry.specs.declared.entry.Place.{Place}
use Rattle.dsm_flat.specs.declared.visits.Visit.{Visit}
use Rattle.dsm_flat.specs.declared.visits.Visits.{Visits}
use Rattle.dsm_flat.specs.Order.{Traces, Holds, Waits}
use Rattle.dsm_flat.specs.Clocks.{Counted, next_of, IsLeft, IsBlocked, IsPut}
use Rattle.dsm_flat.specs.Racing.{IsClosed, IsVisit}
use Rattle.dsm_flat.specs.Visits.{AreVisited, IsWaiting, IsOwnClock}
use Rattle.dsm_flat.specs.Gates.{AreGates}

-- each trace has fewer than 2^32 entries
abbrev pub AreShort : Traces → Type 0
AreShort ts = (q : ℕ) (t : List Entry) → slice_get ts q ≡ Some t → length t < 2 ^ 32

-- all entries are visited
abbrev pub AllVisited : Traces → List ℕ → Type 0
AllVisited ts done = (x : Place) (e : Entry) → Holds ts x e → Counted done x

-- all signals that an entry stands behind are visited
abbrev pub IsFree : Traces → List ℕ → Entry → Type 0
IsFree ts done e = (o : Obj) (n : ℕ) → Waits e o n → AreVisited ts o done n

-- one of them is not
abbrev pub IsHeld : Traces → List ℕ → Entry → Type 0
IsHeld ts done e = (o : Obj) × (n : ℕ) × Waits e o n × IsWaiting ts o done n

-- the entry is the next of its processor, and all that it stands behind is visited
pub record CanVisit (ts : Traces) (done : List ℕ) (v : Visit) : Type 0 where
  pub place : v.place ≡ next_of done v.place.p
  pub there : Holds ts v.place v.entry
  pub free : IsFree ts done v.entry

-- no processor has a next entry that can be visited
abbrev pub AllBlocked : Traces → List ℕ → Type 0
AllBlocked ts done = (q : ℕ) → IsLeft ts done q → IsBlocked ts done q

-- so far are the traces visited: with the clocks of all processors, and all objects
pub record AreVisits (ts : Traces) (v : Visits) : Type 0 where
  pub closed : IsClosed ts v.done
  pub len : length v.clocks.items ≡ length ts
  pub within : (q : ℕ) (t : List Entry) → slice_get ts q ≡ Some t → slice_index v.done q ≤ length t
  pub own : (q : ℕ) (clock : List ℕ) → slice_get v.clocks.items q ≡ Some clock → IsOwnClock ts v.done q clock
  pub gates : AreGates ts v.done v.gates

-- one entry more is visited
pub record IsNextVisit (ts : Traces) (old : Visits) (v : Visit) (new : Visits) : Type 0 where
  pub can : CanVisit ts old.done v
  pub put : IsPut old.done v.place.p (v.place.i + 1) new.done
  pub visit : (clock : List ℕ) → slice_get new.clocks.items v.place.p ≡ Some clock → IsVisit ts old.done v.place clock new.done
