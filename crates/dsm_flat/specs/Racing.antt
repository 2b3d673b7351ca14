-- What of the accesses to a word decides about later ones: the last store, and the loads since.
use Rattle.std.specs.Prelude.{◌≡◌, ℕ, ◌+◌, ◌<◌, ◌≤◌, ◌⊎◌, ◌↔◌, List, Option, None, Some, slice_index}
use Rattle.dsm_entry.specs.declared.entry.Entry.{Entry}
use Rattle.dsm_entry.specs.declared.entry.Place.{Place}
use Rattle.dsm_flat.specs.Order.{Traces, Holds, Edge, Before}
use Rattle.dsm_flat.specs.Flat.{Loads, IsStore, IsAccess, Conflict, Ordered}
use Rattle.dsm_flat.specs.Clocks.{Counted, UpTo, IsClock, IsPut}

-- x is a load of w
abbrev pub IsLoad : Traces → ℕ → Place → Type 0
IsLoad ts w x = (v : ℕ) × Loads ts w x v

-- an edge to a counted place comes from a counted one
abbrev pub IsClosed : Traces → List ℕ → Type 0
IsClosed ts done = (x y : Place) → Edge ts x y → Counted done y → Counted done x

-- of the counted accesses to w those that conflict are ordered; the last store is behind every other, and of each
-- processor the loads are counted up to its last, save such as are before the last store
pub record IsDeciding (ts : Traces) (w : ℕ) (done : List ℕ) (last : Option Place) (loads : List ℕ) : Type 0 where
  pub ordered : (x y : Place) → Conflict ts w x y → Counted done x → Counted done y → Before ts x y ⊎ Before ts y x
  pub stored : (s : Place) → last ≡ Some s → IsStore ts w s × Counted done s
  pub latest : (x : Place) → IsStore ts w x → Counted done x → (s : Place) × (last ≡ Some s) × UpTo ts s x
  pub since : (x : Place) → IsLoad ts w x → Counted done x → Counted loads x ⊎ ((s : Place) × (last ≡ Some s) × Before ts x s)
  pub loaded : (q i : ℕ) → slice_index loads q ≡ i + 1 → IsLoad ts w (record { p = q; i = i }) × Counted done (record { p = q; i = i })

-- y is the next entry of its processor behind counted ones, with its clock, and is counted then
pub record IsVisit (ts : Traces) (done : List ℕ) (y : Place) (clock now : List ℕ) : Type 0 where
  pub next : y.i ≡ slice_index done y.p
  pub closed : IsClosed ts done
  pub clock_is : IsClock ts y clock
  pub one_more : (x : Place) → Counted now x ↔ (Counted done x ⊎ (x ≡ y))

-- no entry of any processor
abbrev pub CountsNone : List ℕ → Type 0
CountsNone counts = (q : ℕ) → slice_index counts q ≡ 0

-- the clock counts the last store
abbrev pub CountsLast : List ℕ → Option Place → Type 0
CountsLast clock last = (s : Place) → last ≡ Some s → Counted clock s

-- the clock counts of each processor no less than the loads
abbrev pub CountsLoads : List ℕ → List ℕ → Type 0
CountsLoads clock loads = (q : ℕ) → slice_index loads q ≤ slice_index clock q

-- in the beginning there is no store and no load,
abbrev pub StartDecides : Type 0
StartDecides = (ts : Traces) (w : ℕ) (done loads : List ℕ) → CountsNone done → CountsNone loads → IsDeciding ts w done None loads

-- an entry that does not access w changes nothing,
abbrev pub OtherDecides : Type 0
OtherDecides =
    (ts : Traces) (w : ℕ) (done : List ℕ) (y : Place) (clock now : List ℕ) (last : Option Place) (loads : List ℕ) → IsVisit ts done y clock now → IsDeciding ts w done last loads
    → (IsAccess ts w y → ⊥) → IsDeciding ts w now last loads

-- a load whose clock counts the last store is the last of its processor,
abbrev pub LoadDecides : Type 0
LoadDecides =
    (ts : Traces) (w : ℕ) (done : List ℕ) (y : Place) (clock now : List ℕ) (last : Option Place) (loads new : List ℕ) → IsVisit ts done y clock now → IsDeciding ts w done last loads
    → IsLoad ts w y → CountsLast clock last → IsPut loads y.p (y.i + 1) new → IsDeciding ts w now last new

-- a store whose clock counts the last store and the loads is the last store, and no load is since then
abbrev pub StoreDecides : Type 0
StoreDecides =
    (ts : Traces) (w : ℕ) (done : List ℕ) (y : Place) (clock now : List ℕ) (last : Option Place) (loads none : List ℕ) → IsVisit ts done y clock now → IsDeciding ts w done last loads
    → IsStore ts w y → CountsLast clock last → CountsLoads clock loads → CountsNone none → IsDeciding ts w now (Some y) none

-- a word is not ordered where the clock of an access does not count the last store,
abbrev pub LastStoreRaces : Type 0
LastStoreRaces =
    (ts : Traces) (w : ℕ) (done : List ℕ) (y : Place) (clock now : List ℕ) (last : Option Place) (loads : List ℕ) (s : Place) → IsVisit ts done y clock now → IsDeciding ts w done last loads
    → IsAccess ts w y → last ≡ Some s → (Counted clock s → ⊥) → Ordered ts w → ⊥

-- or that of a store has less of a processor than the loads
abbrev pub LoadRaces : Type 0
LoadRaces =
    (ts : Traces) (w : ℕ) (done : List ℕ) (y : Place) (clock now : List ℕ) (last : Option Place) (loads : List ℕ) (q : ℕ) → IsVisit ts done y clock now → IsDeciding ts w done last loads
    → IsStore ts w y → slice_index clock q < slice_index loads q → Ordered ts w → ⊥

-- and it is ordered where no access was so, and all are counted
abbrev pub AllDecided : Type 0
AllDecided =
    (ts : Traces) (w : ℕ) (done : List ℕ) (last : Option Place) (loads : List ℕ) → IsDeciding ts w done last loads
    → ((x : Place) (e : Entry) → Holds ts x e → Counted done x) → Ordered ts w
