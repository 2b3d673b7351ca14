-- The first passes that a signal leads to.
use Rattle.std.specs.Prelude.{◌≡◌, ℕ, ◌<◌, ◌⊎◌, List, [], Option, Some, None, length, slice_get, Vec}
use Rattle.std.specs.declared.alloc.Global.{Global}
use Rattle.dsm_entry.specs.declared.entry.Obj.{Obj}
use Rattle.dsm_entry.specs.declared.entry.Entry.{Entry}
use Rattle.dsm_entry.specs.declared.entry.Entry.TheVariants.{Signal}
use Rattle.dsm_flat.specs.Order.{Traces, Waits}

-- the entry stands behind signal j of o
abbrev pub WaitsFor : Obj → ℕ → Entry → Type 0
WaitsFor o j e = (n : ℕ) × Waits e o n × (j < n)

-- there is an entry, and it stands behind signal j of o
abbrev pub IsPass : Obj → ℕ → Option Entry → Type 0
IsPass o j None = ⊥
IsPass o j (Some e) = WaitsFor o j e

-- i is the first entry of the trace that stands behind signal j of o, or its length where none does
pub record IsFirstPass (t : List Entry) (o : Obj) (j i : ℕ) : Type 0 where
  pub found : (i ≡ length t) ⊎ IsPass o j (slice_get t i)
  pub first : (k : ℕ) → k < i → IsPass o j (slice_get t k) → ⊥

-- for each trace the first entry that stands behind signal j of o, or its length
pub record AreFirstPasses (ts : Traces) (o : Obj) (j : ℕ) (row : List ℕ) : Type 0 where
  pub len : length row ≡ length ts
  pub each : (q i : ℕ) (t : List Entry) → slice_get row q ≡ Some i → slice_get ts q ≡ Some t → IsFirstPass t o j i

-- a signal leads to the first pass of each trace, and another entry to none
abbrev pub LeadsTo : Traces → Option Entry → List ℕ → Type 0
LeadsTo ts (Some (Signal o j)) row = AreFirstPasses ts o j row
LeadsTo ts _ row = row ≡ []

-- for each entry of a trace, what it leads to
pub record AreTraceLinks (ts : Traces) (t : List Entry) (rows : List (List ℕ)) : Type 0 where
  pub len : length rows ≡ length t
  pub each : (i : ℕ) (row : List ℕ) → slice_get rows i ≡ Some row → LeadsTo ts (slice_get t i) row

-- for each entry of each trace, what it leads to
pub record AreLinks (ts : Traces) (links : List (Vec (List ℕ) Global)) : Type 0 where
  pub len : length links ≡ length ts
  pub each : (q : ℕ) (rows : Vec (List ℕ) Global) (t : List Entry) → slice_get links q ≡ Some rows → slice_get ts q ≡ Some t → AreTraceLinks ts t rows.items
