-- What signals and passes are numbered like: locks, barriers and flags.
use Rattle.std.specs.Prelude.{◌≡◌, ℕ, ◌+◌, ◌*◌, ◌/◌, ◌<◌, ◌≤◌, ◌⊎◌}
use Rattle.dsm_entry.specs.declared.entry.Obj.{Obj}
use Rattle.dsm_entry.specs.declared.entry.Obj.TheVariants.{Lock, Barrier, Flag, Close}
use Rattle.dsm_entry.specs.declared.entry.Entry.{Entry}
use Rattle.dsm_entry.specs.declared.entry.Entry.TheVariants.{Signal, Pass}
use Rattle.dsm_entry.specs.declared.entry.Place.{Place}
use Rattle.dsm_flat.specs.Order.{Traces, Holds, NoCircle}

-- the numbers of the signals of o are 0 to m - 1, each once
pub record IsNumbered (ts : Traces) (o : Obj) (m : ℕ) : Type 0 where
  pub below : (x : Place) (j : ℕ) → Holds ts x (Signal o j) → j < m
  pub each : (j : ℕ) → j < m → (x : Place) × Holds ts x (Signal o j)
  pub once : (x y : Place) (j : ℕ) → Holds ts x (Signal o j) → Holds ts y (Signal o j) → x ≡ y

-- e is a pass or a signal of lock l
abbrev pub OfLock : ℕ → Entry → Type 0
OfLock l e = (k : ℕ) × ((e ≡ Pass (Lock l) k) ⊎ (e ≡ Signal (Lock l) k))

-- lock l has one holder at a time, who takes it by a pass and gives it back by the signal of that number
pub record IsLock (ts : Traces) (l : ℕ) : Type 0 where
  -- two passes have different counts
  pub different : (x y : Place) (c : ℕ) → Holds ts x (Pass (Lock l) c) → Holds ts y (Pass (Lock l) c) → x ≡ y
  -- where there is a pass with a count above 0, there is the signal with the number below it
  pub given : (x : Place) (c : ℕ) → Holds ts x (Pass (Lock l) (c + 1)) → (y : Place) × Holds ts y (Signal (Lock l) c)
  -- a signal k stands after the pass k in the same trace, with no entry of the lock between
  pub own : (x : Place) (k : ℕ) → Holds ts x (Signal (Lock l) k)
      → (i : ℕ) × (i < x.i) × Holds ts (record { p = x.p; i = i }) (Pass (Lock l) k)
      × ((j : ℕ) (e : Entry) → i < j → j < x.i → Holds ts (record { p = x.p; i = j }) e → OfLock l e → ⊥)

-- o is a barrier among P processors, with m arrivals so far
pub record IsBarrier (ts : Traces) (P : ℕ) (o : Obj) (m : ℕ) : Type 0 where
  pub numbered : IsNumbered ts o m
  -- a pass stands directly after the arrival a in the same trace, behind all P arrivals of the round of a
  pub after : (x : Place) (c : ℕ) → Holds ts x (Pass o c)
      → (i a : ℕ) × (x.i ≡ i + 1) × Holds ts (record { p = x.p; i = i }) (Signal o a) × (c ≡ (a / P + 1) * P) × (c ≤ m)

-- flag f was raised m times, and a pass stands behind at most m of them
pub record IsFlag (ts : Traces) (f m : ℕ) : Type 0 where
  pub numbered : IsNumbered ts (Flag f) m
  pub within : (x : Place) (c : ℕ) → Holds ts x (Pass (Flag f) c) → c ≤ m

-- no place is before itself, and all locks, barriers and flags of P processors are numbered as such
pub record SyncLegal (ts : Traces) (P : ℕ) : Type 0 where
  pub no_circle : NoCircle ts
  pub locks : (l : ℕ) → IsLock ts l
  pub barriers : (b : ℕ) → (m : ℕ) × IsBarrier ts P (Barrier b) m
  pub close : (m : ℕ) × IsBarrier ts P Close m
  pub flags : (f : ℕ) → (m : ℕ) × IsFlag ts f m
