-- Clocks: for each processor, how many of its entries are before a place or at it.
use Rattle.std.specs.Prelude.{◌≡◌, ◌≢◌, ℕ, ◌+◌, ◌<◌, ◌⊎◌, ◌↔◌, List, Some, length, slice_get, slice_index}
use Rattle.dsm_entry.specs.declared.entry.Obj.{Obj}
use Rattle.dsm_entry.specs.declared.entry.Entry.{Entry}
use Rattle.dsm_entry.specs.declared.entry.Entry.TheVariants.{Signal}
use Rattle.dsm_entry.specs.declared.entry.Place.{Place}
use Rattle.dsm_flat.specs.Order.{Traces, Holds, Waits, Edge, Before, NoCircle}

-- the place is counted, where so many first entries of each processor are, and none behind the list
abbrev pub Counted : List ℕ → Place → Type 0
Counted counts x = x.i < slice_index counts x.p

-- x is y, or before it
abbrev pub UpTo : Traces → Place → Place → Type 0
UpTo ts y x = (x ≡ y) ⊎ Before ts x y

-- the clock counts y and what is before y
abbrev pub IsClock : Traces → Place → List ℕ → Type 0
IsClock ts y clock = (x : Place) → Counted clock x ↔ UpTo ts y x

-- the clock counts what is before y
abbrev pub IsPast : Traces → Place → List ℕ → Type 0
IsPast ts y clock = (x : Place) → Counted clock x ↔ Before ts x y

-- the number of processor p is put, and the others stay
pub record IsPut (old : List ℕ) (p n : ℕ) (new : List ℕ) : Type 0 where
  pub own : slice_index new p ≡ n
  pub others : (q : ℕ) → q ≢ p → slice_index new q ≡ slice_index old q

-- x is the entry in front of y in its trace, or before that
abbrev pub FromPrevious : Traces → Place → Place → Type 0
FromPrevious ts y x = (z : Place) × (z.p ≡ y.p) × (y.i ≡ z.i + 1) × UpTo ts z x

-- x is a signal of o with a number below n, or before one
abbrev pub FromSignals : Traces → Obj → ℕ → Place → Type 0
FromSignals ts o n x = (z : Place) × (j : ℕ) × Holds ts z (Signal o j) × (j < n) × UpTo ts z x

-- what is before an entry comes to it from the previous one, or from signals that it stands behind
abbrev pub BeforeByEdges : Type 0
BeforeByEdges =
    (ts : Traces) (x y : Place) (e : Entry) → Holds ts y e
    → Before ts x y ↔ (FromPrevious ts y x ⊎ ((o : Obj) × (n : ℕ) × Waits e o n × FromSignals ts o n x))

-- one entry more of its own processor, and what counts the entries before a place is its clock
abbrev pub ClockOfPast : Type 0
ClockOfPast =
    (ts : Traces) (y : Place) (e : Entry) (past clock : List ℕ) → NoCircle ts → Holds ts y e → IsPast ts y past
    → IsPut past y.p (y.i + 1) clock → IsClock ts y clock

-- of other places, a clock counts those that are before its own
abbrev pub ClockTells : Type 0
ClockTells = (ts : Traces) (x y : Place) (clock : List ℕ) → IsClock ts y clock → x ≢ y → Counted clock x ↔ Before ts x y

-- two clocks of a place have the same numbers
abbrev pub ClockIsDetermined : Type 0
ClockIsDetermined = (ts : Traces) (y : Place) (a b : List ℕ) → IsClock ts y a → IsClock ts y b → (q : ℕ) → slice_index a q ≡ slice_index b q

-- the first entry of processor q that is not counted
abbrev pub next_of : List ℕ → ℕ → Place
next_of done q = record { p = q; i = slice_index done q }

-- processor q has an entry that is not counted
abbrev pub IsLeft : Traces → List ℕ → ℕ → Type 0
IsLeft ts done q = (t : List Entry) × (slice_get ts q ≡ Some t) × (slice_index done q < length t)

-- an edge leads to the next entry of q from an entry that is not counted
abbrev pub IsBlocked : Traces → List ℕ → ℕ → Type 0
IsBlocked ts done q = (z : Place) × Edge ts z (next_of done q) × (Counted done z → ⊥)

-- where no place is before itself and an entry is left, some next entry stands behind counted ones alone
abbrev pub NotAllBlocked : Type 0
NotAllBlocked =
    (ts : Traces) (done : List ℕ) (p : ℕ) → NoCircle ts → IsLeft ts done p
    → ((q : ℕ) → IsLeft ts done q → IsBlocked ts done q) → ⊥

-- the one counts what either of two others counts
abbrev pub IsUnion : List ℕ → List ℕ → List ℕ → Type 0
IsUnion a b both = (x : Place) → Counted both x ↔ (Counted a x ⊎ Counted b x)
