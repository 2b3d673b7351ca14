-- One entry more is visited, behind all that is before it.
use Rattle.std.specs.Prelude.{◌≢◌, ℕ, ◌+◌, ◌<◌, ◌⊎◌, ◌↔◌, List, slice_index}
use Rattle.dsm_entry.specs.declared.entry.Obj.{Obj}
use Rattle.dsm_entry.specs.declared.entry.Entry.{Entry}
use Rattle.dsm_entry.specs.declared.entry.Entry.TheVariants.{Signal}
use Rattle.dsm_entry.specs.declared.entry.Place.{Place}
use Rattle.dsm_flat.specs.Order.{Traces, Holds, Waits}
use Rattle.dsm_flat.specs.Clocks.{Counted, FromPrevious, FromSignals, next_of, IsPut}
use Rattle.dsm_flat.specs.Racing.{IsClosed, IsVisit}

-- a signal of o with a number below n is not visited
abbrev pub IsWaiting : Traces → Obj → List ℕ → ℕ → Type 0
IsWaiting ts o done n = (z : Place) × (j : ℕ) × Holds ts z (Signal o j) × (j < n) × (Counted done z → ⊥)

-- all signals of o with numbers below n are visited
abbrev pub AreVisited : Traces → Obj → List ℕ → ℕ → Type 0
AreVisited ts o done n = (z : Place) (j : ℕ) → Holds ts z (Signal o j) → j < n → Counted done z

-- the clock of processor p counts its last visited entry and what is before that
abbrev pub IsOwnClock : Traces → List ℕ → ℕ → List ℕ → Type 0
IsOwnClock ts done p clock = (x : Place) → Counted clock x ↔ FromPrevious ts (next_of done p) x

-- the clock counts what another does, and the signals that the entry stands behind with what is before them
abbrev pub JoinsSignals : Traces → Entry → List ℕ → List ℕ → Type 0
JoinsSignals ts e own past = (x : Place) → Counted past x ↔ (Counted own x ⊎ ((o : Obj) × (n : ℕ) × Waits e o n × FromSignals ts o n x))

-- the next entry e of processor p is visited: its clock is made of its processor's, of the signals that e stands behind,
-- all of which are visited, and of e itself
pub record IsStep (ts : Traces) (done : List ℕ) (p : ℕ) (e : Entry) (clock now : List ℕ) : Type 0 where
  pub closed : IsClosed ts done
  pub there : Holds ts (next_of done p) e
  pub behind : (o : Obj) (n : ℕ) → Waits e o n → AreVisited ts o done n
  pub made : (own : List ℕ) × (past : List ℕ) × IsOwnClock ts done p own × JoinsSignals ts e own past × IsPut past p (slice_index done p + 1) clock
  pub counted : IsPut done p (slice_index done p + 1) now

-- then the entry is visited with its clock, visited entries stand behind visited ones, and the clock is its processor's
abbrev pub StepVisits : Type 0
StepVisits =
    (ts : Traces) (done : List ℕ) (p : ℕ) (e : Entry) (clock now : List ℕ) → IsStep ts done p e clock now
    → IsVisit ts done (next_of done p) clock now × IsClosed ts now × IsOwnClock ts now p clock

-- and the clocks of the other processors stay theirs
abbrev pub OthersStay : Type 0
OthersStay =
    (ts : Traces) (done : List ℕ) (p : ℕ) (e : Entry) (clock now : List ℕ) (q : ℕ) (other : List ℕ) → IsStep ts done p e clock now → q ≢ p
    → IsOwnClock ts done q other → IsOwnClock ts now q other
