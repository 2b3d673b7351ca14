-- What passes wait for: the signals of their object, and the clocks that these leave.
use Rattle.std.specs.Prelude.{◌≡◌, ◌≢◌, ℕ, zero, suc, ◌+◌, ◌<◌, ◌≤◌, ◌⊎◌, ◌↔◌, List, Option, Some, None, [], length, slice_get, slice_index}
use Rattle.std.specs.List.{Contains}
use Rattle.dsm_entry.specs.declared.entry.Obj.{Obj}
use Rattle.dsm_entry.specs.declared.entry.Obj.TheVariants.{Lock, Barrier, Flag, Close}
use Rattle.dsm_entry.specs.declared.entry.Entry.{Entry}
use Rattle.dsm_entry.specs.declared.entry.Entry.TheVariants.{Signal, Pass}
use Rattle.dsm_entry.specs.declared.entry.Place.{Place}
use Rattle.dsm_flat.specs.declared.gate.Mark.{Mark}
use Rattle.dsm_flat.specs.declared.gate.Gate.{Gate}
use Rattle.dsm_flat.specs.declared.gates.Gates.{Gates}
use Rattle.dsm_flat.specs.declared.index.Index.{Index}
use Rattle.dsm_flat.specs.Order.{Traces, Holds}
use Rattle.dsm_flat.specs.Judge.{IsBelow}
use Rattle.dsm_flat.specs.Accesses.{first_place}
use Rattle.dsm_flat.specs.Racing.{CountsNone}
use Rattle.dsm_flat.specs.Clocks.{Counted, UpTo, FromSignals, IsUnion}
use Rattle.dsm_flat.specs.Visits.{AreVisited}

-- each number is below the later ones
abbrev pub Rises : List ℕ → Type 0
Rises counts = (k m : ℕ) → k < m → m < length counts → slice_index counts k < slice_index counts m

-- k is the first index with a number above j, or the length where none is
pub record IsFirstAbove (counts : List ℕ) (j k : ℕ) : Type 0 where
  pub within : k ≤ length counts
  pub below : (m : ℕ) → m < k → slice_index counts m ≤ j
  pub above : (m : ℕ) → k ≤ m → m < length counts → j < slice_index counts m

-- no mark has a number above that of a later one
abbrev pub AreByNumber : List Mark → Type 0
AreByNumber marks = (k m : ℕ) (a b : Mark) → k < m → slice_get marks k ≡ Some a → slice_get marks m ≡ Some b → a.j ≤ b.j

-- the clock at k counts in addition what the clock does, and the others stay
pub record IsJoinedAt (old : List (List ℕ)) (k : ℕ) (clock : List ℕ) (new : List (List ℕ)) : Type 0 where
  pub len : length new ≡ length old
  pub each : (m : ℕ) (now : List ℕ) → slice_get new m ≡ Some now → ((m ≢ k) × (slice_get old m ≡ Some now)) ⊎ ((m ≡ k) × ((was : List ℕ) × (slice_get old k ≡ Some was) × IsUnion was clock now))

-- the marks from one index on are counted, and the one at the other index isn't
pub record IsSeen (marks : List Mark) (done : List ℕ) (from to : ℕ) : Type 0 where
  pub on : from ≤ to
  pub visited : (k : ℕ) (m : Mark) → from ≤ k → k < to → slice_get marks k ≡ Some m → Counted done m.place
  pub unvisited : (m : Mark) → slice_get marks to ≡ Some m → Counted done m.place → ⊥

-- the marks are the signals of o below the place, and among the counts are those of its passes
pub record AreSigns (ts : Traces) (o : Obj) (bound : Place) (signals : List Mark) (counts : List ℕ) : Type 0 where
  pub signal : (x : Place) (j : ℕ) → Holds ts x (Signal o j) → IsBelow x bound → Contains signals (record { j = j; place = x })
  pub only : (m : Mark) → Contains signals m → Holds ts m.place (Signal o m.j)
  pub pass : (x : Place) (c : ℕ) → Holds ts x (Pass o c) → IsBelow x bound → Contains counts c

-- the count in front of index k, and 0 in front of the first
abbrev pub in_front : List ℕ → ℕ → ℕ
in_front counts zero = 0
in_front counts (suc k) = slice_index counts k

-- x is a visited signal of o, or before one, with a number below the count at k and not below the one in front
abbrev pub FromBetween : Traces → Obj → List ℕ → List ℕ → ℕ → Place → Type 0
FromBetween ts o done counts k x =
    (z : Place) × (j : ℕ) × Holds ts z (Signal o j) × (in_front counts k ≤ j) × (j < slice_index counts k) × Counted done z × UpTo ts z x

-- the signals and the counts of o, and how far both are used
pub record IsGate (ts : Traces) (done : List ℕ) (o : Obj) (signals : List Mark) (seen : ℕ) (counts : List ℕ) (clocks : List (List ℕ)) (closed : ℕ) (all : List ℕ) : Type 0 where
  pub signal : (x : Place) (j : ℕ) → Holds ts x (Signal o j) → Contains signals (record { j = j; place = x })
  pub only : (m : Mark) → Contains signals m → Holds ts m.place (Signal o m.j)
  pub pass : (x : Place) (c : ℕ) → Holds ts x (Pass o c) → Contains counts c
  pub by_number : AreByNumber signals
  pub rising : Rises counts
  pub len : length clocks ≡ length counts
  -- the first signals are visited, and the next one isn't
  pub visited : (k : ℕ) (m : Mark) → k < seen → slice_get signals k ≡ Some m → Counted done m.place
  pub unvisited : (m : Mark) → slice_get signals seen ≡ Some m → Counted done m.place → ⊥
  -- the clocks of the first counts have all signals below these, and the others the visited ones between two counts
  pub within : closed ≤ length counts
  pub behind : (k : ℕ) → k < closed → AreVisited ts o done (slice_index counts k)
  pub first : (k : ℕ) (clock : List ℕ) → k < closed → slice_get clocks k ≡ Some clock → (x : Place) → Counted clock x ↔ FromSignals ts o (slice_index counts k) x
  pub others : (k : ℕ) (clock : List ℕ) → closed ≤ k → slice_get clocks k ≡ Some clock → (x : Place) → Counted clock x ↔ FromBetween ts o done counts k x
  pub all_is : (x : Place) → Counted all x ↔ FromSignals ts o (in_front counts closed) x

-- the same of an object as the code keeps it
abbrev pub IsGateOf : Traces → List ℕ → Gate → Type 0
IsGateOf ts done g = IsGate ts done g.o g.signals.items g.seen g.counts.items g.clocks.items g.closed g.all

-- no clock is made, and nothing is used
pub record IsNew (g : Gate) : Type 0 where
  pub seen : g.seen ≡ 0
  pub clocks : g.clocks.items ≡ []
  pub closed : g.closed ≡ 0
  pub all : g.all ≡ []

-- signals and counts that are put in order are those of an object of which nothing is used
pub record IsOrderOf (g new : Gate) : Type 0 where
  pub o : new.o ≡ g.o
  pub gate : (ts : Traces) (done : List ℕ) → CountsNone done → IsNew g → AreSigns ts g.o (first_place (length ts)) g.signals.items g.counts.items → IsGateOf ts done new

-- the first k objects are put in order, and the others are as they were
pub record AreOrdered (k : ℕ) (old now : List Gate) : Type 0 where
  pub len : length now ≡ length old
  pub low : (m : ℕ) (g h : Gate) → m < k → slice_get old m ≡ Some g → slice_get now m ≡ Some h → IsOrderOf g h
  pub high : (m : ℕ) (h : Gate) → k ≤ m → slice_get now m ≡ Some h → slice_get old m ≡ Some h

-- two versions of an object have the same signals and counts
pub record AreAlike (g h : Gate) : Type 0 where
  pub o : g.o ≡ h.o
  pub signals : g.signals.items ≡ h.signals.items
  pub counts : g.counts.items ≡ h.counts.items

-- what is inside, if anything is
abbrev pub inner : Option (Option ℕ) → Option ℕ
inner None = None
inner (Some k) = k

-- item n of a table, and None behind its end
abbrev pub item_of : List (Option ℕ) → ℕ → Option ℕ
item_of table n = inner (slice_get table n)

-- the place of an object
abbrev pub place_of : Index → Obj → Option ℕ
place_of i (Lock l) = item_of i.locks.items l
place_of i (Barrier b) = item_of i.barriers.items b
place_of i (Flag f) = item_of i.flags.items f
place_of i Close = i.close

-- the index has each object of the list with its place, and no other
pub record IsIndexed (index : Index) (list : List Gate) : Type 0 where
  pub found : (o : Obj) (k : ℕ) → place_of index o ≡ Some k → (g : Gate) × (slice_get list k ≡ Some g) × (g.o ≡ o)
  pub all : (k : ℕ) (g : Gate) → slice_get list k ≡ Some g → place_of index g.o ≡ Some k

-- e is a signal or a pass of o
pub data IsOf (o : Obj) : Entry → Type 0 where
  OfSignal : (j : ℕ) → IsOf o (Signal o j)
  OfPass : (c : ℕ) → IsOf o (Pass o c)

-- the place behind another in its trace
abbrev pub next_place : Place → Place
next_place x = record { p = x.p; i = x.i + 1 }

-- the objects of the entries below the place, with their signals and counts
pub record AreAdded (ts : Traces) (bound : Place) (gates : Gates) : Type 0 where
  pub indexed : IsIndexed gates.index gates.list.items
  pub each : (k : ℕ) (g : Gate) → slice_get gates.list.items k ≡ Some g → IsNew g × AreSigns ts g.o bound g.signals.items g.counts.items
  pub all : (x : Place) (e : Entry) (o : Obj) → Holds ts x e → IsOf o e → IsBelow x bound → (k : ℕ) × (place_of gates.index o ≡ Some k)

-- the objects of all traces, and how far they are used
pub record AreGates (ts : Traces) (done : List ℕ) (gates : Gates) : Type 0 where
  pub indexed : IsIndexed gates.index gates.list.items
  pub each : (k : ℕ) (g : Gate) → slice_get gates.list.items k ≡ Some g → IsGateOf ts done g
  pub all : (x : Place) (e : Entry) (o : Obj) → Holds ts x e → IsOf o e → (k : ℕ) × (place_of gates.index o ≡ Some k)
