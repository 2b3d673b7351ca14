-- The law for one word: what the list of its accesses says of the traces.
use Rattle.std.specs.Prelude.{◌≡◌, ◌≢◌, ℕ, ◌<◌, List, [], ◌∷◌, Some, slice_get}
use Rattle.dsm_entry.specs.declared.entry.Entry.{Entry}
use Rattle.dsm_entry.specs.declared.entry.Entry.TheVariants.{Load, Store}
use Rattle.dsm_entry.specs.declared.entry.Place.{Place}
use Rattle.dsm_flat.specs.Order.{Traces, Holds}
use Rattle.dsm_flat.specs.Flat.{IsStore, IsAccess, Ordered, Final, Flat, Sourced}
use Rattle.dsm_flat.specs.Laws.{Raises, Carried}

-- one access to the word: its place, and its load or store
pub record Made : Type 0 where
  pub place : Place
  pub entry : Entry

-- the value of the word behind an access, where it was u before
abbrev pub left_by : Entry → ℕ → ℕ
left_by (Store w v) u = v
left_by _ u = u

-- the value of the latest store of the list, newest first, and the initial value where it has none
abbrev pub latest : ℕ → List Made → ℕ
latest initial [] = initial
latest initial (m ∷ older) = left_by m.entry (latest initial older)

-- if the access is a load, it has the value u
abbrev pub Gets : Entry → ℕ → Type 0
Gets (Load w v) u = v ≡ u
Gets _ u = Unit {0}

-- each load of the list, newest first, has the value of the latest store made before it
abbrev pub InOrder : ℕ → List Made → Type 0
InOrder initial [] = Unit {0}
InOrder initial (m ∷ older) = Gets m.entry (latest initial older) × InOrder initial older

-- ranks fall strictly along the list
abbrev pub Falls : (Place → ℕ) → List Made → Type 0
Falls rank list =
    (i j : ℕ) (m n : Made) → i < j → slice_get list i ≡ Some m → slice_get list j ≡ Some n → rank n.place < rank m.place

-- the list has the accesses to w in the traces, those and all of them, each once, the one of highest rank first
pub record AreAccesses (ts : Traces) (w : ℕ) (rank : Place → ℕ) (list : List Made) : Type 0 where
  pub held : (i : ℕ) (m : Made) → slice_get list i ≡ Some m → Holds ts m.place m.entry × IsAccess ts w m.place
  pub all : (x : Place) → IsAccess ts w x → (i : ℕ) × (m : Made) × (slice_get list i ≡ Some m) × (m.place ≡ x)
  pub falls : Falls rank list

-- where the accesses to a word, in an order that every edge raises, have each load at the value of the latest
-- store before it, each load has a source; and if the word is ordered, it is flat, and its final value is that
-- of the latest store of all
abbrev pub WordIsFlat : Type 0
WordIsFlat =
    (ts : Traces) (rank : Place → ℕ) (initial w : ℕ) (list : List Made) → Raises ts rank → AreAccesses ts w rank list → InOrder initial list
    → Sourced ts initial w × (Ordered ts w → Flat ts initial w) × (Ordered ts w → Final ts initial w (latest initial list))

-- from a store to an ordered word to a later access by another processor lead a signal of the one and then a
-- pass of the other
abbrev pub WordIsHandedOver : Type 0
WordIsHandedOver =
    (ts : Traces) (rank : Place → ℕ) (w : ℕ) (x y : Place) → Raises ts rank → Ordered ts w
    → IsStore ts w x → IsAccess ts w y → rank x < rank y → x.p ≢ y.p → Carried ts rank x y
