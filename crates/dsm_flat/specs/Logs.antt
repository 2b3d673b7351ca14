-- A log: what all processors did, in the order in which they did it.
use Rattle.std.specs.Prelude.{◌≡◌, ℕ, ◌<◌, ◌⊎◌, ◌↔◌, Bool, false, ◌==◌, ◌&&◌, if◌then◌else◌, List, [], ◌∷◌, ◌++◌, Some, length, slice_get}
use Rattle.dsm_entry.specs.declared.entry.Entry.{Entry}
use Rattle.dsm_entry.specs.declared.entry.Entry.TheVariants.{Load, Store}
use Rattle.dsm_entry.specs.declared.entry.Place.{Place}
use Rattle.dsm_flat.specs.Order.{Traces, Holds}
use Rattle.dsm_flat.specs.WordLaw.{Made, latest, InOrder, AreAccesses}

-- processor p made the entry e
pub record Deed : Type 0 where
  pub p : ℕ
  pub e : Entry

-- all deeds, newest first
abbrev pub Log : Type 0
Log = List Deed

-- the entries of processor p, oldest first
abbrev pub mine : ℕ → Log → List Entry
mine p [] = []
mine p (d ∷ log) = if d.p == p then mine p log ++ d.e ∷ [] else mine p log

-- e is the entry of the log at x
abbrev pub Was : Log → Place → Entry → Type 0
Was log x e = slice_get (mine x.p log) x.i ≡ Some e

-- the traces hold, at each place, what the log has there
abbrev pub IsHistory : Log → Traces → Type 0
IsHistory log ts = (x : Place) (e : Entry) → Holds ts x e ↔ Was log x e

-- the place of a deed made after this log
abbrev pub newest : Deed → Log → Place
newest d log = record { p = d.p; i = length (mine d.p log) }

-- how many deeds were made before that of the place
abbrev pub rank : Log → Place → ℕ
rank [] x = 0
rank (d ∷ log) x = if (d.p == x.p) && (length (mine x.p log) == x.i) then length log else rank log x

-- the entry is a load of w or a store to w
abbrev pub accesses_word : ℕ → Entry → Bool
accesses_word w (Load u v) = u == w
accesses_word w (Store u v) = u == w
accesses_word w _ = false

-- the deed with its place, if it accesses w, before older accesses
abbrev pub made_by : ℕ → Deed → Log → List Made → List Made
made_by w d log older = if accesses_word w d.e then record { place = newest d log; entry = d.e } ∷ older else older

-- the accesses to w in the log, newest first
abbrev pub accesses_of : ℕ → Log → List Made
accesses_of w [] = []
accesses_of w (d ∷ log) = made_by w d log (accesses_of w log)

-- the entry at x is an old one, and its rank stays below the number of the old deeds
pub record IsOld (d : Deed) (log : Log) (x : Place) (e : Entry) : Type 0 where
  pub was : Was log x e
  pub rank_same : rank (d ∷ log) x ≡ rank log x
  pub rank_below : rank log x < length log

-- the entry at x is that of the newest deed, whose rank is the number of the old ones
pub record IsNewest (d : Deed) (log : Log) (x : Place) (e : Entry) : Type 0 where
  pub own : x.p ≡ d.p
  pub entry_is : e ≡ d.e
  pub rank_is : rank (d ∷ log) x ≡ length log

-- what is in a log with one deed more is old or the newest,
abbrev pub NewIsOneMore : Type 0
NewIsOneMore = (d : Deed) (log : Log) (x : Place) (e : Entry) → Was (d ∷ log) x e → IsOld d log x e ⊎ IsNewest d log x e

-- what was in the log stays in it,
abbrev pub OldStays : Type 0
OldStays = (d : Deed) (log : Log) (x : Place) (e : Entry) → Was log x e → Was (d ∷ log) x e × IsOld d log x e

-- and the newest deed is in it at its place
abbrev pub NewestIsThere : Type 0
NewestIsThere = (d : Deed) (log : Log) → Was (d ∷ log) (newest d log) d.e × IsNewest d log (newest d log) d.e

-- in one processor's trace a later entry was made later
abbrev pub OwnRises : Type 0
OwnRises = (log : Log) (x y : Place) (e f : Entry) → Was log x e → Was log y f → x.p ≡ y.p → x.i < y.i → rank log x < rank log y

-- the accesses to a word in a log are those in its traces
abbrev pub LogHasAccesses : Type 0
LogHasAccesses = (w : ℕ) (log : Log) (ts : Traces) → IsHistory log ts → AreAccesses ts w (rank log) (accesses_of w log)

-- the value of w behind an entry, where it was u before
abbrev pub stored_by : ℕ → Entry → ℕ → ℕ
stored_by w (Store u v) old = if u == w then v else old
stored_by w _ old = old

-- what a deed does to the value of the latest store,
abbrev pub LatestGrows : Type 0
LatestGrows = (initial w : ℕ) (d : Deed) (log : Log) → latest initial (accesses_of w (d ∷ log)) ≡ stored_by w d.e (latest initial (accesses_of w log))

-- and a deed that gets this value where it loads w keeps the order
abbrev pub OrderGrows : Type 0
OrderGrows =
    (initial w : ℕ) (d : Deed) (log : Log) → ((v : ℕ) → d.e ≡ Load w v → v ≡ latest initial (accesses_of w log))
    → InOrder initial (accesses_of w log) → InOrder initial (accesses_of w (d ∷ log))
