-- The list of one word beside the traces of all processors.
use Rattle.std.specs.Prelude.{◌≡◌, ℕ, ◌<◌, Bool, true, false, ◌==◌, if◌then◌else◌, Option, None, Some, List, [], ◌∷◌}
use Rattle.dsm_entry.specs.declared.entry.Entry.{Entry}
use Rattle.dsm_entry.specs.declared.entry.Entry.TheVariants.{Load as LoadOf, Store as StoreOf, Signal as SignalOf, Pass as PassOf}
use Rattle.dsm_entry.specs.declared.entry.Obj.{Obj}
use Rattle.dsm_entry.specs.declared.entry.Place.{Place}
use Rattle.dsm_flat.specs.Order.{Traces, Holds}
use Rattle.dsm_flat.specs.Flat.{IsStore, Ordered, Flat, Sourced, Final}
use Rattle.dsm_flat.specs.Laws.{Raises}
use Rattle.dsm_flat.specs.Logs.{Log, IsHistory, rank}
use Rattle.dsm_copies.specs.Copies.{State, Event, Load, Store, Signal, Pass, after, start}
use Rattle.dsm_copies.specs.Premises.{Order, RunsUnder, But}
use Rattle.dsm_copies.specs.Counts.{no_count}
use Rattle.dsm_copies.specs.Debts.{no_debts, RunsOf}
use Rattle.dsm_copies.specs.Laws.{NoneExclusive}

-- the event is of a processor, and not of a copy
abbrev pub is_deed : Event → Bool
is_deed (Load p v) = true
is_deed (Store p v) = true
is_deed (Signal p) = true
is_deed (Pass p) = true
is_deed _ = false

-- what the processors did, of a list of events
abbrev pub deeds_in : List Event → List Event
deeds_in [] = []
deeds_in (e ∷ older) = if is_deed e then e ∷ deeds_in older else deeds_in older

-- what an entry of processor p is to word w: an access to it, a signal, a pass, or nothing
abbrev pub event_of : ℕ → ℕ → Entry → Option Event
event_of w p (LoadOf u v) = if u == w then Some (Load p v) else None
event_of w p (StoreOf u v) = if u == w then Some (Store p v) else None
event_of w p (SignalOf o j) = Some (Signal p)
event_of w p (PassOf o c) = Some (Pass p)
event_of w p _ = None

-- an event that there may be, before older ones
abbrev pub onto : Option Event → List Event → List Event
onto None older = older
onto (Some e) older = e ∷ older

-- what the processors did, of a log, as far as it concerns word w
abbrev pub deeds_of : ℕ → Log → List Event
deeds_of w [] = []
deeds_of w (d ∷ log) = onto (event_of w d.p d.e) (deeds_of w log)

-- the log is that of the traces, every edge leads upwards in it, and the list says of the processors what the log says
pub record IsJoined (ts : Traces) (log : Log) (w : ℕ) (es : List Event) : Type 0 where
  pub history : IsHistory log ts
  pub raises : Raises ts (rank log)
  pub same : deeds_in es ≡ deeds_of w log

-- behind each store to w its processor has signalled
abbrev pub AllSignalled : Traces → Log → ℕ → Type 0
AllSignalled ts log w =
    (x : Place) → IsStore ts w x → (a : Place) × (o : Obj) × (j : ℕ) × Holds ts a (SignalOf o j) × (a.p ≡ x.p) × (rank log x < rank log a)

-- in the traces of an ordered word, who makes an access knows the last store
abbrev pub OrderIsKnown : Type 0
OrderIsKnown =
    (place : ℕ → Option ℕ) (init : ℕ) (frames twins : ℕ → ℕ) (ts : Traces) (log : Log) (w : ℕ) (es : List Event)
    → IsJoined ts log w es → Ordered ts w → RunsUnder place (λ r. r ≡ Order) (start init frames twins) es

-- The word is as a flat memory has it: no load has a value from nowhere; if the word is ordered, each load has the last store
-- before it; and what the home has is the final value, if all stores are signalled and no place is exclusive.
pub record IsRight (ts : Traces) (log : Log) (init w : ℕ) (s : State) : Type 0 where
  pub sourced : Sourced ts init w
  pub flat : Ordered ts w → Flat ts init w
  pub final_value : Ordered ts w → AllSignalled ts log w → NoneExclusive s → Final ts init w s.master

-- every premise but that of order makes the traces right,
abbrev pub JoinedIsRight : Type 0
JoinedIsRight =
    (place : ℕ → Option ℕ) (init : ℕ) (frames twins : ℕ → ℕ) (ts : Traces) (log : Log) (w : ℕ) (es : List Event)
    → IsJoined ts log w es → RunsUnder place (But Order) (start init frames twins) es
    → IsRight ts log init w (after place (start init frames twins) es)

-- and so do those by numbers of sends and by debts
abbrev pub JoinedBySends : Type 0
JoinedBySends =
    (place : ℕ → Option ℕ) (init : ℕ) (frames twins : ℕ → ℕ) (ts : Traces) (log : Log) (w : ℕ) (es : List Event)
    → IsJoined ts log w es → RunsOf place (But Order) (start init frames twins) no_count no_debts es
    → IsRight ts log init w (after place (start init frames twins) es)
