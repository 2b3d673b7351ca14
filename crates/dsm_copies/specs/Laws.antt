-- The law of one word.
use Rattle.std.specs.Prelude.{◌≡◌, ℕ, true, false, Option, Some, List, [], ◌∷◌, ◌⊎◌}
use Rattle.dsm_copies.specs.Modes.{is_exclusive}
use Rattle.dsm_copies.specs.Copies.{State, Event, Load, Store, after, start, latest}
use Rattle.dsm_copies.specs.Premises.{RunsUnder, Every, Loose}
use Rattle.dsm_copies.specs.Counts.{no_count}
use Rattle.dsm_copies.specs.Debts.{no_debts, debts_after, RunsOf}

-- no place is exclusive
abbrev pub NoneExclusive : State → Type 0
NoneExclusive s = (s.home_exclusive ≡ false) × ((n : ℕ) → is_exclusive (s.nodes n).mode ≡ false)

-- each load has the latest store
abbrev pub LoadsHaveTheLatest : Type 0
LoadsHaveTheLatest =
    (place : ℕ → Option ℕ) (init : ℕ) (frames twins : ℕ → ℕ) (p v : ℕ) (es : List Event)
    → RunsUnder place Every (start init frames twins) (Load p v ∷ es) → v ≡ latest init es

-- where the last store is released and no place is exclusive, the home has it
abbrev pub HomeHasTheLatest : Type 0
HomeHasTheLatest =
    (place : ℕ → Option ℕ) (init : ℕ) (frames twins : ℕ → ℕ) (es : List Event)
    → let s = after place (start init frames twins) es in
    RunsUnder place Every (start init frames twins) es → s.released ≡ true → NoneExclusive s → s.master ≡ latest init es

-- the event stores v
abbrev pub Stores : Event → ℕ → Type 0
Stores (Store p u) v = u ≡ v
Stores _ v = ⊥

-- some store of the list stored v
abbrev pub Stored : List Event → ℕ → Type 0
Stored [] v = ⊥
Stored (e ∷ older) v = Stores e v ⊎ Stored older v

-- each load, of whatever word, has the initial value or one that was stored before it
abbrev pub LoadsHaveASource : Type 0
LoadsHaveASource =
    (place : ℕ → Option ℕ) (init : ℕ) (frames twins : ℕ → ℕ) (p v : ℕ) (es : List Event)
    → RunsUnder place Loose (start init frames twins) (Load p v ∷ es) → (v ≡ init) ⊎ Stored es v

-- the premises by numbers of sends and by debts are enough
abbrev pub SendsAndDebtsAreEnough : Type 0
SendsAndDebtsAreEnough =
    (place : ℕ → Option ℕ) (init : ℕ) (frames twins : ℕ → ℕ) (es : List Event)
    → RunsOf place Every (start init frames twins) no_count no_debts es → RunsUnder place Every (start init frames twins) es

-- how far the last store has come is what its processor owes
abbrev pub LastStoreIsOwed : Type 0
LastStoreIsOwed =
    (place : ℕ → Option ℕ) (init : ℕ) (frames twins : ℕ → ℕ) (es : List Event) (p : ℕ)
    → let s = after place (start init frames twins) es in
    RunsOf place Every (start init frames twins) no_count no_debts es → s.by ≡ Some p
    → s.progress ≡ (debts_after place (start init frames twins) no_debts es).debt p
