-- What the proofs take of the premises, event by event.
use Rattle.std.proofs.Common.{◌≡◌, ◌≢◌, ℕ, ◌⊎◌, true, false, Option, None, Some, inl, inr}
use Rattle.dsm_copies.specs.Modes.{Bare, Twinned, Exclusive, Flush_over, may_store, owed, ended, told}
use Rattle.dsm_copies.specs.Copies.{State, Node, Event, Load, Store, Signal, Pass, Begin, Op, Drop, Enter, Home_sent, Home_told, Home_enter, Home_break, Kind, Flush, Merge, Overwrite, Make, Break, is_at, read, exclusive_at}
use Rattle.dsm_copies.specs.Premises.{Premise, Values, Order, Apart, Fetched, Told, Broken, Rights, Released, Flushes, Merges, Overwrites, Makes, Breaks, Drops, Kept, Home_sends, Enters, Home_tells, Away, IsApart, AreBare, IsOthers, Asks, Every, Loose}

-- an access by a processor at a place
abbrev pub MayAccess : State → ℕ → Option ℕ → Type 0
MayAccess s p None = (s.knows p ≡ true) × IsApart s None
MayAccess s p (Some n) = (s.knows p ≡ true) × IsApart s (Some n) × ((s.nodes n).fetched ≡ true) × (is_at s.at n ≡ false → s.by ≢ None → (s.told_to p ≡ true) ⊎ (s.broken ≡ true) → (s.nodes n).since ≡ true)

abbrev pub MayWrite : State → Option ℕ → Type 0
MayWrite s w = Away w (λ n. may_store (s.nodes n).mode ≡ true)

-- a block begins
abbrev pub MayBegin : Node → Kind → Type 0
MayBegin x Flush = x.mode ≡ Twinned
MayBegin x Merge = x.mode ≡ Twinned
MayBegin x Overwrite = x.mode ≡ Bare
MayBegin x Make = x.mode ≡ Bare
MayBegin x Break = x.mode ≡ Exclusive

-- a load at a place where the word was fetched, or at the home
abbrev pub IsFetched : State → Option ℕ → Type 0
IsFetched s w = Away w (λ n. (s.nodes n).fetched ≡ true)

module _ (place : ℕ → Option ℕ) where
  abbrev pub May : State → Event → Type 0
  May s (Load p v) = MayAccess s p (place p) × (v ≡ read s (place p))
  May s (Store p v) = MayAccess s p (place p) × MayWrite s (place p)
  May s (Signal p) = s.by ≡ Some p → (s.progress ≡ told) ⊎ ((exclusive_at s s.at ≡ true) × (s.progress ≢ owed))
  May s (Pass q) = Unit {0}
  May s (Begin n kind) = MayBegin (s.nodes n) kind
  May s (Op n) = Unit {0}
  May s (Drop n) = ((s.nodes n).mode ≡ Flush_over) × (is_at s.at n ≡ true → s.progress ≢ owed)
  May s Home_sent = s.home_exclusive ≡ false
  May s Home_told = Unit {0}
  May s (Enter n) = AreBare s
  May s Home_enter = s.at ≡ None → s.progress ≢ ended
  May s Home_break = Unit {0}

  abbrev pub MayLoose : State → Event → Type 0
  MayLoose s (Load p v) = IsFetched s (place p) × (v ≡ read s (place p))
  MayLoose s (Begin n Flush) = (s.nodes n).mode ≡ Twinned
  MayLoose s (Begin n Merge) = (s.nodes n).mode ≡ Twinned
  MayLoose s (Begin n Break) = (s.nodes n).mode ≡ Exclusive
  MayLoose s _ = Unit {0}

-- the five premises on an access
access : (s : State) (p : ℕ) (w : Option ℕ) → s.knows p ≡ true → IsApart s w → IsFetched s w
    → Away w (λ n. IsOthers s n → s.told_to p ≡ true → (s.nodes n).since ≡ true) → Away w (λ n. IsOthers s n → s.broken ≡ true → (s.nodes n).since ≡ true) → MayAccess s p w
access s p None knows apart fetched by_told by_broken = (knows, apart)
access s p (Some n) knows apart fetched by_told by_broken = (knows, apart, fetched, since)
  where
    since : is_at s.at n ≡ false → s.by ≢ None → (s.told_to p ≡ true) ⊎ (s.broken ≡ true) → (s.nodes n).since ≡ true
    since away made (inl e) = by_told (away, made) e
    since away made (inr e) = by_broken (away, made) e

module _ (place : ℕ → Option ℕ) (s : State) where
  -- all premises give what is needed
  pub needs : (e : Event) → ((r : Premise) → Every r → Asks place r s e) → May place s e
  needs (Load p v) asks = (access s p (place p) (asks Order tt) (asks Apart tt) (asks Fetched tt) (asks Told tt) (asks Broken tt), asks Values tt)
  needs (Store p v) asks = (access s p (place p) (asks Order tt) (asks Apart tt) (asks Fetched tt) (asks Told tt) (asks Broken tt), asks Rights tt)
  needs (Signal p) asks = asks Released tt
  needs (Pass q) asks = tt
  needs (Begin n Flush) asks = asks Flushes tt
  needs (Begin n Merge) asks = asks Merges tt
  needs (Begin n Overwrite) asks = asks Overwrites tt
  needs (Begin n Make) asks = asks Makes tt
  needs (Begin n Break) asks = asks Breaks tt
  needs (Op n) asks = tt
  needs (Drop n) asks = (asks Drops tt, asks Kept tt)
  needs (Enter n) asks = asks Enters tt
  needs Home_sent asks = asks Home_sends tt
  needs Home_told asks = tt
  needs Home_enter asks = asks Home_tells tt
  needs Home_break asks = tt

  -- and the loose ones what values need
  pub loose_needs : (e : Event) → ((r : Premise) → Loose r → Asks place r s e) → MayLoose place s e
  loose_needs (Load p v) asks = (asks Fetched tt, asks Values tt)
  loose_needs (Store p v) asks = tt
  loose_needs (Signal p) asks = tt
  loose_needs (Pass q) asks = tt
  loose_needs (Begin n Flush) asks = asks Flushes tt
  loose_needs (Begin n Merge) asks = asks Merges tt
  loose_needs (Begin n Overwrite) asks = tt
  loose_needs (Begin n Make) asks = tt
  loose_needs (Begin n Break) asks = asks Breaks tt
  loose_needs (Op n) asks = tt
  loose_needs (Drop n) asks = tt
  loose_needs (Enter n) asks = tt
  loose_needs Home_sent asks = tt
  loose_needs Home_told asks = tt
  loose_needs Home_enter asks = tt
  loose_needs Home_break asks = tt
