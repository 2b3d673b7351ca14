-- What is asked of the list of what happened to one word.
use Rattle.std.specs.Prelude.{◌≡◌, ◌≢◌, ℕ, ◌⊎◌, true, false, Option, None, Some, List, [], ◌∷◌}
use Rattle.dsm_copies.specs.Modes.{Bare, Twinned, Exclusive, Flush_over, is_alone, may_store, owed, ended, told}
use Rattle.dsm_copies.specs.Copies.{State, Event, Load, Store, Signal, Begin, Drop, Enter, Home_sent, Home_enter, Flush, Merge, Overwrite, Make, Break, is_at, after, read, exclusive_at}

-- The premises, each with the reason for which it is there.
pub data Premise : Type 0 where
  -- a load gives what stands in the copy at its processor's place: nothing else is read
  Values : Premise
  -- the last store's processor has signalled and then this one passed, or it is the same one: else the two race
  Order : Premise
  -- no other place is exclusive or entering: who is alone tells nobody of its stores and fetches none
  Apart : Premise
  -- the node has fetched the word before: else its frame has any value
  Fetched : Premise
  -- a last store that was told to the processor was fetched since its send ended: else the frame may be older than the store
  Told : Premise
  -- and so was one that a break told: it may be known from before it was told
  Broken : Premise
  -- a store away from the home finds a twin, or its node exclusive: else no flush or break brings it home
  Rights : Premise
  -- who signals has told its last store, or its node is exclusive and does not owe it: who passes then must be able to get it
  Released : Premise
  -- a flush begins where a twin is up and nothing is open: what differs from any other twin is no store
  Flushes : Premise
  -- so does a merge: what equals any other twin need not stand in the frame
  Merges : Premise
  -- an overwrite begins where no twin is up and nothing is open: else it overwrites the node's own stores
  Overwrites : Premise
  -- so does the making of a twin: a new one hides the stores that the old one shows
  Makes : Premise
  -- a break begins where the node is exclusive: it sends the word whatever it is, which must be the last store
  Breaks : Premise
  -- a twin is dropped only where a flush has just been told: else who enters next signals a store that will not be told
  Drops : Premise
  -- and only where it shows no store that is still owed: the next overwrite would lose it
  Kept : Premise
  -- the home notes no send while it is exclusive: what it stores then counts as sent before anybody was told
  Home_sends : Premise
  -- a node enters where no node has a twin or an open block or is exclusive: its copy must have the last store, and its break
  -- sends that copy
  Enters : Premise
  -- the home does not become exclusive between the end and the telling of its send: who passes then is told by neither
  Home_tells : Premise

-- what is asked of a processor's accesses
abbrev pub AtAccess : (ℕ → Type 0) → Event → Type 0
AtAccess P (Load p v) = P p
AtAccess P (Store p v) = P p
AtAccess P _ = Unit {0}

-- what is asked at the nodes, and not at the home
abbrev pub Away : Option ℕ → (ℕ → Type 0) → Type 0
Away None P = Unit {0}
Away (Some n) P = P n

-- no place but this is exclusive or entering
abbrev pub IsApart : State → Option ℕ → Type 0
IsApart s None = (k : ℕ) → is_alone (s.nodes k).mode ≡ false
IsApart s (Some n) = (s.home_exclusive ≡ false) × ((k : ℕ) → k ≢ n → is_alone (s.nodes k).mode ≡ false)

-- no node has a twin or an open block, and none is exclusive
abbrev pub AreBare : State → Type 0
AreBare s = (k : ℕ) → (s.nodes k).mode ≡ Bare

-- the last store is not this node's, and there was one
abbrev pub IsOthers : State → ℕ → Type 0
IsOthers s n = (is_at s.at n ≡ false) × (s.by ≢ None)

module _ (place : ℕ → Option ℕ) where
  -- what a premise asks of an event
  abbrev pub Asks : Premise → State → Event → Type 0
  Asks Values s (Load p v) = v ≡ read s (place p)
  Asks Order s e = AtAccess (λ p. s.knows p ≡ true) e
  Asks Apart s e = AtAccess (λ p. IsApart s (place p)) e
  Asks Fetched s e = AtAccess (λ p. Away (place p) (λ n. (s.nodes n).fetched ≡ true)) e
  Asks Told s e = AtAccess (λ p. Away (place p) (λ n. IsOthers s n → s.told_to p ≡ true → (s.nodes n).since ≡ true)) e
  Asks Broken s e = AtAccess (λ p. Away (place p) (λ n. IsOthers s n → s.broken ≡ true → (s.nodes n).since ≡ true)) e
  Asks Rights s (Store p v) = Away (place p) (λ n. may_store (s.nodes n).mode ≡ true)
  Asks Released s (Signal p) = s.by ≡ Some p → (s.progress ≡ told) ⊎ ((exclusive_at s s.at ≡ true) × (s.progress ≢ owed))
  Asks Flushes s (Begin n Flush) = (s.nodes n).mode ≡ Twinned
  Asks Merges s (Begin n Merge) = (s.nodes n).mode ≡ Twinned
  Asks Overwrites s (Begin n Overwrite) = (s.nodes n).mode ≡ Bare
  Asks Makes s (Begin n Make) = (s.nodes n).mode ≡ Bare
  Asks Breaks s (Begin n Break) = (s.nodes n).mode ≡ Exclusive
  Asks Drops s (Drop n) = (s.nodes n).mode ≡ Flush_over
  Asks Kept s (Drop n) = is_at s.at n ≡ true → s.progress ≢ owed
  Asks Home_sends s Home_sent = s.home_exclusive ≡ false
  Asks Enters s (Enter n) = AreBare s
  Asks Home_tells s Home_enter = s.at ≡ None → s.progress ≢ ended
  Asks _ s e = Unit {0}

  -- each event of the list, newest first, meets the premises that are asked
  abbrev pub RunsUnder : (Premise → Type 0) → State → List Event → Type 0
  RunsUnder asked s [] = Unit {0}
  RunsUnder asked s (e ∷ older) = ((r : Premise) → asked r → Asks r (after place s older) e) × RunsUnder asked s older

-- every premise
abbrev pub Every : Premise → Type 0
Every r = Unit {0}

-- every premise but one
abbrev pub But : Premise → Premise → Type 0
But r q = q ≢ r

-- those that keep every copy at a value that was stored, ordered or not
abbrev pub Loose : Premise → Type 0
Loose Values = Unit {0}
Loose Fetched = Unit {0}
Loose Flushes = Unit {0}
Loose Merges = Unit {0}
Loose Breaks = Unit {0}
Loose _ = ⊥
