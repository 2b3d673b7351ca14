-- What holds of a state, whatever events have led to it.
use Rattle.std.specs.Prelude.{◌≡◌, ◌≢◌, ◌⊎◌, ◌↔◌, ℕ, ◌+◌, ◌*◌, ◌<◌, true, false, List, Option, Some, map, slice_get}
use Rattle.dsm_words.specs.declared.item.Item.TheVariants.{Map, Dir, Home}
use Rattle.dsm_words.specs.Place.{IsWithin}
use Rattle.dsm_words.specs.Words.{word}
use Rattle.dsm_clock.specs.declared.turns.TurnId.{TurnId}
use Rattle.dsm_clock.specs.Turns.{turn_item}
use Rattle.dsm_flat.specs.Sync.{SyncLegal}
use Rattle.dsm_protocol.specs.Own.{mapping}
use Rattle.dsm_protocol.specs.Jobs.{has_ended, held_turn}
use Rattle.dsm_protocol.specs.Processors.{Processor}
use Rattle.dsm_runs.specs.Setups.{Setup, lay_in}
use Rattle.dsm_runs.specs.Clusters.{Cluster, Event, after_loose, after_all_loose}
use Rattle.dsm_runs.specs.Turning.{IsHeld, CanGoOn}

-- the synchronisation so far is legal
abbrev pub SyncIsLegal : Setup → Cluster → Type 0
SyncIsLegal s c = SyncLegal (map (λ m. m.own.trace) c.processors) (s.nodes * s.procs)

-- the words of a processor's mappings are the mappings that it has
abbrev pub OwnMaps : Setup → Cluster → Type 0
OwnMaps s c = (p g : ℕ) (m : Processor) → slice_get c.processors p ≡ Some m → g < s.program.shape.pages → word (lay_in s) c.words (Map p g) ≡ mapping m.own g

-- a turn of the layout, of a node and page or of a node's notices
abbrev pub IsTurn : Setup → TurnId → Type 0
IsTurn s t = IsWithin (lay_in s) (turn_item t)

-- processor p holds turn t: the turn's word has its number
abbrev pub Holds : Setup → Cluster → ℕ → TurnId → Type 0
Holds s c p t = word (lay_in s) c.words (turn_item t) ≡ p + 1

-- processor p is at work under turn t, which it still has to give back
abbrev pub WorksUnder : Cluster → ℕ → TurnId → Type 0
WorksUnder c p t = (m : Processor) × (slice_get c.processors p ≡ Some m) × (held_turn m.todo ≡ Some t)

-- who holds which turn
pub record TurnHolders (s : Setup) (c : Cluster) : Type 0 where
  -- a processor holds a turn exactly where it is at work under it
  pub works : (p : ℕ) (m : Processor) (t : TurnId) → slice_get c.processors p ≡ Some m → IsTurn s t → Holds s c p t ↔ WorksUnder c p t
  -- a turn has at most one holder: no two processors are at work under it
  pub one_holder : (p q : ℕ) (t : TurnId) → IsTurn s t → WorksUnder c p t → WorksUnder c q t → p ≡ q
  -- a processor holds at most one turn
  pub one_turn : (p : ℕ) (m : Processor) (t k : TurnId) → slice_get c.processors p ≡ Some m → IsTurn s t → IsTurn s k → Holds s c p t → Holds s c p k → t ≡ k
  -- one that has ended holds none
  pub ended : (p : ℕ) (m : Processor) (t : TurnId) → slice_get c.processors p ≡ Some m → has_ended m.todo ≡ true → IsTurn s t → Holds s c p t → ⊥
  -- a turn that is not free is held
  pub free : (t : TurnId) → IsTurn s t → (word (lay_in s) c.words (turn_item t) ≡ 0) ⊎ IsHeld c t

-- where a processor has not ended, the next operation of some such processor is no try of a turn that is taken
abbrev pub SomeGoesOn : Setup → Cluster → Type 0
SomeGoesOn s c = (p : ℕ) (m : Processor) → slice_get c.processors p ≡ Some m → has_ended m.todo ≡ false → (q : ℕ) × (n : Processor) × CanGoOn s c q n

-- whichever event comes next, it leaves every other processor's mappings alone, and its words of them
abbrev pub SparesMappings : Setup → Cluster → Type 0
SparesMappings s c =
    (e : Event) (any : Option ℕ) (q g : ℕ) → q ≢ e.p → q < s.nodes * s.procs → g < s.program.shape.pages
    → let d = after_loose s c e any in
    (slice_get d.processors q ≡ slice_get c.processors q) × (word (lay_in s) d.words (Map q g) ≡ word (lay_in s) c.words (Map q g))

-- a page gets its home once
pub record HomeFixed (s : Setup) (c : Cluster) : Type 0 where
  -- whatever events come, a page that has a home keeps it
  pub stays : (g : ℕ) (later : List (Event × Option ℕ)) → g < s.program.shape.pages → word (lay_in s) c.words (Home g) ≢ 0
      → word (lay_in s) (after_all_loose s c later).words (Home g) ≡ word (lay_in s) c.words (Home g)
  -- and one that has none is in no node's directory
  pub unused : (n g : ℕ) → n < s.nodes → g < s.program.shape.pages → word (lay_in s) c.words (Home g) ≡ 0 → word (lay_in s) c.words (Dir n g) ≡ 0
