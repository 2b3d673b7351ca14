-- Turns and mappings over every list of events, and what a mapping allows.
use Rattle.std.specs.Prelude.{◌≡◌, ◌⊎◌, ◌↔◌, ℕ, ◌+◌, ◌<◌, false, List, Option, None, Some, slice_get}
use Rattle.dsm_isa.specs.declared.instr.Instr.{Instr}
use Rattle.dsm_entry.specs.declared.entry.Entry.TheVariants.{Load, Store}
use Rattle.dsm_local.specs.declared.action.Action.TheVariants.{LoadWord, StoreWord}
use Rattle.dsm_local.specs.Readers.{next_action}
use Rattle.dsm_words.specs.declared.item.Item.TheVariants.{Map}
use Rattle.dsm_words.specs.Place.{IsWithin}
use Rattle.dsm_words.specs.Script.{Get, Put, Change, item_of}
use Rattle.dsm_words.specs.Words.{word}
use Rattle.dsm_clock.specs.declared.turns.TurnId.{TurnId}
use Rattle.dsm_clock.specs.Turns.{turn_item}
use Rattle.dsm_protocol.specs.declared.head.Head.TheVariants.{Instruction}
use Rattle.dsm_protocol.specs.Own.{Own, Who, setting_of, mapping, appended}
use Rattle.dsm_protocol.specs.Jobs.{Give, Move, Begin, own_after, first_act, has_ended, held_turn}
use Rattle.dsm_protocol.specs.Steps.{page_of, address_item}
use Rattle.dsm_protocol.specs.Processors.{Processor, begun, after_answer}
use Rattle.dsm_runs.specs.Setups.{Setup, IsSetup, lay_in}
use Rattle.dsm_runs.specs.Clusters.{Cluster, Event, start, act_in, after_all_loose}

-- what holds of each processor behind each list of loose events
abbrev pub Always : (Setup → Cluster → ℕ → Processor → Type 0) → Type 0
Always P = (s : Setup) (events : List (Event × Option ℕ)) (p : ℕ) (m : Processor) → IsSetup s
    → slice_get (after_all_loose s (start s) events).processors p ≡ Some m
    → P s (after_all_loose s (start s) events) p m

-- the words of its mappings are what it has of them
abbrev pub MapsAreItsOwn : Type 0
MapsAreItsOwn = Always (λ s c p m. (g : ℕ) → g < s.program.shape.pages → word (lay_in s) c.words (Map p g) ≡ mapping m.own g)

-- an event's operation on processor q's mapping of page g is a load, or it is q's own store
abbrev pub MapsAreStoredByTheirOwn : Type 0
MapsAreStoredByTheirOwn = (s : Setup) (events : List (Event × Option ℕ)) (e : Event) (m : Processor) (q g : ℕ) → IsSetup s
    → slice_get (after_all_loose s (start s) events).processors e.p ≡ Some m
    → item_of (act_in s e m) ≡ Map q g
    → (act_in s e m ≡ Get (Map q g)) ⊎ ((q ≡ e.p) × (v : ℕ) × (act_in s e m ≡ Put (Map q g) v))

-- a turn's word has its number exactly where it holds the turn: so a turn has one holder at most, and a processor holds one turn at most
abbrev pub HoldsItsTurn : Type 0
HoldsItsTurn = Always (λ s c p m. (t : TurnId) → IsWithin (lay_in s) (turn_item t) → (word (lay_in s) c.words (turn_item t) ≡ p + 1) ↔ (held_turn m.todo ≡ Some t))

-- one that tries a turn holds none
abbrev pub TriesHoldingNone : Type 0
TriesHoldingNone = Always (λ s c p m. (t : TurnId) → first_act m.todo ≡ Change (turn_item t) 0 (p + 1) → held_turn m.todo ≡ None)

-- some processor holds the turn
abbrev pub IsHeld : Cluster → TurnId → Type 0
IsHeld c t = (q : ℕ) × (n : Processor) × (slice_get c.processors q ≡ Some n) × (held_turn n.todo ≡ Some t)

-- a turn's word is 0, or some processor holds the turn
abbrev pub EachTurnIsHeld : Type 0
EachTurnIsHeld = (s : Setup) (events : List (Event × Option ℕ)) (t : TurnId) → IsSetup s → IsWithin (lay_in s) (turn_item t)
    → let c = after_all_loose s (start s) events in (word (lay_in s) c.words (turn_item t) ≡ 0) ⊎ IsHeld c t

-- processor q has not ended, and its next operation is no try of a turn that is taken
abbrev pub CanGoOn : Setup → Cluster → ℕ → Processor → Type 0
CanGoOn s c q n =
    (slice_get c.processors q ≡ Some n)
    × (has_ended n.todo ≡ false)
    × ((t : TurnId) → IsWithin (lay_in s) (turn_item t) → first_act n.todo ≡ Change (turn_item t) 0 (q + 1) → word (lay_in s) c.words (turn_item t) ≡ 0)

-- where a processor has not ended, some processor can go on: nobody waits for turns in a circle
abbrev pub NoCircle : Type 0
NoCircle = Always (λ s c p m. has_ended m.todo ≡ false → (q : ℕ) × (n : Processor) × CanGoOn s c q n)

-- a load that its mapping allows is one operation, on the frame of its own node; with it the entry is appended and the next instruction begins
abbrev pub MappedLoadIsOneOperation : Type 0
MappedLoadIsOneOperation = (u : Who) (code : List Instr) (o : Own) (d w got : ℕ)
    → next_action code (setting_of u) o.reader ≡ LoadWord d w
    → (mapping o (page_of u w) ≡ 1) ⊎ (mapping o (page_of u w) ≡ 2)
    → let m = begun u code o (Begin Instruction) in
    (first_act m.todo ≡ Get (address_item u w)) × (after_answer u code m got ≡ begun u code (own_after (appended o (Load w got)) (Give d got)) (Begin Instruction))

-- and so is a store
abbrev pub MappedStoreIsOneOperation : Type 0
MappedStoreIsOneOperation = (u : Who) (code : List Instr) (o : Own) (w v got : ℕ)
    → next_action code (setting_of u) o.reader ≡ StoreWord w v
    → mapping o (page_of u w) ≡ 2
    → let m = begun u code o (Begin Instruction) in
    (first_act m.todo ≡ Put (address_item u w) v) × (after_answer u code m got ≡ begun u code (own_after (appended o (Store w v)) Move) (Begin Instruction))
