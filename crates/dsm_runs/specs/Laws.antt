-- What holds of every state, and what one event changes.
use Rattle.std.specs.Prelude.{◌≡◌, ◌≢◌, ℕ, ◌*◌, ◌<◌, true, List, length, map, Option, Some, slice_get}
use Rattle.dsm_words.specs.Place.{IsWithin, place, total}
use Rattle.dsm_words.specs.declared.item.Item.{Item}
use Rattle.dsm_words.specs.declared.item.Item.TheVariants.{Map}
use Rattle.dsm_words.specs.Script.{item_of}
use Rattle.dsm_words.specs.Words.{word}
use Rattle.dsm_isa.specs.declared.instr.Instr.{Instr}
use Rattle.dsm_protocol.specs.Own.{Who}
use Rattle.dsm_protocol.specs.Jobs.{is_ready}
use Rattle.dsm_protocol.specs.Processors.{Processor, Given, processor_of}
use Rattle.dsm_runs.specs.Setups.{Setup, IsSetup, lay_in, who_at, first_value}
use Rattle.dsm_runs.specs.Clusters.{Cluster, Event, start, act_in, exactly, after_loose, after_all_loose, given_by, after}

-- the first words, seen by items
abbrev pub StartsByItems : Type 0
StartsByItems = (s : Setup) (it : Item) → IsWithin (lay_in s) it → word (lay_in s) (start s).words it ≡ first_value s it

-- whatever the events, there are as many words as the layout has, and as many processors as the cluster
abbrev pub EveryStateIsWhole : Type 0
EveryStateIsWhole = (s : Setup) (events : List (Event × Option ℕ))
    → let c = after_all_loose s (start s) events in (length c.words ≡ total (lay_in s)) × (length c.processors ≡ s.nodes * s.procs)

-- an event leaves every other processor alone
abbrev pub LeavesOtherProcessors : Type 0
LeavesOtherProcessors = (s : Setup) (c : Cluster) (e : Event) (any : Option ℕ) (q : ℕ) → q ≢ e.p
    → slice_get (after_loose s c e any).processors q ≡ slice_get c.processors q

-- and every word but that of its operation
abbrev pub LeavesOtherWords : Type 0
LeavesOtherWords = (s : Setup) (c : Cluster) (e : Event) (any : Option ℕ) (m : Processor) (k : ℕ)
    → slice_get c.processors e.p ≡ Some m → k ≢ place (lay_in s) (item_of (act_in s e m)) → slice_get (after_loose s c e any).words k ≡ slice_get c.words k

-- there are as many words and processors as before
abbrev pub KeepsLengths : Type 0
KeepsLengths = (s : Setup) (c : Cluster) (e : Event) (any : Option ℕ)
    → (length (after_loose s c e any).words ≡ length c.words) × (length (after_loose s c e any).processors ≡ length c.processors)

-- whatever the events, a processor is what they gave it: a function of its number and of the list of its answers and starvings
abbrev pub EveryProcessorIsGiven : Type 0
EveryProcessorIsGiven = (s : Setup) (events : List (Event × Option ℕ)) (p : ℕ) (m : Processor)
    → slice_get (after_all_loose s (start s) events).processors p ≡ Some m
    → m ≡ processor_of (who_at s p) s.program.code (given_by s events p)

-- a list of events is one of loose events, none of whose answers is given
abbrev pub EventsAreLoose : Type 0
EventsAreLoose = (s : Setup) (c : Cluster) (events : List Event) → after s c events ≡ after_all_loose s c (map exactly events)

-- whatever it was given, a processor that has not ended stands before an operation
abbrev pub EveryProcessorIsReady : Type 0
EveryProcessorIsReady = (u : Who) (code : List Instr) (gs : List Given) → is_ready (processor_of u code gs).todo ≡ true

-- an event leaves every other processor's mappings alone, and its words of them, whatever the events before it
abbrev pub LeavesOtherMappings : Type 0
LeavesOtherMappings = (s : Setup) (events : List (Event × Option ℕ)) (e : Event) (any : Option ℕ) (q g : ℕ) → IsSetup s → q ≢ e.p
    → q < s.nodes * s.procs → g < s.program.shape.pages
    → let c = after_all_loose s (start s) events in let d = after_loose s c e any in
    (slice_get d.processors q ≡ slice_get c.processors q) × (word (lay_in s) d.words (Map q g) ≡ word (lay_in s) c.words (Map q g))
