-- The table of ends: which end comes where.
use Rattle.std.specs.Prelude.{◌≡◌, ℕ, ◌+◌, ◌-◌, ◌%◌, ◌^◌, ◌<◌, ◌≤◌, true, false, List, [], ◌∷◌, ◌++◌, None, Some, slice_get}
use Rattle.dsm_entry.specs.declared.entry.Entry.{Entry}
use Rattle.dsm_entry.specs.declared.entry.Entry.TheVariants.{Pass}
use Rattle.dsm_entry.specs.declared.entry.Obj.TheVariants.{Close}
use Rattle.dsm_isa.specs.declared.instr.Instr.{Instr}
use Rattle.dsm_local.specs.declared.action.Action.TheVariants.{Trap}
use Rattle.dsm_local.specs.declared.end.Trap.{Trap as Kind}
use Rattle.dsm_local.specs.Actions.{action_of}
use Rattle.dsm_words.specs.declared.item.Item.TheVariants.{Stop}
use Rattle.dsm_words.specs.Place.{processors}
use Rattle.dsm_words.specs.Script.{Get, Change}
use Rattle.dsm_sync.specs.declared.counter.Counter.TheVariants.{Close as CloseWord}
use Rattle.dsm_local.specs.declared.end.End.{End as Ending}
use Rattle.dsm_local.specs.declared.end.End.TheVariants.{Halted, Trapped, Spent, Looked, Stopped, NoMemory}
use Rattle.dsm_protocol.specs.declared.head.Head.{Head}
use Rattle.dsm_protocol.specs.declared.head.Head.TheVariants.{Instruction}
use Rattle.dsm_protocol.specs.Own.{Own, Who, Unready, setting_of, appended, counted}
use Rattle.dsm_protocol.specs.Jobs.{Make, Begin, Ended, first_act, has_ended}
use Rattle.dsm_protocol.specs.Steps.{is_last, heed_job, unready_job, look_job, closing_job}
use Rattle.dsm_protocol.specs.Processors.{Processor, Given, settled, begun, run_on, ending, wanting, after_answer, after_given, processor_of}

-- its last entry is the pass of the closing barrier
abbrev pub HasPassed : List Entry → Type 0
HasPassed trace = (before : List Entry) × (c : ℕ) × (trace ≡ before ++ Pass Close c ∷ [])

-- its next operation tells all others to stop, unless another did
abbrev pub TellsToStop : Who → Processor → Type 0
TellsToStop u m = first_act m.todo ≡ Change Stop 0 (u.p + 1)

-- its next operation is the load of the stop word behind an unready look that was not the last one allowed
abbrev pub HeedsBehindALook : Who → Processor → Type 0
HeedsBehindALook u m = (again : Head) × (m.todo ≡ Make (Get Stop) (heed_job again)) × (is_last u.limits.looks m.own.counts.unready ≡ false)

-- it stands at this place, and may do a further instruction
abbrev pub StandsAt : Who → Own → ℕ → Type 0
StandsAt u o place = (place ≡ o.reader.place) × (o.reader.done < u.limits.turns)

-- why the next event of processor m, given this, leaves it holding o and with this end
abbrev pub Cause : Who → List Instr → Processor → Own → Given → Ending → Type 0
Cause u code m o g Halted = HasPassed o.trace
Cause u code m o g (Trapped place kind) = TellsToStop u m × StandsAt u o place × (action_of (setting_of u) o.reader (slice_get code o.reader.place) ≡ Trap kind)
Cause u code m o g Spent = TellsToStop u m × (u.limits.turns ≤ o.reader.done)
Cause u code m o g Looked = TellsToStop u m × (u.limits.looks ≡ Some o.counts.unready)
Cause u code m o g (Stopped by) = HeedsBehindALook u m × (0 < g.got) × (by ≡ (g.got - 1) % 2 ^ 32)
Cause u code m o g NoMemory = TellsToStop u m × (g.starved ≡ true)

-- whatever a processor was given, it ends by an event alone that is such a cause
abbrev pub EveryEndHasItsCause : Type 0
EveryEndHasItsCause = (u : Who) (code : List Instr) (gs : List Given) (g : Given) (e : Ending)
    → u.p < processors u.lay
    → ending (processor_of u code gs) ≡ None
    → ending (after_given u code (processor_of u code gs) g) ≡ Some e
    → Cause u code (wanting u g.starved (processor_of u code gs)) (after_given u code (processor_of u code gs) g).own g e

-- a processor that holds o and has ended
abbrev pub over : Own → Ending → Processor
over o e = record { own = o; todo = Ended e }

-- an instruction begins, and its first operation has this answer
abbrev pub begins : Who → List Instr → Own → ℕ → Processor
begins u code o got = after_answer u code (begun u code o (Begin Instruction)) got

-- where it has done as many instructions as it may, it is spent; this is looked at first
abbrev pub SpentEnds : Type 0
SpentEnds = (u : Who) (code : List Instr) (o : Own) (got : ℕ) → u.limits.turns ≤ o.reader.done → begins u code o got ≡ over o Spent

-- it traps where a plain reader does, at whatever that reader can't do: an address, a lock that is not held, a divisor
abbrev pub TrapsEnd : Type 0
TrapsEnd = (u : Who) (code : List Instr) (o : Own) (got : ℕ) (kind : Kind)
    → o.reader.done < u.limits.turns
    → action_of (setting_of u) o.reader (slice_get code o.reader.place) ≡ Trap kind
    → begins u code o got ≡ over o (Trapped o.reader.place kind)

-- the last unready look that is allowed ends it, and then the stop word is not loaded
abbrev pub LastLooksEnd : Type 0
LastLooksEnd = (u : Who) (code : List Instr) (o : Own) (again : Head) (got : ℕ)
    → u.limits.looks ≡ Some (counted o Unready).counts.unready
    → after_answer u code (settled o (unready_job u again)) got ≡ over (counted o Unready) Looked

-- where the stop word is not 0 behind an unready look, it is stopped
abbrev pub StoppedWaitsEnd : Type 0
StoppedWaitsEnd = (u : Who) (code : List Instr) (o : Own) (again : Head) (got : ℕ)
    → 0 < got
    → after_answer u code (record { own = o; todo = Make (Get Stop) (heed_job again) }) got ≡ over o (Stopped ((got - 1) % 2 ^ 32))

-- the pass of the closing barrier ends it, behind the closing work, which processor 0 alone has
abbrev pub ClosingPassesEnd : Type 0
ClosingPassesEnd = (u : Who) (code : List Instr) (o : Own) (need got : ℕ)
    → need ≤ got
    → after_answer u code (record { own = o; todo = look_job u CloseWord need }) got ≡ run_on u code (appended o (Pass Close need)) (closing_job u (Ended Halted))

-- and want of memory does, of one that has not ended
abbrev pub StarvedEnds : Type 0
StarvedEnds = (u : Who) (code : List Instr) (m : Processor) (got : ℕ) → has_ended m.todo ≡ false → after_given u code m (record { starved = true; got = got }) ≡ over m.own NoMemory
