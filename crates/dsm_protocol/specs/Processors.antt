-- A processor: what it holds and what it still has to do, and how each answer changes it.
use Rattle.std.specs.Prelude.{◌≡◌, ℕ, Bool, true, false, if◌then◌else◌, List, [], ◌∷◌, Option, None, Some}
use Rattle.dsm_isa.specs.declared.instr.Instr.{Instr}
use Rattle.dsm_words.specs.declared.op.Op.{Op}
use Rattle.dsm_words.specs.Script.{op_of}
use Rattle.dsm_protocol.specs.declared.head.Head.TheVariants.{Instruction}
use Rattle.dsm_local.specs.declared.end.End.{End as Ending}
use Rattle.dsm_protocol.specs.Own.{Own, Who, new_own}
use Rattle.dsm_protocol.specs.Jobs.{Job, Make, Again, Mark, Ask, Begin, Ended, own_after, first_act, job_after, end_of, has_ended}
use Rattle.dsm_protocol.specs.Steps.{head_job, starved_job}

-- a processor: what it holds, and what it still has to do
pub record Processor : Type 0 where
  pub own : Own
  pub todo : Job

-- changes and looks are made at once, up to the next operation, a head or the end
abbrev pub settled : Own → Job → Processor
settled o (Make a k) = record { own = o; todo = Make a k }
settled o (Again a wanted j) = record { own = o; todo = Again a wanted j }
settled o (Mark n j) = settled (own_after o n) j
settled o (Ask f) = settled o (f o)
settled o (Begin h) = record { own = o; todo = Begin h }
settled o (Ended e) = record { own = o; todo = Ended e }

-- at a head its job begins
abbrev pub begun : Who → List Instr → Own → Job → Processor
begun u code o (Begin h) = settled o (head_job u code h)
begun u code o (Make a k) = record { own = o; todo = Make a k }
begun u code o (Again a wanted j) = record { own = o; todo = Again a wanted j }
begun u code o (Mark n j) = record { own = o; todo = Mark n j }
begun u code o (Ask f) = record { own = o; todo = Ask f }
begun u code o (Ended e) = record { own = o; todo = Ended e }

-- a processor that goes on with what it has to do; the job of a head begins with an operation
abbrev pub going_on : Who → List Instr → Processor → Processor
going_on u code m = begun u code m.own m.todo

-- the same with the changes and looks before
abbrev pub run_on : Who → List Instr → Own → Job → Processor
run_on u code o j = going_on u code (settled o j)

-- a processor that has done nothing
abbrev pub new_processor : Who → List Instr → Processor
new_processor u code = run_on u code new_own (Begin Instruction)

-- its end, and none where it has not ended
abbrev pub ending : Processor → Option Ending
ending m = end_of m.todo

-- an operation, and none where it has ended
abbrev pub op_unless : Bool → Op → Option Op
op_unless true op = None
op_unless false op = Some op

-- its next operation, and none where it has ended
abbrev pub next_op : Who → Processor → Option Op
next_op u m = op_unless (has_ended m.todo) (op_of u.lay (first_act m.todo))

-- the processor behind the answer of its next operation
abbrev pub after_answer : Who → List Instr → Processor → ℕ → Processor
after_answer u code m got = run_on u code m.own (job_after m.todo got)

-- the processor, which for want of memory does something else next, unless it has ended
abbrev pub wanting : Who → Bool → Processor → Processor
wanting u true m = record { own = m.own; todo = if has_ended m.todo then m.todo else starved_job u }
wanting u false m = m

-- one event as its processor sees it: whether memory was wanting, and the answer
pub record Given : Type 0 where
  pub starved : Bool
  pub got : ℕ

-- the processor behind one event
abbrev pub after_given : Who → List Instr → Processor → Given → Processor
after_given u code m g = after_answer u code (wanting u g.starved m) g.got

-- the processor that was given all this, the newest first
unfoldable pub processor_of : Who → List Instr → List Given → Processor
processor_of u code [] = new_processor u code
processor_of u code (g ∷ gs) = after_given u code (processor_of u code gs) g

-- a processor is one that was given some list, and may be wanting memory
unfoldable pub IsMade : Who → List Instr → Processor → Type 0
IsMade u code m = (gs : List Given) × (starved : Bool) × (m ≡ wanting u starved (processor_of u code gs))
