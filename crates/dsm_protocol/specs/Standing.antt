-- A processor stands where its table says, and each of its events is a row of it.
use Rattle.std.specs.Prelude.{◌≡◌, ◌≢◌, ℕ, ◌+◌, ◌<◌, Bool, true, false, List, Option, None, Some}
use Rattle.dsm_isa.specs.declared.instr.Instr.{Instr}
use Rattle.dsm_local.specs.declared.end.End.{End as Ending_of}
use Rattle.dsm_local.specs.declared.end.End.TheVariants.{Halted}
use Rattle.dsm_words.specs.declared.item.Item.{Item}
use Rattle.dsm_words.specs.declared.item.Item.TheVariants.{Stop, Lock, Barrier, Flag, Close}
use Rattle.dsm_sync.specs.declared.counter.Counter.TheVariants.{Close as CloseWord}
use Rattle.dsm_words.specs.Place.{IsWithin, processors}
use Rattle.dsm_words.specs.Script.{Act, Get, Change, item_of}
use Rattle.dsm_clock.specs.declared.turns.TurnId.{TurnId}
use Rattle.dsm_clock.specs.Turns.{turn_item}
use Rattle.dsm_protocol.specs.declared.head.Head.{Head}
use Rattle.dsm_protocol.specs.declared.head.Head.TheVariants.{Instruction, Locking, Looking}
use Rattle.dsm_protocol.specs.Own.{Own, Who}
use Rattle.dsm_protocol.specs.Jobs.{Job, Make, Again, Mark, Ask, Begin, Ended, Note, own_after, first_act, is_ready, has_ended, held_turn}
use Rattle.dsm_protocol.specs.Processors.{Processor, Given, IsMade, wanting, after_given}
use Rattle.dsm_protocol.specs.Stages.{Round, Idle, Waiting, Signalling, Arrived, Quitting, Passing, Finished, Closed, Stopping, Access, Work, Off, Gone, turn_at}
use Rattle.dsm_protocol.specs.Rows.{Step, Wins, Slip, Noted}

-- it loads or changes a word of synchronisation, or loads the stop word
abbrev pub IsObject : Item → Type 0
IsObject (Lock l) = Unit {0}
IsObject (Barrier b) = Unit {0}
IsObject (Flag f) = Unit {0}
IsObject Close = Unit {0}
IsObject _ = ⊥

abbrev pub IsAside : Act → Type 0
IsAside (Get Stop) = Unit {0}
IsAside a = IsObject (item_of a)

-- operations aside are made there
abbrev pub IsOpen : Round → Type 0
IsOpen Waiting = Unit {0}
IsOpen Arrived = Unit {0}
IsOpen (Signalling t0) = Unit {0}
IsOpen _ = ⊥

-- protocol work begins and ends there
abbrev pub IsResting : Round → Type 0
IsResting Idle = Unit {0}
IsResting Waiting = Unit {0}
IsResting (Signalling t0) = Unit {0}
IsResting Passing = Unit {0}
IsResting Quitting = Unit {0}
IsResting Finished = Unit {0}
IsResting Closed = Unit {0}
IsResting (Access faulted write a) = Unit {0}
IsResting _ = ⊥

-- where it stands at a head: before an instruction, or in one
abbrev pub at_head : Head → Round
at_head Instruction = Idle
at_head (Locking l) = Waiting
at_head (Looking CloseWord need) = Arrived
at_head (Looking of need) = Waiting

-- the end of a processor that has done all its code
abbrev pub is_halt : Ending_of → Bool
is_halt Halted = true
is_halt e = false

-- A processor that stands at w and holds o does this job, by rows alone. The rest is the job with which protocol work ends; where there is none,
-- the job is all that the processor does, with operations aside, heads and the end.
pub data Works (u : Who) (rest : Option Job) : Work → Own → Job → Type 0 where
  Makes : {w : Work} {o : Own} {a : Act} {k : ℕ → Job} {next : ℕ → Work} → IsWithin u.lay (item_of a) → ((x : ℕ) → Step u o.maps o.dirty w a x (next x)) → ((x : ℕ) → Works u rest (next x) o (k x)) → Works u rest w o (Make a k)
  Takes : {w w' : Work} {o : Own} {j : Job} (turn : TurnId) → IsWithin u.lay (turn_item turn) → Wins u o.maps o.dirty w turn w' → Works u rest w' o j → Works u rest w o (Again (Change (turn_item turn) 0 (u.p + 1)) 0 j)
  Marks : {w w' : Work} {o : Own} {n : Note} {j : Job} → Noted u rest w n w' → Works u rest w' (own_after o n) j → Works u rest w o (Mark n j)
  Asks : {w : Work} {o : Own} {f : Own → Job} → ((p : Own) → Works u rest w p (f p)) → Works u rest w o (Ask f)
  Slips : {w w' : Work} {o : Own} {j : Job} → Slip u o.maps o.dirty w w' → Works u rest w' o j → Works u rest w o j
  Rests : {r : Round} {o : Own} {j : Job} → rest ≡ Some j → IsResting r → Works u rest (Off r) o j
  Asides : {r : Round} {o : Own} {a : Act} {k : ℕ → Job} → rest ≡ None → IsOpen r → IsAside a → ((x : ℕ) → Works u rest (Off r) o (k x)) → Works u rest (Off r) o (Make a k)
  Begins : {o : Own} {h : Head} → rest ≡ None → Works u rest (Off (at_head h)) o (Begin h)
  Ends : {o : Own} {e : Ending_of} → rest ≡ None → is_halt e ≡ false → Works u rest Gone o (Ended e)
  Halts : {o : Own} → rest ≡ None → Works u rest (Off Closed) o (Ended Halted)

-- One that has halted stands behind the closing work, and one that has ended otherwise is gone.
abbrev pub EndsAt : Job → Work → Type 0
EndsAt (Ended Halted) w = w ≡ Off Closed
EndsAt (Ended e) w = w ≡ Gone
EndsAt j w = Unit {0}

-- The processor stands at w: before an operation, or at its end, by the table it does what it has to do, and there it holds the turn that its
-- job gives back.
pub record Stands (u : Who) (w : Work) (m : Processor) : Type 0 where
  pub works : Works u None w m.own m.todo
  pub holds : held_turn m.todo ≡ turn_at u w
  pub ready : is_ready m.todo ≡ true
  pub over : EndsAt m.todo w

-- Decisions and notes, one behind the other, lead from one place to another, and change what the processor holds by the notes alone.
pub data Path (u : Who) : Work → Own → Work → Own → Type 0 where
  Stay : {w : Work} {o : Own} → Path u w o w o
  Decides : {w w' v : Work} {o p : Own} → Slip u o.maps o.dirty w w' → Path u w' o v p → Path u w o v p
  Notes : {w w' v : Work} {o p : Own} (n : Note) → Noted u None w n w' → Path u w' (own_after o n) v p → Path u w o v p

-- An operation and its answer: a row; a turn that is won, or not; or an operation aside.
pub data Does (u : Who) (o : Own) : Work → Act → ℕ → Work → Type 0 where
  Row : {w w' : Work} {a : Act} {x : ℕ} → IsWithin u.lay (item_of a) → Step u o.maps o.dirty w a x w' → Does u o w a x w'
  Won : {w w' : Work} {x : ℕ} (turn : TurnId) → IsWithin u.lay (turn_item turn) → Wins u o.maps o.dirty w turn w' → x ≡ 0 → Does u o w (Change (turn_item turn) 0 (u.p + 1)) x w'
  Lost : {w w' : Work} {x : ℕ} (turn : TurnId) → IsWithin u.lay (turn_item turn) → Wins u o.maps o.dirty w turn w' → x ≢ 0 → Does u o w (Change (turn_item turn) 0 (u.p + 1)) x w
  Aside : {r : Round} {a : Act} {x : ℕ} → IsOpen r → IsAside a → Does u o (Off r) a x (Off r)

-- One event of a processor at w that holds o, with operation a and answer x, leads to this processor at v: decisions, the operation, then
-- decisions and notes. Nothing else changes what it holds.
pub record Moves (u : Who) (w : Work) (o : Own) (a : Act) (x : ℕ) (v : Work) (m : Processor) : Type 0 where
  pub from : Work
  pub to : Work
  pub before : Path u w o from o
  pub row : Does u o from a x to
  pub behind : Path u to o v m.own

-- a processor that is starved leaves what it was at, and tells all others to stop; else it goes on from there
abbrev pub starts_from : Bool → Work → Work
starts_from true w = Off Stopping
starts_from false w = w

-- Whatever a processor is given, it stands at some place of the table,
abbrev pub EveryProcessorStands : Type 0
EveryProcessorStands = (u : Who) (code : List Instr) (m : Processor) → u.p < processors u.lay → IsMade u code m → (w : Work) × Stands u w m

-- and from wherever it stands, each event moves it by the table to where it stands then.
abbrev pub EveryEventIsARow : Type 0
EveryEventIsARow =
    (u : Who) (code : List Instr) (w : Work) (m : Processor) (given : Given) → u.p < processors u.lay → Stands u w m → has_ended m.todo ≡ false
    → let n = wanting u given.starved m in
    (v : Work) × Stands u v (after_given u code m given) × Moves u (starts_from given.starved w) m.own (first_act n.todo) given.got v (after_given u code m given)
