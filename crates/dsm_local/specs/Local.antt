-- What a plain sequential reader of the code does, who takes each answer from the trace.
use Rattle.std.specs.Prelude.{◌≡◌, ℕ, ◌*◌, ◌≤◌, List, [], ◌∷◌, ◌++◌, Option, None, Some}
use Rattle.dsm_isa.specs.declared.instr.Instr.{Instr}
use Rattle.dsm_isa.specs.ProgramText.{ProgramText}
use Rattle.dsm_entry.specs.declared.entry.Entry.{Entry}
use Rattle.dsm_entry.specs.declared.entry.Entry.TheVariants.{Load, Store, Signal, Pass, Out}
use Rattle.dsm_entry.specs.declared.entry.Obj.TheVariants.{Lock, Barrier, Flag, Close}
use Rattle.dsm_local.specs.declared.action.Action.{Action}
use Rattle.dsm_local.specs.declared.action.Action.TheVariants.{Set, Jump, LoadWord, StoreWord, Print, TakeLock, GiveLock, Meet, RaiseFlag, WaitFlag, Trap, Spend, Arrive}
use Rattle.dsm_local.specs.declared.end.End.{End}
use Rattle.dsm_local.specs.declared.end.End.TheVariants.{Halted, Trapped, Spent, Looked, Stopped, NoMemory}
use Rattle.dsm_local.specs.declared.reader.Reader.{Reader}
use Rattle.dsm_local.specs.declared.setting.Setting.{Setting}
use Rattle.dsm_local.specs.declared.stand.Stand.{Stand}
use Rattle.dsm_local.specs.declared.stand.Stand.TheVariants.{Before, Met, Arrived, Passed}
use Rattle.dsm_local.specs.Readers.{new_reader, jumped, moved, given, opened, closed, next_action}

-- The reader of the code can stand here when it has taken this trace: one case for each thing that it does.
-- A load gets what the trace says, and the numbers of signals and passes are free, but for two: a lock is given back with the count
-- of its open pass, and a flag is passed with at least what was asked.
pub data Reads (code : List Instr) (s : Setting) : Stand → List Entry → Type 0 where
  starts : Reads code s (Before new_reader) []
  sets : {r : Reader} {t : List Entry} (d v : ℕ) → Reads code s (Before r) t → next_action code s r ≡ Set d v → Reads code s (Before (given r d v)) t
  jumps : {r : Reader} {t : List Entry} (to : ℕ) → Reads code s (Before r) t → next_action code s r ≡ Jump to → Reads code s (Before (jumped r to)) t
  loads : {r : Reader} {t : List Entry} (d w v : ℕ) → Reads code s (Before r) t → next_action code s r ≡ LoadWord d w → Reads code s (Before (given r d v)) (t ++ Load w v ∷ [])
  stores : {r : Reader} {t : List Entry} (w v : ℕ) → Reads code s (Before r) t → next_action code s r ≡ StoreWord w v → Reads code s (Before (moved r)) (t ++ Store w v ∷ [])
  prints : {r : Reader} {t : List Entry} (v : ℕ) → Reads code s (Before r) t → next_action code s r ≡ Print v → Reads code s (Before (moved r)) (t ++ Out v ∷ [])
  locks : {r : Reader} {t : List Entry} (l c : ℕ) → Reads code s (Before r) t → next_action code s r ≡ TakeLock l → Reads code s (Before (moved (opened r l c))) (t ++ Pass (Lock l) c ∷ [])
  unlocks : {r : Reader} {t : List Entry} (l k : ℕ) → Reads code s (Before r) t → next_action code s r ≡ GiveLock l k → Reads code s (Before (moved (closed r l))) (t ++ Signal (Lock l) k ∷ [])
  raises : {r : Reader} {t : List Entry} (f j : ℕ) → Reads code s (Before r) t → next_action code s r ≡ RaiseFlag f → Reads code s (Before (moved r)) (t ++ Signal (Flag f) j ∷ [])
  waits : {r : Reader} {t : List Entry} (f need c : ℕ) → Reads code s (Before r) t → next_action code s r ≡ WaitFlag f need → need ≤ c → Reads code s (Before (moved r)) (t ++ Pass (Flag f) c ∷ [])
  meets : {r : Reader} {t : List Entry} (b a : ℕ) → Reads code s (Before r) t → next_action code s r ≡ Meet b → Reads code s (Met (moved r) b) (t ++ Signal (Barrier b) a ∷ [])
  leaves : {r : Reader} {t : List Entry} (b c : ℕ) → Reads code s (Met r b) t → Reads code s (Before r) (t ++ Pass (Barrier b) c ∷ [])
  arrives : {r : Reader} {t : List Entry} (j : ℕ) → Reads code s (Before r) t → next_action code s r ≡ Arrive → Reads code s Arrived (t ++ Signal Close j ∷ [])
  passes : {t : List Entry} (c : ℕ) → Reads code s Arrived t → Reads code s Passed (t ++ Pass Close c ∷ [])

-- the action may have to wait before its entry
abbrev pub MayWait : Action → Type 0
MayWait (TakeLock l) = Unit {0}
MayWait (WaitFlag f need) = Unit {0}
MayWait _ = ⊥

-- a processor before the instruction at this place, whose action this is, may have this end
abbrev pub Stops : ℕ → Action → End → Type 0
Stops place action (Trapped k kind) = (k ≡ place) × (action ≡ Trap kind)
Stops place action Spent = action ≡ Spend
Stops place action Looked = MayWait action
Stops place action (Stopped by) = MayWait action
Stops place action NoMemory = Unit {0}
Stops place action Halted = ⊥

-- The table of ends: a processor whose reader stands here may have this end, or none yet.
abbrev pub MayEnd : List Instr → Setting → Stand → Option End → Type 0
MayEnd code s stand None = Unit {0}
MayEnd code s (Before r) (Some e) = Stops r.place (next_action code s r) e
MayEnd code s (Met r b) (Some Looked) = Unit {0}
MayEnd code s (Met r b) (Some (Stopped by)) = Unit {0}
MayEnd code s Arrived (Some Looked) = Unit {0}
MayEnd code s Arrived (Some (Stopped by)) = Unit {0}
MayEnd code s Passed (Some Halted) = Unit {0}
MayEnd code s stand (Some NoMemory) = Unit {0}
MayEnd code s stand (Some e) = ⊥

-- The reader has taken the whole trace, and the end agrees with where it then stands.
abbrev pub LocalTo : List Instr → Setting → List Entry → Option End → Type 0
LocalTo code s trace end = (stand : Stand) × Reads code s stand trace × MayEnd code s stand end

-- what processor p of `procs` is told, who runs the program for at most `turns` instructions
abbrev pub setting_of : ProgramText → ℕ → ℕ → ℕ → Setting
setting_of program p procs turns = record { size = program.shape.pages * program.shape.words; p = p; procs = procs; turns = turns }

-- The trace is what processor p of `procs` does, each of whose answers is as the trace says, with this end.
abbrev pub Local : ProgramText → ℕ → ℕ → ℕ → List Entry → Option End → Type 0
Local program p procs turns trace end = LocalTo program.code (setting_of program p procs turns) trace end
