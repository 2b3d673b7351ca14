-- The reader as a function: the step that comes where the trace goes on with this entry, or ends.
use Rattle.std.specs.Prelude.{ℕ, ◌-◌, ◌==◌, ◌&&◌, nat_le, List, Option, None, Some, if◌then◌else◌}
use Rattle.dsm_isa.specs.declared.instr.Instr.{Instr}
use Rattle.dsm_entry.specs.declared.entry.Entry.{Entry}
use Rattle.dsm_entry.specs.declared.entry.Entry.TheVariants.{Load, Store, Signal, Pass, Out}
use Rattle.dsm_entry.specs.declared.entry.Obj.TheVariants.{Lock, Barrier, Flag, Close}
use Rattle.dsm_local.specs.declared.action.Action.{Action}
use Rattle.dsm_local.specs.declared.action.Action.TheVariants.{Set, Jump, LoadWord, StoreWord, Print, TakeLock, GiveLock, Meet, RaiseFlag, WaitFlag, Arrive}
use Rattle.dsm_local.specs.declared.following.Step.{Step}
use Rattle.dsm_local.specs.declared.reader.Reader.{Reader}
use Rattle.dsm_local.specs.declared.setting.Setting.{Setting}
use Rattle.dsm_local.specs.declared.stand.Stand.{Stand}
use Rattle.dsm_local.specs.declared.stand.Stand.TheVariants.{Before, Met, Arrived, Passed}
use Rattle.dsm_local.specs.Readers.{jumped, moved, given, opened, closed, next_action}

-- a step that takes no entry, and one that takes one
abbrev pub silent : Stand → Option Step
silent stand = Some (record { stand = stand; takes = 0 })

abbrev pub taking : Stand → Option Step
taking stand = Some (record { stand = stand; takes = 1 })

abbrev pub follow_arrival : Option Entry → Option Step
follow_arrival (Some (Signal Close j)) = taking Arrived
follow_arrival _ = None

abbrev pub follow_pass : Option Entry → Option Step
follow_pass (Some (Pass Close c)) = taking Passed
follow_pass _ = None

abbrev pub follow_leaving : Reader → ℕ → Option Entry → Option Step
follow_leaving r b (Some (Pass (Barrier x) c)) = if x == b then taking (Before r) else None
follow_leaving r b _ = None

-- the step that does this action
abbrev pub follow : Reader → Action → Option Entry → Option Step
follow r (Set d v) next = silent (Before (given r d v))
follow r (Jump to) next = silent (Before (jumped r to))
follow r (LoadWord d w) (Some (Load x v)) = if x == w then taking (Before (given r d v)) else None
follow r (StoreWord w v) (Some (Store x y)) = if (x == w) && (y == v) then taking (Before (moved r)) else None
follow r (Print v) (Some (Out y)) = if y == v then taking (Before (moved r)) else None
follow r (TakeLock l) (Some (Pass (Lock x) c)) = if x == l then taking (Before (moved (opened r l c))) else None
follow r (GiveLock l k) (Some (Signal (Lock x) j)) = if (x == l) && (j == k) then taking (Before (moved (closed r l))) else None
follow r (RaiseFlag f) (Some (Signal (Flag x) j)) = if x == f then taking (Before (moved r)) else None
follow r (WaitFlag f need) (Some (Pass (Flag x) c)) = if (x == f) && nat_le need c then taking (Before (moved r)) else None
follow r (Meet b) (Some (Signal (Barrier x) a)) = if x == b then taking (Met (moved r) b) else None
follow r Arrive next = follow_arrival next
follow r _ _ = None

abbrev pub step_of : List Instr → Setting → Stand → Option Entry → Option Step
step_of code s (Before r) next = follow r (next_action code s r) next
step_of code s (Met r b) next = follow_leaving r b next
step_of code s Arrived next = follow_pass next
step_of code s Passed next = None

-- how many instructions a stand has left, at most
abbrev pub left : ℕ → Stand → ℕ
left turns (Before r) = turns - r.done
left turns (Met r b) = turns - r.done
left turns Arrived = 0
left turns Passed = 0
