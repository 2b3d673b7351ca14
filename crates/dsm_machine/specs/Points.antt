-- Where the code's processor stands, and what it then still has to do.
use Rattle.std.specs.Prelude.{ℕ, ◌*◌, ◌^◌, ◌<◌, Bool, true, false}
use Rattle.dsm_entry.specs.declared.entry.Entry.TheVariants.{Out}
use Rattle.dsm_words.specs.declared.item.Item.TheVariants.{Stop}
use Rattle.dsm_words.specs.Place.{Lay}
use Rattle.dsm_words.specs.Script.{Get}
use Rattle.dsm_local.specs.declared.action.Action.{Action}
use Rattle.dsm_local.specs.declared.action.Action.TheVariants.{LoadWord, StoreWord, TakeLock, GiveLock, Meet, RaiseFlag, WaitFlag}
use Rattle.dsm_sync.specs.Counters.{counter_number, counters_of}
use Rattle.dsm_protocol.specs.declared.head.Head.{Head}
use Rattle.dsm_protocol.specs.declared.head.Head.TheVariants.{Instruction, Locking, Looking}
use Rattle.dsm_machine.specs.declared.any_phase.AnyPhase.{AnyPhase}
use Rattle.dsm_machine.specs.declared.outcome.Outcome.{Outcome}
use Rattle.dsm_machine.specs.declared.point.Next.{Next}
use Rattle.dsm_machine.specs.declared.point.Next.TheVariants.{Fault, Write, Release, Signal, Acquire, Closing, Try, Look}
use Rattle.dsm_machine.specs.declared.point.Point.{Point}
use Rattle.dsm_machine.specs.declared.point.Point.TheVariants.{At, Accessing, Setting, Jumping, Printing, Working, Heeding, Stopping, Over}
use Rattle.dsm_machine.specs.Results.{got_of}
use Rattle.dsm_machine.specs.Faults.{address_of, register_of, made_job, fault_next, fault_home, visited_node}
use Rattle.dsm_machine.specs.Writes.{write_next, write_home}
use Rattle.dsm_machine.specs.Releases.{signalled, release_next, release_home, signal_number, signals_of, counter_slack, signal_slack}
use Rattle.dsm_machine.specs.Acquires.{acquire_next}
use Rattle.dsm_machine.specs.Closings.{closing_next}
use Rattle.dsm_machine.specs.Phases.{phase_job, phase_open}
use Rattle.dsm_protocol.specs.Own.{Who}
use Rattle.dsm_protocol.specs.Jobs.{Job, Make, Mark, Begin, Ended, Give, Go, Append}
use Rattle.dsm_protocol.specs.Steps.{next_instruction, tried_job, looked_job, heed_job, stop_job}

-- what follows the result of a phase
abbrev pub next_job : Who → Next → Outcome → Job
next_job u (Fault a at) x = fault_next u a at x
next_job u (Write w v at) x = write_next u w v at x
next_job u (Release r at) x = release_next u r at x
next_job u (Signal s) x = signalled u s x
next_job u (Acquire set g at) x = acquire_next u set g at x
next_job u (Closing g m at) x = closing_next u g m at x
next_job u (Try l) x = tried_job u l (got_of x)
next_job u (Look of need) x = looked_job u of need (got_of x)

-- the job of a point, with the phase under way
abbrev pub job_at : Who → AnyPhase → Point → Job
job_at u phase (At h) = Begin h
job_at u phase (Accessing a) = made_job u a
job_at u phase (Setting d v) = Make (Get Stop) (λ _. Mark (Give d v) (Begin Instruction))
job_at u phase (Jumping to) = Make (Get Stop) (λ _. Mark (Go to) (Begin Instruction))
job_at u phase (Printing v) = Make (Get Stop) (λ _. Mark (Append (Out v)) next_instruction)
job_at u phase (Working next) = phase_job phase (next_job u next)
job_at u phase (Heeding again) = Make (Get Stop) (heed_job again)
job_at u phase (Stopping e) = stop_job u e
job_at u phase (Over e) = Ended e

-- the phase has not ended
abbrev pub point_open : AnyPhase → Point → Bool
point_open phase (Working next) = phase_open phase
point_open phase _ = true

-- the address of its access, or 0
abbrev pub next_address : Next → ℕ
next_address (Fault a at) = address_of a
next_address (Write w v at) = w
next_address _ = 0

-- the same of a point
abbrev pub point_address : Point → ℕ
point_address (Accessing a) = address_of a
point_address (Working next) = next_address next
point_address _ = 0

-- the number of its register, or 0
abbrev pub next_register : Next → ℕ
next_register (Fault a at) = register_of a
next_register _ = 0

-- the same of a point
abbrev pub point_register : Point → ℕ
point_register (Accessing a) = register_of a
point_register (Setting d v) = d
point_register (Working next) = next_register next
point_register _ = 0

-- its page, or 0
abbrev pub next_page : Next → ℕ
next_page (Release r at) = r.g
next_page (Acquire set g at) = g
next_page (Closing g m at) = g
next_page _ = 0

-- the same of a point
abbrev pub point_page : Point → ℕ
point_page (Working next) = next_page next
point_page _ = 0

-- the home that it found, or 0
abbrev pub next_home : Next → ℕ
next_home (Fault a at) = fault_home at
next_home (Write w v at) = write_home at
next_home (Release r at) = release_home at
next_home _ = 0

-- the same of a point
abbrev pub point_home : Point → ℕ
point_home (Working next) = next_home next
point_home _ = 0

-- the node that is visited, or 0
abbrev pub next_node : Next → ℕ
next_node (Fault a at) = visited_node at
next_node (Closing g m at) = m
next_node _ = 0

-- the same of a point
abbrev pub point_node : Point → ℕ
point_node (Working next) = next_node next
point_node _ = 0

-- the number of a head's object
abbrev pub head_number : Head → ℕ
head_number Instruction = 0
head_number (Locking l) = l
head_number (Looking of need) = counter_number of

-- how many of its kind there are
abbrev pub heads_of : Lay → Head → ℕ
heads_of l Instruction = 1
heads_of l (Locking i) = l.locks
heads_of l (Looking of need) = counters_of l of

-- the number of the object behind a phase
abbrev pub next_number : Next → ℕ
next_number (Release r at) = signal_number r.signal
next_number (Signal s) = signal_number s
next_number (Try l) = l
next_number (Look of need) = counter_number of
next_number _ = 0

-- how many of its kind there are
abbrev pub nexts_of : Lay → Next → ℕ
nexts_of l (Release r at) = signals_of l r.signal
nexts_of l (Signal s) = signals_of l s
nexts_of l (Try i) = l.locks
nexts_of l (Look of need) = counters_of l of
nexts_of l _ = 1

-- the number of a point's object
abbrev pub point_number : Point → ℕ
point_number (At h) = head_number h
point_number (Working next) = next_number next
point_number (Heeding again) = head_number again
point_number _ = 0

-- how many of its kind there are
abbrev pub points_of : Lay → Point → ℕ
points_of l (At h) = heads_of l h
points_of l (Working next) = nexts_of l next
points_of l (Heeding again) = heads_of l again
points_of l _ = 1

-- at a head: 0 where the instruction may be done and the next one come, and much where that can't be or is not known
abbrev pub head_slack : Head → ℕ
head_slack Instruction = 2 ^ 64
head_slack (Locking l) = 0
head_slack (Looking of need) = counter_slack of

-- the same behind a phase
abbrev pub next_slack : Next → ℕ
next_slack (Release r at) = signal_slack r.signal
next_slack (Signal s) = signal_slack s
next_slack (Closing g m at) = 2 ^ 64
next_slack (Look of need) = counter_slack of
next_slack _ = 0

-- the same at a point
abbrev pub slack : Point → ℕ
slack (At h) = head_slack h
slack (Heeding again) = head_slack again
slack (Working next) = next_slack next
slack (Stopping e) = 2 ^ 64
slack (Over e) = 2 ^ 64
slack _ = 0

-- a jump goes on from any place
abbrev pub place_slack : Point → ℕ
place_slack (Jumping to) = 2 ^ 64
place_slack at = slack at

-- its job has begun: it stands before an operation, or has ended
abbrev pub has_begun : Point → Bool
has_begun (At h) = false
has_begun _ = true

-- it tells all others to stop
abbrev pub tells_all : Point → Bool
tells_all (Stopping e) = true
tells_all _ = false

-- the word or the object of an action is one that there is
abbrev pub IsWithinLay : Lay → Action → Type 0
IsWithinLay l (LoadWord d w) = w < l.pages * l.words
IsWithinLay l (StoreWord w v) = w < l.pages * l.words
IsWithinLay l (TakeLock i) = i < l.locks
IsWithinLay l (GiveLock i k) = i < l.locks
IsWithinLay l (Meet b) = b < l.barriers
IsWithinLay l (RaiseFlag f) = f < l.flags
IsWithinLay l (WaitFlag f need) = f < l.flags
IsWithinLay l _ = Unit {0}
