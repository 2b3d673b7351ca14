-- The code's machine as a processor of the definitions.
use Rattle.std.specs.Prelude.{◌≡◌, ◌⊎◌, ◌+◌, ◌<◌, ◌≤◌, ℕ, true, List, length}
use Rattle.dsm_entry.specs.Told.{Told}
use Rattle.dsm_isa.specs.declared.instr.Instr.{Instr}
use Rattle.dsm_words.specs.Place.{lay_of}
use Rattle.dsm_machine.specs.declared.machine.Machine.{Machine}
use Rattle.dsm_machine.specs.Dirty.{flags}
use Rattle.dsm_machine.specs.Points.{job_at, tells_all}
use Rattle.dsm_protocol.specs.Own.{Who, Own}
use Rattle.dsm_protocol.specs.Processors.{Processor, going_on}

-- who works
abbrev pub who : Machine → Who
who m = record { lay = lay_of m.lay; p = m.p; limits = m.limits }

-- what it holds
abbrev pub own_of : Machine → Own
own_of m = record { reader = m.reader; maps = m.maps; dirty = flags m.dirty; trace = m.trace.list; counts = m.counts }

-- what it is between two events: an instruction may have not begun yet
abbrev pub seen : Machine → Processor
seen m = record { own = own_of m; todo = job_at (who m) m.phase m.point }

-- what it is with this code
abbrev pub processor_in : Machine → List Instr → Processor
processor_in m code = going_on (who m) code (seen m)

-- its trace, with the room in it
abbrev pub told_of : Machine → Told
told_of m = m.trace

-- for how many more entries there is room
abbrev pub spare_of : Machine → ℕ
spare_of m = m.trace.spare

-- there is room for the entry of its next event, or it tells all others to stop, which has none
abbrev pub HasRoom : Machine → Type 0
HasRoom m = (0 < spare_of m) ⊎ (tells_all m.point ≡ true)

-- what an event does to room: it takes that of one entry where it appends one, and none where it appends none
pub record Spends (old new : Told) : Type 0 where
  pub all : length new.list + new.spare ≡ length old.list + old.spare
  pub one : old.spare ≤ new.spare + 1
