-- A sequential reader of a code, and what it does next.
use Rattle.std.specs.Prelude.{ℕ, ◌+◌, ◌<◌, List, None, Some, nat_lt, if◌then◌else◌, slice_get, slice_set, replicate}
use Rattle.dsm_isa.specs.declared.instr.Instr.{Instr}
use Rattle.dsm_local.specs.declared.action.Action.{Action}
use Rattle.dsm_local.specs.declared.action.Action.TheVariants.{LoadWord, StoreWord, Trap, Spend, Arrive}
use Rattle.dsm_local.specs.declared.reader.Reader.{Reader}
use Rattle.dsm_local.specs.declared.setting.Setting.{Setting}
use Rattle.dsm_local.specs.Actions.{action_of}

-- at the start all registers are 0, nothing is done, and no pass is open; no program has more than 64 locks
abbrev pub new_reader : Reader
new_reader = record { registers = replicate 16 0; passes = replicate 64 None; place = 0; done = 0 }

-- the reader behind a jump to this place
abbrev pub jumped : Reader → ℕ → Reader
jumped r to = record r { place = to; done = r.done + 1 }

-- the reader behind an instruction that leaves the registers alone
abbrev pub moved : Reader → Reader
moved r = jumped r (r.place + 1)

-- the reader behind an instruction that gives register d the value v
abbrev pub given : Reader → ℕ → ℕ → Reader
given r d v = moved (record r { registers = slice_set r.registers d v })

-- the reader with an open pass of lock l, and with none
abbrev pub opened : Reader → ℕ → ℕ → Reader
opened r l c = record r { passes = slice_set r.passes l (Some c) }

abbrev pub closed : Reader → ℕ → Reader
closed r l = record r { passes = slice_set r.passes l None }

-- an instruction begins only where fewer than `turns` are done
abbrev pub next_action : List Instr → Setting → Reader → Action
next_action code s r = if nat_lt r.done s.turns then action_of s r (slice_get code r.place) else Spend

-- the instruction is done at some time, and then the next one comes
abbrev pub GoesOn : Action → Type 0
GoesOn (Trap kind) = ⊥
GoesOn Spend = ⊥
GoesOn Arrive = ⊥
GoesOn _ = Unit {0}

-- a load or store is of a word that there is
abbrev pub IsInside : ℕ → Action → Type 0
IsInside size (LoadWord d w) = w < size
IsInside size (StoreWord w v) = w < size
IsInside size _ = Unit {0}
