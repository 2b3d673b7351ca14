-- What holds of a processor, whatever it is given.
use Rattle.std.specs.Prelude.{◌≡◌, ◌<◌, List}
use Rattle.dsm_isa.specs.declared.instr.Instr.{Instr}
use Rattle.dsm_isa.specs.ProgramText.{ProgramText}
use Rattle.dsm_local.specs.Local.{Local}
use Rattle.dsm_words.specs.Place.{processors}
use Rattle.dsm_protocol.specs.Own.{Who, sizes_in}
use Rattle.dsm_protocol.specs.Processors.{Processor, IsMade, ending}

-- its trace and end are those of a plain reader of any program with this code and the sizes of its layout
unfoldable pub IsLocal : Who → List Instr → Processor → Type 0
IsLocal u code m = (program : ProgramText) → program.code ≡ code → program.shape ≡ sizes_in u.lay → Local program u.p (processors u.lay) u.limits.turns m.own.trace (ending m)

-- whatever it is given, what it did is what a plain sequential reader of the code does
abbrev pub EveryTraceIsLocal : Type 0
EveryTraceIsLocal = (u : Who) (code : List Instr) (m : Processor) → u.p < processors u.lay → IsMade u code m → IsLocal u code m
