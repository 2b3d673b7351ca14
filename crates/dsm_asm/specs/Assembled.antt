-- Why a line was not taken, and why a text gave no program.
use Rattle.std.specs.Prelude.{◌≡◌, ℕ, List, Option, Some}
use Rattle.dsm_grammar.specs.declared.fault.AsmKind.{AsmKind}
use Rattle.dsm_grammar.specs.Faults.{first_fault_of}
use Rattle.dsm_asm.specs.declared.fault.AsmErr.{AsmErr}
use Rattle.dsm_asm.specs.declared.fault.AsmErr.TheVariants.{Refused, NoMemory}
use Rattle.dsm_asm.specs.declared.fault.LineErr.{LineErr}
use Rattle.dsm_asm.specs.declared.fault.LineErr.TheVariants.{Refused as LineRefused, NoMemory as LineNoMemory}

-- this is what is wrong with the line; want of memory has no cause in it
abbrev pub IsRefused : Option AsmKind → LineErr → Type 0
IsRefused fault (LineRefused kind) = fault ≡ Some kind
IsRefused fault LineNoMemory = Unit {0}

-- the text is refused for its first fault; want of memory has no cause in it
abbrev pub Refuses : List ℕ → AsmErr → Type 0
Refuses text (Refused fault) = first_fault_of text ≡ Some (fault.line, fault.kind)
Refuses text NoMemory = Unit {0}
