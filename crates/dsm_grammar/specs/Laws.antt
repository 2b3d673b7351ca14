-- What holds of all texts.
use Rattle.std.specs.Prelude.{ℕ, ◌≡◌, List, None}
use Rattle.dsm_isa.specs.ProgramText.{ProgramText}
use Rattle.dsm_grammar.specs.Faults.{first_fault_of}
use Rattle.dsm_grammar.specs.Grammar.{program_of}

-- P holds of the program of each text without a fault
abbrev pub OfEachProgram : (ProgramText → Type 0) → Type 0
OfEachProgram P = (text : List ℕ) → first_fault_of text ≡ None → P (program_of text)
