-- How instructions are spelt.
use Rattle.std.specs.Prelude.{ℕ, List, ◌∷◌, map, decimal}
use Rattle.dsm_isa.specs.declared.instr.Instr.{Instr}
use Rattle.dsm_isa.specs.Operands.{Operand, Register, Number, Target, parts_of}

-- the label of a place: the letter l and the place
abbrev pub label : ℕ → List ℕ
label place = 108 ∷ decimal place

-- the word for an operand: a register is the letter r and its number
abbrev pub operand_word : Operand → List ℕ
operand_word (Register n) = 114 ∷ decimal n
operand_word (Number n) = decimal n
operand_word (Target place) = label place

-- the words of an instruction
abbrev pub spelling : Instr → List (List ℕ)
spelling instr = (parts_of instr).name ∷ map operand_word ((parts_of instr).operands)
