-- The name and the operands of each instruction.
use Rattle.std.specs.Prelude.{ℕ, ◌<◌, ◌^◌, List, [], ◌∷◌, codes}
use Rattle.dsm_isa.specs.declared.instr.Instr.{Instr}
use Rattle.dsm_isa.specs.declared.instr.Instr.TheVariants.{Li, Mov, Me, Procs, Add, Sub, Mul, Div, Rem, And, Or, Xor, Shl, Shr, Slt, Seq, Addi, Subi, Muli, Ld, St, Jmp, Beq, Bne, Blt, Bge, Lock, Unlock, Bar, Set, Wait, Waitr, Out, Halt}

-- an operand: a register, a number, or the place to jump to
pub data Operand : Type 0 where
  Register : ℕ → Operand
  Number : ℕ → Operand
  Target : ℕ → Operand

-- it is a register that there is, or a number or a place below 2^64
abbrev pub IsOperand : Operand → Type 0
IsOperand (Register n) = n < 16
IsOperand (Number n) = n < 2 ^ 64
IsOperand (Target place) = place < 2 ^ 64

-- each is
abbrev pub AreOperands : List Operand → Type 0
AreOperands [] = Unit {0}
AreOperands (operand ∷ operands) = IsOperand operand × AreOperands operands

-- the name of an instruction, and its operands in order
pub record Parts : Type 0 where
  pub name : List ℕ
  pub operands : List Operand

abbrev pub parts : List ℕ → List Operand → Parts
parts name operands = record { name = name; operands = operands }

abbrev pub registers : ℕ → ℕ → ℕ → List Operand
registers d a b = Register d ∷ Register a ∷ Register b ∷ []

abbrev pub branch : ℕ → ℕ → ℕ → List Operand
branch a b to = Register a ∷ Register b ∷ Target to ∷ []

abbrev pub parts_of : Instr → Parts
parts_of (Li d k) = parts (codes "li") (Register d ∷ Number k ∷ [])
parts_of (Mov d a) = parts (codes "mov") (Register d ∷ Register a ∷ [])
parts_of (Me d) = parts (codes "me") (Register d ∷ [])
parts_of (Procs d) = parts (codes "procs") (Register d ∷ [])
parts_of (Add d a b) = parts (codes "add") (registers d a b)
parts_of (Sub d a b) = parts (codes "sub") (registers d a b)
parts_of (Mul d a b) = parts (codes "mul") (registers d a b)
parts_of (Div d a b) = parts (codes "div") (registers d a b)
parts_of (Rem d a b) = parts (codes "rem") (registers d a b)
parts_of (And d a b) = parts (codes "and") (registers d a b)
parts_of (Or d a b) = parts (codes "or") (registers d a b)
parts_of (Xor d a b) = parts (codes "xor") (registers d a b)
parts_of (Shl d a b) = parts (codes "shl") (registers d a b)
parts_of (Shr d a b) = parts (codes "shr") (registers d a b)
parts_of (Slt d a b) = parts (codes "slt") (registers d a b)
parts_of (Seq d a b) = parts (codes "seq") (registers d a b)
parts_of (Addi d a k) = parts (codes "addi") (Register d ∷ Register a ∷ Number k ∷ [])
parts_of (Subi d a k) = parts (codes "subi") (Register d ∷ Register a ∷ Number k ∷ [])
parts_of (Muli d a k) = parts (codes "muli") (Register d ∷ Register a ∷ Number k ∷ [])
parts_of (Ld d a k) = parts (codes "ld") (Register d ∷ Register a ∷ Number k ∷ [])
parts_of (St s a k) = parts (codes "st") (Register s ∷ Register a ∷ Number k ∷ [])
parts_of (Jmp to) = parts (codes "jmp") (Target to ∷ [])
parts_of (Beq a b to) = parts (codes "beq") (branch a b to)
parts_of (Bne a b to) = parts (codes "bne") (branch a b to)
parts_of (Blt a b to) = parts (codes "blt") (branch a b to)
parts_of (Bge a b to) = parts (codes "bge") (branch a b to)
parts_of (Lock l) = parts (codes "lock") (Number l ∷ [])
parts_of (Unlock l) = parts (codes "unlock") (Number l ∷ [])
parts_of (Bar b) = parts (codes "bar") (Number b ∷ [])
parts_of (Set f) = parts (codes "set") (Number f ∷ [])
parts_of (Wait f k) = parts (codes "wait") (Number f ∷ Number k ∷ [])
parts_of (Waitr f a) = parts (codes "waitr") (Number f ∷ Register a ∷ [])
parts_of (Out s) = parts (codes "out") (Register s ∷ [])
parts_of Halt = parts (codes "halt") []

-- its operands are in range
abbrev pub IsInRange : Instr → Type 0
IsInRange instr = AreOperands ((parts_of instr).operands)
