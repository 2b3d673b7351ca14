-- The forms of the instructions: the operands of each, and what it means.
use Rattle.std.specs.Prelude.{ℕ, [], ◌∷◌}
use Rattle.dsm_isa.specs.ProgramText.{Sizes}
use Rattle.dsm_isa.specs.declared.instr.Instr.{Instr}
use Rattle.dsm_isa.specs.declared.instr.Instr.TheVariants.{Li, Mov, Me, Procs, Add, Sub, Mul, Div, Rem, And, Or, Xor, Shl, Shr, Slt, Seq, Addi, Subi, Muli, Ld, St, Jmp, Beq, Bne, Blt, Bge, Lock, Unlock, Bar, Set, Wait, Waitr, Out, Halt}
use Rattle.dsm_grammar.specs.declared.fault.Bound.TheVariants.{Lock as ALock, Barrier as ABarrier, Flag as AFlag}
use Rattle.dsm_grammar.specs.Operands.{Register, Number, Within, Label}
use Rattle.dsm_grammar.specs.Statements.{Statement, statement, three_registers, two_registers_number, two_registers_label}
use Rattle.dsm_asm.specs.declared.forms.Form.{Form}
use Rattle.dsm_asm.specs.declared.forms.Form.TheVariants.{Halt as Halts, Li as Lis, Mov as Movs, Jmp as Jmps, Register as OfRegister, Arithmetic as OfArithmetic, Number as OfNumber, Branch as OfBranch, Object as OfObject}
use Rattle.dsm_asm.specs.declared.forms.OnRegister.{OnRegister}
use Rattle.dsm_asm.specs.declared.forms.OnRegister.TheVariants.{Me as OnMe, Procs as OnProcs, Out as OnOut}
use Rattle.dsm_asm.specs.declared.forms.OnRegisters.{OnRegisters}
use Rattle.dsm_asm.specs.declared.forms.OnRegisters.TheVariants.{Add as OnAdd, Sub as OnSub, Mul as OnMul, Div as OnDiv, Rem as OnRem, And as OnAnd, Or as OnOr, Xor as OnXor, Shl as OnShl, Shr as OnShr, Slt as OnSlt, Seq as OnSeq}
use Rattle.dsm_asm.specs.declared.forms.OnNumber.{OnNumber}
use Rattle.dsm_asm.specs.declared.forms.OnNumber.TheVariants.{Addi as OnAddi, Subi as OnSubi, Muli as OnMuli, Ld as OnLd, St as OnSt}
use Rattle.dsm_asm.specs.declared.forms.OnLabel.{OnLabel}
use Rattle.dsm_asm.specs.declared.forms.OnLabel.TheVariants.{Beq as OnBeq, Bne as OnBne, Blt as OnBlt, Bge as OnBge}
use Rattle.dsm_asm.specs.declared.forms.OnObject.{OnObject}
use Rattle.dsm_asm.specs.declared.forms.OnObject.TheVariants.{Lock as OnLock, Unlock as OnUnlock, Bar as OnBar, Set as OnSet, Wait as OnWait, Waitr as OnWaitr}

-- the instruction on one register
abbrev pub with_register : OnRegister → ℕ → Instr
with_register OnMe d = Me d
with_register OnProcs d = Procs d
with_register OnOut s = Out s

-- the instruction on three registers
abbrev pub with_registers : OnRegisters → ℕ → ℕ → ℕ → Instr
with_registers OnAdd d a b = Add d a b
with_registers OnSub d a b = Sub d a b
with_registers OnMul d a b = Mul d a b
with_registers OnDiv d a b = Div d a b
with_registers OnRem d a b = Rem d a b
with_registers OnAnd d a b = And d a b
with_registers OnOr d a b = Or d a b
with_registers OnXor d a b = Xor d a b
with_registers OnShl d a b = Shl d a b
with_registers OnShr d a b = Shr d a b
with_registers OnSlt d a b = Slt d a b
with_registers OnSeq d a b = Seq d a b

-- the instruction on two registers and a number
abbrev pub with_number : OnNumber → ℕ → ℕ → ℕ → Instr
with_number OnAddi d a k = Addi d a k
with_number OnSubi d a k = Subi d a k
with_number OnMuli d a k = Muli d a k
with_number OnLd d a k = Ld d a k
with_number OnSt s a k = St s a k

-- the instruction on two registers and a place
abbrev pub with_label : OnLabel → ℕ → ℕ → ℕ → Instr
with_label OnBeq a b to = Beq a b to
with_label OnBne a b to = Bne a b to
with_label OnBlt a b to = Blt a b to
with_label OnBge a b to = Bge a b to

-- the operands of an instruction on a lock, a barrier or a flag and its meaning, where there are so many of them
abbrev pub statement_on : Sizes → OnObject → Statement Instr
statement_on there OnLock = statement (Within ALock 0 there.locks ∷ []) (λ v. Lock (v 0))
statement_on there OnUnlock = statement (Within ALock 0 there.locks ∷ []) (λ v. Unlock (v 0))
statement_on there OnBar = statement (Within ABarrier 0 there.barriers ∷ []) (λ v. Bar (v 0))
statement_on there OnSet = statement (Within AFlag 0 there.flags ∷ []) (λ v. Set (v 0))
statement_on there OnWait = statement (Within AFlag 0 there.flags ∷ Number ∷ []) (λ v. Wait (v 0) (v 1))
statement_on there OnWaitr = statement (Within AFlag 0 there.flags ∷ Register ∷ []) (λ v. Waitr (v 0) (v 1))

-- the operands of an instruction of this form and its meaning, where there are so many locks, barriers and flags
abbrev pub statement_in : Sizes → Form → Statement Instr
statement_in there Halts = statement [] (λ v. Halt)
statement_in there Lis = statement (Register ∷ Number ∷ []) (λ v. Li (v 0) (v 1))
statement_in there Movs = statement (Register ∷ Register ∷ []) (λ v. Mov (v 0) (v 1))
statement_in there Jmps = statement (Label ∷ []) (λ v. Jmp (v 0))
statement_in there (OfRegister op) = statement (Register ∷ []) (λ v. with_register op (v 0))
statement_in there (OfArithmetic op) = statement three_registers (λ v. with_registers op (v 0) (v 1) (v 2))
statement_in there (OfNumber op) = statement two_registers_number (λ v. with_number op (v 0) (v 1) (v 2))
statement_in there (OfBranch op) = statement two_registers_label (λ v. with_label op (v 0) (v 1) (v 2))
statement_in there (OfObject op) = statement_on there op
