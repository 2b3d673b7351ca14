-- The directives and the instructions: the operands of each, and what it means where they stand for the numbers v 0,
-- v 1 and v 2.
use Rattle.std.specs.Prelude.{ℕ, ◌*◌, List, [], ◌∷◌, codes, Option}
use Rattle.std.specs.Map.{lookup}
use Rattle.std.specs.Str.{bytes_eq}
use Rattle.dsm_isa.specs.declared.instr.Instr.{Instr}
use Rattle.dsm_isa.specs.declared.instr.Instr.TheVariants.{Li, Mov, Me, Procs, Add, Sub, Mul, Div, Rem, And, Or, Xor, Shl, Shr, Slt, Seq, Addi, Subi, Muli, Ld, St, Jmp, Beq, Bne, Blt, Bge, Lock, Unlock, Bar, Set, Wait, Waitr, Out, Halt}
use Rattle.dsm_isa.specs.ProgramText.{Sizes}
use Rattle.dsm_grammar.specs.declared.fault.Bound.TheVariants.{Pages, Words, Locks, Barriers, Flags, Address, Lock as ALock, Barrier as ABarrier, Flag as AFlag}
use Rattle.dsm_grammar.specs.Operands.{Place, Register, Number, Within, Label}
use Rattle.dsm_grammar.specs.Settings.{Settings, starts_as}

-- the operands of a statement, and its meaning
pub record Statement (Meaning : Type 0) : Type 0 where
  pub places : List Place
  pub meaning : (ℕ → ℕ) → Meaning

abbrev pub statement : {Meaning : Type 0} → List Place → ((ℕ → ℕ) → Meaning) → Statement Meaning
statement places meaning = record { places = places; meaning = meaning }

-- the statement of this name
abbrev pub named : {X : Type 0} → List ℕ → List (List ℕ × X) → Option X
named name rows = lookup (λ other. bytes_eq other name) rows

-- the directives by name, as they stand behind these settings
abbrev pub directives : Settings → List (List ℕ × Statement Settings)
directives s =
    (codes ".pages", statement (Within Pages 1 257 ∷ []) (λ v. record s { sizes = record (s.sizes) { pages = v 0 } }))
    ∷ (codes ".words", statement (Within Words 1 257 ∷ []) (λ v. record s { sizes = record (s.sizes) { words = v 0 } }))
    ∷ (codes ".locks", statement (Within Locks 0 65 ∷ []) (λ v. record s { sizes = record (s.sizes) { locks = v 0 } }))
    ∷ (codes ".barriers", statement (Within Barriers 0 17 ∷ []) (λ v. record s { sizes = record (s.sizes) { barriers = v 0 } }))
    ∷ (codes ".flags", statement (Within Flags 0 65 ∷ []) (λ v. record s { sizes = record (s.sizes) { flags = v 0 } }))
    ∷ (codes ".init", statement (Within Address 0 (s.sizes.pages * s.sizes.words) ∷ Number ∷ []) (λ v. record s { init = starts_as (v 0) (v 1) s.init }))
    ∷ []

-- the operands of most instructions
abbrev pub three_registers : List Place
three_registers = Register ∷ Register ∷ Register ∷ []

abbrev pub two_registers_number : List Place
two_registers_number = Register ∷ Register ∷ Number ∷ []

abbrev pub two_registers_label : List Place
two_registers_label = Register ∷ Register ∷ Label ∷ []

-- the instructions by name, where there are so many locks, barriers and flags
abbrev pub instructions : Sizes → List (List ℕ × Statement Instr)
instructions there =
    (codes "li", statement (Register ∷ Number ∷ []) (λ v. Li (v 0) (v 1)))
    ∷ (codes "mov", statement (Register ∷ Register ∷ []) (λ v. Mov (v 0) (v 1)))
    ∷ (codes "me", statement (Register ∷ []) (λ v. Me (v 0)))
    ∷ (codes "procs", statement (Register ∷ []) (λ v. Procs (v 0)))
    ∷ (codes "add", statement three_registers (λ v. Add (v 0) (v 1) (v 2)))
    ∷ (codes "sub", statement three_registers (λ v. Sub (v 0) (v 1) (v 2)))
    ∷ (codes "mul", statement three_registers (λ v. Mul (v 0) (v 1) (v 2)))
    ∷ (codes "div", statement three_registers (λ v. Div (v 0) (v 1) (v 2)))
    ∷ (codes "rem", statement three_registers (λ v. Rem (v 0) (v 1) (v 2)))
    ∷ (codes "and", statement three_registers (λ v. And (v 0) (v 1) (v 2)))
    ∷ (codes "or", statement three_registers (λ v. Or (v 0) (v 1) (v 2)))
    ∷ (codes "xor", statement three_registers (λ v. Xor (v 0) (v 1) (v 2)))
    ∷ (codes "shl", statement three_registers (λ v. Shl (v 0) (v 1) (v 2)))
    ∷ (codes "shr", statement three_registers (λ v. Shr (v 0) (v 1) (v 2)))
    ∷ (codes "slt", statement three_registers (λ v. Slt (v 0) (v 1) (v 2)))
    ∷ (codes "seq", statement three_registers (λ v. Seq (v 0) (v 1) (v 2)))
    ∷ (codes "addi", statement two_registers_number (λ v. Addi (v 0) (v 1) (v 2)))
    ∷ (codes "subi", statement two_registers_number (λ v. Subi (v 0) (v 1) (v 2)))
    ∷ (codes "muli", statement two_registers_number (λ v. Muli (v 0) (v 1) (v 2)))
    ∷ (codes "ld", statement two_registers_number (λ v. Ld (v 0) (v 1) (v 2)))
    ∷ (codes "st", statement two_registers_number (λ v. St (v 0) (v 1) (v 2)))
    ∷ (codes "jmp", statement (Label ∷ []) (λ v. Jmp (v 0)))
    ∷ (codes "beq", statement two_registers_label (λ v. Beq (v 0) (v 1) (v 2)))
    ∷ (codes "bne", statement two_registers_label (λ v. Bne (v 0) (v 1) (v 2)))
    ∷ (codes "blt", statement two_registers_label (λ v. Blt (v 0) (v 1) (v 2)))
    ∷ (codes "bge", statement two_registers_label (λ v. Bge (v 0) (v 1) (v 2)))
    ∷ (codes "lock", statement (Within ALock 0 there.locks ∷ []) (λ v. Lock (v 0)))
    ∷ (codes "unlock", statement (Within ALock 0 there.locks ∷ []) (λ v. Unlock (v 0)))
    ∷ (codes "bar", statement (Within ABarrier 0 there.barriers ∷ []) (λ v. Bar (v 0)))
    ∷ (codes "set", statement (Within AFlag 0 there.flags ∷ []) (λ v. Set (v 0)))
    ∷ (codes "wait", statement (Within AFlag 0 there.flags ∷ Number ∷ []) (λ v. Wait (v 0) (v 1)))
    ∷ (codes "waitr", statement (Within AFlag 0 there.flags ∷ Register ∷ []) (λ v. Waitr (v 0) (v 1)))
    ∷ (codes "out", statement (Register ∷ []) (λ v. Out (v 0)))
    ∷ (codes "halt", statement [] (λ v. Halt))
    ∷ []
