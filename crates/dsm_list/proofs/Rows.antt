-- What the grammar has of each instruction, in the order of its table.
use Rattle.std.proofs.Common.{◌≡◌, ℕ, ◌≤◌, true, List, [], ◌∷◌, length, map, Option, None, Some, IfSome, slice_index, refl, ap, ◌∙◌, arith}
use Rattle.std.specs.Option.{is_some, option_map, option_map_or}
use Rattle.dsm_isa.specs.declared.instr.Instr.{Instr}
use Rattle.dsm_isa.specs.declared.instr.Instr.TheVariants.{Li, Mov, Me, Procs, Add, Sub, Mul, Div, Rem, And, Or, Xor, Shl, Shr, Slt, Seq, Addi, Subi, Muli, Ld, St, Jmp, Beq, Bne, Blt, Bge, Lock, Unlock, Bar, Set, Wait, Waitr, Out, Halt}
use Rattle.dsm_isa.specs.Jumps.{target_of}
use Rattle.dsm_isa.specs.ProgramText.{Sizes}
use Rattle.dsm_isa.specs.Rules.{ObjectInside}
use Rattle.dsm_grammar.specs.declared.fault.Bound.TheVariants.{Lock as ALock, Barrier as ABarrier, Flag as AFlag}
use Rattle.dsm_grammar.specs.Grammar.{meaning_of, instruction_in, set_by}
use Rattle.dsm_grammar.specs.Lines.{label_in}
use Rattle.dsm_grammar.specs.Operands.{Register, Number, Within, Label}
use Rattle.dsm_grammar.specs.Settings.{Settings}
use Rattle.dsm_grammar.specs.Statements.{Statement, statement, named, directives, instructions, three_registers, two_registers_number, two_registers_label}
use Rattle.dsm_isa.specs.Operands.{parts_of, IsInRange}
use Rattle.dsm_list.specs.Spelling.{operand_word, label, spelling}
use Rattle.dsm_list.proofs.Words.{is_word}
use Rattle.dsm_list.proofs.Operands.{value, AllSuit, values_of-words}

-- its row of the table: the statement of its name means the instruction, and its operands are what is wanted there
pub record Row (sizes : Sizes) (instr : Instr) : Type 0 where
  pub says : Statement Instr
  pub found : named ((parts_of instr).name) (instructions sizes) ≡ Some says
  pub means : says.meaning (slice_index (map value ((parts_of instr).operands))) ≡ instr
  pub suits : (labels : List ℕ → Option ℕ) → ObjectInside sizes instr → IfSome (target_of instr) (λ to. labels (label to) ≡ Some to) → AllSuit labels says.places ((parts_of instr).operands)

pub row_of : (sizes : Sizes) (instr : Instr) → Row sizes instr
row_of sizes (Li d k) = record { says = statement (Register ∷ Number ∷ []) (λ v. Li (v 0) (v 1)); found = refl; means = refl; suits = λ labels inside known. (tt, (tt, tt)) }
row_of sizes (Mov d a) = record { says = statement (Register ∷ Register ∷ []) (λ v. Mov (v 0) (v 1)); found = refl; means = refl; suits = λ labels inside known. (tt, (tt, tt)) }
row_of sizes (Me d) = record { says = statement (Register ∷ []) (λ v. Me (v 0)); found = refl; means = refl; suits = λ labels inside known. (tt, tt) }
row_of sizes (Procs d) = record { says = statement (Register ∷ []) (λ v. Procs (v 0)); found = refl; means = refl; suits = λ labels inside known. (tt, tt) }
row_of sizes (Add d a b) = record { says = statement (three_registers) (λ v. Add (v 0) (v 1) (v 2)); found = refl; means = refl; suits = λ labels inside known. (tt, (tt, (tt, tt))) }
row_of sizes (Sub d a b) = record { says = statement (three_registers) (λ v. Sub (v 0) (v 1) (v 2)); found = refl; means = refl; suits = λ labels inside known. (tt, (tt, (tt, tt))) }
row_of sizes (Mul d a b) = record { says = statement (three_registers) (λ v. Mul (v 0) (v 1) (v 2)); found = refl; means = refl; suits = λ labels inside known. (tt, (tt, (tt, tt))) }
row_of sizes (Div d a b) = record { says = statement (three_registers) (λ v. Div (v 0) (v 1) (v 2)); found = refl; means = refl; suits = λ labels inside known. (tt, (tt, (tt, tt))) }
row_of sizes (Rem d a b) = record { says = statement (three_registers) (λ v. Rem (v 0) (v 1) (v 2)); found = refl; means = refl; suits = λ labels inside known. (tt, (tt, (tt, tt))) }
row_of sizes (And d a b) = record { says = statement (three_registers) (λ v. And (v 0) (v 1) (v 2)); found = refl; means = refl; suits = λ labels inside known. (tt, (tt, (tt, tt))) }
row_of sizes (Or d a b) = record { says = statement (three_registers) (λ v. Or (v 0) (v 1) (v 2)); found = refl; means = refl; suits = λ labels inside known. (tt, (tt, (tt, tt))) }
row_of sizes (Xor d a b) = record { says = statement (three_registers) (λ v. Xor (v 0) (v 1) (v 2)); found = refl; means = refl; suits = λ labels inside known. (tt, (tt, (tt, tt))) }
row_of sizes (Shl d a b) = record { says = statement (three_registers) (λ v. Shl (v 0) (v 1) (v 2)); found = refl; means = refl; suits = λ labels inside known. (tt, (tt, (tt, tt))) }
row_of sizes (Shr d a b) = record { says = statement (three_registers) (λ v. Shr (v 0) (v 1) (v 2)); found = refl; means = refl; suits = λ labels inside known. (tt, (tt, (tt, tt))) }
row_of sizes (Slt d a b) = record { says = statement (three_registers) (λ v. Slt (v 0) (v 1) (v 2)); found = refl; means = refl; suits = λ labels inside known. (tt, (tt, (tt, tt))) }
row_of sizes (Seq d a b) = record { says = statement (three_registers) (λ v. Seq (v 0) (v 1) (v 2)); found = refl; means = refl; suits = λ labels inside known. (tt, (tt, (tt, tt))) }
row_of sizes (Addi d a k) = record { says = statement (two_registers_number) (λ v. Addi (v 0) (v 1) (v 2)); found = refl; means = refl; suits = λ labels inside known. (tt, (tt, (tt, tt))) }
row_of sizes (Subi d a k) = record { says = statement (two_registers_number) (λ v. Subi (v 0) (v 1) (v 2)); found = refl; means = refl; suits = λ labels inside known. (tt, (tt, (tt, tt))) }
row_of sizes (Muli d a k) = record { says = statement (two_registers_number) (λ v. Muli (v 0) (v 1) (v 2)); found = refl; means = refl; suits = λ labels inside known. (tt, (tt, (tt, tt))) }
row_of sizes (Ld d a k) = record { says = statement (two_registers_number) (λ v. Ld (v 0) (v 1) (v 2)); found = refl; means = refl; suits = λ labels inside known. (tt, (tt, (tt, tt))) }
row_of sizes (St s a k) = record { says = statement (two_registers_number) (λ v. St (v 0) (v 1) (v 2)); found = refl; means = refl; suits = λ labels inside known. (tt, (tt, (tt, tt))) }
row_of sizes (Jmp to) = record { says = statement (Label ∷ []) (λ v. Jmp (v 0)); found = refl; means = refl; suits = λ labels inside known. (known, tt) }
row_of sizes (Beq a b to) = record { says = statement (two_registers_label) (λ v. Beq (v 0) (v 1) (v 2)); found = refl; means = refl; suits = λ labels inside known. (tt, (tt, (known, tt))) }
row_of sizes (Bne a b to) = record { says = statement (two_registers_label) (λ v. Bne (v 0) (v 1) (v 2)); found = refl; means = refl; suits = λ labels inside known. (tt, (tt, (known, tt))) }
row_of sizes (Blt a b to) = record { says = statement (two_registers_label) (λ v. Blt (v 0) (v 1) (v 2)); found = refl; means = refl; suits = λ labels inside known. (tt, (tt, (known, tt))) }
row_of sizes (Bge a b to) = record { says = statement (two_registers_label) (λ v. Bge (v 0) (v 1) (v 2)); found = refl; means = refl; suits = λ labels inside known. (tt, (tt, (known, tt))) }
row_of sizes (Lock l) = record { says = statement (Within ALock 0 sizes.locks ∷ []) (λ v. Lock (v 0)); found = refl; means = refl; suits = λ labels inside known. ((omega arith, inside), tt) }
row_of sizes (Unlock l) = record { says = statement (Within ALock 0 sizes.locks ∷ []) (λ v. Unlock (v 0)); found = refl; means = refl; suits = λ labels inside known. ((omega arith, inside), tt) }
row_of sizes (Bar b) = record { says = statement (Within ABarrier 0 sizes.barriers ∷ []) (λ v. Bar (v 0)); found = refl; means = refl; suits = λ labels inside known. ((omega arith, inside), tt) }
row_of sizes (Set f) = record { says = statement (Within AFlag 0 sizes.flags ∷ []) (λ v. Set (v 0)); found = refl; means = refl; suits = λ labels inside known. ((omega arith, inside), tt) }
row_of sizes (Wait f k) = record { says = statement (Within AFlag 0 sizes.flags ∷ Number ∷ []) (λ v. Wait (v 0) (v 1)); found = refl; means = refl; suits = λ labels inside known. ((omega arith, inside), (tt, tt)) }
row_of sizes (Waitr f a) = record { says = statement (Within AFlag 0 sizes.flags ∷ Register ∷ []) (λ v. Waitr (v 0) (v 1)); found = refl; means = refl; suits = λ labels inside known. ((omega arith, inside), (tt, tt)) }
row_of sizes (Out s) = record { says = statement (Register ∷ []) (λ v. Out (v 0)); found = refl; means = refl; suits = λ labels inside known. (tt, tt) }
row_of sizes Halt = record { says = statement ([]) (λ v. Halt); found = refl; means = refl; suits = λ labels inside known. tt }

-- its name is a word and no label, and that of no directive
pub record Named (instr : Instr) : Type 0 where
  pub word : is_word ((parts_of instr).name) ≡ true
  pub no_label : label_in ((parts_of instr).name) ≡ None
  pub no_directive : (settings : Settings) → named ((parts_of instr).name) (directives settings) ≡ None
  pub short : length ((parts_of instr).name) ≤ 9
  pub few : length ((parts_of instr).operands) ≤ 3

pub name_of : (instr : Instr) → Named instr
name_of (Li d k) = record { word = refl; no_label = refl; no_directive = λ settings. refl; short = omega arith; few = omega arith }
name_of (Mov d a) = record { word = refl; no_label = refl; no_directive = λ settings. refl; short = omega arith; few = omega arith }
name_of (Me d) = record { word = refl; no_label = refl; no_directive = λ settings. refl; short = omega arith; few = omega arith }
name_of (Procs d) = record { word = refl; no_label = refl; no_directive = λ settings. refl; short = omega arith; few = omega arith }
name_of (Add d a b) = record { word = refl; no_label = refl; no_directive = λ settings. refl; short = omega arith; few = omega arith }
name_of (Sub d a b) = record { word = refl; no_label = refl; no_directive = λ settings. refl; short = omega arith; few = omega arith }
name_of (Mul d a b) = record { word = refl; no_label = refl; no_directive = λ settings. refl; short = omega arith; few = omega arith }
name_of (Div d a b) = record { word = refl; no_label = refl; no_directive = λ settings. refl; short = omega arith; few = omega arith }
name_of (Rem d a b) = record { word = refl; no_label = refl; no_directive = λ settings. refl; short = omega arith; few = omega arith }
name_of (And d a b) = record { word = refl; no_label = refl; no_directive = λ settings. refl; short = omega arith; few = omega arith }
name_of (Or d a b) = record { word = refl; no_label = refl; no_directive = λ settings. refl; short = omega arith; few = omega arith }
name_of (Xor d a b) = record { word = refl; no_label = refl; no_directive = λ settings. refl; short = omega arith; few = omega arith }
name_of (Shl d a b) = record { word = refl; no_label = refl; no_directive = λ settings. refl; short = omega arith; few = omega arith }
name_of (Shr d a b) = record { word = refl; no_label = refl; no_directive = λ settings. refl; short = omega arith; few = omega arith }
name_of (Slt d a b) = record { word = refl; no_label = refl; no_directive = λ settings. refl; short = omega arith; few = omega arith }
name_of (Seq d a b) = record { word = refl; no_label = refl; no_directive = λ settings. refl; short = omega arith; few = omega arith }
name_of (Addi d a k) = record { word = refl; no_label = refl; no_directive = λ settings. refl; short = omega arith; few = omega arith }
name_of (Subi d a k) = record { word = refl; no_label = refl; no_directive = λ settings. refl; short = omega arith; few = omega arith }
name_of (Muli d a k) = record { word = refl; no_label = refl; no_directive = λ settings. refl; short = omega arith; few = omega arith }
name_of (Ld d a k) = record { word = refl; no_label = refl; no_directive = λ settings. refl; short = omega arith; few = omega arith }
name_of (St s a k) = record { word = refl; no_label = refl; no_directive = λ settings. refl; short = omega arith; few = omega arith }
name_of (Jmp to) = record { word = refl; no_label = refl; no_directive = λ settings. refl; short = omega arith; few = omega arith }
name_of (Beq a b to) = record { word = refl; no_label = refl; no_directive = λ settings. refl; short = omega arith; few = omega arith }
name_of (Bne a b to) = record { word = refl; no_label = refl; no_directive = λ settings. refl; short = omega arith; few = omega arith }
name_of (Blt a b to) = record { word = refl; no_label = refl; no_directive = λ settings. refl; short = omega arith; few = omega arith }
name_of (Bge a b to) = record { word = refl; no_label = refl; no_directive = λ settings. refl; short = omega arith; few = omega arith }
name_of (Lock l) = record { word = refl; no_label = refl; no_directive = λ settings. refl; short = omega arith; few = omega arith }
name_of (Unlock l) = record { word = refl; no_label = refl; no_directive = λ settings. refl; short = omega arith; few = omega arith }
name_of (Bar b) = record { word = refl; no_label = refl; no_directive = λ settings. refl; short = omega arith; few = omega arith }
name_of (Set f) = record { word = refl; no_label = refl; no_directive = λ settings. refl; short = omega arith; few = omega arith }
name_of (Wait f k) = record { word = refl; no_label = refl; no_directive = λ settings. refl; short = omega arith; few = omega arith }
name_of (Waitr f a) = record { word = refl; no_label = refl; no_directive = λ settings. refl; short = omega arith; few = omega arith }
name_of (Out s) = record { word = refl; no_label = refl; no_directive = λ settings. refl; short = omega arith; few = omega arith }
name_of Halt = record { word = refl; no_label = refl; no_directive = λ settings. refl; short = omega arith; few = omega arith }

-- its words are read as the instruction
pub instruction_in-spelling : (sizes : Sizes) (labels : List ℕ → Option ℕ) (instr : Instr) → IsInRange instr → ObjectInside sizes instr → IfSome (target_of instr) (λ to. labels (label to) ≡ Some to) → instruction_in sizes labels (spelling instr) ≡ Some instr
instruction_in-spelling sizes labels instr range inside known =
    let row = row_of sizes instr in
    let words = spelling instr in
    ap (option_map (λ says. meaning_of labels says (map operand_word ((parts_of instr).operands)))) row.found
    ∙ ap (λ values. Some (row.says.meaning (slice_index values))) (values_of-words labels row.says.places ((parts_of instr).operands) (row.suits labels inside known) range)
    ∙ ap Some row.means

-- whatever the labels are, they are read as some instruction
pub some_instruction : (sizes : Sizes) (labels : List ℕ → Option ℕ) (instr : Instr) → is_some (instruction_in sizes labels (spelling instr)) ≡ true
some_instruction sizes labels instr =
    ap (λ o. is_some (option_map (λ says. meaning_of labels says (map operand_word ((parts_of instr).operands))) o)) ((row_of sizes instr).found)

-- they set nothing
pub set_by-spelling : (settings : Settings) (instr : Instr) → set_by settings (spelling instr) ≡ settings
set_by-spelling settings instr =
    ap (λ o. option_map_or (λ directive. meaning_of (λ name. None) directive (map operand_word ((parts_of instr).operands))) o settings) ((name_of instr).no_directive settings)
