-- What is read of the template, where its numbers are given by words.
use Rattle.std.proofs.Common.{◌≡◌, ℕ, List, [], ◌∷◌, ◌++◌, codes, Option, None, Some, refl, ap, ◌∙◌}
use Rattle.std.specs.List.{slice_range}
use Rattle.std.specs.Option.{unwrap_or, option_or}
use Rattle.dsm_isa.specs.declared.instr.Instr.TheVariants.{Li, Mov, Me, Procs, Add, Mul, Rem, Xor, Addi, Subi, Ld, St, Jmp, Bne, Bge, Lock, Unlock, Bar, Out, Halt}
use Rattle.dsm_isa.specs.ProgramText.{ProgramText}
use Rattle.dsm_grammar.specs.declared.fault.AsmKind.{AsmKind}
use Rattle.dsm_grammar.specs.Lines.{first_label}
use Rattle.dsm_grammar.specs.Operands.{Number, value_fault}
use Rattle.dsm_lex.specs.Lexical.{number_of}
use Rattle.dsm_gen.specs.Template.{template}
use Rattle.dsm_gen.proofs.Readings.{Reading, readings, program_by, fault_by}

-- lines of the template that have no number
abbrev pub lines : ℕ → ℕ → List (List ℕ)
lines from to = slice_range (template (record { first = 0; up = 0; up_by = 0; down = 0; down_by = 0 })) from to

-- the template's readings, where these are those of the lines with numbers
abbrev pub frame : Reading → Reading → Reading → Reading → Reading → List Reading
frame a b c d e =
    readings (lines 0 9) ++ a ∷ readings (lines 10 18) ++ b ∷ readings (lines 19 23) ++ c ∷ readings (lines 24 31)
    ++ d ∷ readings (lines 32 36) ++ e ∷ readings (lines 37 63)

abbrev pub worded : List ℕ → List ℕ → List ℕ → List ℕ → List ℕ → List Reading
worded a b c d e =
    frame (None, codes "li" ∷ codes "r11" ∷ a ∷ [])
    (first_label (codes "round:" ∷ []), codes "li" ∷ codes "r11" ∷ b ∷ [])
    (None, codes "addi" ∷ codes "r6" ∷ codes "r4" ∷ c ∷ [])
    (None, codes "li" ∷ codes "r11" ∷ d ∷ [])
    (None, codes "addi" ∷ codes "r6" ∷ codes "r4" ∷ e ∷ [])

-- the first fault of readings behind earlier ones, of all
abbrev pub faults_by : List Reading → List Reading → List Reading → Option AsmKind
faults_by all earlier [] = None
faults_by all earlier (r ∷ rs) = option_or (fault_by all earlier r) (faults_by all (earlier ++ r ∷ []) rs)

-- the program with these numbers
abbrev pub program_for : ℕ → ℕ → ℕ → ℕ → ℕ → ProgramText
program_for a b c d e = record {
  shape = record { pages = 256; words = 9; locks = 1; barriers = 1; flags = 0 };
  init = [];
  code =
      Me 1 ∷ Procs 2 ∷ Li 3 1150 ∷ Li 14 0 ∷ Li 15 3 ∷ Li 11 a ∷ Mov 4 1
      ∷ Bge 4 3 13 ∷ Addi 5 4 1 ∷ Mul 5 5 11 ∷ St 5 4 0 ∷ Add 4 4 2 ∷ Jmp 7
      ∷ Bar 0 ∷ Li 11 b ∷ Mov 4 1
      ∷ Bge 4 3 26 ∷ Ld 5 4 0 ∷ Mul 5 5 11 ∷ Addi 6 4 c ∷ Rem 6 6 3 ∷ Ld 7 6 0 ∷ Add 5 5 7 ∷ St 5 4 1152 ∷ Add 4 4 2 ∷ Jmp 16
      ∷ Bar 0 ∷ Li 11 d ∷ Mov 4 1
      ∷ Bge 4 3 39 ∷ Ld 5 4 1152 ∷ Mul 5 5 11 ∷ Addi 6 4 e ∷ Rem 6 6 3 ∷ Ld 7 6 1152 ∷ Xor 5 5 7 ∷ St 5 4 0 ∷ Add 4 4 2 ∷ Jmp 29
      ∷ Bar 0 ∷ Subi 15 15 1 ∷ Bne 15 14 14
      ∷ Li 8 0 ∷ Mov 4 1
      ∷ Bge 4 3 49 ∷ Ld 5 4 0 ∷ Add 8 8 5 ∷ Add 4 4 2 ∷ Jmp 44
      ∷ Lock 0 ∷ Ld 5 14 2303 ∷ Add 5 5 8 ∷ St 5 14 2303 ∷ Unlock 0 ∷ Bar 0
      ∷ Bne 1 14 58 ∷ Ld 5 14 2303 ∷ Out 5 ∷ Halt ∷ [];
}

program-worded : (a b c d e : List ℕ) → program_by (worded a b c d e) ≡ program_for (unwrap_or (number_of a) 0) (unwrap_or (number_of b) 0) (unwrap_or (number_of c) 0) (unwrap_or (number_of d) 0) (unwrap_or (number_of e) 0)
program-worded a b c d e = refl

-- the same, where the words are those of numbers
pub program-numbers : (a b c d e : List ℕ) (u v x y z : ℕ) → number_of a ≡ Some u → number_of b ≡ Some v → number_of c ≡ Some x → number_of d ≡ Some y → number_of e ≡ Some z → program_by (worded a b c d e) ≡ program_for u v x y z
program-numbers a b c d e u v x y z is_a is_b is_c is_d is_e =
    let value : Option ℕ → ℕ = λ o. unwrap_or o 0 in
    program-worded a b c d e
    ∙ ap (λ o. program_for (value o) (value (number_of b)) (value (number_of c)) (value (number_of d)) (value (number_of e))) is_a
    ∙ ap (λ o. program_for u (value o) (value (number_of c)) (value (number_of d)) (value (number_of e))) is_b
    ∙ ap (λ o. program_for u v (value o) (value (number_of d)) (value (number_of e))) is_c
    ∙ ap (λ o. program_for u v x (value o) (value (number_of e))) is_d
    ∙ ap (λ o. program_for u v x y (value o)) is_e

-- what is wrong with a line whose number is this, or else with others
abbrev pub faulty : Option ℕ → Option AsmKind → Option AsmKind
faulty number others = option_or (option_or (option_or (value_fault Number number) None) None) others

faults-worded : (a b c d e : List ℕ) → let all = worded a b c d e in
    faults_by all [] all ≡ faulty (number_of a) (faulty (number_of b) (faulty (number_of c) (faulty (number_of d) (faulty (number_of e) None))))
faults-worded a b c d e = refl

pub no_faults-numbers : (a b c d e : List ℕ) (u v x y z : ℕ) → number_of a ≡ Some u → number_of b ≡ Some v → number_of c ≡ Some x → number_of d ≡ Some y → number_of e ≡ Some z → faults_by (worded a b c d e) [] (worded a b c d e) ≡ None
no_faults-numbers a b c d e u v x y z is_a is_b is_c is_d is_e =
    faults-worded a b c d e
    ∙ ap (λ o. faulty o (faulty (number_of b) (faulty (number_of c) (faulty (number_of d) (faulty (number_of e) None))))) is_a
    ∙ ap (λ o. faulty o (faulty (number_of c) (faulty (number_of d) (faulty (number_of e) None)))) is_b
    ∙ ap (λ o. faulty o (faulty (number_of d) (faulty (number_of e) None))) is_c
    ∙ ap (λ o. faulty o (faulty (number_of e) None)) is_d
    ∙ ap (λ o. faulty o None) is_e
