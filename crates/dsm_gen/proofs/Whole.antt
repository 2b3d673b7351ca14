-- The text of each seed has no fault, and stands for a program.
use Rattle.std.proofs.Common.{◌≡◌, ℕ, ◌<◌, ◌^◌, ◌&&◌, if◌then◌else◌, true, List, [], ◌∷◌, ◌++◌, codes, decimal, Option, None, Some, refl, sym, ap, ◌∙◌, subst}
use Rattle.std.specs.List.{list_all, list_any, slice_range}
use Rattle.std.specs.Option.{option_or}
use Rattle.std.proofs.lemmas.Bool.{and_parts, and_from}
use Rattle.std.proofs.lemmas.List.{map-append}
use Rattle.dsm_isa.specs.ProgramText.{ProgramText}
use Rattle.dsm_lex.specs.Lexical.{number_of}
use Rattle.dsm_lex.proofs.Numbers.{number_of-back}
use Rattle.dsm_grammar.specs.declared.fault.AsmKind.{AsmKind}
use Rattle.dsm_grammar.specs.declared.fault.AsmKind.TheVariants.{NoCode}
use Rattle.dsm_grammar.specs.Faults.{first_fault_behind, first_fault_of}
use Rattle.dsm_grammar.specs.Grammar.{settings_of, code_of, place_of, has_instruction}
use Rattle.dsm_grammar.specs.Laws.{OfEachProgram}
use Rattle.dsm_grammar.specs.Lines.{is_plain, is_short}
use Rattle.dsm_list.proofs.Fine.{Fine, first_fault_behind-fine}
use Rattle.dsm_gen.specs.declared.numbers.Numbers.{Numbers}
use Rattle.dsm_gen.specs.Template.{template}
use Rattle.dsm_gen.specs.Generated.{text_with, program_with}
use Rattle.dsm_gen.proofs.Cuts.{has_no_feed, lines_of-text}
use Rattle.dsm_gen.proofs.Frame.{frame, worded, faults_by, program_for, program-numbers, no_faults-numbers}
use Rattle.dsm_gen.proofs.Numbered.{li-Says, round-Says, addi-Says}
use Rattle.dsm_gen.proofs.Readings.{Reading, read, readings, Fits, fault_by, fault-read, program-read, program_by}

-- each number is one of 64 bits
pub record AreWords (n : Numbers) : Type 0 where
  pub first : n.first < 2 ^ 64
  pub up : n.up < 2 ^ 64
  pub up_by : n.up_by < 2 ^ 64
  pub down : n.down < 2 ^ 64
  pub down_by : n.down_by < 2 ^ 64

-- no line has a line feed
no_feeds : (n : Numbers) → AreWords n → list_all has_no_feed (template n) ≡ true
no_feeds n are =
    and_from _ _ ((li-Says n.first are.first).no_feed)
    (and_from _ _ ((round-Says n.up are.up).no_feed)
    (and_from _ _ ((addi-Says n.up_by are.up_by).no_feed)
    (and_from _ _ ((li-Says n.down are.down).no_feed)
    (and_from _ _ ((addi-Says n.down_by are.down_by).no_feed) refl))))

-- what is read of them
readings-template : (n : Numbers) → AreWords n → readings (template n) ≡ worded (decimal n.first) (decimal n.up) (decimal n.up_by) (decimal n.down) (decimal n.down_by)
readings-template n are =
    let a = li-Says n.first are.first in
    let b = round-Says n.up are.up in
    let c = addi-Says n.up_by are.up_by in
    let d = li-Says n.down are.down in
    let e = addi-Says n.down_by are.down_by in
    let second = read (codes "round: li r11 " ++ decimal n.up) in
    let third = read (codes "addi r6 r4 " ++ decimal n.up_by) in
    let fourth = read (codes "li r11 " ++ decimal n.down) in
    let fifth = read (codes "addi r6 r4 " ++ decimal n.down_by) in
    let li : ℕ → Reading = λ k. (None, codes "li" ∷ codes "r11" ∷ decimal k ∷ []) in
    let addi : ℕ → Reading = λ k. (None, codes "addi" ∷ codes "r6" ∷ codes "r4" ∷ decimal k ∷ []) in
    let round : ℕ → Reading = λ k. (Some (codes "round"), codes "li" ∷ codes "r11" ∷ decimal k ∷ []) in
    ap (λ r. frame r second third fourth fifth) a.reads
    ∙ ap (λ r. frame (li n.first) r third fourth fifth) b.reads
    ∙ ap (λ r. frame (li n.first) (round n.up) r fourth fifth) c.reads
    ∙ ap (λ r. frame (li n.first) (round n.up) (addi n.up_by) r fifth) d.reads
    ∙ ap (λ r. frame (li n.first) (round n.up) (addi n.up_by) (li n.down) r) e.reads

number_of-decimal : (n : ℕ) → n < 2 ^ 64 → number_of (decimal n) ≡ Some n
number_of-decimal n small = number_of-back (decimal n) n (small, refl)

-- the program of some lines
abbrev program_on : List (List ℕ) → ProgramText
program_on ls = let settings = settings_of ls in record { shape = settings.sizes; init = settings.init; code = code_of settings.sizes (place_of ls) ls }

-- The program.
pub program-template : (n : Numbers) → AreWords n → program_with n ≡ program_for n.first n.up n.up_by n.down n.down_by
unfolding program_with text_with
program-template n are =
    ap program_on (lines_of-text (template n) (no_feeds n are))
    ∙ program-read (template n)
    ∙ ap program_by (readings-template n are)
    ∙ program-numbers (decimal n.first) (decimal n.up) (decimal n.up_by) (decimal n.down) (decimal n.down_by) n.first n.up n.up_by n.down n.down_by
    (number_of-decimal n.first are.first) (number_of-decimal n.up are.up) (number_of-decimal n.up_by are.up_by) (number_of-decimal n.down are.down) (number_of-decimal n.down_by are.down_by)

-- the lines fit
each_fits : (n : Numbers) → AreWords n → list_all (λ line. is_plain line && is_short line) (template n) ≡ true
each_fits n are =
    let fits = λ (line : List ℕ) (f : Fits line). and_from (is_plain line) (is_short line) f.plain f.short in
    and_from _ _ (fits _ ((li-Says n.first are.first).fits))
    (and_from _ _ (fits _ ((round-Says n.up are.up).fits))
    (and_from _ _ (fits _ ((addi-Says n.up_by are.up_by).fits))
    (and_from _ _ (fits _ ((li-Says n.down are.down).fits))
    (and_from _ _ (fits _ ((addi-Says n.down_by are.down_by).fits)) refl))))

-- what stands first in an order of faults is none where the first fault is none
none_first : (a b : Option AsmKind) → option_or a b ≡ None → (a ≡ None) × (b ≡ None)
none_first None b none = (refl, none)
none_first (Some kind) b none = absurd (cc none)

-- Lines that fit and of whose readings none has a fault are fine.
Fine-readings : (text earlier ls : List (List ℕ)) → list_all (λ line. is_plain line && is_short line) ls ≡ true → faults_by (readings text) (readings earlier) (readings ls) ≡ None → Fine text earlier ls
Fine-readings text earlier [] fit none = tt
Fine-readings text earlier (line ∷ ls) fit none =
    let here = and_parts _ _ (and_parts _ _ fit).0 in
    let parts = none_first (fault_by (readings text) (readings earlier) (read line)) (faults_by (readings text) (readings earlier ++ (read line ∷ [])) (readings ls)) none in (
      fault-read text earlier line (record { plain = here.0; short = here.1 }) ∙ parts.0,
      Fine-readings text (earlier ++ (line ∷ [])) ls (and_parts _ _ fit).1 (subst (λ es. faults_by (readings text) es (readings ls) ≡ None) (sym (map-append read earlier (line ∷ []))) parts.1),
    )

-- The text has no fault.
pub accepted : (n : Numbers) → AreWords n → first_fault_of (text_with n) ≡ None
unfolding text_with
accepted n are =
    let ls = template n in
    let none : faults_by (readings ls) [] (readings ls) ≡ None =
    ap (λ rs. faults_by rs [] rs) (readings-template n are)
    ∙ no_faults-numbers (decimal n.first) (decimal n.up) (decimal n.up_by) (decimal n.down) (decimal n.down_by) n.first n.up n.up_by n.down n.down_by
    (number_of-decimal n.first are.first) (number_of-decimal n.up are.up) (number_of-decimal n.up_by are.up_by) (number_of-decimal n.down are.down) (number_of-decimal n.down_by are.down_by) in
    ap (λ lines. option_or (first_fault_behind [] lines) (if list_any has_instruction lines then None else Some (1, NoCode))) (lines_of-text ls (no_feeds n are))
    ∙ ap (λ fault. option_or fault (if list_any has_instruction ls then None else Some (1, NoCode))) (first_fault_behind-fine [] ls (Fine-readings ls [] ls (each_fits n are) none))

-- Its shape, its initial words, and its code in four parts.
pub shape-template : (n : Numbers) → AreWords n → (program_with n).shape ≡ record { pages = 256; words = 9; locks = 1; barriers = 1; flags = 0 }
shape-template n are = ap (λ (p : ProgramText). p.shape) (program-template n are)

pub init-template : (n : Numbers) → AreWords n → (program_with n).init ≡ []
init-template n are = ap (λ (p : ProgramText). p.init) (program-template n are)

pub parts-template : (n : Numbers) → AreWords n → let code = (program_with n).code in
    slice_range code 0 14 ++ slice_range code 14 27 ++ slice_range code 27 42 ++ slice_range code 42 59 ≡ code
parts-template n are =
    subst (λ (p : ProgramText). slice_range p.code 0 14 ++ slice_range p.code 14 27 ++ slice_range p.code 27 42 ++ slice_range p.code 42 59 ≡ p.code)
    (sym (program-template n are)) refl

-- What holds of the program of each text without a fault holds of it.
pub each-template : (n : Numbers) → AreWords n → (P : ProgramText → Type 0) → OfEachProgram P → P (program_with n)
unfolding program_with
each-template n are P each = each (text_with n) (accepted n are)
