-- The lines of the code of a canonical text.
use Rattle.std.proofs.Common.{inl, inr, ◌≡◌, ℕ, zero, suc, ◌+◌, ◌<◌, ◌≤◌, ◌^◌, if◌then◌else◌, Bool, true, false, List, [], ◌∷◌, ◌++◌, length, map, All, Option, None, Some, IfSome, refl, sym, ap, ◌∙◌, subst, arith, append-nil}
use Rattle.std.specs.List.{filter_map, cons_option}
use Rattle.std.specs.Option.{option_map, option_map_or}
use Rattle.std.proofs.lemmas.Bool.{cases_Bool}
use Rattle.std.proofs.lemmas.List.{map-append}
use Rattle.std.proofs.lemmas.List.Elements.{All-tail, filter_map-append}
use Rattle.std.proofs.lemmas.List.Sums.{fold-append}
use Rattle.std.specs.Str.{bytes_eq}
use Rattle.dsm_isa.specs.declared.instr.Instr.{Instr}
use Rattle.dsm_isa.specs.Jumps.{target_of}
use Rattle.dsm_isa.specs.ProgramText.{Sizes}
use Rattle.dsm_isa.specs.Rules.{ObjectInside}
use Rattle.dsm_grammar.specs.Grammar.{instruction_in, set_by, code_of, has_instruction, defines, place_of}
use Rattle.dsm_grammar.specs.Lines.{statement_of}
use Rattle.dsm_grammar.specs.Settings.{Settings}
use Rattle.dsm_list.specs.Canonical.{label_line, is_target, label_lines, code_lines}
use Rattle.dsm_list.specs.Lines.{joined}
use Rattle.dsm_isa.specs.Operands.{IsInRange}
use Rattle.dsm_list.specs.Spelling.{label, spelling}
use Rattle.dsm_list.proofs.Directives.{set_on}
use Rattle.dsm_list.proofs.Operands.{bytes_eq-same, bytes_eq-labels}
use Rattle.dsm_list.proofs.Reading.{Reads, Reads-instr, Reads-label, has_instruction-instr, has_instruction-label}
use Rattle.dsm_list.proofs.Rows.{instruction_in-spelling, set_by-spelling}

-- the lines of a place's label, if any, and of an instruction
abbrev pub label_at : List Instr → ℕ → List (List ℕ)
label_at code place = map joined (label_lines code place)

abbrev pub lines_from : List Instr → ℕ → List Instr → List (List ℕ)
lines_from code place instrs = map joined (code_lines code place instrs)

pub lines_from-cons : (code : List Instr) (place : ℕ) (instr : Instr) (instrs : List Instr) → lines_from code place (instr ∷ instrs) ≡ label_at code place ++ (joined (spelling instr) ∷ lines_from code (place + 1) instrs)
lines_from-cons code place instr instrs = map-append joined (label_lines code place) (spelling instr ∷ code_lines code (place + 1) instrs)

-- a place has a label's line, and one that nothing jumps to has none
label_at-target : (code : List Instr) (place : ℕ) → is_target code place ≡ true → label_at code place ≡ joined (label_line place) ∷ []
label_at-target code place is = ap (λ b. map joined (if b then label_line place ∷ [] else [])) is

label_at-none : (code : List Instr) (place : ℕ) → is_target code place ≡ false → label_at code place ≡ []
label_at-none code place is = ap (λ b. map joined (if b then label_line place ∷ [] else [])) is

-- what holds for no line and for the label's line holds for the lines of a place's label
pub label_at-cases : (code : List Instr) (place : ℕ) (P : List (List ℕ) → Type 0) → P [] → P (joined (label_line place) ∷ []) → P (label_at code place)
label_at-cases code place P none one = elim (cases_Bool (is_target code place)) [
  | inl there ↦ subst P (sym (label_at-target code place there)) one
  | inr none_there ↦ subst P (sym (label_at-none code place none_there)) none
]

-- the code sets nothing
pub set_on-code : (settings : Settings) (code : List Instr) (place : ℕ) (instrs : List Instr) → place + length instrs < 2 ^ 64 → All IsInRange instrs → set_on settings (lines_from code place instrs) ≡ settings
set_on-code settings code place [] small range =
    label_at-cases code place (λ lines. set_on settings lines ≡ settings) refl (ap (set_by settings) ((Reads-label place (omega arith)).words))
set_on-code settings code place (instr ∷ instrs) small range =
    let first : set_on settings (label_at code place) ≡ settings = label_at-cases code place (λ lines. set_on settings lines ≡ settings) refl (ap (set_by settings) ((Reads-label place (omega arith)).words)) in
    let next : set_by settings (statement_of (joined (spelling instr))) ≡ settings = ap (set_by settings) ((Reads-instr instr (range 0 instr (omega arith))).words) ∙ set_by-spelling settings instr in
    ap (set_on settings) (lines_from-cons code place instr instrs)
    ∙ fold-append (λ s line. set_by s (statement_of line)) settings (label_at code place) (joined (spelling instr) ∷ lines_from code (place + 1) instrs)
    ∙ ap (λ s. set_on s (joined (spelling instr) ∷ lines_from code (place + 1) instrs)) first
    ∙ ap (λ s. set_on s (lines_from code (place + 1) instrs)) next
    ∙ set_on-code settings code (place + 1) instrs (omega arith) (All-tail IsInRange instr instrs range)

-- the labels that an instruction names are known
abbrev pub Knows : (List ℕ → Option ℕ) → Instr → Type 0
Knows labels instr = IfSome (target_of instr) (λ to. labels (label to) ≡ Some to)

-- Its instructions are read.
pub code_of-code : (sizes : Sizes) (labels : List ℕ → Option ℕ) (code : List Instr) (place : ℕ) (instrs : List Instr) → place + length instrs < 2 ^ 64 → All IsInRange instrs → All (ObjectInside sizes) instrs → All (Knows labels) instrs → code_of sizes labels (lines_from code place instrs) ≡ instrs
code_of-code sizes labels code place [] small range inside known =
    label_at-cases code place (λ lines. code_of sizes labels lines ≡ []) refl
    (ap (λ words. filter_map (λ statement. instruction_in sizes labels statement) (words ∷ [])) ((Reads-label place (omega arith)).words))
code_of-code sizes labels code place (instr ∷ instrs) small range inside known =
    let read : List ℕ → Option Instr = λ line. instruction_in sizes labels (statement_of line) in
    let first : code_of sizes labels (label_at code place) ≡ [] = label_at-cases code place (λ lines. code_of sizes labels lines ≡ []) refl
    (ap (λ words. filter_map (λ statement. instruction_in sizes labels statement) (words ∷ [])) ((Reads-label place (omega arith)).words)) in
    let here : read (joined (spelling instr)) ≡ Some instr =
    ap (instruction_in sizes labels) ((Reads-instr instr (range 0 instr (omega arith))).words)
    ∙ instruction_in-spelling sizes labels instr (range 0 instr (omega arith)) (inside 0 instr (omega arith)) (known 0 instr (omega arith)) in
    ap (code_of sizes labels) (lines_from-cons code place instr instrs)
    ∙ filter_map-append read (label_at code place) (joined (spelling instr) ∷ lines_from code (place + 1) instrs)
    ∙ ap (λ front. front ++ code_of sizes labels (joined (spelling instr) ∷ lines_from code (place + 1) instrs)) first
    ∙ ap (λ o. cons_option o (code_of sizes labels (lines_from code (place + 1) instrs))) here
    ∙ ap (λ rest. instr ∷ rest) (code_of-code sizes labels code (place + 1) instrs (omega arith) (All-tail IsInRange instr instrs range) (All-tail (ObjectInside sizes) instr instrs inside) (All-tail (Knows labels) instr instrs known))

-- which label a line defines
pub defines-reads : (line : List ℕ) (defined : Option (List ℕ)) (statement : List (List ℕ)) (name : List ℕ) → Reads line defined statement → defines name line ≡ option_map_or (λ other. bytes_eq other name) defined false
defines-reads line defined statement name read = ap (λ o. option_map_or (λ other. bytes_eq other name) o false) read.label

-- a line that defines another label, or none
pub place_of-other : (line name : List ℕ) (lines : List (List ℕ)) (instruction : Bool) → defines name line ≡ false → has_instruction line ≡ instruction → place_of (line ∷ lines) name ≡ option_map (λ place. if instruction then place + 1 else place) (place_of lines name)
place_of-other line name lines instruction other has =
    ap (λ b. if b then Some 0 else option_map (λ place. if has_instruction line then place + 1 else place) (place_of lines name)) other
    ∙ ap (λ b. option_map (λ place. if b then place + 1 else place) (place_of lines name)) has

pub option_map-same : (o : Option ℕ) → option_map (λ place. place) o ≡ o
option_map-same None = refl
option_map-same (Some place) = refl

place_of-pass : (code : List Instr) (place there : ℕ) (lines : List (List ℕ)) → place < there → there < 2 ^ 64 → place_of (label_at code place ++ lines) (label there) ≡ place_of lines (label there)
place_of-pass code place there lines below small =
    label_at-cases code place (λ front. place_of (front ++ lines) (label there) ≡ place_of lines (label there)) refl
    (place_of-other (joined (label_line place)) (label there) lines false
    (defines-reads (joined (label_line place)) (Some (label place)) [] (label there) (Reads-label place (omega arith)) ∙ bytes_eq-labels place there (omega arith) small below)
    (has_instruction-label place (omega arith))
    ∙ option_map-same (place_of lines (label there)))

place_of-here : (code : List Instr) (place : ℕ) (lines : List (List ℕ)) → is_target code place ≡ true → place < 2 ^ 64 → place_of (label_at code place ++ lines) (label place) ≡ Some 0
place_of-here code place lines is small =
    ap (λ front. place_of (front ++ lines) (label place)) (label_at-target code place is)
    ∙ ap (λ b. if b then Some 0 else option_map (λ at. if has_instruction (joined (label_line place)) then at + 1 else at) (place_of lines (label place)))
    (defines-reads (joined (label_line place)) (Some (label place)) [] (label place) (Reads-label place small) ∙ bytes_eq-same (label place))

-- The label of a place to which an instruction jumps stands for that place.
pub place_of-code : (code : List Instr) (place : ℕ) (instrs : List Instr) (k there : ℕ) → there ≡ place + k → k ≤ length instrs → place + length instrs < 2 ^ 64 → is_target code there ≡ true → All IsInRange instrs → place_of (lines_from code place instrs) (label there) ≡ Some k
place_of-code code place [] zero there is within small target range =
    let same : there ≡ place = omega arith in
    subst (λ t. place_of (label_at code place) (label t) ≡ Some 0) (sym same)
    (ap (λ lines. place_of lines (label place)) (sym (append-nil (label_at code place))) ∙ place_of-here code place [] (subst (λ t. is_target code t ≡ true) same target) (omega arith))
place_of-code code place [] (suc k) there is within small target range = absurd (omega arith)
place_of-code code place (instr ∷ instrs) zero there is within small target range =
    let same : there ≡ place = omega arith in
    subst (λ t. place_of (lines_from code place (instr ∷ instrs)) (label t) ≡ Some 0) (sym same)
    (ap (λ lines. place_of lines (label place)) (lines_from-cons code place instr instrs) ∙ place_of-here code place (joined (spelling instr) ∷ lines_from code (place + 1) instrs) (subst (λ t. is_target code t ≡ true) same target) (omega arith))
place_of-code code place (instr ∷ instrs) (suc k) there is within small target range =
    let read = Reads-instr instr (range 0 instr (omega arith)) in
    let others = place_of-code code (place + 1) instrs k there (omega arith) (omega arith) (omega arith) target (All-tail IsInRange instr instrs range) in
    ap (λ lines. place_of lines (label there)) (lines_from-cons code place instr instrs)
    ∙ place_of-pass code place there (joined (spelling instr) ∷ lines_from code (place + 1) instrs) (omega arith) (omega arith)
    ∙ place_of-other (joined (spelling instr)) (label there) (lines_from code (place + 1) instrs) true (defines-reads (joined (spelling instr)) None (spelling instr) (label there) read) (has_instruction-instr instr (range 0 instr (omega arith)))
    ∙ ap (option_map (λ at. at + 1)) others
    ∙ ap Some (omega arith)
