-- The canonical text of a program is in the grammar, and stands for that program.
use Rattle.std.proofs.Common.{◌≡◌, ℕ, ◌+◌, ◌*◌, ◌<◌, ◌≤◌, ◌^◌, ◌==◌, if◌then◌else◌, true, false, List, [], ◌∷◌, ◌++◌, length, map, All, Option, None, Some, IfSome, get_or, refl, ap, ◌∙◌, subst, arith, mul-le-mul}
use Rattle.std.specs.List.{list_any, list_all}
use Rattle.std.specs.Option.{is_some, option_map_or, option_or}
use Rattle.std.proofs.lemmas.Bool.{or_parts, or_from, or_right, and_from, eq-eqb}
use Rattle.std.proofs.lemmas.List.{map-append, get_or_default}
use Rattle.std.proofs.lemmas.List.Elements.{filter_map-append}
use Rattle.std.proofs.lemmas.List.Folds.{list_any-append, list_all-append, list_any_at}
use Rattle.std.proofs.lemmas.List.Sums.{fold-append}
use Rattle.std.specs.Str.{bytes_eq}
use Rattle.dsm_isa.specs.declared.instr.Instr.{Instr}
use Rattle.dsm_isa.specs.Jumps.{target_of}
use Rattle.dsm_isa.specs.ProgramText.{ProgramText}
use Rattle.dsm_isa.proofs.Jumping.{target_at_read}
use Rattle.dsm_lex.specs.Lexical.{lines_of}
use Rattle.dsm_grammar.specs.declared.fault.AsmKind.TheVariants.{NoCode}
use Rattle.dsm_grammar.specs.Faults.{begins_code, first_fault_behind, first_fault_of}
use Rattle.dsm_grammar.specs.Grammar.{instruction_in, set_by, settings_of, code_of, has_instruction, place_of, program_of}
use Rattle.dsm_grammar.specs.Lines.{label_of, statement_of}
use Rattle.dsm_grammar.specs.Settings.{Settings, default_settings}
use Rattle.dsm_list.specs.Canonical.{size_lines, init_line, jumps_to, code_lines, program_lines, canonical}
use Rattle.dsm_list.specs.Lines.{joined}
use Rattle.dsm_isa.specs.Rules.{IsProgram}
use Rattle.dsm_list.specs.Spelling.{label}
use Rattle.dsm_list.proofs.CodeFaults.{defines-none, Before-front, Fine-code, are_words-code, some_code}
use Rattle.dsm_list.proofs.CodeLines.{lines_from, set_on-code, Knows, code_of-code, place_of-other, option_map-same, place_of-code}
use Rattle.dsm_list.proofs.Directives.{FitsWord, set_on, set_on-init, Ascend-initial}
use Rattle.dsm_list.proofs.Fine.{Fine, Fine-append, first_fault_behind-fine}
use Rattle.dsm_list.proofs.Front.{set_on-sizes, Fine-sizes, Fine-init, no_code-sizes, no_code-init, are_words-sizes, are_words-init, code_of-sizes, code_of-init}
use Rattle.dsm_list.proofs.Words.{is_word, lines_of-lines}

-- the lines of the sizes, of the initial words, and of both; and all lines
abbrev sizes_of : ProgramText → List (List ℕ)
sizes_of p = map joined (size_lines p.shape)

abbrev init_of : ProgramText → List (List ℕ)
init_of p = map joined (map init_line p.init)

abbrev front_of : ProgramText → List (List ℕ)
front_of p = sizes_of p ++ init_of p

abbrev text_of : ProgramText → List (List ℕ)
text_of p = front_of p ++ lines_from p.code 0 p.code

-- the memory is small
room : (p : ProgramText) → IsProgram p → p.shape.pages * p.shape.words < 2 ^ 64
room p is =
    let pages : p.shape.pages ≤ 256 = is.sizes.1 in
    let words : p.shape.words ≤ 256 = is.sizes.3 in
    let product = mul-le-mul pages words in
    omega (arith, product)

fits : (p : ProgramText) → IsProgram p → All (FitsWord p.shape) p.init
fits p is k d inside = ((is.initial.1 k d inside).0, is.values k d inside)

short : (p : ProgramText) → IsProgram p → 0 + length p.code < 2 ^ 64
short p is = let most = is.most in omega arith

-- Its lines are these.
lines_of-canonical : (p : ProgramText) → IsProgram p → lines_of (canonical p) ≡ text_of p
unfolding canonical
lines_of-canonical p is =
    let front = size_lines p.shape ++ map init_line p.init in
    let words : list_all (list_all is_word) (program_lines p) ≡ true =
    list_all-append (list_all is_word) front (code_lines p.code 0 p.code)
    ∙ and_from _ _
    (list_all-append (list_all is_word) (size_lines p.shape) (map init_line p.init) ∙ and_from _ _ (are_words-sizes p.shape is.sizes) (are_words-init p.shape p.init (room p is) (fits p is)))
    (are_words-code p.code 0 p.code (short p is) is.ranges) in
    lines_of-lines (program_lines p) words
    ∙ map-append joined front (code_lines p.code 0 p.code)
    ∙ ap (λ lines. lines ++ lines_from p.code 0 p.code) (map-append joined (size_lines p.shape) (map init_line p.init))

-- what they set
settings_of-front : (p : ProgramText) → IsProgram p → settings_of (front_of p) ≡ record { sizes = p.shape; init = p.init }
settings_of-front p is =
    let sized : Settings = record { sizes = p.shape; init = [] } in
    fold-append (λ s line. set_by s (statement_of line)) default_settings (sizes_of p) (init_of p)
    ∙ ap (λ s. set_on s (init_of p)) (set_on-sizes p.shape is.sizes)
    ∙ set_on-init sized 0 p.init (room p is) tt (Ascend-initial p.shape p.init is.initial) (fits p is)

settings_of-text : (p : ProgramText) → IsProgram p → settings_of (text_of p) ≡ record { sizes = p.shape; init = p.init }
settings_of-text p is =
    let all : Settings = record { sizes = p.shape; init = p.init } in
    fold-append (λ s line. set_by s (statement_of line)) default_settings (front_of p) (lines_from p.code 0 p.code)
    ∙ ap (λ s. set_on s (lines_from p.code 0 p.code)) (settings_of-front p is)
    ∙ set_on-code all p.code 0 p.code (short p is) is.ranges

-- no code in front
no_code-front : (p : ProgramText) → IsProgram p → list_any begins_code (front_of p) ≡ false
no_code-front p is =
    list_any-append begins_code (sizes_of p) (init_of p) ∙ or_from _ _ (no_code-sizes p.shape is.sizes) (no_code-init p.shape p.init (room p is) (fits p is))

-- labels are defined behind such lines
place_of-front : (front lines : List (List ℕ)) (name : List ℕ) → list_any begins_code front ≡ false → place_of (front ++ lines) name ≡ place_of lines name
place_of-front [] lines name none = refl
place_of-front (line ∷ front) lines name none =
    let parts = or_parts (begins_code line) (list_any begins_code front) none in
    let here = or_parts (is_some (label_of line)) (has_instruction line) parts.0 in
    place_of-other line name (front ++ lines) false (defines-none (label_of line) (λ other. bytes_eq other name) here.0) here.1
    ∙ option_map-same (place_of (front ++ lines) name)
    ∙ place_of-front front lines name parts.1

-- each label that an instruction names is known
IfSome-is : (o : Option ℕ) (P Q : ℕ → Type 0) → ((to : ℕ) → o ≡ Some to → P to → Q to) → IfSome o P → IfSome o Q
IfSome-is None P Q follows holds = tt
IfSome-is (Some to) P Q follows holds = follows to refl holds

knows : (p : ProgramText) → IsProgram p → All (Knows (place_of (text_of p))) p.code
knows p is k d inside =
    let instr = get_or p.code k d in
    let jumps : IfSome (target_of instr) (λ to. to ≤ length p.code) =
    subst (λ (o : Option ℕ). IfSome o (λ to. to ≤ length p.code)) (target_at_read p.code k instr inside (get_or_default p.code k d instr inside)) (is.jumps k) in
    IfSome-is (target_of instr) (λ to. to ≤ length p.code) (λ to. place_of (text_of p) (label to) ≡ Some to) (λ to there within.
    let jump : jumps_to to instr ≡ true = ap (λ o. option_map_or (λ t. t == to) o false) there ∙ eq-eqb to to refl in
    place_of-front (front_of p) (lines_from p.code 0 p.code) (label to) (no_code-front p is)
    ∙ place_of-code p.code 0 p.code to to (omega arith) within (short p is) (list_any_at (jumps_to to) p.code k d inside jump) is.ranges) jumps

-- the instructions
code_of-text : (p : ProgramText) → IsProgram p → code_of p.shape (place_of (text_of p)) (text_of p) ≡ p.code
code_of-text p is =
    let labels = place_of (text_of p) in
    let read : List ℕ → Option Instr = λ line. instruction_in p.shape labels (statement_of line) in
    filter_map-append read (front_of p) (lines_from p.code 0 p.code)
    ∙ ap (λ front. front ++ code_of p.shape labels (lines_from p.code 0 p.code))
    (filter_map-append read (sizes_of p) (init_of p) ∙ ap (λ sizes. sizes ++ code_of p.shape labels (init_of p)) (code_of-sizes p.shape labels p.shape is.sizes) ∙ code_of-init p.shape labels p.shape p.init (room p is) (fits p is))
    ∙ code_of-code p.shape labels p.code 0 p.code (short p is) is.ranges is.objects (knows p is)

-- nothing is wrong with any line
fine : (p : ProgramText) → IsProgram p → Fine (text_of p) [] (text_of p)
fine p is =
    let text = text_of p in
    let sizes_set : (settings_of (sizes_of p)).sizes ≡ p.shape = ap (λ (s : Settings). s.sizes) (set_on-sizes p.shape is.sizes) in
    let all_set : (settings_of (front_of p)).sizes ≡ p.shape = ap (λ (s : Settings). s.sizes) (settings_of-front p is) in
    Fine-append text [] (front_of p) (lines_from p.code 0 p.code)
    (Fine-append text [] (sizes_of p) (init_of p) (Fine-sizes text p.shape is.sizes) (Fine-init text (sizes_of p) p.shape p.init (no_code-sizes p.shape is.sizes) sizes_set (room p is) (fits p is)))
    (Fine-code text (front_of p) p.code p.shape 0 p.code (Before-front p.shape (front_of p) (no_code-front p is) all_set) (omega (arith, is.most)) is.ranges is.objects (knows p is))

-- The canonical text has no fault.
pub accepted : (p : ProgramText) → IsProgram p → first_fault_of (canonical p) ≡ None
accepted p is =
    let some : list_any has_instruction (text_of p) ≡ true =
    list_any-append has_instruction (front_of p) (lines_from p.code 0 p.code) ∙ or_right _ _ (some_code p.code 0 p.code is.some is.ranges) in
    ap (λ lines. option_or (first_fault_behind [] lines) (if list_any has_instruction lines then None else Some (1, NoCode))) (lines_of-canonical p is)
    ∙ ap (λ fault. option_or fault (if list_any has_instruction (text_of p) then None else Some (1, NoCode))) (first_fault_behind-fine [] (text_of p) (fine p is))
    ∙ ap (λ b. if b then None else Some (1, NoCode)) some

-- It stands for its program.
pub same : (p : ProgramText) → IsProgram p → program_of (canonical p) ≡ p
same p is =
    let settled : Settings → List (List ℕ) → ProgramText =
    λ settings lines. record { shape = settings.sizes; init = settings.init; code = code_of settings.sizes (place_of lines) lines } in
    ap (λ lines. settled (settings_of lines) lines) (lines_of-canonical p is)
    ∙ ap (λ settings. settled settings (text_of p)) (settings_of-text p is)
    ∙ ap (λ code. record p { code = code }) (code_of-text p is)
