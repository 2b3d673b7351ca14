-- What a text stands for and what is wrong with it, by what is read of its lines.
use Rattle.std.proofs.Common.{◌≡◌, ℕ, suc, ◌+◌, ◌==◌, ◌&&◌, ◌||◌, nat_le, not, cond, if◌then◌else◌, Bool, true, false, List, [], ◌∷◌, length, map, Option, None, Some, refl, sym, ap, ◌∙◌}
use Rattle.std.specs.List.{fold, filter, filter_map, cons_option, list_any}
use Rattle.std.specs.Option.{is_some, option_map, option_map_or, option_or}
use Rattle.std.specs.Str.{bytes_eq}
use Rattle.std.proofs.lemmas.List.Folds.{fold-map}
use Rattle.dsm_isa.specs.declared.instr.Instr.{Instr}
use Rattle.dsm_isa.specs.ProgramText.{Sizes, ProgramText}
use Rattle.dsm_grammar.specs.declared.fault.AsmKind.{AsmKind}
use Rattle.dsm_grammar.specs.declared.fault.AsmKind.TheVariants.{NotAscii, LongLine, DoubleLabel, UnknownWord, DirectiveLate, BadOperand, Limit}
use Rattle.dsm_grammar.specs.declared.fault.Bound.TheVariants.{Code}
use Rattle.dsm_grammar.specs.Faults.{is_directive, is_instruction, is_of_size, is_init, is_late, places_of, operands_fault, statement_fault, line_fault}
use Rattle.dsm_grammar.specs.Grammar.{instruction_in, set_by, settings_of, code_of, has_instruction, defines, place_of}
use Rattle.dsm_grammar.specs.Lines.{is_plain, is_short, label_of, statement_of}
use Rattle.dsm_grammar.specs.Settings.{Settings, default_settings}

-- functions with the same values are the same
same_function : {A B : Type 0} (f g : A → B) → ((x : A) → f x ≡ g x) → f ≡ g
same_function f g same = λ i x. same x i

-- the label that a line defines, and its statement
abbrev pub Reading : Type 0
Reading = Option (List ℕ) × List (List ℕ)

abbrev pub read : List ℕ → Reading
read line = (label_of line, statement_of line)

abbrev pub readings : List (List ℕ) → List Reading
readings lines = map read lines

-- the definitions of the grammar, of readings in place of lines
abbrev pub has_code : Reading → Bool
has_code r = is_some (instruction_in default_settings.sizes (λ label. None) r.1)

abbrev pub begins : Reading → Bool
begins r = is_some r.0 || has_code r

abbrev pub names : List ℕ → Reading → Bool
names label r = option_map_or (λ other. bytes_eq other label) r.0 false

abbrev pub place_among : List Reading → List ℕ → Option ℕ
place_among [] label = None
place_among (r ∷ rs) label = if names label r then Some 0 else option_map (λ place. if has_code r then place + 1 else place) (place_among rs label)

abbrev pub settings_by : List Reading → Settings
settings_by rs = fold (λ settings r. set_by settings r.1) default_settings rs

abbrev pub code_by : Sizes → (List ℕ → Option ℕ) → List Reading → List Instr
code_by sizes labels rs = filter_map (λ r. instruction_in sizes labels r.1) rs

abbrev pub program_by : List Reading → ProgramText
program_by rs = let settings = settings_by rs in record { shape = settings.sizes; init = settings.init; code = code_by settings.sizes (place_among rs) rs }

abbrev pub comes_late : List Reading → Reading → List ℕ → Bool
comes_late earlier r name = list_any begins earlier || is_some r.0 || is_of_size name && list_any (λ other. is_init other.1) earlier

abbrev pub fault_in : List Reading → List Reading → Reading → List (List ℕ) → Option AsmKind
fault_in all earlier r [] = None
fault_in all earlier r (name ∷ words) =
    let places = places_of (settings_by earlier) name in
    if not (is_directive name || is_instruction name) then Some UnknownWord
    else if is_directive name && comes_late earlier r name then Some DirectiveLate
    else if not (length places == length words) then Some BadOperand
    else option_or (operands_fault (place_among all) places words)
    (if is_instruction name && nat_le 4096 (length (filter has_code earlier)) then Some (Limit Code) else None)

abbrev pub fault_by : List Reading → List Reading → Reading → Option AsmKind
fault_by all earlier r = if option_map_or (λ label. list_any (names label) earlier) r.0 false then Some DoubleLabel else fault_in all earlier r r.1

-- tests and values of readings are those of lines
list_any-read : (test : Reading → Bool) (lines : List (List ℕ)) → list_any (λ line. test (read line)) lines ≡ list_any test (readings lines)
list_any-read test [] = refl
list_any-read test (line ∷ lines) = ap (λ b. test (read line) || b) (list_any-read test lines)

filter-read : (test : Reading → Bool) (lines : List (List ℕ)) → length (filter (λ line. test (read line)) lines) ≡ length (filter test (readings lines))
filter-read test [] = refl
filter-read test (line ∷ lines) = go (test (read line)) (filter (λ l. test (read l)) lines) (filter test (readings lines)) (filter-read test lines)
  where
    go : (b : Bool) (some : List (List ℕ)) (read_of : List Reading) → length some ≡ length read_of → length (cond b (line ∷ some) some) ≡ length (cond b (read line ∷ read_of) read_of)
    go true some read_of same = ap suc same
    go false some read_of same = same

filter_map-read : (value : Reading → Option Instr) (lines : List (List ℕ)) → filter_map (λ line. value (read line)) lines ≡ filter_map value (readings lines)
filter_map-read value [] = refl
filter_map-read value (line ∷ lines) = ap (cons_option (value (read line))) (filter_map-read value lines)

place_of-read : (lines : List (List ℕ)) (label : List ℕ) → place_of lines label ≡ place_among (readings lines) label
place_of-read [] label = refl
place_of-read (line ∷ lines) label =
    ap (λ o. if defines label line then Some 0 else option_map (λ place. if has_instruction line then place + 1 else place) o) (place_of-read lines label)

settings_of-read : (lines : List (List ℕ)) → settings_of lines ≡ settings_by (readings lines)
settings_of-read lines = sym (fold-map (λ settings r. set_by settings r.1) read default_settings lines)

-- the program
pub program-read : (lines : List (List ℕ)) →
    let settings = settings_of lines in
    let program : ProgramText = record { shape = settings.sizes; init = settings.init; code = code_of settings.sizes (place_of lines) lines } in
    program ≡ program_by (readings lines)
program-read lines =
    let rs = readings lines in
    let with : Settings → List Instr → ProgramText = λ s code. record { shape = s.sizes; init = s.init; code = code } in
    ap (λ (s : Settings). with s (code_of s.sizes (place_of lines) lines)) (settings_of-read lines)
    ∙ ap (λ labels. with (settings_by rs) (code_of (settings_by rs).sizes labels lines)) (same_function (place_of lines) (place_among (readings lines)) (place_of-read lines))
    ∙ ap (with (settings_by rs)) (filter_map-read (λ r. instruction_in (settings_by rs).sizes (place_among rs) r.1) lines)

-- the faults
late-read : (earlier : List (List ℕ)) (line name : List ℕ) → is_late earlier line name ≡ comes_late (readings earlier) (read line) name
late-read earlier line name =
    ap (λ b. b || is_some (label_of line) || is_of_size name && list_any (λ other. is_init (statement_of other)) earlier) (list_any-read begins earlier)
    ∙ ap (λ b. list_any begins (readings earlier) || is_some (label_of line) || is_of_size name && b) (list_any-read (λ r. is_init r.1) earlier)

statement-read : (lines earlier : List (List ℕ)) (line : List ℕ) (words : List (List ℕ)) → statement_fault lines earlier line words ≡ fault_in (readings lines) (readings earlier) (read line) words
statement-read lines earlier line [] = refl
statement-read lines earlier line (name ∷ words) =
    let known = is_directive name || is_instruction name in
    let form : Settings → Bool → (List ℕ → Option ℕ) → ℕ → Option AsmKind = λ s late labels count.
    let places = places_of s name in
    if not known then Some UnknownWord
    else if is_directive name && late then Some DirectiveLate
    else if not (length places == length words) then Some BadOperand
    else option_or (operands_fault labels places words)
    (if is_instruction name && nat_le 4096 count then Some (Limit Code) else None) in
    let count = length (filter has_instruction earlier) in
    ap (λ s. form s (is_late earlier line name) (place_of lines) count) (settings_of-read earlier)
    ∙ ap (λ late. form (settings_by (readings earlier)) late (place_of lines) count) (late-read earlier line name)
    ∙ ap (λ labels. form (settings_by (readings earlier)) (comes_late (readings earlier) (read line) name) labels count) (same_function (place_of lines) (place_among (readings lines)) (place_of-read lines))
    ∙ ap (form (settings_by (readings earlier)) (comes_late (readings earlier) (read line) name) (place_among (readings lines))) (filter-read has_code earlier)

-- a plain and short line
pub record Fits (line : List ℕ) : Type 0 where
  pub plain : is_plain line ≡ true
  pub short : is_short line ≡ true

double-read : (earlier : List (List ℕ)) (label : Option (List ℕ)) → option_map_or (λ name. list_any (defines name) earlier) label false ≡ option_map_or (λ name. list_any (names name) (readings earlier)) label false
double-read earlier None = refl
double-read earlier (Some name) = list_any-read (names name) earlier

pub fault-read : (lines earlier : List (List ℕ)) (line : List ℕ) → Fits line → line_fault lines earlier line ≡ fault_by (readings lines) (readings earlier) (read line)
fault-read lines earlier line fits =
    let form : Bool → Bool → Bool → Option AsmKind → Option AsmKind = λ plain short double fault.
    if not plain then Some NotAscii else if not short then Some LongLine else if double then Some DoubleLabel else fault in
    let double = option_map_or (λ label. list_any (defines label) earlier) (label_of line) false in
    let double_by = option_map_or (λ label. list_any (names label) (readings earlier)) (label_of line) false in
    let fault = statement_fault lines earlier line (statement_of line) in
    ap (λ b. form b (is_short line) double fault) fits.plain
    ∙ ap (λ b. form true b double fault) fits.short
    ∙ ap (λ b. form true true b fault) (double-read earlier (label_of line))
    ∙ ap (form true true double_by) (statement-read lines earlier line (statement_of line))
