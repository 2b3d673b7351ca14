-- What is wrong with a text: the first line at fault, and the first in order of what is wrong with it.
use Rattle.std.specs.Prelude.{ℕ, ◌+◌, ◌==◌, ◌&&◌, ◌||◌, not, nat_le, Bool, false, if◌then◌else◌, List, [], ◌∷◌, ◌++◌, length, codes, Option, None, Some}
use Rattle.std.specs.List.{filter, list_any}
use Rattle.std.specs.Option.{is_some, option_map, option_map_or, option_or}
use Rattle.std.specs.Str.{bytes_eq}
use Rattle.dsm_lex.specs.Lexical.{lines_of}
use Rattle.dsm_grammar.specs.declared.fault.AsmKind.{AsmKind}
use Rattle.dsm_grammar.specs.declared.fault.AsmKind.TheVariants.{NotAscii, LongLine, DoubleLabel, UnknownWord, DirectiveLate, BadOperand, Limit, NoCode}
use Rattle.dsm_grammar.specs.declared.fault.Bound.TheVariants.{Code}
use Rattle.dsm_grammar.specs.Lines.{is_plain, is_short, label_of, statement_of}
use Rattle.dsm_grammar.specs.Operands.{Place, value_of, value_fault}
use Rattle.dsm_grammar.specs.Settings.{Settings, default_settings}
use Rattle.dsm_grammar.specs.Statements.{named, directives, instructions}
use Rattle.dsm_grammar.specs.Grammar.{settings_of, has_instruction, defines, place_of}

-- the name is that of a directive
abbrev pub is_directive : List ℕ → Bool
is_directive name = is_some (named name (directives default_settings))

-- the name is that of an instruction
abbrev pub is_instruction : List ℕ → Bool
is_instruction name = is_some (named name (instructions default_settings.sizes))

-- a directive of the size of the memory
abbrev pub is_of_size : List ℕ → Bool
is_of_size name = bytes_eq name (codes ".pages") || bytes_eq name (codes ".words")

-- the line's first word is .init
abbrev pub is_init : List (List ℕ) → Bool
is_init [] = false
is_init (name ∷ words) = bytes_eq name (codes ".init")

-- behind such lines no directive may stand
abbrev pub begins_code : List ℕ → Bool
begins_code line = is_some (label_of line) || has_instruction line

-- a directive of this name may not stand on this line, behind these
abbrev pub is_late : List (List ℕ) → List ℕ → List ℕ → Bool
is_late earlier line name =
    list_any begins_code earlier || is_some (label_of line)
    || is_of_size name && list_any (λ other. is_init (statement_of other)) earlier

-- what the operands of a directive or an instruction have to be, behind these settings
abbrev pub places_of : Settings → List ℕ → List Place
places_of settings name =
    option_map_or (λ directive. directive.places) (named name (directives settings))
    (option_map_or (λ instruction. instruction.places) (named name (instructions settings.sizes)) [])

-- what is wrong with the operands, of which there are as many as there have to be: the leftmost fault
abbrev pub operands_fault : (List ℕ → Option ℕ) → List Place → List (List ℕ) → Option AsmKind
operands_fault labels (place ∷ places) (word ∷ words) =
    option_or (value_fault place (value_of labels place word)) (operands_fault labels places words)
operands_fault labels _ _ = None

-- what is wrong with the directive or the instruction of a line, in this order; `lines` are all of the text, and
-- `earlier` are those before it
abbrev pub statement_fault : List (List ℕ) → List (List ℕ) → List ℕ → List (List ℕ) → Option AsmKind
statement_fault lines earlier line [] = None
statement_fault lines earlier line (name ∷ words) =
    let places = places_of (settings_of earlier) name in
    if not (is_directive name || is_instruction name) then Some UnknownWord
    else if is_directive name && is_late earlier line name then Some DirectiveLate
    else if not (length places == length words) then Some BadOperand
    else option_or (operands_fault (place_of lines) places words)
    (if is_instruction name && nat_le 4096 (length (filter has_instruction earlier)) then Some (Limit Code) else None)

-- what is wrong with a line, in this order
abbrev pub line_fault : List (List ℕ) → List (List ℕ) → List ℕ → Option AsmKind
line_fault lines earlier line =
    if not (is_plain line) then Some NotAscii
    else if not (is_short line) then Some LongLine
    else if option_map_or (λ label. list_any (defines label) earlier) (label_of line) false then Some DoubleLabel
    else statement_fault lines earlier line (statement_of line)

-- the first line at fault of those behind `earlier`, by its number from 1, and what is wrong with it
abbrev pub first_fault_behind : List (List ℕ) → List (List ℕ) → Option (ℕ × AsmKind)
first_fault_behind earlier [] = None
first_fault_behind earlier (line ∷ lines) =
    option_or
    (option_map (λ kind. (length earlier + 1, kind)) (line_fault (earlier ++ line ∷ lines) earlier line))
    (first_fault_behind (earlier ++ line ∷ []) lines)

-- the first fault of the text; that it has no instruction is one of line 1, where nothing else is wrong
abbrev pub first_fault_of : List ℕ → Option (ℕ × AsmKind)
first_fault_of text =
    let lines = lines_of text in
    option_or (first_fault_behind [] lines) (if list_any has_instruction lines then None else Some (1, NoCode))
