-- What the lines so far have left, and what the next one does to it.
use Rattle.std.specs.Prelude.{ℕ, ◌==◌, ◌&&◌, ◌||◌, not, nat_lt, nat_le, Bool, false, if◌then◌else◌, List, [], ◌∷◌, ◌++◌, length, Option, None, Some}
use Rattle.std.specs.List.{list_any, cons_option}
use Rattle.std.specs.Option.{is_some, option_map_or, option_or}
use Rattle.dsm_isa.specs.declared.instr.Instr.{Instr}
use Rattle.dsm_grammar.specs.declared.fault.AsmKind.{AsmKind}
use Rattle.dsm_grammar.specs.declared.fault.AsmKind.TheVariants.{NotAscii, LongLine, DoubleLabel, UnknownWord, DirectiveLate, BadOperand, Limit}
use Rattle.dsm_grammar.specs.declared.fault.Bound.TheVariants.{Code}
use Rattle.dsm_grammar.specs.Settings.{Settings, default_settings}
use Rattle.dsm_grammar.specs.Lines.{is_plain, is_short, label_of, statement_of}
use Rattle.dsm_grammar.specs.Grammar.{set_by, settings_of, instruction_in, code_of}
use Rattle.dsm_grammar.specs.Faults.{is_directive, is_instruction, is_of_size, is_init, begins_code, places_of, operands_fault}
use Rattle.dsm_asm.specs.declared.forms.Form.{Form}
use Rattle.dsm_asm.specs.declared.labels.Label.{Label}
use Rattle.dsm_asm.specs.declared.settings.Directive.{Directive}
use Rattle.dsm_asm.specs.Directives.{directive_in, of_size}
use Rattle.dsm_asm.specs.Forms.{statement_in}
use Rattle.dsm_asm.specs.Words.{words_fault}

-- the settings, whether a word was set, whether the code has begun, and the code
pub record Past : Type 0 where
  pub settings : Settings
  pub initial : Bool
  pub begun : Bool
  pub code : List Instr

-- what these lines have left, where labels stand for these places
abbrev pub past_of : (List ℕ → Option ℕ) → List (List ℕ) → Past
past_of labels lines = record {
  settings = settings_of lines;
  initial = list_any (λ line. is_init (statement_of line)) lines;
  begun = list_any begins_code lines;
  code = code_of default_settings.sizes labels lines;
}

-- the instruction of a statement
abbrev pub instruction_of : (List ℕ → Option ℕ) → List (List ℕ) → Option Instr
instruction_of labels words = instruction_in default_settings.sizes labels words

-- what a line leaves that has this label and this statement
abbrev pub behind_statement : (List ℕ → Option ℕ) → Bool → List (List ℕ) → Past → Past
behind_statement labels labelled words past = record {
  settings = set_by past.settings words;
  initial = past.initial || is_init words;
  begun = past.begun || (labelled || is_some (instruction_of (λ label. None) words));
  code = past.code ++ cons_option (instruction_of labels words) [];
}

-- a directive of this name may not stand here, on a line with a label or without one
abbrev pub is_late_behind : Past → Bool → List ℕ → Bool
is_late_behind past labelled name = past.begun || labelled || is_of_size name && past.initial

-- what is wrong with a statement
abbrev pub statement_fault_behind : Past → (List ℕ → Option ℕ) → Bool → List (List ℕ) → Option AsmKind
statement_fault_behind past labels labelled [] = None
statement_fault_behind past labels labelled (name ∷ words) =
    let places = places_of past.settings name in
    if not (is_directive name || is_instruction name) then Some UnknownWord
    else if is_directive name && is_late_behind past labelled name then Some DirectiveLate
    else if not (length places == length words) then Some BadOperand
    else option_or (operands_fault labels places words)
    (if is_instruction name && nat_le 4096 (length past.code) then Some (Limit Code) else None)

-- what is wrong with a line, where `double` says that an earlier one defines its label
abbrev pub fault_behind : Past → (List ℕ → Option ℕ) → Bool → List ℕ → Option AsmKind
fault_behind past labels double line =
    if not (is_plain line) then Some NotAscii
    else if not (is_short line) then Some LongLine
    else if double then Some DoubleLabel
    else statement_fault_behind past labels (is_some (label_of line)) (statement_of line)

-- what is wrong with a directive and its operands
abbrev pub directive_fault : Past → (List ℕ → Option ℕ) → Bool → Directive → List (List ℕ) → Option AsmKind
directive_fault past labels labelled d words =
    if past.begun || labelled || of_size d && past.initial then Some DirectiveLate
    else words_fault labels (directive_in past.settings d).places words

-- what is wrong with the operands of an instruction, or with there being so many
abbrev pub instruction_fault : Past → (List ℕ → Option ℕ) → Form → List (List ℕ) → Option AsmKind
instruction_fault past labels form words =
    option_or (words_fault labels (statement_in past.settings.sizes form).places words)
    (if nat_le 4096 (length past.code) then Some (Limit Code) else None)

-- an earlier line than this one, which has so many before it, defines the same label
abbrev pub is_double : (List ℕ → Option Label) → ℕ → List ℕ → Bool
is_double held number line =
    option_map_or (λ name. option_map_or (λ label. nat_lt label.line number) (held name) false) (label_of line) false
