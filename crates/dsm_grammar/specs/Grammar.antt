-- The program that a text stands for: what its lines say, each that says something. What is wrong with a line is told
-- in `Faults`.
use Rattle.std.specs.Prelude.{ℕ, ◌+◌, Bool, false, if◌then◌else◌, List, [], ◌∷◌, slice_index, Option, None, Some}
use Rattle.std.specs.List.{fold, filter_map}
use Rattle.std.specs.Option.{unwrap_or, is_some, option_map, option_map_or}
use Rattle.std.specs.Str.{bytes_eq}
use Rattle.dsm_isa.specs.declared.instr.Instr.{Instr}
use Rattle.dsm_isa.specs.ProgramText.{Sizes, ProgramText}
use Rattle.dsm_lex.specs.Lexical.{lines_of}
use Rattle.dsm_grammar.specs.Lines.{label_of, statement_of}
use Rattle.dsm_grammar.specs.Operands.{Place, value_of}
use Rattle.dsm_grammar.specs.Settings.{Settings, default_settings}
use Rattle.dsm_grammar.specs.Statements.{Statement, named, directives, instructions}

-- what the operands stand for, and 0 for one that stands for nothing
abbrev pub values_of : (List ℕ → Option ℕ) → List Place → List (List ℕ) → List ℕ
values_of labels (place ∷ places) (word ∷ words) = unwrap_or (value_of labels place word) 0 ∷ values_of labels places words
values_of labels _ _ = []

-- what a statement means with these operands
abbrev pub meaning_of : {Meaning : Type 0} → (List ℕ → Option ℕ) → Statement Meaning → List (List ℕ) → Meaning
meaning_of labels s words = s.meaning (slice_index (values_of labels s.places words))

-- the settings as a directive changes them; all else leaves them
abbrev pub set_by : Settings → List (List ℕ) → Settings
set_by settings [] = settings
set_by settings (name ∷ words) =
    option_map_or (λ directive. meaning_of (λ label. None) directive words) (named name (directives settings)) settings

-- the settings behind these lines
abbrev pub settings_of : List (List ℕ) → Settings
settings_of lines = fold (λ settings line. set_by settings (statement_of line)) default_settings lines

-- the instruction of a line, where there is one
abbrev pub instruction_in : Sizes → (List ℕ → Option ℕ) → List (List ℕ) → Option Instr
instruction_in sizes labels [] = None
instruction_in sizes labels (name ∷ words) =
    option_map (λ instruction. meaning_of labels instruction words) (named name (instructions sizes))

-- the instructions of these lines in order
abbrev pub code_of : Sizes → (List ℕ → Option ℕ) → List (List ℕ) → List Instr
code_of sizes labels lines = filter_map (λ line. instruction_in sizes labels (statement_of line)) lines

-- the line has an instruction
abbrev pub has_instruction : List ℕ → Bool
has_instruction line = is_some (instruction_in default_settings.sizes (λ label. None) (statement_of line))

-- the line defines this label
abbrev pub defines : List ℕ → List ℕ → Bool
defines label line = option_map_or (λ other. bytes_eq other label) (label_of line) false

-- the place of a label: how many instructions stand before the line that defines it, the first if several do
abbrev pub place_of : List (List ℕ) → List ℕ → Option ℕ
place_of [] label = None
place_of (line ∷ lines) label =
    if defines label line then Some 0
    else option_map (λ place. if has_instruction line then place + 1 else place) (place_of lines label)

-- the program of the text, where nothing is wrong with it
abbrev pub program_of : List ℕ → ProgramText
program_of text =
    let lines = lines_of text in
    let settings = settings_of lines in
    record { shape = settings.sizes; init = settings.init; code = code_of settings.sizes (place_of lines) lines }
