-- The canonical text of a program, and the line of its sizes.
use Rattle.std.specs.Prelude.{ℕ, ◌+◌, ◌==◌, Bool, false, if◌then◌else◌, List, [], ◌∷◌, ◌++◌, length, map, flat_map, codes, decimal}
use Rattle.std.specs.List.{list_any}
use Rattle.std.specs.Option.{option_map_or}
use Rattle.dsm_isa.specs.declared.instr.Instr.{Instr}
use Rattle.dsm_isa.specs.Jumps.{target_of}
use Rattle.dsm_isa.specs.ProgramText.{Sizes, ProgramText}
use Rattle.dsm_list.specs.Lines.{line}
use Rattle.dsm_list.specs.Spelling.{label, spelling}

-- the directives of the sizes
abbrev pub size_lines : Sizes → List (List (List ℕ))
size_lines sizes =
    (codes ".pages" ∷ decimal sizes.pages ∷ [])
    ∷ (codes ".words" ∷ decimal sizes.words ∷ [])
    ∷ (codes ".locks" ∷ decimal sizes.locks ∷ [])
    ∷ (codes ".barriers" ∷ decimal sizes.barriers ∷ [])
    ∷ (codes ".flags" ∷ decimal sizes.flags ∷ [])
    ∷ []

-- the directive of a word that does not start as 0
abbrev pub init_line : ℕ × ℕ → List (List ℕ)
init_line word = codes ".init" ∷ decimal word.0 ∷ decimal word.1 ∷ []

-- the instruction jumps to this place
abbrev pub jumps_to : ℕ → Instr → Bool
jumps_to place instr = option_map_or (λ to. to == place) (target_of instr) false

-- some instruction of the code jumps there
abbrev pub is_target : List Instr → ℕ → Bool
is_target code place = list_any (jumps_to place) code

-- the line of the label of a place
abbrev pub label_line : ℕ → List (List ℕ)
label_line place = (label place ++ (58 ∷ [])) ∷ []

-- the same where some instruction of the code jumps there
abbrev pub label_lines : List Instr → ℕ → List (List (List ℕ))
label_lines code place = if is_target code place then label_line place ∷ [] else []

-- the lines of the instructions that stand from this place on, the last of the code: before each the label of its
-- place, and behind the last the label of the length
abbrev pub code_lines : List Instr → ℕ → List Instr → List (List (List ℕ))
code_lines code place [] = label_lines code place
code_lines code place (instr ∷ instrs) = label_lines code place ++ (spelling instr ∷ code_lines code (place + 1) instrs)

-- all lines of a program, by their words
abbrev pub program_lines : ProgramText → List (List (List ℕ))
program_lines p = size_lines p.shape ++ map init_line p.init ++ code_lines p.code 0 p.code

-- the canonical text
unfoldable pub canonical : ProgramText → List ℕ
canonical p = flat_map line (program_lines p)

-- the line of its sizes and of how many instructions there are
unfoldable pub shape_line : ProgramText → List ℕ
shape_line p =
    line (codes "program"
    ∷ codes "pages" ∷ decimal p.shape.pages
    ∷ codes "words" ∷ decimal p.shape.words
    ∷ codes "locks" ∷ decimal p.shape.locks
    ∷ codes "barriers" ∷ decimal p.shape.barriers
    ∷ codes "flags" ∷ decimal p.shape.flags
    ∷ codes "code" ∷ decimal (length p.code)
    ∷ [])
