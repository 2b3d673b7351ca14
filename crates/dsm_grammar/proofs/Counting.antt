-- How many instructions lines have.
use Rattle.std.proofs.Common.{◌≡◌, ℕ, suc, ◌+◌, ◌<◌, ◌≤◌, Bool, true, false, cond, List, [], ◌∷◌, length, Option, None, Some, refl, sym, ap, ◌∙◌, arith}
use Rattle.std.specs.Prelude.{◌||◌}
use Rattle.std.specs.List.{filter, list_any, cons_option}
use Rattle.std.specs.Option.{is_some, unwrap_or, option_map}
use Rattle.dsm_isa.specs.ProgramText.{Sizes}
use Rattle.dsm_grammar.specs.Lines.{label_of, statement_of}
use Rattle.dsm_grammar.specs.Settings.{default_settings}
use Rattle.dsm_grammar.specs.Statements.{named, instructions}
use Rattle.dsm_grammar.specs.Grammar.{meaning_of, instruction_in, code_of, has_instruction, defines, place_of}
use Rattle.dsm_grammar.specs.Faults.{begins_code}
use Rattle.dsm_grammar.proofs.Tables.{instructions_alike}

-- the lines with an instruction
abbrev pub count : List (List ℕ) → ℕ
count lines = length (filter has_instruction lines)

pub is_some-option_map : {X Y : Type 0} (f : X → Y) (o : Option X) → is_some (option_map f o) ≡ is_some o
is_some-option_map f None = refl
is_some-option_map f (Some x) = refl

-- whether a line has an instruction does not depend on sizes and labels
instruction_alike : (sizes : Sizes) (labels : List ℕ → Option ℕ) (words : List (List ℕ)) → is_some (instruction_in sizes labels words) ≡ is_some (instruction_in default_settings.sizes (λ label. None) words)
instruction_alike sizes labels [] = refl
instruction_alike sizes labels (name ∷ words) =
    is_some-option_map (λ i. meaning_of labels i words) (named name (instructions sizes))
    ∙ instructions_alike name sizes default_settings.sizes
    ∙ sym (is_some-option_map (λ i. meaning_of (λ label. None) i words) (named name (instructions default_settings.sizes)))

length-cons_option : {X Y : Type 0} (o : Option X) (has : Bool) (xs : List X) (y : Y) (ys : List Y) → is_some o ≡ has → length xs ≡ length ys → length (cons_option o xs) ≡ length (cond has (y ∷ ys) ys)
length-cons_option None true xs y ys is same = absurd (cc is)
length-cons_option None false xs y ys is same = same
length-cons_option (Some x) true xs y ys is same = ap suc same
length-cons_option (Some x) false xs y ys is same = absurd (cc is)

pub length-code_of : (sizes : Sizes) (labels : List ℕ → Option ℕ) (lines : List (List ℕ)) → length (code_of sizes labels lines) ≡ count lines
length-code_of sizes labels [] = refl
length-code_of sizes labels (line ∷ lines) =
    length-cons_option (instruction_in sizes labels (statement_of line)) (has_instruction line) (code_of sizes labels lines) line (filter has_instruction lines) (instruction_alike sizes labels (statement_of line)) (length-code_of sizes labels lines)

place-line : (defined has : Bool) (o : Option ℕ) (line : List ℕ) (rest : List (List ℕ)) → unwrap_or o 0 ≤ length rest → unwrap_or (cond defined (Some 0) (option_map (λ place. cond has (place + 1) place) o)) 0 ≤ length (cond has (line ∷ rest) rest)
place-line true has o line rest le = omega arith
place-line false true None line rest le = omega arith
place-line false false None line rest le = omega arith
place-line false true (Some place) line rest le = omega arith
place-line false false (Some place) line rest le = le

-- no label stands for a place past the end
pub place_of-most : (lines : List (List ℕ)) (label : List ℕ) → unwrap_or (place_of lines label) 0 ≤ count lines
place_of-most [] label = omega arith
place_of-most (line ∷ lines) label = place-line (defines label line) (has_instruction line) (place_of lines label) line (filter has_instruction lines) (place_of-most lines label)

count-line : (has any : Bool) (line : List ℕ) (rest : List (List ℕ)) → (any ≡ true → 0 < length rest) → (has || any) ≡ true → 0 < length (cond has (line ∷ rest) rest)
count-line true any line rest some e = omega arith
count-line false any line rest some e = some e

pub count-some : (lines : List (List ℕ)) → list_any has_instruction lines ≡ true → 0 < count lines
count-some [] e = absurd (cc e)
count-some (line ∷ lines) e = count-line (has_instruction line) (list_any has_instruction lines) line (filter has_instruction lines) (λ some. count-some lines some) e

none-line : (label has any : Bool) (line : List ℕ) (rest : List (List ℕ)) → (any ≡ false → length rest ≡ 0) → ((label || has) || any) ≡ false → length (cond has (line ∷ rest) rest) ≡ 0
none-line true has any line rest none e = absurd (cc e)
none-line false true any line rest none e = absurd (cc e)
none-line false false any line rest none e = none e

-- where no code has begun there is no instruction
pub count-none : (lines : List (List ℕ)) → list_any begins_code lines ≡ false → count lines ≡ 0
count-none [] e = refl
count-none (line ∷ lines) e = none-line (is_some (label_of line)) (has_instruction line) (list_any begins_code lines) line (filter has_instruction lines) (λ none. count-none lines none) e
