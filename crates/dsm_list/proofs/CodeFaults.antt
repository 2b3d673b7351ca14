-- Nothing is wrong with the lines of the code, and they are words.
use Rattle.std.proofs.Common.{◌≡◌, ℕ, ◌+◌, ◌<◌, ◌≤◌, ◌^◌, nat_le, cond, if◌then◌else◌, Bool, true, false, List, [], ◌∷◌, ◌++◌, length, map, All, Option, None, Some, refl, sym, ap, ◌∙◌, subst, arith, append-nil, length-append}
use Rattle.std.specs.List.{filter, list_any, list_all}
use Rattle.std.specs.Option.{is_some, option_map_or}
use Rattle.std.proofs.lemmas.Bool.{lt-leb, or_from, or_parts, or_left, or_right, and_left, and_right, and_from}
use Rattle.std.proofs.lemmas.List.Elements.{All-tail, filter-append}
use Rattle.std.proofs.lemmas.List.Folds.{list_any-append, list_all-append}
use Rattle.std.proofs.lemmas.List.Sums.{fold-append}
use Rattle.std.specs.Str.{bytes_eq}
use Rattle.dsm_isa.specs.declared.instr.Instr.{Instr}
use Rattle.dsm_isa.specs.ProgramText.{Sizes}
use Rattle.dsm_isa.specs.Rules.{ObjectInside}
use Rattle.dsm_grammar.specs.Faults.{is_directive, is_instruction, begins_code, line_fault}
use Rattle.dsm_grammar.specs.Grammar.{set_by, settings_of, has_instruction, defines, place_of}
use Rattle.dsm_grammar.specs.Lines.{label_of, statement_of}
use Rattle.dsm_grammar.specs.Settings.{Settings, default_settings}
use Rattle.dsm_grammar.specs.Statements.{named, instructions}
use Rattle.dsm_list.specs.Canonical.{label_line, is_target, label_lines, code_lines}
use Rattle.dsm_list.specs.Lines.{joined}
use Rattle.dsm_isa.specs.Operands.{parts_of, IsInRange}
use Rattle.dsm_list.specs.Spelling.{operand_word, label, spelling}
use Rattle.dsm_list.proofs.CodeLines.{label_at, lines_from, lines_from-cons, label_at-cases, Knows, defines-reads}
use Rattle.dsm_list.proofs.Fine.{Fine, Fine-append}
use Rattle.dsm_list.proofs.Front.{list_any-last}
use Rattle.dsm_list.proofs.Operands.{bytes_eq-labels, is_word-label_word, are_words-operands, length-suit, operands_fault-words}
use Rattle.dsm_list.proofs.Reading.{Reads-instr, Reads-label, has_instruction-instr, has_instruction-label, line_fault-reads, statement_fault-none}
use Rattle.dsm_list.proofs.Rows.{row_of, name_of, set_by-spelling}
use Rattle.dsm_list.proofs.Words.{is_word}

-- before the lines of a place: the sizes are set, so many instructions stand there, and no label from a place on
pub record Before (sizes : Sizes) (lines : List (List ℕ)) (count from : ℕ) : Type 0 where
  pub sized : (settings_of lines).sizes ≡ sizes
  pub counted : length (filter has_instruction lines) ≡ count
  pub fresh : (there : ℕ) → from ≤ there → there < 2 ^ 64 → list_any (defines (label there)) lines ≡ false

-- lines without code
no_code-counted : (lines : List (List ℕ)) → list_any begins_code lines ≡ false → filter has_instruction lines ≡ []
no_code-counted [] none = refl
no_code-counted (line ∷ lines) none =
    let parts = or_parts (begins_code line) (list_any begins_code lines) none in
    let here = or_parts (is_some (label_of line)) (has_instruction line) parts.0 in
    ap (λ b. cond b (line ∷ filter has_instruction lines) (filter has_instruction lines)) here.1 ∙ no_code-counted lines parts.1

pub defines-none : (o : Option (List ℕ)) (test : List ℕ → Bool) → is_some o ≡ false → option_map_or test o false ≡ false
defines-none None test none = refl
defines-none (Some name) test none = absurd (cc none)

no_code-fresh : (name : List ℕ) (lines : List (List ℕ)) → list_any begins_code lines ≡ false → list_any (defines name) lines ≡ false
no_code-fresh name [] none = refl
no_code-fresh name (line ∷ lines) none =
    let parts = or_parts (begins_code line) (list_any begins_code lines) none in
    let here = or_parts (is_some (label_of line)) (has_instruction line) parts.0 in
    or_from _ _ (defines-none (label_of line) (λ other. bytes_eq other name) here.0) (no_code-fresh name lines parts.1)

pub Before-front : (sizes : Sizes) (lines : List (List ℕ)) → list_any begins_code lines ≡ false → (settings_of lines).sizes ≡ sizes → Before sizes lines 0 0
Before-front sizes lines none sized = record {
  sized = sized;
  counted = ap length (no_code-counted lines none);
  fresh = λ there from small. no_code-fresh (label there) lines none;
}

-- one line more
settings_of-last : (lines : List (List ℕ)) (line : List ℕ) → settings_of (lines ++ (line ∷ [])) ≡ set_by (settings_of lines) (statement_of line)
settings_of-last lines line = fold-append (λ s other. set_by s (statement_of other)) default_settings lines (line ∷ [])

filter-last : (lines : List (List ℕ)) (line : List ℕ) (has : Bool) → has_instruction line ≡ has → filter has_instruction (lines ++ (line ∷ [])) ≡ filter has_instruction lines ++ cond has (line ∷ []) []
filter-last lines line has is = filter-append has_instruction lines (line ∷ []) ∙ ap (λ b. filter has_instruction lines ++ cond b (line ∷ []) []) is

Before-label : (sizes : Sizes) (lines : List (List ℕ)) (count place : ℕ) → Before sizes lines count place → place < 2 ^ 64 → Before sizes (lines ++ (joined (label_line place) ∷ [])) count (place + 1)
Before-label sizes lines count place before small =
    let line = joined (label_line place) in
    let read = Reads-label place small in
    record {
      sized = ap (λ (s : Settings). s.sizes) (settings_of-last lines line ∙ ap (set_by (settings_of lines)) read.words) ∙ before.sized;
      counted = ap length (filter-last lines line false (has_instruction-label place small) ∙ append-nil (filter has_instruction lines)) ∙ before.counted;
      fresh = λ there from large.
          list_any-last (defines (label there)) lines line (before.fresh there (omega arith) large)
          (defines-reads line (Some (label place)) [] (label there) read ∙ bytes_eq-labels place there small large (omega arith));
    }

Before-more : (sizes : Sizes) (lines : List (List ℕ)) (count place : ℕ) → Before sizes lines count place → Before sizes lines count (place + 1)
Before-more sizes lines count place before = record {
  sized = before.sized;
  counted = before.counted;
  fresh = λ there from large. before.fresh there (omega arith) large;
}

Before-instr : (sizes : Sizes) (lines : List (List ℕ)) (instr : Instr) (count from : ℕ) → Before sizes lines count from → IsInRange instr → (set_by (settings_of lines) (spelling instr) ≡ settings_of lines) → Before sizes (lines ++ (joined (spelling instr) ∷ [])) (count + 1) from
Before-instr sizes lines instr count from before range sets =
    let line = joined (spelling instr) in
    let read = Reads-instr instr range in
    let counted = before.counted in
    record {
      sized = ap (λ (s : Settings). s.sizes) (settings_of-last lines line ∙ ap (set_by (settings_of lines)) read.words ∙ sets) ∙ before.sized;
      counted = ap length (filter-last lines line true (has_instruction-instr instr range)) ∙ omega (arith, length-append (filter has_instruction lines) (line ∷ []));
      fresh = λ there above large.
          list_any-last (defines (label there)) lines line (before.fresh there above large) (defines-reads line None (spelling instr) (label there) read);
    }

-- nothing is wrong with the lines of a place's label
Fine-label : (text lines : List (List ℕ)) (code : List Instr) (sizes : Sizes) (count place : ℕ) → Before sizes lines count place → place < 2 ^ 64 → Fine text lines (label_at code place) × Before sizes (lines ++ label_at code place) count (place + 1)
Fine-label text lines code sizes count place before small =
    let line = joined (label_line place) in
    label_at-cases code place (λ front. Fine text lines front × Before sizes (lines ++ front) count (place + 1))
    (tt, subst (λ ls. Before sizes ls count (place + 1)) (sym (append-nil lines)) (Before-more sizes lines count place before))
    ((line_fault-reads text lines line (Some (label place)) [] (Reads-label place small) (before.fresh place (omega arith) small) refl, tt), Before-label sizes lines count place before small)

-- nor with an instruction
line_fault-instr : (text lines : List (List ℕ)) (instr : Instr) (sizes : Sizes) (count from : ℕ) → Before sizes lines count from → count < 4096 → IsInRange instr → ObjectInside sizes instr → Knows (place_of text) instr → line_fault text lines (joined (spelling instr)) ≡ None
line_fault-instr text lines instr sizes count from before room range inside known =
    let settings = settings_of lines in
    let name = (parts_of instr).name in
    let operands = (parts_of instr).operands in
    let line = joined (spelling instr) in
    let row = row_of settings.sizes instr in
    let here : ObjectInside settings.sizes instr = subst (λ (s : Sizes). ObjectInside s instr) (sym before.sized) inside in
    let suit = row.suits (place_of text) here known in
    let is : is_instruction name ≡ true = ap is_some ((row_of default_settings.sizes instr).found) in
    let no_directive : is_directive name ≡ false = ap is_some ((name_of instr).no_directive default_settings) in
    let few : nat_le 4096 (length (filter has_instruction lines)) ≡ false = lt-leb 4096 (length (filter has_instruction lines)) (let counted = before.counted in omega arith) in
    line_fault-reads text lines line None (spelling instr) (Reads-instr instr range) refl
    (statement_fault-none text lines line name (map operand_word operands) row.says.places
    (or_right _ _ is) (and_left _ _ no_directive)
    (ap (λ o. option_map_or (λ directive. directive.places) o (option_map_or (λ instruction. instruction.places) (named name (instructions settings.sizes)) [])) ((name_of instr).no_directive settings)
    ∙ ap (λ o. option_map_or (λ instruction. instruction.places) o []) row.found)
    (length-suit (place_of text) row.says.places operands suit)
    (operands_fault-words (place_of text) row.says.places operands suit range)
    (and_right _ _ few))

-- Nothing is wrong with the lines of the code.
pub Fine-code : (text lines : List (List ℕ)) (code : List Instr) (sizes : Sizes) (place : ℕ) (instrs : List Instr) → Before sizes lines place place → place + length instrs ≤ 4096 → All IsInRange instrs → All (ObjectInside sizes) instrs → All (Knows (place_of text)) instrs → Fine text lines (lines_from code place instrs)
Fine-code text lines code sizes place [] before room range inside known = (Fine-label text lines code sizes place place before (omega arith)).0
Fine-code text lines code sizes place (instr ∷ instrs) before room range inside known =
    let label = Fine-label text lines code sizes place place before (omega arith) in
    let here = lines ++ label_at code place in
    let next = Before-instr sizes here instr place (place + 1) label.1 (range 0 instr (omega arith)) (set_by-spelling (settings_of here) instr) in
    subst (Fine text lines) (sym (lines_from-cons code place instr instrs))
    (Fine-append text lines (label_at code place) (joined (spelling instr) ∷ lines_from code (place + 1) instrs) label.0 (
      line_fault-instr text here instr sizes place (place + 1) label.1 (omega arith) (range 0 instr (omega arith)) (inside 0 instr (omega arith)) (known 0 instr (omega arith)),
      Fine-code text (here ++ (joined (spelling instr) ∷ [])) code sizes (place + 1) instrs next (omega arith) (All-tail IsInRange instr instrs range) (All-tail (ObjectInside sizes) instr instrs inside) (All-tail (Knows (place_of text)) instr instrs known),
    ))

-- its words are words
are_words-label : (code : List Instr) (place : ℕ) → place < 2 ^ 64 → list_all (list_all is_word) (label_lines code place) ≡ true
are_words-label code place small = go (is_target code place)
  where
    go : (b : Bool) → list_all (list_all is_word) (if b then label_line place ∷ [] else []) ≡ true
    go true = and_from _ _ (and_from _ _ (is_word-label_word place small) refl) refl
    go false = refl

pub are_words-code : (code : List Instr) (place : ℕ) (instrs : List Instr) → place + length instrs < 2 ^ 64 → All IsInRange instrs → list_all (list_all is_word) (code_lines code place instrs) ≡ true
are_words-code code place [] small range = are_words-label code place (omega arith)
are_words-code code place (instr ∷ instrs) small range =
    list_all-append (list_all is_word) (label_lines code place) (spelling instr ∷ code_lines code (place + 1) instrs)
    ∙ and_from _ _ (are_words-label code place (omega arith))
    (and_from _ _ (and_from _ _ (name_of instr).word (are_words-operands ((parts_of instr).operands) (range 0 instr (omega arith))))
    (are_words-code code (place + 1) instrs (omega arith) (All-tail IsInRange instr instrs range)))

-- among the lines of some code is an instruction
pub some_code : (code : List Instr) (place : ℕ) (instrs : List Instr) → 0 < length instrs → All IsInRange instrs → list_any has_instruction (lines_from code place instrs) ≡ true
some_code code place [] some range = absurd (omega arith)
some_code code place (instr ∷ instrs) some range =
    ap (list_any has_instruction) (lines_from-cons code place instr instrs)
    ∙ list_any-append has_instruction (label_at code place) (joined (spelling instr) ∷ lines_from code (place + 1) instrs)
    ∙ or_right _ _ (or_left _ _ (has_instruction-instr instr (range 0 instr (omega arith))))
