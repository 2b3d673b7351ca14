-- The lines of a text, taken one by one.
use Rattle.std.proofs.Common.{◌≡◌, ℕ, suc, ◌+◌, ◌<◌, Bool, true, false, cond, List, [], ◌∷◌, ◌++◌, length, length-append, append-nil, append_assoc, Option, None, Some, refl, sym, ap, ◌∙◌, subst, arith}
use Rattle.std.specs.Prelude.{if◌then◌else◌, nat_lt, nat_le, not, ◌||◌, ◌&&◌, ◌==◌}
use Rattle.std.specs.List.{list_any, filter, cons_option}
use Rattle.std.specs.Option.{is_some, option_map, option_map_or, option_or}
use Rattle.std.proofs.lemmas.List.Sums.{fold-append}
use Rattle.std.proofs.lemmas.List.Folds.{list_any-append}
use Rattle.std.proofs.lemmas.List.Elements.{filter_map-append}
use Rattle.dsm_lex.specs.Lexical.{lines_of}
use Rattle.dsm_isa.specs.ProgramText.{Sizes}
use Rattle.dsm_isa.specs.declared.instr.Instr.{Instr}
use Rattle.dsm_grammar.specs.declared.fault.AsmKind.{AsmKind}
use Rattle.dsm_grammar.specs.declared.fault.AsmKind.TheVariants.{NotAscii, LongLine, DoubleLabel, UnknownWord, DirectiveLate, BadOperand, Limit, NoCode}
use Rattle.dsm_grammar.specs.declared.fault.Bound.TheVariants.{Code}
use Rattle.dsm_grammar.specs.Settings.{default_settings}
use Rattle.dsm_grammar.specs.Statements.{Statement as Row, named, instructions}
use Rattle.dsm_grammar.specs.Lines.{is_plain, is_short, label_of, statement_of}
use Rattle.dsm_grammar.specs.Grammar.{meaning_of, set_by, settings_of, instruction_in, code_of, has_instruction, defines, place_of, program_of}
use Rattle.dsm_grammar.specs.Faults.{is_directive, is_instruction, is_late, is_init, begins_code, places_of, operands_fault, statement_fault, line_fault, first_fault_behind, first_fault_of}
use Rattle.dsm_grammar.proofs.Tables.{EachRow, found, instructions_alike}
use Rattle.dsm_grammar.proofs.Counting.{count, count-some, length-code_of}
use Rattle.dsm_asm.specs.declared.forms.Form.TheVariants.{Object as OfObject}
use Rattle.dsm_asm.specs.declared.forms.OnObject.TheVariants.{Lock as OnLock, Unlock as OnUnlock, Bar as OnBar, Set as OnSet, Wait as OnWait, Waitr as OnWaitr}
use Rattle.dsm_asm.specs.declared.labels.Label.{Label}
use Rattle.dsm_asm.specs.declared.labels.Labels.{Labels}
use Rattle.dsm_asm.specs.Labelled.{line_of, Labelled}
use Rattle.dsm_asm.specs.Past.{Past, past_of, behind_statement, statement_fault_behind, fault_behind, is_double}
use Rattle.dsm_asm.specs.Table.{held, places}
use Rattle.dsm_asm.proofs.Stating.{meaning-anywhere, Past-same, or-false}
use Rattle.dsm_asm.proofs.Whereabouts.{none-from_absent}

-- Which instruction a statement is does not depend on which objects there are.
rows_alike : (s t : Sizes) → EachRow (λ key row. (labels : List ℕ → Option ℕ) (words : List (List ℕ)) → option_map (λ (r : Row Instr). meaning_of labels r words) (named key (instructions t)) ≡ Some (meaning_of labels row words)) (instructions s)
rows_alike s t =
    (λ l w. refl, (λ l w. refl, (λ l w. refl, (λ l w. refl, (λ l w. refl, (λ l w. refl, (λ l w. refl, (λ l w. refl, (λ l w. refl, (λ l w. refl, (λ l w. refl, (λ l w. refl, (λ l w. refl, (λ l w. refl, (λ l w. refl, (λ l w. refl, (λ l w. refl, (λ l w. refl, (λ l w. refl, (λ l w. refl, (λ l w. refl, (λ l w. refl, (λ l w. refl, (λ l w. refl, (λ l w. refl, (λ l w. refl, (λ l w. ap Some (meaning-anywhere t s l (OfObject OnLock) w), (λ l w. ap Some (meaning-anywhere t s l (OfObject OnUnlock) w), (λ l w. ap Some (meaning-anywhere t s l (OfObject OnBar) w), (λ l w. ap Some (meaning-anywhere t s l (OfObject OnSet) w), (λ l w. ap Some (meaning-anywhere t s l (OfObject OnWait) w), (λ l w. ap Some (meaning-anywhere t s l (OfObject OnWaitr) w), (λ l w. refl, (λ l w. refl, tt))))))))))))))))))))))))))))))))))

instruction_in-anywhere : (s t : Sizes) (labels : List ℕ → Option ℕ) (words : List (List ℕ)) → instruction_in s labels words ≡ instruction_in t labels words
instruction_in-anywhere s t labels [] = refl
instruction_in-anywhere s t labels (name ∷ words) = go (named name (instructions s)) refl
  where
    go : (o : Option (Row Instr)) → named name (instructions s) ≡ o → option_map (λ (r : Row Instr). meaning_of labels r words) o ≡ option_map (λ (r : Row Instr). meaning_of labels r words) (named name (instructions t))
    go None is = ap (option_map (λ (r : Row Instr). meaning_of labels r words)) (sym (none-from_absent (named name (instructions t)) (sym (instructions_alike name s t) ∙ ap is_some is)))
    go (Some row) is = sym (found (λ key r. (l : List ℕ → Option ℕ) (w : List (List ℕ)) → option_map (λ (r : Row Instr). meaning_of l r w) (named key (instructions t)) ≡ Some (meaning_of l r w)) name (instructions s) row (rows_alike s t) is labels words)

pub code_of-anywhere : (s t : Sizes) (labels : List ℕ → Option ℕ) (lines : List (List ℕ)) → code_of s labels lines ≡ code_of t labels lines
code_of-anywhere s t labels [] = refl
code_of-anywhere s t labels (line ∷ lines) =
    ap (λ o. cons_option o (code_of s labels lines)) (instruction_in-anywhere s t labels (statement_of line)) ∙ ap (cons_option (instruction_in t labels (statement_of line))) (code_of-anywhere s t labels lines)

-- what one line more leaves
past_of-snoc : (labels : List ℕ → Option ℕ) (lines : List (List ℕ)) (line : List ℕ) → behind_statement labels (is_some (label_of line)) (statement_of line) (past_of labels lines) ≡ past_of labels (lines ++ line ∷ [])
past_of-snoc labels lines line =
    Past-same _ (past_of labels (lines ++ line ∷ []))
    (sym (fold-append (λ settings l. set_by settings (statement_of l)) default_settings lines (line ∷ [])))
    (ap (λ b. list_any (λ l. is_init (statement_of l)) lines || b) (or-false (is_init (statement_of line))) ∙ sym (list_any-append (λ l. is_init (statement_of l)) lines (line ∷ [])))
    (ap (λ b. list_any begins_code lines || b) (or-false (begins_code line)) ∙ sym (list_any-append begins_code lines (line ∷ [])))
    (sym (filter_map-append (λ l. instruction_in default_settings.sizes labels (statement_of l)) lines (line ∷ [])))

-- An earlier line defines a label exactly where the first line that does so is earlier.
shift : (o : Option ℕ) (n : ℕ) → option_map_or (λ k. nat_lt k n) o false ≡ option_map_or (λ k. nat_lt k (suc n)) (option_map suc o) false
shift None n = refl
shift (Some k) n = grind (arith)

none_before : (o : Option ℕ) → false ≡ option_map_or (λ k. nat_lt k 0) o false
none_before None = refl
none_before (Some k) = grind (arith)

defined_before : (before rest : List (List ℕ)) (name : List ℕ) → list_any (defines name) before ≡ option_map_or (λ k. nat_lt k (length before)) (line_of (before ++ rest) name) false
defined_before [] rest name = none_before (line_of rest name)
defined_before (line ∷ before) rest name = go (defines name line) (defined_before before rest name)
  where
    go : (first : Bool) → list_any (defines name) before ≡ option_map_or (λ k. nat_lt k (length before)) (line_of (before ++ rest) name) false
        → (first || list_any (defines name) before) ≡ option_map_or (λ k. nat_lt k (suc (length before))) (cond first (Some 0) (option_map suc (line_of (before ++ rest) name))) false
    go true same = grind (arith)
    go false same = same ∙ shift (line_of (before ++ rest) name) (length before)

read-line : (o : Option Label) (n : ℕ) → option_map_or (λ k. nat_lt k n) (option_map (λ (label : Label). label.line) o) false ≡ option_map_or (λ (label : Label). nat_lt label.line n) o false
read-line None n = refl
read-line (Some label) n = refl

double-held : (before rest : List (List ℕ)) (at : List ℕ → Option Label) (line : List ℕ) → Labelled (before ++ rest) at → option_map_or (λ label. list_any (defines label) before) (label_of line) false ≡ is_double at (length before) line
double-held before rest at line labelled = go (label_of line)
  where
    go : (o : Option (List ℕ)) → option_map_or (λ label. list_any (defines label) before) o false ≡ option_map_or (λ name. option_map_or (λ (label : Label). nat_lt label.line (length before)) (at name) false) o false
    go None = refl
    go (Some name) = defined_before before rest name ∙ ap (λ o. option_map_or (λ k. nat_lt k (length before)) o false) (sym (labelled.line name)) ∙ read-line (at name) (length before)

-- what is wrong with a statement, told by what the lines before it have left
statement_fault-held : (lines before : List (List ℕ)) (line : List ℕ) (words : List (List ℕ)) → statement_fault lines before line words ≡ statement_fault_behind (past_of (place_of lines) before) (place_of lines) (is_some (label_of line)) words
statement_fault-held lines before line [] = refl
statement_fault-held lines before line (name ∷ words) =
    let many = length-code_of default_settings.sizes (place_of lines) before in
    let at = places_of (settings_of before) name in
    ap (λ n. if not (is_directive name || is_instruction name) then Some UnknownWord
    else if is_directive name && is_late before line name then Some DirectiveLate
    else if not (length at == length words) then Some BadOperand
    else option_or (operands_fault (place_of lines) at words)
    (if is_instruction name && nat_le 4096 n then Some (Limit Code) else None)) (sym many)

line_fault-held : (before rest : List (List ℕ)) (at : List ℕ → Option Label) (line : List ℕ) → Labelled (before ++ rest) at → line_fault (before ++ rest) before line ≡ fault_behind (past_of (place_of (before ++ rest)) before) (place_of (before ++ rest)) (is_double at (length before) line) line
line_fault-held before rest at line labelled =
    ap (λ b. if not (is_plain line) then Some NotAscii else if not (is_short line) then Some LongLine else if b then Some DoubleLabel else statement_fault (before ++ rest) before line (statement_of line)) (double-held before rest at line labelled)
    ∙ ap (λ f. if not (is_plain line) then Some NotAscii else if not (is_short line) then Some LongLine else if is_double at (length before) line then Some DoubleLabel else f) (statement_fault-held (before ++ rest) before line (statement_of line))

-- The first lines were taken, and the rest is left.
pub record HasTaken (text rest : List ℕ) (number : ℕ) (past : Past) : Type 0 where
  pub before : List (List ℕ)
  pub cut : lines_of text ≡ before ++ lines_of rest
  pub counted : length before ≡ number
  pub left : past ≡ past_of (place_of (lines_of text)) before
  pub faults : first_fault_behind [] (lines_of text) ≡ first_fault_behind before (lines_of rest)

pub HasTaken-nothing : (text : List ℕ) (past : Past) → ((labels : List ℕ → Option ℕ) → past ≡ past_of labels []) → HasTaken text text 0 past
HasTaken-nothing text past is = record { before = []; cut = refl; counted = refl; left = is (place_of (lines_of text)); faults = refl }

places-labelled : (lines : List (List ℕ)) (labels : Labels) → Labelled lines (held labels) → places labels ≡ place_of lines
places-labelled lines labels labelled = λ i name. labelled.place name i

-- what is wrong with the next line
next_fault : (text rest behind here : List ℕ) (number : ℕ) (past : Past) (labels : Labels) (taken : HasTaken text rest number past) → lines_of rest ≡ here ∷ lines_of behind → Labelled (lines_of text) (held labels)
    → line_fault (taken.before ++ here ∷ lines_of behind) taken.before here ≡ fault_behind past (places labels) (is_double (held labels) number here) here
next_fault text rest behind here number past labels taken next labelled =
    let cut : lines_of text ≡ taken.before ++ here ∷ lines_of behind = taken.cut ∙ ap (λ l. taken.before ++ l) next in
    let all : Labelled (taken.before ++ here ∷ lines_of behind) (held labels) = subst (λ lines. Labelled lines (held labels)) cut labelled in
    line_fault-held taken.before (here ∷ lines_of behind) (held labels) here all
    ∙ ap (λ lines. fault_behind (past_of (place_of lines) taken.before) (place_of lines) (is_double (held labels) (length taken.before) here) here) (sym cut)
    ∙ ap (λ at. fault_behind (past_of (place_of (lines_of text)) taken.before) at (is_double (held labels) (length taken.before) here) here) (sym (places-labelled (lines_of text) labels labelled))
    ∙ ap (λ p. fault_behind p (places labels) (is_double (held labels) (length taken.before) here) here) (sym taken.left)
    ∙ ap (λ n. fault_behind past (places labels) (is_double (held labels) n here) here) taken.counted

-- one line more was taken
pub HasTaken-line : (text rest behind here : List ℕ) (number : ℕ) (past new : Past) (labels : Labels) → HasTaken text rest number past → lines_of rest ≡ here ∷ lines_of behind → Labelled (lines_of text) (held labels)
    → fault_behind past (places labels) (is_double (held labels) number here) here ≡ None → new ≡ behind_statement (places labels) (is_some (label_of here)) (statement_of here) past → HasTaken text behind (number + 1) new
HasTaken-line text rest behind here number past new labels taken next labelled sound is =
    let counted = taken.counted in
    let none : line_fault (taken.before ++ here ∷ lines_of behind) taken.before here ≡ None = next_fault text rest behind here number past labels taken next labelled ∙ sound in
    record {
      before = taken.before ++ (here ∷ []);
      cut = taken.cut ∙ ap (λ l. taken.before ++ l) next ∙ sym (append_assoc taken.before (here ∷ []) (lines_of behind));
      counted = omega (arith, length-append taken.before (here ∷ []));
      left = is ∙ ap (λ at. behind_statement at (is_some (label_of here)) (statement_of here) past) (places-labelled (lines_of text) labels labelled)
          ∙ ap (behind_statement (place_of (lines_of text)) (is_some (label_of here)) (statement_of here)) taken.left ∙ past_of-snoc (place_of (lines_of text)) taken.before here;
      faults = taken.faults ∙ ap (first_fault_behind taken.before) next
          ∙ ap (λ f. option_or (option_map (λ kind. (length taken.before + 1, kind)) f) (first_fault_behind (taken.before ++ here ∷ []) (lines_of behind))) none;
    }

-- the next line is at fault
pub HasTaken-refused : (text rest behind here : List ℕ) (number : ℕ) (past : Past) (labels : Labels) (kind : AsmKind) → HasTaken text rest number past → lines_of rest ≡ here ∷ lines_of behind → Labelled (lines_of text) (held labels)
    → fault_behind past (places labels) (is_double (held labels) number here) here ≡ Some kind → first_fault_of text ≡ Some (number + 1, kind)
HasTaken-refused text rest behind here number past labels kind taken next labelled wrong =
    let some : line_fault (taken.before ++ here ∷ lines_of behind) taken.before here ≡ Some kind = next_fault text rest behind here number past labels taken next labelled ∙ wrong in
    let first : first_fault_behind [] (lines_of text) ≡ Some (number + 1, kind) = taken.faults ∙ ap (first_fault_behind taken.before) next
    ∙ ap (λ f. option_or (option_map (λ k. (length taken.before + 1, k)) f) (first_fault_behind (taken.before ++ here ∷ []) (lines_of behind))) some
    ∙ ap (λ n. Some (n + 1, kind)) taken.counted in
    ap (λ f. option_or f (if list_any has_instruction (lines_of text) then None else Some (1, NoCode))) first

-- all lines were taken
pub HasTaken-sound : (text : List ℕ) (number : ℕ) (past : Past) → HasTaken text [] number past → first_fault_behind [] (lines_of text) ≡ None
HasTaken-sound text number past taken = taken.faults

pub HasTaken-all : (text : List ℕ) (number : ℕ) (past : Past) → HasTaken text [] number past → past ≡ past_of (place_of (lines_of text)) (lines_of text)
HasTaken-all text number past taken = taken.left ∙ ap (past_of (place_of (lines_of text))) (sym (taken.cut ∙ append-nil taken.before))

-- lines without code have no instruction
none-line : (has any : Bool) (line : List ℕ) (rest : List (List ℕ)) → (any ≡ false → length rest ≡ 0) → (has || any) ≡ false → length (cond has (line ∷ rest) rest) ≡ 0
none-line true any line rest none e = absurd (cc e)
none-line false any line rest none e = none e

count-none_has : (lines : List (List ℕ)) → list_any has_instruction lines ≡ false → count lines ≡ 0
count-none_has [] e = refl
count-none_has (line ∷ lines) e = none-line (has_instruction line) (list_any has_instruction lines) line (filter has_instruction lines) (λ none. count-none_has lines none) e

count-code : (text : List ℕ) (past : Past) → past ≡ past_of (place_of (lines_of text)) (lines_of text) → length past.code ≡ count (lines_of text)
count-code text past is = ap (λ (p : Past). length p.code) is ∙ length-code_of default_settings.sizes (place_of (lines_of text)) (lines_of text)

pub fault-no_code : (text : List ℕ) (past : Past) → first_fault_behind [] (lines_of text) ≡ None → past ≡ past_of (place_of (lines_of text)) (lines_of text) → length past.code ≡ 0 → first_fault_of text ≡ Some (1, NoCode)
fault-no_code text past sound is none = ap (λ f. option_or f (if list_any has_instruction (lines_of text) then None else Some (1, NoCode))) sound ∙ go (list_any has_instruction (lines_of text)) refl
  where
    go : (b : Bool) → list_any has_instruction (lines_of text) ≡ b → option_or {T = ℕ × AsmKind} None (if b then None else Some (1, NoCode)) ≡ Some (1, NoCode)
    go true some = absurd (omega (arith, count-some (lines_of text) some, count-code text past is, none))
    go false none_there = refl

pub fault-none : (text : List ℕ) (past : Past) → first_fault_behind [] (lines_of text) ≡ None → past ≡ past_of (place_of (lines_of text)) (lines_of text) → 0 < length past.code → first_fault_of text ≡ None
fault-none text past sound is some = ap (λ f. option_or f (if list_any has_instruction (lines_of text) then None else Some (1, NoCode))) sound ∙ go (list_any has_instruction (lines_of text)) refl
  where
    go : (b : Bool) → list_any has_instruction (lines_of text) ≡ b → option_or {T = ℕ × AsmKind} None (if b then None else Some (1, NoCode)) ≡ None
    go true there = refl
    go false none = absurd (omega (arith, count-none_has (lines_of text) none, count-code text past is, some))

-- what all lines have left is the program
pub program-left : (text : List ℕ) (past : Past) → past ≡ past_of (place_of (lines_of text)) (lines_of text) → record { shape = past.settings.sizes; init = past.settings.init; code = past.code } ≡ program_of text
program-left text past is =
    let lines = lines_of text in
    ap (λ (p : Past). record { shape = p.settings.sizes; init = p.settings.init; code = p.code }) is
    ∙ ap (λ code. record { shape = (settings_of lines).sizes; init = (settings_of lines).init; code = code }) (code_of-anywhere default_settings.sizes ((settings_of lines).sizes) (place_of lines) lines)
