-- What is read of each kind of canonical line, and that nothing is wrong with it.
use Rattle.std.proofs.Common.{◌≡◌, ℕ, ◌*◌, ◌<◌, ◌≤◌, ◌^◌, nat_le, ◌==◌, ◌&&◌, ◌||◌, not, if◌then◌else◌, Bool, true, false, List, [], ◌∷◌, ◌++◌, length, map, flat_map, Option, None, Some, refl, ap, ◌∙◌, arith, length-append}
use Rattle.std.specs.List.{list_all, list_any, filter}
use Rattle.std.specs.Option.{is_some, option_map_or, option_or}
use Rattle.std.proofs.lemmas.Bool.{le-leb, eq-eqb, and_from}
use Rattle.dsm_isa.specs.declared.instr.Instr.{Instr}
use Rattle.dsm_grammar.specs.declared.fault.AsmKind.{AsmKind}
use Rattle.dsm_grammar.specs.declared.fault.AsmKind.TheVariants.{NotAscii, LongLine, DoubleLabel, UnknownWord, DirectiveLate, BadOperand, Limit}
use Rattle.dsm_grammar.specs.declared.fault.Bound.TheVariants.{Code}
use Rattle.dsm_grammar.specs.Faults.{is_directive, is_instruction, is_late, places_of, operands_fault, statement_fault, line_fault}
use Rattle.dsm_grammar.specs.Grammar.{instruction_in, settings_of, has_instruction, defines, place_of}
use Rattle.dsm_grammar.specs.Lines.{is_plain, is_short, label_in, first_label, behind_label, label_of, statement_of}
use Rattle.dsm_grammar.specs.Operands.{Place}
use Rattle.dsm_grammar.specs.Settings.{default_settings}
use Rattle.dsm_lex.specs.Lexical.{content_of, words_of}
use Rattle.dsm_list.specs.Canonical.{label_line}
use Rattle.dsm_list.specs.Lines.{joined}
use Rattle.dsm_isa.specs.Operands.{Operand, AreOperands, parts_of, IsInRange}
use Rattle.dsm_list.specs.Spelling.{operand_word, label, spelling}
use Rattle.dsm_list.proofs.Words.{is_word, is_plain-joined, words_of-joined}
use Rattle.dsm_list.proofs.Operands.{length-operand, are_words-operands, is_word-label_word, length-label_word, label_in-label_word}
use Rattle.dsm_list.proofs.Rows.{name_of, some_instruction}

-- the line defines this label, if any, and has this statement
pub record Reads (line : List ℕ) (defined : Option (List ℕ)) (statement : List (List ℕ)) : Type 0 where
  pub plain : is_plain line ≡ true
  pub short : is_short line ≡ true
  pub label : label_of line ≡ defined
  pub words : statement_of line ≡ statement

-- so it is with a short line of words
Reads-joined : (words : List (List ℕ)) → list_all is_word words ≡ true → length (joined words) ≤ 200 → Reads (joined words) (first_label words) (behind_label words)
Reads-joined words are few =
    let plain = is_plain-joined words are in
    let short : is_short (joined words) ≡ true = le-leb (length (joined words)) 200 few in
    let read = words_of-joined words are in
    record {
      plain = plain;
      short = short;
      label = ap (λ b. if b then first_label (words_of (content_of (joined words))) else None) (and_from _ _ plain short) ∙ ap first_label read;
      words = ap behind_label read;
    }

-- how long a line is
length-spaced : (operands : List Operand) → AreOperands operands → length (flat_map (λ w. 32 ∷ w) (map operand_word operands)) ≤ 22 * length operands
length-spaced [] are = omega arith
length-spaced (operand ∷ operands) are =
    let first = length-operand operand are.0 in
    let others = length-spaced operands are.1 in
    omega (arith, length-append (operand_word operand) (flat_map (λ w. 32 ∷ w) (map operand_word operands)))

-- a name that is no label, with operands
pub Reads-named : (name : List ℕ) (operands : List Operand) → is_word name ≡ true → label_in name ≡ None → length name ≤ 9 → length operands ≤ 3 → AreOperands operands → Reads (joined (name ∷ map operand_word operands)) None (name ∷ map operand_word operands)
Reads-named name operands word no_label short few range =
    let words = name ∷ map operand_word operands in
    let spaced = length-spaced operands range in
    let long : length (joined words) ≤ 200 = omega (arith, length-append name (flat_map (λ w. 32 ∷ w) (map operand_word operands))) in
    let read = Reads-joined words (and_from _ _ word (are_words-operands operands range)) long in
    record {
      plain = read.plain;
      short = read.short;
      label = read.label ∙ no_label;
      words = read.words ∙ ap (λ o. if is_some o then map operand_word operands else words) no_label;
    }

-- an instruction
pub Reads-instr : (instr : Instr) → IsInRange instr → Reads (joined (spelling instr)) None (spelling instr)
Reads-instr instr range =
    let name = name_of instr in Reads-named ((parts_of instr).name) ((parts_of instr).operands) name.word name.no_label name.short name.few range

-- a label
pub Reads-label : (place : ℕ) → place < 2 ^ 64 → Reads (joined (label_line place)) (Some (label place)) []
Reads-label place small =
    let word = label place ++ (58 ∷ []) in
    let bytes = length-label_word place small in
    let long : length (joined (label_line place)) ≤ 200 = omega (arith, length-append word []) in
    let read = Reads-joined (label_line place) (and_from _ _ (is_word-label_word place small) refl) long in
    let is = label_in-label_word place small in
    record {
      plain = read.plain;
      short = read.short;
      label = read.label ∙ is;
      words = read.words ∙ ap (λ o. if is_some o then [] else word ∷ []) is;
    }

-- whether a line has an instruction, by its statement, and which label it defines
pub has_instruction-reads : (line : List ℕ) (defined : Option (List ℕ)) (statement : List (List ℕ)) → Reads line defined statement → has_instruction line ≡ is_some (instruction_in default_settings.sizes (λ name. None) statement)
has_instruction-reads line defined statement read = ap (λ words. is_some (instruction_in default_settings.sizes (λ name. None) words)) read.words

pub has_instruction-instr : (instr : Instr) → IsInRange instr → has_instruction (joined (spelling instr)) ≡ true
has_instruction-instr instr range =
    has_instruction-reads (joined (spelling instr)) None (spelling instr) (Reads-instr instr range) ∙ some_instruction default_settings.sizes (λ name. None) instr

pub has_instruction-label : (place : ℕ) → place < 2 ^ 64 → has_instruction (joined (label_line place)) ≡ false
has_instruction-label place small = has_instruction-reads (joined (label_line place)) (Some (label place)) [] (Reads-label place small)

-- Nothing is wrong with a line whose label is new and with whose statement nothing is wrong.
pub line_fault-reads : (lines earlier : List (List ℕ)) (line : List ℕ) (defined : Option (List ℕ)) (statement : List (List ℕ)) → Reads line defined statement → option_map_or (λ name. list_any (defines name) earlier) defined false ≡ false → statement_fault lines earlier line statement ≡ None → line_fault lines earlier line ≡ None
line_fault-reads lines earlier line defined statement read fresh right =
    let double : option_map_or (λ name. list_any (defines name) earlier) (label_of line) false ≡ false =
    ap (λ o. option_map_or (λ name. list_any (defines name) earlier) o false) read.label ∙ fresh in
    let rest : statement_fault lines earlier line (statement_of line) ≡ None = ap (statement_fault lines earlier line) read.words ∙ right in
    in_order (is_plain line) (is_short line) (option_map_or (λ name. list_any (defines name) earlier) (label_of line) false) (statement_fault lines earlier line (statement_of line)) read.plain read.short double rest
  where
    in_order : (plain short double : Bool) (fault : Option AsmKind) → plain ≡ true → short ≡ true → double ≡ false → fault ≡ None → (if not plain then Some NotAscii else if not short then Some LongLine else if double then Some DoubleLabel else fault) ≡ None
    in_order plain short double fault is_plain is_short is_new right = grind (arith)

-- Nothing is wrong with a statement that is known, not late, has the right operands and for which there is room.
pub statement_fault-none : (lines earlier : List (List ℕ)) (line name : List ℕ) (words : List (List ℕ)) (places : List Place) → (is_directive name || is_instruction name) ≡ true → (is_directive name && is_late earlier line name) ≡ false → places_of (settings_of earlier) name ≡ places → length places ≡ length words → operands_fault (place_of lines) places words ≡ None → (is_instruction name && nat_le 4096 (length (filter has_instruction earlier))) ≡ false → statement_fault lines earlier line (name ∷ words) ≡ None
statement_fault-none lines earlier line name words places known early wanted number right room =
    in_order (is_directive name || is_instruction name) (is_directive name && is_late earlier line name) (length (places_of (settings_of earlier) name) == length words) (operands_fault (place_of lines) (places_of (settings_of earlier) name) words) (is_instruction name && nat_le 4096 (length (filter has_instruction earlier)))
    known early (eq-eqb _ _ (ap length wanted ∙ number)) (ap (λ p. operands_fault (place_of lines) p words) wanted ∙ right) room
  where
    in_order : (known late number : Bool) (fault : Option AsmKind) (full : Bool) → known ≡ true → late ≡ false → number ≡ true → fault ≡ None → full ≡ false → (if not known then Some UnknownWord else if late then Some DirectiveLate else if not number then Some BadOperand else option_or fault (if full then Some (Limit Code) else None)) ≡ None
    in_order known late number fault full is_known is_early is_number right is_room = grind (arith)
