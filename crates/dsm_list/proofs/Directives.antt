-- What is read of the directives of a canonical text.
use Rattle.std.proofs.Common.{◌≡◌, ◌≢◌, ℕ, suc, ◌+◌, ◌*◌, ◌<◌, ◌≤◌, ◌^◌, true, false, List, [], ◌∷◌, ◌++◌, length, map, All, Option, None, Some, slice_index, get_or, refl, sym, ap, ◌∙◌, arith, append_assoc, append-nil, codes}
use Rattle.std.specs.List.{fold, AllPairs}
use Rattle.std.specs.Option.{is_some, option_map, option_map_or}
use Rattle.std.proofs.lemmas.Bool.{lt-ltb, ne_eqb, or_from, or_left, and_left, and_right}
use Rattle.std.proofs.lemmas.List.Elements.{All-tail}
use Rattle.std.proofs.lemmas.List.Kept.{AllPairs-from_increasing}
use Rattle.dsm_isa.specs.ProgramText.{Sizes}
use Rattle.dsm_isa.specs.Rules.{IsInitial}
use Rattle.dsm_grammar.specs.declared.fault.Bound.TheVariants.{Pages, Words, Locks, Barriers, Flags, Address}
use Rattle.dsm_grammar.specs.Faults.{is_directive, is_instruction, begins_code, is_late, line_fault}
use Rattle.dsm_grammar.specs.Grammar.{meaning_of, instruction_in, set_by, settings_of, has_instruction, place_of}
use Rattle.dsm_grammar.specs.Lines.{label_in, label_of, statement_of}
use Rattle.dsm_grammar.specs.Operands.{Within, Number as ANumber}
use Rattle.dsm_grammar.specs.Settings.{Settings, default_settings, starts_as}
use Rattle.dsm_grammar.specs.Statements.{Statement, statement, named, directives, instructions}
use Rattle.dsm_list.specs.Canonical.{init_line}
use Rattle.dsm_list.specs.Lines.{joined}
use Rattle.dsm_isa.specs.Operands.{Operand, Number, AreOperands}
use Rattle.dsm_list.specs.Spelling.{operand_word}
use Rattle.dsm_list.proofs.Words.{is_word}
use Rattle.dsm_list.proofs.Operands.{value, AllSuit, values_of-words, operands_fault-words, length-suit}
use Rattle.dsm_list.proofs.Reading.{Reads, Reads-named, has_instruction-reads, line_fault-reads, statement_fault-none}

-- the name of a directive, with operands that there are
pub record Directive (name : List ℕ) (operands : List Operand) : Type 0 where
  pub word : is_word name ≡ true
  pub no_label : label_in name ≡ None
  pub no_instruction : (sizes : Sizes) → named name (instructions sizes) ≡ None
  pub known : is_directive name ≡ true
  pub short : length name ≤ 9
  pub few : length operands ≤ 3
  pub range : AreOperands operands

-- its row of the table behind these settings: the operands are what is wanted there
pub record Sets (settings : Settings) (name : List ℕ) (operands : List Operand) : Type 0 where
  pub says : Statement Settings
  pub found : named name (directives settings) ≡ Some says
  pub suits : (labels : List ℕ → Option ℕ) → AllSuit labels says.places operands

-- its line
abbrev pub directive_line : List ℕ → List Operand → List ℕ
directive_line name operands = joined (name ∷ map operand_word operands)

pub Reads-directive : (name : List ℕ) (operands : List Operand) → Directive name operands → Reads (directive_line name operands) None (name ∷ map operand_word operands)
Reads-directive name operands is = Reads-named name operands is.word is.no_label is.short is.few is.range

pub begins_code-directive : (name : List ℕ) (operands : List Operand) → Directive name operands → begins_code (directive_line name operands) ≡ false
begins_code-directive name operands is =
    let read = Reads-directive name operands is in
    let none : has_instruction (directive_line name operands) ≡ false =
    has_instruction-reads (directive_line name operands) None (name ∷ map operand_word operands) read
    ∙ ap (λ o. is_some (option_map (λ says. meaning_of (λ label. None) says (map operand_word operands)) o)) (is.no_instruction default_settings.sizes) in
    or_from (is_some (label_of (directive_line name operands))) (has_instruction (directive_line name operands)) (ap is_some read.label) none

-- what it sets
pub set_by-directive : (settings : Settings) (name : List ℕ) (operands : List Operand) → Directive name operands → (row : Sets settings name operands) → set_by settings (statement_of (directive_line name operands)) ≡ row.says.meaning (slice_index (map value operands))
set_by-directive settings name operands is row =
    ap (set_by settings) ((Reads-directive name operands is).words)
    ∙ ap (λ o. option_map_or (λ directive. meaning_of (λ label. None) directive (map operand_word operands)) o settings) row.found
    ∙ ap (λ values. row.says.meaning (slice_index values)) (values_of-words (λ label. None) row.says.places operands (row.suits (λ label. None)) is.range)

-- the instruction of its line is none
pub instruction_in-directive : (sizes : Sizes) (labels : List ℕ → Option ℕ) (name : List ℕ) (operands : List Operand) → Directive name operands → instruction_in sizes labels (statement_of (directive_line name operands)) ≡ None
instruction_in-directive sizes labels name operands is =
    ap (instruction_in sizes labels) ((Reads-directive name operands is).words)
    ∙ ap (option_map (λ says. meaning_of labels says (map operand_word operands))) (is.no_instruction sizes)

-- Nothing is wrong with it where it is not late.
pub line_fault-directive : (lines earlier : List (List ℕ)) (name : List ℕ) (operands : List Operand) → Directive name operands → Sets (settings_of earlier) name operands → is_late earlier (directive_line name operands) name ≡ false → line_fault lines earlier (directive_line name operands) ≡ None
line_fault-directive lines earlier name operands is row early =
    let line = directive_line name operands in
    let words = name ∷ map operand_word operands in
    let no_instruction : is_instruction name ≡ false = ap is_some (is.no_instruction default_settings.sizes) in
    line_fault-reads lines earlier line None words (Reads-directive name operands is) refl
    (statement_fault-none lines earlier line name (map operand_word operands) row.says.places
    (or_left _ _ is.known) (and_right _ _ early) (ap (λ o. option_map_or (λ directive. directive.places) o (option_map_or (λ instruction. instruction.places) (named name (instructions ((settings_of earlier).sizes))) [])) row.found)
    (length-suit (place_of lines) row.says.places operands (row.suits (place_of lines)))
    (operands_fault-words (place_of lines) row.says.places operands (row.suits (place_of lines)) is.range)
    (and_left _ _ no_instruction))

-- one number and two
one_number : (n : ℕ) → n < 2 ^ 64 → AreOperands (Number n ∷ [])
one_number n small = (small, tt)

two_numbers : (m n : ℕ) → m < 2 ^ 64 → n < 2 ^ 64 → AreOperands (Number m ∷ Number n ∷ [])
two_numbers m n small few = (small, (few, tt))

-- the directives of the sizes
pub pages-Directive : (n : ℕ) → n < 2 ^ 64 → Directive (codes ".pages") (Number n ∷ [])
pages-Directive n small = record { word = refl; no_label = refl; no_instruction = λ sizes. refl; known = refl; short = omega arith; few = omega arith; range = one_number n small }

pub words-Directive : (n : ℕ) → n < 2 ^ 64 → Directive (codes ".words") (Number n ∷ [])
words-Directive n small = record { word = refl; no_label = refl; no_instruction = λ sizes. refl; known = refl; short = omega arith; few = omega arith; range = one_number n small }

pub locks-Directive : (n : ℕ) → n < 2 ^ 64 → Directive (codes ".locks") (Number n ∷ [])
locks-Directive n small = record { word = refl; no_label = refl; no_instruction = λ sizes. refl; known = refl; short = omega arith; few = omega arith; range = one_number n small }

pub barriers-Directive : (n : ℕ) → n < 2 ^ 64 → Directive (codes ".barriers") (Number n ∷ [])
barriers-Directive n small = record { word = refl; no_label = refl; no_instruction = λ sizes. refl; known = refl; short = omega arith; few = omega arith; range = one_number n small }

pub flags-Directive : (n : ℕ) → n < 2 ^ 64 → Directive (codes ".flags") (Number n ∷ [])
flags-Directive n small = record { word = refl; no_label = refl; no_instruction = λ sizes. refl; known = refl; short = omega arith; few = omega arith; range = one_number n small }

pub pages-Sets : (s : Settings) (n : ℕ) → 0 < n → n ≤ 256 → Sets s (codes ".pages") (Number n ∷ [])
pages-Sets s n some few = record { says = statement (Within Pages 1 257 ∷ []) (λ v. record s { sizes = record (s.sizes) { pages = v 0 } }); found = refl; suits = λ labels. ((omega arith, omega arith), tt) }

pub words-Sets : (s : Settings) (n : ℕ) → 0 < n → n ≤ 256 → Sets s (codes ".words") (Number n ∷ [])
words-Sets s n some few = record { says = statement (Within Words 1 257 ∷ []) (λ v. record s { sizes = record (s.sizes) { words = v 0 } }); found = refl; suits = λ labels. ((omega arith, omega arith), tt) }

pub locks-Sets : (s : Settings) (n : ℕ) → n ≤ 64 → Sets s (codes ".locks") (Number n ∷ [])
locks-Sets s n few = record { says = statement (Within Locks 0 65 ∷ []) (λ v. record s { sizes = record (s.sizes) { locks = v 0 } }); found = refl; suits = λ labels. ((omega arith, omega arith), tt) }

pub barriers-Sets : (s : Settings) (n : ℕ) → n ≤ 16 → Sets s (codes ".barriers") (Number n ∷ [])
barriers-Sets s n few = record { says = statement (Within Barriers 0 17 ∷ []) (λ v. record s { sizes = record (s.sizes) { barriers = v 0 } }); found = refl; suits = λ labels. ((omega arith, omega arith), tt) }

pub flags-Sets : (s : Settings) (n : ℕ) → n ≤ 64 → Sets s (codes ".flags") (Number n ∷ [])
flags-Sets s n few = record { says = statement (Within Flags 0 65 ∷ []) (λ v. record s { sizes = record (s.sizes) { flags = v 0 } }); found = refl; suits = λ labels. ((omega arith, omega arith), tt) }

pub set_by-pages : (s : Settings) (n : ℕ) → 0 < n → n ≤ 256 → set_by s (statement_of (directive_line (codes ".pages") (Number n ∷ []))) ≡ record s { sizes = record (s.sizes) { pages = n } }
unfolding pages-Sets
set_by-pages s n some few = set_by-directive s (codes ".pages") (Number n ∷ []) (pages-Directive n (omega arith)) (pages-Sets s n some few)

pub set_by-words : (s : Settings) (n : ℕ) → 0 < n → n ≤ 256 → set_by s (statement_of (directive_line (codes ".words") (Number n ∷ []))) ≡ record s { sizes = record (s.sizes) { words = n } }
unfolding words-Sets
set_by-words s n some few = set_by-directive s (codes ".words") (Number n ∷ []) (words-Directive n (omega arith)) (words-Sets s n some few)

pub set_by-locks : (s : Settings) (n : ℕ) → n ≤ 64 → set_by s (statement_of (directive_line (codes ".locks") (Number n ∷ []))) ≡ record s { sizes = record (s.sizes) { locks = n } }
unfolding locks-Sets
set_by-locks s n few = set_by-directive s (codes ".locks") (Number n ∷ []) (locks-Directive n (omega arith)) (locks-Sets s n few)

pub set_by-barriers : (s : Settings) (n : ℕ) → n ≤ 16 → set_by s (statement_of (directive_line (codes ".barriers") (Number n ∷ []))) ≡ record s { sizes = record (s.sizes) { barriers = n } }
unfolding barriers-Sets
set_by-barriers s n few = set_by-directive s (codes ".barriers") (Number n ∷ []) (barriers-Directive n (omega arith)) (barriers-Sets s n few)

pub set_by-flags : (s : Settings) (n : ℕ) → n ≤ 64 → set_by s (statement_of (directive_line (codes ".flags") (Number n ∷ []))) ≡ record s { sizes = record (s.sizes) { flags = n } }
unfolding flags-Sets
set_by-flags s n few = set_by-directive s (codes ".flags") (Number n ∷ []) (flags-Directive n (omega arith)) (flags-Sets s n few)

-- the directive of an initial word
abbrev pub init_operands : ℕ × ℕ → List Operand
init_operands word = Number word.0 ∷ Number word.1 ∷ []

pub init-Directive : (word : ℕ × ℕ) → word.0 < 2 ^ 64 → word.1 < 2 ^ 64 → Directive (codes ".init") (init_operands word)
init-Directive word small few = record { word = refl; no_label = refl; no_instruction = λ sizes. refl; known = refl; short = omega arith; few = omega arith; range = two_numbers word.0 word.1 small few }

pub init-Sets : (s : Settings) (word : ℕ × ℕ) → word.0 < s.sizes.pages * s.sizes.words → Sets s (codes ".init") (init_operands word)
init-Sets s word within = record { says = statement (Within Address 0 (s.sizes.pages * s.sizes.words) ∷ ANumber ∷ []) (λ v. record s { init = starts_as (v 0) (v 1) s.init }); found = refl; suits = λ labels. ((omega arith, within), (tt, tt)) }

pub set_by-init : (s : Settings) (word : ℕ × ℕ) → word.0 < 2 ^ 64 → word.1 < 2 ^ 64 → word.0 < s.sizes.pages * s.sizes.words → set_by s (statement_of (joined (init_line word))) ≡ record s { init = starts_as word.0 word.1 s.init }
unfolding init-Sets
set_by-init s word small few within = set_by-directive s (codes ".init") (init_operands word) (init-Directive word small few) (init-Sets s word within)

-- all addresses are below this one
abbrev pub Below : ℕ → List (ℕ × ℕ) → Type 0
Below address [] = Unit {0}
Below address (word ∷ words) = (word.0 < address) × Below address words

-- the addresses ascend, from this one on, and no value is 0
abbrev pub Ascend : ℕ → List (ℕ × ℕ) → Type 0
Ascend address [] = Unit {0}
Ascend address (word ∷ words) = (address ≤ word.0) × (0 < word.1) × Ascend (word.0 + 1) words

Below-more : (low high : ℕ) (words : List (ℕ × ℕ)) → low ≤ high → Below low words → Below high words
Below-more low high [] up below = tt
Below-more low high (word ∷ words) up below = (let first = below.0 in omega arith, Below-more low high words up below.1)

Below-append : (address : ℕ) (words : List (ℕ × ℕ)) (last : ℕ × ℕ) → Below address words → last.0 < address → Below address (words ++ (last ∷ []))
Below-append address [] last below above = (above, tt)
Below-append address (word ∷ words) last below above = (below.0, Below-append address words last below.1 above)

-- a word behind all that are set goes to the end
pub starts_as-last : (address value : ℕ) (init : List (ℕ × ℕ)) → Below address init → 0 < value → starts_as address value init ≡ init ++ ((address, value) ∷ [])
starts_as-last address value [] below some = let nonzero : value ≢ 0 = omega arith in rw (ne_eqb value 0 nonzero)
starts_as-last address value (word ∷ init) below some = rw (lt-ltb word.0 address below.0) (ap (λ words. word ∷ words) (starts_as-last address value init below.1 some))

-- the word is one of the memory, and its value fits
abbrev pub FitsWord : Sizes → ℕ × ℕ → Type 0
FitsWord sizes word = (word.0 < sizes.pages * sizes.words) × (word.1 < 2 ^ 64)

-- what lines set, one behind the other
abbrev pub set_on : Settings → List (List ℕ) → Settings
set_on settings lines = fold (λ s line. set_by s (statement_of line)) settings lines

-- Initial words that ascend are set as they stand.
pub set_on-init : (settings : Settings) (low : ℕ) (words : List (ℕ × ℕ)) → settings.sizes.pages * settings.sizes.words < 2 ^ 64 → Below low settings.init → Ascend low words → All (FitsWord settings.sizes) words → set_on settings (map joined (map init_line words)) ≡ record settings { init = settings.init ++ words }
set_on-init settings low [] room below ascend within = ap (λ init. record settings { init = init }) (sym (append-nil settings.init))
set_on-init settings low (word ∷ words) room below ascend within =
    let here = within 0 word (omega arith) in
    let small : word.0 < 2 ^ 64 = let address = here.0 in omega arith in
    let under : Below word.0 settings.init = Below-more low word.0 settings.init ascend.0 below in
    let over : Below (word.0 + 1) settings.init = Below-more word.0 (word.0 + 1) settings.init (omega arith) under in
    let after : Settings = record settings { init = settings.init ++ (word ∷ []) } in
    let first : set_by settings (statement_of (joined (init_line word))) ≡ after =
    set_by-init settings word small here.1 here.0
    ∙ ap (λ init. record settings { init = init }) (starts_as-last word.0 word.1 settings.init under ascend.1) in
    ap (λ s. set_on s (map joined (map init_line words))) first
    ∙ set_on-init after (word.0 + 1) words room (Below-append (word.0 + 1) settings.init word over (omega arith)) ascend.2 (All-tail (FitsWord settings.sizes) word words within)
    ∙ ap (λ init. record settings { init = init }) (append_assoc settings.init (word ∷ []) words)

-- the initial words of a program ascend
Ascend-pairs : (low : ℕ) (words : List (ℕ × ℕ)) → AllPairs (λ x y. x < y) (map (λ w. w.0) words) → All (λ w. 0 < w.1) words → (0 < length words → low ≤ get_or (map (λ w. w.0) words) 0 0) → Ascend low words
Ascend-pairs low [] pairs values first = tt
Ascend-pairs low (word ∷ []) pairs values first = (first (omega arith), values 0 word (omega arith), tt)
Ascend-pairs low (word ∷ next ∷ words) pairs values first = (
  first (omega arith),
  values 0 word (omega arith),
  Ascend-pairs (word.0 + 1) (next ∷ words) (λ i j d below inside. pairs (suc i) (suc j) d (omega arith) (omega arith)) (All-tail (λ w. 0 < w.1) word (next ∷ words) values) (λ some. let up = pairs 0 1 0 (omega arith) (omega arith) in omega arith),
)

pub Ascend-initial : (sizes : Sizes) (words : List (ℕ × ℕ)) → IsInitial sizes words → Ascend 0 words
Ascend-initial sizes words initial =
    Ascend-pairs 0 words (AllPairs-from_increasing (map (λ w. w.0) words) initial.0) (λ k d inside. (initial.1 k d inside).1) (λ some. omega arith)
