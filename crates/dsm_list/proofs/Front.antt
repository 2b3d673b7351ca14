-- The front of a canonical text: the sizes and the initial words.
use Rattle.std.proofs.Common.{◌≡◌, ℕ, ◌*◌, ◌<◌, ◌^◌, Bool, true, false, List, [], ◌∷◌, ◌++◌, map, take, drop, All, Option, refl, sym, ap, ◌∙◌, subst, arith, codes}
use Rattle.std.specs.List.{list_any, list_all, cons_option}
use Rattle.std.specs.Option.{is_some}
use Rattle.std.specs.Str.{bytes_eq}
use Rattle.std.proofs.lemmas.Bool.{or_from, and_from, and_right}
use Rattle.std.proofs.lemmas.List.Elements.{All-tail}
use Rattle.std.proofs.lemmas.List.Folds.{list_any-append}
use Rattle.std.proofs.lemmas.List.Sums.{fold-append}
use Rattle.dsm_isa.specs.Limits.{IsWithinLimits}
use Rattle.dsm_isa.specs.ProgramText.{Sizes}
use Rattle.dsm_grammar.specs.Faults.{begins_code, is_init, is_late}
use Rattle.dsm_grammar.specs.Grammar.{set_by, settings_of, code_of}
use Rattle.dsm_grammar.specs.Lines.{statement_of}
use Rattle.dsm_grammar.specs.Settings.{Settings, default_settings}
use Rattle.dsm_list.specs.Canonical.{size_lines, init_line}
use Rattle.dsm_list.specs.Lines.{joined}
use Rattle.dsm_isa.specs.Operands.{Operand, Number}
use Rattle.dsm_list.specs.Spelling.{operand_word}
use Rattle.dsm_list.proofs.Directives.{Directive, Sets, directive_line, Reads-directive, begins_code-directive, line_fault-directive, instruction_in-directive, pages-Directive, words-Directive, locks-Directive, barriers-Directive, flags-Directive, pages-Sets, words-Sets, locks-Sets, barriers-Sets, flags-Sets, set_by-pages, set_by-words, set_by-locks, set_by-barriers, set_by-flags, init_operands, init-Directive, init-Sets, set_by-init, FitsWord, set_on}
use Rattle.dsm_list.proofs.Fine.{Fine}
use Rattle.dsm_list.proofs.Operands.{are_words-operands}
use Rattle.dsm_list.proofs.Words.{is_word}

-- the limits of some sizes
abbrev pub Limited : Sizes → Type 0
Limited sizes = IsWithinLimits sizes.pages sizes.words sizes.locks sizes.barriers sizes.flags

-- the sizes are set
pub set_on-sizes : (sizes : Sizes) → Limited sizes → set_on default_settings (map joined (size_lines sizes)) ≡ record { sizes = sizes; init = [] }
set_on-sizes sizes limits =
    let lines = map joined (size_lines sizes) in
    let a : Settings = record default_settings { sizes = record (default_settings.sizes) { pages = sizes.pages } } in
    let b : Settings = record a { sizes = record (a.sizes) { words = sizes.words } } in
    let c : Settings = record b { sizes = record (b.sizes) { locks = sizes.locks } } in
    let d : Settings = record c { sizes = record (c.sizes) { barriers = sizes.barriers } } in
    ap (λ s. set_on s (drop 1 lines)) (set_by-pages default_settings sizes.pages limits.0 limits.1)
    ∙ ap (λ s. set_on s (drop 2 lines)) (set_by-words a sizes.words limits.2 limits.3)
    ∙ ap (λ s. set_on s (drop 3 lines)) (set_by-locks b sizes.locks limits.4)
    ∙ ap (λ s. set_on s (drop 4 lines)) (set_by-barriers c sizes.barriers limits.5)
    ∙ set_by-flags d sizes.flags limits.6

-- among the lines are no code and no initial word
pub record OnlySizes (lines : List (List ℕ)) : Type 0 where
  pub no_code : list_any begins_code lines ≡ false
  pub no_init : list_any (λ line. is_init (statement_of line)) lines ≡ false

pub list_any-last : (test : List ℕ → Bool) (lines : List (List ℕ)) (line : List ℕ) → list_any test lines ≡ false → test line ≡ false → list_any test (lines ++ (line ∷ [])) ≡ false
list_any-last test lines line none last = list_any-append test lines (line ∷ []) ∙ or_from _ _ none (or_from _ _ last refl)

-- a size in front is fine
Fine-size : (text earlier : List (List ℕ)) (name : List ℕ) (n : ℕ) (lines : List (List ℕ)) → OnlySizes earlier → Directive name (Number n ∷ []) → Sets (settings_of earlier) name (Number n ∷ []) → bytes_eq name (codes ".init") ≡ false →
    let line = directive_line name (Number n ∷ []) in
    (OnlySizes (earlier ++ (line ∷ [])) → Fine text (earlier ++ (line ∷ [])) lines) → Fine text earlier (line ∷ lines)
Fine-size text earlier name n lines only is row no_init behind =
    let line = directive_line name (Number n ∷ []) in
    let read = Reads-directive name (Number n ∷ []) is in
    let early : is_late earlier line name ≡ false = or_from _ _ (or_from _ _ only.no_code (ap is_some read.label)) (and_right _ _ only.no_init) in (
      line_fault-directive text earlier name (Number n ∷ []) is row early,
      behind (record {
        no_code = list_any-last begins_code earlier line only.no_code (begins_code-directive name (Number n ∷ []) is);
        no_init = list_any-last (λ other. is_init (statement_of other)) earlier line only.no_init (ap is_init read.words ∙ no_init);
      }),
    )

pub Fine-sizes : (text : List (List ℕ)) (sizes : Sizes) → Limited sizes → Fine text [] (map joined (size_lines sizes))
Fine-sizes text sizes limits =
    let lines = map joined (size_lines sizes) in
    Fine-size text [] (codes ".pages") sizes.pages (drop 1 lines) (record { no_code = refl; no_init = refl }) (pages-Directive sizes.pages (omega arith)) (pages-Sets (settings_of []) sizes.pages limits.0 limits.1) refl (λ a.
    Fine-size text (take 1 lines) (codes ".words") sizes.words (drop 2 lines) a (words-Directive sizes.words (omega arith)) (words-Sets (settings_of (take 1 lines)) sizes.words limits.2 limits.3) refl (λ b.
    Fine-size text (take 2 lines) (codes ".locks") sizes.locks (drop 3 lines) b (locks-Directive sizes.locks (omega arith)) (locks-Sets (settings_of (take 2 lines)) sizes.locks limits.4) refl (λ c.
    Fine-size text (take 3 lines) (codes ".barriers") sizes.barriers (drop 4 lines) c (barriers-Directive sizes.barriers (omega arith)) (barriers-Sets (settings_of (take 3 lines)) sizes.barriers limits.5) refl (λ d.
    Fine-size text (take 4 lines) (codes ".flags") sizes.flags [] d (flags-Directive sizes.flags (omega arith)) (flags-Sets (settings_of (take 4 lines)) sizes.flags limits.6) refl (λ e. tt)))))

-- there is no code among the front
pub no_code-sizes : (sizes : Sizes) → Limited sizes → list_any begins_code (map joined (size_lines sizes)) ≡ false
no_code-sizes sizes limits =
    or_from _ _ (begins_code-directive (codes ".pages") (Number sizes.pages ∷ []) (pages-Directive sizes.pages (omega arith)))
    (or_from _ _ (begins_code-directive (codes ".words") (Number sizes.words ∷ []) (words-Directive sizes.words (omega arith)))
    (or_from _ _ (begins_code-directive (codes ".locks") (Number sizes.locks ∷ []) (locks-Directive sizes.locks (omega arith)))
    (or_from _ _ (begins_code-directive (codes ".barriers") (Number sizes.barriers ∷ []) (barriers-Directive sizes.barriers (omega arith)))
    (or_from _ _ (begins_code-directive (codes ".flags") (Number sizes.flags ∷ []) (flags-Directive sizes.flags (omega arith))) refl))))

pub no_code-init : (sizes : Sizes) (words : List (ℕ × ℕ)) → sizes.pages * sizes.words < 2 ^ 64 → All (FitsWord sizes) words → list_any begins_code (map joined (map init_line words)) ≡ false
no_code-init sizes [] room within = refl
no_code-init sizes (word ∷ words) room within =
    let here = within 0 word (omega arith) in
    let small : word.0 < 2 ^ 64 = let address = here.0 in omega arith in
    or_from _ _ (begins_code-directive (codes ".init") (init_operands word) (init-Directive word small here.1)) (no_code-init sizes words room (All-tail (FitsWord sizes) word words within))

-- Initial words behind lines without code are fine.
pub Fine-init : (text earlier : List (List ℕ)) (sizes : Sizes) (words : List (ℕ × ℕ)) → list_any begins_code earlier ≡ false → (settings_of earlier).sizes ≡ sizes → sizes.pages * sizes.words < 2 ^ 64 → All (FitsWord sizes) words → Fine text earlier (map joined (map init_line words))
Fine-init text earlier sizes [] no_code same room within = tt
Fine-init text earlier sizes (word ∷ words) no_code same room within =
    let here = within 0 word (omega arith) in
    let small : word.0 < 2 ^ 64 = let address = here.0 in omega arith in
    let settings = settings_of earlier in
    let inside : word.0 < settings.sizes.pages * settings.sizes.words = subst (λ (s : Sizes). word.0 < s.pages * s.words) (sym same) here.0 in
    let is = init-Directive word small here.1 in
    let line = joined (init_line word) in
    let read = Reads-directive (codes ".init") (init_operands word) is in
    let early : is_late earlier line (codes ".init") ≡ false = or_from _ _ (or_from _ _ no_code (ap is_some read.label)) refl in
    let next : (settings_of (earlier ++ (line ∷ []))).sizes ≡ sizes =
    ap (λ (s : Settings). s.sizes) (fold-append (λ s other. set_by s (statement_of other)) default_settings earlier (line ∷ []) ∙ set_by-init settings word small here.1 inside) ∙ same in (
      line_fault-directive text earlier (codes ".init") (init_operands word) is (init-Sets settings word inside) early,
      Fine-init text (earlier ++ (line ∷ [])) sizes words (list_any-last begins_code earlier line no_code (begins_code-directive (codes ".init") (init_operands word) is)) next room (All-tail (FitsWord sizes) word words within),
    )

-- the words of the front's lines are words
are_words-directive : (name : List ℕ) (operands : List Operand) → Directive name operands → list_all is_word (name ∷ map operand_word operands) ≡ true
are_words-directive name operands is = and_from _ _ is.word (are_words-operands operands is.range)

pub are_words-sizes : (sizes : Sizes) → Limited sizes → list_all (list_all is_word) (size_lines sizes) ≡ true
are_words-sizes sizes limits =
    and_from _ _ (are_words-directive (codes ".pages") (Number sizes.pages ∷ []) (pages-Directive sizes.pages (omega arith)))
    (and_from _ _ (are_words-directive (codes ".words") (Number sizes.words ∷ []) (words-Directive sizes.words (omega arith)))
    (and_from _ _ (are_words-directive (codes ".locks") (Number sizes.locks ∷ []) (locks-Directive sizes.locks (omega arith)))
    (and_from _ _ (are_words-directive (codes ".barriers") (Number sizes.barriers ∷ []) (barriers-Directive sizes.barriers (omega arith)))
    (and_from _ _ (are_words-directive (codes ".flags") (Number sizes.flags ∷ []) (flags-Directive sizes.flags (omega arith))) refl))))

pub are_words-init : (sizes : Sizes) (words : List (ℕ × ℕ)) → sizes.pages * sizes.words < 2 ^ 64 → All (FitsWord sizes) words → list_all (list_all is_word) (map init_line words) ≡ true
are_words-init sizes [] room within = refl
are_words-init sizes (word ∷ words) room within =
    let here = within 0 word (omega arith) in
    let small : word.0 < 2 ^ 64 = let address = here.0 in omega arith in
    and_from _ _ (are_words-directive (codes ".init") (init_operands word) (init-Directive word small here.1)) (are_words-init sizes words room (All-tail (FitsWord sizes) word words within))

-- no instruction is read of the front
pub code_of-sizes : (there : Sizes) (labels : List ℕ → Option ℕ) (sizes : Sizes) → Limited sizes → code_of there labels (map joined (size_lines sizes)) ≡ []
code_of-sizes there labels sizes limits =
    let lines = map joined (size_lines sizes) in
    let none = λ (name : List ℕ) (n : ℕ) (is : Directive name (Number n ∷ [])). instruction_in-directive there labels name (Number n ∷ []) is in
    ap (λ o. cons_option o (code_of there labels (drop 1 lines))) (none (codes ".pages") sizes.pages (pages-Directive sizes.pages (omega arith)))
    ∙ ap (λ o. cons_option o (code_of there labels (drop 2 lines))) (none (codes ".words") sizes.words (words-Directive sizes.words (omega arith)))
    ∙ ap (λ o. cons_option o (code_of there labels (drop 3 lines))) (none (codes ".locks") sizes.locks (locks-Directive sizes.locks (omega arith)))
    ∙ ap (λ o. cons_option o (code_of there labels (drop 4 lines))) (none (codes ".barriers") sizes.barriers (barriers-Directive sizes.barriers (omega arith)))
    ∙ ap (λ o. cons_option o []) (none (codes ".flags") sizes.flags (flags-Directive sizes.flags (omega arith)))

pub code_of-init : (there : Sizes) (labels : List ℕ → Option ℕ) (sizes : Sizes) (words : List (ℕ × ℕ)) → sizes.pages * sizes.words < 2 ^ 64 → All (FitsWord sizes) words → code_of there labels (map joined (map init_line words)) ≡ []
code_of-init there labels sizes [] room within = refl
code_of-init there labels sizes (word ∷ words) room within =
    let here = within 0 word (omega arith) in
    let small : word.0 < 2 ^ 64 = let address = here.0 in omega arith in
    ap (λ o. cons_option o (code_of there labels (map joined (map init_line words)))) (instruction_in-directive there labels (codes ".init") (init_operands word) (init-Directive word small here.1))
    ∙ code_of-init there labels sizes words room (All-tail (FitsWord sizes) word words within)
