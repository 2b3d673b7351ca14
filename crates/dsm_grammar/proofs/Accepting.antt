-- Each line without a fault keeps what the lines before it kept.
use Rattle.std.proofs.Common.{◌≡◌, ℕ, ◌+◌, ◌<◌, Bool, true, false, cond, eqb, leb, List, [], ◌∷◌, ◌++◌, length, codes, Option, None, Some, refl, sym, ap, ◌∙◌, subst, append_assoc, append-nil, arith}
use Rattle.std.specs.Prelude.{◌||◌, ◌&&◌, not, slice_index, if◌then◌else◌}
use Rattle.std.specs.List.{list_any, cons_option}
use Rattle.std.specs.Option.{is_some, option_map, option_map_or, option_or}
use Rattle.std.specs.Str.{bytes_eq}
use Rattle.dsm_isa.specs.declared.instr.Instr.{Instr}
use Rattle.dsm_grammar.specs.declared.fault.AsmKind.{AsmKind}
use Rattle.dsm_grammar.specs.declared.fault.AsmKind.TheVariants.{NotAscii, LongLine, DoubleLabel, UnknownWord, DirectiveLate, BadOperand, Limit, NoCode}
use Rattle.dsm_grammar.specs.declared.fault.Bound.TheVariants.{Code}
use Rattle.dsm_lex.specs.Lexical.{lines_of}
use Rattle.dsm_grammar.specs.Lines.{is_plain, is_short, label_of, statement_of}
use Rattle.dsm_grammar.specs.Operands.{Place}
use Rattle.dsm_grammar.specs.Settings.{Settings, default_settings}
use Rattle.dsm_grammar.specs.Statements.{Statement, named, directives, instructions}
use Rattle.dsm_grammar.specs.Grammar.{values_of, meaning_of, set_by, settings_of, instruction_in, code_of, has_instruction, defines, place_of}
use Rattle.dsm_grammar.specs.Faults.{first_fault_of, is_directive, is_instruction, is_of_size, is_late, begins_code, places_of, operands_fault, statement_fault, line_fault, first_fault_behind}
use Rattle.dsm_grammar.proofs.Tables.{directives_alike, instructions_alike, instruction-no_directive, directive-no_instruction}
use Rattle.dsm_grammar.proofs.Places.{LabelsWithin, TakeAll, TakeAll-values, option_or-none}
use Rattle.dsm_grammar.proofs.Counting.{count, length-code_of, count-none, is_some-option_map, place_of-most}
use Rattle.dsm_grammar.proofs.Keeping.{Inside-named, Sets-named, KeptBy, KeptWith, has_init, KeptBy-none, KeptBy-push, Kept-same, Kept-blank, Kept-instruction, Kept-directive}

-- what is not wrong with a statement
statement-sound : (directive instruction late same many : Bool) (operands : Option AsmKind) → (if not (directive || instruction) then Some UnknownWord else if directive && late then Some DirectiveLate else if not same then Some BadOperand else option_or operands (if instruction && many then Some (Limit Code) else None)) ≡ None → ((directive || instruction) ≡ true) × (directive ≡ true → late ≡ false) × (same ≡ true) × (operands ≡ None) × (instruction ≡ true → many ≡ false)
statement-sound directive instruction late same many operands e = grind (arith)

-- why a directive is not late
late-not : (begun labelled size initial : Bool) → (begun || labelled || size && initial) ≡ false → (begun ≡ false) × (size ≡ true → initial ≡ false)
late-not begun labelled size initial e = grind (arith)

-- a line without a fault has a statement without a fault
line-sound : (plain short double : Bool) (fault : Option AsmKind) → (if not plain then Some NotAscii else if not short then Some LongLine else if double then Some DoubleLabel else fault) ≡ None → fault ≡ None
line-sound plain short double fault e = grind (arith)

is_some-from : {X : Type 0} (o : Option X) (x : X) → o ≡ Some x → is_some o ≡ true
is_some-from o x e = ap is_some e

-- what is so of a statement without a fault
record NoFault (lines earlier : List (List ℕ)) (line name : List ℕ) (words : List (List ℕ)) : Type 0 where
  known : (is_directive name || is_instruction name) ≡ true
  early : is_directive name ≡ true → is_late earlier line name ≡ false
  same : length (places_of (settings_of earlier) name) ≡ length words
  operands : operands_fault (place_of lines) (places_of (settings_of earlier) name) words ≡ None
  room : is_instruction name ≡ true → count earlier < 4096

NoFault-from : (lines earlier : List (List ℕ)) (line name : List ℕ) (words : List (List ℕ)) → statement_fault lines earlier line (name ∷ words) ≡ None → NoFault lines earlier line name words
NoFault-from lines earlier line name words e =
    let places = places_of (settings_of earlier) name in
    let sound = statement-sound (is_directive name) (is_instruction name) (is_late earlier line name) (eqb (length places) (length words)) (leb 4096 (count earlier)) (operands_fault (place_of lines) places words) e in
    record {
      known = sound.0;
      early = sound.1;
      same = equal (length places) (length words) sound.2;
      operands = sound.3;
      room = λ is. below (count earlier) (sound.4 is);
    }
  where
    equal : (m n : ℕ) → eqb m n ≡ true → m ≡ n
    equal m n e = grind (arith)

    below : (n : ℕ) → leb 4096 n ≡ false → n < 4096
    below n e = grind (arith)

-- the places of a name are those of its row
places-directive : (s : Settings) (name : List ℕ) (d : Statement Settings) → named name (directives s) ≡ Some d → places_of s name ≡ d.places
places-directive s name d e = ap (λ o. option_map_or (λ directive. directive.places) o (option_map_or (λ instruction. instruction.places) (named name (instructions s.sizes)) [])) e

places-instruction : (s : Settings) (name : List ℕ) (i : Statement Instr) → named name (directives s) ≡ None → named name (instructions s.sizes) ≡ Some i → places_of s name ≡ i.places
places-instruction s name i none e =
    ap (λ o. option_map_or (λ directive. directive.places) o (option_map_or (λ instruction. instruction.places) (named name (instructions s.sizes)) [])) none
    ∙ ap (λ o. option_map_or (λ instruction. instruction.places) o []) e

-- the operands are what the places take
NoFault-takes : (most : ℕ) (labels : List ℕ → Option ℕ) → LabelsWithin most labels → (lines earlier : List (List ℕ)) (line name : List ℕ) (words : List (List ℕ)) (places : List Place) → NoFault lines earlier line name words → places_of (settings_of earlier) name ≡ places → TakeAll most places (slice_index (values_of labels places words))
NoFault-takes most labels bounded lines earlier line name words places sound are =
    TakeAll-values most (place_of lines) labels bounded places words
    (subst (λ ps. length ps ≡ length words) are sound.same)
    (subst (λ ps. operands_fault (place_of lines) ps words ≡ None) are sound.operands)

-- a line of a directive
KeptWith-directive : (labels : List ℕ → Option ℕ) (most : ℕ) (lines earlier : List (List ℕ)) (line name : List ℕ) (words : List (List ℕ)) (d : Statement Settings) → named name (directives (settings_of earlier)) ≡ Some d → NoFault lines earlier line name words → KeptBy labels most earlier → KeptWith labels most earlier (name ∷ words)
KeptWith-directive labels most lines earlier line name words d e sound kept =
    let s = settings_of earlier in
    let v = slice_index (values_of (λ label. None) d.places words) in
    let t = d.meaning v in
    let set : set_by s (name ∷ words) ≡ t = ap (λ o. option_map_or (λ directive. meaning_of (λ label. None) directive words) o s) e in
    let takes : TakeAll most d.places v = NoFault-takes most (λ label. None) (λ word. omega arith) lines earlier line name words d.places sound (places-directive s name d e) in
    let is : is_directive name ≡ true = directives_alike name default_settings s ∙ is_some-from (named name (directives s)) d e in
    let early = late-not (list_any begins_code earlier) (is_some (label_of line)) (is_of_size name) (has_init earlier) (sound.early is) in
    let code : code_of t.sizes labels earlier ++ [] ≡ code_of (set_by s (name ∷ words)).sizes labels earlier ++ cons_option (instruction_in (set_by s (name ∷ words)).sizes labels (name ∷ words)) [] =
    ap (λ o. code_of t.sizes labels earlier ++ cons_option (option_map (λ i. meaning_of labels i words) o) []) (sym (directive-no_instruction name s t.sizes d e))
    ∙ ap (λ u. code_of u.sizes labels earlier ++ cons_option (instruction_in u.sizes labels (name ∷ words)) []) (sym set) in
    let numbers : count earlier + 0 ≡ count earlier + cond (is_some (instruction_in default_settings.sizes (λ label. None) (name ∷ words))) 1 0 =
    ap (λ o. count earlier + cond (is_some (option_map (λ i. meaning_of (λ label. None) i words) o)) 1 0) (sym (directive-no_instruction name s default_settings.sizes d e)) in
    Kept-same most t (set_by s (name ∷ words)) _ _ _ _ _ _ (sym set) code numbers refl
    (Kept-directive most s t name (code_of t.sizes labels earlier) (count earlier) (has_init earlier) kept.sound kept.unset early.1 (Sets-named most s name d e v takes) (length-code_of t.sizes labels earlier) (count-none earlier early.0))

-- a line of an instruction
KeptWith-instruction : (labels : List ℕ → Option ℕ) (most : ℕ) → LabelsWithin most labels → (lines earlier : List (List ℕ)) (line name : List ℕ) (words : List (List ℕ)) (i : Statement Instr) → named name (instructions (settings_of earlier).sizes) ≡ Some i → NoFault lines earlier line name words → KeptBy labels most earlier → KeptWith labels most earlier (name ∷ words)
KeptWith-instruction labels most bounded lines earlier line name words i e sound kept =
    let s = settings_of earlier in
    let v = slice_index (values_of labels i.places words) in
    let none = instruction-no_directive name s s.sizes i e in
    let set : set_by s (name ∷ words) ≡ s = ap (λ o. option_map_or (λ directive. meaning_of (λ label. None) directive words) o s) none in
    let takes : TakeAll most i.places v = NoFault-takes most labels bounded lines earlier line name words i.places sound (places-instruction s name i none e) in
    let is : is_instruction name ≡ true = instructions_alike name default_settings.sizes s.sizes ∙ is_some-from (named name (instructions s.sizes)) i e in
    let code : code_of s.sizes labels earlier ++ i.meaning v ∷ [] ≡ code_of (set_by s (name ∷ words)).sizes labels earlier ++ cons_option (instruction_in (set_by s (name ∷ words)).sizes labels (name ∷ words)) [] =
    ap (λ o. code_of s.sizes labels earlier ++ cons_option (option_map (λ x. meaning_of labels x words) o) []) (sym e)
    ∙ ap (λ u. code_of u.sizes labels earlier ++ cons_option (instruction_in u.sizes labels (name ∷ words)) []) (sym set) in
    let numbers : count earlier + 1 ≡ count earlier + cond (is_some (instruction_in default_settings.sizes (λ label. None) (name ∷ words))) 1 0 =
    ap (λ b. count earlier + cond b 1 0) (sym (is_some-option_map (λ x. meaning_of (λ label. None) x words) (named name (instructions default_settings.sizes)) ∙ is)) in
    Kept-same most s (set_by s (name ∷ words)) _ _ _ _ _ _ (sym set) code numbers refl
    (Kept-instruction most s (code_of s.sizes labels earlier) (i.meaning v) (count earlier) (has_init earlier) (bytes_eq name (codes ".init")) kept (Inside-named most s.sizes name i e v takes) (sound.room is))

-- a name is one or the other
one_of : (directive instruction : Bool) → (directive || instruction) ≡ true → directive ≡ false → instruction ≡ true
one_of true instruction e none = absurd (cc none)
one_of false instruction e none = e

-- whatever a line says
KeptWith-statement : (labels : List ℕ → Option ℕ) (most : ℕ) → LabelsWithin most labels → (lines earlier : List (List ℕ)) (line : List ℕ) (statement : List (List ℕ)) → statement_fault lines earlier line statement ≡ None → KeptBy labels most earlier → KeptWith labels most earlier statement
KeptWith-statement labels most bounded lines earlier line [] e kept = Kept-blank most (settings_of earlier) (code_of (settings_of earlier).sizes labels earlier) (count earlier) (has_init earlier) kept
KeptWith-statement labels most bounded lines earlier line (name ∷ words) e kept = by_directive (named name (directives (settings_of earlier))) refl
  where
    sound : NoFault lines earlier line name words
    sound = NoFault-from lines earlier line name words e

    by_instruction : is_instruction name ≡ true → (o : Option (Statement Instr)) → named name (instructions (settings_of earlier).sizes) ≡ o → KeptWith labels most earlier (name ∷ words)
    by_instruction known (Some i) is = KeptWith-instruction labels most bounded lines earlier line name words i is sound kept
    by_instruction known None is =
        absurd (cc (known, instructions_alike name default_settings.sizes (settings_of earlier).sizes ∙ ap is_some is))

    by_directive : (o : Option (Statement Settings)) → named name (directives (settings_of earlier)) ≡ o → KeptWith labels most earlier (name ∷ words)
    by_directive (Some d) is = KeptWith-directive labels most lines earlier line name words d is sound kept
    by_directive None is =
        by_instruction (one_of (is_directive name) (is_instruction name) sound.known (directives_alike name default_settings (settings_of earlier) ∙ ap is_some is))
        (named name (instructions (settings_of earlier).sizes)) refl

KeptBy-line : (labels : List ℕ → Option ℕ) (most : ℕ) → LabelsWithin most labels → (lines earlier : List (List ℕ)) (line : List ℕ) → line_fault lines earlier line ≡ None → KeptBy labels most earlier → KeptBy labels most (earlier ++ line ∷ [])
KeptBy-line labels most bounded lines earlier line e kept =
    let none = line-sound (is_plain line) (is_short line) (option_map_or (λ label. list_any (defines label) earlier) (label_of line) false) (statement_fault lines earlier line (statement_of line)) e in
    KeptBy-push labels most earlier line (KeptWith-statement labels most bounded lines earlier line (statement_of line) none kept)

option_map-none : {X Y : Type 0} (f : X → Y) (o : Option X) → option_map f o ≡ None → o ≡ None
option_map-none f None e = refl
option_map-none f (Some x) e = absurd (cc e)

-- all lines
KeptBy-behind : (labels : List ℕ → Option ℕ) (most : ℕ) → LabelsWithin most labels → (earlier lines : List (List ℕ)) → first_fault_behind earlier lines ≡ None → KeptBy labels most earlier → KeptBy labels most (earlier ++ lines)
KeptBy-behind labels most bounded earlier [] e kept = subst (KeptBy labels most) (sym (append-nil earlier)) kept
KeptBy-behind labels most bounded earlier (line ∷ lines) e kept =
    let fault = line_fault (earlier ++ line ∷ lines) earlier line in
    let none = option_or-none (option_map (λ kind. (length earlier + 1, kind)) fault) (first_fault_behind (earlier ++ line ∷ []) lines) e in
    let here = KeptBy-line labels most bounded (earlier ++ line ∷ lines) earlier line (option_map-none (λ kind. (length earlier + 1, kind)) fault none.0) kept in
    subst (KeptBy labels most) (append_assoc earlier (line ∷ []) lines) (KeptBy-behind labels most bounded (earlier ++ line ∷ []) lines none.1 here)

-- the text has an instruction
instruction-from : (has : Bool) (fault : ℕ × AsmKind) → (if has then None else Some fault) ≡ None → has ≡ true
instruction-from true fault e = refl
instruction-from false fault e = absurd (cc e)

-- The lines of a text without a fault keep it, and one has an instruction.
pub KeptBy-text : (text : List ℕ) → first_fault_of text ≡ None → let lines = lines_of text in KeptBy (place_of lines) (count lines) lines × (list_any has_instruction lines ≡ true)
KeptBy-text text e =
    let lines = lines_of text in
    let none = option_or-none (first_fault_behind [] lines) (if list_any has_instruction lines then None else Some (1, NoCode)) e in
    (KeptBy-behind (place_of lines) (count lines) (place_of-most lines) [] lines none.0 (KeptBy-none (place_of lines) (count lines)), instruction-from (list_any has_instruction lines) (1, NoCode) none.1)
