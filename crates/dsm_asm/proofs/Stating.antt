-- What is wrong with a statement, and what it leaves.
use Rattle.std.proofs.Common.{◌≡◌, ℕ, Bool, true, false, List, [], ◌∷◌, ◌++◌, append-nil, length, Option, None, Some, refl, sym, ap, ◌∙◌, subst}
use Rattle.std.specs.Prelude.{if◌then◌else◌, codes, nat_le, not, ◌||◌, ◌&&◌, ◌==◌}
use Rattle.std.specs.Option.{option_or}
use Rattle.std.specs.Str.{bytes_eq}
use Rattle.dsm_isa.specs.ProgramText.{Sizes}
use Rattle.dsm_grammar.specs.declared.fault.AsmKind.{AsmKind}
use Rattle.dsm_grammar.specs.declared.fault.AsmKind.TheVariants.{UnknownWord, DirectiveLate, BadOperand, Limit}
use Rattle.dsm_grammar.specs.declared.fault.Bound.TheVariants.{Code}
use Rattle.dsm_grammar.specs.Settings.{Settings, default_settings}
use Rattle.dsm_grammar.specs.Statements.{named, directives, instructions}
use Rattle.dsm_grammar.specs.Grammar.{meaning_of}
use Rattle.dsm_grammar.specs.Faults.{is_of_size, operands_fault}
use Rattle.dsm_grammar.proofs.Tables.{directive-no_instruction}
use Rattle.dsm_asm.specs.declared.fault.LineErr.{LineErr}
use Rattle.dsm_asm.specs.declared.forms.Form.{Form}
use Rattle.dsm_asm.specs.declared.forms.Form.TheVariants.{Halt as Halts, Li as Lis, Mov as Movs, Jmp as Jmps, Register as OfRegister, Arithmetic as OfArithmetic, Number as OfNumber, Branch as OfBranch, Object as OfObject}
use Rattle.dsm_asm.specs.declared.forms.OnObject.TheVariants.{Lock as OnLock, Unlock as OnUnlock, Bar as OnBar, Set as OnSet, Wait as OnWait, Waitr as OnWaitr}
use Rattle.dsm_asm.specs.declared.said.Statement.{Statement}
use Rattle.dsm_asm.specs.declared.settings.Directive.{Directive}
use Rattle.dsm_asm.specs.Assembled.{IsRefused}
use Rattle.dsm_asm.specs.Directives.{directive_in, of_size, initial}
use Rattle.dsm_asm.specs.Forms.{statement_in}
use Rattle.dsm_asm.specs.Lines.{Says}
use Rattle.dsm_asm.specs.Past.{Past, behind_statement, statement_fault_behind, directive_fault, instruction_fault}
use Rattle.dsm_asm.specs.Words.{listed, words_fault}
use Rattle.dsm_asm.proofs.Holding.{few_in, few_by, words_fault-held, listed-sound}

-- the name is that of this directive
pub record Directs (name : List ℕ) (d : Directive) : Type 0 where
  pub row : (s : Settings) → named name (directives s) ≡ Some (directive_in s d)
  pub size : is_of_size name ≡ of_size d
  pub init : bytes_eq name (codes ".init") ≡ initial d

-- the name is that of no directive
pub record DirectsNothing (name : List ℕ) : Type 0 where
  pub row : (s : Settings) → named name (directives s) ≡ None
  pub init : bytes_eq name (codes ".init") ≡ false

-- the name is that of an instruction of this form
abbrev pub Instructs : List ℕ → Form → Type 0
Instructs name form = (there : Sizes) → named name (instructions there) ≡ Some (statement_in there form)

-- what is wrong with a directive
directive-case : (late number many : Bool) (fault : Option AsmKind) → (if not (true || false) then Some UnknownWord else if true && late then Some DirectiveLate else if number then Some BadOperand else option_or fault (if false && many then Some (Limit Code) else None)) ≡ (if late then Some DirectiveLate else if number then Some BadOperand else fault)
directive-case true number many fault = refl
directive-case false true many fault = refl
directive-case false false many None = refl
directive-case false false many (Some kind) = refl

fault-directive : (past : Past) (labels : List ℕ → Option ℕ) (labelled : Bool) (name : List ℕ) (words : List (List ℕ)) (d : Directive) → Directs name d → statement_fault_behind past labels labelled (name ∷ words) ≡ directive_fault past labels labelled d words
fault-directive past labels labelled name words d directs =
    let none = directive-no_instruction name default_settings default_settings.sizes (directive_in default_settings d) (directs.row default_settings) in
    let places = (directive_in past.settings d).places in
    rw (directs.row default_settings) (rw (directs.row (past.settings)) (rw none (rw (directs.size)
    (directive-case (past.begun || labelled || of_size d && past.initial) (not (length places == length words)) (nat_le 4096 (length past.code)) (operands_fault labels places words)))))

-- what is wrong with an instruction
instruction-case : (late number : Bool) (fault many : Option AsmKind) → (if not (false || true) then Some UnknownWord else if false && late then Some DirectiveLate else if number then Some BadOperand else option_or fault many) ≡ option_or (if number then Some BadOperand else fault) many
instruction-case late true fault many = refl
instruction-case late false fault many = refl

fault-instruction : (past : Past) (labels : List ℕ → Option ℕ) (labelled : Bool) (name : List ℕ) (words : List (List ℕ)) (form : Form) → DirectsNothing name → Instructs name form → statement_fault_behind past labels labelled (name ∷ words) ≡ instruction_fault past labels form words
fault-instruction past labels labelled name words form none instructs =
    let places = (statement_in past.settings.sizes form).places in
    rw (none.row default_settings) (rw (none.row (past.settings)) (rw (instructs default_settings.sizes) (rw (instructs (past.settings.sizes))
    (instruction-case (past.begun || labelled || is_of_size name && past.initial) (not (length places == length words)) (operands_fault labels places words) (if nat_le 4096 (length past.code) then Some (Limit Code) else None)))))

-- a name of neither
fault-unknown : (past : Past) (labels : List ℕ → Option ℕ) (labelled : Bool) (name : List ℕ) (words : List (List ℕ)) → DirectsNothing name → ((there : Sizes) → named name (instructions there) ≡ None) → statement_fault_behind past labels labelled (name ∷ words) ≡ Some UnknownWord
fault-unknown past labels labelled name words none nothing = rw (none.row default_settings) (rw (nothing default_settings.sizes) refl)

-- an instruction means the same whatever objects there are
pub meaning-anywhere : (s t : Sizes) (labels : List ℕ → Option ℕ) (form : Form) (words : List (List ℕ)) → meaning_of labels (statement_in s form) words ≡ meaning_of labels (statement_in t form) words
meaning-anywhere s t labels Halts words = refl
meaning-anywhere s t labels Lis words = refl
meaning-anywhere s t labels Movs words = refl
meaning-anywhere s t labels Jmps words = refl
meaning-anywhere s t labels (OfRegister op) words = refl
meaning-anywhere s t labels (OfArithmetic op) words = refl
meaning-anywhere s t labels (OfNumber op) words = refl
meaning-anywhere s t labels (OfBranch op) words = refl
meaning-anywhere s t labels (OfObject OnLock) [] = refl
meaning-anywhere s t labels (OfObject OnLock) (word ∷ words) = refl
meaning-anywhere s t labels (OfObject OnUnlock) [] = refl
meaning-anywhere s t labels (OfObject OnUnlock) (word ∷ words) = refl
meaning-anywhere s t labels (OfObject OnBar) [] = refl
meaning-anywhere s t labels (OfObject OnBar) (word ∷ words) = refl
meaning-anywhere s t labels (OfObject OnSet) [] = refl
meaning-anywhere s t labels (OfObject OnSet) (word ∷ words) = refl
meaning-anywhere s t labels (OfObject OnWait) [] = refl
meaning-anywhere s t labels (OfObject OnWait) (word ∷ words) = refl
meaning-anywhere s t labels (OfObject OnWaitr) [] = refl
meaning-anywhere s t labels (OfObject OnWaitr) (word ∷ words) = refl

pub Past-same : (p q : Past) → p.settings ≡ q.settings → p.initial ≡ q.initial → p.begun ≡ q.begun → p.code ≡ q.code → p ≡ q
Past-same p q a b c d = λ i. record { settings = a i; initial = b i; begun = c i; code = d i }

-- a directive that isn't late stands behind no label and no instruction
begun-stays : (begun labelled sized : Bool) (fault : Option AsmKind) → (if begun || labelled || sized then Some DirectiveLate else fault) ≡ None → begun ≡ (begun || (labelled || false))
begun-stays true labelled sized fault e = absurd (cc e)
begun-stays false true sized fault e = absurd (cc e)
begun-stays false false sized fault e = refl

late-sound : (late : Bool) (fault : Option AsmKind) → (if late then Some DirectiveLate else fault) ≡ None → fault ≡ None
late-sound true fault e = absurd (cc e)
late-sound false fault e = e

pub or-false : (b : Bool) → b ≡ (b || false)
or-false true = refl
or-false false = refl

or-true : (a b : Bool) → true ≡ (a || (b || true))
or-true true b = refl
or-true false true = refl
or-true false false = refl

or-sound : {X : Type 0} (a b : Option X) → option_or a b ≡ None → a ≡ None
or-sound None b e = refl
or-sound (Some x) b e = absurd (cc e)

-- A directive that was taken.
pub taken-directive : (past new : Past) (labels : List ℕ → Option ℕ) (labelled : Bool) (s : Statement) (d : Directive) (words : List (List ℕ)) → Says words s → Directs s.name.now d
    → directive_fault past labels labelled d (listed s.operands) ≡ None → new.settings ≡ meaning_of (λ label. None) (directive_in past.settings d) (listed s.operands) → new.initial ≡ (past.initial || initial d) → new.begun ≡ past.begun → new.code ≡ past.code
    → (statement_fault_behind past labels labelled words ≡ None) × (new ≡ behind_statement labels labelled words past)
taken-directive past new labels labelled s d words says directs sound settings init begun code =
    let name = s.name.now in
    let few = few_by (past.settings) d in
    let held = words_fault-held (s.operands) (says.behind) labels ((directive_in past.settings d).places) (says.operands) few in
    let late = past.begun || labelled || of_size d && past.initial in
    let all = listed-sound (s.operands) (says.behind) labels ((directive_in past.settings d).places) (says.operands) few (late-sound late (words_fault labels (directive_in past.settings d).places (listed s.operands)) sound) in
    let none = directive-no_instruction name default_settings default_settings.sizes (directive_in default_settings d) (directs.row default_settings) in
    let same : directive_fault past labels labelled d says.behind ≡ None = ap (λ f. if late then Some DirectiveLate else f) (sym held) ∙ sound in
    let stays = begun-stays past.begun labelled (of_size d && past.initial) (words_fault labels (directive_in past.settings d).places (listed s.operands)) sound in
    rw says.are (
      fault-directive past labels labelled name says.behind d directs ∙ same,
      rw none (rw (directs.row past.settings) (rw directs.init (Past-same new _ (settings ∙ ap (meaning_of (λ label. None) (directive_in past.settings d)) all) init (begun ∙ stays) (code ∙ sym (append-nil past.code))))),
    )

-- An instruction that was taken.
pub taken-instruction : (past new : Past) (labels : List ℕ → Option ℕ) (labelled : Bool) (s : Statement) (form : Form) (words : List (List ℕ)) → Says words s → DirectsNothing s.name.now → Instructs s.name.now form
    → instruction_fault past labels form (listed s.operands) ≡ None → new.settings ≡ past.settings → new.initial ≡ past.initial → new.begun ≡ true → new.code ≡ past.code ++ meaning_of labels (statement_in past.settings.sizes form) (listed s.operands) ∷ []
    → (statement_fault_behind past labels labelled words ≡ None) × (new ≡ behind_statement labels labelled words past)
taken-instruction past new labels labelled s form words says nothing instructs sound settings init begun code =
    let name = s.name.now in
    let few = few_in (past.settings.sizes) form in
    let places = (statement_in past.settings.sizes form).places in
    let many : Option AsmKind = if nat_le 4096 (length past.code) then Some (Limit Code) else None in
    let held = words_fault-held (s.operands) (says.behind) labels places (says.operands) few in
    let all = listed-sound (s.operands) (says.behind) labels places (says.operands) few (or-sound (words_fault labels places (listed s.operands)) many sound) in
    let same : instruction_fault past labels form says.behind ≡ None = ap (λ f. option_or f many) (sym held) ∙ sound in
    let means = ap (meaning_of labels (statement_in past.settings.sizes form)) all ∙ meaning-anywhere (past.settings.sizes) default_settings.sizes labels form says.behind in
    rw says.are (
      fault-instruction past labels labelled name says.behind form nothing instructs ∙ same,
      rw (instructs default_settings.sizes) (rw (nothing.row past.settings) (rw nothing.init (Past-same new _ settings (init ∙ or-false past.initial) (begun ∙ or-true past.begun labelled) (code ∙ ap (λ i. past.code ++ i ∷ []) means)))),
    )

-- A refusal of a directive.
pub refused-directive : (past : Past) (labels : List ℕ → Option ℕ) (labelled : Bool) (s : Statement) (d : Directive) (words : List (List ℕ)) (e : LineErr) → Says words s → Directs s.name.now d → IsRefused (directive_fault past labels labelled d (listed s.operands)) e → IsRefused (statement_fault_behind past labels labelled words) e
refused-directive past labels labelled s d words e says directs is =
    let held = words_fault-held (s.operands) (says.behind) labels ((directive_in past.settings d).places) (says.operands) (few_by (past.settings) d) in
    let late = past.begun || labelled || of_size d && past.initial in
    rw says.are (subst (λ f. IsRefused f e) (ap (λ f. if late then Some DirectiveLate else f) held ∙ sym (fault-directive past labels labelled s.name.now says.behind d directs)) is)

-- A refusal of an instruction.
pub refused-instruction : (past : Past) (labels : List ℕ → Option ℕ) (labelled : Bool) (s : Statement) (form : Form) (words : List (List ℕ)) (e : LineErr) → Says words s → DirectsNothing s.name.now → Instructs s.name.now form → IsRefused (instruction_fault past labels form (listed s.operands)) e → IsRefused (statement_fault_behind past labels labelled words) e
refused-instruction past labels labelled s form words e says nothing instructs is =
    let held = words_fault-held (s.operands) (says.behind) labels ((statement_in past.settings.sizes form).places) (says.operands) (few_in (past.settings.sizes) form) in
    let many : Option AsmKind = if nat_le 4096 (length past.code) then Some (Limit Code) else None in
    rw says.are (subst (λ f. IsRefused f e) (ap (λ f. option_or f many) held ∙ sym (fault-instruction past labels labelled s.name.now says.behind form nothing instructs)) is)

-- A word that says nothing.
pub refused-unknown : (past : Past) (labels : List ℕ → Option ℕ) (labelled : Bool) (s : Statement) (words : List (List ℕ)) → Says words s → DirectsNothing s.name.now → ((there : Sizes) → named s.name.now (instructions there) ≡ None) → statement_fault_behind past labels labelled words ≡ Some UnknownWord
refused-unknown past labels labelled s words says nothing none = rw says.are (fault-unknown past labels labelled s.name.now says.behind nothing none)
