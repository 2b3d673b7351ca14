-- Rows of the tables of directives and instructions, by their names.
use Rattle.std.proofs.Common.{◌≡◌, ℕ, Bool, true, false, cond, List, [], ◌∷◌, Option, None, Some, refl, sym, ap, ◌∙◌, subst}
use Rattle.std.specs.List.{list_any}
use Rattle.std.specs.Map.{keys_of}
use Rattle.std.specs.Option.{is_some}
use Rattle.std.specs.Str.{bytes_eq}
use Rattle.std.proofs.lemmas.Map.Made.{is_some-lookup}
use Rattle.std.proofs.lemmas.Slice.Eq.{bytes_eq-Decides}
use Rattle.dsm_isa.specs.declared.instr.Instr.{Instr}
use Rattle.dsm_isa.specs.ProgramText.{Sizes}
use Rattle.dsm_grammar.specs.Settings.{Settings}
use Rattle.dsm_grammar.specs.Statements.{Statement, named, directives, instructions}

-- P holds of each row
abbrev pub EachRow : {X : Type 0} → (List ℕ → X → Type 0) → List (List ℕ × X) → Type 0
EachRow P [] = Unit {0}
EachRow P (row ∷ rows) = P row.0 row.1 × EachRow P rows

-- What holds of each row holds of the one that has the name.
found_from : {X : Type 0} (P : List ℕ → X → Type 0) (name key : List ℕ) (here x : X) (rest : Option X) (same : Bool) → bytes_eq key name ≡ same → P key here → (rest ≡ Some x → P name x) → cond same (Some here) rest ≡ Some x → P name x
found_from P name key here x rest true same holds others e =
    let is : key ≡ name = (bytes_eq-Decides key name).0 same in
    let value : here ≡ x = cc e in
    subst (λ n. P n x) is (subst (P key) value holds)
found_from P name key here x rest false same holds others e = others e

pub found : {X : Type 0} (P : List ℕ → X → Type 0) (name : List ℕ) (rows : List (List ℕ × X)) (x : X) → EachRow P rows → named name rows ≡ Some x → P name x
found P name [] x each e = absurd (cc e)
found P name (row ∷ rows) x each e =
    found_from P name row.0 row.1 x (named name rows) (bytes_eq row.0 name) refl each.0 (λ is. found P name rows x each.1 is) e

-- tables of the same names have the same names
pub named_alike : {X Y : Type 0} (name : List ℕ) (rows : List (List ℕ × X)) (others : List (List ℕ × Y)) → keys_of rows ≡ keys_of others → is_some (named name rows) ≡ is_some (named name others)
named_alike name rows others same = is_some-lookup (λ other. bytes_eq other name) rows ∙ ap (list_any (λ other. bytes_eq other name)) same ∙ sym (is_some-lookup (λ other. bytes_eq other name) others)

pub directives_alike : (name : List ℕ) (s t : Settings) → is_some (named name (directives s)) ≡ is_some (named name (directives t))
directives_alike name s t = named_alike name (directives s) (directives t) refl

pub instructions_alike : (name : List ℕ) (s t : Sizes) → is_some (named name (instructions s)) ≡ is_some (named name (instructions t))
instructions_alike name s t = named_alike name (instructions s) (instructions t) refl

-- no instruction has the name of a directive
pub instruction-no_directive : (name : List ℕ) (s : Settings) (sizes : Sizes) (i : Statement Instr) → named name (instructions sizes) ≡ Some i → named name (directives s) ≡ None
instruction-no_directive name s sizes i e = found (λ key row. named key (directives s) ≡ None) name (instructions sizes) i (assumption) e

pub directive-no_instruction : (name : List ℕ) (s : Settings) (sizes : Sizes) (d : Statement Settings) → named name (directives s) ≡ Some d → named name (instructions sizes) ≡ None
directive-no_instruction name s sizes d e = go (named name (instructions sizes)) refl
  where
    go : (o : Option (Statement Instr)) → named name (instructions sizes) ≡ o → o ≡ None
    go None is = refl
    go (Some i) is = absurd (cc (instruction-no_directive name s sizes i is, e))
