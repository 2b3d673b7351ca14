-- Lines with which nothing is wrong, one behind the other.
use Rattle.std.proofs.Common.{◌≡◌, ℕ, ◌+◌, List, [], ◌∷◌, ◌++◌, length, None, refl, sym, ap, ◌∙◌, subst, append_assoc, append-nil}
use Rattle.std.specs.Option.{option_map, option_or}
use Rattle.dsm_grammar.specs.Faults.{line_fault, first_fault_behind}

-- nothing is wrong with any of the lines behind the earlier ones, where `text` are all lines
abbrev pub Fine : List (List ℕ) → List (List ℕ) → List (List ℕ) → Type 0
Fine text earlier [] = Unit {0}
Fine text earlier (line ∷ lines) = (line_fault text earlier line ≡ None) × Fine text (earlier ++ (line ∷ [])) lines

pub Fine-append : (text earlier lines more : List (List ℕ)) → Fine text earlier lines → Fine text (earlier ++ lines) more → Fine text earlier (lines ++ more)
Fine-append text earlier [] more here there = subst (λ e. Fine text e more) (append-nil earlier) there
Fine-append text earlier (line ∷ lines) more here there =
    (here.0, Fine-append text (earlier ++ (line ∷ [])) lines more here.1 (subst (λ e. Fine text e more) (sym (append_assoc earlier (line ∷ []) lines)) there))

-- such lines have no first fault
pub first_fault_behind-fine : (earlier lines : List (List ℕ)) → Fine (earlier ++ lines) earlier lines → first_fault_behind earlier lines ≡ None
first_fault_behind-fine earlier [] fine = refl
first_fault_behind-fine earlier (line ∷ lines) fine =
    ap (λ fault. option_or (option_map (λ kind. (length earlier + 1, kind)) fault) (first_fault_behind (earlier ++ (line ∷ [])) lines)) fine.0
    ∙ first_fault_behind-fine (earlier ++ (line ∷ [])) lines (subst (λ text. Fine text (earlier ++ (line ∷ [])) lines) (sym (append_assoc earlier (line ∷ []) lines)) fine.1)
