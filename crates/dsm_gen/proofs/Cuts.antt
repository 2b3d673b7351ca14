-- The lines of a text that is made of lines.
use Rattle.std.proofs.Common.{◌≡◌, ℕ, ◌==◌, not, Bool, true, false, List, [], ◌∷◌, ◌++◌, append_assoc, refl, ap, ◌∙◌}
use Rattle.std.specs.List.{list_all}
use Rattle.std.proofs.lemmas.Bool.{and_parts}
use Rattle.dsm_lex.specs.Lexical.{onto, lines_of}
use Rattle.dsm_gen.specs.Template.{text_of}

-- the line has no line feed
abbrev pub has_no_feed : List ℕ → Bool
has_no_feed line = list_all (λ b. not (b == 10)) line

not-false : (b : Bool) → not b ≡ true → b ≡ false
not-false true is = cc is
not-false false is = refl

lines_of-line : (line rest : List ℕ) → has_no_feed line ≡ true → lines_of (line ++ (10 ∷ rest)) ≡ line ∷ lines_of rest
lines_of-line [] rest none = refl
lines_of-line (b ∷ line) rest none = rw (not-false (b == 10) (and_parts _ _ none).0) (ap (onto b) (lines_of-line line rest (and_parts _ _ none).1))

-- They are those lines.
pub lines_of-text : (lines : List (List ℕ)) → list_all has_no_feed lines ≡ true → lines_of (text_of lines) ≡ lines
lines_of-text [] none = refl
lines_of-text (line ∷ lines) none =
    ap lines_of (append_assoc line (10 ∷ []) (text_of lines))
    ∙ lines_of-line line (text_of lines) (and_parts _ _ none).0
    ∙ ap (λ ls. line ∷ ls) (lines_of-text lines (and_parts _ _ none).1)
