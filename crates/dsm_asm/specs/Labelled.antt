-- The labels of lines.
use Rattle.std.specs.Prelude.{◌≡◌, ℕ, suc, if◌then◌else◌, List, [], ◌∷◌, Option, None, Some}
use Rattle.std.specs.Option.{option_map}
use Rattle.dsm_grammar.specs.Grammar.{defines, place_of}
use Rattle.dsm_asm.specs.declared.labels.Label.{Label}

-- how many lines stand before the line that defines the label, the first if several do
abbrev pub line_of : List (List ℕ) → List ℕ → Option ℕ
line_of [] label = None
line_of (line ∷ lines) label = if defines label line then Some 0 else option_map suc (line_of lines label)

-- what is held are the labels of these lines
pub record Labelled (lines : List (List ℕ)) (held : List ℕ → Option Label) : Type 0 where
  pub place : (name : List ℕ) → option_map (λ label. label.place) (held name) ≡ place_of lines name
  pub line : (name : List ℕ) → option_map (λ label. label.line) (held name) ≡ line_of lines name
