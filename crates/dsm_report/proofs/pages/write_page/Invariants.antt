use Rattle.std.proofs.Common.{◌≡◌, ◌∷◌, ◌++◌, decimal, drop, flat_map, map}
use Rattle.dsm_report.proofs.pages.write_page.Given as goal

-- the text, with the words that are left, is the whole one
abbrev pub invariant-loop-word : goal.invariant-loop-word
invariant-loop-word l = l.lines ++ flat_map (λ w. 32 ∷ w) (map decimal (drop l.word-index l.words)) ≡ l.initial.lines ++ flat_map (λ w. 32 ∷ w) (map decimal l.words)
