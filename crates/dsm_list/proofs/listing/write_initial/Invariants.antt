use Rattle.std.proofs.Common.{◌≡◌, ◌++◌, ◌<◌, ◌^◌, All, take, drop, map, flat_map}
use Rattle.dsm_list.specs.Canonical.{init_line}
use Rattle.dsm_list.specs.Lines.{line}
use Rattle.dsm_list.proofs.listing.write_initial.Given as goal

-- the text, with the lines that are left, is the whole one; the values so far fit
abbrev pub invariant-loop-word : goal.invariant-loop-word
invariant-loop-word l = (l.lines ++ flat_map line (map init_line (drop l.word-index l.init)) ≡ l.initial.lines ++ flat_map line (map init_line l.init)) × All (λ word. word.1 < 2 ^ 64) (take l.word-index l.init)
