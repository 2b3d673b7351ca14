use Rattle.std.proofs.Common.{◌≡◌, ◌++◌, drop, flat_map}
use Rattle.dsm_report.specs.Report.{count_line}
use Rattle.dsm_report.proofs.counts.write_named.Given as goal

-- the text, with the lines that are left, is the whole one
abbrev pub invariant-loop-count : goal.invariant-loop-count
invariant-loop-count l =
    l.lines ++ flat_map (λ count. count_line count.0.now count.1) (drop l.count-index l.named) ≡ l.initial.lines ++ flat_map (λ count. count_line count.0.now count.1) l.named
