use Rattle.std.proofs.Common.{◌≡◌, ◌++◌, drop}
use Rattle.dsm_report.specs.Report.{race_lines}
use Rattle.dsm_report.proofs.races.write_races.Given as goal

-- the text, with the lines that are left, is the whole one
abbrev pub invariant-loop-w : goal.invariant-loop-w
invariant-loop-w l = l.lines ++ race_lines l.w (drop l.w l.races) ≡ l.fn.lines ++ race_lines 0 l.races
