use Rattle.std.proofs.Common.{◌≡◌, ◌++◌, drop}
use Rattle.dsm_report.specs.Report.{end_lines}
use Rattle.dsm_report.proofs.ends.write_ends.Given as goal

-- the text, with the lines that are left, is the whole one
abbrev pub invariant-loop-p : goal.invariant-loop-p
invariant-loop-p l = l.lines ++ end_lines l.p (drop l.p l.ends) ≡ l.fn.lines ++ end_lines 0 l.ends
