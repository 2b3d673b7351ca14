use Rattle.std.proofs.Common.{◌≡◌, ◌++◌, drop, map}
use Rattle.dsm_report.specs.Report.{out_lines}
use Rattle.dsm_report.proofs.outs.write_outs.Given as goal

-- the text, with the lines that are left, is the whole one
abbrev pub invariant-loop-p : goal.invariant-loop-p
invariant-loop-p l = l.lines ++ out_lines l.p (map (λ t. t.list) (drop l.p l.traces)) ≡ l.fn.lines ++ out_lines 0 (map (λ t. t.list) l.traces)
