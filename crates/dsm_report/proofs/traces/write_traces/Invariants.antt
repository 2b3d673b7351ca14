use Rattle.std.proofs.Common.{◌≡◌, ◌++◌, drop, map}
use Rattle.dsm_report.specs.Report.{trace_lines}
use Rattle.dsm_report.proofs.traces.write_traces.Given as goal

-- the text, with the lines that are left, is the whole one
abbrev pub invariant-loop-p : goal.invariant-loop-p
invariant-loop-p l = l.lines ++ trace_lines l.p (map (λ t. t.list) (drop l.p l.traces)) ≡ l.fn.lines ++ trace_lines 0 (map (λ t. t.list) l.traces)
