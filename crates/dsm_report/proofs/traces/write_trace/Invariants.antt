use Rattle.std.proofs.Common.{◌≡◌, ◌++◌, drop, flat_map}
use Rattle.dsm_report.specs.Report.{trace_line}
use Rattle.dsm_report.proofs.traces.write_trace.Given as goal

-- the text, with the lines that are left, is the whole one
abbrev pub invariant-loop-i : goal.invariant-loop-i
invariant-loop-i l = l.lines ++ flat_map (trace_line l.p) (drop l.i l.trace.list) ≡ l.fn.lines ++ flat_map (trace_line l.p) l.trace.list
