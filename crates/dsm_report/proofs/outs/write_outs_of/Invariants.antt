use Rattle.std.proofs.Common.{◌≡◌, ◌++◌, drop, flat_map}
use Rattle.dsm_report.specs.Report.{out_line}
use Rattle.dsm_report.proofs.outs.write_outs_of.Given as goal

-- the text, with the lines that are left, is the whole one
abbrev pub invariant-loop-i : goal.invariant-loop-i
invariant-loop-i l = l.lines ++ flat_map (out_line l.p) (drop l.i l.trace.list) ≡ l.fn.lines ++ flat_map (out_line l.p) l.trace.list
