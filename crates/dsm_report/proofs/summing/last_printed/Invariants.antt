use Rattle.std.proofs.Common.{◌≡◌, None, drop}
use Rattle.std.specs.List.{filter_map, last_or}
use Rattle.dsm_report.specs.Summary.{printed_in}
use Rattle.dsm_report.proofs.summing.last_printed.Given as goal

-- with the entries that are left, the last is that of all
abbrev pub invariant-loop-i : goal.invariant-loop-i
invariant-loop-i l = last_or l.last (filter_map printed_in (drop l.i l.trace.list)) ≡ last_or None (filter_map printed_in l.trace.list)
