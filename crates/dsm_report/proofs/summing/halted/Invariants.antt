use Rattle.std.proofs.Common.{◌≡◌, take}
use Rattle.std.specs.List.{count_by}
use Rattle.dsm_report.specs.Summary.{has_halted}
use Rattle.dsm_report.proofs.summing.halted.Given as goal

-- those so far that halted are counted
abbrev pub invariant-loop-end : goal.invariant-loop-end
invariant-loop-end l = l.count ≡ count_by has_halted (take l.end-index l.ends)
