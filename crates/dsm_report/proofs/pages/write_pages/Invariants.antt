use Rattle.std.proofs.Common.{◌≡◌, ◌++◌, flat_map}
use Rattle.std.specs.List.{range_with_len}
use Rattle.dsm_report.specs.Report.{page_line}
use Rattle.dsm_report.proofs.pages.write_pages.Given as goal

-- the pages so far have their lines
abbrev pub invariant-loop-g : goal.invariant-loop-g
invariant-loop-g l = l.lines ≡ l.fn.lines ++ flat_map (page_line l.fn.shape.words l.words) (range_with_len 0 l.g)
