use Rattle.std.proofs.Common.{◌≡◌, ◌%◌, ◌^◌, take, sum}
use Rattle.dsm_report.proofs.summing.sum_of.Given as goal

-- those so far are added up
abbrev pub invariant-loop-word : goal.invariant-loop-word
invariant-loop-word l = l.sum ≡ sum (take l.word-index l.words) % 2 ^ 64
