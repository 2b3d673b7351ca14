use Rattle.std.proofs.Common.{◌≡◌, ◌++◌, take}
use Rattle.dsm_samples.proofs.entries.append.Given as goal

-- the entries so far are behind what was there
abbrev pub invariant-loop-e : goal.invariant-loop-e
invariant-loop-e l = l.trace.list ≡ l.fn.trace.list ++ take l.e-index l.entries
