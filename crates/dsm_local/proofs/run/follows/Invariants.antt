use Rattle.std.proofs.Common.{◌+◌, ◌-◌, length}
use Rattle.dsm_local.specs.Following.{left}
use Rattle.dsm_local.proofs.Deciding.{IsAt}
use Rattle.dsm_local.proofs.run.follows.Given as goal

-- The entries that were taken are those that a reader takes up to this stand, and the rest is what it goes on with.
abbrev pub invariant-loop-step : goal.invariant-loop-step
invariant-loop-step l = IsAt l.code l.setting l.end l.trace.list l.stand l.taken

-- Each step takes an entry or leaves fewer instructions.
abbrev pub decreases-loop-step : goal.decreases-loop-step
decreases-loop-step l = (length l.trace.list - l.taken) + left l.setting.turns l.stand
