use Rattle.std.proofs.Common.{◌-◌, ◌≤◌}
use Rattle.dsm_machine.specs.Dirty.{HasNoPage}
use Rattle.dsm_machine.proofs.machine.dirty.first_page.Given as goal

abbrev pub invariant-loop-at : goal.invariant-loop-at
invariant-loop-at l = (l.fn.from ≤ l.at) × HasNoPage l.set l.fn.from l.at

abbrev pub decreases-loop-at : goal.decreases-loop-at
decreases-loop-at l = l.to - l.at
