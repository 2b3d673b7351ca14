use Rattle.std.proofs.Common.{◌-◌, ◌≤◌}
use Rattle.dsm_machine.specs.Acquires.{HasNoMapped}
use Rattle.dsm_machine.proofs.machine.Machine.next_mapped.Given as goal

abbrev pub invariant-loop-g : goal.invariant-loop-g
invariant-loop-g l = (l.from ≤ l.at) × (l.at ≤ l.self.lay.pages) × HasNoMapped l.set l.self.maps l.from l.at

abbrev pub decreases-loop-g : goal.decreases-loop-g
decreases-loop-g l = l.self.lay.pages - l.at
