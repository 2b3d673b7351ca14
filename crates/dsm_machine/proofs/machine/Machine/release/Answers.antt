use Rattle.dsm_machine.specs.Machines.{who}
use Rattle.dsm_machine.proofs.Holding.{held_release}
use Rattle.dsm_machine.proofs.machine.Machine.release.Goals as goal

pub start_free-requires-clause-free : goal.start_free-requires-clause-free
start_free-requires-clause-free c = held_release (who c.args.self.now) c.new-draw.result c.node.result (record { signal = c.args.signal; t0 = 0; g = 0 }) c.new-draw.ensures.rest
