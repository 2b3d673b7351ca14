use Rattle.dsm_machine.specs.Machines.{who}
use Rattle.dsm_machine.proofs.Holding.{held_look}
use Rattle.dsm_machine.proofs.machine.Machine.look_at.Goals as goal

pub start_free-requires-clause-free : goal.start_free-requires-clause-free
start_free-requires-clause-free c = held_look (who c.args.self.now) c.look-look.result c.args.of c.args.need c.look-look.ensures.rest
