use Rattle.dsm_machine.proofs.Holding.{on_err}
use Rattle.dsm_machine.proofs.machine.Machine.ready.Goals as goal

pub returns-clause-turn : goal.returns-clause-turn
returns-clause-turn c = on_err c.reserve_one.result c.args.self.now.room c.reserve_one.ensures.full
