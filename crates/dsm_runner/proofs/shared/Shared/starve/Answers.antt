use Rattle.std.proofs.Common.{true}
use Rattle.dsm_words.specs.declared.op.Op.TheVariants.{Exchange}
use Rattle.dsm_runner.proofs.Moves.{asked}
use Rattle.dsm_runner.proofs.shared.Shared.starve.Goals as goal

pub compare_exchange-requires : goal.compare_exchange-requires
compare_exchange-requires c =
    let table = c.self.inside.table.shared in
    asked table.key table.table_id c.args.seat.now.table_id c.args.self.now c.args.seat.now.id c.args.seat.now.me true c.args.op (Exchange c.in-Exchange.at c.in-Exchange.old c.in-Exchange.new) c.self.view_is c.requires.table c.requires.below c.requires.live c.requires.goes c.requires.next c.in-Exchange.is
