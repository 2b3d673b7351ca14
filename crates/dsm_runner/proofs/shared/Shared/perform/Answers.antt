use Rattle.std.proofs.Common.{false}
use Rattle.dsm_words.specs.declared.op.Op.TheVariants.{Load, Store, Swap, Exchange, Add, Or}
use Rattle.dsm_runner.proofs.Moves.{asked}
use Rattle.dsm_runner.proofs.shared.Shared.perform.Goals as goal

pub load-requires : goal.load-requires
load-requires c =
    let table = c.self.inside.table.shared in
    asked table.key table.table_id c.args.seat.now.table_id c.args.self.now c.args.seat.now.id c.args.seat.now.me false c.args.op (Load c.in-Load.at) c.self.view_is c.requires.table c.requires.below c.requires.live c.requires.goes c.requires.next c.in-Load.is

pub store-requires : goal.store-requires
store-requires c =
    let table = c.self.inside.table.shared in
    asked table.key table.table_id c.args.seat.now.table_id c.args.self.now c.args.seat.now.id c.args.seat.now.me false c.args.op (Store c.in-Store.at c.in-Store.v) c.self.view_is c.requires.table c.requires.below c.requires.live c.requires.goes c.requires.next c.in-Store.is

pub swap-requires : goal.swap-requires
swap-requires c =
    let table = c.self.inside.table.shared in
    asked table.key table.table_id c.args.seat.now.table_id c.args.self.now c.args.seat.now.id c.args.seat.now.me false c.args.op (Swap c.in-Swap.at c.in-Swap.v) c.self.view_is c.requires.table c.requires.below c.requires.live c.requires.goes c.requires.next c.in-Swap.is

pub compare_exchange-requires : goal.compare_exchange-requires
compare_exchange-requires c =
    let table = c.self.inside.table.shared in
    asked table.key table.table_id c.args.seat.now.table_id c.args.self.now c.args.seat.now.id c.args.seat.now.me false c.args.op (Exchange c.in-Exchange.at c.in-Exchange.old c.in-Exchange.new) c.self.view_is c.requires.table c.requires.below c.requires.live c.requires.goes c.requires.next c.in-Exchange.is

pub fetch_add-requires : goal.fetch_add-requires
fetch_add-requires c =
    let table = c.self.inside.table.shared in
    asked table.key table.table_id c.args.seat.now.table_id c.args.self.now c.args.seat.now.id c.args.seat.now.me false c.args.op (Add c.in-Add.at c.in-Add.k) c.self.view_is c.requires.table c.requires.below c.requires.live c.requires.goes c.requires.next c.in-Add.is

pub fetch_or-requires : goal.fetch_or-requires
fetch_or-requires c =
    let table = c.self.inside.table.shared in
    asked table.key table.table_id c.args.seat.now.table_id c.args.self.now c.args.seat.now.id c.args.seat.now.me false c.args.op (Or c.in-Or.at c.in-Or.bits) c.self.view_is c.requires.table c.requires.below c.requires.live c.requires.goes c.requires.next c.in-Or.is
