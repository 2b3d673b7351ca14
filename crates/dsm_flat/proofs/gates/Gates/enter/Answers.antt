use Rattle.std.proofs.Common.{rules}
use Rattle.dsm_flat.proofs.Adding.{indexed_push, added_push}
use Rattle.dsm_flat.proofs.gates.Gates.enter.Goals as goal

pub returns-clause-indexed : goal.returns-clause-indexed
returns-clause-indexed c =
    let s = c.args.self.now in
    rw c.in_ok-push.ensures.items
    (indexed_push s.index c.put.new.self s.list.items c.args.o c.new.result c.requires (search rules) (search rules) c.in_ok-put.ensures.others c.new.ensures.o)

pub returns-clause-added : goal.returns-clause-added
returns-clause-added c = λ ts bound a.
    let s = c.args.self.now in
    let e = c.new.ensures in
    added_push ts bound s (record { list = c.push.new.self; index = c.put.new.self }) c.args.o c.new.result a (search rules) (search rules) c.in_ok-put.ensures.others c.in_ok-push.ensures.items e.o e.new e.signals e.counts
