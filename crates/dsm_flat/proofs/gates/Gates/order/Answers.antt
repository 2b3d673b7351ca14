use Rattle.std.proofs.Common.{refl, rules}
use Rattle.dsm_flat.proofs.Adding.{ordered_more, all_ordered_gates}
use Rattle.std.proofs.Common.{length}
use Rattle.std.proofs.lemmas.Option.{slice_get_read}
use Rattle.dsm_flat.proofs.gates.Gates.order.Goals as goal

pub loop-k-preserved : goal.loop-k-preserved
loop-k-preserved c =
    let list = c.loop-k.self.list.items in
    let e = c.in_ok-order.ensures in
    record {
      index = c.loop-k.invariant.index;
      list = ordered_more c.loop-k.k c.args.self.now.list.items list c.index_mut.result.now c.order.new.self c.loop-k.invariant.list
          (slice_get_read list (length list) c.loop-k.k c.index_mut.result.now refl (search rules) c.index_mut.ensures.value) (record { o = e.o; gate = e.gate });
    }

pub returns : goal.returns
returns c = λ ts done none a.
    all_ordered_gates ts done c.args.self.now c.loop-k.self c.loop-k.k none a c.loop-k.invariant.index c.loop-k.invariant.list (search rules)
