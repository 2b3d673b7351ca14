use Rattle.std.proofs.Common.{◌≡◌, suc, length, vec_len, sym, ap, subst, arith, ◌∙◌}
use Rattle.std.specs.Vec.Iter.{into_iter_items}
use Rattle.dsm_runner.specs.Workers.{IsWorker}
use Rattle.dsm_runner.specs.Places.{IsPlace}
use Rattle.dsm_runner.proofs.Fronts.{front_is, others_are, pushed_are}
use Rattle.dsm_runner.proofs.run.spread.spread.Goals as goal

pub start-place-requires-clause-worker : goal.start-place-requires-clause-worker
start-place-requires-clause-worker g c κs within =
    let b = c.args.shared.now in
    let is = front_is (IsWorker b) (into_iter_items c.loop-worker.worker-iterator) (into_iter_items c.next.new.self) c.in-Some.worker (vec_len c.loop-worker.places) c.in-Some.ensures.steps.0 c.loop-worker.invariant.rest in
    subst (λ n. IsWorker b n c.in-Some.worker) (sym c.len-n.ensures) is

pub loop-worker-preserved : goal.loop-worker-preserved
loop-worker-preserved g c =
    let b = c.args.shared.now in
    let i = c.loop-worker.invariant in
    let new = c.push_reserved.new.self in
    let left = into_iter_items c.next.new.self in
    let more : length (into_iter_items c.loop-worker.worker-iterator) ≡ suc (length left) = ap length c.in-Some.ensures.steps.0 in
    let len = c.push_reserved.ensures.len in
    let cap = c.push_reserved.ensures.capacity in
    let was = c.loop-worker.places.ok.0 in
    let now = new.ok.0 in
    record {
      count = let a = i.count in omega arith;
      room = let a = i.room in omega arith;
      rest = others_are (IsWorker b) (into_iter_items c.loop-worker.worker-iterator) left c.in-Some.worker (vec_len c.loop-worker.places) (vec_len new) c.in-Some.ensures.steps.0 (omega arith) i.rest;
      done = pushed_are (IsPlace b) c.loop-worker.places.items new.items c.push_reserved.ensures.items (subst (λ n. IsPlace b n c.start-place.result) (c.len-n.ensures ∙ was) c.start-place.ensures) i.done;
    }
