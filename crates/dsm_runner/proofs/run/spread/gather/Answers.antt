use Rattle.std.proofs.Common.{◌≡◌, refl, suc, length, vec_len, IsSome, ap, arith, ◌∙◌}
use Rattle.std.specs.Vec.Iter.{into_iter_items}
use Rattle.dsm_protocol.specs.Processors.{ending}
use Rattle.dsm_runner.specs.Helds.{processor_by}
use Rattle.dsm_runner.specs.Workers.{IsWorker}
use Rattle.dsm_runner.specs.Places.{IsPlace}
use Rattle.dsm_runner.proofs.Fronts.{front_is, others_are, pushed_are}
use Rattle.dsm_runner.proofs.run.spread.gather.Goals as goal

pub drive-requires-clause-worker : goal.drive-requires-clause-worker
drive-requires-clause-worker g c =
    let b = c.args.shared.now in
    let n = vec_len c.loop-place.workers in
    let is = c.back-worker.ensures n (front_is (IsPlace b) (into_iter_items c.loop-place.place-iterator) (into_iter_items c.next.new.self) c.in-Some.place n c.in-Some.ensures.steps.0 c.loop-place.invariant.rest) in
    record { table = is.table; setup = is.setup; number = refl }

pub loop-place-preserved : goal.loop-place-preserved
loop-place-preserved g c =
    let b = c.args.shared.now in
    let i = c.loop-place.invariant in
    let n = vec_len c.loop-place.workers in
    let old = c.loop-place.workers in
    let new = c.push_reserved.new.self in
    let left = into_iter_items c.next.new.self in
    let back = c.back-worker.ensures n (front_is (IsPlace b) (into_iter_items c.loop-place.place-iterator) left c.in-Some.place n c.in-Some.ensures.steps.0 i.rest) in
    let done = c.drive.ensures.worker in
    let more : length (into_iter_items c.loop-place.place-iterator) ≡ suc (length left) = ap length c.in-Some.ensures.steps.0 in
    let len = c.push_reserved.ensures.len in
    let cap = c.push_reserved.ensures.capacity in
    let was = old.ok.0 in
    let now = new.ok.0 in
    record {
      count = let a = i.count in omega arith;
      room = let a = i.room in omega arith;
      rest = others_are (IsPlace b) (into_iter_items c.loop-place.place-iterator) left c.in-Some.place n (vec_len new) c.in-Some.ensures.steps.0 (omega arith) i.rest;
      done = pushed_are (IsWorker b) old.items new.items c.push_reserved.ensures.items (record { table = done.table; setup = done.setup; number = done.number ∙ back.number ∙ was }) i.done;
      ended = pushed_are (λ _ w. IsSome (ending (processor_by w))) old.items new.items c.push_reserved.ensures.items c.drive.ensures.ended i.ended;
    }
