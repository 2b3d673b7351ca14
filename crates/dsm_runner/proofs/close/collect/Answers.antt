use Rattle.std.proofs.Common.{◌≡◌, ℕ, suc, ◌+◌, ◌<◌, List, [], ◌∷◌, ◌++◌, length, map, drop, arith, sym, ap, subst, ◌∙◌}
use Rattle.std.proofs.lemmas.List.{append_assoc, append-nil, drop_more, length_push, nil_from_length}
use Rattle.std.specs.Prelude.{slice_get}
use Rattle.std.specs.Vec.Iter.{into_iter_items}
use Rattle.dsm_machine.specs.declared.machine.Machine.{Machine}
use Rattle.dsm_protocol.specs.Processors.{Given}
use Rattle.dsm_runs.specs.Setups.{Setup}
use Rattle.dsm_runner.specs.Sights.{Sight, full_sight, taken_in}
use Rattle.dsm_runner.specs.Machines.{joined_sight, AreGiven}
use Rattle.dsm_runner.specs.Helds.{Held, Board}
use Rattle.dsm_runner.specs.Workers.{IsWorker, given_to}
use Rattle.dsm_runner.specs.declared.worker.Worker.{Worker}
use Rattle.dsm_runner.proofs.Joins.{joins}
use Rattle.dsm_runner.proofs.Fronts.{all_are, front_is, others_are}
use Rattle.dsm_runner.proofs.Gathers.{first_shape, shape_of, machine_is, first_given, given_more}
use Rattle.dsm_runner.proofs.close.collect.Goals as goal

pub loop-worker-init : goal.loop-worker-init
loop-worker-init c =
    let w = c.machine.inside in
    let f : Worker = c.remove.result in
    let s : Setup = c.args.table.now.shared.key in
    let b : Board = record { table = c.args.table.now.shared.table_id; setup = s } in
    let ws : List Worker = c.args.workers.items in
    let ms : List Machine = c.push.new.self.items in
    let v : Sight = w.seat.me.0 in
    let any : 0 < length ws = omega (arith, c.requires.workers.count, c.requires.some) in
    let rest : List Worker = into_iter_items c.into_iter-worker-iterator.result in
    let left : rest ≡ drop 1 ws = c.into_iter-worker-iterator.ensures.into_iter_gives.0 ∙ c.remove.ensures.items in
    let all : ws ≡ f ∷ rest = drop_more ws 0 f any ∙ (λ i. sym c.remove.ensures.value i ∷ sym left i) in
    let is : IsWorker b 0 f = c.requires.workers.each 0 f (ap (λ l. slice_get l 0) all) in
    let setup : v.setup ≡ s = ap (λ (h : Held). h.setup) c.machine.view_is ∙ is.setup in
    let number : v.number ≡ 0 = ap (λ (h : Held). h.number) c.machine.view_is ∙ is.number in
    let given : v.given ≡ given_to f = ap (λ (h : Held). h.given) c.machine.view_is in
    let first : v ≡ joined_sight s (v.given ∷ []) = first_shape s v.number v.given v (ap (λ m. m.0) c.machine.invariant.alone ∙ ap (λ x. full_sight x v.number v.given) setup) number in
    let alone : ms ≡ w.machine ∷ [] = c.in_ok-push.ensures.items ∙ ap (λ l. l ++ w.machine ∷ []) c.in_ok-machines.ensures.items in
    record {
      table = ap (λ (h : Held). h.table) c.machine.view_is ∙ is.table;
      shape = shape_of s v.given [] v first;
      all = (λ i. ((first i).given ∷ (first i).joined) ++ map given_to rest) ∙ ap (λ g. g ∷ map given_to rest) given ∙ ap (map given_to) (sym all);
      rest = others_are (IsWorker b) ws rest f 0 (suc (length v.joined)) all (ap (λ (x : Sight). suc (length x.joined)) first) (all_are (IsWorker b) ws c.requires.workers.each);
      count = ap length alone ∙ ap (λ (x : Sight). suc (length x.joined)) (sym first);
      machines = subst (λ (l : List (List Given)). AreGiven s l ms) (λ i. (sym first i).given ∷ (sym first i).joined) (first_given s v.given w.machine ms alone (machine_is s 0 w c.machine.invariant setup number));
    }

pub join_seat-requires : goal.join_seat-requires
join_seat-requires c =
    let i = c.loop-worker.invariant in
    let w = c.worker.inside in
    let s : Setup = c.args.table.now.shared.key in
    let b : Board = record { table = c.args.table.now.shared.table_id; setup = s } in
    let v : Sight = c.loop-worker.seat.me.0 in
    let alone = c.worker.invariant.alone in
    let is = front_is (IsWorker b) (into_iter_items c.loop-worker.worker-iterator) (into_iter_items c.next.new.self) c.in-Some.worker (suc (length v.joined)) c.in-Some.ensures.steps.0 i.rest in (
      i.table,
      ap (λ (h : Held). h.table) c.worker.view_is ∙ is.table,
      ap (λ m. m.1) alone,
      c.requires.words,
      joins s c.loop-worker.seat.id v w.seat.id w.seat.me.0 (ap (λ (x : Sight). x.live) i.shape) (ap (λ (x : Sight). x.leads) i.shape) (ap (λ m. m.0.live) alone) (ap (λ (h : Held). h.number) c.worker.view_is ∙ is.number),
    )

pub loop-worker-preserved : goal.loop-worker-preserved
loop-worker-preserved c =
    let i = c.loop-worker.invariant in
    let w = c.worker.inside in
    let f : Worker = c.in-Some.worker in
    let s : Setup = c.args.table.now.shared.key in
    let b : Board = record { table = c.args.table.now.shared.table_id; setup = s } in
    let v : Sight = c.loop-worker.seat.me.0 in
    let u : Sight = w.seat.me.0 in
    let v' : Sight = c.join_seat.new.seat.me.0 in
    let old : List Worker = into_iter_items c.loop-worker.worker-iterator in
    let rest : List Worker = into_iter_items c.next.new.self in
    let ms : List Machine = c.push-in-loop-worker.new.self.items in
    let n : ℕ = suc (length v.joined) in
    let left : old ≡ f ∷ rest = c.in-Some.ensures.steps.0 in
    let is : IsWorker b n f = front_is (IsWorker b) old rest f n left i.rest in
    let setup : u.setup ≡ s = ap (λ (h : Held). h.setup) c.worker.view_is ∙ is.setup in
    let number : u.number ≡ n = ap (λ (h : Held). h.number) c.worker.view_is ∙ is.number in
    let given : u.given ≡ given_to f = ap (λ (h : Held). h.given) c.worker.view_is in
    let more : v' ≡ joined_sight s (v.given ∷ (v.joined ++ u.given ∷ [])) = ap (λ m. m.0) c.join_seat.ensures.2 ∙ ap (λ (x : Sight). taken_in x u) i.shape in
    let longer : length v'.joined ≡ length v.joined + 1 = ap (λ (x : Sight). length x.joined) more ∙ length_push v.joined u.given in
    record {
      table = c.join_seat.ensures.0 ∙ i.table;
      shape = shape_of s v.given (v.joined ++ u.given ∷ []) v' more;
      all =
          (λ q. ((more q).given ∷ (more q).joined) ++ map given_to rest)
          ∙ ap (λ l. v.given ∷ l) (append_assoc v.joined (u.given ∷ []) (map given_to rest))
          ∙ ap (λ g. v.given ∷ (v.joined ++ (g ∷ map given_to rest))) given
          ∙ ap (λ l. (v.given ∷ v.joined) ++ map given_to l) (sym left)
          ∙ i.all;
      rest = others_are (IsWorker b) old rest f n (suc (length v'.joined)) left (omega (arith, longer)) i.rest;
      count = ap length c.in_ok-push-2.ensures.items ∙ length_push c.loop-worker.machines.items w.machine ∙ omega (arith, i.count, longer);
      machines =
          subst (λ (l : List (List Given)). AreGiven s l ms) (λ q. (sym more q).given ∷ (sym more q).joined)
          (given_more s (v.given ∷ v.joined) u.given c.loop-worker.machines.items ms c.in_ok-push-2.ensures.items i.count (machine_is s n w c.worker.invariant setup number) i.machines);
    }

pub returns-clause-machines : goal.returns-clause-machines
returns-clause-machines c =
    let i = c.loop-worker.invariant in
    let v : Sight = c.loop-worker.seat.me.0 in
    let knows : List (List Given) = v.given ∷ v.joined in
    let none = c.in-None.ensures.steps in
    let all : knows ≡ map given_to c.args.workers.items = sym (append-nil knows) ∙ ap (λ l. knows ++ map given_to l) (sym (nil_from_length (into_iter_items c.loop-worker.worker-iterator) (sym c.loop-worker.worker-iterator.rest.ok.0 ∙ none.0))) ∙ i.all in
    subst (λ (l : List (List Given)). AreGiven c.args.table.now.shared.key l c.loop-worker.machines.items) all i.machines
