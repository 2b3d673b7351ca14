use Rattle.std.proofs.Common.{◌≡◌, ℕ, suc, ◌+◌, ◌<◌, length, List, [], ◌∷◌, arith, refl, sym, ap, ◌∙◌, subst, ⊎_elim, length-append}
use Rattle.std.specs.Prelude.{slice_get}
use Rattle.std.specs.Vec.Iter.{into_iter_items}
use Rattle.dsm_flat.proofs.Lists.{get_push}
use Rattle.dsm_words.specs.Place.{total}
use Rattle.dsm_runs.specs.Setups.{Setup, lay_in}
use Rattle.dsm_machine.specs.declared.machine.Machine.{Machine}
use Rattle.dsm_runner.specs.Sights.{Sight, first_with, procs_of, cut_left, cut_right}
use Rattle.dsm_runner.specs.Helds.{Board}
use Rattle.dsm_runner.specs.Machines.{AreFresh}
use Rattle.dsm_runner.specs.Workers.{IsNew, AreLater}
use Rattle.dsm_runner.specs.declared.worker.Worker.{Worker}
use Rattle.dsm_runner.proofs.Seats.{splits}
use Rattle.dsm_runner.proofs.Fresh.{some_words, fresh_first, fresh_rest, later_full, held_new}
use Rattle.dsm_runner.proofs.open.later_workers.Goals as goal

pub loop-machine-init : goal.loop-machine-init
loop-machine-init c =
    let s : Setup = c.args.shared.now.setup in
    let empty : c.in_ok-workers.workers.items ≡ [] = c.in_ok-workers.ensures.items in
    let none : suc (length c.in_ok-workers.workers.items) ≡ 1 = ap (λ (l : List Worker). suc (length l)) empty in
    let its : into_iter_items c.into_iter-machine-iterator.result ≡ c.args.machines.items = c.into_iter-machine-iterator.ensures.into_iter_gives.0 in
    record {
      table = refl;
      id = refl;
      view = c.requires.view ∙ ap (λ n. (first_with s n, [])) (sym none);
      fresh = subst (λ (x : ℕ × List Machine). AreFresh s x.0 x.1) (λ i. (sym none i, sym its i)) c.requires.fresh;
      all = let all = c.requires.all in let many = ap length its in omega (arith, all, many, none);
      each = subst (AreLater c.args.shared.now) (sym empty) (λ j w at. absurd (cc at));
    }

pub split_seat-seat-requires : goal.split_seat-seat-requires
split_seat-seat-requires c =
    let s : Setup = c.args.shared.now.setup in
    let i = c.loop-machine.invariant in
    let n : ℕ = suc (length c.loop-machine.workers.items) in
    let v : Sight = c.loop-machine.first.me.0 in
    let is : v ≡ first_with s n = ap (λ m. m.0) i.view in
    let left : length (into_iter_items c.loop-machine.machine-iterator) ≡ suc (length (into_iter_items c.next.new.self)) = ap length c.in-Some.ensures.steps.0 in
    let below : n < procs_of s = let all = i.all in omega (arith, all, left) in
    let t : c.shared.inside.table.shared.table_id ≡ c.args.shared.now.table = ap (λ (b : Board). b.table) c.shared.view_is in (
      i.table ∙ c.requires.table ∙ sym t,
      subst (λ k. 0 < k) (sym c.shared.invariant.words) (some_words (lay_in c.shared.inside.table.shared.key)),
      splits c.shared.inside.table.shared.key c.loop-machine.first.id v (ap (λ (x : Sight). x.live) is) (ap (λ (x : Sight). x.leads) is) (subst (λ (x : Sight). x.made < procs_of x.setup) (sym is) below),
    )

pub invariant_of-push : goal.invariant_of-push
invariant_of-push c =
    let s : Setup = c.args.shared.now.setup in
    let i = c.loop-machine.invariant in
    let k : ℕ = length c.loop-machine.workers.items in
    let n : ℕ = suc k in
    let e = c.split_seat-seat.ensures in
    let is : c.loop-machine.first.me.0 ≡ first_with s n = ap (λ m. m.0) i.view in
    let rest : List Machine = into_iter_items c.next.new.self in
    let left : length (into_iter_items c.loop-machine.machine-iterator) ≡ suc (length rest) = ap length c.in-Some.ensures.steps.0 in
    let t : c.shared.inside.table.shared.table_id ≡ c.args.shared.now.table = ap (λ (b : Board). b.table) c.shared.view_is in
    held_new (record { number = c.len-in-loop-machine.result + 1; machine = c.in-Some.machine; seat = c.split_seat-seat.result }) s n
    (e.4 ∙ ap (λ (x : Sight). (cut_right x, [])) is ∙ ap (λ (x : Sight). (x, [])) (later_full s n (omega arith)))
    (fresh_first s n c.in-Some.ensures.steps.0 i.fresh)
    (let was = c.loop-machine.workers.ok.0 in let len = c.len-in-loop-machine.ensures in omega (arith, was, len))
    (let all = i.all in omega (arith, all, left))
    (ap (λ t. t.words) (e.3 ∙ i.table ∙ c.requires.table ∙ sym t) ∙ c.shared.invariant.words ∙ ap (λ (b : Board). total (lay_in b.setup)) c.shared.view_is)

pub loop-machine-preserved : goal.loop-machine-preserved
loop-machine-preserved c =
    let s : Setup = c.args.shared.now.setup in
    let i = c.loop-machine.invariant in
    let k : ℕ = length c.loop-machine.workers.items in
    let e = c.split_seat-seat.ensures in
    let is : c.loop-machine.first.me.0 ≡ first_with s (suc k) = ap (λ m. m.0) i.view in
    let rest : List Machine = into_iter_items c.next.new.self in
    let left : length (into_iter_items c.loop-machine.machine-iterator) ≡ suc (length rest) = ap length c.in-Some.ensures.steps.0 in
    let more : length c.push.new.self.items ≡ suc k = ap length c.in_ok-push.ensures.items ∙ length-append c.loop-machine.workers.items (_ ∷ []) ∙ (let z : k + 1 ≡ suc k = omega arith in z) in
    record {
      table = e.0 ∙ i.table;
      id = e.1 ∙ i.id;
      view = e.2 ∙ ap (λ m. (cut_left m.0, m.1)) i.view ∙ ap (λ m. (first_with s m, [])) (let z : suc k + 1 ≡ suc (length c.push.new.self.items) = omega (arith, more) in z);
      fresh = fresh_rest s (suc k) c.in-Some.ensures.steps.0 i.fresh (suc (length c.push.new.self.items)) (ap suc more);
      all = let all = i.all in omega (arith, all, left, more);
      each = λ j w h. ⊎_elim {C = IsNew c.args.shared.now (suc j) w}
          (λ was. i.each j w was)
          (λ x. record {
            is = record {
              table = ap (λ (y : Worker). y.table) (sym x.1) ∙ e.3 ∙ i.table ∙ c.requires.table;
              setup = ap (λ (y : Worker). y.setup) (sym x.1) ∙ ap (λ m. m.0.setup) e.4 ∙ ap (λ (y : Sight). y.setup) is;
              number = ap (λ (y : Worker). y.number) (sym x.1) ∙ ap (λ m. m.0.number) e.4 ∙ ap (λ (y : Sight). y.made) is ∙ ap suc (sym x.0);
            };
            still = ap (λ (y : Worker). y.given) (sym x.1) ∙ ap (λ m. m.0.given) e.4;
          })
          (get_push c.loop-machine.workers.items _ w j (ap (λ l. slice_get l j) (sym c.in_ok-push.ensures.items) ∙ h));
    }
