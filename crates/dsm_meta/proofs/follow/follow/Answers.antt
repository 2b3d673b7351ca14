use Rattle.std.proofs.Common.{◌≡◌, ℕ, ◌+◌, ◌-◌, suc, List, [], ◌∷◌, ◌++◌, length, take, get_or, refl, sym, ap, ◌∙◌, subst, arith}
use Rattle.std.proofs.lemmas.List.{take_all}
use Rattle.std.proofs.Math.Seq.{take-suc}
use Rattle.dsm_runs.specs.Setups.{Setup}
use Rattle.dsm_runs.specs.Clusters.{Cluster}
use Rattle.dsm_core.specs.Room.{HasRoomFor}
use Rattle.dsm_core.specs.States.{setup_in, cluster_in, Stepped}
use Rattle.dsm_core.proofs.Rooms.{room_left, has_some}
use Rattle.dsm_meta.specs.Following.{FollowedFrom, FollowedFed}
use Rattle.dsm_meta.proofs.Following.{followed_none, fed_none, followed_on, fed_on}
use Rattle.dsm_meta.proofs.follow.follow.Goals as goal

pub loop-p-init : goal.loop-p-init
loop-p-init c =
    let s = setup_in c.args.state.now c.args.program.now in
    let d = cluster_in c.args.state.now c.args.program.now.code in
    let whole : length c.args.schedule.now ≡ length c.args.schedule.now - 0 = omega arith in
    record {
      setup = refl;
      is_for = c.requires.is_for;
      followed = followed_none s d d refl;
      fed = λ room. (fed_none s d d refl, subst (HasRoomFor c.args.state.now) whole room);
      reached = λ h. h;
    }

pub loop-p-preserved : goal.loop-p-preserved
loop-p-preserved c =
    let program = c.args.program.now in
    let s : Setup = setup_in c.args.state.now program in
    let first : Cluster = cluster_in c.args.state.now program.code in
    let l = c.loop-p in
    let schedule : List ℕ = c.args.schedule.now in
    let p = get_or schedule l.p-index 0 in
    let old : Cluster = cluster_in l.state program.code in
    let new : Cluster = cluster_in c.step.new.self program.code in
    let did : Stepped s old new p c.step.result = subst (λ (x : Setup). Stepped x old new p c.step.result) l.invariant.setup c.step.ensures.step in
    let more : take (l.p-index + 1) schedule ≡ take l.p-index schedule ++ p ∷ [] = ap (λ n. take n schedule) (let z : l.p-index + 1 ≡ suc l.p-index = omega arith in z) ∙ take-suc schedule l.p-index 0 c.loop-p-test.true in
    let fewer : length schedule - l.p-index ≡ length schedule - (l.p-index + 1) + 1 = omega (arith, c.loop-p-test.true) in
    record {
      setup = c.step.ensures.setup ∙ l.invariant.setup;
      is_for = c.step.ensures.is_for;
      followed = subst (λ (xs : List ℕ). FollowedFrom s first xs new) (sym more) (followed_on s first (take l.p-index schedule) old new p c.step.result l.invariant.followed did);
      fed = λ room.
          let so_far = l.invariant.fed room in
          let has : HasRoomFor l.state (length schedule - (l.p-index + 1) + 1) = subst (HasRoomFor l.state) fewer so_far.1 in (
            subst (λ (xs : List ℕ). FollowedFed s first xs new) (sym more) (fed_on s first (take l.p-index schedule) old new p c.step.result (λ none. has_some l.state p _ has (c.step.ensures.full none)) so_far.0 did),
            room_left l.state c.step.new.self p _ c.step.ensures.room has,
          );
      reached = λ h. c.step.ensures.reached (l.invariant.reached h);
    }

pub returns-clause-fed : goal.returns-clause-fed
returns-clause-fed c = λ room.
    let l = c.loop-p in
    let s : Setup = setup_in c.args.state.now c.args.program.now in
    let first : Cluster = cluster_in c.args.state.now c.args.program.now.code in
    let last : Cluster = cluster_in l.state c.args.program.now.code in
    subst (λ (xs : List ℕ). FollowedFed s first xs last) (take_all l.p-index c.args.schedule.now (omega (arith, c.loop-p-test.false))) (l.invariant.fed room).0
