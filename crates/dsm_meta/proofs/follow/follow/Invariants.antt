use Rattle.std.proofs.Common.{◌≡◌, ◌-◌, length, take}
use Rattle.dsm_runs.specs.Clusters.{IsReached}
use Rattle.dsm_core.specs.Room.{HasRoomFor}
use Rattle.dsm_core.specs.States.{setup_in, cluster_in, IsFor}
use Rattle.dsm_meta.specs.Following.{FollowedFrom, FollowedFed}
use Rattle.dsm_meta.proofs.follow.follow.Given as goal

-- the state is behind the numbers so far, and has room for the others still
abbrev pub invariant-loop-p : goal.invariant-loop-p
invariant-loop-p l =
    let s = setup_in l.fn.state l.program in
    let c = cluster_in l.fn.state l.program.code in
    let d = cluster_in l.state l.program.code in
    record {
      setup : setup_in l.state l.program ≡ s;
      is_for : IsFor l.state l.program;
      followed : FollowedFrom s c (take l.p-index l.schedule) d;
      fed : HasRoomFor l.fn.state (length l.schedule) → FollowedFed s c (take l.p-index l.schedule) d × HasRoomFor l.state (length l.schedule - l.p-index);
      reached : IsReached s c → IsReached (setup_in l.state l.program) d;
    }
