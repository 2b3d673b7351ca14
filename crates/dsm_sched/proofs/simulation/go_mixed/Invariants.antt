use Rattle.std.proofs.Common.{◌≡◌, ◌-◌, ◌≤◌}
use Rattle.dsm_core.specs.States.{setup_in, cluster_in, IsFor}
use Rattle.dsm_sched.specs.declared.kind.Kind.TheVariants.{Mixed}
use Rattle.dsm_sched.specs.Schedules.{running, words_drawn}
use Rattle.dsm_sched.proofs.Going.{Going}
use Rattle.dsm_sched.proofs.simulation.go_mixed.Given as goal

abbrev pub invariant-loop-made : goal.invariant-loop-made
invariant-loop-made l =
    record {
      setup : setup_in l.state l.program ≡ setup_in l.fn.state l.program;
      is_for : IsFor l.state l.program;
      within : l.made ≤ l.steps;
      left : l.running.items ≡ running (cluster_in l.state l.program.code);
      drawn : l.words ≡ words_drawn l.seed l.made;
      going : Going (Mixed l.seed) (setup_in l.fn.state l.program) l.made (cluster_in l.state l.program.code);
    }

abbrev pub decreases-loop-made : goal.decreases-loop-made
decreases-loop-made l = l.steps - l.made
