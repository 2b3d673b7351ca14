use Rattle.std.proofs.Common.{◌≡◌, ◌<◌, ◌*◌, All, replicate, sym, ◌∙◌, subst}
use Rattle.dsm_runs.specs.Setups.{Setup}
use Rattle.dsm_runs.specs.Clusters.{start}
use Rattle.dsm_core.specs.States.{cluster_in}
use Rattle.dsm_core_tests.proofs.Zeros.{zeros}
use Rattle.dsm_core_tests.proofs.room.takes_its_memory_first.Goals as goal

pub after_start-requires-clause-is_for : goal.after_start-requires-clause-is_for
after_start-requires-clause-is_for g c = c.ready.ensures.is_for c.in_ok-program.program c.in_ok-state.ensures.is_for

pub after_start-requires-clause-start : goal.after_start-requires-clause-start
after_start-requires-clause-start g c = subst (λ (s : Setup). cluster_in c.ready.new.self c.in_ok-program.program.code ≡ start s) (sym (c.ready.ensures.setup c.in_ok-program.program ∙ c.in_ok-state.ensures.setup)) (c.ready.ensures.same _ ∙ c.in_ok-state.ensures.start)

pub after_start-requires-clause-numbers : goal.after_start-requires-clause-numbers
after_start-requires-clause-numbers g c = subst (λ (s : Setup). All (λ p. p < s.nodes * s.procs) (replicate 30 0)) (sym (c.ready.ensures.setup c.in_ok-program.program ∙ c.in_ok-state.ensures.setup)) (zeros 30 c.in_ok-new.field-0 c.in_ok-new.ensures.topology)
