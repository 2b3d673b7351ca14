use Rattle.std.proofs.Common.{refl}
use Rattle.dsm_core_tests.proofs.Silence.{without_signals}
use Rattle.dsm_core_tests.proofs.reports.reported_idle.Goals as goal

pub reported-requires-clause-no_circle : goal.reported-requires-clause-no_circle
reported-requires-clause-no_circle c = rw (c.in_ok-traces.ensures.items, c.new.ensures.list) (without_signals _ refl)
