use Rattle.std.proofs.Common.{refl}
use Rattle.dsm_core_tests.proofs.Silence.{without_passes}
use Rattle.dsm_core_tests.proofs.reports.reports_a_trace.Goals as goal

pub reported-requires-clause-no_circle : goal.reported-requires-clause-no_circle
reported-requires-clause-no_circle g c = rw (c.in_ok-traces.ensures.items, c.in_ok-trace.ensures, c.load.ensures, c.store.ensures, c.signal.ensures, c.signal-2.ensures) (without_passes _ refl)
