use Rattle.std.proofs.Common.{refl}
use Rattle.dsm_core_tests.proofs.Silence.{without_signals}
use Rattle.dsm_core_tests.proofs.reports.reports_what_was_printed.Goals as goal

pub reported-requires-clause-no_circle : goal.reported-requires-clause-no_circle
reported-requires-clause-no_circle g c = rw (c.in_ok-traces.ensures.items, c.in_ok-trace.ensures, c.load.ensures) (without_signals _ refl)
