use Rattle.std.proofs.Common.{refl}
use Rattle.dsm_core_tests.proofs.Silence.{without_signals}
use Rattle.dsm_core_tests.proofs.reports.names_each_word_that_races.Goals as goal

pub reported-requires-clause-no_circle : goal.reported-requires-clause-no_circle
reported-requires-clause-no_circle g c = rw (c.in_ok-traces.ensures.items, c.in_ok-trace.ensures, c.in_ok-trace-2.ensures, c.load.ensures, c.load-2.ensures, c.load-3.ensures, c.store.ensures, c.store-2.ensures, c.store-3.ensures) (without_signals _ refl)
