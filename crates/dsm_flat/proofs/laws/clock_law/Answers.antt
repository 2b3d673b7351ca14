use Rattle.dsm_flat.proofs.Clocks.{by_edges, clock_of_past, clock_tells, clock_is_determined, not_all_blocked}
use Rattle.dsm_flat.proofs.Visiting.{step_visits, others_stay}
use Rattle.dsm_flat.proofs.laws.clock_law.Goals as goal

pub returns : goal.returns
returns c = record { edges = by_edges; past = clock_of_past; tells = clock_tells; one_clock = clock_is_determined; not_blocked = not_all_blocked; step = step_visits; others = others_stay }
