use Rattle.dsm_ties.proofs.Bounding.{clock_bound, clocks_stand}
use Rattle.dsm_ties.proofs.Places.{each_stands, events_are_rows}
use Rattle.dsm_ties.proofs.laws.rows_law.Goals as goal

pub returns : goal.returns
returns c = record {
  stands = each_stands;
  rows = events_are_rows;
  clock_bound = clock_bound;
  clocks = clocks_stand;
}
