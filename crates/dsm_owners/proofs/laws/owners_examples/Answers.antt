use Rattle.std.proofs.Common.{refl, arith}
use Rattle.dsm_owners.specs.Laws.{HomeBare, HomelessUnregistered, MappedFetched, OneHolder, SoleTwin, TurnHolders, UnregisteredUnmapped, WritersTwinned}
use Rattle.dsm_owners.specs.Examples.{touched, withdrawn, left, entered, visited, starved, taken_twice, misread, homeless, unseen, unread, unvisited, unwanted, looked_once, uncopied, unfetched, unstamped, untwinned, claimed_with_twin, home_told, dropped_blind, broken_bare}
use Rattle.dsm_owners.proofs.Worked.{far_each, far_two, meets, breaks, shares, maps, unstamped_map, untwinned_map, setting}
use Rattle.dsm_owners.proofs.laws.owners_examples.Goals as goal

pub returns : goal.returns
returns c = record {
  touched = meets 2 touched (far_each 2) refl refl;
  touched_alone = refl;
  withdrawn = meets 3 withdrawn (far_each 3) refl refl;
  withdrawn_shared = refl;
  left = meets 3 left (far_each 3) refl refl;
  left_unregistered = refl;
  entered = meets 3 entered (far_each 3) refl refl;
  entered_alone = refl;
  visited = meets 3 visited (far_each 3) refl refl;
  visited_shared = refl;
  starved = meets 3 starved far_two refl refl;
  starved_wants = refl;
  starved_registered = refl;
  taken_twice = breaks 3 TurnHolders taken_twice far_two refl refl (λ f. absurd (omega (arith, (f 1 1).1 refl)));
  misread = breaks 2 UnregisteredUnmapped misread (far_each 2) refl refl (maps misread 0 refl refl);
  homeless = breaks 2 HomelessUnregistered homeless (far_each 2) refl refl (λ f. absurd (omega (arith, f refl 0)));
  unseen = breaks 2 OneHolder unseen (far_each 2) refl refl (shares unseen (omega arith) refl refl refl);
  unread = breaks 2 OneHolder unread (far_each 2) refl refl (shares unread (omega arith) refl refl refl);
  unvisited = breaks 2 OneHolder unvisited (far_each 2) refl refl (shares unvisited (omega arith) refl refl refl);
  unwanted = breaks 3 UnregisteredUnmapped unwanted far_two refl refl (maps unwanted 1 refl refl);
  looked_once = breaks 2 OneHolder looked_once (far_each 2) refl refl (shares looked_once (omega arith) refl refl refl);
  uncopied = breaks 2 MappedFetched uncopied (far_each 2) refl refl (unstamped_map uncopied 1 refl refl (omega arith) (omega arith) refl);
  unfetched = breaks 2 MappedFetched unfetched (far_each 2) refl refl (unstamped_map unfetched 1 refl refl (omega arith) (omega arith) refl);
  unstamped = breaks 2 MappedFetched unstamped (far_each 2) refl refl (unstamped_map unstamped 1 refl refl (omega arith) (omega arith) refl);
  untwinned = breaks 3 WritersTwinned untwinned (far_each 3) refl refl (untwinned_map untwinned 1 refl refl refl refl refl);
  claimed_with_twin = breaks 3 SoleTwin claimed_with_twin (far_each 3) refl refl (λ f. setting (f 1 refl refl 1 refl));
  home_told = breaks 3 HomeBare home_told (far_each 3) refl refl (λ f. absurd (cc (f 0 refl).1));
  dropped_blind = breaks 3 UnregisteredUnmapped dropped_blind (far_each 3) refl refl (maps dropped_blind 1 refl refl);
  broken_bare = breaks 3 WritersTwinned broken_bare (far_each 3) refl refl (untwinned_map broken_bare 1 refl refl refl refl refl);
}
