use Rattle.dsm_owners.proofs.Every.{every, stays}
use Rattle.dsm_owners.proofs.laws.owners_law.Goals as goal

pub returns : goal.returns
returns c = record {
  one_holder = λ top node es r. (every top node es r).one_holder;
  sole = λ top node es r. (every top node es r).sole;
  entering = λ top node es r. (every top node es r).entering;
  breaking = λ top node es r. (every top node es r).breaking;
  claimer = λ top node es r. (every top node es r).claimer;
  breaker = λ top node es r. (every top node es r).breaker;
  sole_twin = λ top node es r. (every top node es r).sole_twin;
  unregistered = λ top node es r. (every top node es r).unregistered;
  writer = λ top node es r. (every top node es r).writer;
  fetched = λ top node es r. (every top node es r).fetched;
  home_bare = λ top node es r. (every top node es r).home_bare;
  homeless = λ top node es r. (every top node es r).homeless;
  home_node = λ top node es r. (every top node es r).home_node;
  home_stays = stays;
  turns = λ top node es r. (every top node es r).turns;
  leaving = λ top node es r. (every top node es r).leaving;
  dropping = λ top node es r. (every top node es r).dropping;
  users = λ top node es r. (every top node es r).users;
  mappers = λ top node es r. (every top node es r).mappers;
  senders = λ top node es r. (every top node es r).senders;
}
