-- What holds of a page on all nodes, behind every list of events that may come.
use Rattle.std.specs.Prelude.{◌≡◌, ◌≢◌, ℕ, suc, ◌≤◌, ◌<◌, ◌⊎◌, Bool, true, false, List}
use Rattle.dsm_owners.specs.Stages.{Why, Breaking, Ending, Making, Flushing, Checked, Dropping, Emptied, Unlisting, held, is_entering, is_using}
use Rattle.dsm_owners.specs.Directory.{State, Event, start, after}
use Rattle.dsm_owners.specs.Premises.{Runs}

-- Nothing of the page can be used at node n before a fetch that has not begun: it has no twin and no fetch under way, is not exclusive
-- and has not claimed the page; its copy, if it is registered away from the home, is stamped 0; its processors' mappings allow
-- nothing, and none makes a twin; and at the home nobody has a store to tell.
pub record IsBare (node : ℕ → ℕ) (s : State) (n : ℕ) : Type 0 where
  pub no_twin : (s.nodes n).twined ≡ false
  pub no_fetch : (s.nodes n).fetch_open ≡ false
  pub not_sole : (s.nodes n).dir ≤ 1
  pub no_copy : s.home ≢ suc n → (s.nodes n).dir ≢ 0 → (s.nodes n).update ≡ false
  pub unused : (r : ℕ) → node r ≡ n → ((s.processors r).map ≡ 0) ⊎ ((s.processors r).map ≡ 3)
  pub no_making : (r : ℕ) → node r ≡ n → (s.processors r).stage ≢ Making
  pub clean : s.home ≡ suc n → (r : ℕ) → node r ≡ n → ((s.processors r).dirty ≡ false) × ((s.processors r).nle ≡ false)

-- node m is not exclusive, and none of its processors is entering
pub record IsNotAlone (node : ℕ → ℕ) (s : State) (m : ℕ) : Type 0 where
  pub not_sole : (s.nodes m).dir ≢ 2
  pub not_entering : (q : ℕ) → node q ≡ m → is_entering (s.processors q).stage ≡ false

-- a fact holds behind every list of events from the start, for any number of nodes and processors
abbrev pub Always : ((top : ℕ) → (node : ℕ → ℕ) → State → Type 0) → Type 0
Always fact = (top : ℕ) (node : ℕ → ℕ) (es : List Event) → Runs top node start es → fact top node (after node start es)

module _ (top : ℕ) (node : ℕ → ℕ) (s : State) where
  -- where a node is exclusive, no other one is, none has a twin, and no processor of another one may load or store
  abbrev pub OneHolder : Type 0
  OneHolder = (m n : ℕ) → n < top → n ≢ m → (s.nodes m).dir ≡ 2 →
      ((s.nodes n).dir ≢ 2) × ((s.nodes n).twined ≡ false) × ((r : ℕ) → node r ≡ n → ((s.processors r).map ≡ 0) ⊎ ((s.processors r).map ≡ 3))

  -- more than that: every other node is bare;
  abbrev pub SoleIsAlone : Type 0
  SoleIsAlone = (m n : ℕ) → n < top → n ≢ m → (s.nodes m).dir ≡ 2 → IsBare node s n

  -- so it is where a processor is entering, before its node is exclusive,
  abbrev pub EnteringIsAlone : Type 0
  EnteringIsAlone = (p n : ℕ) → n < top → n ≢ node p → is_entering (s.processors p).stage ≡ true → IsBare node s n

  -- and at the last store of a break of node j, while that is still exclusive
  abbrev pub BrokenIsAlone : Type 0
  BrokenIsAlone = (p n : ℕ) (why : Why) (j : ℕ) → (s.processors p).stage ≡ Ending why j → n < top → n ≢ j → IsBare node s n

  -- who enters has claimed the page, and has no twin
  abbrev pub EnteringIsClaimed : Type 0
  EnteringIsClaimed = (p : ℕ) → is_entering (s.processors p).stage ≡ true → ((s.nodes (node p)).dir ≡ 3) × ((s.nodes (node p)).twined ≡ false)

  -- a node that is being broken is exclusive to the end
  abbrev pub BrokenIsSole : Type 0
  BrokenIsSole = (p : ℕ) (why : Why) (j : ℕ) →
      ((s.processors p).stage ≡ Breaking why j) ⊎ ((s.processors p).stage ≡ Ending why j) → (s.nodes j).dir ≡ 2

  -- an exclusive node has a twin only at the end of its break
  abbrev pub SoleTwin : Type 0
  SoleTwin = (m : ℕ) → (s.nodes m).dir ≡ 2 → (s.nodes m).twined ≡ true → (r : ℕ) → (s.nodes m).turn ≡ suc r →
      (why : Why) × (j : ℕ) × ((s.processors r).stage ≡ Ending why j)

  -- an unregistered node has no twin, no fetch under way and no mapping, not even a wanted one
  abbrev pub UnregisteredUnmapped : Type 0
  UnregisteredUnmapped = (n : ℕ) → (s.nodes n).dir ≡ 0 →
      ((s.nodes n).twined ≡ false) × ((s.nodes n).fetch_open ≡ false) × ((r : ℕ) → node r ≡ n → (s.processors r).map ≡ 0)

  -- who may store away from the home has its node exclusive or a twin up
  abbrev pub WritersTwinned : Type 0
  WritersTwinned = (r : ℕ) → s.home ≢ suc (node r) → (s.processors r).map ≡ 2 → ((s.nodes (node r)).dir ≡ 2) ⊎ ((s.nodes (node r)).twined ≡ true)

  -- who may load or store away from the home has a copy that was fetched
  abbrev pub MappedFetched : Type 0
  MappedFetched = (r : ℕ) → s.home ≢ suc (node r) → 1 ≤ (s.processors r).map → (s.processors r).map ≤ 2 → (s.nodes (node r)).update ≡ true

  -- the home has no twin, and no notice was ever posted to it
  abbrev pub HomeBare : Type 0
  HomeBare = (n : ℕ) → s.home ≡ suc n → ((s.nodes n).twined ≡ false) × ((s.nodes n).noted ≡ false)

  -- where the page has no home, no node is registered
  abbrev pub HomelessUnregistered : Type 0
  HomelessUnregistered = s.home ≡ 0 → (n : ℕ) → (s.nodes n).dir ≡ 0

  -- the home is a node
  abbrev pub HomeIsNode : Type 0
  HomeIsNode = s.home ≤ top

  -- the word of a turn is who holds it by his stage; so it has one holder, and each processor holds one turn at most
  abbrev pub TurnHolders : Type 0
  TurnHolders = (m r : ℕ) →
      ((s.nodes m).turn ≡ suc r → held (node r) (s.processors r).stage ≡ suc m) × (held (node r) (s.processors r).stage ≡ suc m → (s.nodes m).turn ≡ suc r)

  -- who is about to leave the page, or to unlist its node, has a node with no twin, no fetch under way and no mapping
  abbrev pub LeavingIsEmpty : Type 0
  LeavingIsEmpty = (p : ℕ) → ((s.processors p).stage ≡ Emptied) ⊎ ((s.processors p).stage ≡ Unlisting) →
      ((s.nodes (node p)).dir ≤ 1) × ((s.nodes (node p)).twined ≡ false) × ((s.nodes (node p)).fetch_open ≡ false) ×
      ((r : ℕ) → node r ≡ node p → (s.processors r).map ≡ 0)

  -- who is about to drop a twin has seen that the processors it has looked at may not store, and they still may not
  abbrev pub DroppingIsUnwritten : Type 0
  DroppingIsUnwritten = (p j : ℕ) (any : Bool) → (s.processors p).stage ≡ Dropping j any →
      (r : ℕ) → node r ≡ node p → r < j → (s.processors r).map ≢ 2

  -- where a processor fetches, makes a twin or is about to map the page, no other node is exclusive or entering
  abbrev pub UsersShare : Type 0
  UsersShare = (p m : ℕ) → node p < top → m ≢ node p → is_using (s.processors p).stage ≡ true → IsNotAlone node s m

  -- so it is where a processor may load or store,
  abbrev pub MappersShare : Type 0
  MappersShare = (p m : ℕ) → node p < top → m ≢ node p → 1 ≤ (s.processors p).map → (s.processors p).map ≤ 2 → IsNotAlone node s m

  -- and where one sends: by a flush, or at the home
  abbrev pub SendersShare : Type 0
  SendersShare = (p m : ℕ) → node p < top → m ≢ node p →
      ((s.processors p).stage ≡ Flushing) ⊎ (((s.processors p).stage ≡ Checked) × (s.home ≡ suc (node p))) → IsNotAlone node s m

-- a home stays for ever
abbrev pub HomeStays : Type 0
HomeStays = (top : ℕ) (node : ℕ → ℕ) (s : State) (es : List Event) → Runs top node s es → s.home ≢ 0 → (after node s es).home ≡ s.home
