-- The law, over every list of events.
use Rattle.std.proofs.Common.{◌≡◌, ◌≢◌, ℕ, suc, ◌≤◌, ◌<◌, ◌⊎◌, Bool, true, false, List, [], ◌∷◌, refl, sym, ◌∙◌, subst, inl, inr, arith}
use Rattle.dsm_owners.specs.Stages.{Why, Stage, Breaking, Ending, Emptied, Unlisting, Dropping, Flushing, Checked, is_entering}
use Rattle.dsm_owners.specs.Directory.{State, Event, Do, Touch, Mark, after_event, after, start}
use Rattle.dsm_owners.specs.Premises.{May, Runs}
use Rattle.dsm_owners.specs.Laws.{IsBare, IsNotAlone, HomeStays, OneHolder, SoleIsAlone, EnteringIsAlone, BrokenIsAlone, EnteringIsClaimed, BrokenIsSole, SoleTwin, UnregisteredUnmapped, WritersTwinned, MappedFetched, HomeBare, HomelessUnregistered, HomeIsNode, TurnHolders, LeavingIsEmpty, DroppingIsUnwritten, UsersShare, MappersShare, SendersShare}
use Rattle.dsm_owners.proofs.Facts.{Good, Mine, Fits, Duo, Shut, Looked, ends}
use Rattle.dsm_owners.proofs.Keeps.{Holds, keeps}
use Rattle.dsm_owners.proofs.AtStages.{alone_sure, alone_own, ending_dir, breaking_dir, flush_here, home_sends, using_blocked, not_making, sole_twin, emptied, unlisting}

-- all that holds of a state
pub record Facts (top : ℕ) (node : ℕ → ℕ) (s : State) : Type 0 where
  pub one_holder : OneHolder top node s
  pub sole : SoleIsAlone top node s
  pub entering : EnteringIsAlone top node s
  pub breaking : BrokenIsAlone top node s
  pub claimer : EnteringIsClaimed top node s
  pub breaker : BrokenIsSole top node s
  pub sole_twin : SoleTwin top node s
  pub unregistered : UnregisteredUnmapped top node s
  pub writer : WritersTwinned top node s
  pub fetched : MappedFetched top node s
  pub home_bare : HomeBare top node s
  pub homeless : HomelessUnregistered top node s
  pub home_node : HomeIsNode top node s
  pub turns : TurnHolders top node s
  pub leaving : LeavingIsEmpty top node s
  pub dropping : DroppingIsUnwritten top node s
  pub users : UsersShare top node s
  pub mappers : MappersShare top node s
  pub senders : SendersShare top node s

module _ (top : ℕ) (node : ℕ → ℕ) where
  pub goes_on : (s : State) (es : List Event) → Holds top node s → Runs top node s es → Holds top node (after node s es)
  goes_on s [] h r = h
  goes_on s (e ∷ es) h r = goes_on (after_event node s e) es (keeps top node s e h r.0) r.1

  starts_good : (m : ℕ) → Good top 0 m (start.nodes m)
  starts_good m = grind arith

  starts_fits : (n m r : ℕ) → Fits top 0 n m r (start.nodes m) (start.processors r)
  starts_fits n m r = grind arith

  starts_duo : (m n : ℕ) → Duo 0 m n (start.nodes m) (start.nodes n)
  starts_duo m n = grind arith

  starts_mine : (n r : ℕ) → Mine 0 n (start.processors r)
  starts_mine n r = grind arith

  pub starts : Holds top node start
  starts = record { home_node = grind arith; good = λ m. starts_good m; mine = λ r. starts_mine (node r) r; fits = λ m r. starts_fits (node r) m r; duo = λ m n ne. starts_duo m n; peer = λ q r i. tt }

  module _ (s : State) (h : Holds top node s) where
    shut_of : (m n : ℕ) → n ≢ m → n < (s.nodes m).sure → (r : ℕ) → node r ≡ n → Shut s.home n m (s.processors r)
    shut_of m n ne b r i = subst (λ z. Shut s.home z m (s.processors r)) i ((h.fits m r).shut (λ d. ne (sym i ∙ d)) (subst (λ z. z < (s.nodes m).sure) (sym i) b))

    bare_of : (m n : ℕ) → n ≢ m → n < (s.nodes m).sure → IsBare node s n
    bare_of m n ne b = record { no_twin = (h.duo m n ne).no_twin b; no_fetch = (h.duo m n ne).no_fetch b; not_sole = (h.duo m n ne).no_claim b; no_copy = (h.duo m n ne).no_copy b; unused = λ r i. (shut_of m n ne b r i).unused; no_making = λ r i. not_making top s.home (s.nodes n) (s.processors r) (s.processors r).stage m (shut_of m n ne b r i).blocked; clean = λ d r i. (shut_of m n ne b r i).clean d }

    sole_of : (m n : ℕ) → n < top → n ≢ m → (s.nodes m).dir ≡ 2 → IsBare node s n
    sole_of m n b ne d = let z = (h.good m).sole_sure d in bare_of m n ne (omega (arith, b, z))

    entering_of : (p n : ℕ) → n < top → n ≢ node p → is_entering (s.processors p).stage ≡ true → IsBare node s n
    entering_of p n b ne e = let z = alone_sure top s.home (s.nodes (node p)) (s.processors p) (s.processors p).stage (node p) p e (h.fits (node p) p) in bare_of (node p) n ne (omega (arith, b, z))

    breaker_of : (p : ℕ) (c : Why) (j : ℕ) → ((s.processors p).stage ≡ Breaking c j) ⊎ ((s.processors p).stage ≡ Ending c j) → (s.nodes j).dir ≡ 2
    breaker_of p c j (inl e) = breaking_dir top s.home (s.nodes j) (s.processors p) c j (node p) p (subst (λ u. Fits top s.home (node p) j p (s.nodes j) (record (s.processors p) { stage = u })) e (h.fits j p))
    breaker_of p c j (inr e) = ending_dir top s.home (s.nodes j) (s.processors p) c j (node p) p (subst (λ u. Fits top s.home (node p) j p (s.nodes j) (record (s.processors p) { stage = u })) e (h.fits j p))

    breaking_of : (p n : ℕ) (c : Why) (j : ℕ) → (s.processors p).stage ≡ Ending c j → n < top → n ≢ j → IsBare node s n
    breaking_of p n c j e b ne = sole_of j n b ne (ending_dir top s.home (s.nodes j) (s.processors p) c j (node p) p (subst (λ u. Fits top s.home (node p) j p (s.nodes j) (record (s.processors p) { stage = u })) e (h.fits j p)))

    own_at : (r n : ℕ) → node r ≡ n → Fits top s.home n n r (s.nodes n) (s.processors r)
    own_at r n i = subst (λ z. Fits top s.home z z r (s.nodes z) (s.processors r)) i (h.fits (node r) r)

    not_sure : (p m : ℕ) → m ≢ node p → ((s.processors p).stage ≡ Flushing) ⊎ (((s.processors p).stage ≡ Checked) × (s.home ≡ suc (node p))) → node p < (s.nodes m).sure → ⊥
    not_sure p m ne (inl e) b = flush_here top s.home (s.nodes (node p)) (s.processors p) (node p) p (subst (λ u. Fits top s.home (node p) (node p) p (s.nodes (node p)) (record (s.processors p) { stage = u })) e (h.fits (node p) p)) ((h.duo m (node p) (λ i. ne (sym i))).no_twin b)
    not_sure p m ne (inr e) b = home_sends top s.home (s.nodes (node p)) (s.processors p) (node p) m (subst (λ u. Mine s.home (node p) (record (s.processors p) { stage = u })) e.0 (h.mine p)) e.1 ((h.fits m p).shut (λ i. ne (sym i)) b)

    no_other : (p m : ℕ) → node p < top → (node p < (s.nodes m).sure → ⊥) → IsNotAlone node s m
    no_other p m t free = record { not_sole = λ d. free (let z = (h.good m).sole_sure d in omega (arith, z, t)); not_entering = λ q i. entered q i (is_entering (s.processors q).stage) refl }
      where
        entered : (q : ℕ) → node q ≡ m → (b : Bool) → is_entering (s.processors q).stage ≡ b → b ≡ false
        entered q i true c = absurd (free (let z = alone_sure top s.home (s.nodes m) (s.processors q) (s.processors q).stage m q c (own_at q m i) in omega (arith, z, t)))
        entered q i false c = refl

    ended : (st : Stage) → ends st ≡ true → (c : Why) × (j : ℕ) × (st ≡ Ending c j)
    ended (Ending c j) e = (c, j, refl)
    ended st e = absurd (cc e)

    leaving_of : (p : ℕ) → ((s.processors p).stage ≡ Emptied) ⊎ ((s.processors p).stage ≡ Unlisting) → ((s.nodes (node p)).dir ≤ 1) × ((s.nodes (node p)).twined ≡ false) × ((s.nodes (node p)).fetch_open ≡ false) × ((r : ℕ) → node r ≡ node p → (s.processors r).map ≡ 0)
    leaving_of p (inl e) = let z = emptied top s.home (s.nodes (node p)) (s.processors p) (node p) p (h.good (node p)) (subst (λ u. Fits top s.home (node p) (node p) p (s.nodes (node p)) (record (s.processors p) { stage = u })) e (h.fits (node p) p)) in (z.0, z.1, z.2, λ r i. subst (λ u. Looked u r (s.processors r).map) e (h.peer p r i))
    leaving_of p (inr e) = let z = unlisting top s.home (s.nodes (node p)) (s.processors p) (node p) p (h.good (node p)) (subst (λ u. Fits top s.home (node p) (node p) p (s.nodes (node p)) (record (s.processors p) { stage = u })) e (h.fits (node p) p)) in (z.0, z.1, z.2, λ r i. subst (λ u. Looked u r (s.processors r).map) e (h.peer p r i))

    dropping_of : (p j : ℕ) (a : Bool) → (s.processors p).stage ≡ Dropping j a → (r : ℕ) → node r ≡ node p → r < j → (s.processors r).map ≢ 2
    dropping_of p j a e r i b = (subst (λ u. Looked u r (s.processors r).map) e (h.peer p r i) b).0

    one_holder : OneHolder top node s
    one_holder m n b ne d = let z = sole_of m n b ne d in (λ e. let i = z.not_sole in absurd (omega (arith, e, i)), z.no_twin, z.unused)

    unregistered : UnregisteredUnmapped top node s
    unregistered n d = (((h.good n).unlisted d).0, ((h.good n).unlisted d).1, λ r i. (own_at r n i).unlisted refl d)

    twinned : (m : ℕ) → (s.nodes m).dir ≡ 2 → (s.nodes m).twined ≡ true → (r : ℕ) → (s.nodes m).turn ≡ suc r → (why : Why) × (j : ℕ) × ((s.processors r).stage ≡ Ending why j)
    twinned m d t r e = ended (s.processors r).stage (sole_twin top s.home (s.nodes m) (s.processors r) m (node r) r (h.good m) (h.fits m r) d t e)

    users : UsersShare top node s
    users p m t ne e = no_other p m t (λ b. using_blocked top s.home (s.nodes m) (s.processors p) (s.processors p).stage m e ((h.fits m p).shut (λ i. ne (sym i)) b).blocked)

    used : (map : ℕ) → (map ≡ 0) ⊎ (map ≡ 3) → 1 ≤ map → map ≤ 2 → ⊥
    used map (inl e) low high = absurd (omega (arith, e, low))
    used map (inr e) low high = absurd (omega (arith, e, high))

    mappers : MappersShare top node s
    mappers p m t ne low high = no_other p m t (λ b. used (s.processors p).map ((h.fits m p).shut (λ i. ne (sym i)) b).unused low high)

    senders : SendersShare top node s
    senders p m t ne e = no_other p m t (not_sure p m ne e)

    pub facts_of : Facts top node s
    facts_of = record {
      one_holder = one_holder;
      sole = sole_of;
      entering = entering_of;
      breaking = breaking_of;
      claimer = λ p e. alone_own top s.home (s.nodes (node p)) (s.processors p) (s.processors p).stage (node p) p e (h.fits (node p) p);
      breaker = breaker_of;
      sole_twin = twinned;
      unregistered = unregistered;
      writer = λ r ne d. (h.fits (node r) r).writer refl ne d;
      fetched = λ r ne b c. (h.fits (node r) r).fetched refl ne b c;
      home_bare = λ n i. (h.good n).home_bare i;
      homeless = λ i n. ((h.good n).homeless i).0;
      home_node = h.home_node;
      turns = λ m r. ((h.fits m r).held_is, (h.fits m r).turn_is);
      leaving = leaving_of;
      dropping = dropping_of;
      users = users;
      mappers = mappers;
      senders = senders;
    }

-- all facts, behind every list from the start
pub every : (top : ℕ) (node : ℕ → ℕ) (es : List Event) → Runs top node start es → Facts top node (after node start es)
every top node es r = facts_of top node (after node start es) (goes_on top node start es (starts top node) r)

stays_one : (top : ℕ) (node : ℕ → ℕ) (s : State) (e : Event) → May top node s e → s.home ≢ 0 → (after_event node s e).home ≡ s.home
stays_one top node s (Do p e) m ne = refl
stays_one top node s (Touch p write) m ne = absurd (ne m.2)
stays_one top node s (Mark p q why j) m ne = refl

pub stays : HomeStays
stays top node s [] r ne = refl
stays top node s (e ∷ es) r ne = let one = stays_one top node s e r.0 ne in stays top node (after_event node s e) es r.1 (λ z. ne (sym one ∙ z)) ∙ one
