-- The first seat takes in the seat of the next number.
use Rattle.std.proofs.Common.{◌≡◌, ◌≢◌, ◌⊎◌, ℕ, suc, ◌<◌, ◌≤◌, true, false, List, ◌++◌, ◌∷◌, [], length, set, Option, Some, None, ap, sym, subst, inl, inr, ◌∙◌}
use Rattle.std.proofs.lemmas.Bool.{cases_eq, cases_lt}
use Rattle.std.specs.Prelude.{slice_get}
use mathlib.Core.Option.{some}
use lib.ListN.{get_elem?}
use Rattle.atomic_table.proofs.Lists.{at_set}
use Rattle.atomic_table.specs.Table.{State, Joins}
use Rattle.dsm_flat.proofs.Lists.{get_push}
use Rattle.dsm_protocol.specs.Processors.{Given}
use Rattle.dsm_runs.specs.Setups.{Setup}
use Rattle.dsm_runs.specs.Clusters.{Cluster, reached}
use Rattle.dsm_runner.specs.Sights.{Sight, processor_at, taken_in, spent, Fits, Leads, KeptAt, Kept}
use Rattle.dsm_runner.proofs.Numbers.{apart}
use Rattle.dsm_runner.proofs.Seats.{put_at, put_here, put_else}

-- what has a place is not without one
unplaced : {x : ℕ} → None ≡ Some x → ⊥
unplaced e = cc

-- the seat w at the place `other` is taken in
module _ (s : Setup) (c : Cluster) (place : ℕ → Option ℕ) (other : ℕ) (w : Sight) (theirs : Fits s c place other w) where
  -- its number has no place then
  abbrev left : ℕ → Option ℕ
  left = put_at place w.number None

  -- the other seats keep theirs
  others_fit : (j : ℕ) (u : Sight) → j ≢ other → Fits s c place j u → Fits s c left j u
  others_fit j u ne f = record { placed = put_else place w.number u.number None (apart s c place other j w u theirs f ne) ∙ f.placed; here = f.here; same = f.same }

  -- and what had none has none
  none_still : (p : ℕ) → place p ≡ None → left p ≡ None
  none_still p e = go (cases_eq p w.number)
    where
      go : (p ≡ w.number) ⊎ (p ≢ w.number) → left p ≡ None
      go (inl d) = ap left d ∙ put_here place w.number None
      go (inr d) = put_else place w.number p None d ∙ e

  -- its number was made
  was_made : (id : ℕ) (v : Sight) → Leads s c place id v → w.number < v.made
  was_made id v lead = go (cases_lt w.number v.made)
    where
      go : (w.number < v.made) ⊎ (v.made ≤ w.number) → w.number < v.made
      go (inl d) = d
      go (inr d) = absurd (unplaced (sym (lead.unmade w.number d).0 ∙ theirs.placed))

  module _ (id : ℕ) (v : Sight) (lead : Leads s c place id v) (next : w.number ≡ suc (length v.joined)) where
    -- the first seat knows what its processor was given
    joined_more : (j : ℕ) (given : List Given) → slice_get (v.joined ++ w.given ∷ []) j ≡ Some given
        → (suc j < v.made) × (left (suc j) ≡ None) × (slice_get c.processors (suc j) ≡ Some (processor_at s (suc j) given))
    joined_more j given at = go (get_push v.joined w.given given j at)
      where
        go : (slice_get v.joined j ≡ Some given) ⊎ ((j ≡ length v.joined) × (w.given ≡ given)) → (suc j < v.made) × (left (suc j) ≡ None) × (slice_get c.processors (suc j) ≡ Some (processor_at s (suc j) given))
        go (inl old) = let was = lead.joined j given old in (was.0, none_still (suc j) was.1, was.2)
        go (inr new) =
            let same : suc j ≡ w.number = ap suc new.0 ∙ sym next in (
              subst (λ q. q < v.made) (sym same) (was_made id v lead),
              ap left same ∙ put_here place w.number None,
              ap (slice_get c.processors) same ∙ theirs.here ∙ (λ i. Some (processor_at (theirs.same i) (sym same i) (new.1 i))),
            )

    -- and it leads still
    leads_more : Leads s c left id (taken_in v w)
    leads_more = record {
      first = lead.first;
      mine = lead.mine;
      unmade = λ p b. let was = lead.unmade p b in (none_still p was.0, was.1);
      joined = joined_more;
    }

    module _ (words : List ℕ) (views : List Sight) (h : KeptAt s c place words views) (at : get_elem? views id ≡ some v) (on : v.live ≡ true) (not : other ≢ id) where
      -- the views behind the join
      abbrev after : List Sight
      after = set (set views id (taken_in v w)) other spent

      -- each seat's view is the spent one, the first, or as it was
      data Now (j : ℕ) (u : Sight) : Type 0 where
        gone : spent ≡ u → Now j u
        first : j ≡ id → taken_in v w ≡ u → Now j u
        same : j ≢ other → j ≢ id → get_elem? views j ≡ some u → Now j u

      now : (j : ℕ) (u : Sight) → get_elem? after j ≡ some u → Now j u
      now j u e = go (at_set (set views id (taken_in v w)) other j spent u e)
        where
          back : j ≢ other → ((j ≡ id) × (taken_in v w ≡ u)) ⊎ ((j ≢ id) × (get_elem? views j ≡ some u)) → Now j u
          back ne (inl x) = first x.0 x.1
          back ne (inr x) = same ne x.0 x.1

          go : ((j ≡ other) × (spent ≡ u)) ⊎ ((j ≢ other) × (get_elem? (set views id (taken_in v w)) j ≡ some u)) → Now j u
          go (inl x) = gone x.1
          go (inr x) = back x.0 (at_set views id j (taken_in v w) u x.1)

      fits_now : (j : ℕ) (u : Sight) → Now j u → u.live ≡ true → Fits s c left j u
      fits_now j u (gone is) live = absurd (let f : false ≡ true = ap (λ (y : Sight). y.live) is ∙ live in cc)
      fits_now j u (first here is) live =
          let f = others_fit id v (λ q. not (sym q)) (h.fits id v at on) in
          subst (λ (z : ℕ × Sight). Fits s c left z.0 z.1) (λ i. (sym here i, is i)) (record { placed = f.placed; here = f.here; same = f.same })
      fits_now j u (same away else was) live = others_fit j u away (h.fits j u was live)

      leads_now : (j : ℕ) (u : Sight) → Now j u → u.leads ≡ true → Leads s c left j u
      leads_now j u (gone is) leads = absurd (let f : false ≡ true = ap (λ (y : Sight). y.leads) is ∙ leads in cc)
      leads_now j u (first here is) leads = subst (λ (z : ℕ × Sight). Leads s c left z.0 z.1) (λ i. (sym here i, is i)) leads_more
      leads_now j u (same away else was) leads = absurd (else ((h.leads j u was leads).first ∙ sym lead.first))

      -- so the state is kept, with the number's place given up
      kept_more : KeptAt s c left words after
      kept_more = record {
        words_are = h.words_are;
        fits = λ j u e live. fits_now j u (now j u e) live;
        leads = λ j u e leads. leads_now j u (now j u e) leads;
      }

-- the rule stays
pub join_kept : (s : Setup) (words : List ℕ) (views : List Sight) (id : ℕ) (v : Sight) (other : ℕ) (w : Sight) → Kept s words views → get_elem? views id ≡ some v → v.live ≡ true → v.leads ≡ true
    → (other ≡ id → ⊥) → get_elem? (set views id (taken_in v w)) other ≡ some w → w.live ≡ true → w.number ≡ suc (length v.joined)
    → Kept s words (set (set views id (taken_in v w)) other spent)
join_kept s words views id v other w h at on led not there live next =
    let c = reached s h.events in
    let theirs : Fits s c h.place other w = h.at.fits other w (before (at_set views id other (taken_in v w) w there)) live in
    record {
      events = h.events;
      defined = h.defined;
      place = put_at h.place w.number None;
      at = kept_more s c h.place other w theirs id v (h.at.leads id v at led) next words views h.at at on not;
    }
  where
    before : ((other ≡ id) × (taken_in v w ≡ w)) ⊎ ((other ≢ id) × (get_elem? views other ≡ some w)) → get_elem? views other ≡ some w
    before (inl x) = absurd (not x.0)
    before (inr x) = x.1

-- so the table allows it
pub joins : {S : Type 0} (s : Setup) (id : ℕ) (v : Sight) (other : ℕ) (w : Sight) → v.live ≡ true → v.leads ≡ true → w.live ≡ true → w.number ≡ suc (length v.joined)
    → Joins (λ (st : State S Sight). Kept s st.words st.views) id v other w (taken_in v w) spent
joins s id v other w on led live next st h at not there = join_kept s st.words st.views id v other w h at on led not there live next
