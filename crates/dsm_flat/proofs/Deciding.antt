-- What is kept beside each word, while entries are visited.
use Rattle.std.proofs.Common.{◌≡◌, ◌≢◌, ℕ, zero, suc, ◌+◌, ◌-◌, ◌<◌, ◌≤◌, ◌⊎◌, List, [], ◌∷◌, Option, Some, None, true, false, length, get_or, refl, sym, ap, ◌∙◌, subst, inl, inr, arith, ◌^◌, MatchOption}
use Rattle.std.specs.Prelude.{◌↔◌, map, slice_get, slice_index, slice_set}
use Rattle.std.proofs.lemmas.Bool.{cases_eq, cases_lt}
use Rattle.std.proofs.lemmas.Option.{slice_get_within, slice_get-map, slice_get_read, same_Some}
use Rattle.dsm_entry.specs.declared.entry.Entry.{Entry}
use Rattle.dsm_entry.specs.declared.entry.Entry.TheVariants.{Load, Store}
use Rattle.dsm_entry.specs.declared.entry.Place.{Place}
use Rattle.dsm_flat.specs.declared.latest.Latest.{Latest}
use Rattle.dsm_flat.specs.Order.{Traces, Holds, NoCircle}
use Rattle.dsm_flat.specs.Flat.{IsStore, IsAccess, Ordered}
use Rattle.dsm_flat.specs.Clocks.{Counted, IsPut}
use Rattle.dsm_flat.specs.Racing.{IsLoad, IsDeciding, IsVisit, CountsNone, CountsLast, CountsLoads}
use Rattle.dsm_flat.specs.declared.visits.Visit.{Visit}
use Rattle.dsm_flat.specs.declared.visits.Visits.{Visits}
use Rattle.dsm_flat.specs.Following.{AreShort, AllVisited, AllBlocked, AreVisits, IsNextVisit}
use Rattle.dsm_flat.specs.Latest.{IsLatest, AreLatest}
use Rattle.dsm_flat.proofs.OrderLaws.{within}
use Rattle.dsm_flat.proofs.Clocks.{has_trace, not_all_blocked}
use Rattle.dsm_flat.proofs.Racing.{other_law, load_law, store_law, last_store_law, load_race_law, all_decided}
use Rattle.dsm_flat.proofs.Counting.{index_past}
use Rattle.dsm_flat.proofs.Gating.{get_set}
use Rattle.dsm_flat.proofs.Adding.{item_there}

-- a clock that does not count the last store doesn't count some store
pub not_behind : (clock : List ℕ) (last : Option Place) → (CountsLast clock last → ⊥) → (s : Place) × (last ≡ Some s) × (Counted clock s → ⊥)
not_behind clock None h = absurd (h (λ s e. absurd (cc e)))
not_behind clock (Some s) h = (s, refl, λ c. h (λ t e. subst (λ z. Counted clock z) (same_Some s t e) c))

-- numbers that are not all within others have one that isn't
some_above : (clock loads : List ℕ) (n : ℕ) → ((q : ℕ) → q < n → slice_index loads q ≤ slice_index clock q) ⊎ ((q : ℕ) × (slice_index clock q < slice_index loads q))
some_above clock loads zero = inl (λ q lt. absurd (omega (arith, lt)))
some_above clock loads (suc n) = go (some_above clock loads n) (cases_lt (slice_index clock n) (slice_index loads n))
  where
    go : ((q : ℕ) → q < n → slice_index loads q ≤ slice_index clock q) ⊎ ((q : ℕ) × (slice_index clock q < slice_index loads q)) → (slice_index clock n < slice_index loads n) ⊎ (slice_index loads n ≤ slice_index clock n)
        → ((q : ℕ) → q < suc n → slice_index loads q ≤ slice_index clock q) ⊎ ((q : ℕ) × (slice_index clock q < slice_index loads q))
    go (inr h) d = inr h
    go (inl h) (inl lt) = inr (n, lt)
    go (inl h) (inr le) = inl (λ q lt. at q lt (cases_eq q n))
      where
        at : (q : ℕ) → q < suc n → (q ≡ n) ⊎ (q ≡ n → ⊥) → slice_index loads q ≤ slice_index clock q
        at q lt (inl e) = rw e le
        at q lt (inr d) = h q (omega (arith, lt, d))

pub not_covered : (clock loads : List ℕ) → (CountsLoads clock loads → ⊥) → (q : ℕ) × (slice_index clock q < slice_index loads q)
not_covered clock loads h = go (some_above clock loads (length loads))
  where
    go : ((q : ℕ) → q < length loads → slice_index loads q ≤ slice_index clock q) ⊎ ((q : ℕ) × (slice_index clock q < slice_index loads q)) → (q : ℕ) × (slice_index clock q < slice_index loads q)
    go (inr f) = f
    go (inl f) = absurd (h (λ q. all q (cases_lt q (length loads))))
      where
        all : (q : ℕ) → (q < length loads) ⊎ (length loads ≤ q) → slice_index loads q ≤ slice_index clock q
        all q (inl lt) = f q lt
        all q (inr le) = omega (arith, index_past loads q le)

module _ (ts : Traces) (w : ℕ) (done : List ℕ) (y : Place) (clock now : List ℕ) (v : IsVisit ts done y clock now) (old : Latest) (l : IsLatest ts w done old) where
  -- an entry that does not access the word
  pub latest_other : (IsAccess ts w y → ⊥) → IsLatest ts w now old
  latest_other none = go l
    where
      go : ((old.races ≡ true) × (Ordered ts w → ⊥)) ⊎ ((old.races ≡ false) × IsDeciding ts w done old.store old.loads) → IsLatest ts w now old
      go (inl h) = inl h
      go (inr (e, d)) = inr (e, other_law ts w done y clock now old.store old.loads v d none)

  -- a load behind the last store
  pub latest_load : (new : Latest) → IsLoad ts w y → CountsLast clock old.store → new.store ≡ old.store → new.races ≡ old.races → IsPut old.loads y.p (y.i + 1) new.loads → IsLatest ts w now new
  latest_load new f k store races put = go l
    where
      go : ((old.races ≡ true) × (Ordered ts w → ⊥)) ⊎ ((old.races ≡ false) × IsDeciding ts w done old.store old.loads) → IsLatest ts w now new
      go (inl h) = inl (races ∙ h.0, h.1)
      go (inr (e, d)) = inr (races ∙ e, rw store (load_law ts w done y clock now old.store old.loads new.loads v d f k put))

  -- a store behind the last store and the loads
  pub latest_store : (new : Latest) → IsStore ts w y → CountsLast clock old.store → CountsLoads clock old.loads → new.store ≡ Some y → new.races ≡ old.races → new.loads ≡ [] → IsLatest ts w now new
  latest_store new f k c store races loads = go l
    where
      none : CountsNone new.loads
      none q = ap (λ xs. slice_index xs q) loads

      go : ((old.races ≡ true) × (Ordered ts w → ⊥)) ⊎ ((old.races ≡ false) × IsDeciding ts w done old.store old.loads) → IsLatest ts w now new
      go (inl h) = inl (races ∙ h.0, h.1)
      go (inr (e, d)) = inr (races ∙ e, rw store (store_law ts w done y clock now old.store old.loads new.loads v d f k c none))

  -- an access that is not behind the last store
  pub latest_races : (new : Latest) → IsAccess ts w y → (CountsLast clock old.store → ⊥) → new.races ≡ true → IsLatest ts w now new
  latest_races new f h races = inl (races, go l)
    where
      go : ((old.races ≡ true) × (Ordered ts w → ⊥)) ⊎ ((old.races ≡ false) × IsDeciding ts w done old.store old.loads) → Ordered ts w → ⊥
      go (inl r) = r.1
      go (inr (e, d)) = let s = not_behind clock old.store h in last_store_law ts w done y clock now old.store old.loads s.0 v d f s.1 s.2

  -- a store that is not behind the loads
  pub latest_overtakes : (new : Latest) → IsStore ts w y → (CountsLoads clock old.loads → ⊥) → new.races ≡ true → IsLatest ts w now new
  latest_overtakes new f h races = inl (races, go l)
    where
      go : ((old.races ≡ true) × (Ordered ts w → ⊥)) ⊎ ((old.races ≡ false) × IsDeciding ts w done old.store old.loads) → Ordered ts w → ⊥
      go (inl r) = r.1
      go (inr (e, d)) = let s = not_covered clock old.loads h in load_race_law ts w done y clock now old.store old.loads s.0 v d f s.1

-- an entry accesses no word but its own
pub accessed : (ts : Traces) (y : Place) (e : Entry) (w : ℕ) → Holds ts y e → IsAccess ts w y → (v : ℕ) × ((e ≡ Load w v) ⊎ (e ≡ Store w v))
accessed ts y e w h (v, inl k) = (v, inl (same_Some e (Load w v) (sym h ∙ k)))
accessed ts y e w h (v, inr k) = (v, inr (same_Some e (Store w v) (sym h ∙ k)))

module _ (ts : Traces) (done : List ℕ) (y : Place) (clock now : List ℕ) (v : IsVisit ts done y clock now) (list : List Latest) (all : AreLatest ts done list) where
  -- no word of the list is accessed
  pub all_others : ((w : ℕ) → w < length list → IsAccess ts w y → ⊥) → AreLatest ts now list
  all_others none w l at = latest_other ts w done y clock now v l (all w l at) (none w (slice_get_within list w l at))

  -- one word of the list is accessed
  pub one_latest : (w : ℕ) (old new : Latest) → slice_get list w ≡ Some old → ((u : ℕ) → IsAccess ts u y → u ≡ w) → (IsLatest ts w done old → IsLatest ts w now new) → AreLatest ts now (slice_set list w new)
  one_latest w old new at only f u l there = go (get_set list w u new l there)
    where
      go : ((u ≡ w) × (l ≡ new) × (u < length list)) ⊎ ((u ≢ w) × (slice_get list u ≡ Some l)) → IsLatest ts u now l
      go (inl e) = rw (e.0, e.1) (f (all w old at))
      go (inr d) = latest_other ts u done y clock now v l (all u l d.1) (λ a. d.0 (only u a))

-- a load, or a store, accesses no word but its own,
pub only_load : (ts : Traces) (y : Place) (e : Entry) (w v : ℕ) → Holds ts y e → e ≡ Load w v → (u : ℕ) → IsAccess ts u y → u ≡ w
only_load ts y e w v h is u a = go (accessed ts y e u h a)
  where
    go : (n : ℕ) × ((e ≡ Load u n) ⊎ (e ≡ Store u n)) → u ≡ w
    go (n, inl k) = cc (k, is)
    go (n, inr k) = absurd (cc (k, is))

pub only_store : (ts : Traces) (y : Place) (e : Entry) (w v : ℕ) → Holds ts y e → e ≡ Store w v → (u : ℕ) → IsAccess ts u y → u ≡ w
only_store ts y e w v h is u a = go (accessed ts y e u h a)
  where
    go : (n : ℕ) × ((e ≡ Load u n) ⊎ (e ≡ Store u n)) → u ≡ w
    go (n, inl k) = absurd (cc (k, is))
    go (n, inr k) = cc (k, is)

-- and another entry none
pub no_access : (ts : Traces) (y : Place) (e : Entry) → Holds ts y e → ((w v : ℕ) → e ≡ Load w v → ⊥) → ((w v : ℕ) → e ≡ Store w v → ⊥) → (u : ℕ) → IsAccess ts u y → ⊥
no_access ts y e h loads stores u a = go (accessed ts y e u h a)
  where
    go : (n : ℕ) × ((e ≡ Load u n) ⊎ (e ≡ Store u n)) → ⊥
    go (n, inl k) = loads u n k
    go (n, inr k) = stores u n k

-- where no entry can be visited, all are
pub all_visited : (ts : Traces) (done : List ℕ) → NoCircle ts → AllBlocked ts done → (x : Place) (e : Entry) → Holds ts x e → Counted done x
all_visited ts done nc b x e h = go (cases_lt x.i (slice_index done x.p))
  where
    go : (x.i < slice_index done x.p) ⊎ (slice_index done x.p ≤ x.i) → Counted done x
    go (inl lt) = lt
    go (inr le) = let w = within ts x e h in absurd (not_all_blocked ts done x.p nc (w.trace, w.at, omega (arith, le, w.inside)) b)

-- then what is kept says which words are ordered
module _ (ts : Traces) (done : List ℕ) (list : List Latest) (all : AreLatest ts done list) (visited : (x : Place) (e : Entry) → Holds ts x e → Counted done x) (w : ℕ) (lt : w < length list) where
  kept : (l : Latest) × (slice_get list w ≡ Some l)
  kept = item_there list w lt

  says : slice_get (map (λ (l : Latest). l.races) list) w ≡ Some (kept.0).races
  says = slice_get-map (λ (l : Latest). l.races) list w ∙ rw kept.1 refl

  pub says_ordered : (slice_get (map (λ (l : Latest). l.races) list) w ≡ Some false) ↔ Ordered ts w
  says_ordered = go (all w kept.0 kept.1)
    where
      go : (((kept.0).races ≡ true) × (Ordered ts w → ⊥)) ⊎ (((kept.0).races ≡ false) × IsDeciding ts w done (kept.0).store (kept.0).loads) → (slice_get (map (λ (l : Latest). l.races) list) w ≡ Some false) ↔ Ordered ts w
      go (inl (e, n)) = ((λ f. let s = says in absurd (cc (e, f, s))), λ o. absurd (n o))
      go (inr (e, d)) = ((λ f. all_decided ts w done (kept.0).store (kept.0).loads d visited), λ o. says ∙ ap Some e)

  pub says_raced : (slice_get (map (λ (l : Latest). l.races) list) w ≡ Some true) ↔ (Ordered ts w → ⊥)
  says_raced = go (all w kept.0 kept.1)
    where
      go : (((kept.0).races ≡ true) × (Ordered ts w → ⊥)) ⊎ (((kept.0).races ≡ false) × IsDeciding ts w done (kept.0).store (kept.0).loads) → (slice_get (map (λ (l : Latest). l.races) list) w ≡ Some true) ↔ (Ordered ts w → ⊥)
      go (inl (e, n)) = ((λ f. n), λ o. says ∙ ap Some e)
      go (inr (e, d)) = ((λ f. let s = says in absurd (cc (e, f, s))), λ n. absurd (n (all_decided ts w done (kept.0).store (kept.0).loads d visited)))

-- how many entries from processor q on are not visited
abbrev pub left_from : Traces → ℕ → List ℕ → ℕ
left_from [] q done = 0
left_from (t ∷ ts) q done = (length t - slice_index done q) + left_from ts (suc q) done

left_stays : (ts : Traces) (q p n : ℕ) (done now : List ℕ) → p < q → ((r : ℕ) → r ≢ p → slice_index now r ≡ slice_index done r) → left_from ts q now ≡ left_from ts q done
left_stays [] q p n done now lt others = refl
left_stays (t ∷ ts) q p n done now lt others = omega (arith, others q (λ e. absurd (omega (arith, lt, e))), left_stays ts (suc q) p n done now (omega (arith, lt)) others)

-- fewer are left where one more is visited
pub left_less : (ts : Traces) (q i : ℕ) (t : List Entry) (done now : List ℕ) → slice_get ts i ≡ Some t → slice_index done (q + i) < length t → IsPut done (q + i) (slice_index done (q + i) + 1) now → left_from ts q now < left_from ts q done
left_less [] q i t done now at lt put = absurd (cc at)
left_less (s ∷ ts) q zero t done now at lt put =
    let e : q + zero ≡ q = omega arith in
    let same : s ≡ t = same_Some s t at in
    let n : length s ≡ length t = ap length same in
    let d : slice_index done (q + zero) ≡ slice_index done q = ap (λ r. slice_index done r) e in
    let m : slice_index now (q + zero) ≡ slice_index now q = ap (λ r. slice_index now r) e in
    let rest = left_stays ts (suc q) (q + zero) 0 done now (omega arith) put.others in
    omega (arith, n, d, m, lt, put.own, rest)
left_less (s ∷ ts) q (suc i) t done now at lt put =
    let e : q + suc i ≡ suc q + i = omega arith in
    let rest = left_less ts (suc q) i t done now at (subst (λ r. slice_index done r < length t) e lt) (subst (λ r. IsPut done r (slice_index done r + 1) now) e put) in
    omega (arith, rest, put.others q (λ f. absurd (omega (arith, f))))

-- what is said of the next visit, where there is one, and where there is none
pub next_some : (ts : Traces) (old new : Visits) (o : Option Visit) (v : Visit) → o ≡ Some v → MatchOption o (AllBlocked ts old.done) (λ u. IsNextVisit ts old u new) → IsNextVisit ts old v new
next_some ts old new o v is h = subst (λ z. MatchOption z (AllBlocked ts old.done) (λ u. IsNextVisit ts old u new)) is h

pub next_none : (ts : Traces) (old new : Visits) (o : Option Visit) → ((v : Visit) → o ≡ Some v → ⊥) → MatchOption o (AllBlocked ts old.done) (λ u. IsNextVisit ts old u new) → AllBlocked ts old.done
next_none ts old new None no_x h = h
next_none ts old new (Some v) no_x h = absurd (no_x v refl)

-- a place with an entry is in a short trace
pub short_place : (ts : Traces) → AreShort ts → (old new : Visits) (v : Visit) → IsNextVisit ts old v new → v.place.i + 1 < 2 ^ 32
short_place ts short old new v n = let w = within ts v.place v.entry n.can.there in omega (arith, w.inside, short v.place.p w.trace w.at)

pub has_clock : (ts : Traces) (old new : Visits) (v : Visit) → AreVisits ts new → IsNextVisit ts old v new → v.place.p < length new.clocks.items
has_clock ts old new v a n = omega (arith, has_trace ts v.place v.entry n.can.there, a.len)

-- the clock that the code reads is the entry's
pub visit_read : (ts : Traces) (old new : Visits) (v : Visit) → AreVisits ts new → IsNextVisit ts old v new → (clock : List ℕ) → clock ≡ get_or new.clocks.items v.place.p clock → IsVisit ts old.done v.place clock new.done
visit_read ts old new v a n clock is = n.visit clock (slice_get_read new.clocks.items (length new.clocks.items) v.place.p clock refl (has_clock ts old new v a n) is)

-- fewer entries are left
pub fewer : (ts : Traces) (old new : Visits) (v : Visit) → IsNextVisit ts old v new → left_from ts 0 new.done < left_from ts 0 old.done
fewer ts old new v n =
    let w = within ts v.place v.entry n.can.there in
    let i : v.place.i ≡ slice_index old.done v.place.p = ap (λ z. z.i) n.can.place in
    let e : v.place.p ≡ 0 + v.place.p = omega arith in
    left_less ts 0 v.place.p w.trace old.done new.done w.at (subst (λ p. slice_index old.done p < length w.trace) e (omega (arith, i, w.inside)))
    (subst (λ p. IsPut old.done p (slice_index old.done p + 1) new.done) e (subst (λ j. IsPut old.done v.place.p (j + 1) new.done) i n.put))

pub none_of : (o : Option Visit) → ((v : Visit) → o ≡ Some v → ⊥) → o ≡ None
none_of None no_v = refl
none_of (Some v) no_v = absurd (no_v v refl)

-- a word with no race found is ordered, where all entries are visited
pub shown : (ts : Traces) (w : ℕ) (done : List ℕ) (l : Latest) → IsLatest ts w done l → l.races ≡ false → AllVisited ts done → Ordered ts w
shown ts w done l latest none all = go latest
  where
    go : ((l.races ≡ true) × (Ordered ts w → ⊥)) ⊎ ((l.races ≡ false) × IsDeciding ts w done l.store l.loads) → Ordered ts w
    go (inl (e, n)) = absurd (cc (e, none))
    go (inr (e, g)) = all_decided ts w done l.store l.loads g all
