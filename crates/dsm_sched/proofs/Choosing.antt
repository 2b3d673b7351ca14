-- Those that have not ended, and what an event does to their list.
use Rattle.std.proofs.Common.{◌≡◌, ◌≢◌, ℕ, zero, suc, ◌+◌, ◌-◌, ◌<◌, ◌≤◌, Bool, true, false, List, [], ◌∷◌, ◌++◌, length, Some, None, ◌⊎◌, inl, inr, refl, sym, ap, ◌∙◌, subst, arith, if◌then◌else◌, cond, append-nil, length-append}
use Rattle.std.specs.Prelude.{slice_get, remove}
use Rattle.std.specs.List.{range_with_len, filter}
use Rattle.std.proofs.lemmas.List.{length-set}
use Rattle.std.proofs.lemmas.List.Elements.{filter-append}
use Rattle.dsm_runs.specs.Setups.{Setup}
use Rattle.dsm_runs.specs.Clusters.{Cluster, may_go, moved}
use Rattle.dsm_core.specs.States.{IsEvent, AllEnded}
use Rattle.dsm_runs.proofs.Lists.{some_one, slice_get-set_other}
use Rattle.dsm_runs.proofs.Runs.{event_is, defined_is}
use Rattle.dsm_sched.specs.Schedules.{cyclic, first_running, running, drawn}
use Rattle.dsm_sched.proofs.Finding.{all_ended}

-- processor p has not ended
abbrev pub goes : Cluster → ℕ → Bool
goes c p = may_go false (slice_get c.processors p)

-- those of a list that have not
abbrev pub kept : Cluster → List ℕ → List ℕ
kept c ps = filter (goes c) ps

-- the first of a list that has not
pub first_kept : (c : Cluster) (ps : List ℕ) → first_running c ps ≡ slice_get (kept c ps) 0
first_kept c [] = refl
first_kept c (p ∷ ps) = go (goes c p) (first_kept c ps)
  where
    go : (b : Bool) → first_running c ps ≡ slice_get (kept c ps) 0 → (if b then Some p else first_running c ps) ≡ slice_get (cond b (p ∷ kept c ps) (kept c ps)) 0
    go true rest = refl
    go false rest = rest

-- an item of such a list has not ended
pub kept_goes : (c : Cluster) (ps : List ℕ) (i p : ℕ) → slice_get (kept c ps) i ≡ Some p → goes c p ≡ true
kept_goes c [] i p h = absurd (cc h)
kept_goes c (q ∷ ps) i p h = go (goes c q) refl i h (λ j. kept_goes c ps j p)
  where
    go : (b : Bool) → goes c q ≡ b → (j : ℕ) → slice_get (cond b (q ∷ kept c ps) (kept c ps)) j ≡ Some p → ((k : ℕ) → slice_get (kept c ps) k ≡ Some p → goes c p ≡ true) → goes c p ≡ true
    go true is zero h rest = subst (λ x. goes c x ≡ true) (some_one q p h) is
    go true is (suc j) h rest = rest j h
    go false is j h rest = rest j h

-- one that is drawn has not ended
pub drawn_goes : (c : Cluster) (u p : ℕ) → drawn (running c) u ≡ Some p → goes c p ≡ true
drawn_goes c u p h = kept_goes c (range_with_len 0 (length c.processors)) _ p h

-- none is drawn of none
pub none_drawn : (ps : List ℕ) (u : ℕ) → ps ≡ [] → drawn ps u ≡ None
none_drawn ps u none = ap (λ qs. drawn qs u) none

-- a range in two
pub range_cut : (a n m : ℕ) → range_with_len a (n + m) ≡ range_with_len a n ++ range_with_len (a + n) m
range_cut a zero m = ap (range_with_len a) (let z : zero + m ≡ m = omega arith in z) ∙ ap (λ b. range_with_len b m) (let z : a ≡ a + zero = omega arith in z)
range_cut a (suc n) m =
    ap (range_with_len a) (let z : suc n + m ≡ suc (n + m) = omega arith in z)
    ∙ ap (λ ps. a ∷ ps) (range_cut (a + 1) n m)
    ∙ ap (λ b. a ∷ range_with_len (a + 1) n ++ range_with_len b m) (let z : a + 1 + n ≡ a + suc n = omega arith in z)

-- those that have not ended, before a processor and from it on
pub running_cut : (c : Cluster) (from : ℕ) → from ≤ length c.processors → running c ≡ kept c (range_with_len 0 from) ++ kept c (range_with_len from (length c.processors - from))
running_cut c from inside =
    ap (λ n. kept c (range_with_len 0 n)) (let z : length c.processors ≡ from + (length c.processors - from) = omega (arith, inside) in z)
    ∙ ap (kept c) (range_cut 0 from (length c.processors - from))
    ∙ ap (λ b. kept c (range_with_len 0 from ++ range_with_len b (length c.processors - from))) (let z : 0 + from ≡ from = omega arith in z)
    ∙ filter-append (goes c) (range_with_len 0 from) (range_with_len from (length c.processors - from))

-- a list turned round
behind_front : (xs : List ℕ) (y : ℕ) (ys : List ℕ) → slice_get (xs ++ (y ∷ ys)) (length xs) ≡ Some y
behind_front [] y ys = refl
behind_front (x ∷ xs) y ys = behind_front xs y ys

turned : (xs ys : List ℕ) (i : ℕ) → (length xs < length (xs ++ ys) → i ≡ length xs) → (length (xs ++ ys) ≤ length xs → i ≡ 0) → slice_get (xs ++ ys) i ≡ slice_get (ys ++ xs) 0
turned xs [] i within first =
    ap (λ zs. slice_get zs i) (append-nil xs) ∙ ap (slice_get xs) (first (omega (arith, length-append xs [])))
turned xs (y ∷ ys) i within first =
    ap (slice_get (xs ++ (y ∷ ys))) (within (omega (arith, length-append xs (y ∷ ys)))) ∙ behind_front xs y ys

-- the place that comes next in cyclic order has the first in that order
pub round_finds : (c : Cluster) (from at i : ℕ) → from ≤ length c.processors → at ≡ length (kept c (range_with_len 0 from)) → (at < length (running c) → i ≡ at) → (length (running c) ≤ at → i ≡ 0)
    → first_running c (cyclic (length c.processors) from) ≡ slice_get (running c) i
round_finds c from at i inside is within first =
    let front = kept c (range_with_len 0 from) in
    let back = kept c (range_with_len from (length c.processors - from)) in
    let cut : running c ≡ front ++ back = running_cut c from inside in
    let long : length (running c) ≡ length (front ++ back) = ap length cut in
    first_kept c (cyclic (length c.processors) from)
    ∙ ap (λ ps. slice_get ps 0) (filter-append (goes c) (range_with_len from (length c.processors - from)) (range_with_len 0 from))
    ∙ sym (turned front back i (λ low. within (omega (arith, is, long, low)) ∙ is) (λ high. first (omega (arith, is, long, high))))
    ∙ ap (λ ps. slice_get ps i) (sym cut)

-- where none is left, all have ended
pub none_left : (c : Cluster) → running c ≡ [] → AllEnded c
none_left c none =
    all_ended c 0 (omega arith)
    (first_kept c (cyclic (length c.processors) 0)
    ∙ ap (λ n. slice_get (kept c (range_with_len 0 n ++ [])) 0) (let z : length c.processors - 0 ≡ length c.processors = omega arith in z)
    ∙ ap (λ ps. slice_get ps 0) (filter-append (goes c) (range_with_len 0 (length c.processors)) [] ∙ append-nil (running c) ∙ none))

-- and the other way round
pub all_left : (c : Cluster) (ps : List ℕ) → first_running c ps ≡ None → kept c ps ≡ []
all_left c ps none = go (kept c ps) (sym (first_kept c ps) ∙ none)
  where
    go : (qs : List ℕ) → slice_get qs 0 ≡ None → qs ≡ []
    go [] h = refl
    go (q ∷ qs) h = absurd (cc h)

range_on : (a p : ℕ) → a < p → range_with_len a (p - a) ≡ a ∷ range_with_len (a + 1) (p - (a + 1))
range_on a p low = ap (range_with_len a) (let z : p - a ≡ suc (p - (a + 1)) = omega arith in z)

-- the place of a processor is the number of those before it
pub place_is : (c : Cluster) (n a i p : ℕ) → slice_get (kept c (range_with_len a n)) i ≡ Some p → (a ≤ p) × (p < a + n) × (i ≡ length (kept c (range_with_len a (p - a))))
place_is c zero a i p h = absurd (cc h)
place_is c (suc n) a i p h = go (goes c a) refl i h (λ j. place_is c n (a + 1) j p)
  where
    go : (b : Bool) → goes c a ≡ b → (j : ℕ) → slice_get (cond b (a ∷ kept c (range_with_len (a + 1) n)) (kept c (range_with_len (a + 1) n))) j ≡ Some p
        → ((k : ℕ) → slice_get (kept c (range_with_len (a + 1) n)) k ≡ Some p → (a + 1 ≤ p) × (p < a + 1 + n) × (k ≡ length (kept c (range_with_len (a + 1) (p - (a + 1))))))
        → (a ≤ p) × (p < a + suc n) × (j ≡ length (kept c (range_with_len a (p - a))))
    go true is zero h later =
        let same : a ≡ p = some_one a p h in
        (omega (arith, same), omega (arith, same), ap (λ m. length (kept c (range_with_len a m))) (let z : 0 ≡ p - a = omega (arith, same) in z))
    go true is (suc j) h later =
        let l = later j h in
        (omega (arith, l.0), omega (arith, l.1), ap suc l.2 ∙ ap (λ b. length (cond b (a ∷ kept c (range_with_len (a + 1) (p - (a + 1)))) (kept c (range_with_len (a + 1) (p - (a + 1)))))) (sym is) ∙ ap (λ ps. length (kept c ps)) (sym (range_on a p (omega (arith, l.0)))))
    go false is j h later =
        let l = later j h in
        (omega (arith, l.0), omega (arith, l.1), l.2 ∙ ap (λ b. length (cond b (a ∷ kept c (range_with_len (a + 1) (p - (a + 1)))) (kept c (range_with_len (a + 1) (p - (a + 1)))))) (sym is) ∙ ap (λ ps. length (kept c ps)) (sym (range_on a p (omega (arith, l.0)))))

-- an event of processor p leaves the others
module _ (s : Setup) (old new : Cluster) (p : ℕ) (starved : Bool) (is : IsEvent s old new (record { p = p; starved = starved })) where
  new_is : new ≡ moved s old (record { p = p; starved = starved }) None (defined_is old (record { p = p; starved = starved }) is.0).0
  new_is =
      let m = defined_is old (record { p = p; starved = starved }) is.0 in
      is.1 ∙ event_is s old (record { p = p; starved = starved }) None m.0 m.1 m.2

  pub same_many : length new.processors ≡ length old.processors
  same_many = ap (λ (c : Cluster). length c.processors) new_is ∙ length-set old.processors p _

  pub others_stay : (q : ℕ) → q ≢ p → goes new q ≡ goes old q
  others_stay q other = ap (λ (c : Cluster). goes c q) new_is ∙ ap (may_go false) (slice_get-set_other old.processors p q _ other)

-- where the others stay, so do the lists that lack p
module _ (old new : Cluster) (p : ℕ) (others : (q : ℕ) → q ≢ p → goes new q ≡ goes old q) where
  more : (a n : ℕ) → a ≢ p → kept new (range_with_len (a + 1) n) ≡ kept old (range_with_len (a + 1) n) → kept new (range_with_len a (suc n)) ≡ kept old (range_with_len a (suc n))
  more a n other rest =
      ap (λ b. cond b (a ∷ kept new (range_with_len (a + 1) n)) (kept new (range_with_len (a + 1) n))) (others a other)
      ∙ ap (λ ps. cond (goes old a) (a ∷ ps) ps) rest

  pub kept_above : (n a : ℕ) → p < a → kept new (range_with_len a n) ≡ kept old (range_with_len a n)
  kept_above zero a high = refl
  kept_above (suc n) a high = more a n (λ is. omega (arith, is, high)) (kept_above n (a + 1) (omega (arith, high)))

  pub kept_below : (n a : ℕ) → a + n ≤ p → kept new (range_with_len a n) ≡ kept old (range_with_len a n)
  kept_below zero a low = refl
  kept_below (suc n) a low = more a n (λ is. omega (arith, is, low)) (kept_below n (a + 1) (omega (arith, low)))

  -- where p still goes, all lists stay
  pub kept_same : goes new p ≡ goes old p → (n a : ℕ) → kept new (range_with_len a n) ≡ kept old (range_with_len a n)
  kept_same same zero a = refl
  kept_same same (suc n) a =
      ap (λ b. cond b (a ∷ kept new (range_with_len (a + 1) n)) (kept new (range_with_len (a + 1) n))) (all a)
      ∙ ap (λ ps. cond (goes old a) (a ∷ ps) ps) (kept_same same n (a + 1))
    where
      cases : (q : ℕ) → (q ≡ p) ⊎ (q ≢ p)
      cases q = grind arith

      all : (q : ℕ) → goes new q ≡ goes old q
      all q = elim (cases q) [ inl is ↦ ap (goes new) is ∙ same ∙ ap (goes old) (sym is) | inr other ↦ others q other ]

  -- and where it has ended, it leaves them
  pub kept_without : goes new p ≡ false → (n a i : ℕ) → slice_get (kept old (range_with_len a n)) i ≡ Some p → kept new (range_with_len a n) ≡ remove (kept old (range_with_len a n)) i
  kept_without over zero a i h = absurd (cc h)
  kept_without over (suc n) a i h = go (goes old a) refl i h (λ j. kept_without over n (a + 1) j)
    where
      go : (b : Bool) → goes old a ≡ b → (j : ℕ) → slice_get (cond b (a ∷ kept old (range_with_len (a + 1) n)) (kept old (range_with_len (a + 1) n))) j ≡ Some p
          → ((k : ℕ) → slice_get (kept old (range_with_len (a + 1) n)) k ≡ Some p → kept new (range_with_len (a + 1) n) ≡ remove (kept old (range_with_len (a + 1) n)) k)
          → cond (goes new a) (a ∷ kept new (range_with_len (a + 1) n)) (kept new (range_with_len (a + 1) n)) ≡ remove (cond b (a ∷ kept old (range_with_len (a + 1) n)) (kept old (range_with_len (a + 1) n))) j
      go true is zero h later =
          let same : a ≡ p = some_one a p h in
          ap (λ b. cond b (a ∷ kept new (range_with_len (a + 1) n)) (kept new (range_with_len (a + 1) n))) (ap (goes new) same ∙ over) ∙ kept_above n (a + 1) (omega (arith, same))
      go true is (suc j) h later =
          let l = place_is old n (a + 1) j p h in
          ap (λ b. cond b (a ∷ kept new (range_with_len (a + 1) n)) (kept new (range_with_len (a + 1) n))) (others a (λ same. omega (arith, same, l.0)) ∙ is) ∙ ap (λ ps. a ∷ ps) (later j h)
      go false is j h later =
          let l = place_is old n (a + 1) j p h in
          ap (λ b. cond b (a ∷ kept new (range_with_len (a + 1) n)) (kept new (range_with_len (a + 1) n))) (others a (λ same. omega (arith, same, l.0)) ∙ is) ∙ later j h
