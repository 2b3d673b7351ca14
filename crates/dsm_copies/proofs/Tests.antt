-- Tests that compute: where they answer true, the list meets the premises.
use Rattle.std.proofs.Common.{◌≡◌, ◌≢◌, ℕ, zero, suc, ◌<◌, ◌≤◌, ◌⊎◌, Bool, true, false, ◌==◌, Option, None, Some, List, [], ◌∷◌, refl, sym, ap, ◌∙◌, subst, inl, inr, arith}
use Rattle.std.specs.Prelude.{◌||◌, ◌&&◌, not, nat_lt, slice_get}
use Rattle.std.proofs.lemmas.Bool.{cases_eq, eq-eqb, eqb-true}
use Rattle.dsm_copies.specs.Modes.{Mode, Bare, Twinned, Exclusive, Flush_over, is_alone, may_store, outdated, touched, op_mode, owed, ended, told}
use Rattle.dsm_copies.specs.Copies.{State, Event, Load, Store, Signal, Pass, Begin, Op, Drop, Enter, Home_sent, Home_told, Home_enter, Home_break, Flush, Merge, Overwrite, Make, Break, is_at, is_by, is_home, put, op_node, out_node, touch_node, store_at, after_event, after, read, exclusive_at}
use Rattle.dsm_copies.specs.Premises.{Premise, Values, Order, Apart, Fetched, Told, Broken, Rights, Released, Flushes, Merges, Overwrites, Makes, Breaks, Drops, Kept, Home_sends, Enters, Home_tells, AtAccess, Away, IsApart, IsOthers, Asks, RunsUnder}
use Rattle.dsm_copies.proofs.Holds.{each_put}

pub and_left : (a b : Bool) → (a && b) ≡ true → a ≡ true
and_left true b e = refl
and_left false b e = absurd (cc e)

pub and_right : (a b : Bool) → (a && b) ≡ true → b ≡ true
and_right true b e = e
and_right false b e = absurd (cc e)

pub or_case : (a b : Bool) → (a || b) ≡ true → (a ≡ true) ⊎ (b ≡ true)
or_case true b e = inl refl
or_case false b e = inr e

pub not_false : (a : Bool) → not a ≡ true → a ≡ false
not_false true e = absurd (cc e)
not_false false e = refl

-- the modes at which something may begin
abbrev pub is_bare : Mode → Bool
is_bare Bare = true
is_bare _ = false

abbrev pub is_twinned : Mode → Bool
is_twinned Twinned = true
is_twinned _ = false

abbrev pub is_only_exclusive : Mode → Bool
is_only_exclusive Exclusive = true
is_only_exclusive _ = false

abbrev pub is_flushed : Mode → Bool
is_flushed Flush_over = true
is_flushed _ = false

bare_is : (x : Mode) → is_bare x ≡ true → x ≡ Bare
bare_is Bare e = refl
bare_is x e = absurd (cc e)

twinned_is : (x : Mode) → is_twinned x ≡ true → x ≡ Twinned
twinned_is Twinned e = refl
twinned_is x e = absurd (cc e)

exclusive_is : (x : Mode) → is_only_exclusive x ≡ true → x ≡ Exclusive
exclusive_is Exclusive e = refl
exclusive_is x e = absurd (cc e)

flushed_is : (x : Mode) → is_flushed x ≡ true → x ≡ Flush_over
flushed_is Flush_over e = refl
flushed_is x e = absurd (cc e)

-- all numbers below a bound pass
abbrev pub all_below : ℕ → (ℕ → Bool) → Bool
all_below zero f = true
all_below (suc n) f = f n && all_below n f

pub below_passes : (n : ℕ) (f : ℕ → Bool) → all_below n f ≡ true → (k : ℕ) → k < n → f k ≡ true
below_passes zero f e k lt = absurd (omega (arith, lt))
below_passes (suc n) f e k lt = go (cases_eq k n) (λ l. below_passes n f (and_right (f n) (all_below n f) e) k l)
  where
    go : (k ≡ n) ⊎ (k ≢ n) → (k < n → f k ≡ true) → f k ≡ true
    go (inl is) ih = rw is (and_left (f n) (all_below n f) e)
    go (inr ne) ih = ih (omega (arith, lt, ne))

abbrev pub at_access : (ℕ → Bool) → Event → Bool
at_access f (Load p v) = f p
at_access f (Store p v) = f p
at_access f _ = true

abbrev pub away : Option ℕ → (ℕ → Bool) → Bool
away None f = true
away (Some n) f = f n

pub access_passes : (f : ℕ → Bool) (P : ℕ → Type 0) → ((p : ℕ) → f p ≡ true → P p) → (e : Event) → at_access f e ≡ true → AtAccess P e
access_passes f P so (Load p v) h = so p h
access_passes f P so (Store p v) h = so p h
access_passes f P so e h = tt

pub away_passes : (f : ℕ → Bool) (P : ℕ → Type 0) → ((n : ℕ) → f n ≡ true → P n) → (w : Option ℕ) → away w f ≡ true → Away w P
away_passes f P so None h = tt
away_passes f P so (Some n) h = so n h

abbrev pub is_none_of : Option ℕ → Bool
is_none_of None = true
is_none_of (Some p) = false

none_is : (x : Option ℕ) → is_none_of x ≡ true → x ≡ None
none_is None e = refl
none_is (Some p) e = absurd (cc e)

pub below : (k n : ℕ) → nat_lt k n ≡ true → k < n
below k n e = grind arith

pub above : (k n : ℕ) → nat_lt k n ≡ false → n ≤ k
above k n e = grind arith

pub other : (m n : ℕ) → not (m == n) ≡ true → m ≢ n
other m n h e = let f = not_false (m == n) h in let g = eq-eqb m n e in absurd (cc (f, g))

-- all premises, by number
abbrev pub premises : List Premise
premises = Values ∷ Order ∷ Apart ∷ Fetched ∷ Told ∷ Broken ∷ Rights ∷ Released ∷ Flushes ∷ Merges ∷ Overwrites ∷ Makes ∷ Breaks ∷ Drops ∷ Kept ∷ Home_sends ∷ Enters ∷ Home_tells ∷ []

abbrev pub index : Premise → ℕ
index Values = 0
index Order = 1
index Apart = 2
index Fetched = 3
index Told = 4
index Broken = 5
index Rights = 6
index Released = 7
index Flushes = 8
index Merges = 9
index Overwrites = 10
index Makes = 11
index Breaks = 12
index Drops = 13
index Kept = 14
index Home_sends = 15
index Enters = 16
index Home_tells = 17

pub at_index : (r : Premise) → slice_get premises (index r) ≡ Some r
at_index Values = refl
at_index r = refl

pub index_one : (q r : Premise) → index q ≡ index r → q ≡ r
index_one q r e = let a = at_index q in let b = at_index r in let c : Some q ≡ Some r = sym a ∙ (ap (slice_get premises) e ∙ b) in cc c

abbrev pub all_of : List Premise → (Premise → Bool) → Bool
all_of [] f = true
all_of (r ∷ rs) f = f r && all_of rs f

pub all_passes : (rs : List Premise) (f : Premise → Bool) → all_of rs f ≡ true → (i : ℕ) (r : Premise) → slice_get rs i ≡ Some r → f r ≡ true
all_passes [] f h i r at = absurd (cc at)
all_passes (q ∷ rs) f h zero r at = let e : q ≡ r = cc at in subst (λ x. f x ≡ true) e (and_left (f q) (all_of rs f) h)
all_passes (q ∷ rs) f h (suc i) r at = all_passes rs f (and_right (f q) (all_of rs f) h) i r at

-- nodes from the bound on have done nothing
module _ (place : ℕ → Option ℕ) (bound : ℕ) where
  abbrev pub IsBounded : State → Type 0
  IsBounded s = (k : ℕ) → bound ≤ k → (s.nodes k).mode ≡ Bare

  abbrev pub apart_test : State → Option ℕ → Bool
  apart_test s None = all_below bound (λ k. not (is_alone (s.nodes k).mode))
  apart_test s (Some n) = not s.home_exclusive && all_below bound (λ k. (k == n) || not (is_alone (s.nodes k).mode))

  -- a last store of another node was fetched since, if b
  abbrev pub since_test : State → ℕ → Bool → Bool
  since_test s n b = is_at s.at n || (is_none_of s.by || (not b || (s.nodes n).since))

  -- what a premise asks, and that no node from the bound on begins anything
  abbrev pub test : Premise → State → Event → Bool
  test Values s (Load p v) = v == read s (place p)
  test Order s e = at_access s.knows e
  test Apart s e = at_access (λ p. apart_test s (place p)) e
  test Fetched s e = at_access (λ p. away (place p) (λ n. (s.nodes n).fetched)) e
  test Told s e = at_access (λ p. away (place p) (λ n. since_test s n (s.told_to p))) e
  test Broken s e = at_access (λ p. away (place p) (λ n. since_test s n s.broken)) e
  test Rights s (Store p v) = away (place p) (λ n. may_store (s.nodes n).mode)
  test Released s (Signal p) = not (is_by s.by p) || ((s.progress == told) || (exclusive_at s s.at && not (s.progress == owed)))
  test Flushes s (Begin n Flush) = is_twinned (s.nodes n).mode
  test Merges s (Begin n Merge) = is_twinned (s.nodes n).mode
  test Overwrites s (Begin n Overwrite) = is_bare (s.nodes n).mode
  test Makes s (Begin n Make) = is_bare (s.nodes n).mode
  test Breaks s (Begin n Break) = is_only_exclusive (s.nodes n).mode
  test Drops s (Drop n) = is_flushed (s.nodes n).mode
  test Kept s (Drop n) = not (is_at s.at n) || not (s.progress == owed)
  test Home_sends s Home_sent = not s.home_exclusive
  test Enters s (Enter n) = all_below bound (λ k. is_bare (s.nodes k).mode)
  test Home_tells s Home_enter = not (is_home s.at) || not (s.progress == ended)
  test _ s e = true

  -- nodes at which something begins are below the bound
  abbrev pub begins_below : Event → Bool
  begins_below (Begin n kind) = nat_lt n bound
  begins_below (Enter n) = nat_lt n bound
  begins_below _ = true

  -- all numbers, where those from the bound on pass
  pub each_passes : (f : ℕ → Bool) (P : ℕ → Type 0) → ((k : ℕ) → f k ≡ true → P k) → ((k : ℕ) → bound ≤ k → P k) → all_below bound f ≡ true → (k : ℕ) → P k
  each_passes f P so high h k = go (nat_lt k bound) refl
    where
      go : (b : Bool) → nat_lt k bound ≡ b → P k
      go true e = so k (below_passes bound f h k (below k bound e))
      go false e = high k (above k bound e)

  module _ (s : State) (low : IsBounded s) where
    bare_alone : (k : ℕ) → bound ≤ k → is_alone (s.nodes k).mode ≡ false
    bare_alone k le = ap is_alone (low k le)

    apart_passes : (w : Option ℕ) → apart_test s w ≡ true → IsApart s w
    apart_passes None h = each_passes (λ k. not (is_alone (s.nodes k).mode)) (λ k. is_alone (s.nodes k).mode ≡ false) (λ k e. not_false (is_alone (s.nodes k).mode) e) bare_alone h
    apart_passes (Some n) h =
        let a = and_left (not s.home_exclusive) (all_below bound (λ k. (k == n) || not (is_alone (s.nodes k).mode))) h in
        let b = and_right (not s.home_exclusive) (all_below bound (λ k. (k == n) || not (is_alone (s.nodes k).mode))) h in
        (not_false s.home_exclusive a, each_passes (λ k. (k == n) || not (is_alone (s.nodes k).mode)) (λ k. k ≢ n → is_alone (s.nodes k).mode ≡ false) one (λ k le ne. bare_alone k le) b)
      where
        one : (k : ℕ) → ((k == n) || not (is_alone (s.nodes k).mode)) ≡ true → k ≢ n → is_alone (s.nodes k).mode ≡ false
        one k h ne = go (or_case (k == n) (not (is_alone (s.nodes k).mode)) h)
          where
            go : ((k == n) ≡ true) ⊎ (not (is_alone (s.nodes k).mode) ≡ true) → is_alone (s.nodes k).mode ≡ false
            go (inl e) = absurd (ne (eqb-true k n e))
            go (inr e) = not_false (is_alone (s.nodes k).mode) e

    since_passes : (n : ℕ) (b : Bool) → since_test s n b ≡ true → IsOthers s n → b ≡ true → (s.nodes n).since ≡ true
    since_passes n b h others is = go (or_case (is_at s.at n) (is_none_of s.by || (not b || (s.nodes n).since)) h)
      where
        last : (not b ≡ true) ⊎ ((s.nodes n).since ≡ true) → (s.nodes n).since ≡ true
        last (inl e) = absurd (let f = not_false b e in cc (f, is))
        last (inr e) = e

        rest : (is_none_of s.by ≡ true) ⊎ ((not b || (s.nodes n).since) ≡ true) → (s.nodes n).since ≡ true
        rest (inl e) = absurd (others.1 (none_is s.by e))
        rest (inr e) = last (or_case (not b) (s.nodes n).since e)

        go : (is_at s.at n ≡ true) ⊎ ((is_none_of s.by || (not b || (s.nodes n).since)) ≡ true) → (s.nodes n).since ≡ true
        go (inl e) = absurd (let f = others.0 in cc (e, f))
        go (inr e) = rest (or_case (is_none_of s.by) (not b || (s.nodes n).since) e)

    -- at an access, by what is known of its processor
    since_access : (b : ℕ → Bool) (e : Event) → at_access (λ p. away (place p) (λ n. since_test s n (b p))) e ≡ true
        → AtAccess (λ p. Away (place p) (λ n. IsOthers s n → b p ≡ true → (s.nodes n).since ≡ true)) e
    since_access b e h = access_passes (λ p. away (place p) (λ n. since_test s n (b p))) (λ p. Away (place p) (λ n. IsOthers s n → b p ≡ true → (s.nodes n).since ≡ true)) one e h
      where
        one : (p : ℕ) → away (place p) (λ n. since_test s n (b p)) ≡ true → Away (place p) (λ n. IsOthers s n → b p ≡ true → (s.nodes n).since ≡ true)
        one p x = away_passes (λ n. since_test s n (b p)) (λ n. IsOthers s n → b p ≡ true → (s.nodes n).since ≡ true) (λ n y. since_passes n (b p) y) (place p) x

    released_passes : (p : ℕ) → (not (is_by s.by p) || ((s.progress == told) || (exclusive_at s s.at && not (s.progress == owed)))) ≡ true → s.by ≡ Some p → (s.progress ≡ told) ⊎ ((exclusive_at s s.at ≡ true) × (s.progress ≢ owed))
    released_passes p h by = go (or_case (not (is_by s.by p)) ((s.progress == told) || (exclusive_at s s.at && not (s.progress == owed))) h)
      where
        rest : ((s.progress == told) ≡ true) ⊎ ((exclusive_at s s.at && not (s.progress == owed)) ≡ true) → (s.progress ≡ told) ⊎ ((exclusive_at s s.at ≡ true) × (s.progress ≢ owed))
        rest (inl e) = inl (eqb-true s.progress told e)
        rest (inr e) = inr (and_left (exclusive_at s s.at) (not (s.progress == owed)) e, other s.progress owed (and_right (exclusive_at s s.at) (not (s.progress == owed)) e))

        go : (not (is_by s.by p) ≡ true) ⊎ (((s.progress == told) || (exclusive_at s s.at && not (s.progress == owed))) ≡ true) → (s.progress ≡ told) ⊎ ((exclusive_at s s.at ≡ true) × (s.progress ≢ owed))
        go (inl e) = absurd (let f = not_false (is_by s.by p) e in let g : is_by s.by p ≡ true = rw by (eq-eqb p p refl) in cc (f, g))
        go (inr e) = rest (or_case (s.progress == told) (exclusive_at s s.at && not (s.progress == owed)) e)

    -- where b, it is another number
    unless : (b : Bool) (m n : ℕ) → (not b || not (m == n)) ≡ true → b ≡ true → m ≢ n
    unless b m n h is = go (or_case (not b) (not (m == n)) h)
      where
        go : (not b ≡ true) ⊎ (not (m == n) ≡ true) → m ≢ n
        go (inl e) = absurd (let f = not_false b e in cc (f, is))
        go (inr e) = other m n e

    pub passes : (r : Premise) (e : Event) → test r s e ≡ true → Asks place r s e
    passes Values (Load p v) h = eqb-true v (read s (place p)) h
    passes Order e h = access_passes s.knows (λ p. s.knows p ≡ true) (λ p x. x) e h
    passes Apart e h = access_passes (λ p. apart_test s (place p)) (λ p. IsApart s (place p)) (λ p x. apart_passes (place p) x) e h
    passes Fetched e h = access_passes (λ p. away (place p) (λ n. (s.nodes n).fetched)) (λ p. Away (place p) (λ n. (s.nodes n).fetched ≡ true)) (λ p x. away_passes (λ n. (s.nodes n).fetched) (λ n. (s.nodes n).fetched ≡ true) (λ n y. y) (place p) x) e h
    passes Told e h = since_access s.told_to e h
    passes Broken e h = since_access (λ p. s.broken) e h
    passes Rights (Store p v) h = away_passes (λ n. may_store (s.nodes n).mode) (λ n. may_store (s.nodes n).mode ≡ true) (λ n y. y) (place p) h
    passes Released (Signal p) h = released_passes p h
    passes Flushes (Begin n Flush) h = twinned_is (s.nodes n).mode h
    passes Merges (Begin n Merge) h = twinned_is (s.nodes n).mode h
    passes Overwrites (Begin n Overwrite) h = bare_is (s.nodes n).mode h
    passes Makes (Begin n Make) h = bare_is (s.nodes n).mode h
    passes Breaks (Begin n Break) h = exclusive_is (s.nodes n).mode h
    passes Drops (Drop n) h = flushed_is (s.nodes n).mode h
    passes Kept (Drop n) h = unless (is_at s.at n) s.progress owed h
    passes Home_sends Home_sent h = not_false s.home_exclusive h
    passes Enters (Enter n) h = each_passes (λ k. is_bare (s.nodes k).mode) (λ k. (s.nodes k).mode ≡ Bare) (λ k y. bare_is (s.nodes k).mode y) low h
    passes Home_tells Home_enter h = λ e. unless (is_home s.at) s.progress ended h (ap is_home e)
    passes r e h = tt

    -- a store, wherever it is made
    bounded_store : (p v : ℕ) (w : Option ℕ) → IsBounded (store_at s p w v)
    bounded_store p v None = λ k le. ap outdated (low k le)
    bounded_store p v (Some n) = each_put (λ k y. bound ≤ k → y.mode ≡ Bare) (λ k. out_node (s.nodes k)) n (touch_node v (s.nodes n)) (λ le. ap touched (low n le)) (λ k ne le. ap outdated (low k le))

    -- something begins at a node below the bound
    bounded_begin : (n : ℕ) (x : Mode) → nat_lt n bound ≡ true → IsBounded (record s { nodes = put s.nodes n (record (s.nodes n) { mode = x }) })
    bounded_begin n x e = each_put (λ k y. bound ≤ k → y.mode ≡ Bare) s.nodes n (record (s.nodes n) { mode = x }) (λ le. absurd (let lt = below n bound e in omega (arith, lt, le))) (λ k ne. low k)

    pub bounded : (e : Event) → begins_below e ≡ true → IsBounded (after_event place s e)
    bounded (Load p v) e = low
    bounded (Store p v) e = bounded_store p v (place p)
    bounded (Signal p) e = low
    bounded (Pass p) e = low
    bounded (Begin n kind) e = bounded_begin n _ e
    bounded (Op n) e = each_put (λ k y. bound ≤ k → y.mode ≡ Bare) s.nodes n (op_node s.master s.progress (s.nodes n)) (λ le. ap (op_mode s.master s.progress (s.nodes n).frame (s.nodes n).twin) (low n le)) (λ k ne. low k)
    bounded (Drop n) e = each_put (λ k y. bound ≤ k → y.mode ≡ Bare) s.nodes n (record (s.nodes n) { mode = Bare }) (λ le. refl) (λ k ne. low k)
    bounded (Enter n) e = bounded_begin n _ e
    bounded Home_sent e = low
    bounded Home_told e = low
    bounded Home_enter e = low
    bounded Home_break e = low

  -- all premises but those that are skipped, at each event of a list
  abbrev pub runs_test : (Premise → Bool) → State → List Event → Bool
  runs_test skip s [] = true
  runs_test skip s (e ∷ older) = (begins_below e && all_of premises (λ r. skip r || test r (after place s older) e)) && runs_test skip s older

  pub runs_pass : (asked : Premise → Type 0) (skip : Premise → Bool) → ((r : Premise) → asked r → skip r ≡ false) → (s : State) → IsBounded s
      → (es : List Event) → runs_test skip s es ≡ true → RunsUnder place asked s es × IsBounded (after place s es)
  runs_pass asked skip so s low [] h = (tt, low)
  runs_pass asked skip so s low (e ∷ older) h =
      let a = and_left (begins_below e && all_of premises (λ r. skip r || test r (after place s older) e)) (runs_test skip s older) h in
      let ih = runs_pass asked skip so s low older (and_right (begins_below e && all_of premises (λ r. skip r || test r (after place s older) e)) (runs_test skip s older) h) in
      let all = and_right (begins_below e) (all_of premises (λ r. skip r || test r (after place s older) e)) a in (
        (λ r x. one r x ih.1 (or_case (skip r) (test r (after place s older) e) (all_passes premises (λ r. skip r || test r (after place s older) e) all (index r) r (at_index r))), ih.0),
        bounded (after place s older) ih.1 e (and_left (begins_below e) (all_of premises (λ r. skip r || test r (after place s older) e)) a),
      )
    where
      one : (r : Premise) → asked r → IsBounded (after place s older) → (skip r ≡ true) ⊎ (test r (after place s older) e ≡ true) → Asks place r (after place s older) e
      one r x low (inl f) = absurd (let g = so r x in cc (f, g))
      one r x low (inr f) = passes (after place s older) low r e f
