-- Tests that compute: where they answer true, an event may come.
use Rattle.std.proofs.Common.{◌≡◌, ◌≢◌, ℕ, zero, suc, ◌<◌, ◌≤◌, ◌⊎◌, Bool, true, false, ◌==◌, List, [], ◌∷◌, refl, ap, inl, inr, arith}
use Rattle.std.specs.Prelude.{◌||◌, ◌&&◌, not, if◌then◌else◌, nat_lt, nat_le}
use Rattle.std.proofs.lemmas.Bool.{cases_eq}
use Rattle.dsm_owners.specs.Stages.{Stage, Rest, Finding, Breaking}
use Rattle.dsm_owners.specs.Acts.{Act, Take, See_sole, See, Find_new, Find_old, Find_none, Find_late, Share_own, Share_none, Share_one, Share_busy, Busy, Free, Want, Want_none, Visit, Close, Look_sole, Look_on, Twin_up, Twin_home, Return, Back_sole, Back_on, Test_twin, Test_none, Go_on, Look_own, Look_none, Look_some, Alone, Alone_home, Ready_home, Compare, Has_twin, No_twin, Release, Release_sole, Release_on, Flush, Send_home, Send_none, Post, Lower, Lower_none, Drop_begin, Drop_zero, Drop_one, Drop_two, Drop_kept, Drop_last, Acquire, Acquire_sole, Acquire_on, Unmap, Empty_zero, Empty_some, Empty_none, Empty_twin, moves, place}
use Rattle.dsm_owners.specs.Directory.{Node, Processor, State, Event, Do, Touch, Mark, after_event}
use Rattle.dsm_owners.specs.Premises.{NoneBusy, AreFrom, AreBelow, heard, Asks, May, Runs}

pub and_left : (a b : Bool) → (a && b) ≡ true → a ≡ true
and_left true b e = refl
and_left false b e = absurd (cc e)

pub and_right : (a b : Bool) → (a && b) ≡ true → b ≡ true
and_right true b e = e
and_right false b e = absurd (cc e)

-- all numbers below a bound pass
abbrev pub all_below : ℕ → (ℕ → Bool) → Bool
all_below zero f = true
all_below (suc n) f = f n && all_below n f

below_passes : (n : ℕ) (f : ℕ → Bool) → all_below n f ≡ true → (k : ℕ) → k < n → f k ≡ true
below_passes zero f e k lt = absurd (omega (arith, lt))
below_passes (suc n) f e k lt = go (cases_eq k n) (λ l. below_passes n f (and_right (f n) (all_below n f) e) k l)
  where
    go : (k ≡ n) ⊎ (k ≢ n) → (k < n → f k ≡ true) → f k ≡ true
    go (inl is) ih = rw is (and_left (f n) (all_below n f) e)
    go (inr ne) ih = ih (omega (arith, lt, ne))

-- the two answers are the same
abbrev pub same_test : Bool → Bool → Bool
same_test a b = if b then a else not a

-- none of the nodes from i to below j is busy
abbrev pub free_test : (ℕ → Bool) → ℕ → ℕ → Bool
free_test busy i j = all_below j (λ k. nat_lt k i || not (busy k))

free_one : (b : Bool) (i k : ℕ) → i ≤ k → (nat_lt k i || not b) ≡ true → b ≡ false
free_one b i k le e = grind arith

free_passes : (busy : ℕ → Bool) (i j : ℕ) → free_test busy i j ≡ true → NoneBusy busy i j
free_passes busy i j e k le lt = free_one (busy k) i k le (below_passes j (λ k. nat_lt k i || not (busy k)) e k lt)

-- The processors from `bound` on are of no node.
module _ (top bound : ℕ) (node : ℕ → ℕ) where
  abbrev pub from_test : ℕ → ℕ → Bool
  from_test n j = all_below bound (λ q. not (node q == n) || nat_le j q)

  abbrev pub below_test : ℕ → ℕ → Bool
  below_test n j = all_below bound (λ q. not (node q == n) || nat_lt q j)

  -- what an act asks
  abbrev pub asks_test : (home n : ℕ) → Node → Processor → (v : ℕ) → Act → Bool
  asks_test home n x y v (Take write) = x.turn == 0
  asks_test home n x y v (See_sole write) = x.dir == 2
  asks_test home n x y v (See write dir) = (x.dir == dir) && not (dir == 2)
  asks_test home n x y v (Find_new write) = not (home == 0)
  asks_test home n x y v (Find_old write dir) = not (home == 0) && not (dir == 0)
  asks_test home n x y v (Find_none write dir) = home == 0
  asks_test home n x y v (Find_late write) = not (home == 0)
  asks_test home n x y v (Share_own write j found busy) = j == n
  asks_test home n x y v (Share_none write j found busy) = not (j == n) && (v == 0)
  asks_test home n x y v (Share_one write j found busy) = not (j == n) && (v == 1)
  asks_test home n x y v (Share_busy write j found busy) = not (j == n) && nat_le 2 v
  asks_test home n x y v (Busy write j found busy m) = nat_le top j && busy m
  asks_test home n x y v (Free write j found busy) = nat_le top j && free_test busy 0 top
  asks_test home n x y v (Want write busy) = y.map == 0
  asks_test home n x y v (Want_none write busy) = not (y.map == 0)
  asks_test home n x y v (Visit write i busy j) = (x.turn == 0) && (nat_le i j && (busy j && free_test busy i j))
  asks_test home n x y v (Close j) = x.turn == 0
  asks_test home n x y v (Look_sole why j) = x.dir == 2
  asks_test home n x y v (Look_on why j) = not (x.dir == 2)
  asks_test home n x y v (Twin_up why j) = not (home == suc j)
  asks_test home n x y v (Twin_home why j) = home == suc j
  asks_test home n x y v (Return write i busy) = (x.turn == 0) && free_test busy i top
  asks_test home n x y v (Back_sole write) = x.dir == 2
  asks_test home n x y v (Back_on write) = not (x.dir == 2)
  asks_test home n x y v Test_twin = x.twined
  asks_test home n x y v Test_none = not x.twined
  asks_test home n x y v (Go_on write found) = not write || found
  asks_test home n x y v (Look_own j) = (j == n) && nat_lt j top
  asks_test home n x y v (Look_none j) = not (j == n) && (nat_lt j top && (v == 0))
  asks_test home n x y v (Look_some j) = not (j == n) && not (v == 0)
  asks_test home n x y v (Alone j) = nat_le top j && not (home == suc n)
  asks_test home n x y v (Alone_home j) = nat_le top j && (home == suc n)
  asks_test home n x y v (Ready_home write) = home == suc n
  asks_test home n x y v (Compare write stamped) = not (home == suc n) && same_test x.update stamped
  asks_test home n x y v Has_twin = x.twined
  asks_test home n x y v No_twin = not x.twined
  asks_test home n x y v Release = (x.turn == 0) && y.dirty
  asks_test home n x y v Release_sole = x.dir == 2
  asks_test home n x y v Release_on = not (x.dir == 2)
  asks_test home n x y v Flush = not (home == suc n) && x.twined
  asks_test home n x y v Send_home = home == suc n
  asks_test home n x y v Send_none = not (home == suc n) && not x.twined
  asks_test home n x y v (Post flushed j) = not (j == n) && not (home == suc j)
  asks_test home n x y v (Lower flushed) = y.map == 2
  asks_test home n x y v (Lower_none flushed) = not (y.map == 2)
  asks_test home n x y v (Drop_begin j) = from_test n j
  asks_test home n x y v (Drop_zero j any) = (node j == n) && (v == 0)
  asks_test home n x y v (Drop_one j any) = (node j == n) && not (v == 2)
  asks_test home n x y v (Drop_two j any) = (node j == n) && (v == 2)
  asks_test home n x y v (Drop_kept j) = below_test n j
  asks_test home n x y v (Drop_last j) = below_test n j
  asks_test home n x y v Acquire = (x.turn == 0) && x.noted
  asks_test home n x y v Acquire_sole = x.dir == 2
  asks_test home n x y v Acquire_on = not (x.dir == 2)
  asks_test home n x y v (Unmap j) = from_test n j
  asks_test home n x y v (Empty_zero j) = (node j == n) && (v == 0)
  asks_test home n x y v (Empty_some j) = (node j == n) && not (v == 0)
  asks_test home n x y v (Empty_none j) = not x.twined && below_test n j
  asks_test home n x y v (Empty_twin j) = x.twined
  asks_test home n x y v _ = true

  -- what an event asks beside its stage
  abbrev pub event_test : State → Event → Bool
  event_test s (Do p a) = nat_lt (node p) top && asks_test s.home (node p) (s.nodes (place (node p) a)) (s.processors p) (heard s a) a
  event_test s (Touch p write) = nat_lt (node p) top && (s.home == 0)
  event_test s (Mark p q why j) = nat_lt (node p) top && (node q == j)

  abbrev pub runs_test : State → List Event → Bool
  runs_test s [] = true
  runs_test s (e ∷ es) = event_test s e && runs_test (after_event node s e) es

  -- where the processors of the events stand,
  abbrev pub stands : State → Event → Stage
  stands s (Do p a) = (s.processors p).stage
  stands s (Touch p write) = (s.processors p).stage
  stands s (Mark p q why j) = (s.processors p).stage

  abbrev pub all_stand : State → List Event → List Stage
  all_stand s [] = []
  all_stand s (e ∷ es) = stands s e ∷ all_stand (after_event node s e) es

-- and where they should
abbrev pub stage_of : Event → Stage
stage_of (Do p a) = (moves a).0
stage_of (Touch p write) = Finding write
stage_of (Mark p q why j) = Breaking why j

abbrev pub stages_of : List Event → List Stage
stages_of [] = []
stages_of (e ∷ es) = stage_of e ∷ stages_of es

abbrev first : List Stage → Stage
first [] = Rest
first (x ∷ xs) = x

abbrev rest : List Stage → List Stage
rest [] = []
rest (x ∷ xs) = xs

module _ (top bound : ℕ) (node : ℕ → ℕ) (far : (q : ℕ) → bound ≤ q → top ≤ node q) where
  high : (n q : ℕ) → n < top → node q ≡ n → q < bound
  high n q lt i = go (nat_lt q bound) refl
    where
      go : (b : Bool) → nat_lt q bound ≡ b → q < bound
      go true e = grind arith
      go false e = let le : bound ≤ q = grind arith in let m = far q le in absurd (omega (arith, m, i, lt))

  from_one : (a n j q : ℕ) → a ≡ n → (not (a == n) || nat_le j q) ≡ true → j ≤ q
  from_one a n j q i e = grind arith

  below_one : (a n j q : ℕ) → a ≡ n → (not (a == n) || nat_lt q j) ≡ true → q < j
  below_one a n j q i e = grind arith

  from_passes : (n j : ℕ) → n < top → from_test top bound node n j ≡ true → AreFrom top node n j
  from_passes n j lt e q i = from_one (node q) n j q i (below_passes bound (λ q. not (node q == n) || nat_le j q) e q (high n q lt i))

  below_all : (n j : ℕ) → n < top → below_test top bound node n j ≡ true → AreBelow top node n j
  below_all n j lt e q i = below_one (node q) n j q i (below_passes bound (λ q. not (node q == n) || nat_lt q j) e q (high n q lt i))

  asks_passes : (home n : ℕ) (x : Node) (y : Processor) (v : ℕ) (a : Act) → n < top → asks_test top bound node home n x y v a ≡ true → Asks top node home n x y v a
  asks_passes home n x y v (Busy write j found busy m) lt e = (grind arith, and_right (nat_le top j) (busy m) e)
  asks_passes home n x y v (Free write j found busy) lt e = (grind arith, free_passes busy 0 top (and_right (nat_le top j) (free_test busy 0 top) e))
  asks_passes home n x y v (Visit write i busy j) lt e = let b = and_right (x.turn == 0) (nat_le i j && (busy j && free_test busy i j)) e in let c = and_right (nat_le i j) (busy j && free_test busy i j) b in (grind arith, grind arith, and_left (busy j) (free_test busy i j) c, free_passes busy i j (and_right (busy j) (free_test busy i j) c))
  asks_passes home n x y v (Return write i busy) lt e = (grind arith, free_passes busy i top (and_right (x.turn == 0) (free_test busy i top) e))
  asks_passes home n x y v (Drop_begin j) lt e = from_passes n j lt e
  asks_passes home n x y v (Drop_kept j) lt e = below_all n j lt e
  asks_passes home n x y v (Drop_last j) lt e = below_all n j lt e
  asks_passes home n x y v (Unmap j) lt e = from_passes n j lt e
  asks_passes home n x y v (Empty_none j) lt e = (grind arith, below_all n j lt (and_right (not x.twined) (below_test top bound node n j) e))
  asks_passes home n x y v a lt e = grind arith

  less : (a b : ℕ) (c : Bool) → (nat_lt a b && c) ≡ true → a < b
  less a b c e = grind arith

  equal : (a b : ℕ) (c : Bool) → (c && (a == b)) ≡ true → a ≡ b
  equal a b c e = grind arith

  event_passes : (s : State) (e : Event) → event_test top bound node s e ≡ true → stands top bound node s e ≡ stage_of e → May top node s e
  event_passes s (Do p a) h i =
      let c = asks_test top bound node s.home (node p) (s.nodes (place (node p) a)) (s.processors p) (heard s a) a in
      let lt = less (node p) top c h in
      (i, lt, asks_passes s.home (node p) (s.nodes (place (node p) a)) (s.processors p) (heard s a) a lt (and_right (nat_lt (node p) top) c h))
  event_passes s (Touch p write) h i = (i, less (node p) top (s.home == 0) h, equal s.home 0 (nat_lt (node p) top) h)
  event_passes s (Mark p q why j) h i = (i, less (node p) top (node q == j) h, equal (node q) j (nat_lt (node p) top) h)

  -- a list that passes the test, with each processor at its stage, runs
  pub runs : (s : State) (es : List Event) → all_stand top bound node s es ≡ stages_of es → runs_test top bound node s es ≡ true → Runs top node s es
  runs s [] i h = tt
  runs s (e ∷ es) i h = (event_passes s e (and_left (event_test top bound node s e) (runs_test top bound node (after_event node s e) es) h) (ap first i), runs (after_event node s e) es (ap rest i) (and_right (event_test top bound node s e) (runs_test top bound node (after_event node s e) es) h))
