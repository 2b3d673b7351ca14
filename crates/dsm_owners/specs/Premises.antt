-- What is asked of each event, and the reason for which it is asked. Beside it each event is made at the stage that it is of.
use Rattle.std.specs.Prelude.{◌≡◌, ◌≢◌, ℕ, suc, ◌≤◌, ◌<◌, ◌⊎◌, Bool, true, false, List, [], ◌∷◌}
use Rattle.dsm_owners.specs.Stages.{Finding, Breaking}
use Rattle.dsm_owners.specs.Acts.{Act, Take, See_sole, See, Find_new, Find_old, Find_none, Find_late, Share_own, Share_none, Share_one, Share_busy, Busy, Free, Want, Want_none, Visit, Close, Look_sole, Look_on, Twin_up, Twin_home, Return, Back_sole, Back_on, Test_twin, Test_none, Go_on, Look_own, Look_none, Look_some, Alone, Alone_home, Ready_home, Compare, Has_twin, No_twin, Release, Release_sole, Release_on, Flush, Send_home, Send_none, Post, Lower, Lower_none, Drop_begin, Drop_zero, Drop_one, Drop_two, Drop_kept, Drop_last, Acquire, Acquire_sole, Acquire_on, Unmap, Empty_zero, Empty_some, Empty_none, Empty_twin, moves, place}
use Rattle.dsm_owners.specs.Directory.{Node, Processor, State, Event, Do, Touch, Mark, after_event}

-- none of the nodes from i to below j is busy
abbrev pub NoneBusy : (busy : ℕ → Bool) → (i j : ℕ) → Type 0
NoneBusy busy i j = (k : ℕ) → i ≤ k → k < j → busy k ≡ false

-- the word of another node, or the mapping of a processor, that an act reads
abbrev pub heard : State → Act → ℕ
heard s (Share_none write j found busy) = (s.nodes j).dir
heard s (Share_one write j found busy) = (s.nodes j).dir
heard s (Share_busy write j found busy) = (s.nodes j).dir
heard s (Look_none j) = (s.nodes j).dir
heard s (Look_some j) = (s.nodes j).dir
heard s (Drop_zero j any) = (s.processors j).map
heard s (Drop_one j any) = (s.processors j).map
heard s (Drop_two j any) = (s.processors j).map
heard s (Empty_zero j) = (s.processors j).map
heard s (Empty_some j) = (s.processors j).map
heard s _ = 0

-- The nodes are the numbers below `top`, and `node q` is the node of processor q.
module _ (top : ℕ) (node : ℕ → ℕ) where
  -- the processors of node n have numbers from j on,
  abbrev pub AreFrom : (n j : ℕ) → Type 0
  AreFrom n j = (q : ℕ) → node q ≡ n → j ≤ q

  -- and below j
  abbrev pub AreBelow : (n j : ℕ) → Type 0
  AreBelow n j = (q : ℕ) → node q ≡ n → q < j

  -- What an act asks of the home, its own node n, the words x of the node that it changes, its processor y, and the word v that it hears.
  abbrev pub Asks : (home n : ℕ) → Node → Processor → (v : ℕ) → Act → Type 0
  -- a turn is taken where nobody has it: all that a holder knows of its node rests on this
  Asks home n x y v (Take write) = x.turn ≡ 0
  Asks home n x y v (Close j) = x.turn ≡ 0
  -- a visit is of the next busy node: one that is passed over may still be exclusive when the page is used
  Asks home n x y v (Visit write i busy j) = (x.turn ≡ 0) × (i ≤ j) × (busy j ≡ true) × NoneBusy busy i j
  -- and they end where no busy node is left, for the same reason
  Asks home n x y v (Return write i busy) = (x.turn ≡ 0) × NoneBusy busy i top
  -- a release is of a page with stores to tell, so that one of a page without a home never comes
  Asks home n x y v Release = (x.turn ≡ 0) × (y.dirty ≡ true)
  -- an acquire is of a page that a notice named, so that the home, which gets none, never leaves
  Asks home n x y v Acquire = (x.turn ≡ 0) × (x.noted ≡ true)
  -- what is read of the own node's word, or of the one that is visited, is what stands there: it says what is done next
  Asks home n x y v (See_sole write) = x.dir ≡ 2
  Asks home n x y v (See write dir) = (x.dir ≡ dir) × (dir ≢ 2)
  Asks home n x y v (Look_sole why j) = x.dir ≡ 2
  Asks home n x y v (Look_on why j) = x.dir ≢ 2
  Asks home n x y v (Back_sole write) = x.dir ≡ 2
  Asks home n x y v (Back_on write) = x.dir ≢ 2
  Asks home n x y v Release_sole = x.dir ≡ 2
  Asks home n x y v Release_on = x.dir ≢ 2
  Asks home n x y v Acquire_sole = x.dir ≡ 2
  Asks home n x y v Acquire_on = x.dir ≢ 2
  -- so is what is read of the page's home: a node is registered, so its twin, notices and copies mean something, only where there is one
  Asks home n x y v (Find_new write) = home ≢ 0
  Asks home n x y v (Find_old write dir) = (home ≢ 0) × (dir ≢ 0)
  Asks home n x y v (Find_none write dir) = home ≡ 0
  Asks home n x y v (Find_late write) = home ≢ 0
  -- the words of the others are what stands there: a node that is 0 has nothing of the page, and one at 2 or 3 is visited
  Asks home n x y v (Share_own write j found busy) = j ≡ n
  Asks home n x y v (Share_none write j found busy) = (j ≢ n) × (v ≡ 0)
  Asks home n x y v (Share_one write j found busy) = (j ≢ n) × (v ≡ 1)
  Asks home n x y v (Share_busy write j found busy) = (j ≢ n) × (2 ≤ v)
  -- all of them are read: a node that is not looked at may be exclusive
  Asks home n x y v (Busy write j found busy m) = (top ≤ j) × (busy m ≡ true)
  Asks home n x y v (Free write j found busy) = (top ≤ j) × NoneBusy busy 0 top
  -- a fault goes on visits only with a mapping, wanted or not: else its node may leave meanwhile, and another one be sure of it
  Asks home n x y v (Want write busy) = y.map ≡ 0
  Asks home n x y v (Want_none write busy) = y.map ≢ 0
  -- a break leaves a twin, so that what is stored behind it is flushed; the home needs none
  Asks home n x y v (Twin_up why j) = home ≢ suc j
  Asks home n x y v (Twin_home why j) = home ≡ suc j
  -- a claim is made where no twin is up: else its node becomes exclusive with stores that no break sends
  Asks home n x y v Test_twin = x.twined ≡ true
  Asks home n x y v Test_none = x.twined ≡ false
  -- without a claim it goes on to read, or where another node is registered
  Asks home n x y v (Go_on write found) = (write ≡ false) ⊎ (found ≡ true)
  -- behind the claim the words are looked at again, each of them: who registered before it is found, who does so behind it finds the claim
  Asks home n x y v (Look_own j) = (j ≡ n) × (j < top)
  Asks home n x y v (Look_none j) = (j ≢ n) × (j < top) × (v ≡ 0)
  Asks home n x y v (Look_some j) = (j ≢ n) × (v ≢ 0)
  -- and only behind the last of them does the node enter; away from the home it copies the page first
  Asks home n x y v (Alone j) = (top ≤ j) × (home ≢ suc n)
  Asks home n x y v (Alone_home j) = (top ≤ j) × (home ≡ suc n)
  -- away from the home a page is mapped only where it was fetched
  Asks home n x y v (Ready_home write) = home ≡ suc n
  Asks home n x y v (Compare write stamped) = (home ≢ suc n) × (x.update ≡ stamped)
  -- and to write, only where a twin is up
  Asks home n x y v Has_twin = x.twined ≡ true
  Asks home n x y v No_twin = x.twined ≡ false
  -- a flush is made where a twin is up, away from the home
  Asks home n x y v Flush = (home ≢ suc n) × (x.twined ≡ true)
  Asks home n x y v Send_home = home ≡ suc n
  Asks home n x y v Send_none = (home ≢ suc n) × (x.twined ≡ false)
  -- no notice goes to the home: it would give up its mapping and leave, and nobody else has its copy
  Asks home n x y v (Post flushed j) = (j ≢ n) × (home ≢ suc j)
  -- a mapping to write is lowered before the twin is dropped, and no other one is raised
  Asks home n x y v (Lower flushed) = y.map ≡ 2
  Asks home n x y v (Lower_none flushed) = y.map ≢ 2
  -- a twin is dropped where no processor of the node maps the page to write, and the node unlisted where none maps it: each is looked at
  Asks home n x y v (Drop_begin j) = AreFrom n j
  Asks home n x y v (Drop_zero j any) = (node j ≡ n) × (v ≡ 0)
  Asks home n x y v (Drop_one j any) = (node j ≡ n) × (v ≢ 2)
  Asks home n x y v (Drop_two j any) = (node j ≡ n) × (v ≡ 2)
  Asks home n x y v (Drop_kept j) = AreBelow n j
  Asks home n x y v (Drop_last j) = AreBelow n j
  -- a node leaves where no processor of it maps the page and no twin is up: each is looked at
  Asks home n x y v (Unmap j) = AreFrom n j
  Asks home n x y v (Empty_zero j) = (node j ≡ n) × (v ≡ 0)
  Asks home n x y v (Empty_some j) = (node j ≡ n) × (v ≢ 0)
  Asks home n x y v (Empty_none j) = (x.twined ≡ false) × AreBelow n j
  Asks home n x y v (Empty_twin j) = x.twined ≡ true
  -- the others ask nothing but their stage
  Asks home n x y v _ = Unit {0}

  -- what an act of processor p asks of a state
  abbrev pub AsksIn : State → (p : ℕ) → Act → Type 0
  AsksIn s p a = Asks s.home (node p) (s.nodes (place (node p) a)) (s.processors p) (heard s a) a

  -- An event may come where its processor stands at its stage and is of a node below `top`. A page gets a home where it has none; a
  -- processor is told of a break of its own node.
  abbrev pub May : State → Event → Type 0
  May s (Do p a) = ((s.processors p).stage ≡ (moves a).0) × (node p < top) × AsksIn s p a
  May s (Touch p write) = ((s.processors p).stage ≡ Finding write) × (node p < top) × (s.home ≡ 0)
  May s (Mark p q why j) = ((s.processors p).stage ≡ Breaking why j) × (node p < top) × (node q ≡ j)

  -- each event of the list may come
  abbrev pub Runs : State → List Event → Type 0
  Runs s [] = Unit {0}
  Runs s (e ∷ es) = May s e × Runs (after_event node s e) es
