-- Each act keeps what holds of the nodes and processors. Each lemma names one act, so that the check goes through all of them.
use Rattle.std.proofs.Common.{◌≡◌, ◌≢◌, ℕ, suc, ◌<◌, arith}
use Rattle.dsm_owners.specs.Acts.{Act, Claim, moves, place}
use Rattle.dsm_owners.specs.Directory.{Node, Processor, node_after, processor_after}
use Rattle.dsm_owners.specs.Premises.{Asks}
use Rattle.dsm_owners.proofs.Facts.{before, Good, Mine, Fits, Duo, Looked, Tells, Maps, Hears}

module _ (top : ℕ) (node : ℕ → ℕ) (home : ℕ) (x : Node) (y : Processor) (p : ℕ) where
  -- of the node whose words change,
  pub words : (e : Act) (n v : ℕ) → Asks top node home n x y v e → (n < top) → Mine home n (before e y) → Fits top home n (place n e) p x (before e y) → Good top home (place n e) x → Good top home (place n e) (node_after p e x)
  words Claim n v h1 h2 h3 h4 h5 = grind arith
  words e n v h1 h2 h3 h4 h5 = grind arith

  -- of the processor itself,
  pub minds : (e : Act) (n v : ℕ) → Asks top node home n x y v e → Mine home n (before e y) → Fits top home n (place n e) p x (before e y) → Good top home (place n e) x → Mine home n (processor_after e y)
  minds Claim n v h1 h2 h3 h4 = grind arith
  minds e n v h1 h2 h3 h4 = grind arith

  -- of the processor at that node,
  pub actors : (e : Act) (n v : ℕ) → Asks top node home n x y v e → Mine home n (before e y) → Good top home (place n e) x → (place n e ≡ n → x.turn ≡ suc p → Looked (moves e).0 p y.map) → (n ≡ node p) → Fits top home n (place n e) p x (before e y) → Fits top home n (place n e) p (node_after p e x) (processor_after e y)
  actors Claim n v h1 h2 h3 h4 h5 h6 = grind arith
  actors e n v h1 h2 h3 h4 h5 h6 = grind arith

  -- of another processor at it,
  pub others : (e : Act) (n v r k : ℕ) (z : Processor) → Asks top node home n x y v e → r ≢ p → Fits top home n (place n e) p x (before e y) → Good top home (place n e) x → (place n e ≡ n → k ≡ n → x.turn ≡ suc p → Looked (moves e).0 r z.map) → (node r ≡ k) → Hears home (place n e) e k z → Fits top home k (place n e) r x z → Fits top home k (place n e) r (node_after p e x) z
  others Claim n v r k z h1 h2 h3 h4 h5 h6 h7 h8 = grind arith
  others e n v r k z h1 h2 h3 h4 h5 h6 h7 h8 = grind arith

  -- of the processor at another node,
  pub elsewhere : (e : Act) (n v m : ℕ) (xm : Node) → Asks top node home n x y v e → m ≢ place n e → Mine home n (before e y) → Fits top home n (place n e) p x (before e y) → Good top home (place n e) x → Good top home m xm → Duo home m (place n e) xm x → Tells e m xm v → Fits top home n m p xm (before e y) → Fits top home n m p xm (processor_after e y)
  elsewhere Claim n v m xm h1 h2 h3 h4 h5 h6 h7 h8 h9 = grind arith
  elsewhere e n v m xm h1 h2 h3 h4 h5 h6 h7 h8 h9 = grind arith

  -- of two nodes, where the first one's words change,
  pub pair_from : (e : Act) (n v k : ℕ) (xk : Node) → Asks top node home n x y v e → k ≢ place n e → Fits top home n (place n e) p x (before e y) → Good top home k xk → Tells e k xk v → Duo home (place n e) k x xk → Duo home (place n e) k (node_after p e x) xk
  pair_from Claim n v k xk h1 h2 h3 h4 h5 h6 = grind arith
  pair_from e n v k xk h1 h2 h3 h4 h5 h6 = grind arith

  -- and where the second one's do
  pub pair_to : (e : Act) (n v m : ℕ) (xm : Node) → Asks top node home n x y v e → m ≢ place n e → Fits top home n (place n e) p x (before e y) → Fits top home n m p xm (before e y) → Duo home m (place n e) xm x → Duo home m (place n e) xm (node_after p e x)
  pair_to Claim n v m xm h1 h2 h3 h4 h5 = grind arith
  pair_to e n v m xm h1 h2 h3 h4 h5 = grind arith

  -- what a processor that looks at the mappings of its node knows of another,
  pub peer_own : (e : Act) (n v r : ℕ) (mr : ℕ) → Asks top node home n x y v e → Fits top home n (place n e) p x (before e y) → node r ≡ n → Maps e r mr v → Looked (moves e).0 r mr → Looked (processor_after e y).stage r mr
  peer_own Claim n v r mr h1 h2 h3 h4 h5 = grind arith
  peer_own e n v r mr h1 h2 h3 h4 h5 = grind arith

  -- and of itself
  pub peer_self : (e : Act) (n v : ℕ) → Asks top node home n x y v e → Fits top home n (place n e) p x (before e y) → node p ≡ n → Maps e p y.map v → Looked (moves e).0 p y.map → Looked (processor_after e y).stage p (processor_after e y).map
  peer_self Claim n v h1 h2 h3 h4 h5 = grind arith
  peer_self e n v h1 h2 h3 h4 h5 = grind arith

  -- who acts at another node leaves its mapping,
  pub map_away : (e : Act) (n : ℕ) → place n e ≢ n → (processor_after e y).map ≡ y.map
  map_away Claim n h1 = grind arith
  map_away e n h1 = grind arith

  -- and so does who has not the turn of its own
  pub map_kept : (e : Act) (n v q : ℕ) → Asks top node home n x y v e → Fits top home n (place n e) p x (before e y) → place n e ≡ n → q ≢ p → x.turn ≡ suc q → (processor_after e y).map ≡ y.map
  map_kept Claim n v q h1 h2 h3 h4 h5 = grind arith
  map_kept e n v q h1 h2 h3 h4 h5 = grind arith
