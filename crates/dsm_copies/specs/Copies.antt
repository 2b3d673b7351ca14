-- One word: its copies, and what happens to them. A place is None for the home and Some n for node n.
use Rattle.std.specs.Prelude.{ℕ, suc, Bool, true, false, ◌==◌, ◌||◌, ◌&&◌, not, if◌then◌else◌, Option, None, Some, List, [], ◌∷◌, nat_le}
use Rattle.dsm_copies.specs.Modes.{Mode, Bare, Flush_load, Merge_load, Overwrite_load, Make_load, Enter_load, Break_load, is_exclusive, op_mode, op_frame, op_twin, op_master, op_progress, op_broken, op_fresh, op_since, op_fetched, outdated, touched, store_progress, covered, ended, told}

-- A node's copy and its twin; whether the node has fetched when the home had the last store, since a send of that store had
-- ended, and ever; and what is open.
pub record Node : Type 0 where
  pub frame : ℕ
  pub twin : ℕ
  pub fresh : Bool
  pub since : Bool
  pub fetched : Bool
  pub mode : Mode

-- The copies. Of the last store: its value, its place, its processor, how far it has come, whether its processor has signalled
-- since, whether somebody passed between that signal and its telling, whether a break told it, who has passed behind the
-- signal, and who has passed when it was told. Whether the home is exclusive, and the nodes.
pub record State : Type 0 where
  pub master : ℕ
  pub last : ℕ
  pub at : Option ℕ
  pub by : Option ℕ
  pub progress : ℕ
  pub released : Bool
  pub early : Bool
  pub broken : Bool
  pub knows : ℕ → Bool
  pub told_to : ℕ → Bool
  pub home_exclusive : Bool
  pub nodes : ℕ → Node

-- the blocks of operations that begin where none is open: a flush, a merge, an overwrite, the making of a twin, a break
pub data Kind : Type 0 where
  Flush : Kind
  Merge : Kind
  Overwrite : Kind
  Make : Kind
  Break : Kind

-- What happens. Processor p loads v, stores v, signals or passes; at node n a block begins, or the open one makes its next
-- operation, or at the end of a flush the twin is dropped, or the node begins to enter exclusive use; the home notes a send of
-- its own and tells it, becomes exclusive, and is so no more.
pub data Event : Type 0 where
  Load : (p v : ℕ) → Event
  Store : (p v : ℕ) → Event
  Signal : (p : ℕ) → Event
  Pass : (p : ℕ) → Event
  Begin : (n : ℕ) → Kind → Event
  Op : (n : ℕ) → Event
  Drop : (n : ℕ) → Event
  Enter : (n : ℕ) → Event
  Home_sent : Event
  Home_told : Event
  Home_enter : Event
  Home_break : Event

-- the place is node n
abbrev pub is_at : Option ℕ → ℕ → Bool
is_at None n = false
is_at (Some k) n = n == k

-- the place is the home
abbrev pub is_home : Option ℕ → Bool
is_home None = true
is_home (Some n) = false

-- the store is of processor p
abbrev pub is_by : Option ℕ → ℕ → Bool
is_by None p = false
is_by (Some q) p = q == p

-- a table with x at n
abbrev pub put : {A : Type 0} → (ℕ → A) → ℕ → A → ℕ → A
put f n x k = if k == n then x else f k

-- what is open at a node where a block begins
abbrev pub begun : (progress : ℕ) → Kind → Mode
begun progress Flush = Flush_load
begun progress Merge = Merge_load (nat_le ended progress)
begun progress Overwrite = Overwrite_load (nat_le ended progress)
begun progress Make = Make_load
begun progress Break = Break_load

-- a node behind an operation of its open block,
abbrev pub op_node : (m progress : ℕ) → Node → Node
op_node m progress x = record {
  frame = op_frame x.frame x.mode;
  twin = op_twin x.twin x.mode;
  fresh = op_fresh x.fresh x.twin x.mode;
  since = op_since x.since x.mode;
  fetched = op_fetched x.fetched x.mode;
  mode = op_mode m progress x.frame x.twin x.mode;
}

-- behind a store elsewhere,
abbrev pub out_node : Node → Node
out_node x = record x { fresh = false; since = false; mode = outdated x.mode }

-- and behind a store of its own
abbrev pub touch_node : ℕ → Node → Node
touch_node v x = record { frame = v; twin = x.twin; fresh = false; since = false; fetched = x.fetched; mode = touched x.mode }

-- processor p stores v at a place: the home has it at once, another node owes it or is exclusive
abbrev pub store_at : State → ℕ → Option ℕ → ℕ → State
store_at s p None v = record {
  master = v;
  last = v;
  at = None;
  by = Some p;
  progress = covered;
  released = false;
  early = false;
  broken = false;
  home_exclusive = s.home_exclusive;
  knows = λ q. q == p;
  told_to = λ q. false;
  nodes = λ k. out_node (s.nodes k);
}
store_at s p (Some n) v = record {
  master = s.master;
  last = v;
  at = Some n;
  by = Some p;
  progress = store_progress (s.nodes n).mode;
  released = false;
  early = false;
  broken = false;
  home_exclusive = s.home_exclusive;
  knows = λ q. q == p;
  told_to = λ q. false;
  nodes = put (λ k. out_node (s.nodes k)) n (touch_node v (s.nodes n));
}

-- a last store of the home that has come as far as `from` comes one further,
abbrev pub home_next : Option ℕ → (from progress : ℕ) → ℕ
home_next None from progress = if progress == from then suc from else progress
home_next (Some n) from progress = progress

-- and the end of the home's exclusive use tells it
abbrev pub home_broken : Option ℕ → ℕ → ℕ
home_broken None progress = if progress == covered then told else progress
home_broken (Some n) progress = progress

-- `place p` is where processor p is
module _ (place : ℕ → Option ℕ) where
  -- the state behind one event
  abbrev pub after_event : State → Event → State
  after_event s (Load p v) = s
  after_event s (Store p v) = store_at s p (place p) v
  after_event s (Signal p) = record s { released = s.released || is_by s.by p }
  after_event s (Pass q) = record s {
    early = s.early || (s.released && not (nat_le told s.progress));
    knows = put s.knows q (s.knows q || s.released);
    told_to = put s.told_to q (s.told_to q || (s.released && nat_le told s.progress));
  }
  after_event s (Begin n kind) = record s { nodes = put s.nodes n (record (s.nodes n) { mode = begun s.progress kind }) }
  after_event s (Op n) = record s {
    master = op_master s.master (s.nodes n).mode;
    progress = op_progress (is_at s.at n) s.progress (s.nodes n).twin (s.nodes n).mode;
    broken = op_broken (is_at s.at n) s.progress s.broken (s.nodes n).mode;
    nodes = put s.nodes n (op_node s.master s.progress (s.nodes n));
  }
  after_event s (Drop n) = record s { nodes = put s.nodes n (record (s.nodes n) { mode = Bare }) }
  after_event s (Enter n) = record s { nodes = put s.nodes n (record (s.nodes n) { mode = Enter_load (nat_le ended s.progress) }) }
  after_event s Home_sent = record s { progress = home_next s.at covered s.progress }
  after_event s Home_told = record s { progress = home_next s.at ended s.progress }
  after_event s Home_enter = record s { home_exclusive = true }
  after_event s Home_break = record s {
    home_exclusive = false;
    broken = s.broken || (is_home s.at && (s.progress == covered));
    progress = home_broken s.at s.progress;
  }

  -- the state behind a list of events, newest first
  abbrev pub after : State → List Event → State
  after s [] = s
  after s (e ∷ older) = after_event (after s older) e

-- The initial value counts as stored at the home, told, and known to everybody. Any value may stand in the frames and twins of
-- the other nodes.
abbrev pub start : (init : ℕ) → (frames twins : ℕ → ℕ) → State
start init frames twins = record {
  master = init;
  last = init;
  at = None;
  by = None;
  progress = told;
  released = true;
  early = false;
  broken = false;
  home_exclusive = false;
  knows = λ q. true;
  told_to = λ q. true;
  nodes = λ k. record { frame = frames k; twin = twins k; fresh = false; since = false; fetched = false; mode = Bare };
}

-- what a processor reads at its place
abbrev pub read : State → Option ℕ → ℕ
read s None = s.master
read s (Some n) = (s.nodes n).frame

-- the place is exclusive
abbrev pub exclusive_at : State → Option ℕ → Bool
exclusive_at s None = s.home_exclusive
exclusive_at s (Some n) = is_exclusive (s.nodes n).mode

-- the value of the word behind an event, where it was u before
abbrev pub stored_by : Event → ℕ → ℕ
stored_by (Store p v) u = v
stored_by _ u = u

-- what the latest store of a list, newest first, stored, and the initial value where there is none
abbrev pub latest : ℕ → List Event → ℕ
latest init [] = init
latest init (e ∷ older) = stored_by e (latest init older)
