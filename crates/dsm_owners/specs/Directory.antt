-- One page on all nodes: its directory, its mappings, and what each event does to them.
use Rattle.std.specs.Prelude.{ℕ, suc, Bool, true, false, ◌||◌, List, [], ◌∷◌}
use Rattle.dsm_owners.specs.Stages.{Why, Stage, Rest}
use Rattle.dsm_owners.specs.Acts.{Act, Take, Clear, Register, Part, Visit, Close, Twin_up, Break, Go_back, Close_end, Return, Claim, Look_own, Look_none, Look_some, Withdraw, Enter_first, Enter_stamp, Enter, First, Stamp, Make, Give, Release, Post, Drop_kept, Drop_last, Unlist, Finish, Acquire, Leave, Done, Want, Set_read, Set_sole, Set_write, Collect, Lower, Unmap, put, moves, place}

-- The words of a node. `turn` is 0 or the holder's number plus 1. `dir` is 0 for unregistered, 1 for shared, 2 for exclusive and 3
-- for claimed. `twined`: a twin is up. `update`: the stamp of its last fetch is not 0. Three more are of the history alone:
-- `fetch_open`: a fetch is under way, from its first operation to its stamp; `noted`: a notice was ever posted to the node; `sure`:
-- since its claim it has found the nodes below this number unregistered, but for itself.
pub record Node : Type 0 where
  pub turn : ℕ
  pub dir : ℕ
  pub twined : Bool
  pub update : Bool
  pub fetch_open : Bool
  pub noted : Bool
  pub sure : ℕ

-- A processor: its mapping, 0 for none, 1 to read, 2 to write, 3 for wanted; whether it has stores to tell, whether a break has left
-- it some, and where it stands.
pub record Processor : Type 0 where
  pub map : ℕ
  pub dirty : Bool
  pub nle : Bool
  pub stage : Stage

-- `home` is 0, or the number of the home plus 1
pub record State : Type 0 where
  pub home : ℕ
  pub nodes : ℕ → Node
  pub processors : ℕ → Processor

-- Processor p makes an act; or is the page's first user, so that its node becomes the home; or tells processor q of the node that it is
-- breaking that q has stores to tell.
pub data Event : Type 0 where
  Do : (p : ℕ) → Act → Event
  Touch : (p : ℕ) (write : Bool) → Event
  Mark : (p q : ℕ) (why : Why) (j : ℕ) → Event

-- nobody uses the page
abbrev pub start : State
start = record {
  home = 0;
  nodes = λ k. record { turn = 0; dir = 0; twined = false; update = false; fetch_open = false; noted = false; sure = 0 };
  processors = λ k. record { map = 0; dirty = false; nle = false; stage = Rest };
}

-- the words of the act's node behind an act of processor p,
abbrev pub node_after : (p : ℕ) → Act → Node → Node
node_after p (Take write) x = record x { turn = suc p }
node_after p (Clear write) x = record x { update = false }
node_after p (Register write) x = record x { dir = 1 }
node_after p (Part write busy) x = record x { turn = 0 }
node_after p (Visit write i busy j) x = record x { turn = suc p }
node_after p (Close j) x = record x { turn = suc p }
node_after p (Twin_up why j) x = record x { twined = true }
node_after p (Break why j) x = record x { dir = 1; sure = 0 }
node_after p (Go_back write busy j) x = record x { turn = 0 }
node_after p (Close_end j) x = record x { turn = 0 }
node_after p (Return write i busy) x = record x { turn = suc p }
node_after p Claim x = record x { dir = 3; sure = 0 }
node_after p (Look_own j) x = record x { sure = suc j }
node_after p (Look_none j) x = record x { sure = suc j }
node_after p (Look_some j) x = record x { sure = 0 }
node_after p Withdraw x = record x { dir = 1; sure = 0 }
node_after p Enter_first x = record x { fetch_open = true }
node_after p Enter_stamp x = record x { update = true; fetch_open = false }
node_after p Enter x = record x { dir = 2 }
node_after p (First write) x = record x { fetch_open = true }
node_after p (Stamp write) x = record x { update = true; fetch_open = false }
node_after p Make x = record x { twined = true }
node_after p Give x = record x { turn = 0 }
node_after p Release x = record x { turn = suc p }
node_after p (Post flushed j) x = record x { noted = true }
node_after p (Drop_kept j) x = record x { twined = false }
node_after p (Drop_last j) x = record x { twined = false }
node_after p Unlist x = record x { dir = 0 }
node_after p Finish x = record x { turn = 0 }
node_after p Acquire x = record x { turn = suc p }
node_after p Leave x = record x { dir = 0 }
node_after p Done x = record x { turn = 0 }
node_after p _ x = x

-- the processor's mapping and what it has to tell,
abbrev pub own_after : Act → Processor → Processor
own_after (Want write busy) y = record y { map = 3 }
own_after (Set_read sole) y = record y { map = 1 }
own_after Set_sole y = record y { map = 2 }
own_after Set_write y = record y { map = 2; dirty = true }
own_after Collect y = record y { dirty = y.dirty || y.nle; nle = false }
own_after (Lower flushed) y = record y { map = 1 }
own_after Finish y = record y { dirty = false }
own_after (Unmap j) y = record y { map = 0 }
own_after _ y = y

-- and all of the processor
abbrev pub processor_after : Act → Processor → Processor
processor_after a y = record (own_after a y) { stage = (moves a).1 }

-- `node q` is the node of processor q
module _ (node : ℕ → ℕ) where
  -- the state behind one event
  abbrev pub after_event : State → Event → State
  after_event s (Do p a) = record {
    home = s.home;
    nodes = put s.nodes (place (node p) a) (node_after p a (s.nodes (place (node p) a)));
    processors = put s.processors p (processor_after a (s.processors p));
  }
  after_event s (Touch p write) = record s { home = suc (node p) }
  after_event s (Mark p q why j) = record s { processors = put s.processors q (record (s.processors q) { nle = true }) }

  -- the state behind a list of events, oldest first
  abbrev pub after : State → List Event → State
  after s [] = s
  after s (e ∷ es) = after (after_event s e) es
