-- One page, one node that sends it, and another node that may map it: what happens to their words, and the history that is counted beside.
use Rattle.std.specs.Prelude.{ℕ, suc, Bool, true, false, ◌==◌, if◌then◌else◌, max, List, [], ◌∷◌}
use Rattle.dsm_fresh.specs.Stages.{Work, Idle, Ready, Fetched, Hand, Empty, Found, Flags, Other, Stage, Rest, Before, Drained, Given, Taken, opened, copied, stamped, snap_of, time_of, timed, carried, hand_time, flag_at}

-- The node's words of the page: how it uses it (0 not at all, 1 shared, 2 alone, 3 claimed), the stamp of its copy, the time of its last
-- notice; its clock, and the bit of its notices from the sender. Who works on the copy and who on the notices; whether the sender has
-- dealt with the node since its last send. And counted: its sends that have ended, that are told, that the node has got by a fetch that
-- is finished, that were posted to it or passed by, that are noted there, and the last one that was a break.
pub record Page : Type 0 where
  pub dir : ℕ
  pub update : ℕ
  pub notice : ℕ
  pub clock : ℕ
  pub bit : Bool
  pub work : Work
  pub served : Bool
  pub hand : Hand
  pub sent : ℕ
  pub told : ℕ
  pub got : ℕ
  pub posted : ℕ
  pub dealt : ℕ
  pub broken : ℕ

-- A processor of the node: whether it maps the page to read or to write, whether the page is in its own set, how many sends were told when
-- it passed last, and where it stands.
pub record Processor : Type 0 where
  pub mapped : Bool
  pub own : Bool
  pub known : ℕ
  pub stage : Stage

pub record State : Type 0 where
  pub page : Page
  pub processors : ℕ → Processor

-- What happens. Each is one operation on a word, or one step of a processor.
pub data Event : Type 0 where
  -- the node's stamp is cleared; the node is registered; it claims exclusive use; it is shared again; it leaves
  Reset : Event
  Register : Event
  Claim : Event
  Share : Event
  Leave : Event
  -- processor q fetches: it draws a time, makes the first operation and the last, stores the time as the stamp, and may enter
  Draw : (q : ℕ) → Event
  First : (q : ℕ) (enters : Bool) → Event
  Last : (q : ℕ) → Event
  Stamp : (q : ℕ) → Event
  Enter : (q : ℕ) → Event
  -- or it finds the copy current, or its node exclusive; it maps the page, and its fault is done
  Current : (q : ℕ) → Event
  Current_sole : (q : ℕ) → Event
  Map : (q : ℕ) → Event
  Done : (q : ℕ) → Event
  -- the sender has sent; it passes the node by, or posts a notice to it; its send is told; or a break of the sender has ended and is told
  Send : Event
  Pass_by : Event
  Post_bit : Event
  Tell : Event
  Break : Event
  -- processor q gets a lock, leaves a barrier or finds a flag set; it looks for the sender's notice, and finds none or takes it
  Pass : (q : ℕ) → Event
  Drain_none : (q : ℕ) → Event
  Drain_some : (q : ℕ) → Event
  -- who has the notice draws a time, stores it as the node's notice, flags one processor after the other, and is through
  Time : Event
  Notify : Event
  Flag : Event
  Flagged : Event
  -- the same with a notice of another sender of the page
  Other_time : Event
  Other_notice : Event
  Other_flag : (q : ℕ) → Event
  -- processor q gives the turn of the notices and takes its own set; it looks at the page, which it does not map, or unmaps, or keeps,
  -- where the copy is current or its node exclusive; its acquire is over
  Give : (q : ℕ) → Event
  Take : (q : ℕ) → Event
  Skip : (q : ℕ) → Event
  Unmap : (q : ℕ) → Event
  Keep : (q : ℕ) → Event
  Keep_sole : (q : ℕ) → Event
  Settle : (q : ℕ) → Event
  -- a time of the node's clock is drawn for another page
  Tick : Event

-- a table with x at n
abbrev pub put : {A : Type 0} → (ℕ → A) → ℕ → A → ℕ → A
put f n x k = if k == n then x else f k

-- `first` is the node's first processor.
module _ (first : ℕ) where
  -- the page behind an event,
  abbrev pub page_after : Page → Event → Page
  page_after g Reset = record g { update = 0 }
  page_after g Register = record g { dir = 1 }
  page_after g Claim = record g { dir = 3 }
  page_after g Share = record g { dir = 1 }
  page_after g Leave = record g { dir = 0 }
  page_after g (Draw q) = record g { clock = suc g.clock; work = Ready q g.clock }
  page_after g (First q a) = record g { work = opened a g.sent g.work }
  page_after g (Last q) = record g { work = copied g.work; got = max g.got (snap_of g.work) }
  page_after g (Stamp q) = record g { work = stamped g.work; update = time_of g.work }
  page_after g (Enter q) = record g { work = Fetched q; dir = 2 }
  page_after g (Current q) = record g { work = Fetched q }
  page_after g (Current_sole q) = record g { work = Fetched q }
  page_after g (Map q) = g
  page_after g (Done q) = record g { work = Idle }
  page_after g Send = record g { served = false; sent = suc g.sent }
  page_after g Pass_by = record g { served = true; posted = g.sent }
  page_after g Post_bit = record g { served = true; posted = g.sent; bit = true }
  page_after g Tell = record g { told = g.sent }
  page_after g Break = record g { sent = suc g.sent; broken = suc g.sent; told = suc g.sent }
  page_after g (Pass q) = g
  page_after g (Drain_none q) = record g { dealt = g.posted }
  page_after g (Drain_some q) = record g { bit = false; hand = Found g.posted }
  page_after g Time = record g { clock = suc g.clock; hand = timed g.clock g.hand }
  page_after g Notify = record g { notice = hand_time g.hand; dealt = carried g.hand; hand = Flags first }
  page_after g Flag = record g { hand = Flags (suc (flag_at g.hand)) }
  page_after g Flagged = record g { hand = Empty }
  page_after g Other_time = record g { clock = suc g.clock; hand = Other g.clock }
  page_after g Other_notice = record g { notice = hand_time g.hand; hand = Empty }
  page_after g (Other_flag q) = g
  page_after g (Give q) = g
  page_after g (Take q) = g
  page_after g (Skip q) = g
  page_after g (Unmap q) = g
  page_after g (Keep q) = g
  page_after g (Keep_sole q) = g
  page_after g (Settle q) = g
  page_after g Tick = record g { clock = suc g.clock }

  -- which processor it changes,
  abbrev pub processor_of : Hand → Event → ℕ
  processor_of h (Map q) = q
  processor_of h (Pass q) = q
  processor_of h (Drain_none q) = q
  processor_of h (Drain_some q) = q
  processor_of h Flag = flag_at h
  processor_of h (Other_flag q) = q
  processor_of h (Give q) = q
  processor_of h (Take q) = q
  processor_of h (Skip q) = q
  processor_of h (Unmap q) = q
  processor_of h (Keep q) = q
  processor_of h (Keep_sole q) = q
  processor_of h (Settle q) = q
  processor_of h _ = 0

  -- and what that one is behind it
  abbrev pub processor_after : ℕ → Processor → Event → Processor
  processor_after told x (Map q) = record x { mapped = true }
  processor_after told x (Pass q) = record x { known = told; stage = Before }
  processor_after told x (Drain_none q) = record x { stage = Drained }
  processor_after told x (Drain_some q) = record x { stage = Drained }
  processor_after told x Flag = record x { own = true }
  processor_after told x (Other_flag q) = record x { own = true }
  processor_after told x (Give q) = record x { stage = Given }
  processor_after told x (Take q) = record x { own = false; stage = Taken x.own }
  processor_after told x (Skip q) = record x { stage = Taken false }
  processor_after told x (Unmap q) = record x { mapped = false; stage = Taken false }
  processor_after told x (Keep q) = record x { stage = Taken false }
  processor_after told x (Keep_sole q) = record x { stage = Taken false }
  processor_after told x (Settle q) = record x { stage = Rest }
  processor_after told x _ = x

  -- the state behind an event, and behind a list of them, oldest first
  abbrev pub happens : State → Event → State
  happens s e = record {
    page = page_after s.page e;
    processors = put s.processors (processor_of s.page.hand e) (processor_after s.page.told (s.processors (processor_of s.page.hand e)) e);
  }

  abbrev pub after : State → List Event → State
  after s [] = s
  after s (e ∷ es) = after (happens s e) es

-- At the start nothing of the page is used at the node, and nothing was sent. The clock starts at 1: a stamp of 0 says that there is no copy.
abbrev pub start : State
start = record {
  page = record {
    dir = 0;
    update = 0;
    notice = 0;
    clock = 1;
    bit = false;
    work = Idle;
    served = true;
    hand = Empty;
    sent = 0;
    told = 0;
    got = 0;
    posted = 0;
    dealt = 0;
    broken = 0;
  };
  processors = λ q. record { mapped = false; own = false; known = 0; stage = Rest };
}
