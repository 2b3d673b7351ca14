-- Lists written out by hand, oldest event first: some that meet every premise, and some with one act that does not meet its own, and
-- behind which a fact is broken.
use Rattle.std.specs.Prelude.{◌≡◌, ℕ, ◌<◌, Bool, true, false, ◌==◌, if◌then◌else◌, List, [], ◌∷◌, ◌++◌}
use Rattle.dsm_owners.specs.Stages.{faulting, closing, nobody}
use Rattle.dsm_owners.specs.Acts.{Act, Take, See_sole, See, Find_new, Find_old, Find_none, Find_late, Clear, Register, Share_own, Share_none, Share_one, Share_busy, Busy, Free, Want, Want_none, Part, Visit, Close, Look_sole, Look_on, Twin_up, Twin_home, Break, Go_back, Close_end, Return, Back_on, Test_none, Go_on, Claim, Look_own, Look_none, Look_some, Withdraw, Alone, Alone_home, Enter_first, Enter_stamp, Enter, Ready_home, Compare, Current, Stale, First, Stamp, Read_ready, Has_twin, No_twin, Make, Set_read, Set_sole, Set_write, Give, Collect, Release, Release_on, Flush, Send, Send_home, Post, Posted, Lower, Lower_end, Drop_begin, Drop_one, Drop_kept, Drop_last, Unlist, Finish, Acquire, Acquire_on, Unmap, Empty_zero, Empty_some, Empty_none, Leave, Done, Stop_visit, put, moves}
use Rattle.dsm_owners.specs.Directory.{State, Event, Do, Touch, Mark, start, after_event, after}
use Rattle.dsm_owners.specs.Premises.{Runs}

-- so many nodes, whose processor each one is, and what happens
pub record Example : Type 0 where
  pub top : ℕ
  pub node : ℕ → ℕ
  pub events : List Event

-- the list meets every premise
abbrev pub MeetsAll : Example → Type 0
MeetsAll x = Runs x.top x.node start x.events

-- the state behind it
abbrev pub ended : Example → State
ended x = after x.node start x.events

-- some events, an act of p that comes unasked, and some more
pub record Case : Type 0 where
  pub top : ℕ
  pub node : ℕ → ℕ
  pub earlier : List Event
  pub p : ℕ
  pub act : Act
  pub later : List Event

-- the state before that act,
abbrev pub reached : Case → State
reached c = after c.node start c.earlier

-- behind it,
abbrev pub behind : Case → State
behind c = after_event c.node (reached c) (Do c.p c.act)

-- and at the end
abbrev pub last : Case → State
last c = after c.node (behind c) c.later

-- all but that act meet their premises, and it is made at its stage; and at the end the fact does not hold
pub record Breaks (fact : (top : ℕ) → (node : ℕ → ℕ) → State → Type 0) (c : Case) : Type 0 where
  pub before : Runs c.top c.node start c.earlier
  pub standing : ((reached c).processors c.p).stage ≡ (moves c.act).0
  pub ranged : c.node c.p < c.top
  pub afterwards : Runs c.top c.node (behind c) c.later
  pub broken : fact c.top c.node (last c) → ⊥

-- processor p is of node p
abbrev pub one_each : ℕ → ℕ
one_each p = p

-- processors 1 and 2 are of node 1
abbrev pub two_at_one : ℕ → ℕ
two_at_one p = if p == 2 then 1 else p

-- acts of one processor
abbrev pub by : ℕ → List Act → List Event
by p [] = []
by p (a ∷ later) = Do p a ∷ by p later

-- node 0, or 1, is busy
abbrev pub zero_busy : ℕ → Bool
zero_busy = put nobody 0 true

abbrev pub one_busy : ℕ → Bool
one_busy = put nobody 1 true

-- processor p finds the page without a home, and its node becomes it
abbrev pub touches : ℕ → Bool → List Event
touches p write = by p (Take write ∷ See write 0 ∷ Find_none write 0 ∷ []) ++ Touch p write ∷ by p (Find_late write ∷ [])

-- a fault registers its node,
abbrev pub registers : Bool → List Act
registers write = Take write ∷ See write 0 ∷ Find_new write ∷ Clear write ∷ Register write ∷ []

-- fetches the page,
abbrev pub fetches : Bool → List Act
fetches write = Compare write false ∷ Stale write false ∷ First write ∷ Stamp write ∷ []

-- maps it to read,
abbrev pub maps_it : List Act
maps_it = Set_read false ∷ Give ∷ []

-- or fetches it first
abbrev pub reads_it : List Act
reads_it = fetches false ++ Read_ready ∷ maps_it

-- processor 0 of two nodes registers its node as the home, and finds node 1 unregistered;
abbrev pub home_looks : List Event
home_looks = touches 0 true ++ by 0 (Clear true ∷ Register true ∷ Share_own true 0 false nobody ∷ Share_none true 1 false nobody ∷ Free true 2 false nobody ∷ [])

-- it claims the page, looks again, and has it alone
abbrev pub home_enters : List Event
home_enters = home_looks ++ by 0 (Test_none ∷ Claim ∷ Look_own 0 ∷ Look_none 1 ∷ Alone_home 2 ∷ Enter ∷ Set_sole ∷ Give ∷ [])

-- a fault of node 1 finds node 0 alone, and has it to visit
abbrev pub finds_busy : List Act
finds_busy = registers false ++ Share_busy false 0 false nobody ∷ Share_own false 1 true zero_busy ∷ Busy false 2 true zero_busy 0 ∷ []

-- The first touch. Processor 0 of two nodes writes to a page without a home: its node is the home, and has the page alone.
abbrev pub touched : Example
touched = record { top = 2; node = one_each; events = home_enters }

-- processor 1 of three nodes finds no other one registered
abbrev pub alone_of_three : List Act
alone_of_three = Share_none true 0 false nobody ∷ Share_own true 1 false nobody ∷ Share_none true 2 false nobody ∷ Free true 3 false nobody ∷ []

-- Processor 0 of three nodes makes its node the home and stands still. Processor 1 claims the page to write, but node 2 has registered
-- meanwhile, so it withdraws, and fetches the page.
abbrev pub withdraws : List Event
withdraws =
    touches 0 false
    ++ by 1 (registers true ++ alone_of_three)
    ++ by 1 (Test_none ∷ Claim ∷ [])
    ++ by 2 (registers false)
    ++ by 1 (Look_none 0 ∷ Look_own 1 ∷ Look_some 2 ∷ Withdraw ∷ fetches true)

-- A claim that is withdrawn. So it is; processor 1 then makes a twin and writes; processor 2 finds node 1, and reads.
abbrev pub withdrawn : Example
withdrawn = record {
  top = 3;
  node = one_each;
  events =
      withdraws
      ++ by 1 (No_twin ∷ Make ∷ Set_write ∷ Give ∷ [])
      ++ by 2 (Share_none false 0 false nobody ∷ Share_one false 1 false nobody ∷ Share_own false 2 true nobody ∷ Free false 3 true nobody ∷ [])
      ++ by 2 (Go_on false true ∷ reads_it);
}

-- its release flushes,
abbrev pub flushes_it : List Act
flushes_it = Collect ∷ Release ∷ Release_on ∷ Flush ∷ Send ∷ []

-- tells node 2 and drops the twin;
abbrev pub tells_two : List Act
tells_two = Post true 2 ∷ Posted true ∷ Lower true ∷ Drop_begin 1 ∷ Drop_one 1 false ∷ Drop_kept 2 ∷ Finish ∷ []

-- processor 2 gives the page up, and node 2 leaves
abbrev pub leaves : List Act
leaves = Acquire ∷ Acquire_on ∷ Unmap 2 ∷ Empty_zero 2 ∷ Empty_none 3 ∷ Leave ∷ Done ∷ []

-- A notice, and a node that leaves. Processor 1 flushes, tells node 2, and drops its twin; node 2 leaves.
abbrev pub left : Example
left = record { top = 3; node = one_each; events = withdrawn.events ++ by 1 (flushes_it ++ tells_two) ++ by 2 leaves }

-- a fault of processor 1 to write, at its registered node, finds no other one
abbrev pub faults_again : List Act
faults_again = Take true ∷ See true 1 ∷ Find_old true 1 ∷ alone_of_three

-- its claim holds, it copies the page and has it alone
abbrev pub enters_it : List Act
enters_it = Claim ∷ Look_none 0 ∷ Look_own 1 ∷ Look_none 2 ∷ Alone 3 ∷ Enter_first ∷ Enter_stamp ∷ Enter ∷ []

-- An enter away from the home. Node 1 is the only one left, and processor 1 claims the page, copies it and has it alone.
abbrev pub entered : Example
entered = record { top = 3; node = one_each; events = left.events ++ by 1 (faults_again ++ Test_none ∷ enters_it ++ Set_sole ∷ Give ∷ []) }

-- processors 2 and 0 find node 1 alone and want the page
abbrev pub both_want : List Event
both_want =
    by 2 (registers false)
    ++ by 2 (Share_none false 0 false nobody ∷ Share_busy false 1 false nobody ∷ Share_own false 2 true one_busy ∷ Busy false 3 true one_busy 1 ∷ [])
    ++ by 2 (Want false one_busy ∷ Part false one_busy ∷ [])
    ++ by 0 (Clear false ∷ Register false ∷ Share_own false 0 false nobody ∷ Share_busy false 1 false nobody ∷ Share_one false 2 true one_busy ∷ [])
    ++ by 0 (Busy false 3 true one_busy 1 ∷ Want false one_busy ∷ Part false one_busy ∷ [])

-- Two visits. Processor 2 breaks node 1, tells processor 1, and reads; processor 0, at the home, finds it broken, and reads.
abbrev pub visited : Example
visited = record {
  top = 3;
  node = one_each;
  events =
      entered.events
      ++ both_want
      ++ by 2 (Visit false 0 one_busy 1 ∷ Look_sole (faulting false one_busy) 1 ∷ [])
      ++ Mark 2 1 (faulting false one_busy) 1
      ∷ by 2 (Twin_up (faulting false one_busy) 1 ∷ Break (faulting false one_busy) 1 ∷ Go_back false one_busy 1 ∷ [])
      ++ by 2 (Return false 2 one_busy ∷ Back_on false ∷ reads_it)
      ++ by 0 (Visit false 0 one_busy 1 ∷ Look_on (faulting false one_busy) 1 ∷ Go_back false one_busy 1 ∷ [])
      ++ by 0 (Return false 2 one_busy ∷ Back_on false ∷ Ready_home false ∷ maps_it);
}

-- the home's release tells node 1,
abbrev pub home_tells : List Act
home_tells = Collect ∷ Release ∷ Release_on ∷ Send_home ∷ Post false 1 ∷ Posted false ∷ Lower false ∷ Lower_end ∷ Finish ∷ []

-- Starved. Processor 1 wants the page that node 0 has alone, and ends before its visit; its mapping stays wanted. Processor 2 of the
-- same node goes to visit as well, but the closing work of processor 0 breaks node 0 first. The home then tells node 1; processor 2
-- gives its mapping up, and the wanted one keeps node 1 registered.
abbrev pub starved : Example
starved = record {
  top = 2;
  node = two_at_one;
  events =
      home_enters
      ++ by 1 finds_busy
      ++ by 1 (Want false zero_busy ∷ Part false zero_busy ∷ Stop_visit false 0 zero_busy ∷ [])
      ++ by 2 (Take false ∷ See false 1 ∷ Find_old false 1 ∷ [])
      ++ by 2 (Share_busy false 0 false nobody ∷ Share_own false 1 true zero_busy ∷ Busy false 2 true zero_busy 0 ∷ [])
      ++ by 2 (Want false zero_busy ∷ Part false zero_busy ∷ [])
      ++ by 0 (Close 0 ∷ Look_sole closing 0 ∷ [])
      ++ Mark 0 0 closing 0
      ∷ by 0 (Twin_home closing 0 ∷ Break closing 0 ∷ Close_end 0 ∷ [])
      ++ by 2 (Visit false 0 zero_busy 0 ∷ Look_on (faulting false zero_busy) 0 ∷ Go_back false zero_busy 0 ∷ [])
      ++ by 2 (Return false 1 zero_busy ∷ Back_on false ∷ reads_it)
      ++ by 0 home_tells
      ++ by 2 (Acquire ∷ Acquire_on ∷ Unmap 1 ∷ Empty_some 1 ∷ Done ∷ []);
}

-- Two processors of a node take its turn.
abbrev pub taken_twice : Case
taken_twice = record { top = 2; node = two_at_one; earlier = by 1 (Take false ∷ []); p = 2; act = Take false; later = [] }

-- A fault takes an unregistered node for an exclusive one, and maps the page.
abbrev pub misread : Case
misread = record { top = 2; node = one_each; earlier = by 0 (Take false ∷ []); p = 0; act = See_sole false; later = by 0 (Set_read true ∷ Give ∷ []) }

-- A fault registers its node before the page has a home.
abbrev pub homeless : Case
homeless = record {
  top = 2;
  node = one_each;
  earlier = by 0 (Take false ∷ See false 0 ∷ []);
  p = 0;
  act = Find_new false;
  later = by 0 (Clear false ∷ Register false ∷ []);
}

-- Node 0 has the page alone; processor 1 takes its word for 0, and reads.
abbrev pub unseen : Case
unseen = record {
  top = 2;
  node = one_each;
  earlier = home_enters ++ by 1 (registers false);
  p = 1;
  act = Share_none false 0 false nobody;
  later = by 1 (Share_own false 1 false nobody ∷ Free false 2 false nobody ∷ Go_on false false ∷ reads_it);
}

-- It goes on before it has read any word.
abbrev pub unread : Case
unread = record {
  top = 2;
  node = one_each;
  earlier = home_enters ++ by 1 (registers false);
  p = 1;
  act = Free false 0 false nobody;
  later = by 1 (Go_on false false ∷ reads_it);
}

-- It has node 0 to visit, and goes on without the visit.
abbrev pub unvisited : Case
unvisited = record {
  top = 2;
  node = one_each;
  earlier = home_enters ++ by 1 finds_busy ++ by 1 (Want false zero_busy ∷ Part false zero_busy ∷ []);
  p = 1;
  act = Return false 0 zero_busy;
  later = by 1 (Back_on false ∷ reads_it);
}

-- It goes to visit with no mapping. It breaks node 0, whose release tells node 1; processor 2 of its own node finds no mapping there, and
-- node 1 leaves. The fault comes back and maps the page at an unregistered node.
abbrev pub unwanted : Case
unwanted = record {
  top = 2;
  node = two_at_one;
  earlier = home_enters ++ by 1 finds_busy;
  p = 1;
  act = Want_none false zero_busy;
  later =
      by 1 (Part false zero_busy ∷ Visit false 0 zero_busy 0 ∷ Look_sole (faulting false zero_busy) 0 ∷ [])
      ++ Mark 1 0 (faulting false zero_busy) 0
      ∷ by 1 (Twin_home (faulting false zero_busy) 0 ∷ Break (faulting false zero_busy) 0 ∷ Go_back false zero_busy 0 ∷ [])
      ++ by 0 home_tells
      ++ by 2 (Acquire ∷ Acquire_on ∷ Unmap 1 ∷ Empty_zero 1 ∷ Empty_zero 2 ∷ Empty_none 3 ∷ Leave ∷ Done ∷ [])
      ++ by 1 (Return false 1 zero_busy ∷ Back_on false ∷ reads_it);
}

-- Node 1 registers behind the first look of processor 0, finds its word 1, and reads; processor 0 claims the page and enters without a
-- second look.
abbrev pub looked_once : Case
looked_once = record {
  top = 2;
  node = one_each;
  earlier =
      home_looks
      ++ by 1 (registers false)
      ++ by 1 (Share_one false 0 false nobody ∷ Share_own false 1 true nobody ∷ Free false 2 true nobody ∷ Go_on false true ∷ reads_it)
      ++ by 0 (Test_none ∷ Claim ∷ []);
  p = 0;
  act = Alone_home 0;
  later = by 0 (Enter ∷ Set_sole ∷ Give ∷ []);
}

-- node 1 of two registers, and finds no other node
abbrev pub one_looks : Bool → List Event
one_looks write =
    touches 0 false
    ++ by 1 (registers write)
    ++ by 1 (Share_none write 0 false nobody ∷ Share_own write 1 false nobody ∷ Free write 2 false nobody ∷ [])

-- Away from the home a node enters without a copy.
abbrev pub uncopied : Case
uncopied = record {
  top = 2;
  node = one_each;
  earlier = one_looks true ++ by 1 (Test_none ∷ Claim ∷ Look_none 0 ∷ Look_own 1 ∷ []);
  p = 1;
  act = Alone_home 2;
  later = by 1 (Enter ∷ Set_sole ∷ []);
}

-- Away from the home a page is mapped as at the home,
abbrev pub unfetched : Case
unfetched = record {
  top = 2;
  node = one_each;
  earlier = one_looks false ++ by 1 (Go_on false false ∷ []);
  p = 1;
  act = Ready_home false;
  later = by 1 maps_it;
}

-- or a copy that was never fetched is taken for a current one.
abbrev pub unstamped : Case
unstamped = record {
  top = 2;
  node = one_each;
  earlier = one_looks false ++ by 1 (Go_on false false ∷ []);
  p = 1;
  act = Compare false true;
  later = by 1 (Current false ∷ Read_ready ∷ maps_it);
}

-- The page is mapped to write without a twin.
abbrev pub untwinned : Case
untwinned = record { top = 3; node = one_each; earlier = withdraws; p = 1; act = Has_twin; later = by 1 (Set_write ∷ Give ∷ []) }

-- processor 1 writes again when its twin was dropped, while node 2 is still registered
abbrev pub writes_again : List Act
writes_again =
    Take true ∷ See true 1 ∷ Find_old true 1 ∷ Share_none true 0 false nobody ∷ Share_own true 1 false nobody ∷ Share_one true 2 false nobody
    ∷ Free true 3 true nobody ∷ Go_on true true ∷ Compare true true ∷ Current true ∷ No_twin ∷ Make ∷ Set_write ∷ Give ∷ []

-- A node with a twin claims the page, and has it alone.
abbrev pub claimed_with_twin : Case
claimed_with_twin = record {
  top = 3;
  node = one_each;
  earlier = withdrawn.events ++ by 1 (flushes_it ++ tells_two ++ writes_again) ++ by 2 leaves ++ by 1 faults_again;
  p = 1;
  act = Test_none;
  later = by 1 enters_it;
}

-- A notice is posted to the home.
abbrev pub home_told : Case
home_told = record { top = 3; node = one_each; earlier = withdrawn.events ++ by 1 flushes_it; p = 1; act = Post true 0; later = [] }

-- A twin is dropped and the node unlisted before the mappings are looked at.
abbrev pub dropped_blind : Case
dropped_blind = record {
  top = 3;
  node = one_each;
  earlier = withdrawn.events ++ by 1 flushes_it ++ by 1 (Posted true ∷ Lower true ∷ Drop_begin 1 ∷ []);
  p = 1;
  act = Drop_last 1;
  later = by 1 (Unlist ∷ []);
}

-- A node away from the home is broken without a twin, and goes on writing.
abbrev pub broken_bare : Case
broken_bare = record {
  top = 3;
  node = one_each;
  earlier = entered.events ++ both_want ++ by 2 (Visit false 0 one_busy 1 ∷ Look_sole (faulting false one_busy) 1 ∷ []);
  p = 2;
  act = Twin_home (faulting false one_busy) 1;
  later = by 2 (Break (faulting false one_busy) 1 ∷ []);
}
