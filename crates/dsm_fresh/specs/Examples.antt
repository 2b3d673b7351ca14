-- Lists written out by hand, oldest event first: one that meets every premise, and some with one event that does not meet its own, and
-- behind which a processor maps a copy that is not fresh. The node's processors are 2 and 3.
use Rattle.std.specs.Prelude.{◌≡◌, ◌≢◌, ◌⊎◌, ℕ, ◌≤◌, ◌<◌, Bool, true, false, List, [], ◌∷◌, ◌++◌}
use Rattle.dsm_fresh.specs.Stages.{Idle, Empty, Flags, Rest, Before, Drained, Taken, is_open, is_entering}
use Rattle.dsm_fresh.specs.Pages.{Page, Processor, State, Event, Reset, Register, Claim, Share, Leave, Draw, First, Last, Stamp, Enter, Current, Current_sole, Map, Done, Send, Pass_by, Post_bit, Tell, Break, Pass, Drain_none, Drain_some, Time, Notify, Flag, Flagged, Other_time, Other_notice, Other_flag, Give, Take, Skip, Unmap, Keep, Keep_sole, Settle, Tick, happens, after, start}
use Rattle.dsm_fresh.specs.Premises.{IsOf, MayFault, Runs}

-- the node registers,
abbrev pub lists : List Event
lists = Reset ∷ Register ∷ []

-- processor q maps the page,
abbrev pub maps : ℕ → List Event
maps q = Map q ∷ Done q ∷ []

-- finds the copy current,
abbrev pub finds : ℕ → List Event
finds q = Current q ∷ maps q

-- ends a fetch that is open,
abbrev pub closes : ℕ → List Event
closes q = Last q ∷ Stamp q ∷ maps q

-- fetches,
abbrev pub fetches : ℕ → List Event
fetches q = Draw q ∷ First q false ∷ closes q

-- fetches and becomes exclusive
abbrev pub enters : ℕ → List Event
enters q = Draw q ∷ First q true ∷ Last q ∷ Stamp q ∷ Enter q ∷ maps q

-- the sender sends and posts a notice,
abbrev pub sends_it : List Event
sends_it = Send ∷ Post_bit ∷ Tell ∷ []

-- or passes the node by
abbrev pub passed_by : List Event
passed_by = Send ∷ Pass_by ∷ Tell ∷ []

-- processor q takes its set behind its look for notices,
abbrev pub gives : ℕ → List Event
gives q = Give q ∷ Take q ∷ []

-- which finds none,
abbrev pub acquires : ℕ → List Event
acquires q = Pass q ∷ Drain_none q ∷ gives q

-- so that nothing is to be done,
abbrev pub settles : ℕ → List Event
settles q = acquires q ++ Settle q ∷ []

-- or one, with which it deals
abbrev pub takes : ℕ → List Event
takes q = Drain_some q ∷ Time ∷ Notify ∷ Flag ∷ Flag ∷ Flagged ∷ gives q

abbrev pub notified : ℕ → List Event
notified q = Pass q ∷ takes q

-- Processor 2 fetches while the sender sends, hears of it and lets the page go; the node leaves. Processor 3 enters and 2 maps too; the
-- node is shared again, hears of two sends and leaves. A send passes it by, and it meets a break of the sender before it fetches. A notice
-- comes without a send: one processor fetches anew and the other keeps the page. Last the node hears of another sender, and a fetch begins
-- behind one more send.
abbrev pub worked : List Event
worked =
    Tick ∷ lists ++ Draw 2 ∷ First 2 false ∷ Send ∷ Last 2 ∷ Post_bit ∷ Stamp 2 ∷ Tell ∷ maps 2 ++ notified 2 ++ Unmap 2 ∷ Leave ∷ Settle 2
    ∷ lists ++ Claim ∷ enters 3 ++ Current_sole 2 ∷ maps 2 ++ acquires 3 ++ Keep_sole 3 ∷ Settle 3 ∷ Share
    ∷ sends_it ++ sends_it ++ notified 2 ++ Unmap 2 ∷ Settle 2 ∷ acquires 3 ++ Unmap 3 ∷ Settle 3 ∷ Leave
    ∷ passed_by ++ acquires 2 ++ Skip 2 ∷ Settle 2 ∷ lists ++ Break ∷ fetches 2 ++ finds 3 ++ settles 3
    ++ Post_bit ∷ notified 2 ++ Unmap 2 ∷ Settle 2 ∷ fetches 2 ++ settles 2 ++ acquires 3 ++ Keep 3 ∷ Settle 3 ∷ Claim ∷ Share ∷ settles 2
    ++ Pass 3 ∷ Drain_none 3 ∷ Other_time ∷ Other_notice ∷ Other_flag 2 ∷ Other_flag 3 ∷ gives 3 ++ Unmap 3 ∷ Settle 3
    ∷ sends_it ++ fetches 3

-- the list meets every premise
abbrev pub MeetsAll : List Event → Type 0
MeetsAll es = Runs 2 4 start es

-- and its end was worked out by hand: the words and counts of the page,
abbrev pub worked_page : Page
worked_page = record {
  dir = 1;
  update = 10;
  notice = 9;
  clock = 11;
  bit = true;
  work = Idle;
  served = true;
  hand = Empty;
  sent = 6;
  told = 6;
  got = 6;
  posted = 6;
  dealt = 5;
  broken = 5;
}

-- and two processors that map it, of which one has a flag left
abbrev pub reader : Bool → Processor
reader own = record { mapped = true; own = own; known = 5; stage = Rest }

abbrev pub EndsAsWorked : Type 0
EndsAsWorked =
    ((after 2 start worked).page ≡ worked_page)
    × ((after 2 start worked).processors 2 ≡ reader true) × ((after 2 start worked).processors 3 ≡ reader false)

-- some events, one that comes unasked, and some more
pub record Case : Type 0 where
  pub earlier : List Event
  pub event : Event
  pub later : List Event

-- the state before that event,
abbrev pub reached : Case → State
reached c = after 2 start c.earlier

-- behind it,
abbrev pub behind : Case → State
behind c = happens 2 (reached c) c.event

-- and at the end
abbrev pub last : Case → State
last c = after 2 (behind c) c.later

-- All but that event meet their premises, and it meets this part of its own. At the end processor 2 is at rest and maps the page, and the
-- node has got fewer sends than were told before it passed.
pub record Breaks (part : State → Type 0) (c : Case) : Type 0 where
  pub before : Runs 2 4 start c.earlier
  pub partly : part (reached c)
  pub afterwards : Runs 2 4 (behind c) c.later
  pub rests : ((last c).processors 2).stage ≡ Rest
  pub maps : ((last c).processors 2).mapped ≡ true
  pub stale : (last c).page.got < ((last c).processors 2).known

-- the parts of premises that are met: none,
abbrev pub Anything : State → Type 0
Anything s = Unit {0}

-- of a fault: it may begin, on a node that is registered, on one with a copy, or with a stamp that is not older than the notice,
abbrev pub Faults : State → Type 0
Faults s = MayFault 2 4 s 2

abbrev pub IsRegisteredFault : State → Type 0
IsRegisteredFault s = MayFault 2 4 s 2 × (s.page.dir ≢ 0) × (s.page.notice ≤ s.page.update)

abbrev pub IsUsedFault : State → Type 0
IsUsedFault s = MayFault 2 4 s 2 × (s.page.dir ≢ 0) × (s.page.update ≢ 0)

abbrev pub IsStampedFault : State → Type 0
IsStampedFault s = MayFault 2 4 s 2 × (s.page.update ≢ 0) × (s.page.notice ≤ s.page.update)

-- of a node that leaves: no fault is under way, or no processor maps the page,
abbrev pub IsIdle : State → Type 0
IsIdle s = s.page.work ≡ Idle

abbrev pub NoneMapped : State → Type 0
NoneMapped s = (q : ℕ) → IsOf 2 4 q → (s.processors q).mapped ≡ false

-- of a send: the node is not entering, or not exclusive,
abbrev pub IsNotEntering : State → Type 0
IsNotEntering s = is_entering s.page.work ≡ false

abbrev pub IsNotAlone : State → Type 0
IsNotAlone s = s.page.dir ≢ 2

-- of a break: no fetch is under way, or no copy there,
abbrev pub IsNotOpen : State → Type 0
IsNotOpen s = is_open s.page.work ≡ false

abbrev pub IsUnused : State → Type 0
IsUnused s = (s.page.dir ≡ 0) ⊎ (s.page.update ≡ 0)

-- of a processor in its acquire: where it stands, and what is in hand
abbrev pub Rests : State → Type 0
Rests s = (s.processors 2).stage ≡ Rest

abbrev pub LooksUnheld : State → Type 0
LooksUnheld s = ((s.processors 2).stage ≡ Before) × (s.page.hand ≡ Empty)

abbrev pub IsFlagging : State → Type 0
IsFlagging s = (j : ℕ) × (s.page.hand ≡ Flags j)

abbrev pub IsDrained : State → Type 0
IsDrained s = (s.processors 2).stage ≡ Drained

abbrev pub IsTaken : State → Type 0
IsTaken s = (s.processors 2).stage ≡ Taken true

abbrev pub IsTakenIdle : State → Type 0
IsTakenIdle s = IsTaken s × (s.page.work ≡ Idle)

-- processor 2 has a copy from before any send and maps it,
abbrev pub fetched : List Event
fetched = lists ++ fetches 2

-- has begun to fetch one,
abbrev pub opened_by : ℕ → List Event
opened_by q = lists ++ Draw q ∷ First q false ∷ []

-- or had one on a node that has left since, and is passed by a send
abbrev pub left : List Event
left = fetched ++ acquires 2 ++ Unmap 2 ∷ Settle 2 ∷ Leave ∷ passed_by

-- The stamp of a registered node is cleared, and a break of the sender finds no copy.
abbrev pub without_reset : Case
without_reset = record { earlier = fetched; event = Reset; later = Break ∷ settles 2 }

-- A node registers with the stamp of the copy that it left.
abbrev pub without_register : Case
without_register = record { earlier = left; event = Register; later = finds 2 ++ settles 2 }

-- So it is where it claims,
abbrev pub without_claim : Case
without_claim = record { earlier = left; event = Claim; later = finds 2 ++ settles 2 }

-- or is shared,
abbrev pub without_share : Case
without_share = record { earlier = left; event = Share; later = finds 2 ++ settles 2 }

-- or takes that copy for current at once.
abbrev pub without_current_unregistered : Case
without_current_unregistered = record { earlier = left; event = Current 2; later = maps 2 ++ settles 2 }

-- A node leaves while a processor maps the page,
abbrev pub without_leave_mapped : Case
without_leave_mapped = record { earlier = fetched; event = Leave; later = passed_by ++ settles 2 }

-- or while one fetches it.
abbrev pub without_leave_fetching : Case
without_leave_fetching = record { earlier = opened_by 2; event = Leave; later = passed_by ++ closes 2 ++ settles 2 }

-- One fetches without being registered.
abbrev pub without_draw : Case
without_draw = record { earlier = []; event = Draw 2; later = First 2 false ∷ passed_by ++ closes 2 ++ settles 2 }

-- A copy that was never fetched is taken for current.
abbrev pub without_current_unfetched : Case
without_current_unfetched = record { earlier = passed_by ++ lists; event = Current 2; later = maps 2 ++ settles 2 }

-- A copy older than the last notice is taken for current.
abbrev pub without_current_stale : Case
without_current_stale = record { earlier = fetched ++ sends_it ++ notified 2 ++ Unmap 2 ∷ Settle 2 ∷ []; event = Current 2; later = maps 2 }

-- A node is taken for exclusive,
abbrev pub without_current_sole : Case
without_current_sole = record { earlier = passed_by ++ lists; event = Current_sole 2; later = maps 2 ++ settles 2 }

-- or becomes so without a copy.
abbrev pub without_enter : Case
without_enter = record { earlier = passed_by ++ lists; event = Enter 2; later = maps 2 ++ settles 2 }

-- A page is mapped without a look at its copy.
abbrev pub without_map : Case
without_map = record { earlier = passed_by ++ lists; event = Map 2; later = settles 2 }

-- The sender sends while the node is exclusive,
abbrev pub without_send_alone : Case
without_send_alone = record { earlier = lists ++ Claim ∷ enters 2; event = Send; later = Post_bit ∷ Tell ∷ notified 2 ++ Keep_sole 2 ∷ Settle 2 ∷ [] }

-- or copies the page to become so.
abbrev pub without_send_entering : Case
without_send_entering = record {
  earlier = lists ++ Claim ∷ Draw 2 ∷ First 2 true ∷ [];
  event = Send;
  later = Post_bit ∷ Tell ∷ Last 2 ∷ Stamp 2 ∷ Enter 2 ∷ maps 2 ++ notified 2 ++ Keep_sole 2 ∷ Settle 2 ∷ [];
}

-- A registered node is passed by,
abbrev pub without_pass_by : Case
without_pass_by = record { earlier = fetched ++ Send ∷ []; event = Pass_by; later = Tell ∷ settles 2 }

-- or a send is told before the node was dealt with.
abbrev pub without_tell : Case
without_tell = record { earlier = fetched ++ Send ∷ []; event = Tell; later = settles 2 }

-- A break of the sender comes while the node has a copy,
abbrev pub without_break_used : Case
without_break_used = record { earlier = fetched; event = Break; later = settles 2 }

-- or while it fetches one.
abbrev pub without_break_fetching : Case
without_break_fetching = record { earlier = opened_by 2; event = Break; later = closes 2 ++ settles 2 }

-- A processor passes within its fault.
abbrev pub without_pass : Case
without_pass = record { earlier = opened_by 2 ++ sends_it; event = Pass 2; later = takes 2 ++ Skip 2 ∷ Settle 2 ∷ closes 2 }

-- A notice is there and not found.
abbrev pub without_drain_none : Case
without_drain_none = record { earlier = fetched ++ sends_it ++ Pass 2 ∷ []; event = Drain_none 2; later = gives 2 ++ Settle 2 ∷ [] }

-- A notice counts as dealt with before all are flagged.
abbrev pub without_flagged : Case
without_flagged = record { earlier = fetched ++ sends_it ++ Pass 2 ∷ Drain_some 2 ∷ Time ∷ Notify ∷ []; event = Flagged; later = gives 2 ++ Settle 2 ∷ [] }

-- A notice of another sender takes its place in the hand.
abbrev pub without_other_time : Case
without_other_time = record { earlier = fetched ++ sends_it ++ Pass 2 ∷ Drain_some 2 ∷ []; event = Other_time; later = Other_notice ∷ gives 2 ++ Settle 2 ∷ [] }

-- The turn of the notices is given while one is in hand.
abbrev pub without_give : Case
without_give = record { earlier = fetched ++ sends_it ++ Pass 2 ∷ Drain_some 2 ∷ []; event = Give 2; later = Take 2 ∷ Settle 2 ∷ [] }

-- A processor takes its set before it looked for notices.
abbrev pub without_take : Case
without_take = record { earlier = fetched ++ sends_it ++ Pass 2 ∷ []; event = Take 2; later = Settle 2 ∷ [] }

-- A page of its set that is mapped is skipped,
abbrev pub without_skip : Case
without_skip = record { earlier = fetched ++ sends_it ++ notified 2; event = Skip 2; later = Settle 2 ∷ [] }

-- or kept though its copy is older than the notice,
abbrev pub without_keep : Case
without_keep = record { earlier = fetched ++ sends_it ++ notified 2; event = Keep 2; later = Settle 2 ∷ [] }

-- or kept as if the node were exclusive,
abbrev pub without_keep_sole : Case
without_keep_sole = record { earlier = fetched ++ sends_it ++ notified 2; event = Keep_sole 2; later = Settle 2 ∷ [] }

-- or forgotten.
abbrev pub without_settle : Case
without_settle = record { earlier = fetched ++ sends_it ++ notified 2; event = Settle 2; later = [] }
