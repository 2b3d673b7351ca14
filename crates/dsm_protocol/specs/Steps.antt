-- What a processor does, sentence by sentence.
use Rattle.std.specs.Prelude.{ℕ, zero, suc, ◌+◌, ◌-◌, ◌*◌, ◌/◌, ◌%◌, ◌^◌, ◌==◌, ◌&&◌, ◌||◌, not, Bool, true, false, if◌then◌else◌, List, Option, None, Some, nat_lt}
use Rattle.dsm_entry.specs.declared.entry.Entry.TheVariants.{Load, Store, Signal, Pass, Out}
use Rattle.dsm_entry.specs.declared.entry.Obj.{Obj}
use Rattle.dsm_entry.specs.declared.entry.Obj.TheVariants.{Lock as LockOf, Barrier as BarrierOf, Flag as FlagOf, Close as CloseOf}
use Rattle.dsm_isa.specs.declared.instr.Instr.{Instr}
use Rattle.dsm_local.specs.declared.action.Action.{Action}
use Rattle.dsm_local.specs.declared.action.Action.TheVariants.{Set, Jump, LoadWord, StoreWord, Print, TakeLock, GiveLock, Meet, RaiseFlag, WaitFlag, Trap, Spend, Arrive}
use Rattle.dsm_local.specs.Readers.{next_action}
use Rattle.dsm_words.specs.declared.item.Item.{Item}
use Rattle.dsm_words.specs.declared.item.Item.TheVariants.{Stop}
use Rattle.dsm_words.specs.Place.{processors}
use Rattle.dsm_words.specs.Pages.{has_page}
use Rattle.dsm_words.specs.Script.{Get, Put, Change}
use Rattle.dsm_clock.specs.declared.stamp.Which.TheVariants.{Update as UpdateTime, Flush as FlushTime}
use Rattle.dsm_clock.specs.declared.turns.TurnId.TheVariants.{Page, Notices}
use Rattle.dsm_clock.specs.Taking.{take_script, give_script}
use Rattle.dsm_clock.specs.Times.{draw_script, stamp_script}
use Rattle.dsm_frames.specs.Frames.{frame_item, map_script}
use Rattle.dsm_directory.specs.declared.row.Row.{Row}
use Rattle.dsm_directory.specs.Directory.{is_busy, sharers_script, my_dir_script, holder_script, register_script, claim_script, withdraw_script, leave_script}
use Rattle.dsm_directory.specs.Homes.{find_home_script}
use Rattle.dsm_twin.specs.Twins.{has_twin_script, make_twin_script, drop_twin_script}
use Rattle.dsm_notice.specs.Notices.{post_script, drain_script, take_own_script, stale_script}
use Rattle.dsm_outgoing.specs.Sending.{last_flush_script, flush_script}
use Rattle.dsm_incoming.specs.Getting.{merge_script, overwrite_script}
use Rattle.dsm_exclusive.specs.Breaking.{break_script}
use Rattle.dsm_exclusive.specs.Entering.{enter_end}
use Rattle.dsm_exclusive.specs.Telling.{take_nle_script}
use Rattle.dsm_sync.specs.declared.counter.Counter.{Counter}
use Rattle.dsm_sync.specs.declared.counter.Counter.TheVariants.{Barrier, Flag, Close}
use Rattle.dsm_sync.specs.declared.got.Got.{Got}
use Rattle.dsm_sync.specs.declared.got.Got.TheVariants.{Ready, Unready}
use Rattle.dsm_sync.specs.Counting.{look_script, signal_script}
use Rattle.dsm_sync.specs.Locks.{lock_script, unlock_script}
use Rattle.dsm_local.specs.declared.end.End.{End as Ending}
use Rattle.dsm_local.specs.declared.end.End.TheVariants.{Halted, Trapped, Spent, Looked, Stopped, NoMemory}
use Rattle.dsm_protocol.specs.declared.head.Head.{Head}
use Rattle.dsm_protocol.specs.declared.head.Head.TheVariants.{Instruction, Locking, Looking}
use Rattle.dsm_protocol.specs.Own.{Own, Who, Tally, Read_faults, Write_faults, Overwrites, Merges, Twins, Flushes, Early, Unmaps, Enters, Breaks, Unready as Unready_looks, node_of, setting_of, mapping, is_dirty}
use Rattle.dsm_protocol.specs.Jobs.{Job, Moment, Make, Mark, Ask, Begin, Ended, Give, Go, Move, Append, Map_own, Soil, Clean, Join, Count, Happen, Passed, Acquired, Sent, Told, Began, Fetched, call, call_noting, call_counting}

-- the instruction is done, and the next one begins
abbrev pub next_instruction : Job
next_instruction = Mark Move (Begin Instruction)

-- it tells all others to stop, unless another did, and ends
abbrev pub stop_job : Who → Ending → Job
stop_job u e = Make (Change Stop 0 (u.p + 1)) (λ _. Ended e)

-- Turns, mappings and times. `rest` is what follows.

-- the turn of node n's copy of page g is taken, and is given back
abbrev pub take_job : Who → ℕ → ℕ → Job → Job
take_job u n g rest = call (take_script (Page n g) u.p) (λ _. rest)

abbrev pub give_job : ℕ → ℕ → Job → Job
give_job n g rest = call (give_script (Page n g)) (λ _. rest)

-- its own mapping of page g becomes m
abbrev pub map_job : Who → ℕ → ℕ → Job → Job
map_job u g m rest = call (map_script u.p g m) (λ _. Mark (Map_own g m) rest)

-- Fetching page g, whose home is h, and breaking it.

-- page g was fetched, in this way
abbrev pub copied_job : Who → ℕ → Tally → Job → Job
copied_job u g way rest = Mark (Count way) (Mark (Happen (Fetched (node_of u) g)) rest)

-- the home's words are merged where there is a twin, and else they overwrite the frame
abbrev pub copy_job : Who → ℕ → ℕ → Bool → Job → Job
copy_job u g h true rest = call_noting (Happen (Began (node_of u) g)) (merge_script u.lay (node_of u) g h) (λ _. copied_job u g Merges rest)
copy_job u g h false rest = call_noting (Happen (Began (node_of u) g)) (overwrite_script u.lay (node_of u) g h) (λ _. copied_job u g Overwrites rest)

-- the time that was drawn before it is noted
abbrev pub updated_job : Who → ℕ → ℕ → Job → Job
updated_job u g t rest = call (stamp_script UpdateTime (node_of u) g t) (λ _. rest)

-- fetch: draw a time, get the home's words, note the time
abbrev pub fetch_job : Who → ℕ → ℕ → Job → Job
fetch_job u g h rest = call (draw_script (node_of u)) (λ t. call (has_twin_script (node_of u) g) (λ twin. copy_job u g h twin (updated_job u g t rest)))

-- where the copy is out of date, it is fetched
abbrev pub refresh_job : Who → ℕ → ℕ → Job → Job
refresh_job u g h rest = call (stale_script (node_of u) g) (λ stale. if stale then fetch_job u g h rest else rest)

-- where there is no twin, one is made
abbrev pub twin_job : Who → ℕ → Job → Job
twin_job u g rest = call (has_twin_script (node_of u) g) (λ twin. if twin then rest else call (make_twin_script u.lay (node_of u) g) (λ _. Mark (Count Twins) rest))

-- node m has page g no longer alone: with its last operation the page is sent, and all were told
abbrev pub break_job : Who → ℕ → ℕ → ℕ → Job → Job
break_job u m g h rest = call (break_script u.lay m g h) (λ _. Mark (Count Breaks) (Mark (Happen (Sent m g)) (Mark (Happen (Told m g)) rest)))

-- the turn of node m's copy is taken, something is done where m has the page alone, and the turn is given back
abbrev pub within_turn : Who → ℕ → ℕ → (Job → Job) → Job → Job
within_turn u m g alone rest = take_job u m g (call (my_dir_script m g) (λ d. if d == 2 then alone (give_job m g rest) else give_job m g rest))

-- visit: the page is broken where node m has it alone
abbrev pub visit_job : Who → ℕ → ℕ → ℕ → Job → Job
visit_job u m g h rest = within_turn u m g (λ k. break_job u m g h k) rest

-- each busy node from m on is visited
abbrev pub visits_from : Who → ℕ → ℕ → ℕ → ℕ → ℕ → Job → Job
visits_from u g h busy m zero rest = rest
visits_from u g h busy m (suc k) rest = if is_busy busy m then visit_job u m g h (visits_from u g h busy (m + 1) k rest) else visits_from u g h busy (m + 1) k rest

-- Faults: `write` says of which kind.

-- the mapping that is wanted, and what is counted with it
abbrev pub wanted : Bool → ℕ
wanted false = 1
wanted true = 2

abbrev pub faults : Bool → Tally
faults false = Read_faults
faults true = Write_faults

-- the end of a fault where its node has the page alone
abbrev pub alone_job : Who → Bool → ℕ → Job → Job
alone_job u write g rest = map_job u g (wanted write) (Mark (Count (faults write)) (give_job (node_of u) g rest))

-- the end of a fault where the node shares it: a page that may be written is dirty
abbrev pub soil_job : Bool → ℕ → Job → Job
soil_job false g rest = rest
soil_job true g rest = Mark (Soil g) rest

abbrev pub shared_job : Who → Bool → ℕ → Job → Job
shared_job u write g rest = map_job u g (wanted write) (Mark (Count (faults write)) (soil_job write g (give_job (node_of u) g rest)))

-- the copy is up to date: to write it needs a twin
abbrev pub ready_job : Who → Bool → ℕ → Job → Job
ready_job u false g rest = shared_job u false g rest
ready_job u true g rest = twin_job u g (shared_job u true g rest)

-- the page is shared: where its node is not the home, the copy is brought up to date
abbrev pub share_job : Who → Bool → ℕ → ℕ → Job → Job
share_job u write g h rest = if node_of u == h then shared_job u write g rest else refresh_job u g h (ready_job u write g rest)

-- enter: its node has the page alone; where it is not the home, the frame is overwritten first
abbrev pub entered_job : Who → ℕ → Job → Job
entered_job u g rest = call (enter_end (node_of u) g) (λ _. Mark (Count Enters) (alone_job u true g rest))

abbrev pub enter_job : Who → ℕ → ℕ → Job → Job
enter_job u g h rest = if node_of u == h then entered_job u g rest else call (draw_script (node_of u)) (λ t. copy_job u g h false (updated_job u g t (entered_job u g rest)))

-- no other node used the page: its node claims it, and looks again
abbrev pub claim_job : Who → ℕ → ℕ → Job → Job
claim_job u g h rest =
    call (claim_script (node_of u) g) (λ _. call (sharers_script u.lay (node_of u) g) (λ row. if row.others then call (withdraw_script (node_of u) g) (λ _. share_job u true g h rest) else enter_job u g h rest))

abbrev pub sole_job : Who → ℕ → ℕ → Job → Job
sole_job u g h rest = call (has_twin_script (node_of u) g) (λ twin. if twin then share_job u true g h rest else claim_job u g h rest)

-- all visits are made: its node may have the page alone by now
abbrev pub visited_job : Who → Bool → ℕ → ℕ → Job → Job
visited_job u write g h rest = take_job u (node_of u) g (call (my_dir_script (node_of u) g) (λ d. if d == 2 then alone_job u write g rest else share_job u write g h rest))

-- some nodes are busy: with no turn held they are visited, and meanwhile a mapping that is wanted keeps its node registered
abbrev pub leave_job : Who → Bool → ℕ → ℕ → ℕ → Job → Job
leave_job u write g h busy rest = give_job (node_of u) g (visits_from u g h busy 0 u.lay.nodes (visited_job u write g h rest))

abbrev pub busy_job : Who → Bool → ℕ → ℕ → ℕ → Job → Job
busy_job u write g h busy rest = Ask (λ o. if mapping o g == 0 then map_job u g 3 (leave_job u write g h busy rest) else leave_job u write g h busy rest)

-- what the directory says decides
abbrev pub seen_job : Who → Bool → ℕ → ℕ → Row → Job → Job
seen_job u write g h row rest = if row.busy == 0 then (if write && not row.others then sole_job u g h rest else share_job u write g h rest) else busy_job u write g h row.busy rest

abbrev pub look_round_job : Who → Bool → ℕ → ℕ → Job → Job
look_round_job u write g h rest = call (sharers_script u.lay (node_of u) g) (λ row. seen_job u write g h row rest)

-- its node doesn't have the page alone; d is its word in the directory
abbrev pub common_job : Who → Bool → ℕ → ℕ → Job → Job
common_job u write g d rest =
    call (find_home_script u.lay (node_of u) g) (λ h. if d == 0 then call (register_script (node_of u) g) (λ _. look_round_job u write g h rest) else look_round_job u write g h rest)

-- a fault on page g
abbrev pub fault_job : Who → Bool → ℕ → Job → Job
fault_job u write g rest = take_job u (node_of u) g (call (my_dir_script (node_of u) g) (λ d. if d == 2 then alone_job u write g rest else common_job u write g d rest))

-- whether a mapping allows it: 1 a load, 2 a load and a store
abbrev pub allows : Bool → ℕ → Bool
allows false m = m == 1 || m == 2
allows true m = m == 2

-- a load or store of address w, with the fault before it where its mapping doesn't allow it
abbrev pub page_of : Who → ℕ → ℕ
page_of u w = w / u.lay.words

abbrev pub access_job : Who → Own → Bool → ℕ → Job → Job
access_job u o write w access = if allows write (mapping o (page_of u w)) then access else fault_job u write (page_of u w) access

-- Release work.

-- a page of the dirty set is done
abbrev pub done_job : Who → ℕ → Job → Job
done_job u g rest = call (give_script (Page (node_of u) g)) (λ _. Mark (Clean g) rest)

-- where it may write the page, it may only read it now
abbrev pub lower_job : Who → ℕ → Job → Job
lower_job u g rest = Ask (λ o. if mapping o g == 2 then map_job u g 1 rest else rest)

-- a twin that was flushed is dropped
abbrev pub drop_job : Who → ℕ → Bool → Job → Job
drop_job u g false rest = rest
drop_job u g true rest = call (drop_twin_script u.lay (node_of u) g) (λ _. rest)

-- The page is sent: the time is noted, and all others are told. A moment of the send comes, where there was something to send: a twin that was flushed, or the page at home
abbrev pub sends_job : Who → ℕ → ℕ → Bool → Moment → Job → Job
sends_job u g h flushed moment rest = if flushed || node_of u == h then Mark (Happen moment) rest else rest

abbrev pub told_job : Who → ℕ → ℕ → Bool → Job → Job
told_job u g h flushed rest = sends_job u g h flushed (Told (node_of u) g) (lower_job u g (drop_job u g flushed rest))

abbrev pub post_job : Who → ℕ → ℕ → Bool → Job → Job
post_job u g h flushed rest = call_counting (post_script u.lay (node_of u) g h) (λ _. told_job u g h flushed rest)

abbrev pub sent_job : Who → ℕ → ℕ → ℕ → Bool → Job → Job
sent_job u g h t flushed rest = call (stamp_script FlushTime (node_of u) g t) (λ _. sends_job u g h flushed (Sent (node_of u) g) (post_job u g h flushed rest))

-- a twin is flushed
abbrev pub flush_job : Who → ℕ → ℕ → ℕ → Job → Job
flush_job u g h t rest = call (has_twin_script (node_of u) g) (λ twin. if twin then call (flush_script u.lay (node_of u) g h) (λ _. Mark (Count Flushes) (sent_job u g h t true rest)) else sent_job u g h t false rest)

abbrev pub send_job : Who → ℕ → ℕ → Job → Job
send_job u g h rest = call (draw_script (node_of u)) (λ t. if node_of u == h then sent_job u g h t false rest else flush_job u g h t rest)

-- where another processor of the node has flushed the page since time t0, this one need not
abbrev pub tell_job : Who → ℕ → ℕ → ℕ → Job → Job
tell_job u t0 g h rest = call (last_flush_script (node_of u) g) (λ last. if nat_lt t0 last then Mark (Count Early) (lower_job u g rest) else send_job u g h rest)

-- a page of the dirty set
abbrev pub release_page : Who → ℕ → ℕ → Job → Job
release_page u t0 g rest =
    take_job u (node_of u) g (call (my_dir_script (node_of u) g) (λ d. if d == 2 then done_job u g rest else call (find_home_script u.lay (node_of u) g) (λ h. tell_job u t0 g h (done_job u g rest))))

abbrev pub release_from : Who → ℕ → ℕ → ℕ → Job → Job
release_from u t0 g zero rest = rest
release_from u t0 g (suc k) rest = Ask (λ o. if is_dirty o g then release_page u t0 g (release_from u t0 (g + 1) k rest) else release_from u t0 (g + 1) k rest)

-- a release, and then the rest
abbrev pub release_job : Who → Job → Job
release_job u rest = call (draw_script (node_of u)) (λ t0. call (take_nle_script u.lay u.p) (λ set. Mark (Join set) (release_from u t0 0 u.lay.pages rest)))

-- Acquire work.

-- a page of which it was told and which it has mapped: where the copy is out of date, it is unmapped
abbrev pub unmap_job : Who → ℕ → Job → Job
unmap_job u g rest = map_job u g 0 (Mark (Count Unmaps) (call (leave_script u.lay (node_of u) g) (λ _. rest)))

abbrev pub check_job : Who → ℕ → Job → Job
check_job u g rest = call (stale_script (node_of u) g) (λ stale. if stale then unmap_job u g rest else rest)

abbrev pub acquire_page : Who → ℕ → Job → Job
acquire_page u g rest =
    take_job u (node_of u) g (call (my_dir_script (node_of u) g) (λ d. if d == 2 then give_job (node_of u) g rest else check_job u g (give_job (node_of u) g rest)))

abbrev pub acquire_from : Who → List ℕ → ℕ → ℕ → Job → Job
acquire_from u set g zero rest = Mark (Happen (Acquired u.p)) rest
acquire_from u set g (suc k) rest = Ask (λ o. if has_page set g && not (mapping o g == 0) then acquire_page u g (acquire_from u set (g + 1) k rest) else acquire_from u set (g + 1) k rest)

-- an acquire, and then the rest: the node's notices are drained, its own taken, and each taken page that it has mapped is looked at
abbrev pub acquire_job : Who → Job → Job
acquire_job u rest =
    call (take_script (Notices (node_of u)) u.p) (λ _. call (drain_script u.lay (node_of u)) (λ _. call (give_script (Notices (node_of u))) (λ _. call (take_own_script u.lay u.p) (λ set. acquire_from u set 0 u.lay.pages rest))))

-- The closing work of processor 0: each page that a node has alone is broken.
abbrev pub closing_page : Who → ℕ → Option ℕ → Job → Job
closing_page u g None rest = rest
closing_page u g (Some m) rest = within_turn u m g (λ k. call (find_home_script u.lay (node_of u) g) (λ h. break_job u m g h k)) rest

abbrev pub closing_from : Who → ℕ → ℕ → Job → Job
closing_from u g zero rest = rest
closing_from u g (suc k) rest = call (holder_script u.lay g) (λ m. closing_page u g m (closing_from u (g + 1) k rest))

abbrev pub closing_job : Who → Job → Job
closing_job u rest = if u.p == 0 then closing_from u 0 u.lay.pages rest else rest

-- the word of address w in the frames of its node
abbrev pub address_item : Who → ℕ → Item
address_item u w = frame_item u.lay (node_of u) w

-- Ends, locks, barriers and flags.

-- the number of the look is that of the last one allowed
abbrev pub is_last : Option ℕ → ℕ → Bool
is_last None k = false
is_last (Some last) k = k == last

-- the stop word was loaded: where another processor has stopped, it ends; else it looks again
abbrev pub heed_job : Head → ℕ → Job
heed_job again x = if x == 0 then Begin again else Ended (Stopped ((x - 1) % 2 ^ 32))

-- an object was not ready: this is counted, and where it was the last look allowed, it stops; else it loads the stop word
abbrev pub unready_job : Who → Head → Job
unready_job u again = Mark (Count Unready_looks) (Ask (λ o. if is_last u.limits.looks o.counts.unready then stop_job u Looked else Make (Get Stop) (heed_job again)))

-- it passes an object with this count
abbrev pub passes : Who → Obj → ℕ → Job → Job
passes u o c rest = Mark (Append (Pass o c)) (Mark (Happen (Passed u.p)) rest)

-- a try of lock l has found this
abbrev pub tried_job : Who → ℕ → Got → Job
tried_job u l (Ready c) = passes u (LockOf l) c (acquire_job u next_instruction)
tried_job u l Unready = unready_job u (Locking l)

-- lock l: it is tried until it is passed
abbrev pub lock_job : Who → ℕ → Job
lock_job u l = call (lock_script l) (tried_job u l)

-- unlock l: behind a release the lock is given back with the count of its open pass
abbrev pub free_job : ℕ → ℕ → Job
free_job l k = call (unlock_script l k) (λ _. Mark (Append (Signal (LockOf l) k)) next_instruction)

abbrev pub unlock_job : Who → ℕ → ℕ → Job
unlock_job u l k = release_job u (free_job l k)

-- the object whose word is looked at
abbrev pub object_of : Counter → Obj
object_of (Barrier b) = BarrierOf b
object_of (Flag f) = FlagOf f
object_of Close = CloseOf

-- behind the pass of a flag or a barrier the next instruction comes, and behind that of the closing barrier the end
abbrev pub passed_job : Who → Counter → Job
passed_job u (Barrier b) = acquire_job u next_instruction
passed_job u (Flag f) = acquire_job u next_instruction
passed_job u Close = closing_job u (Ended Halted)

-- a look at a barrier or a flag has found this
abbrev pub looked_job : Who → Counter → ℕ → Got → Job
looked_job u of need (Ready c) = passes u (object_of of) c (passed_job u of)
looked_job u of need Unready = unready_job u (Looking of need)

-- a barrier or a flag is looked at until it is passed
abbrev pub look_job : Who → Counter → ℕ → Job
look_job u of need = call (look_script of need) (looked_job u of need)

-- the arrivals that the round of arrival number a needs: all processors, once for it and for each round before it
abbrev pub need_of : Who → ℕ → ℕ
need_of u a = (a / processors u.lay + 1) * processors u.lay % 2 ^ 64

-- behind a release it arrives at a barrier or at the closing barrier, and waits for all
abbrev pub meet_job : Who → Counter → Job
meet_job u of = call (signal_script of) (λ a. Mark (Append (Signal (object_of of) a)) (Begin (Looking of (need_of u a))))

abbrev pub arrive_job : Who → Counter → Job
arrive_job u of = release_job u (meet_job u of)

-- set f: behind a release the flag is set once more
abbrev pub raise_job : ℕ → Job
raise_job f = call (signal_script (Flag f)) (λ j. Mark (Append (Signal (FlagOf f) j)) next_instruction)

abbrev pub set_job : Who → ℕ → Job
set_job u f = release_job u (raise_job f)

-- the load and the store themselves
abbrev pub load_job : Who → ℕ → ℕ → Job
load_job u d w = Make (Get (address_item u w)) (λ v. Mark (Append (Load w v)) (Mark (Give d v) (Begin Instruction)))

abbrev pub store_job : Who → ℕ → ℕ → Job
store_job u w v = Make (Put (address_item u w) v) (λ _. Mark (Append (Store w v)) next_instruction)

-- What each action does. One without synchronisation does one operation, a load of the stop word whose answer is not used.
abbrev pub action_job : Who → Own → Action → Job
action_job u o (Set d v) = Make (Get Stop) (λ _. Mark (Give d v) (Begin Instruction))
action_job u o (Jump to) = Make (Get Stop) (λ _. Mark (Go to) (Begin Instruction))
action_job u o (LoadWord d w) = access_job u o false w (load_job u d w)
action_job u o (StoreWord w v) = access_job u o true w (store_job u w v)
action_job u o (Print v) = Make (Get Stop) (λ _. Mark (Append (Out v)) next_instruction)
action_job u o (TakeLock l) = lock_job u l
action_job u o (GiveLock l k) = unlock_job u l k
action_job u o (Meet b) = arrive_job u (Barrier b)
action_job u o (RaiseFlag f) = set_job u f
action_job u o (WaitFlag f need) = look_job u (Flag f) need
action_job u o (Trap kind) = stop_job u (Trapped o.reader.place kind)
action_job u o Spend = stop_job u Spent
action_job u o Arrive = arrive_job u Close

-- what comes at a head: at the first, the action of the instruction at the reader's place
abbrev pub head_job : Who → List Instr → Head → Job
head_job u code Instruction = Ask (λ o. action_job u o (next_action code (setting_of u) o.reader))
head_job u code (Locking l) = lock_job u l
head_job u code (Looking of need) = look_job u of need

-- there was no memory for the next entry: in place of the next operation it tells all others to stop, and ends
abbrev pub starved_job : Who → Job
starved_job u = stop_job u NoMemory
