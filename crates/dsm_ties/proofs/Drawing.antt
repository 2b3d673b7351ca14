-- What each row of the table does to the draws that are left of the instruction.
use Rattle.std.proofs.Common.{◌≡◌, ◌==◌, ◌&&◌, ◌||◌, not, ◌%◌, ℕ, zero, suc, ◌+◌, ◌-◌, ◌*◌, ◌<◌, ◌≤◌, Bool, true, false, List, Option, refl, ap, if◌then◌else◌, arith}
use Rattle.std.specs.Prelude.{nat_lt}
use Rattle.std.proofs.Math.Nat.{mul-le-mul_right}
use Rattle.std.proofs.lemmas.Bool.{ltb-true, ltb-false}
use Rattle.dsm_entry.specs.declared.entry.Entry.{Entry}
use Rattle.dsm_entry.specs.declared.entry.Entry.TheVariants.{Load, Store, Signal, Pass, Out}
use Rattle.dsm_entry.specs.declared.entry.Obj.TheVariants.{Lock as LockOf, Barrier as BarrierOf, Flag as FlagOf, Close as CloseOf}
use Rattle.dsm_words.specs.declared.item.Item.{Item}
use Rattle.dsm_words.specs.declared.item.Item.TheVariants.{Stop, Clock, Lock, Barrier, Flag, Close}
use Rattle.dsm_words.specs.Place.{IsWithin, groups}
use Rattle.dsm_words.specs.Pages.{pages_in}
use Rattle.dsm_words.specs.Script.{Act, Get, Put, Swap, Change, Add, Or, item_of}
use Rattle.dsm_clock.specs.declared.turns.TurnId.{TurnId}
use Rattle.dsm_clock.specs.declared.turns.TurnId.TheVariants.{Page, Notices}
use Rattle.dsm_clock.specs.Turns.{turn_item}
use Rattle.dsm_local.specs.declared.reader.Reader.{Reader}
use Rattle.dsm_protocol.specs.Own.{Own, Who, node_of, reader_after}
use Rattle.dsm_protocol.specs.Jobs.{Job, Note, Give, Go, Move, Append, Map_own, Soil, Clean, Join, Count, Happen, own_after}
use Rattle.dsm_protocol.specs.Processors.{Processor}
use Rattle.dsm_protocol.specs.Stages.{Cause, Fault, Closing, Seeker, For_fault, For_release, For_closing, Stage, Mapped, Seeking, Missing, Wanting, Looking, Breaking, Marking, Saving, Ending, Broken, Broadcast, Parted, Testing, Claiming, Withdrawing, Entering, Entered, Ready, Fetching, Copying, Current, Making, Setting, Soiling, Giving, Drawing, Timed, Flushing, Stamping, Posting, Telling, Lowering, Untwining, Unlisting, Done, Judging, Unmapping, Emptied, Leaving, Over, Whole, Differs, Round, Idle, Waiting, Signalling, Admitted, Passing, Access, Collecting, Releasing, Cleaning, Draining, Hearing, Noticing, Flagging, Closes, Holder, Work, Off, On, Gone, registered, found, held_alone, departed, lowered}
use Rattle.dsm_protocol.specs.Rows.{Step, loads, stores, sees_dir, seeks, settles, clears, registers, shares, wants, parts, looks, reads_map, marks, saves, saves_twin, saves_home, twins_broken, breaks, departs, sees_again, tests, claims, looks_again, withdraws, draws_enter, fills, fills_own, stamps_enter, enters, compares, judges, draws, sees_twin, copies, copies_over, merges, merges_own, merges_twin, stamps, has_twin, makes, makes_twin, made, sets, gives, sees_release, lasts, draws_send, tests_flush, flushes, flushes_same, flushes_twin, flushes_home, stamps_flush, reads_dir, posts, lowers, drops, untwins, unlists, finishes, sees_acquire, compares_own, judges_own, unmaps, empties, sees_bare, leaves, gives_over, draws_release, collects, drains, draws_notice, notices, flags, gives_notices, takes, seeks_holder, stops, Wins, faults, visits, returns, releases, hears, acquires, closes, Slip, accesses, waits, tells, finished, ends, forsaken, despairs, shared, unwanted, marked, claimed, at_home, read_only, flushed_all, unsent, posted, untold, unlowered, dropped, emptied, clean, released, unheard, heard, flagged, next_node, drained, taken, passed_over, closing, unclosing, unheld, closed, Noted, maps, soils, cleans, joins, appends_load, appends_store, signals, admits, arrives, dismisses, quits, goes, moves, passes, acquired, begins_copy, begins_fill, fetched, filled, broken, broadcast, sent, told, counts}
use Rattle.dsm_protocol.specs.Standing.{IsObject, IsAside, Path, Stay, Decides, Notes, Does, Row as By_row, Won, Lost, Aside, Moves, starts_from}
use Rattle.dsm_ties.specs.Clocks.{acquire_draws, most_draws, cause_draws, seeker_draws, stage_draws, notices_left, round_draws, behind_page, draws_left}

-- an operation on a clock takes one draw
abbrev pub item_draws : Item → ℕ
item_draws (Clock n) = 1
item_draws _ = 0

abbrev pub act_draws : Act → ℕ
act_draws a = item_draws (item_of a)

abbrev pub IsNoClock : Item → Type 0
IsNoClock (Clock n) = ⊥
IsNoClock _ = Unit {0}

-- on a clock it is a draw from that of its own node
abbrev pub IsDraw : Who → Act → Type 0
IsDraw u (Add (Clock n) k) = (n ≡ node_of u) × (k ≡ 1)
IsDraw u a = IsNoClock (item_of a)

-- a place behind another, where k draws were taken
abbrev Takes : Who → Work → ℕ → Work → Type 0
Takes u w k v = draws_left u v + k ≤ draws_left u w

same : (n : ℕ) → n ≤ n
same n = omega arith

none : (n : ℕ) → 0 ≤ n
none n = omega arith

either : (b : Bool) (s t : Stage) (n : ℕ) → stage_draws s ≤ n → stage_draws t ≤ n → stage_draws (if b then s else t) ≤ n
either true s t n h k = h
either false s t n h k = k

either_round : (u : Who) (b : Bool) (r q : Round) (n : ℕ) → round_draws u r + 0 ≤ n → round_draws u q + 0 ≤ n → round_draws u (if b then r else q) + 0 ≤ n
either_round u true r q n h k = h
either_round u false r q n h k = k

-- where stages of one page follow, the rest of the round stays
on_page : (m n b : ℕ) → m ≤ n → m + b + 0 ≤ n + b
on_page m n b h = omega arith

-- a number, or the number of pages where that is less
at_most : (g n : ℕ) → (if nat_lt g n then g else n) ≤ n
at_most g n = go (nat_lt g n) refl
  where
    go : (b : Bool) → nat_lt g n ≡ b → (if b then g else n) ≤ n
    go true h = let k = ltb-true g n h in omega arith
    go false h = omega arith

below : (g n : ℕ) → g ≤ n → (if nat_lt g n then g else n) ≡ g
below g n h = go (nat_lt g n) refl
  where
    go : (b : Bool) → nat_lt g n ≡ b → (if b then g else n) ≡ g
    go true is = refl
    go false is = let k = ltb-false g n is in omega (arith, k)

nearer : (g h n : ℕ) → g ≤ h → (if nat_lt g n then g else n) ≤ (if nat_lt h n then h else n)
nearer g h n k = go (nat_lt h n) refl
  where
    go : (b : Bool) → nat_lt h n ≡ b → (if nat_lt g n then g else n) ≤ (if b then h else n)
    go true is = let a = ltb-true h n is in let b = below g n (omega (arith, a)) in omega (arith, b)
    go false is = at_most g n

abbrev Lowers : Who → Work → Act → Work → Type 0
Lowers u w a v = Takes u w (act_draws a) v × IsDraw u a

-- where stages of one page follow, and a step is no draw
paged : (m n b : ℕ) → m ≤ n → (m + b + 0 ≤ n + b) × Unit {0}
paged m n b h = (on_page m n b h, tt)

found_draws : (u : Who) (a : Seeker) (h : ℕ) → stage_draws (found u a h) ≤ seeker_draws a
found_draws u (For_fault write d) h = go (d == 0)
  where
    go : (b : Bool) → stage_draws (registered write h b) ≤ 1
    go true = same 1
    go false = same 1
found_draws u For_release h = same 1
found_draws u (For_closing j) h = same 0

alone_draws : (u : Who) (c : Cause) (j : ℕ) → stage_draws (held_alone u c j) ≤ cause_draws c
alone_draws u (Fault write h busy) j = same 1
alone_draws u Closing j = same 0

departed_draws : (u : Who) (r : Round) (g : ℕ) (c : Cause) (j : ℕ) → Takes u (On r g (Parted c j)) 0 (departed r g c j)
departed_draws u r g (Fault write h busy) j = on_page 1 1 (behind_page u r) (same 1)
departed_draws u r g Closing j = none _

lowered_draws : (u : Who) (flushed : Bool) → stage_draws (lowered u flushed) ≤ 0
lowered_draws u true = same 0
lowered_draws u false = same 0

-- a draw on a page
on_draw : (m b : ℕ) → m ≤ 0 → m + b + 1 ≤ 1 + b
on_draw m b h = omega arith

stays : (n : ℕ) → n + 0 ≤ n
stays n = omega arith

begins_release : (m n : ℕ) → m + n + 1 ≤ n + m + 1
begins_release m n = omega arith

over_page : (n : ℕ) → n + 0 ≤ 0 + n
over_page n = omega arith

-- The notices that are left: fewer from a later page on,
further : (u : Who) (j g h : ℕ) → g ≤ h → notices_left u j h + 0 ≤ notices_left u j g
further u j g h k = let b = nearer g h u.lay.pages k in omega (arith, b)

some_times : (k n : ℕ) → 0 < k → n ≤ k * n
some_times k n h = let m : 1 * n ≤ k * n = mul-le-mul_right n h in omega arith

-- one fewer behind a page,
one_heard : (u : Who) (j g : ℕ) → j < u.lay.nodes → g < u.lay.pages → notices_left u j (g + 1) + 1 ≤ notices_left u j g
one_heard u j g h k =
    let a = below g u.lay.pages (omega arith) in
    let b = below (g + 1) u.lay.pages (omega arith) in
    let c = some_times (u.lay.nodes - j) u.lay.pages (omega arith) in
    omega (arith, a, b, c)

-- those of a node fewer behind it,
one_less : (b pages : ℕ) → (b - 1) * pages ≤ b * pages - pages
one_less zero pages = let e : (0 - 1) * pages ≡ 0 = omega arith in omega arith
one_less (suc b) pages = let e : suc b - 1 ≡ b = omega arith in let m : suc b * pages ≡ b * pages + pages = grind arith in rw e (omega arith)

next_heard : (u : Who) (j g : ℕ) → notices_left u (j + 1) (64 * 0) + 0 ≤ notices_left u j g
next_heard u j g =
    let a = at_most g u.lay.pages in
    let b = one_less (u.lay.nodes - j) u.lay.pages in
    let e : u.lay.nodes - (j + 1) ≡ u.lay.nodes - j - 1 = omega arith in
    let m : (u.lay.nodes - (j + 1)) * u.lay.pages ≡ (u.lay.nodes - j - 1) * u.lay.pages = ap (λ k. k * u.lay.pages) e in
    omega (arith, a, b)

-- and all at first
all_heard : (u : Who) → notices_left u 0 (64 * 0) + 0 ≤ acquire_draws u
all_heard u = let e : u.lay.nodes - 0 ≡ u.lay.nodes = omega arith in omega (arith, ap (λ k. k * u.lay.pages) e)

-- A row lowers them where it is a draw, and never raises them.
pub step_draws : (u : Who) {maps : List ℕ} {dirty : List Bool} {w : Work} {a : Act} {x : ℕ} {v : Work} → Step u maps dirty w a x v → Lowers u w a v
step_draws u (loads h) = (none _, tt)
step_draws u (stores h) = (none _, tt)
step_draws u (sees_dir {x = x} {write = write}) = paged _ _ _ (either (x == 2) (Setting write true) (Seeking (For_fault write x)) 1 (none 1) (same 1))
step_draws u (seeks {x = x} {a = a}) = paged _ _ _ (either (x == 0) (Missing a) (found u a ((x - 1) % u.lay.nodes)) (seeker_draws a) (same _) (found_draws u a _))
step_draws u (settles {x = x} {a = a}) = paged _ _ _ (found_draws u a (if x == 0 then node_of u else (x - 1) % u.lay.nodes))
step_draws u clears = paged _ _ _ (same 1)
step_draws u registers = paged _ _ _ (same 1)
step_draws u shares = paged _ _ _ (same 1)
step_draws u (wants h) = paged _ _ _ (same 1)
step_draws u parts = paged _ _ _ (same 1)
step_draws u (looks {j = j} {x = x} {c = c}) = paged _ _ _ (either (x == 2) (held_alone u c j) (Parted c j) (cause_draws c) (alone_draws u c j) (same _))
step_draws u (reads_map {h = h} {j = j} {q = q} {x = x} {c = c}) = paged _ _ _ (either (x == 2) (Marking c h j q) (Breaking c h j (q + 1)) (cause_draws c) (same _) (same _))
step_draws u (marks h k) = paged _ _ _ (same _)
step_draws u saves = paged _ _ _ (same _)
step_draws u saves_twin = paged _ _ _ (same _)
step_draws u saves_home = paged _ _ _ (same _)
step_draws u (twins_broken h) = paged _ _ _ (same _)
step_draws u breaks = paged _ _ _ (same _)
step_draws u (departs {r = r} {g = g} {j = j} {c = c}) = (departed_draws u r g c j, tt)
step_draws u (sees_again {h = h} {x = x} {write = write}) = paged _ _ _ (either (x == 2) (Setting write true) (Ready write h) 1 (none 1) (same 1))
step_draws u (tests {h = h} {x = x}) = paged _ _ _ (either (x == 1) (Ready true h) (Claiming h) 1 (same 1) (same 1))
step_draws u claims = paged _ _ _ (same 1)
step_draws u looks_again = paged _ _ _ (same 1)
step_draws u withdraws = paged _ _ _ (same 1)
step_draws u (draws_enter {r = r}) = (on_draw 0 (behind_page u r) (same 0), (refl, refl))
step_draws u fills = paged _ _ _ (same 0)
step_draws u fills_own = paged _ _ _ (same 0)
step_draws u stamps_enter = paged _ _ _ (same 0)
step_draws u enters = paged _ _ _ (same 0)
step_draws u (compares h) = paged _ _ _ (same 1)
step_draws u (judges {h = h} {y = y} {x = x} {write = write}) = paged _ _ _ (either (y == 0 || nat_lt y x) (Fetching write h) (Current write h) 1 (same 1) (none 1))
step_draws u (draws {r = r}) = (on_draw 0 (behind_page u r) (same 0), (refl, refl))
step_draws u sees_twin = paged _ _ _ (same 0)
step_draws u copies = paged _ _ _ (same 0)
step_draws u copies_over = paged _ _ _ (same 0)
step_draws u (merges {h = h} {t = t} {i = i} {v = v} {x = x} {write = write}) = paged _ _ _ (either (v == x) (Copying write h t true (i + 1) Whole) (Copying write h t true i (Differs v)) 0 (same 0) (same 0))
step_draws u merges_own = paged _ _ _ (same 0)
step_draws u merges_twin = paged _ _ _ (same 0)
step_draws u stamps = paged _ _ _ (same 0)
step_draws u (has_twin {x = x}) = paged _ _ _ (either (x == 1) (Setting true false) (Making 0 Whole) 0 (same 0) (same 0))
step_draws u makes = paged _ _ _ (same 0)
step_draws u makes_twin = paged _ _ _ (same 0)
step_draws u made = paged _ _ _ (same 0)
step_draws u (sets {write = write} {alone = alone}) = paged _ _ _ (either (write && not alone) Soiling Giving 0 (same 0) (same 0))
step_draws u gives = (none _, tt)
step_draws u (sees_release {x = x}) = paged _ _ _ (either (x == 2) Done (Seeking For_release) 1 (none 1) (same 1))
step_draws u (lasts {t0 = t0} {h = h} {x = x}) = paged _ _ _ (either (nat_lt t0 x) (Lowering false) (Drawing h) 1 (none 1) (same 1))
step_draws u (draws_send {r = r} {h = h} {x = x}) = (on_draw (stage_draws (if node_of u == h then Stamping h x false else Timed h x)) (behind_page u r) (either (node_of u == h) (Stamping h x false) (Timed h x) 0 (same 0) (same 0)), (refl, refl))
step_draws u (tests_flush {h = h} {t = t} {x = x} k) = paged _ _ _ (either (x == 1) (Flushing h t 0 Whole) (Stamping h t false) 0 (same 0) (same 0))
step_draws u flushes = paged _ _ _ (same 0)
step_draws u (flushes_same {h = h} {t = t} {i = i} {v = v} {x = x}) = paged _ _ _ (either (v == x) (Flushing h t (i + 1) Whole) (Flushing h t i (Differs v)) 0 (same 0) (same 0))
step_draws u flushes_twin = paged _ _ _ (same 0)
step_draws u flushes_home = paged _ _ _ (same 0)
step_draws u stamps_flush = paged _ _ _ (same 0)
step_draws u (reads_dir {h = h} {j = j} {x = x} {flushed = flushed}) = paged _ _ _ (either (x == 0 || j == node_of u || j == h) (Posting h flushed (j + 1)) (Telling h flushed j) 0 (same 0) (same 0))
step_draws u (posts v h) = paged _ _ _ (same 0)
step_draws u (lowers {flushed = flushed} h) = paged _ _ _ (lowered_draws u flushed)
step_draws u (drops h k) = paged _ _ _ (same 0)
step_draws u (untwins {free = free}) = paged _ _ _ (either free Unlisting Done 0 (same 0) (same 0))
step_draws u unlists = paged _ _ _ (same 0)
step_draws u finishes = (over_page _, tt)
step_draws u (sees_acquire {x = x}) = paged _ _ _ (either (x == 2) Over Judging 0 (same 0) (same 0))
step_draws u compares_own = paged _ _ _ (same 0)
step_draws u (judges_own {y = y} {x = x}) = paged _ _ _ (either (y == 0 || nat_lt y x) Unmapping Over 0 (same 0) (same 0))
step_draws u unmaps = paged _ _ _ (same 0)
step_draws u (empties h k) = paged _ _ _ (same 0)
step_draws u (sees_bare {x = x}) = paged _ _ _ (either (x == 0) Leaving Over 0 (same 0) (same 0))
step_draws u leaves = paged _ _ _ (same 0)
step_draws u gives_over = (none _, tt)
step_draws u draws_release = (begins_release u.lay.pages (acquire_draws u), (refl, refl))
step_draws u collects = (stays _, tt)
step_draws u (drains {j = j} {k = k}) = (further u j (64 * k) (64 * k + 0) (omega arith), tt)
step_draws u (draws_notice {j = j} {k = k} {b = b} h m n) = (one_heard u j (64 * k + b) m n, (refl, refl))
step_draws u notices = (stays _, tt)
step_draws u (flags h k l) = (stays _, tt)
step_draws u gives_notices = (none _, tt)
step_draws u takes = (none _, tt)
step_draws u (seeks_holder {g = g} {j = j} {x = x}) = (either_round u (x == 2) (Holder g j) (Closes g (j + 1)) 0 (same 0) (same 0), tt)
step_draws u stops = (none _, tt)

-- nor does a turn that is won
pub wins_draws : (u : Who) {maps : List ℕ} {dirty : List Bool} {w v : Work} {turn : TurnId} → IsWithin u.lay (turn_item turn) → Wins u maps dirty w turn v → Takes u w 0 v
wins_draws u w_in (faults h) = same 1
wins_draws u w_in (visits {r = r} j h k l) = on_page _ _ (behind_page u r) (same 1)
wins_draws u w_in (returns {r = r} h) = on_page _ _ (behind_page u r) (same 1)
wins_draws u w_in (releases {g = g} h) = let g_in : g < u.lay.pages = w_in.1 in omega arith
wins_draws u w_in hears = all_heard u
wins_draws u w_in (acquires h) = none _
wins_draws u w_in closes = none _

-- nor a decision
pub slip_draws : (u : Who) {maps : List ℕ} {dirty : List Bool} {w v : Work} → Slip u maps dirty w v → Takes u w 0 v
slip_draws u accesses = omega arith
slip_draws u waits = omega arith
slip_draws u tells = none _
slip_draws u finished = none _
slip_draws u ends = none _
slip_draws u forsaken = none _
slip_draws u despairs = none _
slip_draws u (shared {r = r} {h = h} {write = write} {row = row}) = on_page _ _ (behind_page u r) (either (row.busy == 0) (if write && not row.others then Testing h else Ready write h) (Wanting write h row.busy) 1 (either (write && not row.others) (Testing h) (Ready write h) 1 (same 1) (same 1)) (same 1))
slip_draws u (unwanted {r = r} h) = on_page _ _ (behind_page u r) (same 1)
slip_draws u (marked {r = r} {h = h} {j = j} {c = c}) = on_page _ _ (behind_page u r) (either (j == h) (Ending c j) (Saving c h j 0 Whole) (cause_draws c) (same _) (same _))
slip_draws u (claimed {r = r} {h = h} {row = row}) = on_page _ _ (behind_page u r) (either row.others (Withdrawing h) (if node_of u == h then Entered else Entering h) 1 (same 1) (either (node_of u == h) Entered (Entering h) 1 (none 1) (same 1)))
slip_draws u (at_home {r = r} h) = on_page _ _ (behind_page u r) (none 1)
slip_draws u (read_only {r = r}) = on_page _ _ (behind_page u r) (same 0)
slip_draws u (flushed_all {r = r}) = on_page _ _ (behind_page u r) (same 0)
slip_draws u (unsent {r = r} h) = on_page _ _ (behind_page u r) (same 0)
slip_draws u (posted {r = r}) = on_page _ _ (behind_page u r) (same 0)
slip_draws u (untold {r = r} h) = on_page _ _ (behind_page u r) (same 0)
slip_draws u (unlowered {r = r} {flushed = flushed} h) = on_page _ _ (behind_page u r) (lowered_draws u flushed)
slip_draws u (dropped {r = r} {unwritten = unwritten} {free = free}) = on_page _ _ (behind_page u r) (either unwritten (Untwining free) Done 0 (same 0) (same 0))
slip_draws u (emptied {r = r} {free = free}) = on_page _ _ (behind_page u r) (either free Emptied Over 0 (same 0) (same 0))
slip_draws u (clean h) = omega arith
slip_draws u released = omega arith
slip_draws u (unheard {j = j} {k = k} {b = b} h) = further u j (64 * k + b) (64 * k + (b + 1)) (omega arith)
slip_draws u (heard {j = j} {k = k}) = further u j (64 * k + pages_in u.lay k) (64 * (k + 1)) (omega arith)
slip_draws u (flagged {j = j} {k = k} {b = b}) = further u j (64 * k + b + 1) (64 * k + (b + 1)) (omega arith)
slip_draws u (next_node {j = j}) = next_heard u j (64 * groups u.lay)
slip_draws u drained = none _
slip_draws u taken = none _
slip_draws u (passed_over h) = none _
slip_draws u (closing h) = none _
slip_draws u (unclosing h) = none _
slip_draws u unheld = none _
slip_draws u closed = none _

-- What a note leaves of the instructions that are done: none fewer.
abbrev done_of : Own → ℕ
done_of o = o.reader.done

entry_done : (e : Entry) (r : Reader) → r.done ≤ (reader_after e r).done
entry_done (Load w v) r = same _
entry_done (Store w v) r = same _
entry_done (Out v) r = same _
entry_done (Signal (LockOf l) k) r = same _
entry_done (Signal (BarrierOf b) k) r = same _
entry_done (Signal (FlagOf f) k) r = same _
entry_done (Signal CloseOf k) r = same _
entry_done (Pass (LockOf l) k) r = same _
entry_done (Pass (BarrierOf b) k) r = same _
entry_done (Pass (FlagOf f) k) r = same _
entry_done (Pass CloseOf k) r = same _

note_done : (o : Own) (n : Note) → done_of o ≤ done_of (own_after o n)
note_done o (Give d v) = omega arith
note_done o (Go to) = omega arith
note_done o Move = omega arith
note_done o (Append e) = entry_done e o.reader
note_done o (Map_own g k) = same _
note_done o (Soil g) = same _
note_done o (Clean g) = same _
note_done o (Join set) = same _
note_done o (Count t) = same _
note_done o (Happen d) = same _

-- from w with o to v with p, no more draws are left than those of the instructions that were done between
abbrev Spends : Who → Work → Own → ℕ → Work → Own → Type 0
Spends u w o k v p = draws_left u v + k + done_of o * most_draws u ≤ draws_left u w + done_of p * most_draws u

grows : (a b most : ℕ) → a ≤ b → a * most ≤ b * most
grows a b most h = mul-le-mul_right most h

plainly : (m n d e most : ℕ) → m ≤ n → d ≤ e → m + 0 + d * most ≤ n + e * most
plainly m n d e most h k = let j = grows d e most k in omega (arith, j)

-- the instruction is done, and the draws of the next are before it
anew : (d most : ℕ) → most + 0 + d * most ≤ 0 + (d + 1) * most
anew d most = let e : (d + 1) * most ≡ d * most + most = grind arith in omega arith

pub note_draws : (u : Who) (o : Own) {rest : Option Job} {w v : Work} {n : Note} → Noted u rest w n v → Spends u w o 0 v (own_after o n)
note_draws u o maps = plainly _ _ _ _ (most_draws u) (same _) (same _)
note_draws u o soils = plainly _ _ _ _ (most_draws u) (same _) (same _)
note_draws u o cleans = plainly _ _ _ _ (most_draws u) (same _) (same _)
note_draws u o joins = plainly _ _ _ _ (most_draws u) (let h : u.lay.pages - 0 + acquire_draws u ≤ u.lay.pages + acquire_draws u = omega arith in h) (same _)
note_draws u o (appends_load h) = plainly _ _ _ _ (most_draws u) (same 0) (same _)
note_draws u o (appends_store h) = plainly _ _ _ _ (most_draws u) (same 0) (same _)
note_draws u o (signals {of = of} {j = j} h other) = plainly _ _ _ _ (most_draws u) (same _) (note_done o (Append (Signal of j)))
note_draws u o (admits {of = of} {c = c} h other) = plainly _ _ _ _ (most_draws u) (same _) (note_done o (Append (Pass of c)))
note_draws u o (arrives h) = plainly _ _ _ _ (most_draws u) (none _) (same _)
note_draws u o (dismisses h) = plainly _ _ _ _ (most_draws u) (same _) (same _)
note_draws u o (quits h) = plainly _ _ _ _ (most_draws u) (same _) (same _)
note_draws u o (gives h) = anew (done_of o) (most_draws u)
note_draws u o (goes h) = anew (done_of o) (most_draws u)
note_draws u o (moves h) = anew (done_of o) (most_draws u)
note_draws u o (passes h) = plainly _ _ _ _ (most_draws u) (same _) (same _)
note_draws u o acquired = plainly _ _ _ _ (most_draws u) (same 0) (same _)
note_draws u o begins_copy = plainly _ _ _ _ (most_draws u) (same _) (same _)
note_draws u o begins_fill = plainly _ _ _ _ (most_draws u) (same _) (same _)
note_draws u o fetched = plainly _ _ _ _ (most_draws u) (same _) (same _)
note_draws u o filled = plainly _ _ _ _ (most_draws u) (same _) (same _)
note_draws u o broken = plainly _ _ _ _ (most_draws u) (same _) (same _)
note_draws u o broadcast = plainly _ _ _ _ (most_draws u) (same _) (same _)
note_draws u o (sent h) = plainly _ _ _ _ (most_draws u) (same _) (same _)
note_draws u o (told h) = plainly _ _ _ _ (most_draws u) (same _) (same _)
note_draws u o (counts {n = n} h) = plainly _ _ _ _ (most_draws u) (same _) (note_done o n)

pub path_draws : (u : Who) {w v : Work} {o p : Own} → Path u w o v p → Spends u w o 0 v p
path_draws u Stay = omega arith
path_draws u (Decides {w} {w'} {v} {o} {p} slip path) = let a = slip_draws u slip in let b = path_draws u path in omega (arith, a, b)
path_draws u (Notes {w} {w'} {v} {o} {p} n note path) = let a = note_draws u o note in let b = path_draws u path in omega (arith, a, b)

-- an operation aside takes none
aside_item : (it : Item) → IsObject it → (item_draws it ≡ 0) × IsNoClock it
aside_item (Lock l) h = (refl, tt)
aside_item (Barrier b) h = (refl, tt)
aside_item (Flag f) h = (refl, tt)
aside_item Close h = (refl, tt)
aside_item it h = absurd h

aside_draws : (u : Who) (a : Act) → IsAside a → (act_draws a ≡ 0) × IsDraw u a
aside_draws u (Get Stop) h = (refl, tt)
aside_draws u (Get it) h = aside_item it h
aside_draws u (Put it v) h = aside_item it h
aside_draws u (Swap it v) h = aside_item it h
aside_draws u (Change it old new) h = aside_item it h
aside_draws u (Add (Clock n) k) h = absurd h
aside_draws u (Add it k) h = aside_item it h
aside_draws u (Or it bits) h = aside_item it h

-- nor a try of a turn
pub turn_draws : (turn : TurnId) → (item_draws (turn_item turn) ≡ 0) × IsNoClock (turn_item turn)
turn_draws (Page n g) = (refl, tt)
turn_draws (Notices n) = (refl, tt)

pub does_draws : (u : Who) {o : Own} {w : Work} {a : Act} {x : ℕ} {v : Work} → Does u o w a x v → Lowers u w a v
does_draws u (By_row w_in step) = step_draws u step
does_draws u (Won turn w_in wins is) = let h = wins_draws u w_in wins in let t = turn_draws turn in (omega (arith, h, t.0), t.1)
does_draws u (Lost turn w_in wins is) = let t = turn_draws turn in (omega (arith, t.0), t.1)
does_draws u (Aside {a = a} may aside) = let t = aside_draws u a aside in (omega (arith, t.0), t.1)

-- An event leads to a place with no more draws left than before, those that it takes added; but an instruction that it ends gives those of the next.
pub moves_draws : (u : Who) {w v : Work} {o : Own} {a : Act} {x : ℕ} {m : Processor} → Moves u w o a x v m → Spends u w o (act_draws a) v m.own
moves_draws u {w} {v} {o} {a} {x} {m} h =
    let b = path_draws u h.before in
    let d = does_draws u h.row in
    let c = path_draws u h.behind in
    omega (arith, b, d.0, c)

-- Nowhere are more left than an instruction may make.
cause_most : (c : Cause) → cause_draws c ≤ 1
cause_most (Fault write h busy) = same 1
cause_most Closing = none 1

seeker_most : (a : Seeker) → seeker_draws a ≤ 1
seeker_most (For_fault write d) = same 1
seeker_most For_release = same 1
seeker_most (For_closing j) = none 1

stage_most : (s : Stage) → stage_draws s ≤ 1
stage_most (Mapped k s) = stage_most s
stage_most (Seeking a) = seeker_most a
stage_most (Missing a) = seeker_most a
stage_most (Looking c j) = cause_most c
stage_most (Breaking c h j q) = cause_most c
stage_most (Marking c h j q) = cause_most c
stage_most (Saving c h j i part) = cause_most c
stage_most (Ending c j) = cause_most c
stage_most (Broken c j) = cause_most c
stage_most (Broadcast c j) = cause_most c
stage_most (Parted c j) = cause_most c
stage_most s = omega arith

notices_most : (u : Who) (j g : ℕ) → notices_left u j g ≤ acquire_draws u
notices_most u j g =
    let h : u.lay.nodes - j ≤ u.lay.nodes = omega arith in
    let k : (u.lay.nodes - j) * u.lay.pages ≤ u.lay.nodes * u.lay.pages = mul-le-mul_right u.lay.pages h in
    omega arith

round_most : (u : Who) (r : Round) → round_draws u r ≤ most_draws u
round_most u Idle = same _
round_most u Waiting = omega arith
round_most u (Signalling t0) = omega arith
round_most u Admitted = omega arith
round_most u Passing = omega arith
round_most u (Access true write a) = none _
round_most u (Access false write a) = omega arith
round_most u (Collecting t0 k set) = omega arith
round_most u (Releasing t0 g) = omega arith
round_most u (Cleaning t0 g) = omega arith
round_most u (Draining j k) = let h = notices_most u j (64 * k) in omega (arith, h)
round_most u (Hearing j k bits b) = let h = notices_most u j (64 * k + b) in omega (arith, h)
round_most u (Noticing j k bits b t) = let h = notices_most u j (64 * k + b + 1) in omega (arith, h)
round_most u (Flagging j k bits b q) = let h = notices_most u j (64 * k + b + 1) in omega (arith, h)
round_most u r = none _

behind_most : (u : Who) (r : Round) → behind_page u r ≤ u.lay.pages + acquire_draws u
behind_most u (Releasing t0 g) = omega arith
behind_most u r = none _

pub most_left : (u : Who) (w : Work) → draws_left u w ≤ most_draws u
most_left u (Off r) = round_most u r
most_left u (On r g s) = let a = stage_most s in let b = behind_most u r in omega (arith, a, b)
most_left u Gone = none _

-- a processor that is starved has none left
pub starts_draws : (u : Who) (starved : Bool) (w : Work) → draws_left u (starts_from starved w) ≤ draws_left u w
starts_draws u true w = none _
starts_draws u false w = same _
