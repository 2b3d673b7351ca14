-- What a row of the table is to one page's directory: none of its events, one, or two.
use Rattle.std.specs.Prelude.{ℕ, zero, suc, ◌+◌, ◌*◌, ◌==◌, ◌&&◌, ◌||◌, not, nat_lt, Bool, true, false, if◌then◌else◌, List, [], ◌∷◌}
use Rattle.dsm_words.specs.Pages.{group_of}
use Rattle.dsm_words.specs.Script.{Act}
use Rattle.dsm_clock.specs.declared.turns.TurnId.{TurnId}
use Rattle.dsm_directory.specs.declared.row.Row.{Row}
use Rattle.dsm_directory.specs.Directory.{is_busy}
use Rattle.dsm_protocol.specs.Own.{Who, node_of}
use Rattle.dsm_protocol.specs.Stages.{Cause, Fault, Closing, Seeker, For_fault, Visiting, Collecting, Work, Off, On}
use Rattle.dsm_protocol.specs.Rows.{Step, Wins, Slip, sees_dir, seeks, settles, clears, registers, shares, wants, parts, looks, marks, twins_broken, breaks, departs, sees_again, tests, claims, looks_again, withdraws, draws_enter, stamps_enter, enters, compares, judges, draws, stamps, has_twin, made, sets, gives, sees_release, lasts, tests_flush, stamps_flush, posts, lowers, drops, untwins, unlists, finishes, sees_acquire, judges_own, unmaps, empties, sees_bare, leaves, gives_over, collects, stops, faults, visits, returns, releases, hears, acquires, closes, shared, unwanted, marked, claimed, at_home, read_only, posted, unlowered, ends, forsaken}
use Rattle.dsm_owners.specs.Acts as A
use Rattle.dsm_owners.specs.Directory.{Event, Do, Touch, Mark}
use Rattle.dsm_ties.specs.Views.{why}

-- a busy node, where there is one below k
abbrev pub busy_below : ℕ → ℕ → ℕ
busy_below busy zero = 0
busy_below busy (suc k) = if is_busy busy k then k else busy_below busy k

module _ (u : Who) where
  abbrev pub does : A.Act → List Event
  does a = Do u.p a ∷ []

  -- the home is asked for
  abbrev pub seek_events : Seeker → ℕ → List Event
  seek_events (For_fault write d) x = if x == 0 then does (A.Find_none write d) else (if d == 0 then does (A.Find_new write) else does (A.Find_old write d))
  seek_events a x = []

  abbrev pub settle_events : Seeker → ℕ → List Event
  settle_events (For_fault write d) x = if x == 0 then Touch u.p write ∷ does (A.Find_late write) else does (A.Find_late write)
  settle_events a x = []

  -- a node's word is read: `own` says whether it is the own node
  abbrev pub share_events : Bool → ℕ → Bool → Row → ℕ → List Event
  share_events true x write row j = does (A.Share_own write j row.others (is_busy row.busy))
  share_events false x write row j =
      if x == 0 then does (A.Share_none write j row.others (is_busy row.busy)) else (if x == 1 then does (A.Share_one write j row.others (is_busy row.busy)) else does (A.Share_busy write j row.others (is_busy row.busy)))

  -- and read again: once another node was found, nothing more is looked for
  abbrev pub again_events : Bool → Bool → ℕ → ℕ → List Event
  again_events true own x j = []
  again_events false true x j = does (A.Look_own j)
  again_events false false x j = if x == 0 then does (A.Look_none j) else does (A.Look_some j)

  -- a visited node's turn is given back
  abbrev pub depart_act : Cause → ℕ → A.Act
  depart_act (Fault write h busy) j = A.Go_back write (is_busy busy) j
  depart_act Closing j = A.Close_end j

  abbrev pub set_act : Bool → Bool → A.Act
  set_act false alone = A.Set_read alone
  set_act true true = A.Set_sole
  set_act true false = A.Set_write

  -- a page is sent: by a flush, at its home, or it is not
  abbrev pub send_events : Bool → Bool → List Event
  send_events true home = does A.Send
  send_events false true = does A.Send_home
  send_events false false = []

  abbrev pub lowered_events : Bool → List Event
  lowered_events true = does (A.Drop_begin (node_of u * u.lay.procs))
  lowered_events false = does A.Lower_end

  -- the mapping of a processor of the node is read: once one may be written, or is there, nothing more is looked for
  abbrev pub drop_events : Bool → Bool → ℕ → ℕ → List Event
  drop_events true free x q = if x == 2 then does (A.Drop_two q (not free)) else (if x == 0 then does (A.Drop_zero q (not free)) else does (A.Drop_one q (not free)))
  drop_events false free x q = []

  abbrev pub empty_events : Bool → ℕ → ℕ → List Event
  empty_events true x q = if x == 0 then does (A.Empty_zero q) else does (A.Empty_some q)
  empty_events false x q = []

  -- all words of the nodes are read
  abbrev pub row_events : Bool → Row → List Event
  row_events write row =
      if row.busy == 0 then Do u.p (A.Free write u.lay.nodes row.others (is_busy row.busy)) ∷ (if write && not row.others then [] else does (A.Go_on write row.others))
      else does (A.Busy write u.lay.nodes row.others (is_busy row.busy) (busy_below row.busy row.busy))

  module _ {maps : List ℕ} {dirty : List Bool} where
    -- the events of an operation on its page,
    abbrev pub step_events : {w : Work} {a : Act} {x : ℕ} {v : Work} → Step u maps dirty w a x v → List Event
    step_events (sees_dir {x = x} {write = write}) = if x == 2 then does (A.See_sole write) else does (A.See write x)
    step_events (seeks {x = x} {a = a}) = seek_events a x
    step_events (settles {x = x} {a = a}) = settle_events a x
    step_events (clears {write = write}) = does (A.Clear write)
    step_events (registers {write = write}) = does (A.Register write)
    step_events (shares {j = j} {x = x} {write = write} {row = row}) = share_events (j == node_of u) x write row j
    step_events (wants {busy = busy} {write = write} e) = does (A.Want write (is_busy busy))
    step_events (parts {busy = busy} {write = write}) = does (A.Part write (is_busy busy))
    step_events (looks {j = j} {x = x} {c = c}) = if x == 2 then does (A.Look_sole (why c) j) else does (A.Look_on (why c) j)
    step_events (marks {j = j} {q = q} {c = c} lo hi) = Mark u.p q (why c) j ∷ []
    step_events (twins_broken {j = j} {c = c} e) = does (A.Twin_up (why c) j)
    step_events (breaks {j = j} {c = c}) = does (A.Break (why c) j)
    step_events (departs {j = j} {c = c}) = does (depart_act c j)
    step_events (sees_again {x = x} {write = write}) = if x == 2 then does (A.Back_sole write) else does (A.Back_on write)
    step_events (tests {x = x}) = if x == 1 then does A.Test_twin else does A.Test_none
    step_events claims = does A.Claim
    step_events (looks_again {j = j} {x = x} {row = row}) = again_events row.others (j == node_of u) x j
    step_events withdraws = does A.Withdraw
    step_events draws_enter = does A.Enter_first
    step_events stamps_enter = does A.Enter_stamp
    step_events enters = does A.Enter
    step_events (compares {x = x} {write = write} e) = does (A.Compare write (not (x == 0)))
    step_events (judges {y = y} {x = x} {write = write}) = if y == 0 || nat_lt y x then does (A.Stale write (not (y == 0))) else does (A.Current write)
    step_events (draws {write = write}) = does (A.First write)
    step_events (stamps {write = write}) = does (A.Stamp write)
    step_events (has_twin {x = x}) = if x == 1 then does A.Has_twin else does A.No_twin
    step_events made = does A.Make
    step_events (sets {write = write} {alone = alone}) = does (set_act write alone)
    step_events gives = does A.Give
    step_events (sees_release {x = x}) = if x == 2 then does A.Release_sole else does A.Release_on
    step_events (lasts {t0 = t0} {x = x}) = if nat_lt t0 x then does A.Coalesce else []
    step_events (tests_flush {x = x} e) = if x == 1 then does A.Flush else does A.Send_none
    step_events (stamps_flush {h = h} {flushed = flushed}) = send_events flushed (node_of u == h)
    step_events (posts {j = j} {flushed = flushed} v e) = does (A.Post flushed j)
    step_events (lowers {flushed = flushed} e) = Do u.p (A.Lower flushed) ∷ lowered_events flushed
    step_events (drops {q = q} {x = x} {unwritten = unwritten} {free = free} lo hi) = drop_events unwritten free x q
    step_events (untwins {free = true}) = does (A.Drop_last (node_of u * u.lay.procs + u.lay.procs))
    step_events (untwins {free = false}) = does (A.Drop_kept (node_of u * u.lay.procs + u.lay.procs))
    step_events unlists = does A.Unlist
    step_events finishes = does A.Finish
    step_events (sees_acquire {x = x}) = if x == 2 then does A.Acquire_sole else does A.Acquire_on
    step_events (judges_own {y = y} {x = x}) = if y == 0 || nat_lt y x then [] else does A.Acquire_keep
    step_events unmaps = does (A.Unmap (node_of u * u.lay.procs))
    step_events (empties {q = q} {x = x} {free = free} lo hi) = empty_events free x q
    step_events (sees_bare {x = x}) = if x == 0 then does (A.Empty_none (node_of u * u.lay.procs + u.lay.procs)) else does (A.Empty_twin (node_of u * u.lay.procs + u.lay.procs))
    step_events leaves = does A.Leave
    step_events gives_over = does A.Done
    step_events collects = does A.Collect
    step_events stops = does A.Stop
    step_events step = []

    -- of a turn that is won,
    abbrev pub win_events : {w : Work} {t : TurnId} {v : Work} → Wins u maps dirty w t v → List Event
    win_events (faults {write = write} e) = does (A.Take write)
    win_events (visits {busy = busy} {i = i} {write = write} j lo is none) = does (A.Visit write i (is_busy busy) j)
    win_events (returns {busy = busy} {i = i} {write = write} none) = does (A.Return write i (is_busy busy))
    win_events (releases e) = does A.Release
    win_events (acquires e) = does A.Acquire
    win_events (closes {j = j}) = does (A.Close j)
    win_events hears = []

    -- and of a decision with no operation
    abbrev pub slip_events : {w v : Work} → Slip u maps dirty w v → List Event
    slip_events (shared {write = write} {row = row}) = row_events write row
    slip_events (unwanted {busy = busy} {write = write} e) = does (A.Want_none write (is_busy busy))
    slip_events (marked {h = h} {j = j} {c = c}) = if j == h then does (A.Twin_home (why c) j) else []
    slip_events (claimed {h = h} {row = row}) = if row.others then [] else (if node_of u == h then does (A.Alone_home u.lay.nodes) else does (A.Alone u.lay.nodes))
    slip_events (at_home {write = write} e) = does (A.Ready_home write)
    slip_events read_only = does A.Read_ready
    slip_events (posted {flushed = flushed}) = does (A.Posted flushed)
    slip_events (unlowered {flushed = flushed} e) = Do u.p (A.Lower_none flushed) ∷ lowered_events flushed
    slip_events ends = does A.Stop
    slip_events forsaken = does A.Stop
    slip_events slip = []

  -- a processor that is starved in its visits of the page ends there
  abbrev pub starved_events : ℕ → Work → List Event
  starved_events g (On r h (Visiting write home busy i)) = if h == g then does (A.Stop_visit write i (is_busy busy)) else does A.Stop
  starved_events g w = does A.Stop

-- the place is on page g, or on none; a swap of another group's word takes no bit of page g
abbrev pub is_of : ℕ → Work → Bool
is_of g (On r h s) = h == g
is_of g (Off (Collecting t0 k set)) = k == group_of g
is_of g w = true

-- the events of page g: of a row, and of a decision, those of the page at which it begins; of a turn, those of the page to which it leads
abbrev pub events_at : ℕ → (u : Who) {maps : List ℕ} {dirty : List Bool} {w : Work} {a : Act} {x : ℕ} {v : Work} → Step u maps dirty w a x v → List Event
events_at g u {w = w} step = if is_of g w then step_events u step else []

abbrev pub won_at : ℕ → (u : Who) {maps : List ℕ} {dirty : List Bool} {w : Work} {t : TurnId} {v : Work} → Wins u maps dirty w t v → List Event
won_at g u {v = v} win = if is_of g v then win_events u win else []

abbrev pub slipped_at : ℕ → (u : Who) {maps : List ℕ} {dirty : List Bool} {w v : Work} → Slip u maps dirty w v → List Event
slipped_at g u {w = w} slip = if is_of g w then slip_events u slip else []
