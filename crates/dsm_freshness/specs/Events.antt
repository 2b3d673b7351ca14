-- What a row of the table is to one page's copy at node n, as sender m sees it: none of its events, or one.
use Rattle.std.specs.Prelude.{ℕ, ◌+◌, ◌*◌, ◌%◌, ◌==◌, ◌&&◌, ◌||◌, nat_lt, Bool, true, false, if◌then◌else◌, List, [], ◌∷◌, None}
use Rattle.dsm_words.specs.Pages.{group_of, has_page}
use Rattle.dsm_words.specs.Script.{Act}
use Rattle.dsm_protocol.specs.Own.{Who, node_of}
use Rattle.dsm_protocol.specs.Jobs.{Note}
use Rattle.dsm_protocol.specs.Stages.{Work}
use Rattle.dsm_protocol.specs.Rows.{Step, Slip, Noted, sees_dir, clears, registers, breaks, sees_again, claims, withdraws, draws_enter, stamps_enter, enters, judges, draws, stamps, sets, gives, draws_send, stamps_flush, reads_dir, posts, unlists, sees_acquire, judges_own, unmaps, leaves, draws_release, drains, draws_notice, notices, flags, gives_notices, takes, flagged, passed_over, passes, quits, acquired, begins_copy, begins_fill, fetched, filled, told}
use Rattle.dsm_fresh.specs.Pages.{Event, Reset, Register, Claim, Share, Leave, Draw, First, Last, Stamp, Enter, Current, Current_sole, Map, Done, Send, Pass_by, Post_bit, Tell, Break, Pass, Drain_none, Drain_some, Time, Notify, Flag, Flagged, Other_time, Other_notice, Other_flag, Give, Take, Skip, Unmap, Keep, Keep_sole, Settle, Tick}
use Rattle.dsm_freshness.specs.Views.{is_set}

-- an event, where this is so
abbrev pub only : Bool → Event → List Event
only c e = if c then e ∷ [] else []

module _ (m n g : ℕ) (u : Who) where
  -- it is a processor of node n, and of the sender's node
  abbrev pub is_own : Bool
  is_own = node_of u == n

  abbrev pub is_sender : Bool
  is_sender = node_of u == m

  -- the bit b of group k is the page's
  abbrev pub is_page : ℕ → ℕ → Bool
  is_page k b = k == group_of g && b == g % 64

  module _ {maps : List ℕ} {dirty : List Bool} where
    -- of an operation
    abbrev pub step_events : {w : Work} {a : Act} {x : ℕ} {v : Work} → Step u maps dirty w a x v → List Event
    step_events (sees_dir {g = h} {x = x}) = only (h == g && is_own && x == 2) (Current_sole u.p)
    step_events (clears {g = h}) = only (h == g && is_own) Reset
    step_events (registers {g = h}) = only (h == g && is_own) Register
    step_events (breaks {g = h} {j = j}) = if h == g then (if j == n then Share ∷ [] else only (j == m) Break) else []
    step_events (sees_again {g = h} {x = x}) = only (h == g && is_own && x == 2) (Current_sole u.p)
    step_events (claims {g = h}) = only (h == g && is_own) Claim
    step_events (withdraws {g = h}) = only (h == g && is_own) Share
    step_events (draws_enter {g = h}) = only is_own (if h == g then Draw u.p else Tick)
    step_events (stamps_enter {g = h}) = only (h == g && is_own) (Stamp u.p)
    step_events (enters {g = h}) = only (h == g && is_own) (Enter u.p)
    step_events (judges {g = h} {y = y} {x = x}) = if y == 0 || nat_lt y x then [] else only (h == g && is_own) (Current u.p)
    step_events (draws {g = h}) = only is_own (if h == g then Draw u.p else Tick)
    step_events (stamps {g = h}) = only (h == g && is_own) (Stamp u.p)
    step_events (sets {g = h}) = only (h == g && is_own) (Map u.p)
    step_events (gives {g = h}) = only (h == g && is_own) (Done u.p)
    step_events (draws_send {g = h}) = only is_own Tick
    step_events (stamps_flush {g = h} {h = home} {flushed = flushed}) = only (h == g && is_sender && (flushed || node_of u == home)) Send
    step_events (reads_dir {g = h} {j = j} {x = x}) = only (h == g && is_sender && j == n && x == 0) Pass_by
    step_events (posts {g = h} {j = j} v e) = only (h == g && is_sender && j == n) Post_bit
    step_events (unlists {g = h}) = only (h == g && is_own) Leave
    step_events (sees_acquire {g = h} {x = x}) = only (h == g && is_own && x == 2) (Keep_sole u.p)
    step_events (judges_own {g = h} {y = y} {x = x}) = if y == 0 || nat_lt y x then [] else only (h == g && is_own) (Keep u.p)
    step_events (unmaps {g = h}) = only (h == g && is_own) (Unmap u.p)
    step_events (leaves {g = h}) = only (h == g && is_own) Leave
    step_events draws_release = only is_own Tick
    step_events (drains {j = j} {k = k} {x = x}) = only (is_own && j == m && k == group_of g) (if is_set m n g x then Drain_some u.p else Drain_none u.p)
    step_events (draws_notice {j = j} {k = k} {b = b} e j_in page) = only is_own (if 64 * k + b == g then (if j == m && k == group_of g then Time else Other_time) else Tick)
    step_events (notices {j = j} {k = k} {b = b}) = only (is_own && 64 * k + b == g) (if j == m && k == group_of g then Notify else Other_notice)
    step_events (flags {j = j} {k = k} {b = b} {q = q} e lo hi) = only (is_own && is_page k b) (if j == m then Flag else Other_flag q)
    step_events gives_notices = only is_own (Give u.p)
    step_events (takes {k = k}) = only (is_own && k == group_of g) (Take u.p)
    step_events step = []

    -- of a decision
    abbrev pub slip_events : {w v : Work} → Slip u maps dirty w v → List Event
    slip_events (flagged {j = j} {k = k} {b = b}) = only (is_own && is_page k b && j == m) Flagged
    slip_events (passed_over {g = h} {set = set} e) = only (is_own && h == g && has_page set g) (Skip u.p)
    slip_events slip = []

  -- of a note
  abbrev pub note_events : {w : Work} {i : Note} {v : Work} → Noted u None w i v → List Event
  note_events (passes none) = only is_own (Pass u.p)
  note_events (quits none) = only is_own (Pass u.p)
  note_events acquired = only is_own (Settle u.p)
  note_events (begins_copy {g = h}) = only (h == g && is_own) (First u.p false)
  note_events (begins_fill {g = h}) = only (h == g && is_own) (First u.p true)
  note_events (fetched {g = h}) = only (h == g && is_own) (Last u.p)
  note_events (filled {g = h}) = only (h == g && is_own) (Last u.p)
  note_events (told {g = h} e) = only (h == g && is_sender) Tell
  note_events noted = []
