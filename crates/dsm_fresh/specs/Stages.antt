-- Where the three who work on a page's copy at a node stand: a fault, the holder of the node's notices, and a processor in an acquire.
use Rattle.std.specs.Prelude.{ℕ, Bool, true, false, ◌==◌, if◌then◌else◌}

-- A fault of processor q, which holds the turn of the node's copy: it has drawn the time t; the first operation of its fetch is made, when
-- e sends had ended; the last one is; the copy is stamped and the node is not yet exclusive; the page may be mapped. `enters` says that
-- this fetch is the copy of entering exclusive use.
pub data Work : Type 0 where
  Idle : Work
  Ready : (q t : ℕ) → Work
  Open : (q : ℕ) (enters : Bool) (t e : ℕ) → Work
  Copied : (q : ℕ) (enters : Bool) (t e : ℕ) → Work
  Entered : (q : ℕ) → Work
  Fetched : (q : ℕ) → Work

-- Who holds the turn of the node's notices: nothing is in hand; a notice is that stands for c sends; the time t is drawn for it; it is
-- noted, and the processors from j on are not flagged yet; or a notice of another sender of the page is in hand.
pub data Hand : Type 0 where
  Empty : Hand
  Found : (c : ℕ) → Hand
  Timed : (c t : ℕ) → Hand
  Flags : (j : ℕ) → Hand
  Other : (t : ℕ) → Hand

-- A processor in its acquire: none under way; before it looks for a notice of this sender; past it; past the turn of the notices; past
-- its own set, with the page still to be looked at or not.
pub data Stage : Type 0 where
  Rest : Stage
  Before : Stage
  Drained : Stage
  Given : Stage
  Taken : (listed : Bool) → Stage

-- a fault behind the first operation of its fetch, behind the last, and behind the stamp
abbrev pub opened : Bool → ℕ → Work → Work
opened a s (Ready q t) = Open q a t s
opened a s w = w

abbrev pub copied : Work → Work
copied (Open q a t e) = Copied q a t e
copied w = w

abbrev pub stamped : Work → Work
stamped (Copied q a t e) = if a then Entered q else Fetched q
stamped w = w

-- how many sends had ended when its fetch began, and the time that it drew
abbrev pub snap_of : Work → ℕ
snap_of (Open q a t e) = e
snap_of (Copied q a t e) = e
snap_of _ = 0

abbrev pub time_of : Work → ℕ
time_of (Ready q t) = t
time_of (Open q a t e) = t
time_of (Copied q a t e) = t
time_of _ = 0

-- a hand behind the drawing of a time
abbrev pub timed : ℕ → Hand → Hand
timed t (Found c) = Timed c t
timed t h = h

-- for how many sends the notice in hand stands, its time, and the next processor to flag
abbrev pub carried : Hand → ℕ
carried (Found c) = c
carried (Timed c t) = c
carried _ = 0

abbrev pub hand_time : Hand → ℕ
hand_time (Timed c t) = t
hand_time (Other t) = t
hand_time _ = 0

abbrev pub flag_at : Hand → ℕ
flag_at (Flags j) = j
flag_at _ = 0

-- a fetch is under way: its first operation is made, and its stamp is not
abbrev pub is_open : Work → Bool
is_open (Open q a t e) = true
is_open (Copied q a t e) = true
is_open _ = false

-- the copy of an Enter is under way, or done and the directory not yet told
abbrev pub is_entering : Work → Bool
is_entering (Open q a t e) = a
is_entering (Copied q a t e) = a
is_entering (Entered q) = true
is_entering _ = false

-- processor q is the one at work
abbrev pub is_worker : ℕ → Work → Bool
is_worker q Idle = false
is_worker q (Ready p t) = p == q
is_worker q (Open p a t e) = p == q
is_worker q (Copied p a t e) = p == q
is_worker q (Entered p) = p == q
is_worker q (Fetched p) = p == q
