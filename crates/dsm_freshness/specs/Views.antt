-- What a processor's place in the table is to one page's copy at one node, as one sender sees it.
use Rattle.std.specs.Prelude.{ℕ, ◌+◌, ◌*◌, ◌%◌, ◌==◌, ◌&&◌, ◌||◌, nat_lt, nat_le, Bool, true, false, if◌then◌else◌, Option, None, Some}
use Rattle.std.specs.Int.{bit_at}
use Rattle.dsm_words.specs.Pages.{group_of, has_page}
use Rattle.dsm_protocol.specs.Own.{Who, node_of}
use Rattle.dsm_protocol.specs.Stages.{Part, Whole, First, Stage, Mapped, Entered, Filling, Filled, Compared, Opened, Copying, Copied, Current, Making, Setting, Soiling, Giving, Posting, Telling, Posted, Acquiring, Judging, Judged, Unmapping, Quitting, Passing, Draining, Hearing, Noticing, Flagging, Drained, Taking, Told, Closes, Holder, Closed, Work, Off, On}
use Rattle.dsm_fresh.specs.Stages as F

-- the fetch of processor q of the node, which began when e sends had ended: an enter's or not; before its first word, in it
abbrev pub fetch_view : ℕ → Bool → ℕ → ℕ → ℕ → Part → F.Work
fetch_view q enters e t i Whole = if i == 0 then F.Ready q t else F.Open q enters t e
fetch_view q enters e t i (First v) = F.Ready q t
fetch_view q enters e t i part = F.Open q enters t e

-- the work on the copy of processor q, which is at this stage of the page at its own node
abbrev pub work_view : ℕ → ℕ → Stage → F.Work
work_view q e (Mapped k s) = work_view q e s
work_view q e (Opened write h t) = F.Ready q t
work_view q e (Copying write h t twin i part) = fetch_view q false e t i part
work_view q e (Copied write h t) = F.Copied q false t e
work_view q e (Filling h t i part) = fetch_view q true e t i part
work_view q e (Filled t) = F.Copied q true t e
work_view q e Entered = F.Entered q
work_view q e (Current write h) = F.Fetched q
work_view q e (Making i part) = F.Fetched q
work_view q e (Setting write alone) = F.Fetched q
work_view q e Soiling = F.Fetched q
work_view q e Giving = F.Fetched q
work_view q e s = F.Idle

-- a page of the set in an acquire: still to be looked at, or not
abbrev pub is_unseen : Stage → Bool
is_unseen Acquiring = true
is_unseen Judging = true
is_unseen (Judged x) = true
is_unseen Unmapping = true
is_unseen s = false

-- sender m, node n, page g
module _ (m n g : ℕ) where
  -- its work on the copy
  abbrev pub work_of : Who → ℕ → Work → F.Work
  work_of u e (On r h s) = if h == g && node_of u == n then work_view u.p e s else F.Idle
  work_of u e w = F.Idle

  -- the bit of the page in the bits that are in a drainer's hand
  abbrev pub is_set : ℕ → Bool
  is_set bits = bit_at bits (g % 64) == 1

  -- the notice of the page that a drainer has in hand, which stands for c sends: bits of node j and group k, of which those below b are dealt with
  abbrev pub found_in : ℕ → ℕ → ℕ → ℕ → F.Hand
  found_in c j k bits = if j == m && k == group_of g && is_set bits then F.Found c else F.Empty

  abbrev pub hand_of : ℕ → Work → F.Hand
  hand_of c (Off (Hearing j k bits b)) = if nat_le b (g % 64) then found_in c j k bits else F.Empty
  hand_of c (Off (Noticing j k bits b t)) = if 64 * k + b == g then (if j == m && k == group_of g then F.Timed c t else F.Other t) else (if nat_le b (g % 64) then found_in c j k bits else F.Empty)
  hand_of c (Off (Flagging j k bits b q)) = if k == group_of g && b == g % 64 then (if j == m then F.Flags q else F.Empty) else (if nat_le b (g % 64) then found_in c j k bits else F.Empty)
  hand_of c w = F.Empty

  -- behind its pass: it has not yet looked for the sender's notice, or has
  abbrev pub looked : Bool → F.Stage
  looked true = F.Drained
  looked false = F.Before

  -- where it stands in its acquire
  abbrev pub acquire_view : Work → F.Stage
  acquire_view (Off Passing) = F.Before
  acquire_view (Off Quitting) = F.Before
  acquire_view (Off (Draining j k)) = looked (nat_lt m j || (m == j && nat_lt (group_of g) k))
  acquire_view (Off (Hearing j k bits b)) = looked (nat_lt m j || (m == j && nat_le (group_of g) k))
  acquire_view (Off (Noticing j k bits b t)) = looked (nat_lt m j || (m == j && nat_le (group_of g) k))
  acquire_view (Off (Flagging j k bits b q)) = looked (nat_lt m j || (m == j && nat_le (group_of g) k))
  acquire_view (Off Drained) = F.Drained
  acquire_view (Off (Taking k set)) = if nat_le k (group_of g) then F.Given else F.Taken (has_page set g)
  acquire_view (Off (Told set h)) = F.Taken (has_page set g && nat_le h g)
  acquire_view (On (Told set k) h s) = if h == g then F.Taken (is_unseen s) else F.Taken (has_page set g && nat_le k g)
  acquire_view (Off (Closes h j)) = F.Before
  acquire_view (Off (Holder h j)) = F.Before
  acquire_view (On (Holder k j) h s) = F.Before
  acquire_view (Off Closed) = F.Before
  acquire_view w = F.Rest

  -- a processor of the sender's node has dealt with node n since its send
  abbrev pub has_served : Who → Work → Bool
  has_served u (On r h (Posting home flushed j)) = h == g && node_of u == m && nat_lt n j
  has_served u (On r h (Telling home flushed j)) = h == g && node_of u == m && nat_lt n j
  has_served u (On r h (Posted home flushed)) = h == g && node_of u == m
  has_served u w = false

-- a stamp that was read under the turn of the copy, and still stands there
abbrev pub stamp_read : Stage → Option ℕ
stamp_read (Compared write h x) = Some x
stamp_read (Judged x) = Some x
stamp_read s = None
