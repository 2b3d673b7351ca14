-- What is asked of the list of what happened, and the reason for which it is asked.
use Rattle.std.specs.Prelude.{◌≡◌, ◌≢◌, ◌⊎◌, ℕ, ◌≤◌, ◌<◌, Bool, true, false, List, [], ◌∷◌}
use Rattle.dsm_fresh.specs.Stages.{Idle, Ready, Open, Copied, Entered, Fetched, Empty, Found, Timed, Flags, Other, Rest, Before, Drained, Given, Taken, is_open, is_entering, is_worker}
use Rattle.dsm_fresh.specs.Pages.{Page, State, Event, Reset, Register, Claim, Share, Leave, Draw, First, Last, Stamp, Enter, Current, Current_sole, Map, Done, Send, Pass_by, Post_bit, Tell, Break, Pass, Drain_none, Drain_some, Time, Notify, Flag, Flagged, Other_time, Other_notice, Other_flag, Give, Take, Skip, Unmap, Keep, Keep_sole, Settle, Tick, happens}

-- the node neither has the page alone nor is copying it to have it alone
abbrev pub IsNotSole : Page → Type 0
IsNotSole g = (g.dir ≢ 2) × (is_entering g.work ≡ false)

-- nothing of the page is in use at the node, and the next use begins with a fetch that has not begun
abbrev pub IsUnfetched : Page → Type 0
IsUnfetched g = (is_open g.work ≡ false) × ((g.dir ≡ 0) ⊎ (g.update ≡ 0))

-- The node's processors are those from `first` on and below `top`.
module _ (first top : ℕ) where
  -- processor q is of the node
  abbrev pub IsOf : ℕ → Type 0
  IsOf q = (first ≤ q) × (q < top)

  -- it may fault: it is in no acquire, and it takes the turn of the node's copy, which is held by one at a time
  abbrev pub MayFault : State → ℕ → Type 0
  MayFault s q = IsOf q × ((s.processors q).stage ≡ Rest) × (s.page.work ≡ Idle)

  -- what is asked of an event, and why
  abbrev pub May : State → Event → Type 0
  -- the stamp is cleared only where the node is unregistered: else a mapped copy would count as none
  May s Reset = s.page.dir ≡ 0
  -- a node registers only with the stamp cleared: its old copy has missed what was sent meanwhile
  May s Register = s.page.update ≡ 0
  -- only a registered node claims or is shared again: who gets registered must clear its stamp
  May s Claim = s.page.dir ≢ 0
  May s Share = s.page.dir ≢ 0
  -- a node leaves where no fault is under way and no processor maps the page: from then on it is passed by
  May s Leave = (s.page.work ≡ Idle) × ((q : ℕ) → IsOf q → (s.processors q).mapped ≡ false)
  -- a fetch begins on a registered node: else sends pass it by while it copies
  May s (Draw q) = MayFault s q × (s.page.dir ≢ 0)
  -- a fetch draws its time before it copies, and stamps the copy with that time behind it: what is sent meanwhile has a later one
  May s (First q a) = (t : ℕ) × (s.page.work ≡ Ready q t)
  May s (Last q) = (a : Bool) × (t : ℕ) × (e : ℕ) × (s.page.work ≡ Open q a t e)
  May s (Stamp q) = (a : Bool) × (t : ℕ) × (e : ℕ) × (s.page.work ≡ Copied q a t e)
  -- a node is exclusive only behind its copy
  May s (Enter q) = s.page.work ≡ Entered q
  -- a copy is current where there is one on a registered node and its stamp is not older than the last notice
  May s (Current q) = MayFault s q × (s.page.dir ≢ 0) × (s.page.update ≢ 0) × (s.page.notice ≤ s.page.update)
  -- or where the node is exclusive: then nobody sends
  May s (Current_sole q) = MayFault s q × (s.page.dir ≡ 2)
  -- a page is mapped only where its copy was found current or was fetched
  May s (Map q) = s.page.work ≡ Fetched q
  May s (Done q) = s.page.work ≡ Fetched q
  -- nobody sends while the node is exclusive or entering: it hears of no send
  May s Send = IsNotSole s.page
  -- only a node that does not use the page is passed by
  May s Pass_by = s.page.dir ≡ 0
  -- a notice may be posted at any time, also without a send
  May s Post_bit = Unit {0}
  -- a send is told only when the node was dealt with
  May s Tell = s.page.served ≡ true
  -- at a break of the sender nothing of the page is in use at the node, so that it needs no notice
  May s Break = IsUnfetched s.page
  -- a processor passes when its last acquire is over, and not within a fault
  May s (Pass q) = ((s.processors q).stage ≡ Rest) × (is_worker q s.page.work ≡ false)
  -- behind its pass it looks for a notice of the sender, under the turn of the notices: what another one has taken is dealt with then
  May s (Drain_none q) = ((s.processors q).stage ≡ Before) × (s.page.bit ≡ false) × (s.page.hand ≡ Empty)
  May s (Drain_some q) = ((s.processors q).stage ≡ Before) × (s.page.bit ≡ true) × (s.page.hand ≡ Empty)
  -- the time of a notice is drawn behind the taking of its bit: a fetch that draws a later one begins behind the send
  May s Time = (c : ℕ) × (s.page.hand ≡ Found c)
  -- and stored under the same turn of the notices, so that they rise
  May s Notify = (c : ℕ) × (t : ℕ) × (s.page.hand ≡ Timed c t)
  -- then each processor of the node is flagged,
  May s Flag = (j : ℕ) × (s.page.hand ≡ Flags j)
  -- and the notice is dealt with when all are
  May s Flagged = (j : ℕ) × (s.page.hand ≡ Flags j) × (top ≤ j)
  -- notices of other senders use the same words, and the same turn
  May s Other_time = s.page.hand ≡ Empty
  May s Other_notice = (t : ℕ) × (s.page.hand ≡ Other t)
  May s (Other_flag q) = Unit {0}
  -- the turn of the notices is given when nothing is in hand any more
  May s (Give q) = ((s.processors q).stage ≡ Drained) × (s.page.hand ≡ Empty)
  -- only then a processor takes its own set: else a notice that another one has in hand is missed
  May s (Take q) = (s.processors q).stage ≡ Given
  -- a page of the set that is not mapped needs nothing
  May s (Skip q) = (b : Bool) × ((s.processors q).stage ≡ Taken b) × ((s.processors q).mapped ≡ false)
  -- one that is mapped may be unmapped
  May s (Unmap q) = (b : Bool) × ((s.processors q).stage ≡ Taken b)
  -- or kept, where no fault is under way and the copy is current: the same comparison, without a look at 0
  May s (Keep q) = (b : Bool) × ((s.processors q).stage ≡ Taken b) × (s.page.work ≡ Idle) × (s.page.notice ≤ s.page.update)
  -- or where the node is exclusive
  May s (Keep_sole q) = (b : Bool) × ((s.processors q).stage ≡ Taken b) × (s.page.dir ≡ 2)
  -- the acquire is over when the page was looked at, if it was in the set
  May s (Settle q) = (s.processors q).stage ≡ Taken false
  -- times of the clock are drawn for other pages at any time
  May s Tick = Unit {0}

  -- each event of the list, oldest first, meets its premise
  abbrev pub Runs : State → List Event → Type 0
  Runs s [] = Unit {0}
  Runs s (e ∷ es) = May s e × Runs (happens first s e) es
