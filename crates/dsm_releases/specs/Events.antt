-- What a row of the table is to what node n owes for word i of page g, whose home is node h: none of its events, or one.
use Rattle.std.specs.Prelude.{ℕ, ◌%◌, ◌==◌, ◌&&◌, not, Bool, if◌then◌else◌, List, [], ◌∷◌, None}
use Rattle.dsm_words.specs.Pages.{group_of}
use Rattle.dsm_words.specs.Script.{Act}
use Rattle.dsm_protocol.specs.Own.{Who, node_of}
use Rattle.dsm_protocol.specs.Jobs.{Note}
use Rattle.dsm_protocol.specs.Steps.{page_of}
use Rattle.dsm_protocol.specs.Stages.{Work}
use Rattle.dsm_protocol.specs.Rows.{Step, Slip, Noted, stores, sets, unmaps, made, enters, draws_send, draws, draws_enter, draws_notice, draws_release, collects, tests_flush, flushes, flushes_same, flushes_twin, flushes_home, stamps_flush, lowers, drops, untwins, finishes, looks, reads_map, marks, saves, saves_twin, saves_home, twins_broken, breaks, marked, untold, told, filled, signals, arrives}
use Rattle.dsm_debts.specs.Page as D
use Rattle.dsm_debts.specs.Page.{State, Event}

-- an event, where this is so
abbrev pub only : Bool → Event → List Event
only c e = if c then e ∷ [] else []

-- a release that has posted gives up a mapping, and its page; else it is a mapping like others, and the page is left as it is
abbrev pub lower_event : ℕ → D.Work → Event
lower_event p (D.Posted q b j) = D.Lower
lower_event p w = D.Unmap p

abbrev pub finish_event : ℕ → Bool → D.Work → Event
finish_event p sole (D.Posted q b j) = D.Finish
finish_event p sole w = if sole then D.Keep p else D.Early p

module _ (h n g i : ℕ) (u : Who) where
  -- it is a processor of the node, at the page
  abbrev pub is_own : Bool
  is_own = node_of u == n

  abbrev pub is_here : ℕ → Bool
  is_here k = k == g && is_own

  -- the address is that of the word
  abbrev pub is_word : ℕ → Bool
  is_word a = page_of u a == g && a % u.lay.words == i

  -- it visits the node, for the page
  abbrev pub is_visit : (k j : ℕ) → Bool
  is_visit k j = k == g && j == n

  module _ (f : State) {maps : List ℕ} {dirty : List Bool} where
    -- of an operation
    abbrev pub step_events : {w : Work} {a : Act} {x : ℕ} {v : Work} → Step u maps dirty w a x v → List Event
    step_events (stores {a = a} e) = only (is_own && is_word a) (D.Store u.p)
    step_events (looks {g = k} {j = j} {x = x}) = only (is_visit k j && x == 2) D.Break
    step_events (reads_map {g = k} {j = j} {x = x}) = only (is_visit k j && not (x == 2)) D.Pass_by
    step_events (marks {g = k} {j = j} lo hi) = only (is_visit k j) D.Mark
    step_events (saves {g = k} {j = j} {i = e}) = only (is_visit k j && e == i) D.Load
    step_events (saves_twin {g = k} {j = j} {i = e}) = only (is_visit k j && e == i) D.Refresh
    step_events (saves_home {g = k} {j = j} {i = e}) = only (is_visit k j && e == i) D.Send
    step_events (twins_broken {g = k} {j = j} e) = only (is_visit k j) D.Raise
    step_events (breaks {g = k} {j = j}) = only (is_visit k j) (if n == h then D.End_home else D.End)
    step_events draws_enter = only is_own D.Tick
    step_events (enters {g = k}) = only (is_here k && n == h) D.Enter
    step_events draws = only is_own D.Tick
    step_events (made {g = k}) = only (is_here k) D.Make
    step_events (sets {g = k} {write = write} {alone = alone}) = only (is_here k) (if write then (if alone then D.Map_exclusive u.p else D.Map_write u.p) else D.Unmap u.p)
    step_events (draws_send {g = k}) = only is_own (if k == g then D.Draw u.p else D.Tick)
    step_events (tests_flush {g = k} {x = x} e) = only (is_here k && x == 1) D.Begin
    step_events (flushes {g = k} {i = e}) = only (is_here k && e == i) D.Load
    step_events (flushes_same {g = k} {i = e} {v = v} {x = x}) = only (is_here k && e == i) (if v == x then D.Same else D.Differ)
    step_events (flushes_twin {g = k} {i = e}) = only (is_here k && e == i) D.Refresh
    step_events (flushes_home {g = k} {i = e}) = only (is_here k && e == i) D.Send
    step_events (stamps_flush {g = k} {flushed = flushed}) = only (is_here k) (if flushed then D.Stamp else D.Stamp_bare)
    step_events (lowers {g = k} e) = only (is_here k) (lower_event u.p f.page.work)
    step_events (drops {g = k} {x = x} {unwritten = unwritten} lo hi) = only (is_here k && unwritten && not (x == 2)) D.Look
    step_events (untwins {g = k}) = only (is_here k) D.Drop
    step_events (finishes {g = k}) = only (is_here k) (finish_event u.p f.page.sole f.page.work)
    step_events (unmaps {g = k}) = only (is_here k) (D.Unmap u.p)
    step_events draws_release = only is_own (D.Open u.p)
    step_events (collects {k = k}) = only (is_own && k == group_of g) (D.Take u.p)
    step_events (draws_notice e j_in page) = only is_own D.Tick
    step_events step = []

    -- of a decision
    abbrev pub slip_events : {w v : Work} → Slip u maps dirty w v → List Event
    slip_events (marked {g = k} {h = home} {j = j}) = only (is_visit k j && not (j == home)) D.Copy
    slip_events (untold {g = k} e) = only (is_here k) D.Tell
    slip_events slip = []

  -- of a note
  abbrev pub note_events : {w : Work} {e : Note} {v : Work} → Noted u None w e v → List Event
  note_events (told {g = k} e) = only (is_here k) D.Tell
  note_events (filled {g = k}) = only (is_here k) D.Enter
  note_events (signals none other) = only is_own (D.Signal u.p)
  note_events (arrives none) = only is_own (D.Signal u.p)
  note_events noted = []
