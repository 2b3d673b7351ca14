-- What a row is to what a node owes is at most one event, which is of the one node that the row is about; only stores and signals are deeds.
use Rattle.std.proofs.Common.{◌≡◌, ◌≢◌, ℕ, ◌==◌, Bool, true, false, List, [], None, refl, sym, ap, ◌∙◌, if◌then◌else◌}
use Rattle.std.specs.Prelude.{◌&&◌, not}
use Rattle.std.proofs.lemmas.Bool.{ne_eqb}
use Rattle.dsm_words.specs.Pages.{group_of}
use Rattle.dsm_words.specs.Script.{Act}
use Rattle.dsm_protocol.specs.Own.{Who, node_of}
use Rattle.dsm_protocol.specs.Jobs.{Note}
use Rattle.dsm_protocol.specs.Stages.{Work}
use Rattle.dsm_protocol.specs.Rows.{Step, Slip, Noted, stores, sets, unmaps, made, enters, draws_send, draws, draws_enter, draws_notice, draws_release, collects, tests_flush, flushes, flushes_same, flushes_twin, flushes_home, stamps_flush, lowers, drops, untwins, finishes, looks, reads_map, marks, saves, saves_twin, saves_home, twins_broken, breaks, marked, untold, told, filled, signals, arrives}
use Rattle.dsm_debts.specs.Page as D
use Rattle.dsm_debts.specs.Page.{State, Event, Store, Signal}
use Rattle.dsm_releases.specs.Events as R
use Rattle.dsm_releases.specs.Events.{lower_event, finish_event}
use Rattle.dsm_twoway.specs.Events.{step_node, slip_node}

-- an event that is a store or a signal
abbrev pub is_act : Event → Bool
is_act (Store q) = true
is_act (Signal q) = true
is_act e = false

-- events at node n of a row that is about node k: one, where that is so, and none at another node
pub record Shape (n k : ℕ) (act : Bool) (es : List Event) : Type 0 where
  pub so : Bool
  pub event : Event
  pub is : es ≡ R.only so event
  pub off : n ≢ k → so ≡ false
  pub acts : is_act event ≡ act

-- none
pub nothing : (n k : ℕ) → Shape n k false []
nothing n k = record { so = false; event = D.Tick; is = refl; off = λ _. refl; acts = refl }

and_false : (b : Bool) → (b && false) ≡ false
and_false true = refl
and_false false = refl

and_gone : (b c : Bool) → b ≡ false → (b && c) ≡ false
and_gone b c e = ap (λ z. z && c) e

-- one that asks for the node, for the page and the node, and for more
module _ (n k : ℕ) (act : Bool) (e : Event) (is : is_act e ≡ act) where
  pub when : (c : Bool) → (n ≢ k → c ≡ false) → Shape n k act (R.only c e)
  when c off = record { so = c; event = e; is = refl; off = off; acts = is }

  away : n ≢ k → (k == n) ≡ false
  away ne = ne_eqb k n (λ z. ne (sym z))

  pub at_node : Shape n k act (R.only (k == n) e)
  at_node = when (k == n) away

  pub at_page : (a : Bool) → Shape n k act (R.only (a && k == n) e)
  at_page a = when (a && k == n) (λ ne. ap (λ z. a && z) (away ne) ∙ and_false a)

  pub at_node_if : (b : Bool) → Shape n k act (R.only (k == n && b) e)
  at_node_if b = when (k == n && b) (λ ne. and_gone (k == n) b (away ne))

  pub at_page_if : (a b : Bool) → Shape n k act (R.only ((a && k == n) && b) e)
  at_page_if a b = when ((a && k == n) && b) (λ ne. and_gone (a && k == n) b (ap (λ z. a && z) (away ne) ∙ and_false a))

  pub at_page_if_both : (a b c : Bool) → Shape n k act (R.only (((a && k == n) && b) && c) e)
  at_page_if_both a b c = when (((a && k == n) && b) && c) (λ ne. and_gone ((a && k == n) && b) c (and_gone (a && k == n) b (ap (λ z. a && z) (away ne) ∙ and_false a)))

-- one of two
acts_if : (c : Bool) (e e' : Event) → is_act e ≡ false → is_act e' ≡ false → is_act (if c then e else e') ≡ false
acts_if true e e' a b = a
acts_if false e e' a b = b

acts_lower : (p : ℕ) (w : D.Work) → is_act (lower_event p w) ≡ false
acts_lower p (D.Posted q b j) = refl
acts_lower p w = refl

acts_finish : (p : ℕ) (sole : Bool) (w : D.Work) → is_act (finish_event p sole w) ≡ false
acts_finish p sole (D.Posted q b j) = refl
acts_finish p sole w = acts_if sole (D.Keep p) (D.Early p) refl refl

module _ (h n g i : ℕ) (u : Who) (f : State) where
  abbrev me : ℕ
  me = node_of u

  module _ {maps : List ℕ} {dirty : List Bool} where
    -- the row stores
    abbrev pub is_store : {w : Work} {a : Act} {x : ℕ} {v : Work} → Step u maps dirty w a x v → Bool
    is_store (stores e) = true
    is_store step = false

    pub step_shape : {w : Work} {a : Act} {x : ℕ} {v : Work} (step : Step u maps dirty w a x v) → Shape n (step_node h g i u step) (is_store step) (R.step_events h n g i u f step)
    step_shape (stores {a = a} e) = at_node_if n me true (Store u.p) refl _
    step_shape (looks {g = k} {j = j} {x = x}) = at_page_if n j false D.Break refl (k == g) (x == 2)
    step_shape (reads_map {g = k} {j = j} {x = x}) = at_page_if n j false D.Pass_by refl (k == g) (not (x == 2))
    step_shape (marks {g = k} {j = j} lo hi) = at_page n j false D.Mark refl (k == g)
    step_shape (saves {g = k} {j = j} {i = e}) = at_page_if n j false D.Load refl (k == g) (e == i)
    step_shape (saves_twin {g = k} {j = j} {i = e}) = at_page_if n j false D.Refresh refl (k == g) (e == i)
    step_shape (saves_home {g = k} {j = j} {i = e}) = at_page_if n j false D.Send refl (k == g) (e == i)
    step_shape (twins_broken {g = k} {j = j} e) = at_page n j false D.Raise refl (k == g)
    step_shape (breaks {g = k} {j = j}) = at_page n j false (if n == h then D.End_home else D.End) (acts_if (n == h) D.End_home D.End refl refl) (k == g)
    step_shape draws_enter = at_node n me false D.Tick refl
    step_shape (enters {g = k}) = at_page_if n me false D.Enter refl (k == g) (n == h)
    step_shape draws = at_node n me false D.Tick refl
    step_shape (made {g = k}) = at_page n me false D.Make refl (k == g)
    step_shape (sets {g = k} {write = write} {alone = alone}) =
        at_page n me false (if write then (if alone then D.Map_exclusive u.p else D.Map_write u.p) else D.Unmap u.p)
        (acts_if write (if alone then D.Map_exclusive u.p else D.Map_write u.p) (D.Unmap u.p) (acts_if alone (D.Map_exclusive u.p) (D.Map_write u.p) refl refl) refl) (k == g)
    step_shape (draws_send {g = k}) = at_node n me false (if k == g then D.Draw u.p else D.Tick) (acts_if (k == g) (D.Draw u.p) D.Tick refl refl)
    step_shape (tests_flush {g = k} {x = x} e) = at_page_if n me false D.Begin refl (k == g) (x == 1)
    step_shape (flushes {g = k} {i = e}) = at_page_if n me false D.Load refl (k == g) (e == i)
    step_shape (flushes_same {g = k} {i = e} {v = v} {x = x}) = at_page_if n me false (if v == x then D.Same else D.Differ) (acts_if (v == x) D.Same D.Differ refl refl) (k == g) (e == i)
    step_shape (flushes_twin {g = k} {i = e}) = at_page_if n me false D.Refresh refl (k == g) (e == i)
    step_shape (flushes_home {g = k} {i = e}) = at_page_if n me false D.Send refl (k == g) (e == i)
    step_shape (stamps_flush {g = k} {flushed = flushed}) = at_page n me false (if flushed then D.Stamp else D.Stamp_bare) (acts_if flushed D.Stamp D.Stamp_bare refl refl) (k == g)
    step_shape (lowers {g = k} e) = at_page n me false (lower_event u.p f.page.work) (acts_lower u.p f.page.work) (k == g)
    step_shape (drops {g = k} {x = x} {unwritten = unwritten} lo hi) = at_page_if_both n me false D.Look refl (k == g) unwritten (not (x == 2))
    step_shape (untwins {g = k}) = at_page n me false D.Drop refl (k == g)
    step_shape (finishes {g = k}) = at_page n me false (finish_event u.p f.page.sole f.page.work) (acts_finish u.p f.page.sole f.page.work) (k == g)
    step_shape (unmaps {g = k}) = at_page n me false (D.Unmap u.p) refl (k == g)
    step_shape draws_release = at_node n me false (D.Open u.p) refl
    step_shape (collects {k = k}) = at_node_if n me false (D.Take u.p) refl (k == group_of g)
    step_shape (draws_notice e j_in page) = at_node n me false D.Tick refl
    step_shape step = nothing n me

    pub slip_shape : {w v : Work} (slip : Slip u maps dirty w v) → Shape n (slip_node h g i u slip) false (R.slip_events h n g i u f slip)
    slip_shape (marked {g = k} {h = home} {j = j}) = at_page_if n j false D.Copy refl (k == g) (not (j == home))
    slip_shape (untold {g = k} e) = at_page n me false D.Tell refl (k == g)
    slip_shape slip = nothing n me

  -- the note is a signal
  abbrev pub is_signal : {w : Work} {e : Note} {v : Work} → Noted u None w e v → Bool
  is_signal (signals none other) = true
  is_signal (arrives none) = true
  is_signal noted = false

  pub note_shape : {w : Work} {e : Note} {v : Work} (noted : Noted u None w e v) → Shape n me (is_signal noted) (R.note_events h n g i u noted)
  note_shape (told {g = k} e) = at_page n me false D.Tell refl (k == g)
  note_shape (filled {g = k}) = at_page n me false D.Enter refl (k == g)
  note_shape (signals none other) = at_node n me true (Signal u.p) refl
  note_shape (arrives none) = at_node n me true (Signal u.p) refl
  note_shape noted = nothing n me
