-- By whom an event is made, and the turn that its maker holds.
use Rattle.std.proofs.Common.{◌≡◌, ◌⊎◌, inl, inr, ℕ, ◌*◌, ◌+◌, ◌==◌, Bool, true, false, List, [], ◌∷◌, Option, None, Some, refl, sym, ap, ◌∙◌, if◌then◌else◌}
use Rattle.std.specs.Prelude.{◌&&◌}
use Rattle.std.proofs.lemmas.Bool.{eqb-true}
use Rattle.dsm_words.specs.Script.{Act}
use Rattle.dsm_clock.specs.declared.turns.TurnId.{TurnId}
use Rattle.dsm_clock.specs.declared.turns.TurnId.TheVariants.{Page}
use Rattle.dsm_protocol.specs.Own.{Own, Who, node_of}
use Rattle.dsm_protocol.specs.Jobs.{Note}
use Rattle.dsm_protocol.specs.Stages.{Work, turn_at}
use Rattle.dsm_protocol.specs.Rows.{Step, Slip, Noted, stores, sets, unmaps, made, enters, draws_send, draws, draws_enter, draws_notice, draws_release, collects, tests_flush, flushes, flushes_same, flushes_twin, flushes_home, stamps_flush, lowers, drops, untwins, finishes, looks, reads_map, marks, saves, saves_twin, saves_home, twins_broken, breaks, marked, untold, told, filled, signals, arrives}
use Rattle.dsm_debts.specs.Page as D
use Rattle.dsm_debts.specs.Page.{State, Event, Tick, Store, Open, Take, Signal, Keep, Early, Map_exclusive, Map_write, Unmap, Make, Enter, Draw, Begin, Load, Same, Differ, Refresh, Send, Stamp, Stamp_bare, Tell, Look, Drop, Finish, Break, Mark, Pass_by, Copy, Raise, End, End_home, worker, after}
use Rattle.dsm_freshness.proofs.Frame.{both}
use Rattle.dsm_releases.specs.Views.{HasPosted, Leaves}
use Rattle.dsm_releases.specs.Events.{only, lower_event, finish_event, is_own, is_word, step_events, slip_events, note_events}
use Rattle.dsm_releases.specs.Tied.{Knows}

-- processor p makes it, where it changes what is known of its maker at any time
abbrev pub IsBy : ℕ → State → Event → Type 0
IsBy p f (Open q) = q ≡ p
IsBy p f (Take q) = q ≡ p
IsBy p f (Signal q) = q ≡ p
IsBy p f (Keep q) = q ≡ p
IsBy p f (Early q) = q ≡ p
IsBy p f (Map_write q) = q ≡ p
IsBy p f Finish = worker f.page.work ≡ p
IsBy p f e = Unit {0}

module _ (n g : ℕ) where
  -- the turn under which it is made
  abbrev pub need : Event → Option TurnId
  need Tick = None
  need (Store q) = None
  need (Open q) = None
  need (Take q) = None
  need (Signal q) = None
  need e = Some (Page n g)

  -- processor p makes it, and holds turn t
  abbrev pub Made : ℕ → Option TurnId → State → Event → Type 0
  Made p t f e = IsBy p f e × ((need e ≡ None) ⊎ (need e ≡ t))

  -- of a list, newest first
  abbrev pub AllMade : (home : Bool) (first p : ℕ) → Option TurnId → State → List Event → Type 0
  AllMade home first p t f [] = Unit {0}
  AllMade home first p t f (e ∷ older) = Made p t (after home first f older) e × AllMade home first p t f older

  -- each of two events, and each that ends a release's work on a mapping
  need_if : (t : Option TurnId) (d : Bool) (a b : Event) → need a ≡ t → need b ≡ t → need (if d then a else b) ≡ t
  need_if t true a b x y = x
  need_if t false a b x y = y

  need_lower : (p : ℕ) (w : D.Work) → need (lower_event p w) ≡ Some (Page n g)
  need_lower p (D.Posted q b j) = refl
  need_lower p w = refl

  need_finish : (p : ℕ) (sole : Bool) (w : D.Work) → need (finish_event p sole w) ≡ Some (Page n g)
  need_finish p sole (D.Posted q b j) = refl
  need_finish p true w = refl
  need_finish p false w = refl

-- and so who makes it
by_if : (p : ℕ) (f : State) (d : Bool) (a b : Event) → IsBy p f a → IsBy p f b → IsBy p f (if d then a else b)
by_if p f true a b x y = x
by_if p f false a b x y = y

by_lower : (p : ℕ) (f : State) (w : D.Work) → IsBy p f (lower_event p w)
by_lower p f (D.Posted q b j) = tt
by_lower p f w = tt

-- at the end of a release of the page, what is posted is its own
by_finish : (top : ℕ) (first : ℕ) (home : Bool) (i p : ℕ) (f : State) (w : D.Work) → f.page.work ≡ w → HasPosted home first top i p f × ((f.processors p).writes ≡ false) ⊎ Leaves home first top i p f → IsBy p f (finish_event p f.page.sole w)
by_finish top first home i p f (D.Posted q b j) e (inl k) = ap worker k.0.2
by_finish top first home i p f (D.Posted q b j) e (inr (inl k)) = absurd (cc (sym k.0 ∙ e))
by_finish top first home i p f (D.Posted q b j) e (inr (inr k)) = absurd (cc (sym k.0.0 ∙ e))
by_finish top first home i p f w e k = by_if p f f.page.sole (Keep p) (Early p) refl refl

module _ (h n g i : ℕ) (u : Who) (f : State) where
  -- its events, where it holds turn t
  abbrev By : Option TurnId → List Event → Type 0
  By t es = AllMade n g (n == h) (n * u.lay.procs) u.p t f es

  module _ (t : Option TurnId) where
    -- an event where this is so
    where_so : (d : Bool) (e : Event) → (d ≡ true → Made n g u.p t f e) → By t (only d e)
    where_so true e k = (k refl, tt)
    where_so false e k = tt

    -- under no turn
    free : (d : Bool) (e : Event) → IsBy u.p f e → need n g e ≡ None → By t (only d e)
    free d e b z = where_so d e (λ _. (b, inl z))

    -- under the turn of the copy of page k at node j, which are those of what is owed
    turned : (k j : ℕ) (d : Bool) (e : Event) → (d ≡ true → (k == g && j == n) ≡ true) → IsBy u.p f e → need n g e ≡ Some (Page n g) → t ≡ Some (Page j k) → By t (only d e)
    turned k j d e at b z tu = where_so d e (λ y. let m = both (at y) in (b, inr (z ∙ sym (tu ∙ ap Some (λ x. Page (eqb-true j n m.1 x) (eqb-true k g m.0 x))))))

  -- a time is drawn for the flush of the page, or for another one's
  drawn : (k : ℕ) → By (Some (Page (node_of u) k)) (only (node_of u == n) (if k == g then Draw u.p else Tick))
  drawn k = where_so (Some (Page (node_of u) k)) (node_of u == n) (if k == g then Draw u.p else Tick) (λ d. go (eqb-true (node_of u) n d) (k == g) refl)
    where
      go : node_of u ≡ n → (d : Bool) → (k == g) ≡ d → Made n g u.p (Some (Page (node_of u) k)) f (if d then Draw u.p else Tick)
      go e true d = (tt, inr (sym (ap Some (λ x. Page (e x) (eqb-true k g d x)))))
      go e false d = (tt, inl refl)

  module _ {ms : List ℕ} {ds : List Bool} {o : Own} where
    -- each row's events, each decision's and each note's
    pub row_made : {w : Work} {a : Act} {x : ℕ} {v : Work} (step : Step u ms ds w a x v) → Knows h n g i u f w o → By (turn_at u w) (step_events h n g i u f step)
    row_made (stores {a = a} e) k = free _ (is_own h n g i u && is_word h n g i u a) (Store u.p) tt refl
    row_made (looks {g = h'} {j = j} {x = x}) k = turned _ h' j _ Break (λ d. (both d).0) tt refl refl
    row_made (reads_map {g = h'} {j = j} {x = x}) k = turned _ h' j _ Pass_by (λ d. (both d).0) tt refl refl
    row_made (marks {g = h'} {j = j} lo hi) k = turned _ h' j _ Mark (λ d. d) tt refl refl
    row_made (saves {g = h'} {j = j} {i = e}) k = turned _ h' j _ Load (λ d. (both d).0) tt refl refl
    row_made (saves_twin {g = h'} {j = j} {i = e}) k = turned _ h' j _ Refresh (λ d. (both d).0) tt refl refl
    row_made (saves_home {g = h'} {j = j} {i = e}) k = turned _ h' j _ Send (λ d. (both d).0) tt refl refl
    row_made (twins_broken {g = h'} {j = j} e) k = turned _ h' j _ Raise (λ d. d) tt refl refl
    row_made (breaks {g = h'} {j = j}) k = turned _ h' j _ (if n == h then End_home else End) (λ d. d) (by_if u.p f (n == h) End_home End tt tt) (need_if n g _ (n == h) End_home End refl refl) refl
    row_made draws_enter k = free _ _ Tick tt refl
    row_made (enters {g = h'}) k = turned _ h' (node_of u) _ Enter (λ d. (both d).0) tt refl refl
    row_made draws k = free _ _ Tick tt refl
    row_made (made {g = h'}) k = turned _ h' (node_of u) _ Make (λ d. d) tt refl refl
    row_made (sets {g = h'} {write = write} {alone = alone}) k =
        let e : Event = if alone then Map_exclusive u.p else Map_write u.p in
        turned _ h' (node_of u) _ (if write then e else Unmap u.p) (λ d. d)
        (by_if u.p f write e (Unmap u.p) (by_if u.p f alone (Map_exclusive u.p) (Map_write u.p) tt refl) tt)
        (need_if n g _ write e (Unmap u.p) (need_if n g _ alone (Map_exclusive u.p) (Map_write u.p) refl refl) refl) refl
    row_made (draws_send {g = h'}) k = drawn h'
    row_made (tests_flush {g = h'} {x = x} e) k = turned _ h' (node_of u) _ Begin (λ d. (both d).0) tt refl refl
    row_made (flushes {g = h'} {i = e}) k = turned _ h' (node_of u) _ Load (λ d. (both d).0) tt refl refl
    row_made (flushes_same {g = h'} {i = e} {v = v} {x = x}) k = turned _ h' (node_of u) _ (if v == x then Same else Differ) (λ d. (both d).0) (by_if u.p f (v == x) Same Differ tt tt) (need_if n g _ (v == x) Same Differ refl refl) refl
    row_made (flushes_twin {g = h'} {i = e}) k = turned _ h' (node_of u) _ Refresh (λ d. (both d).0) tt refl refl
    row_made (flushes_home {g = h'} {i = e}) k = turned _ h' (node_of u) _ Send (λ d. (both d).0) tt refl refl
    row_made (stamps_flush {g = h'} {flushed = flushed}) k = turned _ h' (node_of u) _ (if flushed then Stamp else Stamp_bare) (λ d. d) (by_if u.p f flushed Stamp Stamp_bare tt tt) (need_if n g _ flushed Stamp Stamp_bare refl refl) refl
    row_made (lowers {g = h'} e) k = turned _ h' (node_of u) _ (lower_event u.p f.page.work) (λ d. d) (by_lower u.p f f.page.work) (need_lower n g u.p f.page.work) refl
    row_made (drops {g = h'} {x = x} {unwritten = unwritten} lo hi) k = turned _ h' (node_of u) _ Look (λ d. (both (both d).0).0) tt refl refl
    row_made (untwins {g = h'}) k = turned _ h' (node_of u) _ Drop (λ d. d) tt refl refl
    row_made (finishes {g = h'}) k = where_so _ _ (finish_event u.p f.page.sole f.page.work) (λ d.
        let m = both d in let tu : Some (Page (node_of u) h') ≡ Some (Page n g) = ap Some (λ x. Page (eqb-true (node_of u) n m.1 x) (eqb-true h' g m.0 x)) in
        (by_finish (n * u.lay.procs + u.lay.procs) (n * u.lay.procs) (n == h) i u.p f f.page.work refl (k.works tu (eqb-true h' g m.0)), inr (need_finish n g u.p f.page.sole f.page.work ∙ sym tu)))
    row_made (unmaps {g = h'}) k = turned _ h' (node_of u) _ (Unmap u.p) (λ d. d) tt refl refl
    row_made draws_release k = free _ _ (Open u.p) refl refl
    row_made (collects {k = l}) k = free _ _ (Take u.p) refl refl
    row_made (draws_notice e j_in page) k = free _ _ Tick tt refl
    row_made step k = tt

  module _ {ms : List ℕ} {ds : List Bool} where
    pub slip_made : {w v : Work} (slip : Slip u ms ds w v) → By (turn_at u w) (slip_events h n g i u f slip)
    slip_made (marked {g = h'} {h = home} {j = j}) = turned _ h' j _ Copy (λ d. (both d).0) tt refl refl
    slip_made (untold {g = h'} e) = turned _ h' (node_of u) _ Tell (λ d. d) tt refl refl
    slip_made slip = tt

  pub note_made : {w : Work} {e : Note} {v : Work} (noted : Noted u None w e v) → By (turn_at u w) (note_events h n g i u noted)
  note_made (told {g = h'} e) = turned _ h' (node_of u) _ Tell (λ d. d) tt refl refl
  note_made (filled {g = h'}) = turned _ h' (node_of u) _ Enter (λ d. d) tt refl refl
  note_made (signals none other) = free _ _ (Signal u.p) refl refl
  note_made (arrives none) = free _ _ (Signal u.p) refl refl
  note_made noted = tt
