-- Rows, decisions and notes that leave the copies of a word, and signals and passes.
use Rattle.std.proofs.Common.{◌≡◌, ◌≢◌, ◌⊎◌, inl, inr, ℕ, ◌+◌, ◌*◌, ◌/◌, ◌<◌, ◌≤◌, ◌==◌, Bool, true, false, List, [], ◌∷◌, Option, None, Some, refl, sym, ap, ◌∙◌, subst}
use Rattle.std.specs.Prelude.{map, ◌&&◌, not, slice_index_or}
use Rattle.std.specs.Int.{bit_at}
use Rattle.std.proofs.lemmas.Bool.{cases_eq, eq-eqb, ne_eqb}
use Rattle.dsm_entry.specs.declared.entry.Obj.{Obj}
use Rattle.dsm_words.specs.Pages.{group_of, has_page}
use Rattle.dsm_words.specs.Place.{processors}
use Rattle.dsm_words.specs.Script.{Act, item_of}
use Rattle.dsm_words.specs.Words.{word, done, left_in}
use Rattle.dsm_protocol.specs.Own.{Own, node_of}
use Rattle.dsm_protocol.specs.Jobs.{Note}
use Rattle.dsm_protocol.specs.Stages.{Round, Work, Arrived, Quitting, Passing, Waiting, Draining, Off, Gone}
use Rattle.dsm_protocol.specs.Rows.{Step, Slip, Noted, IsPlain, is_close, map_at, draws_release, collects, drains, draws_notice, notices, flags, gives_notices, takes, seeks_holder, stops, hears, accesses, waits, tells, finished, ends, forsaken, despairs, clean, released, unheard, heard, flagged, next_node, drained, taken, passed_over, closing, unclosing, unheld, closed, joins, cleans, appends_load, appends_store, signals, admits, arrives, dismisses, gives, goes, moves, passes, quits, acquired, counts}
use Rattle.dsm_copies.specs.Copies as W
use Rattle.dsm_copies.specs.Copies.{put}
use Rattle.dsm_copies.specs.Counts.{Count, count}
use Rattle.dsm_copies.specs.Premises.{Premise, Values, Released}
use Rattle.dsm_copies.specs.Debts.{Debts, AsksOf}
use Rattle.dsm_copies.specs.Joining.{onto}
use Rattle.dsm_fresh.specs.Pages as S
use Rattle.dsm_debts.specs.Page as P
use Rattle.dsm_debts.specs.Joining.{Move, At, Other, AgreesAt, event_at}
use Rattle.dsm_freshness.specs.Events as FE
use Rattle.dsm_releases.specs.Events as R
use Rattle.dsm_twoway.specs.Events.{place_of, step_moves, slip_moves}
use Rattle.dsm_twoway.specs.Events as E
use Rattle.dsm_twoway.specs.Tied.{IsAway, spot, Copy, Words, Counted}
use Rattle.dsm_twoway.proofs.Numbers.{is_sending, step_quiet, slip_quiet, is_numbered, note_quiet}
use Rattle.dsm_twoway.proofs.Scene.{Scene, Asked, place, fresh_left, pages_left, RowActs, WinActs, SlipActs, NoteActs, Acted}
use Rattle.dsm_twoway.proofs.Changes.{IsPart, part_stays, words_stay}
use Rattle.dsm_twoway.proofs.Frame.{is_silent, AllSilent, by_events, by_none, numbers_stay, off_knows, gone_knows}
use Rattle.dsm_twoway.proofs.Ops.{put_same, put_other}
use Rattle.dsm_twoway.proofs.Blocks.{pick_move}

-- an event that is nothing to the copies, where its condition is so
pub silent_only : (k : Option ℕ) (v : ℕ) (d : Bool) (e : P.Event) → is_silent k e ≡ true → AllSilent (map (At k v) (R.only d e))
silent_only k v true e i = (i, tt)
silent_only k v false e i = tt

tick_silent : (k : Option ℕ) → is_silent k P.Tick ≡ true
tick_silent None = refl
tick_silent (Some n) = refl

open_silent : (k : Option ℕ) (q : ℕ) → is_silent k (P.Open q) ≡ true
open_silent None q = refl
open_silent (Some n) q = refl

take_silent : (k : Option ℕ) (q : ℕ) → is_silent k (P.Take q) ≡ true
take_silent None q = refl
take_silent (Some n) q = refl

-- a signal, wherever it is given
signal_event : (k : Option ℕ) (w : P.Work) (v q : ℕ) → event_at k w v (P.Signal q) ≡ Some (W.Signal q)
signal_event None w v q = refl
signal_event (Some n) w v q = refl

signal_agrees : (place : ℕ → Option ℕ) (k : Option ℕ) (x : W.State) (q : ℕ) → place q ≡ k → AgreesAt place k x (P.Signal q)
signal_agrees place None x q e = e
signal_agrees place (Some n) x q e = e

-- signals and passes are asked nothing but what is owed
signal_asks : (place : ℕ → Option ℕ) (x : W.State) (c : Count) (d : Debts) (q : ℕ) (r : Premise) → Asked r → AsksOf place r x c d (W.Signal q)
signal_asks place x c d q Released i = absurd i.0
signal_asks place x c d q r i = tt

pass_asks : (place : ℕ → Option ℕ) (x : W.State) (c : Count) (d : Debts) (q : ℕ) (r : Premise) → AsksOf place r x c d (W.Pass q)
pass_asks place x c d q Values = tt
pass_asks place x c d q r = tt

module _ (s : Scene) where
  -- a copy whose words all stay, with other values
  same_words : (x' : W.State) → x'.master ≡ s.x.master → x'.home_exclusive ≡ s.x.home_exclusive → ((n : ℕ) → x'.nodes n ≡ s.x.nodes n) → Words s.h s.g s.i s.u s.ws x'
  same_words x' m e nodes =
      let w = s.match.words in
      record { master_is = w.master_is ∙ sym m; home_is = w.home_is ∙ sym e; each = λ n away. subst (Copy s.h s.g s.i s.u s.ws n) (sym (nodes n)) (w.each n away); none = λ n out. ap (λ (z : W.Node). z.mode) (nodes n) ∙ w.none n out }

  module _ (o : Own) where
    -- a row on no page
    pub off_row : {w : Work} {a : Act} {y : ℕ} {t : Round} (step : Step s.u o.maps o.dirty w a y (Off t)) → (IsPart s (item_of a) → left_in a (word s.u.lay s.ws (item_of a)) ≡ word s.u.lay s.ws (item_of a)) → ((m n : ℕ) → is_sending m n s.g s.u step ≡ false) → AllSilent (step_moves s.h s.g s.i s.u s.pages step) → RowActs s o step
    off_row {w} {a} {y} {t} step part sending silent f =
        let es : (m n : ℕ) → List S.Event = λ m n. FE.step_events m n s.g s.u step in
        let ms : List Move = step_moves s.h s.g s.i s.u s.pages step in
        by_none s {es = es} ms silent (record { words = words_stay s a f.within (part_stays s a f.within part); counted = numbers_stay s es (λ m n. step_quiet m n s.g s.u {ms = o.maps} {ds = o.dirty} step (sending m n)) })
        (off_knows s (done s.u.lay s.ws a) (fresh_left s es) (pages_left s ms) s.x s.c t)

    -- a decision on no page
    pub off_slip : {w : Work} {t : Round} (slip : Slip s.u o.maps o.dirty w (Off t)) → AllSilent (slip_moves s.h s.g s.i s.u s.pages slip) → SlipActs s o slip
    off_slip {w} {t} slip silent own f =
        let es : (m n : ℕ) → List S.Event = λ m n. FE.slip_events m n s.g s.u slip in
        let ms : List Move = slip_moves s.h s.g s.i s.u s.pages slip in
        by_none s {es = es} ms silent (record { words = s.match.words; counted = numbers_stay s es (λ m n. slip_quiet m n s.g s.u {ms = o.maps} {ds = o.dirty} slip) }) (off_knows s s.ws (fresh_left s es) (pages_left s ms) s.x s.c t)

    -- and one behind which it has ended
    pub gone_slip : {w : Work} (slip : Slip s.u o.maps o.dirty w Gone) → AllSilent (slip_moves s.h s.g s.i s.u s.pages slip) → SlipActs s o slip
    gone_slip {w} slip silent own f =
        let es : (m n : ℕ) → List S.Event = λ m n. FE.slip_events m n s.g s.u slip in
        let ms : List Move = slip_moves s.h s.g s.i s.u s.pages slip in
        by_none s {es = es} ms silent (record { words = s.match.words; counted = numbers_stay s es (λ m n. slip_quiet m n s.g s.u {ms = o.maps} {ds = o.dirty} slip) }) (gone_knows s s.ws (fresh_left s es) (pages_left s ms) s.x s.c)

    -- a note on no page
    pub off_note : {w : Work} {e : Note} {t : Round} (noted : Noted s.u None w e (Off t)) → ((m n : ℕ) → is_numbered m n s.g s.u noted ≡ false) → AllSilent (E.note_moves s.h s.g s.i s.u noted) → NoteActs s o noted
    off_note {w} {e} {t} noted numbered silent f =
        let es : (m n : ℕ) → List S.Event = λ m n. FE.note_events m n s.g s.u noted in
        let ms : List Move = E.note_moves s.h s.g s.i s.u noted in
        by_none s {es = es} ms silent (record { words = s.match.words; counted = numbers_stay s es (λ m n. note_quiet m n s.g s.u noted (numbered m n)) }) (off_knows s s.ws (fresh_left s es) (pages_left s ms) s.x s.c t)

    -- a release begins: it draws its time, and takes its bits
    pub row_draws_release : {x : ℕ} → RowActs s o (draws_release {x = x})
    row_draws_release {x} = off_row (draws_release {x = x}) (λ i. absurd i) (λ m n. refl) (silent_only (place_of s.h (node_of s.u)) 0 (node_of s.u == node_of s.u) (P.Open s.u.p) (open_silent (place_of s.h (node_of s.u)) s.u.p))

    pub row_collects : {t0 k x : ℕ} {set : List ℕ} → RowActs s o (collects {t0 = t0} {k = k} {x = x} {set = set})
    row_collects {t0} {k} {x} {set} = off_row (collects {t0 = t0} {k = k} {x = x} {set = set}) (λ i. absurd i) (λ m n. refl) (silent_only (place_of s.h (node_of s.u)) 0 (node_of s.u == node_of s.u && k == group_of s.g) (P.Take s.u.p) (take_silent (place_of s.h (node_of s.u)) s.u.p))

    -- notices are drained
    pub row_drains : {j k x : ℕ} → RowActs s o (drains {j = j} {k = k} {x = x})
    row_drains {j} {k} {x} = off_row (drains {j = j} {k = k} {x = x}) (λ i. absurd i) (λ m n. refl) tt

    pub row_draws_notice : {j k bits b x : ℕ} (e : (bit_at bits b == 1) ≡ true) (j_in : j < s.u.lay.nodes) (page : 64 * k + b < s.u.lay.pages) → RowActs s o (draws_notice {j = j} {k = k} {bits = bits} {b = b} {x = x} e j_in page)
    row_draws_notice {j} {k} {bits} {b} {x} e j_in page = off_row (draws_notice {j = j} {k = k} {bits = bits} {b = b} {x = x} e j_in page) (λ i. absurd i) (λ m n. refl) (silent_only (place_of s.h (node_of s.u)) 0 (node_of s.u == node_of s.u) P.Tick (tick_silent (place_of s.h (node_of s.u))))

    pub row_notices : {j k bits b t x : ℕ} → RowActs s o (notices {j = j} {k = k} {bits = bits} {b = b} {t = t} {x = x})
    row_notices {j} {k} {bits} {b} {t} {x} = off_row (notices {j = j} {k = k} {bits = bits} {b = b} {t = t} {x = x}) (λ i. absurd i) (λ m n. refl) tt

    pub row_flags : {j k bits b q x : ℕ} (e : (bit_at bits b == 1) ≡ true) (lo : node_of s.u * s.u.lay.procs ≤ q) (hi : q < node_of s.u * s.u.lay.procs + s.u.lay.procs) → RowActs s o (flags {j = j} {k = k} {bits = bits} {b = b} {q = q} {x = x} e lo hi)
    row_flags {j} {k} {bits} {b} {q} {x} e lo hi = off_row (flags {j = j} {k = k} {bits = bits} {b = b} {q = q} {x = x} e lo hi) (λ i. absurd i) (λ m n. refl) tt

    pub row_gives_notices : {x : ℕ} → RowActs s o (gives_notices {x = x})
    row_gives_notices {x} = off_row (gives_notices {x = x}) (λ i. absurd i) (λ m n. refl) tt

    pub row_takes : {k x : ℕ} {set : List ℕ} → RowActs s o (takes {k = k} {x = x} {set = set})
    row_takes {k} {x} {set} = off_row (takes {k = k} {x = x} {set = set}) (λ i. absurd i) (λ m n. refl) tt

    -- the closing work, and the end
    pub row_seeks_holder : {g j x : ℕ} → RowActs s o (seeks_holder {g = g} {j = j} {x = x})
    row_seeks_holder {g} {j} {x} = off_row (seeks_holder {g = g} {j = j} {x = x}) (λ _. refl) (λ m n. refl) tt

    pub row_stops : {x : ℕ} → RowActs s o (stops {x = x})
    row_stops {x} f =
        let es : (m n : ℕ) → List S.Event = λ m n. [] in
        by_none s {es = es} [] tt (record { words = words_stay s _ f.within (part_stays s _ f.within (λ i. absurd i)); counted = numbers_stay s es (λ m n. tt) }) (gone_knows s (done s.u.lay s.ws _) (fresh_left s es) s.pages s.x s.c)

    -- the turn of the notices is won
    pub win_hears : WinActs s o hears
    win_hears f =
        let es : (m n : ℕ) → List S.Event = λ m n. [] in
        by_none s {es = es} [] tt (record { words = words_stay s _ f.within (part_stays s _ f.within (λ i. absurd i)); counted = numbers_stay s es (λ m n. tt) }) (off_knows s (done s.u.lay s.ws _) (fresh_left s es) s.pages s.x s.c (Draining 0 0))

    -- decisions: an instruction comes and ends
    pub slip_accesses : {write : Bool} {a : ℕ} → SlipActs s o (accesses {write = write} {a = a})
    slip_accesses {write} {a} = off_slip (accesses {write = write} {a = a}) tt

    pub slip_waits : SlipActs s o waits
    slip_waits = off_slip waits tt

    pub slip_tells : SlipActs s o tells
    slip_tells = off_slip tells tt

    pub slip_finished : SlipActs s o finished
    slip_finished = off_slip finished tt

    pub slip_ends : SlipActs s o ends
    slip_ends = gone_slip ends tt

    pub slip_forsaken : SlipActs s o forsaken
    slip_forsaken = gone_slip forsaken tt

    pub slip_despairs : SlipActs s o despairs
    slip_despairs = off_slip despairs tt

    -- a release's pages
    pub slip_clean : {t0 g : ℕ} (e : slice_index_or o.dirty g false ≡ false) → SlipActs s o (clean {t0 = t0} {g = g} e)
    slip_clean {t0} {g} e = off_slip (clean {t0 = t0} {g = g} e) tt

    pub slip_released : {t0 : ℕ} → SlipActs s o (released {t0 = t0})
    slip_released {t0} = off_slip (released {t0 = t0}) tt

    -- notices
    pub slip_unheard : {j k bits b : ℕ} (e : (bit_at bits b == 1) ≡ false) → SlipActs s o (unheard {j = j} {k = k} {bits = bits} {b = b} e)
    slip_unheard {j} {k} {bits} {b} e = off_slip (unheard {j = j} {k = k} {bits = bits} {b = b} e) tt

    pub slip_heard : {j k bits : ℕ} → SlipActs s o (heard {j = j} {k = k} {bits = bits})
    slip_heard {j} {k} {bits} = off_slip (heard {j = j} {k = k} {bits = bits}) tt

    pub slip_flagged : {j k bits b : ℕ} → SlipActs s o (flagged {j = j} {k = k} {bits = bits} {b = b})
    slip_flagged {j} {k} {bits} {b} = off_slip (flagged {j = j} {k = k} {bits = bits} {b = b}) tt

    pub slip_next_node : {j : ℕ} → SlipActs s o (next_node {j = j})
    slip_next_node {j} = off_slip (next_node {j = j}) tt

    pub slip_drained : SlipActs s o drained
    slip_drained = off_slip drained tt

    -- the pages of the set
    pub slip_taken : {set : List ℕ} → SlipActs s o (taken {set = set})
    slip_taken {set} = off_slip (taken {set = set}) tt

    pub slip_passed_over : {g : ℕ} {set : List ℕ} (e : (has_page set g && not (map_at s.u o.maps o.dirty g == 0)) ≡ false) → SlipActs s o (passed_over {g = g} {set = set} e)
    slip_passed_over {g} {set} e = off_slip (passed_over {g = g} {set = set} e) tt

    -- the closing work
    pub slip_closing : (e : (s.u.p == 0) ≡ true) → SlipActs s o (closing e)
    slip_closing e = off_slip (closing e) tt

    pub slip_unclosing : (e : (s.u.p == 0) ≡ false) → SlipActs s o (unclosing e)
    slip_unclosing e = off_slip (unclosing e) tt

    pub slip_unheld : {g : ℕ} → SlipActs s o (unheld {g = g})
    slip_unheld {g} = off_slip (unheld {g = g}) tt

    pub slip_closed : SlipActs s o closed
    slip_closed = off_slip closed tt

    -- notes
    pub note_joins : {t0 : ℕ} {set : List ℕ} → NoteActs s o (joins {t0 = t0} {set = set})
    note_joins {t0} {set} = off_note (joins {t0 = t0} {set = set}) (λ m n. refl) tt

    pub note_cleans : {t0 g : ℕ} → NoteActs s o (cleans {t0 = t0} {g = g})
    note_cleans {t0} {g} = off_note (cleans {t0 = t0} {g = g}) (λ m n. refl) tt

    pub note_appends_load : {w x : ℕ} (none : None ≡ None) → NoteActs s o (appends_load {w = w} {x = x} none)
    note_appends_load {w} {x} none = off_note (appends_load {w = w} {x = x} none) (λ m n. refl) tt

    pub note_appends_store : {w v : ℕ} (none : None ≡ None) → NoteActs s o (appends_store {w = w} {v = v} none)
    note_appends_store {w} {v} none = off_note (appends_store {w = w} {v = v} none) (λ m n. refl) tt

    pub note_admits : (of : Obj) (k : ℕ) (none : None ≡ None) (other : is_close of ≡ false) → NoteActs s o (admits {of = of} {c = k} none other)
    note_admits of k none other = off_note (admits {of = of} {c = k} none other) (λ m n. refl) tt

    pub note_dismisses : (k : ℕ) (none : None ≡ None) → NoteActs s o (dismisses {c = k} none)
    note_dismisses k none = off_note (dismisses {c = k} none) (λ m n. refl) tt

    pub note_gives : (d v : ℕ) (none : None ≡ None) → NoteActs s o (gives {d = d} {v = v} none)
    note_gives d v none = off_note (gives {d = d} {v = v} none) (λ m n. refl) tt

    pub note_goes : (to : ℕ) (none : None ≡ None) → NoteActs s o (goes {to = to} none)
    note_goes to none = off_note (goes {to = to} none) (λ m n. refl) tt

    pub note_moves : (none : None ≡ None) → NoteActs s o (moves none)
    note_moves none = off_note (moves none) (λ m n. refl) tt

    pub note_acquired : {set : List ℕ} → NoteActs s o (acquired {set = set})
    note_acquired {set} = off_note (acquired {set = set}) (λ m n. refl) tt

    pub note_counts : {w : Work} (i : Note) (e : IsPlain None i) → NoteActs s o (counts {w = w} {n = i} e)
    note_counts {w} i e f =
        let es : (m n : ℕ) → List S.Event = λ m n. [] in
        by_none s {v = w} {ws' = s.ws} {es = es} [] tt (record { words = s.match.words; counted = numbers_stay s es (λ m n. tt) }) f.knows

    -- it signals
    signal_acts : (t : Round) → Acted s (Off t) s.ws (λ m n. []) (map (At (place_of s.h (node_of s.u)) 0) (R.only (node_of s.u == node_of s.u) (P.Signal s.u.p)))
    signal_acts t = pick_move s (place_of s.h (node_of s.u)) 0 (P.Signal s.u.p) (node_of s.u == node_of s.u) (λ _. given) (λ d. absurd (cc (sym d ∙ eq-eqb (node_of s.u) (node_of s.u) refl)))
      where
        es : (m n : ℕ) → List S.Event
        es m n = []

        given : Acted s (Off t) s.ws (λ m n. []) (At (place_of s.h (node_of s.u)) 0 (P.Signal s.u.p) ∷ [])
        given =
            let k : Option ℕ = place_of s.h (node_of s.u) in
            let ms : List Move = At k 0 (P.Signal s.u.p) ∷ [] in
            by_events s {es = es} ms (W.Signal s.u.p ∷ []) (ap (λ (q : Option W.Event). onto q []) (signal_event k (s.pages k).page.work 0 s.u.p)) (signal_agrees (place s) k s.x s.u.p refl, tt)
            (signal_asks (place s) s.x s.c s.d s.u.p, tt)
            (record { words = same_words (W.after_event (place s) s.x (W.Signal s.u.p)) refl refl (λ n. refl); counted = numbers_stay s es (λ m n. tt) })
            (off_knows s s.ws (fresh_left s es) (pages_left s ms) (W.after_event (place s) s.x (W.Signal s.u.p)) s.c t)

    pub note_signals : {t0 : ℕ} (of : Obj) (j : ℕ) (none : None ≡ None) (other : is_close of ≡ false) → NoteActs s o (signals {t0 = t0} {of = of} {j = j} none other)
    note_signals of j none other f = signal_acts Waiting

    pub note_arrives : {t0 : ℕ} (j : ℕ) (none : None ≡ None) → NoteActs s o (arrives {t0 = t0} {j = j} none)
    note_arrives j none f = signal_acts Arrived

    -- it passes: of each sender it knows what is told
    abbrev pass_events : (m n : ℕ) → List S.Event
    pass_events m n = FE.only (node_of s.u == n) (S.Pass s.u.p)

    pass_counted : Counted s.h s.u (fresh_left s pass_events) (count s.x (W.Pass s.u.p) s.c)
    pass_counted =
        let k = s.match.counted in
        record {
          sent_is = λ m n l ne i. k.sent_is m n l ne i ∙ kept (λ (z : S.Page). z.sent) (λ z. refl) m n;
          told_is = λ m n l ne i. k.told_is m n l ne i ∙ kept (λ (z : S.Page). z.told) (λ z. refl) m n;
          broken_is = λ m n l ne i. k.broken_is m n l ne i ∙ kept (λ (z : S.Page). z.broken) (λ z. refl) m n;
          got_is = λ m n l ne i. k.got_is m n l ne i ∙ kept (λ (z : S.Page). z.got) (λ z. refl) m n;
          known_is = λ m n q l ne i q_in at. known m n q l ne i q_in at (cases_eq q s.u.p);
          snap_is = λ m n q e t b l ne i d. k.snap_is m n q e t b l ne i (kept (λ (z : S.Page). z.work) (λ z. refl) m n ∙ d);
          silent = λ j none. let z = k.silent j none in (z.0, z.1, λ q. unknown j q z.0 (z.2 q) (cases_eq q s.u.p));
        }
      where
        -- its page is as before
        kept : {A : Type 0} (p : S.Page → A) → ((z : S.Page) → p (S.page_after 0 z (S.Pass s.u.p)) ≡ p z) → (m n : ℕ) → p (s.fresh m n).page ≡ p (fresh_left s pass_events m n).page
        kept p same m n = go (node_of s.u == n)
          where
            go : (d : Bool) → p (s.fresh m n).page ≡ p (S.after (n * s.u.lay.procs) (s.fresh m n) (FE.only d (S.Pass s.u.p))).page
            go true = refl
            go false = refl

        known : (m n q : ℕ) → m < s.u.lay.nodes → m ≢ n → IsAway s.h s.u n → q < processors s.u.lay → q / s.u.lay.procs ≡ n → (q ≡ s.u.p) ⊎ (q ≢ s.u.p) → put s.c.known s.u.p s.c.told q (spot s.h s.u m) ≡ ((fresh_left s pass_events m n).processors q).known
        known m n q l ne i q_in at (inl d) = ap (λ z. z (spot s.h s.u m)) (ap (put s.c.known s.u.p s.c.told) d ∙ put_same s.c.known s.u.p s.c.told) ∙ s.match.counted.told_is m n l ne i ∙ sym (here (node_of s.u == n) (eq-eqb (node_of s.u) n (ap (λ z. z / s.u.lay.procs) (sym d) ∙ at)))
          where
            here : (c : Bool) → c ≡ true → ((S.after (n * s.u.lay.procs) (s.fresh m n) (FE.only c (S.Pass s.u.p))).processors q).known ≡ (s.fresh m n).page.told
            here true e = rw (eq-eqb q s.u.p d) refl
            here false e = absurd (cc e)
        known m n q l ne i q_in at (inr off) = ap (λ z. z (spot s.h s.u m)) (put_other s.c.known s.u.p s.c.told q off) ∙ s.match.counted.known_is m n q l ne i q_in at ∙ sym (there (node_of s.u == n))
          where
            there : (c : Bool) → ((S.after (n * s.u.lay.procs) (s.fresh m n) (FE.only c (S.Pass s.u.p))).processors q).known ≡ ((s.fresh m n).processors q).known
            there true = rw (ne_eqb q s.u.p off) refl
            there false = refl

        unknown : (j q : ℕ) → s.c.told j ≡ 0 → s.c.known q j ≡ 0 → (q ≡ s.u.p) ⊎ (q ≢ s.u.p) → put s.c.known s.u.p s.c.told q j ≡ 0
        unknown j q e e' (inl d) = ap (λ z. z j) (ap (put s.c.known s.u.p s.c.told) d ∙ put_same s.c.known s.u.p s.c.told) ∙ e
        unknown j q e e' (inr off) = ap (λ z. z j) (put_other s.c.known s.u.p s.c.told q off) ∙ e'

    pass_acts : (t : Round) → Acted s (Off t) s.ws (λ m n. FE.only (node_of s.u == n) (S.Pass s.u.p)) (Other (W.Pass s.u.p) ∷ [])
    pass_acts t =
        by_events s {es = pass_events} (Other (W.Pass s.u.p) ∷ []) (W.Pass s.u.p ∷ []) refl (tt, tt) ((λ r i. pass_asks (place s) s.x s.c s.d s.u.p r), tt)
        (record { words = same_words (W.after_event (place s) s.x (W.Pass s.u.p)) refl refl (λ n. refl); counted = pass_counted })
        (off_knows s s.ws (fresh_left s pass_events) s.pages (W.after_event (place s) s.x (W.Pass s.u.p)) (count s.x (W.Pass s.u.p) s.c) t)

    pub note_passes : (none : None ≡ None) → NoteActs s o (passes none)
    note_passes none f = pass_acts Passing

    pub note_quits : (none : None ≡ None) → NoteActs s o (quits none)
    note_quits none f = pass_acts Quitting
