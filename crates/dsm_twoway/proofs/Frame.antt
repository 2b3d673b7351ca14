-- What all rows need for what they are to give: no move; a move that is nothing to the copies; moves that are these events of them.
use Rattle.std.proofs.Common.{◌≡◌, ◌≢◌, ℕ, ◌*◌, Bool, true, false, List, [], ◌∷◌, Option, None, Some, refl, sym, ap, ◌∙◌, subst}
use Rattle.dsm_words.specs.declared.item.Item.{Item}
use Rattle.dsm_words.specs.declared.item.Item.TheVariants.{Twined, Dir}
use Rattle.dsm_words.specs.Place.{IsWithin}
use Rattle.dsm_words.specs.Script.{Act, item_of}
use Rattle.dsm_words.specs.Words.{word, done, left_in}
use Rattle.dsm_clock.specs.declared.turns.TurnId.TheVariants.{Page}
use Rattle.dsm_protocol.specs.Own.{Own}
use Rattle.dsm_protocol.specs.Stages.{Stage, Round, Work, Off, On, Gone, stage_turn}
use Rattle.dsm_copies.specs.Modes.{Mode}
use Rattle.dsm_copies.specs.Copies as W
use Rattle.dsm_copies.specs.Counts.{Count, count_after}
use Rattle.dsm_copies.specs.Debts.{RunsOf}
use Rattle.dsm_fresh.specs.Pages as S
use Rattle.dsm_debts.specs.Page as P
use Rattle.dsm_debts.specs.Joining.{Move, At, Other, AgreesAt, event_at, has_flushed}
use Rattle.dsm_twoway.specs.Views.{plain, mode_view}
use Rattle.dsm_twoway.specs.Tied.{IsAway, rest_of, is_beginning, is_copied, Counted, Match, Knows}
use Rattle.dsm_twoway.proofs.Numbers.{AllQuiet, Equal, equal, quiet_alike, counted_kept}
use Rattle.dsm_twoway.proofs.Scene.{Scene, Asked, place, events, pages_left, x_left, AllAgree, fresh_left, Acted, Meets}
use Rattle.dsm_twoway.proofs.Changes.{IsPart, words_stay, part_stays, rest_stays}

-- an event at a place that is nothing to the copies
abbrev pub is_silent : Option ℕ → P.Event → Bool
is_silent None (P.Store q) = false
is_silent None (P.Signal q) = false
is_silent None P.Stamp_bare = false
is_silent None P.Tell = false
is_silent None P.Enter = false
is_silent None P.End_home = false
is_silent None e = true
is_silent (Some n) (P.Store q) = false
is_silent (Some n) (P.Signal q) = false
is_silent (Some n) P.Begin = false
is_silent (Some n) P.Load = false
is_silent (Some n) P.Same = false
is_silent (Some n) P.Differ = false
is_silent (Some n) P.Refresh = false
is_silent (Some n) P.Send = false
is_silent (Some n) P.Stamp = false
is_silent (Some n) P.Tell = false
is_silent (Some n) P.Drop = false
is_silent (Some n) P.Finish = false
is_silent (Some n) P.Break = false
is_silent (Some n) P.End = false
is_silent (Some n) P.Enter = false
is_silent (Some n) e = true

abbrev pub AllSilent : List Move → Type 0
AllSilent [] = Unit {0}
AllSilent (At k v e ∷ ms) = (is_silent k e ≡ true) × AllSilent ms
AllSilent (Other e ∷ ms) = ⊥

silent_home : (w : P.Work) (v : ℕ) (e : P.Event) → is_silent None e ≡ true → event_at None w v e ≡ None
silent_home w v (P.Store q) i = absurd (cc i)
silent_home w v (P.Signal q) i = absurd (cc i)
silent_home w v P.Stamp_bare i = absurd (cc i)
silent_home w v P.Tell i = absurd (cc i)
silent_home w v P.Enter i = absurd (cc i)
silent_home w v P.End_home i = absurd (cc i)
silent_home w v e i = refl

silent_away : (n : ℕ) (w : P.Work) (v : ℕ) (e : P.Event) → is_silent (Some n) e ≡ true → event_at (Some n) w v e ≡ None
silent_away n w v (P.Store q) i = absurd (cc i)
silent_away n w v (P.Signal q) i = absurd (cc i)
silent_away n w v P.Tell i = absurd (cc i)
silent_away n w v P.Finish i = absurd (cc i)
silent_away n w v P.Begin i = absurd (cc i)
silent_away n w v P.Load i = absurd (cc i)
silent_away n w v P.Same i = absurd (cc i)
silent_away n w v P.Differ i = absurd (cc i)
silent_away n w v P.Refresh i = absurd (cc i)
silent_away n w v P.Send i = absurd (cc i)
silent_away n w v P.Stamp i = absurd (cc i)
silent_away n w v P.Drop i = absurd (cc i)
silent_away n w v P.Break i = absurd (cc i)
silent_away n w v P.End i = absurd (cc i)
silent_away n w v P.Enter i = absurd (cc i)
silent_away n w v e i = refl

silent_event : (k : Option ℕ) (w : P.Work) (v : ℕ) (e : P.Event) → is_silent k e ≡ true → event_at k w v e ≡ None
silent_event None w v e i = silent_home w v e i
silent_event (Some n) w v e i = silent_away n w v e i

agree_home : (place : ℕ → Option ℕ) (x : W.State) (e : P.Event) → is_silent None e ≡ true → AgreesAt place None x e
agree_home place x (P.Store q) i = absurd (cc i)
agree_home place x (P.Signal q) i = absurd (cc i)
agree_home place x e i = tt

agree_away : (place : ℕ → Option ℕ) (n : ℕ) (x : W.State) (e : P.Event) → is_silent (Some n) e ≡ true → AgreesAt place (Some n) x e
agree_away place n x (P.Store q) i = absurd (cc i)
agree_away place n x (P.Signal q) i = absurd (cc i)
agree_away place n x P.Same i = absurd (cc i)
agree_away place n x P.Differ i = absurd (cc i)
agree_away place n x P.Enter i = absurd (cc i)
agree_away place n x e i = tt

silent_agrees : (place : ℕ → Option ℕ) (k : Option ℕ) (x : W.State) (e : P.Event) → is_silent k e ≡ true → AgreesAt place k x e
silent_agrees place None x e i = agree_home place x e i
silent_agrees place (Some n) x e i = agree_away place n x e i

module _ (s : Scene) where
  -- silent moves are no events, and have the copies' answers
  pub no_events : (ms : List Move) → AllSilent ms → events s ms ≡ []
  no_events [] i = refl
  no_events (At k v e ∷ ms) i = rw (silent_event k (pages_left s ms k).page.work v e i.0) (no_events ms i.1)
  no_events (Other e ∷ ms) i = absurd i

  pub all_agree : (ms : List Move) → AllSilent ms → AllAgree s ms
  all_agree [] i = tt
  all_agree (At k v e ∷ ms) i = (silent_agrees (place s) k (x_left s ms) e i.0, all_agree ms i.1)
  all_agree (Other e ∷ ms) i = absurd i

  -- what a step gives, by the events that its moves are
  pub by_events : {v : Work} {ws' : List ℕ} {es : (m n : ℕ) → List S.Event} (ms : List Move) (xs : List W.Event) → events s ms ≡ xs → AllAgree s ms → RunsOf (place s) Asked s.x s.c s.d xs
      → Match s.h s.g s.i s.u ws' (fresh_left s es) (W.after (place s) s.x xs) (count_after (place s) s.x s.c xs) → Knows s.h s.g s.i s.u ws' (fresh_left s es) (pages_left s ms) (W.after (place s) s.x xs) (count_after (place s) s.x s.c xs) v → Acted s v ws' es ms
  by_events {v} {ws'} {es} ms xs e agrees meets match knows =
      record {
        agrees = agrees;
        meets = subst (RunsOf (place s) Asked s.x s.c s.d) (sym e) meets;
        match = subst (λ z. Match s.h s.g s.i s.u ws' (fresh_left s es) (W.after (place s) s.x z) (count_after (place s) s.x s.c z)) (sym e) match;
        knows = subst (λ z. Knows s.h s.g s.i s.u ws' (fresh_left s es) (pages_left s ms) (W.after (place s) s.x z) (count_after (place s) s.x s.c z) v) (sym e) knows;
      }

  pub by_none : {v : Work} {ws' : List ℕ} {es : (m n : ℕ) → List S.Event} (ms : List Move) → AllSilent ms → Match s.h s.g s.i s.u ws' (fresh_left s es) s.x s.c → Knows s.h s.g s.i s.u ws' (fresh_left s es) (pages_left s ms) s.x s.c v → Acted s v ws' es ms
  by_none {es = es} ms i match knows = by_events {es = es} ms [] (no_events ms i) (all_agree ms i) tt match knows

  -- the numbers stay where the events of the copies are quiet
  pub numbers_stay : (es : (m n : ℕ) → List S.Event) → ((m n : ℕ) → AllQuiet (es m n)) → Counted s.h s.u (fresh_left s es) s.c
  numbers_stay es q = counted_kept s.h s.u s.fresh (fresh_left s es) s.c s.c s.match.counted (λ m n. quiet_alike (n * s.u.lay.procs) (s.fresh m n) (es m n) (q m n)) (equal s.c)

  -- and also where an operation leaves them
  pub numbers_kept : (es : (m n : ℕ) → List S.Event) (c' : Count) → ((m n : ℕ) → AllQuiet (es m n)) → Equal s.c c' → Counted s.h s.u (fresh_left s es) c'
  numbers_kept es c' q e = counted_kept s.h s.u s.fresh (fresh_left s es) s.c c' s.match.counted (λ m n. quiet_alike (n * s.u.lay.procs) (s.fresh m n) (es m n) (q m n)) e

  module _ (ws' : List ℕ) (fresh' : (m n : ℕ) → S.State) (pages' : Option ℕ → P.State) (x' : W.State) (c' : Count) where
    -- on no page it is at no copy
    pub off_knows : (r : Round) → Knows s.h s.g s.i s.u ws' fresh' pages' x' c' (Off r)
    off_knows r = record { mode = λ n away tu. tt; copied = λ away. tt; beginning = λ away. tt }

    pub gone_knows : Knows s.h s.g s.i s.u ws' fresh' pages' x' c' Gone
    gone_knows = record { mode = λ n away tu. tt; copied = λ away. tt; beginning = λ away. tt }

    -- on a page, at a stage that is in no fetch's first word and not behind its last
    pub on_knows : (r : Round) (k : ℕ) (t : Stage) → is_copied t ≡ false → is_beginning t ≡ false
        → ((n : ℕ) → IsAway s.h s.u n → k ≡ s.g → stage_turn s.u k t ≡ Some (Page n s.g) → plain (x'.nodes n).mode ≡ mode_view s.i (rest_of s.h s.g s.i s.u ws' n) (has_flushed (pages' (Some n)).page.work) t)
        → Knows s.h s.g s.i s.u ws' fresh' pages' x' c' (On r k t)
    on_knows r k t copied beginning mode =
        record { mode = λ n away tu d. mode n away d tu; copied = λ away d z. absurd (cc (sym copied ∙ z)); beginning = λ away d z. absurd (cc (sym beginning ∙ z)) }

    -- on another page
    pub other_knows : (r : Round) (k : ℕ) (t : Stage) → k ≢ s.g → Knows s.h s.g s.i s.u ws' fresh' pages' x' c' (On r k t)
    other_knows r k t ne = record { mode = λ n away tu d. absurd (ne d); copied = λ away d. absurd (ne d); beginning = λ away d. absurd (ne d) }

  module _ {r : Round} {k : ℕ} {z t : Stage} {o : Own} {a : Act} {y : ℕ} where
    -- a row that changes no word of the copies, with nothing to them, to a stage at which the same is open
    pub quiet_row : (es : (m n : ℕ) → List S.Event) (ms : List Move) → Meets s (On r k z) o a y → (IsPart s (item_of a) → left_in a (word s.u.lay s.ws (item_of a)) ≡ word s.u.lay s.ws (item_of a)) → AllSilent ms → ((m n : ℕ) → AllQuiet (es m n))
        → stage_turn s.u k t ≡ stage_turn s.u k z → ((rest : Mode) (d d' : Bool) → mode_view s.i rest d' t ≡ mode_view s.i rest d z) → is_copied t ≡ false → is_beginning t ≡ false → Acted s (On r k t) (done s.u.lay s.ws a) es ms
    quiet_row es ms f part silent quiet tu same copied beginning =
        let left : (it : Item) → IsWithin s.u.lay it → IsPart s it → word s.u.lay (done s.u.lay s.ws a) it ≡ word s.u.lay s.ws it = part_stays s a f.within part in
        by_none {es = es} ms silent
        (record { words = words_stay s a f.within left; counted = numbers_stay es quiet })
        (on_knows (done s.u.lay s.ws a) (fresh_left s es) (pages_left s ms) s.x s.c r k t copied beginning
        (λ n away d tu'. f.here.knows.mode n away (sym tu ∙ tu') d ∙ sym (same (rest_of s.h s.g s.i s.u s.ws n) (has_flushed (s.pages (Some n)).page.work) (has_flushed (pages_left s ms (Some n)).page.work)) ∙ ap (λ w. mode_view s.i w (has_flushed (pages_left s ms (Some n)).page.work) t) (sym (rest_stays s a f.within n (left (Dir n s.g) (away.0, s.g_in) refl) (left (Twined n s.g) (away.0, s.g_in) refl)))))
