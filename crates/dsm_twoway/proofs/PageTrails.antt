-- Along a trail the page at the place of a node is what the node owes, and each move of a step is one that the law for its node allows.
use Rattle.std.proofs.Common.{◌≡◌, ℕ, ◌+◌, ◌*◌, ◌/◌, ◌==◌, Bool, false, List, [], ◌∷◌, ◌++◌, Option, refl, sym, ap, ◌∙◌, subst}
use Rattle.dsm_words.specs.Script.{Act}
use Rattle.dsm_protocol.specs.Own.{Own}
use Rattle.dsm_protocol.specs.Stages.{Work}
use Rattle.dsm_protocol.specs.Standing.{Does, Row, Won, Lost, Aside}
use Rattle.dsm_runs.specs.Setups.{Setup, who_at}
use Rattle.dsm_ties.proofs.Trails.{Position, Piece, Decides, Acts, Notes, Starves, Trail, Starts, Goes}
use Rattle.dsm_debts.specs.Page as D
use Rattle.dsm_debts.specs.Page.{State, Event}
use Rattle.dsm_debts.specs.Premises.{Runs, May}
use Rattle.dsm_debts.specs.Joining.{pages_after}
use Rattle.dsm_releases.specs.Events as R
use Rattle.dsm_releases.proofs.Trailing as RT
use Rattle.dsm_releases.proofs.Following as RF
use Rattle.dsm_twoway.specs.Events.{place_of, step_others, step_node, step_value, slip_node, note_others}
use Rattle.dsm_twoway.proofs.Appending.{pages_append}
use Rattle.dsm_twoway.proofs.Shapes.{step_shape, slip_shape, note_shape, is_store, is_signal}
use Rattle.dsm_twoway.proofs.PlacePages.{pages_behind, AllMay, others_may, events_may}
use Rattle.dsm_twoway.proofs.Moving.{place, first_at, top_at, first_pages, does_moves, piece_moves, moves_of, pages_at}

-- events that run behind others run from where those lead
pub runs_behind : (home : Bool) (first top : ℕ) (f : State) (es older : List Event) → Runs home first top f (es ++ older) → Runs home first top (D.after home first f older) es
runs_behind home first top f [] older r = tt
runs_behind home first top f (e ∷ es) older r = (subst (λ z. May home first top z e) (RF.after_append home first top f es older) r.0, runs_behind home first top f es older r.1)

module _ (s : Setup) (h g i : ℕ) where
  module _ (n : ℕ) where
    abbrev owing : State → List Event → State
    owing f es = D.after (n == h) (n * s.procs) f es

    does_pages : (f : Option ℕ → State) (p : ℕ) {o : Own} {w : Work} {a : Act} {x : ℕ} {v : Work} (does : Does (who_at s p) o w a x v)
        → pages_after (place s h g i) (first_at s h g i) (top_at s h g i) f (does_moves s h g i f p does) (place_of h n) ≡ owing (f (place_of h n)) (RT.does_debts s h n g i (f (place_of h n)) p does)
    does_pages f p (Row within step) =
        pages_behind (place s h g i) h s.procs f n (step_node h g i (who_at s p) step) (step_value h g i (who_at s p) step) (is_store h n g i (who_at s p) (f (place_of h n)) step)
        (step_others h g i (who_at s p) step) (λ k. R.step_events h k g i (who_at s p) (f (place_of h k)) step) (step_shape h n g i (who_at s p) (f (place_of h n)) step)
    does_pages f p (Won turn within win is) = refl
    does_pages f p (Lost turn within win is) = refl
    does_pages f p (Aside may is) = refl

    piece_pages : (f : Option ℕ → State) {z : Position} (p : ℕ) (piece : Piece s z p)
        → pages_after (place s h g i) (first_at s h g i) (top_at s h g i) f (piece_moves s h g i f piece) (place_of h n) ≡ owing (f (place_of h n)) (RT.piece_debts s h n g i (f (place_of h n)) piece)
    piece_pages f p (Decides slip) =
        pages_behind (place s h g i) h s.procs f n (slip_node h g i (who_at s p) slip) 0 false [] (λ k. R.slip_events h k g i (who_at s p) (f (place_of h k)) slip) (slip_shape h n g i (who_at s p) (f (place_of h n)) slip)
    piece_pages f p (Acts any does) = does_pages f p does
    piece_pages f p (Notes e noted) =
        pages_behind (place s h g i) h s.procs f n (p / s.procs) 0 (is_signal h n g i (who_at s p) (f (place_of h n)) noted) (note_others h g i (who_at s p) noted) (λ k. R.note_events h k g i (who_at s p) noted) (note_shape h n g i (who_at s p) (f (place_of h n)) noted)
    piece_pages f p (Starves o none) = refl

    pub pages_are : {z : Position} (t : Trail s z) → pages_at s h g i t (place_of h n) ≡ RT.debts_at s h n g i t
    pages_are Starts = refl
    pages_are (Goes t p p_in fine piece fair quiet) =
        ap (λ f. f (place_of h n)) (pages_append (place s h g i) (first_at s h g i) (top_at s h g i) (first_pages s h g i) (piece_moves s h g i (pages_at s h g i t) piece) (moves_of s h g i t))
        ∙ piece_pages (pages_at s h g i t) p piece
        ∙ ap (λ f. owing f (RT.piece_debts s h n g i f piece)) (pages_are t)
        ∙ sym (RF.after_append (n == h) (n * s.procs) (n * s.procs + s.procs) (D.start 1 (λ q. D.Running)) (RT.piece_debts s h n g i (RT.debts_at s h n g i t) piece) (RT.debts_of s h n g i t))

  -- the node that a step is about
  abbrev pub does_node : (p : ℕ) {o : Own} {w : Work} {a : Act} {x : ℕ} {v : Work} → Does (who_at s p) o w a x v → ℕ
  does_node p (Row within step) = step_node h g i (who_at s p) step
  does_node p does = p / s.procs

  abbrev pub piece_node : {z : Position} {p : ℕ} → Piece s z p → ℕ
  piece_node {p = p} (Decides slip) = slip_node h g i (who_at s p) slip
  piece_node {p = p} (Acts any does) = does_node p does
  piece_node {p = p} piece = p / s.procs

  -- what the law for that node asks of the step's moves
  abbrev RunsAt : ℕ → State → List Event → Type 0
  RunsAt k f es = Runs (k == h) (k * s.procs) (k * s.procs + s.procs) f es

  does_may : (f : Option ℕ → State) (p : ℕ) {o : Own} {w : Work} {a : Act} {x : ℕ} {v : Work} (does : Does (who_at s p) o w a x v)
      → RunsAt (does_node p does) (f (place_of h (does_node p does))) (RT.does_debts s h (does_node p does) g i (f (place_of h (does_node p does))) p does) → AllMay (place s h g i) h s.procs f (does_moves s h g i f p does)
  does_may f p (Row within step) r =
      others_may (place s h g i) h s.procs f (step_others h g i (who_at s p) step) _ (events_may (place s h g i) h s.procs f (step_node h g i (who_at s p) step) (step_value h g i (who_at s p) step) (R.step_events h (step_node h g i (who_at s p) step) g i (who_at s p) (f (place_of h (step_node h g i (who_at s p) step))) step) r)
  does_may f p (Won turn within win is) r = tt
  does_may f p (Lost turn within win is) r = tt
  does_may f p (Aside may is) r = tt

  pub piece_may : (f : Option ℕ → State) {z : Position} (p : ℕ) (piece : Piece s z p)
      → RunsAt (piece_node piece) (f (place_of h (piece_node piece))) (RT.piece_debts s h (piece_node piece) g i (f (place_of h (piece_node piece))) piece) → AllMay (place s h g i) h s.procs f (piece_moves s h g i f piece)
  piece_may f p (Decides slip) r = events_may (place s h g i) h s.procs f (slip_node h g i (who_at s p) slip) 0 (R.slip_events h (slip_node h g i (who_at s p) slip) g i (who_at s p) (f (place_of h (slip_node h g i (who_at s p) slip))) slip) r
  piece_may f p (Acts any does) r = does_may f p does r
  piece_may f p (Notes e noted) r = others_may (place s h g i) h s.procs f (note_others h g i (who_at s p) noted) _ (events_may (place s h g i) h s.procs f (p / s.procs) 0 (R.note_events h (p / s.procs) g i (who_at s p) noted) r)
  piece_may f p (Starves o none) r = tt

  -- so they run, at a trail that the law for its node ties
  pub may_step : {z : Position} (t : Trail s z) (p : ℕ) (piece : Piece s z p)
      → RunsAt (piece_node piece) (D.start 1 (λ q. D.Running)) (RT.piece_debts s h (piece_node piece) g i (RT.debts_at s h (piece_node piece) g i t) piece ++ RT.debts_of s h (piece_node piece) g i t)
      → AllMay (place s h g i) h s.procs (pages_at s h g i t) (piece_moves s h g i (pages_at s h g i t) piece)
  may_step t p piece r =
      piece_may (pages_at s h g i t) p piece
      (subst (λ f. RunsAt (piece_node piece) f (RT.piece_debts s h (piece_node piece) g i f piece)) (sym (pages_are (piece_node piece) t))
      (runs_behind (piece_node piece == h) (piece_node piece * s.procs) (piece_node piece * s.procs + s.procs) (D.start 1 (λ q. D.Running)) (RT.piece_debts s h (piece_node piece) g i (RT.debts_at s h (piece_node piece) g i t) piece) (RT.debts_of s h (piece_node piece) g i t) r))
