-- What a run taken apart is to the copies of a word: its moves, and what is to be shown of them.
use Rattle.std.proofs.Common.{◌≡◌, ◌≢◌, false, ℕ, ◌+◌, ◌*◌, ◌/◌, ◌<◌, List, [], ◌++◌, Option}
use Rattle.dsm_protocol.specs.Stages.{Work}
use Rattle.dsm_protocol.specs.Standing.{Does, Row, Won, Lost, Aside}
use Rattle.dsm_protocol.specs.Own.{Own}
use Rattle.dsm_words.specs.Script.{Act}
use Rattle.dsm_runs.specs.Setups.{Setup, initial, who_at}
use Rattle.dsm_ties.proofs.Trails.{Position, Piece, Decides, Acts, Notes, Starves, Trail, Starts, Goes, is_noting, log_in}
use Rattle.dsm_copies.specs.Copies as W
use Rattle.dsm_copies.specs.Premises.{Order, But}
use Rattle.dsm_copies.specs.Counts.{Count, no_count, count_after}
use Rattle.dsm_copies.specs.Debts.{Debts, no_debts, debts_after, RunsOf}
use Rattle.dsm_copies.specs.Joining.{deeds_in, deeds_of}
use Rattle.dsm_debts.specs.Page as D
use Rattle.dsm_debts.specs.Joining.{Move, OnOthers, RunsMoves, events_of, pages_after, pages_start}
use Rattle.dsm_fresh.specs.Pages as F'
use Rattle.dsm_freshness.proofs.Trailing.{piece_fresh}
use Rattle.dsm_twoway.specs.Views.{pending, coming}
use Rattle.dsm_twoway.specs.Events.{place_of, step_moves, slip_moves, note_moves}
use Rattle.dsm_twoway.specs.Tied.{Match, Knows}
use Rattle.dsm_twoway.proofs.Scene.{node_at}

module _ (s : Setup) (h g i : ℕ) where
  -- where processor p is, and the first processor of a place and the first past it
  abbrev pub place : ℕ → Option ℕ
  place p = place_of h (p / s.procs)

  abbrev pub first_at : Option ℕ → ℕ
  first_at k = node_at h k * s.procs

  abbrev pub top_at : Option ℕ → ℕ
  top_at k = node_at h k * s.procs + s.procs

  -- the word's address, and the value with which it starts
  abbrev pub address : ℕ
  address = g * s.program.shape.words + i

  abbrev pub first_value : ℕ
  first_value = initial s.program.init address

  -- the states before any step
  abbrev pub first_pages : Option ℕ → D.State
  first_pages = pages_start (λ k. 1) (λ k q. D.Running)

  abbrev pub first_copies : W.State
  first_copies = W.start first_value (λ n. first_value) (λ n. 0)

  -- what a step is to the copies, newest first,
  abbrev pub does_moves : (f : Option ℕ → D.State) (p : ℕ) {o : Own} {w : Work} {a : Act} {x : ℕ} {v : Work} → Does (who_at s p) o w a x v → List Move
  does_moves f p (Row within step) = step_moves h g i (who_at s p) f step
  does_moves f p (Won turn within win is) = []
  does_moves f p (Lost turn within win is) = []
  does_moves f p (Aside may is) = []

  abbrev pub piece_moves : (f : Option ℕ → D.State) {z : Position} {p : ℕ} → Piece s z p → List Move
  piece_moves f {p = p} (Decides slip) = slip_moves h g i (who_at s p) f slip
  piece_moves f {p = p} (Acts any does) = does_moves f p does
  piece_moves f {p = p} (Notes e noted) = note_moves h g i (who_at s p) noted
  piece_moves f (Starves o none) = []

  -- and what a trail is
  abbrev pub moves_of : {z : Position} → Trail s z → List Move
  moves_of Starts = []
  moves_of (Goes t p p_in fine piece fair quiet) = piece_moves (pages_after place first_at top_at first_pages (moves_of t)) piece ++ moves_of t

  -- the states behind it
  abbrev pub pages_at : {z : Position} → Trail s z → Option ℕ → D.State
  pages_at t = pages_after place first_at top_at first_pages (moves_of t)

  abbrev pub events_at : {z : Position} → Trail s z → List W.Event
  events_at t = events_of place first_at top_at first_pages (moves_of t)

  abbrev pub copies_at : {z : Position} → Trail s z → W.State
  copies_at t = W.after place first_copies (events_at t)

  abbrev pub count_at : {z : Position} → Trail s z → Count
  count_at t = count_after place first_copies no_count (events_at t)

  abbrev pub debts_at : {z : Position} → Trail s z → Debts
  debts_at t = debts_after place first_copies no_debts (events_at t)

  abbrev pub fresh_in : {z : Position} → Trail s z → (m n : ℕ) → F'.State
  fresh_in Starts m n = F'.start
  fresh_in (Goes t p p_in fine piece fair quiet) m n = F'.after (n * s.procs) (fresh_in t m n) (piece_fresh s m n g piece)

  -- The moves keep all premises, but that of order; the words and places show where they lead; and they say of the processors what their traces say.
  pub record WordTied {z : Position} (t : Trail s z) : Type 0 where
    pub moves : RunsMoves place first_at top_at first_pages first_copies (moves_of t)
    pub others : RunsOf place (λ r. But Order r × OnOthers r) first_copies no_count no_debts (events_at t)
    pub match : Match h g i (who_at s 0) z.words (fresh_in t) (copies_at t) (count_at t)
    pub knows : (p : ℕ) → p < s.nodes * s.procs → Knows h g i (who_at s p) z.words (fresh_in t) (pages_at t) (copies_at t) (count_at t) (z.works p)
    pub deeds : (p : ℕ) → p < s.nodes * s.procs → ((q : ℕ) → q ≢ p → q < s.nodes * s.procs → is_noting (who_at s q) (z.works q) ≡ false) → coming p (z.works p) ++ deeds_in (events_at t) ≡ pending address p (z.works p) ++ deeds_of address (log_in s t)
