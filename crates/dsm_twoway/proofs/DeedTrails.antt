-- Along a trail the deeds are those of the traces.
use Rattle.std.proofs.Common.{◌≡◌, ◌≢◌, ◌⊎◌, inl, inr, false, ℕ, ◌*◌, ◌<◌, List, ◌++◌, Option, None, refl, sym, ap, ◌∙◌, subst, if◌then◌else◌}
use Rattle.std.proofs.lemmas.Bool.{cases_eq, eq-eqb, ne_eqb}
use Rattle.dsm_words.specs.Script.{Act}
use Rattle.dsm_flat.specs.Logs.{Log}
use Rattle.dsm_protocol.specs.Own.{Own}
use Rattle.dsm_protocol.specs.Jobs.{Note, Append}
use Rattle.dsm_protocol.specs.Stages.{Work}
use Rattle.dsm_protocol.specs.Rows.{Noted}
use Rattle.dsm_protocol.specs.Standing.{Does, Row, Won, Lost, Aside}
use Rattle.dsm_runs.specs.Setups.{Setup, who_at}
use Rattle.dsm_ties.proofs.Trails.{Position, Piece, Decides, Acts, Notes, Starves, behind, Fine, IsFair, IsQuiet, Trail, Starts, Goes, is_noting, piece_log, log_in}
use Rattle.dsm_freshness.proofs.Trailing.{left, works_left}
use Rattle.dsm_copies.specs.Copies as W
use Rattle.dsm_copies.specs.Joining.{deeds_in, deeds_of}
use Rattle.dsm_debts.specs.Page as D
use Rattle.dsm_debts.specs.Joining.{events_of}
use Rattle.dsm_twoway.proofs.Appending.{deeds_append, events_append}
use Rattle.dsm_twoway.proofs.DeedSteps.{Alike, logged, row_alike, slip_alike, win_alike, note_alike}
use Rattle.dsm_twoway.proofs.Moving.{place, first_at, top_at, address, first_pages, does_moves, piece_moves, moves_of, pages_at, events_at}
use Rattle.dsm_twoway.proofs.Rights.{none_pending, none_coming}

log_same : (s : Setup) (p : ℕ) (z : Position) {v : Work} (n : Note) (noted : Noted (who_at s p) None (z.works p) n v) (log : Log) → logged p n log ≡ piece_log s {z = z} p (Notes n noted) log
log_same s p z (Append e) noted log = refl
log_same s p z n noted log = refl

-- where it has nothing to note, both are the same
pub quiet_alike : (s : Setup) (a p : ℕ) (w : Work) (done log : List W.Event) → is_noting (who_at s p) w ≡ false → Alike a p w done log → done ≡ log
quiet_alike s a p w done log quiet alike = sym (ap (λ x. x ++ done) (none_coming (who_at s p) p w quiet)) ∙ alike ∙ ap (λ x. x ++ log) (none_pending (who_at s p) a p w quiet)

pub alike_quiet : (s : Setup) (a p : ℕ) (w : Work) (done log : List W.Event) → is_noting (who_at s p) w ≡ false → done ≡ log → Alike a p w done log
alike_quiet s a p w done log quiet same = ap (λ x. x ++ done) (none_coming (who_at s p) p w quiet) ∙ same ∙ sym (ap (λ x. x ++ log) (none_pending (who_at s p) a p w quiet))

module _ (s : Setup) (h g i : ℕ) (i_in : i < s.program.shape.words) where
  abbrev word_at : ℕ
  word_at = address s h g i

  abbrev added : (Option ℕ → D.State) → {z : Position} {p : ℕ} → Piece s z p → List W.Event
  added f piece = deeds_in (events_of (place s h g i) (first_at s h g i) (top_at s h g i) f (piece_moves s h g i f piece))

  does_alike : (f : Option ℕ → D.State) (p : ℕ) {o : Own} {w : Work} {a : Act} {x : ℕ} {v : Work} (does : Does (who_at s p) o w a x v) (done log : List W.Event) → Alike word_at p w done log
      → Alike word_at p v (deeds_in (events_of (place s h g i) (first_at s h g i) (top_at s h g i) f (does_moves s h g i f p does)) ++ done) log
  does_alike f p (Row within step) done log alike = row_alike (place s h g i) (first_at s h g i) (top_at s h g i) f h g i (who_at s p) i_in step done log alike
  does_alike f p (Won turn within win is) done log alike = win_alike (place s h g i) (first_at s h g i) (top_at s h g i) f h g i (who_at s p) i_in win done log alike
  does_alike f p (Lost turn within win is) done log alike = alike
  does_alike f p (Aside may is) done log alike = alike

  piece_alike : (f : Option ℕ → D.State) {z : Position} (p : ℕ) (piece : Piece s z p) → IsFair s z p piece → (done : List W.Event) (log : Log) → Alike word_at p (z.works p) done (deeds_of word_at log)
      → Alike word_at p (left s piece) (added f piece ++ done) (deeds_of word_at (piece_log s p piece log))
  piece_alike f p (Decides slip) fair done log alike = slip_alike (place s h g i) (first_at s h g i) (top_at s h g i) f h g i (who_at s p) i_in slip done (deeds_of word_at log) alike
  piece_alike f p (Acts any does) fair done log alike = does_alike f p does done (deeds_of word_at log) alike
  piece_alike f {z = z} p (Notes {v = v} n noted) fair done log alike =
      subst (λ l. Alike word_at p v (added f {z = z} {p = p} (Notes n noted) ++ done) (deeds_of word_at l)) (log_same s p z n noted log) (note_alike (place s h g i) (first_at s h g i) (top_at s h g i) f h g i (who_at s p) i_in noted done log alike)
  piece_alike f {z = z} p (Starves o none) fair done log alike = quiet_alike s word_at p (z.works p) done (deeds_of word_at log) fair.3 alike

  -- where each processor stands behind a step
  works_mover : (z : Position) (p : ℕ) (piece : Piece s z p) → (behind s z p piece).works p ≡ left s piece
  works_mover z p piece = sym (works_left s z p piece p) ∙ ap (λ b. if b then left s piece else z.works p) (eq-eqb p p refl)

  works_other : (z : Position) (p : ℕ) (piece : Piece s z p) (q : ℕ) → q ≢ p → (behind s z p piece).works q ≡ z.works q
  works_other z p piece q ne = sym (works_left s z p piece q) ∙ ap (λ b. if b then left s piece else z.works q) (ne_eqb q p ne)

  -- a step
  deeds_step : (z : Position) (t : Trail s z) (p : ℕ) (p_in : p < s.nodes * s.procs) (fine : Fine s z) (piece : Piece s z p) (fair : IsFair s z p piece) (quiet : IsQuiet s z p)
      → Alike word_at p (z.works p) (deeds_in (events_at s h g i t)) (deeds_of word_at (log_in s t))
      → (r : ℕ) → r < s.nodes * s.procs → ((q : ℕ) → q ≢ r → q < s.nodes * s.procs → is_noting (who_at s q) ((behind s z p piece).works q) ≡ false)
      → Alike word_at r ((behind s z p piece).works r) (deeds_in (events_at s h g i (Goes t p p_in fine piece fair quiet))) (deeds_of word_at (piece_log s p piece (log_in s t)))
  deeds_step z t p p_in fine piece fair quiet before r r_in others = go (cases_eq r p)
    where
      f : Option ℕ → D.State
      f = pages_at s h g i t

      w' : ℕ → Work
      w' q = (behind s z p piece).works q

      old : List W.Event
      old = deeds_in (events_at s h g i t)

      new : List W.Event
      new = deeds_in (events_at s h g i (Goes t p p_in fine piece fair quiet))

      log : List W.Event
      log = deeds_of word_at (piece_log s p piece (log_in s t))

      same : added f piece ++ old ≡ new
      same = sym (ap deeds_in (events_append (place s h g i) (first_at s h g i) (top_at s h g i) (first_pages s h g i) (piece_moves s h g i f piece) (moves_of s h g i t)) ∙ deeds_append (events_of (place s h g i) (first_at s h g i) (top_at s h g i) f (piece_moves s h g i f piece)) (events_at s h g i t))

      mover : Alike word_at p (w' p) new log
      mover =
          subst (λ v. Alike word_at p v new log) (sym (works_mover z p piece))
          (subst (λ d. Alike word_at p (left s piece) d log) same (piece_alike f p piece fair old (log_in s t) before))

      go : (r ≡ p) ⊎ (r ≢ p) → Alike word_at r (w' r) new log
      go (inl e) = subst (λ q. Alike word_at q (w' q) new log) (sym e) mover
      go (inr ne) =
          alike_quiet s word_at r (w' r) new log (ap (is_noting (who_at s r)) (works_other z p piece r ne) ∙ quiet r ne r_in)
          (quiet_alike s word_at p (w' p) new log (others p (λ e. ne (sym e)) p_in) mover)

  -- at each position: where all others have nothing to note
  pub deeds_alike : {z : Position} (t : Trail s z) → (r : ℕ) → r < s.nodes * s.procs → ((q : ℕ) → q ≢ r → q < s.nodes * s.procs → is_noting (who_at s q) (z.works q) ≡ false)
      → Alike word_at r (z.works r) (deeds_in (events_at s h g i t)) (deeds_of word_at (log_in s t))
  deeds_alike Starts r r_in others = refl
  deeds_alike (Goes {z = z} t p p_in fine piece fair quiet) r r_in others = deeds_step z t p p_in fine piece fair quiet (deeds_alike t p p_in quiet) r r_in others
