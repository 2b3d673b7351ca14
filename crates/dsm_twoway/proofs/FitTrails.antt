-- Along a trail each processor's stage fits its round, and each that has not ended has a mapping of each page.
use Rattle.std.proofs.Common.{◌≡◌, ◌≢◌, ◌⊎◌, inl, inr, ℕ, ◌≤◌, length, refl, sym, ap, ◌∙◌, subst}
use Rattle.std.proofs.lemmas.Bool.{cases_eq, eq-eqb, ne_eqb}
use Rattle.dsm_words.specs.Script.{Act}
use Rattle.dsm_protocol.specs.Own.{Own}
use Rattle.dsm_protocol.specs.Stages.{Work, Gone}
use Rattle.dsm_protocol.specs.Standing.{Does, Row, Won, Lost, Aside}
use Rattle.dsm_runs.specs.Setups.{Setup, who_at}
use Rattle.dsm_ties.proofs.Trails.{Position, Piece, Decides, Acts, Notes, Starves, behind, Trail, Starts, Goes}
use Rattle.dsm_freshness.proofs.Frame.{Fits}
use Rattle.dsm_freshness.proofs.Fitting.{row_fits, win_fits, slip_fits, note_fits}
use Rattle.dsm_freshness.proofs.Trailing.{left, at_put, works_left}
use Rattle.dsm_releases.proofs.Fitting.{row_lives, win_lives, slip_lives, note_gone, note_maps}

module _ (s : Setup) where
  does_fits : (p : ℕ) {o : Own} {w : Work} {a : Act} {x : ℕ} {v : Work} → Does (who_at s p) o w a x v → Fits w → Fits v
  does_fits p (Row within step) k = row_fits (who_at s p) step k
  does_fits p (Won turn within win is) k = win_fits (who_at s p) win k
  does_fits p (Lost turn within win is) k = k
  does_fits p (Aside may is) k = k

  piece_fits : (z : Position) (p : ℕ) (piece : Piece s z p) → Fits (z.works p) → Fits (left s piece)
  piece_fits z p (Decides slip) k = slip_fits (who_at s p) slip k
  piece_fits z p (Acts any does) k = does_fits p does k
  piece_fits z p (Notes e noted) k = note_fits (who_at s p) noted k
  piece_fits z p (Starves o none) k = tt

  pub fits_along : {z : Position} (t : Trail s z) (q : ℕ) → Fits (z.works q)
  fits_along Starts q = tt
  fits_along (Goes {z = z} t p p_in fine piece fair quiet) q =
      subst Fits (works_left s z p piece q) (at_put Fits z.works p q (left s piece) (λ e. piece_fits z p piece (fits_along t p)) (λ ne. fits_along t q))

  -- who has not ended behind an operation had not before it
  does_lives : (p : ℕ) {o : Own} {w : Work} {a : Act} {x : ℕ} {v : Work} → Does (who_at s p) o w a x v → v ≢ Gone → w ≢ Gone
  does_lives p (Row within step) lives = row_lives (who_at s p) step
  does_lives p (Won turn within win is) lives = win_lives (who_at s p) win
  does_lives p (Lost turn within win ne) lives = lives
  does_lives p (Aside may is) lives = λ e. absurd (cc e)

  abbrev HasMaps : Position → ℕ → Type 0
  HasMaps z q = z.works q ≢ Gone → s.program.shape.pages ≤ length (z.owns q).maps

  maps_behind : (z : Position) (p q : ℕ) (piece : Piece s z p) → HasMaps z q → HasMaps (behind s z p piece) q
  maps_behind z p q (Decides slip) k lives = go (cases_eq q p)
    where
      go : (q ≡ p) ⊎ (q ≢ p) → s.program.shape.pages ≤ length (z.owns q).maps
      go (inl e) = k (λ d. slip_lives (who_at s p) slip (ap z.works (sym e) ∙ d))
      go (inr ne) = k (λ d. lives (rw (ne_eqb q p ne) d))
  maps_behind z p q (Acts any does) k lives = go (cases_eq q p)
    where
      go : (q ≡ p) ⊎ (q ≢ p) → s.program.shape.pages ≤ length (z.owns q).maps
      go (inl e) = k (λ d. does_lives p does (λ c. lives (rw (eq-eqb q p e) c)) (ap z.works (sym e) ∙ d))
      go (inr ne) = k (λ d. lives (rw (ne_eqb q p ne) d))
  maps_behind z p q (Notes i noted) k lives = go (cases_eq q p)
    where
      go : (q ≡ p) ⊎ (q ≢ p) → s.program.shape.pages ≤ length ((behind s z p (Notes i noted)).owns q).maps
      go (inl e) =
          rw (eq-eqb q p e)
          (subst (λ m. s.program.shape.pages ≤ m) (sym (note_maps (who_at s p) (z.owns p) noted))
          (subst (λ y. s.program.shape.pages ≤ length (z.owns y).maps) e (k (λ d. lives (rw (eq-eqb q p e) (note_gone (who_at s p) 0 0 0 0 noted (ap z.works (sym e) ∙ d)).0)))))
      go (inr ne) = rw (ne_eqb q p ne) (k (λ d. lives (rw (ne_eqb q p ne) d)))
  maps_behind z p q (Starves o none) k lives = go (cases_eq q p)
    where
      go : (q ≡ p) ⊎ (q ≢ p) → s.program.shape.pages ≤ length ((behind s z p (Starves o none)).owns q).maps
      go (inl e) = absurd (lives (rw (eq-eqb q p e) refl))
      go (inr ne) = rw (ne_eqb q p ne) (k (λ d. lives (rw (ne_eqb q p ne) d)))

  pub maps_along : s.program.shape.pages ≤ 256 → {z : Position} (t : Trail s z) (q : ℕ) → HasMaps z q
  maps_along few Starts q lives = few
  maps_along few (Goes {z = z} t p p_in fine piece fair quiet) q lives = maps_behind z p q piece (maps_along few t q) lives
