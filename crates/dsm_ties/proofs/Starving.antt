-- A processor that is starved ends, at rest or in its visits of a page.
use Rattle.std.proofs.Common.{◌≡◌, ◌≢◌, ℕ, ◌+◌, ◌<◌, Bool, true, false, List, length, Option, None, Some, refl, sym, ap, ◌∙◌}
use Rattle.std.specs.Prelude.{is_some, slice_index_or, ◌||◌}
use Rattle.dsm_words.specs.declared.item.Item.TheVariants.{Stop}
use Rattle.dsm_words.specs.Place.{total}
use Rattle.dsm_words.specs.Script.{Act, Change}
use Rattle.dsm_words.specs.Words.{done}
use Rattle.dsm_clock.specs.declared.turns.TurnId.{TurnId}
use Rattle.dsm_protocol.specs.Own.{Own, Who}
use Rattle.dsm_protocol.specs.Jobs.{Job, has_ended, is_ready}
use Rattle.dsm_protocol.specs.Stages.{Work, Gone, turn_at}
use Rattle.dsm_protocol.specs.Rows.{Step, Wins, Slip, stops, faults, ends}
use Rattle.dsm_protocol.specs.Standing.{Works, Makes, Takes, Marks, Asks, Slips, Rests, Asides, Begins, Ends, Halts}
use Rattle.dsm_protocol.proofs.Placed.{IsPlaced}
use Rattle.dsm_owners.specs.Directory.{State}
use Rattle.dsm_ties.specs.Events.{starved_events}
use Rattle.dsm_ties.specs.Views.{is_cleaned}
use Rattle.dsm_ties.specs.Tied.{Match}
use Rattle.dsm_ties.proofs.Frame.{Acted, Now}
use Rattle.dsm_ties.proofs.OffEvents.{starved, open_clean}

module _ {u : Who} where
  -- one that stands before an operation is not at the end of a page's release
  step_clean : (g : ℕ) {ms : List ℕ} {ds : List Bool} {w : Work} {a : Act} {x : ℕ} {v : Work} → Step u ms ds w a x v → (is_cleaned w g ≡ false) × (w ≢ Gone)
  step_clean g stops = (refl, λ e. absurd (cc e))
  step_clean g step = (refl, λ e. absurd (cc e))

  win_clean : (g : ℕ) {ms : List ℕ} {ds : List Bool} {w v : Work} {t : TurnId} → Wins u ms ds w t v → (is_cleaned w g ≡ false) × (w ≢ Gone)
  win_clean g (faults d) = (refl, λ e. absurd (cc e))
  win_clean g win = (refl, λ e. absurd (cc e))

  slip_clean : (g : ℕ) {ms : List ℕ} {ds : List Bool} {w v : Work} → Slip u ms ds w v → (is_cleaned w g ≡ false) × (w ≢ Gone)
  slip_clean g ends = (refl, λ e. absurd (cc e))
  slip_clean g slip = (refl, λ e. absurd (cc e))

  pub works_clean : (g : ℕ) {w : Work} {o : Own} {j : Job} → Works u None w o j → is_ready j ≡ true → has_ended j ≡ false → (is_cleaned w g ≡ false) × (w ≢ Gone)
  works_clean g (Makes within row k) r e = step_clean g (row 0)
  works_clean g (Takes turn within win k) r e = win_clean g win
  works_clean g (Marks noted k) r e = absurd (cc r)
  works_clean g (Asks k) r e = absurd (cc r)
  works_clean g (Slips slip k) r e = slip_clean g slip
  works_clean g (Rests is resting) r e = absurd (cc is)
  works_clean g (Asides {r = t} none may aside k) r e = (open_clean g t may, λ e. absurd (cc e))
  works_clean g (Begins none) r e = absurd (cc r)
  works_clean g (Ends none other) r e = absurd (cc e)
  works_clean g (Halts none) r e = absurd (cc e)

pub no_turn : (ended : Bool) (t : Option TurnId) → (ended || is_some t) ≡ false → (ended ≡ false) × (t ≡ None)
no_turn true t e = absurd (cc e)
no_turn false None e = (refl, refl)
no_turn false (Some t) e = absurd (cc e)

module _ (u : Who) (at : IsPlaced u) (g : ℕ) (g_in : g < u.lay.pages) (ws : List ℕ) (long : length ws ≡ total u.lay) (b : State) (m : Match u g ws b) where
  -- what it holds then is as dirty as before
  pub starved_acts : (w : Work) {o p : Own} → is_cleaned w g ≡ false → w ≢ Gone → turn_at u w ≡ None → p.dirty ≡ o.dirty → Now u at g g_in ws long b m w o → Acted u at g g_in ws long b m p Gone (done u.lay ws (Change Stop 0 (u.p + 1))) (starved_events u g w)
  starved_acts w {o} {p} clean lives none same k =
      let h = starved u at g g_in ws long b m o w none lives clean k in
      record {
        runs = h.runs;
        match = h.match;
        knows = record { at = h.knows.at; round = tt; met = tt; dirty = λ c d. h.knows.dirty c (ap (λ z. slice_index_or z g false) (sym same) ∙ d); soils = tt; joins = tt; told = tt; heard = tt; homes = tt; times = tt };
      }
