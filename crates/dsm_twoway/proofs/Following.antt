-- What the rows, turns, decisions and notes give, of every scene.
use Rattle.std.proofs.Common.{ℕ, None}
use Rattle.dsm_words.specs.Script.{Act}
use Rattle.dsm_clock.specs.declared.turns.TurnId.{TurnId}
use Rattle.dsm_protocol.specs.Own.{Own}
use Rattle.dsm_protocol.specs.Jobs.{Note}
use Rattle.dsm_protocol.specs.Stages.{Work}
use Rattle.dsm_protocol.specs.Rows.{Step, Wins, Slip, Noted}
use Rattle.dsm_twoway.proofs.Scene.{Scene, RowActs, WinActs, SlipActs, NoteActs}

-- what the rows, turns, decisions and notes give
pub record EachActs : Type 0 where
  pub row : (c : Scene) (o : Own) {w v : Work} {a : Act} {x : ℕ} (step : Step c.u o.maps o.dirty w a x v) → RowActs c o step
  pub win : (c : Scene) (o : Own) {w v : Work} {t : TurnId} (win : Wins c.u o.maps o.dirty w t v) → WinActs c o win
  pub slip : (c : Scene) (o : Own) {w v : Work} (slip : Slip c.u o.maps o.dirty w v) → SlipActs c o slip
  pub note : (c : Scene) (o : Own) {w v : Work} {i : Note} (noted : Noted c.u None w i v) → NoteActs c o noted
