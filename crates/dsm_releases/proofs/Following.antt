-- What the rows give, and events behind others; operations aside are on no word of what is owed.
use Rattle.std.proofs.Common.{◌≡◌, ℕ, Bool, List, [], ◌∷◌, ◌++◌, None, refl, sym, ap, subst}
use Rattle.dsm_words.specs.declared.item.Item.{Item}
use Rattle.dsm_words.specs.declared.item.Item.TheVariants.{Lock, Barrier, Flag, Close, Stop}
use Rattle.dsm_words.specs.Script.{Act, Get, Put, Swap, Change, Add, Or, item_of}
use Rattle.dsm_clock.specs.declared.turns.TurnId.{TurnId}
use Rattle.dsm_protocol.specs.Own.{Own}
use Rattle.dsm_protocol.specs.Jobs.{Note}
use Rattle.dsm_protocol.specs.Stages.{Work}
use Rattle.dsm_protocol.specs.Rows.{Step, Wins, Slip, Noted}
use Rattle.dsm_protocol.specs.Standing.{IsAside, IsObject}
use Rattle.dsm_debts.specs.Page.{Event, State, after_event, after}
use Rattle.dsm_debts.specs.Premises.{May, Runs}
use Rattle.dsm_releases.proofs.Words.{Scene, IsPart}
use Rattle.dsm_releases.proofs.Frame.{RowActs, WinActs, SlipActs, NoteActs}

-- what the rows, turns, decisions and notes give
pub record EachActs : Type 0 where
  pub row : (c : Scene) (o : Own) {w v : Work} {a : Act} {x : ℕ} (step : Step c.u o.maps o.dirty w a x v) → RowActs c o step
  pub win : (c : Scene) (o : Own) {w v : Work} {t : TurnId} (win : Wins c.u o.maps o.dirty w t v) → WinActs c o win
  pub slip : (c : Scene) (o : Own) {w v : Work} (slip : Slip c.u o.maps o.dirty w v) → SlipActs c o slip
  pub note : (c : Scene) (o : Own) {w v : Work} {i : Note} (noted : Noted c.u None w i v) → NoteActs c o noted

-- events that are made behind others, each list newest first
module _ (home : Bool) (first top : ℕ) where
  pub after_append : (f : State) (es older : List Event) → after home first f (es ++ older) ≡ after home first (after home first f older) es
  after_append f [] older = refl
  after_append f (e ∷ es) older = ap (λ z. after_event home first z e) (after_append f es older)

  pub runs_append : (f : State) (es older : List Event) → Runs home first top f older → Runs home first top (after home first f older) es → Runs home first top f (es ++ older)
  runs_append f [] older r q = r
  runs_append f (e ∷ es) older r q = (subst (λ z. May home first top z e) (sym (after_append f es older)) q.0, runs_append f es older r q.1)

-- words of objects, and the stop word, are none of these
object_off : (c : Scene) (it : Item) → IsObject it → IsPart c it → ⊥
object_off c (Lock l) i of = of
object_off c (Barrier l) i of = of
object_off c (Flag l) i of = of
object_off c Close i of = of
object_off c it i of = absurd i

pub aside_off : (c : Scene) (a : Act) → IsAside a → IsPart c (item_of a) → ⊥
aside_off c (Get Stop) i of = of
aside_off c (Get it) i of = object_off c it i of
aside_off c (Put it v) i of = object_off c it i of
aside_off c (Swap it v) i of = object_off c it i of
aside_off c (Change it v z) i of = object_off c it i of
aside_off c (Add it v) i of = object_off c it i of
aside_off c (Or it v) i of = object_off c it i of
