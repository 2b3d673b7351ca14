-- What rows, turns, decisions and notes give, events of a copy one behind the other, and operations aside, which are on no word of a copy.
use Rattle.std.proofs.Common.{◌≡◌, ℕ, List, [], ◌∷◌, ◌++◌, None, refl}
use Rattle.dsm_words.specs.declared.item.Item.{Item}
use Rattle.dsm_words.specs.declared.item.Item.TheVariants.{Lock, Barrier, Flag, Close, Stop}
use Rattle.dsm_words.specs.Script.{Act, Get, Put, Swap, Change, Add, Or, item_of}
use Rattle.dsm_clock.specs.declared.turns.TurnId.{TurnId}
use Rattle.dsm_protocol.specs.Own.{Own}
use Rattle.dsm_protocol.specs.Jobs.{Note}
use Rattle.dsm_protocol.specs.Stages.{Work}
use Rattle.dsm_protocol.specs.Rows.{Step, Wins, Slip, Noted}
use Rattle.dsm_protocol.specs.Standing.{IsAside, IsObject}
use Rattle.dsm_fresh.specs.Pages.{Event, State, happens, after}
use Rattle.dsm_fresh.specs.Premises.{Runs}
use Rattle.dsm_freshness.proofs.Words.{Scene, IsPart}
use Rattle.dsm_freshness.proofs.Frame.{RowActs, WinActs, SlipActs, NoteActs}

-- what the rows, turns, decisions and notes give
pub record EachActs : Type 0 where
  pub row : (c : Scene) (o : Own) {w v : Work} {a : Act} {x : ℕ} (step : Step c.u o.maps o.dirty w a x v) → RowActs c o step
  pub win : (c : Scene) (o : Own) {w v : Work} {t : TurnId} (win : Wins c.u o.maps o.dirty w t v) → WinActs c o win
  pub slip : (c : Scene) (o : Own) {w v : Work} (slip : Slip c.u o.maps o.dirty w v) → SlipActs c o slip
  pub note : (c : Scene) (o : Own) {w v : Work} {i : Note} (noted : Noted c.u None w i v) → NoteActs c o noted

module _ (first top : ℕ) where
  pub after_append : (f : State) (es fs : List Event) → after first f (es ++ fs) ≡ after first (after first f es) fs
  after_append f [] fs = refl
  after_append f (e ∷ es) fs = after_append (happens first f e) es fs

  pub runs_append : (f : State) (es fs : List Event) → Runs first top f es → Runs first top (after first f es) fs → Runs first top f (es ++ fs)
  runs_append f [] fs r q = q
  runs_append f (e ∷ es) fs r q = (r.0, runs_append (happens first f e) es fs r.1 q)

-- words of objects, and the stop word, are none of a copy's
object_off : (c : Scene) (it : Item) → IsObject it → IsPart c it → ⊥
object_off c (Lock l) i of = of
object_off c (Barrier l) i of = of
object_off c (Flag l) i of = of
object_off c Close i of = of
object_off c it i of = absurd i

pub aside_off : (c : Scene) (a : Act) → IsAside a → IsPart c (item_of a) → ⊥
aside_off c (Get Stop) i of = of
aside_off c (Get it) i of = object_off c it i of
aside_off c (Put it v) i of = object_off c it i of
aside_off c (Swap it v) i of = object_off c it i of
aside_off c (Change it v z) i of = object_off c it i of
aside_off c (Add it v) i of = object_off c it i of
aside_off c (Or it v) i of = object_off c it i of
