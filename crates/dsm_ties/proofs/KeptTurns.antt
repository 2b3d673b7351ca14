-- Decisions and notes keep the turn of the place.
use Rattle.std.proofs.Common.{◌≡◌, ℕ, ◌==◌, Bool, true, false, List, Option, None, Some, refl, ◌∙◌, if◌then◌else◌}
use Rattle.std.specs.Prelude.{◌&&◌, not}
use Rattle.dsm_clock.specs.declared.turns.TurnId.{TurnId}
use Rattle.dsm_clock.specs.declared.turns.TurnId.TheVariants.{Page}
use Rattle.dsm_protocol.specs.Own.{Own, Who, node_of}
use Rattle.dsm_protocol.specs.Jobs.{Note}
use Rattle.dsm_protocol.specs.Stages.{Stage, Work, stage_turn, turn_at, lowered}
use Rattle.dsm_protocol.specs.Rows.{Slip, Noted, shared, marked, claimed, unlowered, dropped, emptied, maps}
use Rattle.dsm_protocol.specs.Standing.{Path, Stay, Decides, Notes}
use Rattle.dsm_protocol.proofs.Turning.{IsSettled, slip_settled, note_settled}

module _ (u : Who) where
  -- of two stages that hold the same turn, each choice holds it
  turn_of : (g : ℕ) {t : Option TurnId} (d : Bool) (s z : Stage) → stage_turn u g s ≡ t → stage_turn u g z ≡ t → stage_turn u g (if d then s else z) ≡ t
  turn_of g true s z a b = a
  turn_of g false s z a b = b

  -- behind a mapping that is lowered the turn of its node's copy is held
  lowered_turn : (g : ℕ) (flushed : Bool) → stage_turn u g (lowered u flushed) ≡ Some (Page (node_of u) g)
  lowered_turn g true = refl
  lowered_turn g false = refl

  -- a decision keeps the turn
  pub slip_turn : {ms : List ℕ} {ds : List Bool} {w v : Work} → Slip u ms ds w v → turn_at u v ≡ turn_at u w
  slip_turn (shared {g = g} {write = write} {row = row}) = turn_of g (row.busy == 0) _ _ (turn_of g (write && not row.others) _ _ refl refl) refl
  slip_turn (marked {g = g} {h = h} {j = j}) = turn_of g (j == h) _ _ refl refl
  slip_turn (claimed {g = g} {h = h} {row = row}) = turn_of g row.others _ _ refl (turn_of g (node_of u == h) _ _ refl refl)
  slip_turn (unlowered {g = g} {flushed = flushed} e) = lowered_turn g flushed
  slip_turn (dropped {g = g} {unwritten = unwritten}) = turn_of g unwritten _ _ refl refl
  slip_turn (emptied {g = g} {free = free}) = turn_of g free _ _ refl refl
  slip_turn slip = refl

  -- and so does a note
  pub note_turn : {w v : Work} {i : Note} → Noted u None w i v → IsSettled u w → turn_at u v ≡ turn_at u w
  note_turn maps owed = owed.0
  note_turn noted owed = refl

  -- so do decisions and notes, one behind the other
  pub path_turn : {w v : Work} {o q : Own} → Path u w o v q → IsSettled u w → turn_at u v ≡ turn_at u w
  path_turn Stay owed = refl
  path_turn (Decides slip path) owed = path_turn path (slip_settled u slip) ∙ slip_turn slip
  path_turn (Notes i noted path) owed = path_turn path (note_settled u noted owed) ∙ note_turn noted owed
