-- A processor that stands before an operation, or at its end, has noted all that its last operation brought.
use Rattle.std.proofs.Common.{◌≡◌, ℕ, Bool, true, false, List, None, refl}
use Rattle.dsm_words.specs.Script.{Act}
use Rattle.dsm_clock.specs.declared.turns.TurnId.{TurnId}
use Rattle.dsm_sync.specs.declared.counter.Counter.TheVariants.{Close}
use Rattle.dsm_protocol.specs.declared.head.Head.{Head}
use Rattle.dsm_protocol.specs.declared.head.Head.TheVariants.{Instruction, Locking, Looking}
use Rattle.dsm_protocol.specs.Own.{Own, Who}
use Rattle.dsm_protocol.specs.Jobs.{Job, is_ready}
use Rattle.dsm_protocol.specs.Processors.{Processor}
use Rattle.dsm_protocol.specs.Stages.{Round, Waiting, Signalling, Arrived, Work, Off}
use Rattle.dsm_protocol.specs.Rows.{Step, gives, Wins, faults, Slip, unsent}
use Rattle.dsm_protocol.specs.Standing.{IsOpen, at_head, Works, Makes, Takes, Marks, Asks, Slips, Rests, Asides, Begins, Ends, Halts, Stands}
use Rattle.dsm_ties.proofs.Trails.{is_noting}

module _ (u : Who) {ms : List ℕ} {ds : List Bool} where
  -- no operation is made amid the notes of another, no turn is won and nothing decided
  step_quiet : {w : Work} {a : Act} {x : ℕ} {v : Work} → Step u ms ds w a x v → is_noting u w ≡ false
  step_quiet gives = refl
  step_quiet row = refl

  wins_quiet : {w : Work} {turn : TurnId} {v : Work} → Wins u ms ds w turn v → is_noting u w ≡ false
  wins_quiet (faults barred) = refl
  wins_quiet row = refl

  slip_quiet : {w v : Work} → Slip u ms ds w v → is_noting u w ≡ false
  slip_quiet (unsent none) = none
  slip_quiet row = refl

module _ (u : Who) where
  open_quiet : (r : Round) → IsOpen r → is_noting u (Off r) ≡ false
  open_quiet Waiting may = refl
  open_quiet Arrived may = refl
  open_quiet (Signalling t0) may = refl
  open_quiet r may = absurd may

  head_quiet : (h : Head) → is_noting u (Off (at_head h)) ≡ false
  head_quiet Instruction = refl
  head_quiet (Locking l) = refl
  head_quiet (Looking Close need) = refl
  head_quiet (Looking of need) = refl

  -- so it is not amid its notes where its job begins with an operation
  works_quiet : {w : Work} {o : Own} {j : Job} → Works u None w o j → is_ready j ≡ true → is_noting u w ≡ false
  works_quiet (Makes within row k) ready = step_quiet u (row 0)
  works_quiet (Takes turn within row k) ready = wins_quiet u row
  works_quiet (Slips row k) ready = slip_quiet u row
  works_quiet (Asides {r = r} none may is k) ready = open_quiet r may
  works_quiet (Begins {h = h} none) ready = head_quiet h
  works_quiet (Ends none go_on) ready = refl
  works_quiet (Halts none) ready = refl
  works_quiet (Rests is resting) ready = absurd (cc is)
  works_quiet (Marks row k) ready = absurd (cc ready)
  works_quiet (Asks k) ready = absurd (cc ready)

  -- where it stands
  pub stands_quiet : {w : Work} {m : Processor} → Stands u w m → is_noting u w ≡ false
  stands_quiet h = works_quiet h.works h.ready
