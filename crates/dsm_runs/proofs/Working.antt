-- A processor that has not ended stands before an operation.
use Rattle.std.proofs.Common.{◌≡◌, Bool, true, false, List, [], ◌∷◌, refl, if◌then◌else◌}
use Rattle.dsm_isa.specs.declared.instr.Instr.{Instr}
use Rattle.dsm_local.specs.declared.action.Action.{Action}
use Rattle.dsm_local.specs.declared.action.Action.TheVariants.{Set, Jump, LoadWord, StoreWord, Print, TakeLock, GiveLock, Meet, RaiseFlag, WaitFlag, Trap, Spend, Arrive}
use Rattle.dsm_local.specs.Readers.{next_action}
use Rattle.dsm_protocol.specs.Own.{Own, Who, setting_of, mapping, new_own}
use Rattle.dsm_protocol.specs.Jobs.{Job, Make, Again, Mark, Ask, Begin, Ended, own_after, job_after, is_ready}
use Rattle.dsm_protocol.specs.Steps.{fault_job, allows, page_of, load_job, store_job, action_job, head_job}
use Rattle.dsm_protocol.specs.declared.head.Head.{Head}
use Rattle.dsm_protocol.specs.declared.head.Head.TheVariants.{Instruction, Locking, Looking}
use Rattle.dsm_protocol.specs.Processors.{settled, run_on, wanting, processor_of}
use Rattle.dsm_runs.specs.Laws.{EveryProcessorIsReady}

module _ (u : Who) where
  abbrev IsReady : Own → Job → Type 0
  IsReady o j = is_ready (settled o j).todo ≡ true

  either : (p : Own) (b : Bool) (x y : Job) → IsReady p x → IsReady p y → IsReady p (if b then x else y)
  either p true x y h k = h
  either p false x y h k = k

  action_ready : (o p : Own) (a : Action) → IsReady p (action_job u o a)
  action_ready o p (Set d v) = refl
  action_ready o p (Jump to) = refl
  action_ready o p (LoadWord d w) = either p (allows false (mapping o (page_of u w))) (load_job u d w) (fault_job u false (page_of u w) (load_job u d w)) refl refl
  action_ready o p (StoreWord w v) = either p (allows true (mapping o (page_of u w))) (store_job u w v) (fault_job u true (page_of u w) (store_job u w v)) refl refl
  action_ready o p (Print v) = refl
  action_ready o p (TakeLock l) = refl
  action_ready o p (GiveLock l k) = refl
  action_ready o p (Meet b) = refl
  action_ready o p (RaiseFlag f) = refl
  action_ready o p (WaitFlag f need) = refl
  action_ready o p (Trap kind) = refl
  action_ready o p Spend = refl
  action_ready o p Arrive = refl

  head_ready : (code : List Instr) (o : Own) (h : Head) → IsReady o (head_job u code h)
  head_ready code o Instruction = action_ready o o (next_action code (setting_of u) o.reader)
  head_ready code o (Locking l) = refl
  head_ready code o (Looking of need) = refl

  pub run_ready : (code : List Instr) (j : Job) (o : Own) → is_ready (run_on u code o j).todo ≡ true
  run_ready code (Make a k) o = refl
  run_ready code (Again a wanted j) o = refl
  run_ready code (Mark n j) o = run_ready code j (own_after o n)
  run_ready code (Ask f) o = run_ready code (f o) o
  run_ready code (Begin h) o = head_ready code o h
  run_ready code (Ended e) o = refl

pub every_ready : EveryProcessorIsReady
unfolding processor_of
every_ready u code [] = run_ready u code (Begin Instruction) new_own
every_ready u code (g ∷ gs) = let m = wanting u g.starved (processor_of u code gs) in run_ready u code (job_after m.todo g.got) m.own
