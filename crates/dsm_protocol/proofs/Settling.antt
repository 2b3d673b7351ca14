-- Where a head's job begins.
use Rattle.std.proofs.Common.{◌≡◌, ℕ, Bool, true, false, List, None, refl, ap, ◌∙◌, if◌then◌else◌}
use Rattle.dsm_isa.specs.declared.instr.Instr.{Instr}
use Rattle.dsm_local.specs.declared.action.Action.{Action}
use Rattle.dsm_local.specs.declared.action.Action.TheVariants.{Set, Jump, LoadWord, StoreWord, Print, TakeLock, GiveLock, Meet, RaiseFlag, WaitFlag, Trap, Spend, Arrive}
use Rattle.dsm_local.specs.Readers.{next_action}
use Rattle.dsm_protocol.specs.declared.head.Head.TheVariants.{Instruction, Locking, Looking}
use Rattle.dsm_protocol.specs.Own.{Own, Who, setting_of, mapping}
use Rattle.dsm_protocol.specs.Jobs.{Job, Make, Again, Mark, Ask, Begin, Ended, job_after, end_of, has_ended}
use Rattle.dsm_protocol.specs.Steps.{fault_job, allows, page_of, load_job, store_job, action_job}
use Rattle.dsm_protocol.specs.Processors.{settled, begun, going_on, after_answer}

module _ (u : Who) (o : Own) where
  settled_if : (b : Bool) (x y : Job) → settled o x ≡ record { own = o; todo = x } → settled o y ≡ record { own = o; todo = y } → settled o (if b then x else y) ≡ record { own = o; todo = if b then x else y }
  settled_if true x y h k = h
  settled_if false x y h k = k

  runs_if : (b : Bool) (x y : Job) → has_ended x ≡ false → has_ended y ≡ false → has_ended (if b then x else y) ≡ false
  runs_if true x y h k = h
  runs_if false x y h k = k

  -- every action begins with an operation
  pub settled_action : (a : Action) → settled o (action_job u o a) ≡ record { own = o; todo = action_job u o a }
  settled_action (Set d v) = refl
  settled_action (Jump to) = refl
  settled_action (LoadWord d w) = settled_if (allows false (mapping o (page_of u w))) (load_job u d w) (fault_job u false (page_of u w) (load_job u d w)) refl refl
  settled_action (StoreWord w v) = settled_if (allows true (mapping o (page_of u w))) (store_job u w v) (fault_job u true (page_of u w) (store_job u w v)) refl refl
  settled_action (Print v) = refl
  settled_action (TakeLock l) = refl
  settled_action (GiveLock l k) = refl
  settled_action (Meet b) = refl
  settled_action (RaiseFlag f) = refl
  settled_action (WaitFlag f need) = refl
  settled_action (Trap kind) = refl
  settled_action Spend = refl
  settled_action Arrive = refl

  -- behind the first answer of an instruction that begins
  pub first_answer : (code : List Instr) (got : ℕ) → after_answer u code (begun u code o (Begin Instruction)) got ≡ going_on u code (settled o (job_after (action_job u o (next_action code (setting_of u) o.reader)) got))
  first_answer code got = ap (λ m. after_answer u code m got) (settled_action (next_action code (setting_of u) o.reader))

  -- where a head's job begins, the processor still holds the same
  pub same_own : (code : List Instr) (j : Job) → (begun u code o j).own ≡ o
  same_own code (Begin Instruction) = ap (λ m. m.own) (settled_action (next_action code (setting_of u) o.reader))
  same_own code (Begin (Locking l)) = refl
  same_own code (Begin (Looking of need)) = refl
  same_own code (Make a k) = refl
  same_own code (Again a wanted j) = refl
  same_own code (Mark n j) = refl
  same_own code (Ask f) = refl
  same_own code (Ended e) = refl

  -- no action has ended before its first operation
  action_runs : (a : Action) → has_ended (action_job u o a) ≡ false
  action_runs (Set d v) = refl
  action_runs (Jump to) = refl
  action_runs (LoadWord d w) = runs_if (allows false (mapping o (page_of u w))) (load_job u d w) (fault_job u false (page_of u w) (load_job u d w)) refl refl
  action_runs (StoreWord w v) = runs_if (allows true (mapping o (page_of u w))) (store_job u w v) (fault_job u true (page_of u w) (store_job u w v)) refl refl
  action_runs (Print v) = refl
  action_runs (TakeLock l) = refl
  action_runs (GiveLock l k) = refl
  action_runs (Meet b) = refl
  action_runs (RaiseFlag f) = refl
  action_runs (WaitFlag f need) = refl
  action_runs (Trap kind) = refl
  action_runs Spend = refl
  action_runs Arrive = refl

  -- so a processor that has not ended has not where a head's job begins
  pub still_runs : (code : List Instr) (j : Job) → end_of j ≡ None → has_ended (begun u code o j).todo ≡ false
  still_runs code (Begin Instruction) runs =
      let a = next_action code (setting_of u) o.reader in
      ap (λ m. has_ended m.todo) (settled_action a) ∙ action_runs a
  still_runs code (Begin (Locking l)) runs = refl
  still_runs code (Begin (Looking of need)) runs = refl
  still_runs code (Make a k) runs = refl
  still_runs code (Again a wanted j) runs = refl
  still_runs code (Mark n j) runs = refl
  still_runs code (Ask f) runs = refl
  still_runs code (Ended e) runs = absurd (cc runs)
