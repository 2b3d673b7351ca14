-- An access that the mapping allows is one operation.
use Rattle.std.proofs.Common.{◌≡◌, ◌⊎◌, inl, inr, ℕ, Bool, true, false, List, refl, ap, ◌∙◌, if◌then◌else◌}
use Rattle.dsm_isa.specs.declared.instr.Instr.{Instr}
use Rattle.dsm_local.specs.declared.action.Action.{Action}
use Rattle.dsm_local.specs.declared.action.Action.TheVariants.{LoadWord, StoreWord}
use Rattle.dsm_local.specs.Readers.{next_action}
use Rattle.dsm_protocol.specs.declared.head.Head.TheVariants.{Instruction}
use Rattle.dsm_protocol.specs.Own.{Own, Who, setting_of, mapping}
use Rattle.dsm_protocol.specs.Jobs.{Job, Begin}
use Rattle.dsm_protocol.specs.Steps.{fault_job, allows, page_of, load_job, store_job, action_job}
use Rattle.dsm_protocol.specs.Processors.{begun}
use Rattle.dsm_protocol.proofs.Settling.{settled_action}
use Rattle.dsm_runs.specs.Turning.{MappedLoadIsOneOperation, MappedStoreIsOneOperation}

module _ (u : Who) (code : List Instr) (o : Own) where
  -- where the next action begins with this job, the processor stands before it
  begins : (a : Action) (j : Job) → next_action code (setting_of u) o.reader ≡ a → action_job u o a ≡ j → begun u code o (Begin Instruction) ≡ record { own = o; todo = j }
  begins a j is same = settled_action u o (next_action code (setting_of u) o.reader) ∙ ap (λ x. record { own = o; todo = action_job u o x }) is ∙ ap (λ x. record { own = o; todo = x }) same

  allowed : (write : Bool) (w : ℕ) (j : Job) → allows write (mapping o (page_of u w)) ≡ true → (if allows write (mapping o (page_of u w)) then j else fault_job u write (page_of u w) j) ≡ j
  allowed write w j may = ap (λ b. if b then j else fault_job u write (page_of u w) j) may

pub mapped_load : MappedLoadIsOneOperation
mapped_load u code o d w got is may =
    rw (begins u code o (LoadWord d w) (load_job u d w) is (allowed u code o false w (load_job u d w) (reads (mapping o (page_of u w)) may))) (refl, refl)
  where
    reads : (m : ℕ) → (m ≡ 1) ⊎ (m ≡ 2) → allows false m ≡ true
    reads m (inl e) = ap (allows false) e
    reads m (inr e) = ap (allows false) e

pub mapped_store : MappedStoreIsOneOperation
mapped_store u code o w v got is may =
    rw (begins u code o (StoreWord w v) (store_job u w v) is (allowed u code o true w (store_job u w v) (ap (allows true) may))) (refl, refl)
