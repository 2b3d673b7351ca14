-- What is left of a store's fault behind each phase that a load's has not.
use Rattle.std.specs.Prelude.{ℕ, Bool, true, false, if◌then◌else◌}
use Rattle.dsm_directory.specs.Directory.{sharers_script, withdraw_script}
use Rattle.dsm_twin.specs.Twins.{make_twin_script}
use Rattle.dsm_machine.specs.declared.outcome.Outcome.{Outcome}
use Rattle.dsm_machine.specs.declared.write.WriteAt.{WriteAt}
use Rattle.dsm_machine.specs.declared.write.WriteAt.TheVariants.{Sole, Claimed, Relooked, Withdrawn, EnterDrawn, EnterCopied, EnterStamped, Entered, TwinFound, TwinMade}
use Rattle.dsm_machine.specs.Results.{number_of, whether_of, row_of}
use Rattle.dsm_protocol.specs.Own.{Who, Overwrites, Twins, Enters, node_of}
use Rattle.dsm_protocol.specs.Jobs.{Job, Mark, Count, call}
use Rattle.dsm_protocol.specs.Steps.{page_of, copied_job, updated_job, copy_job, alone_job, shared_job, share_job, entered_job, enter_job, claim_job, store_job}

-- another node has used the page since it was claimed, or none has
abbrev pub relooked_job : Who → ℕ → ℕ → Job → Bool → Job
relooked_job u g h rest others = if others then call (withdraw_script (node_of u) g) (λ _. share_job u true g h rest) else enter_job u g h rest

-- behind each phase
abbrev pub write_next : Who → ℕ → ℕ → WriteAt → Outcome → Job
write_next u w v (Sole h) x = if whether_of x then share_job u true (page_of u w) h (store_job u w v) else claim_job u (page_of u w) h (store_job u w v)
write_next u w v (Claimed h) x = call (sharers_script u.lay (node_of u) (page_of u w)) (λ row. relooked_job u (page_of u w) h (store_job u w v) row.others)
write_next u w v (Relooked h) x = relooked_job u (page_of u w) h (store_job u w v) (row_of x).others
write_next u w v (Withdrawn h) x = share_job u true (page_of u w) h (store_job u w v)
write_next u w v (EnterDrawn h) x = copy_job u (page_of u w) h false (updated_job u (page_of u w) (number_of x) (entered_job u (page_of u w) (store_job u w v)))
write_next u w v (EnterCopied t) x = copied_job u (page_of u w) Overwrites (updated_job u (page_of u w) t (entered_job u (page_of u w) (store_job u w v)))
write_next u w v EnterStamped x = entered_job u (page_of u w) (store_job u w v)
write_next u w v Entered x = Mark (Count Enters) (alone_job u true (page_of u w) (store_job u w v))
write_next u w v TwinFound x =
    if whether_of x then shared_job u true (page_of u w) (store_job u w v)
    else call (make_twin_script u.lay (node_of u) (page_of u w)) (λ _. Mark (Count Twins) (shared_job u true (page_of u w) (store_job u w v)))
write_next u w v TwinMade x = Mark (Count Twins) (shared_job u true (page_of u w) (store_job u w v))

-- the home of a point, or 0
abbrev pub write_home : WriteAt → ℕ
write_home (Sole h) = h
write_home (Claimed h) = h
write_home (Relooked h) = h
write_home (Withdrawn h) = h
write_home (EnterDrawn h) = h
write_home _ = 0
