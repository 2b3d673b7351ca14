-- A phase under way as a part of a job.
use Rattle.std.specs.Prelude.{Bool, false, if◌then◌else◌}
use Rattle.dsm_words.specs.declared.turn.Turn.{Turn}
use Rattle.dsm_words.specs.declared.turn.Turn.TheVariants.{More, Done}
use Rattle.dsm_words.specs.Place.{Lay}
use Rattle.dsm_words.specs.Script.{is_open, first}
use Rattle.dsm_clock.specs.Times.{draw_rest, draw_lay, stamp_rest, stamp_lay}
use Rattle.dsm_clock.specs.Taking.{take_rest, take_lay, give_rest, give_lay}
use Rattle.dsm_frames.specs.Frames.{map_rest, map_lay}
use Rattle.dsm_directory.specs.Rests.{sharers_rest, sharers_lay, my_dir_rest, my_dir_lay, holder_rest, holder_lay, register_rest, register_lay}
use Rattle.dsm_directory.specs.Rests.{claim_rest, claim_lay, withdraw_rest, withdraw_lay, leave_rest, leave_lay, home_rest, home_lay}
use Rattle.dsm_twin.specs.Rests.{has_rest, has_lay, make_rest, make_lay, drop_rest, drop_lay}
use Rattle.dsm_notice.specs.Posting.{is_or}
use Rattle.dsm_notice.specs.Rests.{post_rest, post_lay, drain_rest, drain_lay, own_rest, own_lay, stale_rest, stale_lay}
use Rattle.dsm_outgoing.specs.Sending.{last_flush_rest, last_flush_lay, flush_rest, flush_lay}
use Rattle.dsm_incoming.specs.Getting.{merge_rest, merge_lay, overwrite_rest, overwrite_lay}
use Rattle.dsm_exclusive.specs.Breaking.{break_rest, break_lay}
use Rattle.dsm_exclusive.specs.Entering.{enter_rest, enter_lay}
use Rattle.dsm_exclusive.specs.Telling.{take_nle_rest, take_nle_lay}
use Rattle.dsm_sync.specs.Counting.{look_rest, look_lay, arrive_rest, arrive_lay, set_rest, set_lay}
use Rattle.dsm_sync.specs.Locks.{lock_rest, lock_lay, unlock_rest, unlock_lay}
use Rattle.dsm_protocol.specs.Own.{Own, Notices, counted}
use Rattle.dsm_protocol.specs.Jobs.{Job, Happen, Began, call, call_noting, call_counting}
use Rattle.dsm_machine.specs.declared.outcome.Outcome.{Outcome}
use Rattle.dsm_machine.specs.declared.outcome.Outcome.TheVariants.{Nothing, Number, Node, Whether, Pages, Row as RowOf, Holder as HolderOf, Got as GotOf}
use Rattle.dsm_machine.specs.declared.any_phase.AnyPhase.{AnyPhase}
use Rattle.dsm_machine.specs.declared.any_phase.AnyPhase.TheVariants.{Draw, Stamp, Take, Give, SetMap, Sharers, MyDir, Holder, Register, Claim, Withdraw, FindHome, Leave}
use Rattle.dsm_machine.specs.declared.any_phase.AnyPhase.TheVariants.{HasTwin, MakeTwin, DropTwin, Post, Drain, TakeOwn, Stale, LastFlush, Flush, OpenMerge, Merge}
use Rattle.dsm_machine.specs.declared.any_phase.AnyPhase.TheVariants.{OpenOverwrite, Overwrite, Enter, Break, TakeNle, Lock, Look, Unlock, Arrive, SetFlag}

-- what is left of it, and then what its outcome leads to
abbrev pub phase_job : AnyPhase → (Outcome → Job) → Job
phase_job (Draw x) f = call (draw_rest x) (λ t. f (Number t))
phase_job (Stamp x) f = call (stamp_rest x) (λ _. f Nothing)
phase_job (Take x) f = call (take_rest x) (λ _. f Nothing)
phase_job (Give x) f = call (give_rest x) (λ _. f Nothing)
phase_job (SetMap x) f = call (map_rest x) (λ _. f Nothing)
phase_job (Sharers x) f = call (sharers_rest x) (λ row. f (RowOf row))
phase_job (MyDir x) f = call (my_dir_rest x) (λ d. f (Number d))
phase_job (Holder x) f = call (holder_rest x) (λ m. f (HolderOf m))
phase_job (Register x) f = call (register_rest x) (λ _. f Nothing)
phase_job (Claim x) f = call (claim_rest x) (λ _. f Nothing)
phase_job (Withdraw x) f = call (withdraw_rest x) (λ _. f Nothing)
phase_job (FindHome x) f = call (home_rest x) (λ h. f (Node h))
phase_job (Leave x) f = call (leave_rest x) (λ b. f (Whether b))
phase_job (HasTwin x) f = call (has_rest x) (λ b. f (Whether b))
phase_job (MakeTwin x) f = call (make_rest x) (λ _. f Nothing)
phase_job (DropTwin x) f = call (drop_rest x) (λ b. f (Whether b))
phase_job (Post x) f = call_counting (post_rest x) (λ _. f Nothing)
phase_job (Drain x) f = call (drain_rest x) (λ _. f Nothing)
phase_job (TakeOwn x) f = call (own_rest x) (λ set. f (Pages set))
phase_job (Stale x) f = call (stale_rest x) (λ b. f (Whether b))
phase_job (LastFlush x) f = call (last_flush_rest x) (λ t. f (Number t))
phase_job (Flush x) f = call (flush_rest x) (λ _. f Nothing)
phase_job (OpenMerge n g x) f = call_noting (Happen (Began n g)) (merge_rest x) (λ _. f Nothing)
phase_job (Merge x) f = call (merge_rest x) (λ _. f Nothing)
phase_job (OpenOverwrite n g x) f = call_noting (Happen (Began n g)) (overwrite_rest x) (λ _. f Nothing)
phase_job (Overwrite x) f = call (overwrite_rest x) (λ _. f Nothing)
phase_job (Enter x) f = call (enter_rest x) (λ _. f Nothing)
phase_job (Break x) f = call (break_rest x) (λ _. f Nothing)
phase_job (TakeNle x) f = call (take_nle_rest x) (λ set. f (Pages set))
phase_job (Lock x) f = call (lock_rest x) (λ got. f (GotOf got))
phase_job (Look x) f = call (look_rest x) (λ got. f (GotOf got))
phase_job (Unlock x) f = call (unlock_rest x) (λ _. f Nothing)
phase_job (Arrive x) f = call (arrive_rest x) (λ a. f (Number a))
phase_job (SetFlag x) f = call (set_rest x) (λ j. f (Number j))

-- it has not ended
abbrev pub phase_open : AnyPhase → Bool
phase_open (Draw x) = is_open (draw_rest x)
phase_open (Stamp x) = is_open (stamp_rest x)
phase_open (Take x) = is_open (take_rest x)
phase_open (Give x) = is_open (give_rest x)
phase_open (SetMap x) = is_open (map_rest x)
phase_open (Sharers x) = is_open (sharers_rest x)
phase_open (MyDir x) = is_open (my_dir_rest x)
phase_open (Holder x) = is_open (holder_rest x)
phase_open (Register x) = is_open (register_rest x)
phase_open (Claim x) = is_open (claim_rest x)
phase_open (Withdraw x) = is_open (withdraw_rest x)
phase_open (FindHome x) = is_open (home_rest x)
phase_open (Leave x) = is_open (leave_rest x)
phase_open (HasTwin x) = is_open (has_rest x)
phase_open (MakeTwin x) = is_open (make_rest x)
phase_open (DropTwin x) = is_open (drop_rest x)
phase_open (Post x) = is_open (post_rest x)
phase_open (Drain x) = is_open (drain_rest x)
phase_open (TakeOwn x) = is_open (own_rest x)
phase_open (Stale x) = is_open (stale_rest x)
phase_open (LastFlush x) = is_open (last_flush_rest x)
phase_open (Flush x) = is_open (flush_rest x)
phase_open (OpenMerge n g x) = is_open (merge_rest x)
phase_open (Merge x) = is_open (merge_rest x)
phase_open (OpenOverwrite n g x) = is_open (overwrite_rest x)
phase_open (Overwrite x) = is_open (overwrite_rest x)
phase_open (Enter x) = is_open (enter_rest x)
phase_open (Break x) = is_open (break_rest x)
phase_open (TakeNle x) = is_open (take_nle_rest x)
phase_open (Lock x) = is_open (lock_rest x)
phase_open (Look x) = is_open (look_rest x)
phase_open (Unlock x) = is_open (unlock_rest x)
phase_open (Arrive x) = is_open (arrive_rest x)
phase_open (SetFlag x) = is_open (set_rest x)

-- the layout by which it finds its words
abbrev pub phase_lay : AnyPhase → Lay
phase_lay (Draw x) = draw_lay x
phase_lay (Stamp x) = stamp_lay x
phase_lay (Take x) = take_lay x
phase_lay (Give x) = give_lay x
phase_lay (SetMap x) = map_lay x
phase_lay (Sharers x) = sharers_lay x
phase_lay (MyDir x) = my_dir_lay x
phase_lay (Holder x) = holder_lay x
phase_lay (Register x) = register_lay x
phase_lay (Claim x) = claim_lay x
phase_lay (Withdraw x) = withdraw_lay x
phase_lay (FindHome x) = home_lay x
phase_lay (Leave x) = leave_lay x
phase_lay (HasTwin x) = has_lay x
phase_lay (MakeTwin x) = make_lay x
phase_lay (DropTwin x) = drop_lay x
phase_lay (Post x) = post_lay x
phase_lay (Drain x) = drain_lay x
phase_lay (TakeOwn x) = own_lay x
phase_lay (Stale x) = stale_lay x
phase_lay (LastFlush x) = last_flush_lay x
phase_lay (Flush x) = flush_lay x
phase_lay (OpenMerge n g x) = merge_lay x
phase_lay (Merge x) = merge_lay x
phase_lay (OpenOverwrite n g x) = overwrite_lay x
phase_lay (Overwrite x) = overwrite_lay x
phase_lay (Enter x) = enter_lay x
phase_lay (Break x) = break_lay x
phase_lay (TakeNle x) = take_nle_lay x
phase_lay (Lock x) = lock_lay x
phase_lay (Look x) = look_lay x
phase_lay (Unlock x) = unlock_lay x
phase_lay (Arrive x) = arrive_lay x
phase_lay (SetFlag x) = set_lay x

-- its next operation posts a notice
abbrev pub posts : AnyPhase → Bool
posts (Post x) = is_or (first (post_rest x))
posts _ = false

-- what is held behind that operation: a notice is counted
abbrev pub noted : AnyPhase → Own → Own
noted x o = if posts x then counted o Notices else o

-- a phase goes on with this job, or its outcome leads to another
abbrev pub turned : Turn Outcome → (Outcome → Job) → Job → Job
turned More f j = j
turned (Done r) f j = f r

-- a result as an outcome
abbrev pub told : {R S : Type 0} → (R → S) → Turn R → Turn S
told w More = More
told w (Done r) = Done (w r)
