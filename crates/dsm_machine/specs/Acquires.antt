-- What is left of an acquire behind each of its phases.
use Rattle.std.specs.Prelude.{◌≡◌, ◌≤◌, ◌<◌, ℕ, ◌+◌, ◌-◌, ◌==◌, ◌&&◌, Bool, false, not, List, slice_index, if◌then◌else◌}
use Rattle.dsm_words.specs.Pages.{has_page}
use Rattle.dsm_clock.specs.Taking.{give_script}
use Rattle.dsm_clock.specs.declared.turns.TurnId.TheVariants.{Notices}
use Rattle.dsm_directory.specs.Directory.{my_dir_script, leave_script}
use Rattle.dsm_notice.specs.Notices.{drain_script, take_own_script}
use Rattle.dsm_machine.specs.declared.acquire.AcquireAt.{AcquireAt}
use Rattle.dsm_machine.specs.declared.acquire.AcquireAt.TheVariants.{NoticesTaken, Drained, NoticesGiven, OwnTaken, Taken, Dir, Checked, Unmapped, Left, Given}
use Rattle.dsm_machine.specs.declared.outcome.Outcome.{Outcome}
use Rattle.dsm_machine.specs.Results.{number_of, whether_of, pages_of}
use Rattle.dsm_protocol.specs.Own.{Who, Unmaps, node_of}
use Rattle.dsm_protocol.specs.Jobs.{Job, Mark, Map_own, Count, call}
use Rattle.dsm_protocol.specs.Steps.{next_instruction, give_job, unmap_job, check_job, acquire_from}

-- the pages of a set from page g on, and the next instruction
abbrev pub taken_left : Who → List ℕ → ℕ → Job
taken_left u set g = acquire_from u set g (u.lay.pages - g) next_instruction

-- page g was looked at, and the others follow
abbrev pub looked_at : Who → List ℕ → ℕ → Job
looked_at u set g = give_job (node_of u) g (taken_left u set (g + 1))

-- all pages of a set
abbrev pub taken_all : Who → List ℕ → Job
taken_all u set = acquire_from u set 0 u.lay.pages next_instruction

-- the pages of which it was told are taken
abbrev pub own_left : Who → Job
own_left u = call (take_own_script u.lay u.p) (λ pages. taken_all u pages)

-- before that the turn of the notices is given back
abbrev pub notices_left : Who → Job
notices_left u = call (give_script (Notices (node_of u))) (λ _. own_left u)

-- before that they are drained
abbrev pub drain_left : Who → Job
drain_left u = call (drain_script u.lay (node_of u)) (λ _. notices_left u)

-- behind each phase
abbrev pub acquire_next : Who → List ℕ → ℕ → AcquireAt → Outcome → Job
acquire_next u set g NoticesTaken x = drain_left u
acquire_next u set g Drained x = notices_left u
acquire_next u set g NoticesGiven x = own_left u
acquire_next u set g OwnTaken x = taken_all u (pages_of x)
acquire_next u set g Taken x = call (my_dir_script (node_of u) g) (λ d. if d == 2 then looked_at u set g else check_job u g (looked_at u set g))
acquire_next u set g Dir x = if number_of x == 2 then looked_at u set g else check_job u g (looked_at u set g)
acquire_next u set g Checked x = if whether_of x then unmap_job u g (looked_at u set g) else looked_at u set g
acquire_next u set g Unmapped x = Mark (Map_own g 0) (Mark (Count Unmaps) (call (leave_script u.lay (node_of u) g) (λ _. looked_at u set g)))
acquire_next u set g Left x = looked_at u set g
acquire_next u set g Given x = taken_left u set (g + 1)

-- page g is to be looked at: it is in the set, and mapped
abbrev pub is_mapped_in : List ℕ → List ℕ → ℕ → Bool
is_mapped_in set maps g = has_page set g && not (slice_index maps g == 0)

-- none of the pages from the one to the other is
abbrev pub HasNoMapped : List ℕ → List ℕ → ℕ → ℕ → Type 0
HasNoMapped set maps from to = (b : ℕ) → from ≤ b → b < to → is_mapped_in set maps b ≡ false
