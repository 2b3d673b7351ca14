-- What is left of a fault behind each of its phases.
use Rattle.std.specs.Prelude.{ℕ, ◌+◌, ◌-◌, ◌==◌, Bool, true, false, if◌then◌else◌}
use Rattle.dsm_directory.specs.Directory.{my_dir_script, register_script}
use Rattle.dsm_twin.specs.Twins.{has_twin_script}
use Rattle.dsm_machine.specs.declared.fault.FaultAt.{FaultAt}
use Rattle.dsm_machine.specs.declared.fault.FaultAt.TheVariants.{Taken, Dir, Home, Registered, Looked, Wanted, Left, VisitTaken, VisitDir}
use Rattle.dsm_machine.specs.declared.fault.FaultAt.TheVariants.{VisitBroken, VisitGiven, Retaken, Redir, Checked, FetchDrawn, FetchTwin}
use Rattle.dsm_machine.specs.declared.fault.FaultAt.TheVariants.{FetchCopied, FetchStamped, AloneMapped, SharedMapped, Given}
use Rattle.dsm_machine.specs.declared.outcome.Outcome.{Outcome}
use Rattle.dsm_machine.specs.declared.point.Access.{Access}
use Rattle.dsm_machine.specs.declared.point.Access.TheVariants.{Load, Store}
use Rattle.dsm_machine.specs.Results.{number_of, node_in, whether_of, row_of}
use Rattle.dsm_protocol.specs.Own.{Who, Tally, Merges, Overwrites, Breaks, node_of}
use Rattle.dsm_protocol.specs.Jobs.{Job, Mark, Map_own, Count, Happen, Sent, Told, call}
use Rattle.dsm_protocol.specs.Steps.{give_job, copied_job, updated_job, copy_job, fetch_job, break_job, visits_from, wanted, faults, alone_job}
use Rattle.dsm_protocol.specs.Steps.{soil_job, share_job, ready_job, visited_job, leave_job, seen_job, look_round_job, common_job, page_of, load_job, store_job}

-- whether an access is a store
abbrev pub is_store : Access → Bool
is_store (Load d w) = false
is_store (Store w v) = true

-- its address
abbrev pub address_of : Access → ℕ
address_of (Load d w) = w
address_of (Store w v) = w

-- its register, or 0
abbrev pub register_of : Access → ℕ
register_of (Load d w) = d
register_of (Store w v) = 0

-- the load or store itself
abbrev pub made_job : Who → Access → Job
made_job u (Load d w) = load_job u d w
made_job u (Store w v) = store_job u w v

-- its page
abbrev pub page_at : Who → Access → ℕ
page_at u a = page_of u (address_of a)

-- all nodes were visited
abbrev pub round_job : Who → Access → ℕ → Job
round_job u a h = visited_job u (is_store a) (page_at u a) h (made_job u a)

-- the visits from node m on
abbrev pub visits_left : Who → Access → ℕ → ℕ → ℕ → Job
visits_left u a h busy m = visits_from u (page_at u a) h busy m (u.lay.nodes - m) (round_job u a h)

-- a visit of node m is over
abbrev pub visit_over : Who → Access → ℕ → ℕ → ℕ → Job
visit_over u a h busy m = give_job m (page_at u a) (visits_left u a h busy (m + 1))

-- the way in which a page was fetched
abbrev pub way_of : Bool → Tally
way_of merged = if merged then Merges else Overwrites

-- behind each phase
abbrev pub fault_next : Who → Access → FaultAt → Outcome → Job
fault_next u a Taken x =
    call (my_dir_script (node_of u) (page_at u a)) (λ d.
    if d == 2 then alone_job u (is_store a) (page_at u a) (made_job u a) else common_job u (is_store a) (page_at u a) d (made_job u a))
fault_next u a Dir x =
    if number_of x == 2 then alone_job u (is_store a) (page_at u a) (made_job u a)
    else common_job u (is_store a) (page_at u a) (number_of x) (made_job u a)
fault_next u a (Home d) x =
    if d == 0 then call (register_script (node_of u) (page_at u a)) (λ _. look_round_job u (is_store a) (page_at u a) (node_in x) (made_job u a))
    else look_round_job u (is_store a) (page_at u a) (node_in x) (made_job u a)
fault_next u a (Registered h) x = look_round_job u (is_store a) (page_at u a) h (made_job u a)
fault_next u a (Looked h) x = seen_job u (is_store a) (page_at u a) h (row_of x) (made_job u a)
fault_next u a (Wanted h busy) x = Mark (Map_own (page_at u a) 3) (leave_job u (is_store a) (page_at u a) h busy (made_job u a))
fault_next u a (Left h busy) x = visits_from u (page_at u a) h busy 0 u.lay.nodes (round_job u a h)
fault_next u a (VisitTaken h busy m) x =
    call (my_dir_script m (page_at u a)) (λ d. if d == 2 then break_job u m (page_at u a) h (visit_over u a h busy m) else visit_over u a h busy m)
fault_next u a (VisitDir h busy m) x = if number_of x == 2 then break_job u m (page_at u a) h (visit_over u a h busy m) else visit_over u a h busy m
fault_next u a (VisitBroken h busy m) x = Mark (Count Breaks) (Mark (Happen (Sent m (page_at u a))) (Mark (Happen (Told m (page_at u a))) (visit_over u a h busy m)))
fault_next u a (VisitGiven h busy m) x = visits_left u a h busy (m + 1)
fault_next u a (Retaken h) x =
    call (my_dir_script (node_of u) (page_at u a)) (λ d.
    if d == 2 then alone_job u (is_store a) (page_at u a) (made_job u a) else share_job u (is_store a) (page_at u a) h (made_job u a))
fault_next u a (Redir h) x = if number_of x == 2 then alone_job u (is_store a) (page_at u a) (made_job u a) else share_job u (is_store a) (page_at u a) h (made_job u a)
fault_next u a (Checked h) x =
    if whether_of x then fetch_job u (page_at u a) h (ready_job u (is_store a) (page_at u a) (made_job u a)) else ready_job u (is_store a) (page_at u a) (made_job u a)
fault_next u a (FetchDrawn h) x =
    call (has_twin_script (node_of u) (page_at u a)) (λ twin.
    copy_job u (page_at u a) h twin (updated_job u (page_at u a) (number_of x) (ready_job u (is_store a) (page_at u a) (made_job u a))))
fault_next u a (FetchTwin h t) x = copy_job u (page_at u a) h (whether_of x) (updated_job u (page_at u a) t (ready_job u (is_store a) (page_at u a) (made_job u a)))
fault_next u a (FetchCopied t merged) x =
    copied_job u (page_at u a) (way_of merged) (updated_job u (page_at u a) t (ready_job u (is_store a) (page_at u a) (made_job u a)))
fault_next u a FetchStamped x = ready_job u (is_store a) (page_at u a) (made_job u a)
fault_next u a AloneMapped x = Mark (Map_own (page_at u a) (wanted (is_store a))) (Mark (Count (faults (is_store a))) (give_job (node_of u) (page_at u a) (made_job u a)))
fault_next u a SharedMapped x =
    Mark (Map_own (page_at u a) (wanted (is_store a)))
    (Mark (Count (faults (is_store a))) (soil_job (is_store a) (page_at u a) (give_job (node_of u) (page_at u a) (made_job u a))))
fault_next u a Given x = made_job u a

-- the home of a point, or 0
abbrev pub fault_home : FaultAt → ℕ
fault_home (Registered h) = h
fault_home (Looked h) = h
fault_home (Wanted h busy) = h
fault_home (Left h busy) = h
fault_home (VisitTaken h busy m) = h
fault_home (VisitDir h busy m) = h
fault_home (VisitBroken h busy m) = h
fault_home (VisitGiven h busy m) = h
fault_home (Retaken h) = h
fault_home (Redir h) = h
fault_home (Checked h) = h
fault_home (FetchDrawn h) = h
fault_home (FetchTwin h t) = h
fault_home _ = 0

-- the node that is visited there, or 0
abbrev pub visited_node : FaultAt → ℕ
visited_node (VisitTaken h busy m) = m
visited_node (VisitDir h busy m) = m
visited_node (VisitBroken h busy m) = m
visited_node (VisitGiven h busy m) = m
visited_node _ = 0
