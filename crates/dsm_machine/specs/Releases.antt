-- What is left of a release behind each of its phases.
use Rattle.std.specs.Prelude.{ℕ, ◌+◌, ◌-◌, ◌^◌, ◌==◌, true, false, if◌then◌else◌, nat_lt}
use Rattle.dsm_entry.specs.declared.entry.Entry.TheVariants.{Signal as Signals}
use Rattle.dsm_entry.specs.declared.entry.Obj.TheVariants.{Lock as LockOf, Flag as FlagOf}
use Rattle.dsm_directory.specs.Directory.{my_dir_script}
use Rattle.dsm_directory.specs.Homes.{find_home_script}
use Rattle.dsm_exclusive.specs.Telling.{take_nle_script}
use Rattle.dsm_outgoing.specs.Sending.{flush_script}
use Rattle.dsm_sync.specs.Counters.{counter_number, counters_of}
use Rattle.dsm_sync.specs.declared.counter.Counter.{Counter}
use Rattle.dsm_sync.specs.declared.counter.Counter.TheVariants.{Barrier, Flag, Close}
use Rattle.dsm_words.specs.Place.{Lay}
use Rattle.dsm_machine.specs.declared.outcome.Outcome.{Outcome}
use Rattle.dsm_machine.specs.declared.point.Release.{Release}
use Rattle.dsm_machine.specs.declared.point.Signal.{Signal}
use Rattle.dsm_machine.specs.declared.point.Signal.TheVariants.{Free, Meet, Raise}
use Rattle.dsm_machine.specs.declared.release.ReleaseAt.{ReleaseAt}
use Rattle.dsm_machine.specs.declared.release.ReleaseAt.TheVariants.{Drawn, Joined, Taken, Dir, Home, Last, Time, Twin, Flushed, Stamped, Posted, Lowered, Dropped, Given}
use Rattle.dsm_machine.specs.Results.{number_of, node_in, whether_of, pages_of}
use Rattle.dsm_protocol.specs.Own.{Who, Flushes, Early, node_of}
use Rattle.dsm_protocol.specs.Jobs.{Job, Mark, Append, Map_own, Clean, Join, Count, Begin, Sent, call}
use Rattle.dsm_protocol.specs.Steps.{next_instruction, object_of, need_of, free_job, meet_job, raise_job, done_job, lower_job}
use Rattle.dsm_protocol.specs.Steps.{drop_job, sends_job, told_job, post_job, sent_job, flush_job, send_job, tell_job, release_from}
use Rattle.dsm_protocol.specs.declared.head.Head.TheVariants.{Looking}

-- the signal behind a release
abbrev pub signal_job : Who → Signal → Job
signal_job u (Free l k) = free_job l k
signal_job u (Meet of) = meet_job u of
signal_job u (Raise f) = raise_job f

-- what comes behind its answer
abbrev pub signalled : Who → Signal → Outcome → Job
signalled u (Free l k) x = Mark (Append (Signals (LockOf l) k)) next_instruction
signalled u (Meet of) x = Mark (Append (Signals (object_of of) (number_of x))) (Begin (Looking of (need_of u (number_of x))))
signalled u (Raise f) x = Mark (Append (Signals (FlagOf f) (number_of x))) next_instruction

-- the pages from page g on, and the signal
abbrev pub pages_left : Who → Signal → ℕ → ℕ → Job
pages_left u signal t0 g = release_from u t0 g (u.lay.pages - g) (signal_job u signal)

-- page g is done, and the others follow
abbrev pub page_over : Who → Release → Job
page_over u r = done_job u r.g (pages_left u r.signal r.t0 (r.g + 1))

-- behind each phase
abbrev pub release_next : Who → Release → ReleaseAt → Outcome → Job
release_next u r Drawn x = call (take_nle_script u.lay u.p) (λ set. Mark (Join set) (release_from u (number_of x) 0 u.lay.pages (signal_job u r.signal)))
release_next u r Joined x = Mark (Join (pages_of x)) (release_from u r.t0 0 u.lay.pages (signal_job u r.signal))
release_next u r Taken x =
    call (my_dir_script (node_of u) r.g) (λ d.
    if d == 2 then page_over u r else call (find_home_script u.lay (node_of u) r.g) (λ h. tell_job u r.t0 r.g h (page_over u r)))
release_next u r Dir x = if number_of x == 2 then page_over u r else call (find_home_script u.lay (node_of u) r.g) (λ h. tell_job u r.t0 r.g h (page_over u r))
release_next u r Home x = tell_job u r.t0 r.g (node_in x) (page_over u r)
release_next u r (Last h) x = if nat_lt r.t0 (number_of x) then Mark (Count Early) (lower_job u r.g (page_over u r)) else send_job u r.g h (page_over u r)
release_next u r (Time h) x = if node_of u == h then sent_job u r.g h (number_of x) false (page_over u r) else flush_job u r.g h (number_of x) (page_over u r)
release_next u r (Twin h t) x =
    if whether_of x then call (flush_script u.lay (node_of u) r.g h) (λ _. Mark (Count Flushes) (sent_job u r.g h t true (page_over u r)))
    else sent_job u r.g h t false (page_over u r)
release_next u r (Flushed h t) x = Mark (Count Flushes) (sent_job u r.g h t true (page_over u r))
release_next u r (Stamped h flushed) x = sends_job u r.g h flushed (Sent (node_of u) r.g) (post_job u r.g h flushed (page_over u r))
release_next u r (Posted h flushed) x = told_job u r.g h flushed (page_over u r)
release_next u r (Lowered flushed) x = Mark (Map_own r.g 1) (drop_job u r.g flushed (page_over u r))
release_next u r Dropped x = page_over u r
release_next u r Given x = Mark (Clean r.g) (pages_left u r.signal r.t0 (r.g + 1))

-- the home of a point, or 0
abbrev pub release_home : ReleaseAt → ℕ
release_home (Last h) = h
release_home (Time h) = h
release_home (Twin h t) = h
release_home (Flushed h t) = h
release_home (Stamped h flushed) = h
release_home (Posted h flushed) = h
release_home _ = 0

-- the number of the object that is signalled
abbrev pub signal_number : Signal → ℕ
signal_number (Free l k) = l
signal_number (Meet of) = counter_number of
signal_number (Raise f) = f

-- how many of its kind there are
abbrev pub signals_of : Lay → Signal → ℕ
signals_of l (Free i k) = l.locks
signals_of l (Meet of) = counters_of l of
signals_of l (Raise f) = l.flags

-- behind a counter: 0 where the instruction may be done and the next one come, and much where that is not known
abbrev pub counter_slack : Counter → ℕ
counter_slack (Barrier b) = 0
counter_slack (Flag f) = 0
counter_slack Close = 2 ^ 64

-- the same behind a signal
abbrev pub signal_slack : Signal → ℕ
signal_slack (Free l k) = 0
signal_slack (Meet of) = counter_slack of
signal_slack (Raise f) = 0
