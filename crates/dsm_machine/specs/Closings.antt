-- What is left of the closing work behind each of its phases.
use Rattle.std.specs.Prelude.{ℕ, ◌+◌, ◌-◌, ◌==◌, if◌then◌else◌}
use Rattle.dsm_directory.specs.Directory.{my_dir_script}
use Rattle.dsm_directory.specs.Homes.{find_home_script}
use Rattle.dsm_local.specs.declared.end.End.TheVariants.{Halted}
use Rattle.dsm_machine.specs.declared.closing.ClosingAt.{ClosingAt}
use Rattle.dsm_machine.specs.declared.closing.ClosingAt.TheVariants.{Held, Taken, Dir, Home, Broken, Given}
use Rattle.dsm_machine.specs.declared.outcome.Outcome.{Outcome}
use Rattle.dsm_machine.specs.Results.{number_of, node_in, holder_of}
use Rattle.dsm_protocol.specs.Own.{Who, Breaks, node_of}
use Rattle.dsm_protocol.specs.Jobs.{Job, Mark, Count, Happen, Sent, Told, Ended, call}
use Rattle.dsm_protocol.specs.Steps.{give_job, break_job, closing_page, closing_from}

-- the pages from page g on, and the end
abbrev pub closing_left : Who → ℕ → Job
closing_left u g = closing_from u g (u.lay.pages - g) (Ended Halted)

-- node m's copy of page g is done, and the other pages follow
abbrev pub closing_over : Who → ℕ → ℕ → Job
closing_over u g m = give_job m g (closing_left u (g + 1))

-- node m has page g alone
abbrev pub closing_break : Who → ℕ → ℕ → Job
closing_break u g m = call (find_home_script u.lay (node_of u) g) (λ h. break_job u m g h (closing_over u g m))

-- behind each phase
abbrev pub closing_next : Who → ℕ → ℕ → ClosingAt → Outcome → Job
closing_next u g m Held x = closing_page u g (holder_of x) (closing_left u (g + 1))
closing_next u g m Taken x = call (my_dir_script m g) (λ d. if d == 2 then closing_break u g m else closing_over u g m)
closing_next u g m Dir x = if number_of x == 2 then closing_break u g m else closing_over u g m
closing_next u g m Home x = break_job u m g (node_in x) (closing_over u g m)
closing_next u g m Broken x = Mark (Count Breaks) (Mark (Happen (Sent m g)) (Mark (Happen (Told m g)) (closing_over u g m)))
closing_next u g m Given x = closing_left u (g + 1)
