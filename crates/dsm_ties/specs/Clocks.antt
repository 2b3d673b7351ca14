-- How far the clocks can get.
use Rattle.std.specs.Prelude.{◌≢◌, ℕ, zero, suc, ◌+◌, ◌-◌, ◌*◌, ◌^◌, ◌<◌, ◌≤◌, nat_lt, if◌then◌else◌, Option, Some, None, slice_get}
use Rattle.dsm_words.specs.declared.item.Item.TheVariants.{Clock}
use Rattle.dsm_words.specs.Words.{word}
use Rattle.dsm_protocol.specs.Own.{Who}
use Rattle.dsm_protocol.specs.Processors.{Processor}
use Rattle.dsm_protocol.specs.Stages.{Cause, Fault, Closing, Seeker, For_fault, For_release, For_closing, Stage, Mapped, Asked, Seeking, Missing, Clearing, Registering, Sharing, Wanting, Parting, Visiting, Looking, Breaking, Marking, Saving, Ending, Broken, Broadcast, Parted, Back, Testing, Claiming, Claimed, Withdrawing, Entering, Ready, Compared, Fetching, Released, Checking, Drawing, Round, Idle, Waiting, Signalling, Admitted, Passing, Access, Collecting, Releasing, Cleaning, Draining, Hearing, Noticing, Flagging, Work, Off, On, Gone}
use Rattle.dsm_runs.specs.Setups.{Setup, lay_in}
use Rattle.dsm_runs.specs.Clusters.{Cluster}

-- An instruction draws at most one time to release each page, one to begin the release, and one for each notice: of each page from each node.
abbrev pub acquire_draws : Who → ℕ
acquire_draws u = u.lay.nodes * u.lay.pages

abbrev pub most_draws : Who → ℕ
most_draws u = acquire_draws u + u.lay.pages + 1

-- the draws that are left on the page at this stage
abbrev pub cause_draws : Cause → ℕ
cause_draws (Fault write h busy) = 1
cause_draws Closing = 0

abbrev pub seeker_draws : Seeker → ℕ
seeker_draws (For_fault write d) = 1
seeker_draws For_release = 1
seeker_draws (For_closing j) = 0

abbrev pub stage_draws : Stage → ℕ
stage_draws (Mapped k s) = stage_draws s
stage_draws (Asked write) = 1
stage_draws (Seeking a) = seeker_draws a
stage_draws (Missing a) = seeker_draws a
stage_draws (Clearing write h) = 1
stage_draws (Registering write h) = 1
stage_draws (Sharing write h j row) = 1
stage_draws (Wanting write h busy) = 1
stage_draws (Parting write h busy) = 1
stage_draws (Visiting write h busy j) = 1
stage_draws (Looking c j) = cause_draws c
stage_draws (Breaking c h j q) = cause_draws c
stage_draws (Marking c h j q) = cause_draws c
stage_draws (Saving c h j i part) = cause_draws c
stage_draws (Ending c j) = cause_draws c
stage_draws (Broken c j) = cause_draws c
stage_draws (Broadcast c j) = cause_draws c
stage_draws (Parted c j) = cause_draws c
stage_draws (Back write h) = 1
stage_draws (Testing h) = 1
stage_draws (Claiming h) = 1
stage_draws (Claimed h j row) = 1
stage_draws (Withdrawing h) = 1
stage_draws (Entering h) = 1
stage_draws (Ready write h) = 1
stage_draws (Compared write h x) = 1
stage_draws (Fetching write h) = 1
stage_draws Released = 1
stage_draws (Checking h) = 1
stage_draws (Drawing h) = 1
stage_draws s = 0

-- of the notices of node j: those of the pages from page g on, and those of the nodes behind it
abbrev pub notices_left : Who → ℕ → ℕ → ℕ
notices_left u j g = (u.lay.nodes - j) * u.lay.pages - (if nat_lt g u.lay.pages then g else u.lay.pages)

-- the draws that are left of the instruction in this round,
abbrev pub round_draws : Who → Round → ℕ
round_draws u Idle = most_draws u
round_draws u Waiting = acquire_draws u
round_draws u (Signalling t0) = acquire_draws u
round_draws u Admitted = acquire_draws u
round_draws u Passing = acquire_draws u
round_draws u (Access faulted write a) = if faulted then 0 else 1
round_draws u (Collecting t0 k set) = u.lay.pages + acquire_draws u
round_draws u (Releasing t0 g) = (u.lay.pages - g) + acquire_draws u
round_draws u (Cleaning t0 g) = (u.lay.pages - (g + 1)) + acquire_draws u
round_draws u (Draining j k) = notices_left u j (64 * k)
round_draws u (Hearing j k bits b) = notices_left u j (64 * k + b)
round_draws u (Noticing j k bits b t) = notices_left u j (64 * k + b + 1)
round_draws u (Flagging j k bits b q) = notices_left u j (64 * k + b + 1)
round_draws u r = 0

-- and of it once the page is done
abbrev pub behind_page : Who → Round → ℕ
behind_page u (Releasing t0 g) = (u.lay.pages - (g + 1)) + acquire_draws u
behind_page u r = 0

-- the draws that are left of the instruction where it stands
abbrev pub draws_left : Who → Work → ℕ
draws_left u (Off r) = round_draws u r
draws_left u (On r g s) = stage_draws s + behind_page u r
draws_left u Gone = 0

-- the sum of f over the k numbers from i on
abbrev pub sum_from : (ℕ → ℕ) → ℕ → ℕ → ℕ
sum_from f i zero = 0
sum_from f i (suc k) = f i + sum_from f (i + 1) k

-- the instructions that processor p has done
abbrev pub done_in : Option Processor → ℕ
done_in None = 0
done_in (Some m) = m.own.reader.done

abbrev pub done_by : Cluster → ℕ → ℕ
done_by c p = done_in (slice_get c.processors p)

-- a node's clock is at most 1 more than the draws that the instructions of its processors may make, each with the one under way
abbrev pub ClockBound : Setup → Cluster → Type 0
ClockBound s c = (n : ℕ) → n < s.nodes
    → word (lay_in s) c.words (Clock n) ≤ 1 + sum_from (λ p. (done_by c p + 1) * (s.nodes * s.program.shape.pages + s.program.shape.pages + 1)) (n * s.procs) s.procs

-- so no clock comes round: each is at least 1, and below 2^37
abbrev pub ClocksStand : Setup → Cluster → Type 0
ClocksStand s c = (n : ℕ) → n < s.nodes → (word (lay_in s) c.words (Clock n) ≢ 0) × (word (lay_in s) c.words (Clock n) < 2 ^ 37)
