-- How the fault of a stream shows: its count.
use Rattle.std.specs.Prelude.{◌≢◌, ℕ, ◌-◌, ◌<◌, ◌^◌}

-- the count of faults went up, or stands at its last value
abbrev pub Rose : ℕ → ℕ → Type 0
Rose old new = new ≢ 2 ^ 64 - 1 → old < new
