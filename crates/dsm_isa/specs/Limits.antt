-- How large a program may be.
use Rattle.std.specs.Prelude.{ℕ, ◌<◌, ◌≤◌}

-- 1 to 256 pages of 1 to 256 words, at most 64 locks, 16 barriers and 64 flags
abbrev pub IsWithinLimits : ℕ → ℕ → ℕ → ℕ → ℕ → Type 0
IsWithinLimits pages words locks barriers flags =
    (0 < pages) × (pages ≤ 256) × (0 < words) × (words ≤ 256) × (locks ≤ 64) × (barriers ≤ 16) × (flags ≤ 64)
