-- Sources and sinks in memory, whose faults are planned.
use Rattle.std.specs.Prelude.{ℕ, ◌+◌, ◌-◌, ◌<◌, ◌^◌, List, length, min, Contains}

-- the numbers of the calls that shall fail, how many calls with a number were made, and how many of all calls failed
pub record Calls : Type 0 where
  pub fail : List ℕ
  pub made : ℕ
  pub failed : ℕ

-- a source in memory: the bytes that it has left, the most that one read gives, and its calls
pub record MemorySource : Type 0 where
  pub left : List ℕ
  pub chunk : ℕ
  pub calls : Calls

-- a sink in memory: the bytes written, how many of them were handed on, how many more it has room for, the most that
-- one write takes, and its calls
pub record MemorySink : Type 0 where
  pub written : List ℕ
  pub handed : ℕ
  pub room : ℕ
  pub chunk : ℕ
  pub calls : Calls

-- The next call is to fail. Calls are numbered from 1 up to 2^64 - 1, and later ones have no number.
abbrev pub FailsNext : Calls → Type 0
FailsNext c = (c.made < 2 ^ 64 - 1) × Contains c.fail (c.made + 1)

-- a count of one more, which stands still at its last value
abbrev pub one_more : ℕ → ℕ
one_more n = min (n + 1) (2 ^ 64 - 1)

-- one call more, which did as planned
abbrev pub called : Calls → Calls
called c = record c { made = one_more c.made }

-- one call more, which failed
abbrev pub called_in_vain : Calls → Calls
called_in_vain c = record { fail = c.fail; made = one_more c.made; failed = one_more c.failed }

-- how many bytes a read into a buffer of this length gives
abbrev pub count_read : MemorySource → ℕ → ℕ
count_read s room = min room (min s.chunk (length s.left))

-- how many bytes of a piece of this length a write takes
abbrev pub count_written : MemorySink → ℕ → ℕ
count_written s len = min len (min s.chunk s.room)
