-- The premises on fetches by numbers of sends. The home is sender 0, and node n is sender n + 1.
use Rattle.std.specs.Prelude.{ℕ, zero, suc, max, Option, None, Some, List, [], ◌∷◌}
use Rattle.dsm_copies.specs.Modes.{Mode, Flush_end, Flush_tell, Merge_end, Overwrite_end, Enter_end, Break_end}
use Rattle.dsm_copies.specs.Copies.{State, Event, Pass, Begin, Op, Enter, Home_sent, Home_told, Home_break, Kind, Merge, Overwrite, put, after}

-- For each sender: how many of its sends have ended, how many of them are told, and the last that was a break. For each node
-- and sender: how many had ended when the node's open fetch began, and when a finished one did. For each processor and
-- sender: how many were told when the processor passed last.
pub record Count : Type 0 where
  pub sent : ℕ → ℕ
  pub told : ℕ → ℕ
  pub broken : ℕ → ℕ
  pub snap : ℕ → ℕ → ℕ
  pub got : ℕ → ℕ → ℕ
  pub known : ℕ → ℕ → ℕ

-- the sender at a place
abbrev pub sender : Option ℕ → ℕ
sender None = zero
sender (Some n) = suc n

-- behind an operation of a node's open block: how many of its sends have ended,
abbrev pub op_sent : (sent : ℕ) → Mode → ℕ
op_sent sent Flush_end = suc sent
op_sent sent Break_end = suc sent
op_sent sent _ = sent

-- how many of them are told,
abbrev pub op_told : (sent told : ℕ) → Mode → ℕ
op_told sent told Flush_tell = sent
op_told sent told Break_end = suc sent
op_told sent told _ = told

-- which was its last break,
abbrev pub op_last_break : (sent broken : ℕ) → Mode → ℕ
op_last_break sent broken Break_end = suc sent
op_last_break sent broken _ = broken

-- and how many sends of another a finished fetch of it has got
abbrev pub op_got : (snap got : ℕ) → Mode → ℕ
op_got snap got (Merge_end late) = max got snap
op_got snap got (Overwrite_end late) = max got snap
op_got snap got (Enter_end late) = max got snap
op_got snap got _ = got

-- a fetch begins with what was sent so far
abbrev pub begin_snap : (sent snap : ℕ → ℕ) → Kind → ℕ → ℕ
begin_snap sent snap Merge = sent
begin_snap sent snap Overwrite = sent
begin_snap sent snap _ = snap

-- the home's numbers
abbrev pub home_count : Count → (sent told broken : ℕ) → Count
home_count c sent told broken = record c { sent = put c.sent 0 sent; told = put c.told 0 told; broken = put c.broken 0 broken }

-- the numbers behind one event
abbrev pub count : State → Event → Count → Count
count s (Pass q) c = record c { known = put c.known q c.told }
count s (Begin n kind) c = record c { snap = put c.snap n (begin_snap c.sent (c.snap n) kind) }
count s (Op n) c = record {
  sent = put c.sent (suc n) (op_sent (c.sent (suc n)) (s.nodes n).mode);
  told = put c.told (suc n) (op_told (c.sent (suc n)) (c.told (suc n)) (s.nodes n).mode);
  broken = put c.broken (suc n) (op_last_break (c.sent (suc n)) (c.broken (suc n)) (s.nodes n).mode);
  snap = c.snap;
  got = put c.got n (λ m. op_got (c.snap n m) (c.got n m) (s.nodes n).mode);
  known = c.known;
}
count s Home_sent c = home_count c (suc (c.sent 0)) (c.told 0) (c.broken 0)
count s Home_told c = home_count c (c.sent 0) (c.sent 0) (c.broken 0)
count s (Enter n) c = record c { snap = put c.snap n c.sent }
count s Home_break c = home_count c (suc (c.sent 0)) (suc (c.sent 0)) (suc (c.sent 0))
count s _ c = c

-- at the start nothing was sent
abbrev pub no_count : Count
no_count = record { sent = λ m. 0; told = λ m. 0; broken = λ m. 0; snap = λ n m. 0; got = λ n m. 0; known = λ q m. 0 }

-- the numbers behind a list of events, newest first
abbrev pub count_after : (place : ℕ → Option ℕ) → State → Count → List Event → Count
count_after place s c [] = c
count_after place s c (e ∷ older) = count (after place s older) e (count_after place s c older)
