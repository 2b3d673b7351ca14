-- Where the instructions of a code may jump to.
use Rattle.std.specs.Prelude.{ℕ, ◌<◌, ◌≤◌, List, length, slice_get, Option, None, Some, IfSome, IsSomeAnd}
use Rattle.std.specs.Option.{option_and_then}
use Rattle.dsm_isa.specs.declared.instr.Instr.{Instr}
use Rattle.dsm_isa.specs.declared.instr.Instr.TheVariants.{Jmp, Beq, Bne, Blt, Bge}

-- the place that an instruction may jump to
abbrev pub target_of : Instr → Option ℕ
target_of (Jmp to) = Some to
target_of (Beq a b to) = Some to
target_of (Bne a b to) = Some to
target_of (Blt a b to) = Some to
target_of (Bge a b to) = Some to
target_of _ = None

-- the place that the instruction at place `at` may jump to
abbrev pub target_at : List Instr → ℕ → Option ℕ
target_at code at = option_and_then target_of (slice_get code at)

-- every jump leads to a place of the code, or to its end
abbrev pub JumpsInside : List Instr → Type 0
JumpsInside code = (at : ℕ) → IfSome (target_at code at) (λ to. to ≤ length code)

-- the instruction at place `at` jumps past the end of the code
abbrev pub IsBadJump : List Instr → ℕ → Type 0
IsBadJump code at = IsSomeAnd (target_at code at) (λ to. length code < to)

-- it is the first that does so
abbrev pub IsFirstBadJump : List Instr → ℕ → Type 0
IsFirstBadJump code at = IsBadJump code at × ((k : ℕ) → k < at → ¬ IsBadJump code k)
