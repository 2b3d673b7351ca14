-- What a program keeps.
use Rattle.std.specs.Prelude.{ℕ, ◌<◌, ◌≤◌, ◌*◌, ◌^◌, List, length, map, All}
use Rattle.std.specs.List.Sorted.{IsStrictlyIncreasing}
use Rattle.dsm_isa.specs.declared.instr.Instr.{Instr}
use Rattle.dsm_isa.specs.declared.instr.Instr.TheVariants.{Lock, Unlock, Bar, Set, Wait, Waitr}
use Rattle.dsm_isa.specs.Jumps.{JumpsInside}
use Rattle.dsm_isa.specs.Limits.{IsWithinLimits}
use Rattle.dsm_isa.specs.Operands.{IsInRange}
use Rattle.dsm_isa.specs.ProgramText.{Sizes, ProgramText}

-- the addresses ascend strictly and are below the number of words, and no value is 0
abbrev pub IsInitial : Sizes → List (ℕ × ℕ) → Type 0
IsInitial shape init =
    IsStrictlyIncreasing (map (λ w. w.0) init) × All (λ w. (w.0 < shape.pages * shape.words) × (0 < w.1)) init

-- the lock, barrier or flag of an instruction is one that there is
abbrev pub ObjectInside : Sizes → Instr → Type 0
ObjectInside shape (Lock l) = l < shape.locks
ObjectInside shape (Unlock l) = l < shape.locks
ObjectInside shape (Bar b) = b < shape.barriers
ObjectInside shape (Set f) = f < shape.flags
ObjectInside shape (Wait f k) = f < shape.flags
ObjectInside shape (Waitr f a) = f < shape.flags
ObjectInside shape _ = Unit {0}

-- every one of the code is
abbrev pub ObjectsInside : Sizes → List Instr → Type 0
ObjectsInside shape code = All (ObjectInside shape) code

-- Each value of the type `Program` is one.
pub record IsProgram (p : ProgramText) : Type 0 where
  pub sizes : IsWithinLimits (p.shape.pages) (p.shape.words) (p.shape.locks) (p.shape.barriers) (p.shape.flags)
  pub initial : IsInitial p.shape p.init
  pub values : All (λ word. word.1 < 2 ^ 64) p.init
  pub some : 0 < length p.code
  pub most : length p.code ≤ 4096
  pub jumps : JumpsInside p.code
  pub objects : ObjectsInside p.shape p.code
  pub ranges : All IsInRange p.code
