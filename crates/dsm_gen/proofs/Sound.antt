-- What a list of instructions is refused for as code.
use Rattle.std.proofs.Common.{◌≡◌, ◌↔◌, ℕ, ◌<◌, ◌≤◌, List, [], length, Option, None, Some, Result, Err, IfSome, IsSomeAnd, arith, ap, refl}
use Rattle.dsm_isa.specs.declared.instr.Instr.{Instr}
use Rattle.dsm_isa.specs.declared.code.CodeFault.{CodeFault}
use Rattle.dsm_isa.specs.declared.code.CodeFault.TheVariants.{Empty, TooLong, BadJump}
use Rattle.dsm_isa.specs.declared.shape.Shape.{Shape}
use Rattle.dsm_isa.specs.ProgramText.{sizes_of}
use Rattle.dsm_isa.specs.Jumps.{target_at, JumpsInside, IsFirstBadJump}

not_past : (o : Option ℕ) (end : ℕ) → IfSome o (λ to. to ≤ end) → IsSomeAnd o (λ to. end < to) → ⊥
not_past None end inside past = past
not_past (Some to) end inside past = let low : to ≤ end = inside in let high : end < to = past in omega (arith, low, high)

-- Some instructions that are not too many and whose jumps are inside are refused for nothing.
pub no_fault : {Code : Type 0} (list : List Instr) (r : Result Code CodeFault) (fault : CodeFault) → r ≡ Err fault → 0 < length list → length list ≤ 4096 → JumpsInside list → ((r ≡ Err Empty) ↔ (list ≡ [])) → ((r ≡ Err TooLong) ↔ (4096 < length list)) → ((at : ℕ) → (r ≡ Err (BadJump at)) ↔ ((length list ≤ 4096) × IsFirstBadJump list at)) → ⊥
no_fault list r Empty is some most jumps empty long bad =
    let none : length list ≡ 0 = ap length (empty.0 is) in omega (arith, some, none)
no_fault list r TooLong is some most jumps empty long bad =
    let more : 4096 < length list = long.0 is in omega (arith, most, more)
no_fault list r (BadJump at) is some most jumps empty long bad =
    not_past (target_at list at) (length list) (jumps at) ((bad at).0 is).1.0

-- the numbers of a shape, which are these
pub sizes-same : (s : Shape) → s.pages ≡ 256 → s.words ≡ 9 → s.locks ≡ 1 → s.barriers ≡ 1 → s.flags ≡ 0 → sizes_of s ≡ record { pages = 256; words = 9; locks = 1; barriers = 1; flags = 0 }
sizes-same s pages words locks barriers flags = rw (pages, words, locks, barriers, flags) refl
