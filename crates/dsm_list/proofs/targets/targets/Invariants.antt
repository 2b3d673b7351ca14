use Rattle.std.proofs.Common.{◌≡◌, ◌+◌, ◌≤◌, ℕ, false, length, get_or, take}
use Rattle.dsm_list.specs.Canonical.{is_target}
use Rattle.dsm_list.proofs.targets.targets.Given as goal

-- the places are marked to which the instructions so far jump
abbrev pub invariant-loop-instr : goal.invariant-loop-instr
invariant-loop-instr l = (length l.marks.items ≡ length l.code + 1) × ((place : ℕ) → place ≤ length l.code → get_or l.marks.items place false ≡ is_target (take l.instr-index l.code) place)
