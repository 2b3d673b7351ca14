use Rattle.std.proofs.Common.{◌≡◌, ◌++◌, All, take, drop, flat_map}
use Rattle.dsm_list.specs.Canonical.{code_lines}
use Rattle.dsm_list.specs.Lines.{line}
use Rattle.dsm_isa.specs.Operands.{IsInRange}
use Rattle.dsm_list.proofs.listing.write_code.Given as goal

-- the text, with the lines that are left, is the whole one; the instructions so far are in range
abbrev pub invariant-loop-place : goal.invariant-loop-place
invariant-loop-place l = (l.lines ++ flat_map line (code_lines l.code l.place (drop l.place l.code)) ≡ l.initial.lines ++ flat_map line (code_lines l.code 0 l.code)) × All IsInRange (take l.place l.code)
