use Rattle.std.proofs.Common.{◌≡◌, map, take}
use Rattle.std.specs.Str.Lossy.{utf8_lossy}
use Rattle.dsm_top.specs.Plans.{texts}
use Rattle.dsm_top.proofs.command_line.as_texts.Given as goal

-- the arguments so far are read
abbrev pub invariant-loop-argument : goal.invariant-loop-argument
invariant-loop-argument l = texts l.words.items ≡ map (λ a. utf8_lossy a.items) (take l.argument-index l.others)
