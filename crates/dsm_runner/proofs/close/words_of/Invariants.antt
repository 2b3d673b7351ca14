use Rattle.std.proofs.Common.{◌≡◌, ◌++◌, drop}
use Rattle.std.specs.Mem.Slots.{slots_items}
use Rattle.dsm_runner.proofs.close.words_of.Given as goal

-- the words so far, and those that are left
abbrev pub invariant-loop-i : goal.invariant-loop-i
invariant-loop-i l = l.words.items ++ drop l.i (slots_items l.closed.words) ≡ slots_items l.closed.words
