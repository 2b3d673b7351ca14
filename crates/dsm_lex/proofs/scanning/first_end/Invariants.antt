use Rattle.std.proofs.Common.{◌≡◌, ℕ, ◌<◌, ◌≤◌, get_or, false}
use Rattle.dsm_lex.specs.Lexical.{ends_word}
use Rattle.dsm_lex.proofs.scanning.first_end.Given as goal

abbrev pub invariant-loop-at : goal.invariant-loop-at
invariant-loop-at l = (k : ℕ) → l.from ≤ k → k < l.at → ends_word (get_or l.bytes k 0) ≡ false
