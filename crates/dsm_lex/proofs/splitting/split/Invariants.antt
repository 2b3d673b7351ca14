use Rattle.std.proofs.Common.{◌≡◌, ◌-◌, ◌+◌, ◌≤◌, length, drop}
use Rattle.dsm_lex.specs.Lexical.{content_of, words_of}
use Rattle.dsm_lex.proofs.Places.{Splits}
use Rattle.dsm_lex.proofs.splitting.split.Given as goal

abbrev pub invariant-loop-word : goal.invariant-loop-word
invariant-loop-word l =
    (l.fn.line.start ≤ l.from)
    × (l.from ≤ length l.front)
    × (l.words.count + l.fn.line.start ≤ l.from)
    × (length l.words.at ≡ 6)
    × Splits l.text l.fn.line (words_of (content_of (drop l.fn.line.start l.front))) (words_of (content_of (drop l.from l.front))) l.words.count l.words.at

abbrev pub decreases-loop-word : goal.decreases-loop-word
decreases-loop-word l = length l.front - l.from
