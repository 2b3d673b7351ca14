use Rattle.std.proofs.Common.{◌∙◌, arith}
use Rattle.dsm_lex.proofs.Cutting.{words-skip_from, words-end, words-comment, words-from, word_has_bytes}
use Rattle.dsm_lex.proofs.splitting.next_word.Goals as goal
use Rattle.dsm_lex.proofs.splitting.next_word.Goals.{then-start-bytes-via-then-start-bytes, then-start-bytes-via-else-start-bytes+then-bytes-start-eq59}

pub returns-clause-words : goal.returns-clause-words
returns-clause-words c =
    let bytes = c.args.bytes.now in
    let start = c.first_other-start.result in
    let end = c.first_end-end.result in
    let s = c.first_other-start.ensures in
    let e = c.first_end-end.ensures in
    words-skip_from bytes c.args.from start s.behind s.within s.first
    ∙ words-from bytes start end (word_has_bytes bytes start end (omega arith) e.behind (s.found (omega arith)) (omega arith) e.found) e.within e.found e.first

pub returns-then-start-bytes-clause-none : goal.returns-then-start-bytes-clause-none
returns-then-start-bytes-clause-none c =
    let bytes = c.args.bytes.now in
    let start = c.first_other-start.result in
    let s = c.first_other-start.ensures in
    words-skip_from bytes c.args.from start s.behind s.within s.first
    ∙ elim c.then-start-bytes.branch [
      | then-start-bytes-via-then-start-bytes w ↦ words-end bytes start (omega (arith, w.if-start-bytes.true))
      | then-start-bytes-via-else-start-bytes+then-bytes-start-eq59 w ↦ words-comment bytes start (omega (arith, w.if-start-bytes.false)) w.if-bytes-start-eq59.true
    ]
