use Rattle.std.proofs.Common.{◌≡◌, ◌≤◌, List, ℕ, [], get_or, length, drop, take, subst, sym, ap, ◌∙◌, arith, length-set, length-take}
use Rattle.dsm_lex.specs.Lexical.{spanned, content_of, words_of}
use Rattle.dsm_lex.proofs.Places.{Splits, Splits-more, Splits-all, content-front, take-front}
use Rattle.dsm_lex.proofs.splitting.split.Goals as goal

pub loop-word-preserved : goal.loop-word-preserved
loop-word-preserved c =
    let text = c.args.text.now in
    let line = c.args.line in
    let front = take line.end text in
    let word = c.in-Some.word in
    let all = words_of (content_of (drop line.start front)) in
    let left = words_of (content_of (drop word.end front)) in
    let count = c.loop-word.words.count in
    let at = c.loop-word.words.at in
    let is : spanned text word ≡ spanned front word = sym (take-front text line.end word.start word.end (omega (arith, c.in-Some.ensures.within, length-take line.end text))) in
    let before = subst (λ (ws : List (List ℕ)). Splits text line all ws count at) c.in-Some.ensures.words c.loop-word.invariant.4 in
    let e = c.in-Some.ensures in
    let lies : (line.start ≤ word.start) × (word.start ≤ word.end) × (word.end ≤ line.end) = (omega (arith, e.behind), omega (arith, e.some), omega (arith, e.within, length-take line.end text)) in
    let after = Splits-more text line all (spanned front word) left count at word before is lies in
    (omega (arith, e.behind, e.some), omega (arith, e.within), omega (arith, e.behind, e.some), omega (arith, length-set at count word, ap length c.push.ensures.at), rw (c.push.ensures.count, c.push.ensures.at) after)

pub returns-clause-count : goal.returns-clause-count
returns-clause-count c =
    let text = c.args.text.now in
    let line = c.args.line in
    let front = take line.end text in
    let all = words_of (content_of (drop line.start front)) in
    let count = c.loop-word.words.count in
    let at = c.loop-word.words.at in
    let end = subst (λ (ws : List (List ℕ)). Splits text line all ws count at) c.in_default.ensures.none c.loop-word.invariant.4 in
    Splits-all text line all count at end ∙ ap (λ bytes. length (words_of bytes)) (content-front text line.start line.end)

pub returns-clause-words : goal.returns-clause-words
returns-clause-words c = λ k d inside counted. c.loop-word.invariant.4.known k d inside counted ∙ ap (λ content. get_or (words_of content) k []) (content-front c.args.text.now c.args.line.start c.args.line.end)
