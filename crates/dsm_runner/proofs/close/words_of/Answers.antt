use Rattle.std.proofs.Common.{◌≡◌, ℕ, ◌+◌, suc, List, [], ◌∷◌, ◌++◌, drop, arith, sym, ap, ◌∙◌}
use Rattle.std.proofs.lemmas.List.{append_assoc}
use Rattle.std.specs.Mem.Slots.{slots_items}
use Rattle.atomic_table.proofs.Lists.{drop_at}
use Rattle.dsm_runner.proofs.close.words_of.Goals as goal

pub loop-i-preserved : goal.loop-i-preserved
loop-i-preserved c =
    let all : List ℕ = slots_items c.args.closed.now.words in
    let i : ℕ = c.loop-i.i in
    let next : suc i ≡ i + 1 = omega arith in
    ap (λ l. l ++ drop (i + 1) all) c.in_ok-push.ensures.items
    ∙ append_assoc c.loop-i.words.items (c.word.result ∷ []) (drop (i + 1) all)
    ∙ ap (λ l. c.loop-i.words.items ++ l) (sym (drop_at all i c.word.result c.word.ensures ∙ ap (λ n. c.word.result ∷ drop n all) next))
    ∙ c.loop-i.invariant
