use Rattle.std.proofs.Common.{◌≡◌, ℕ, Vec, Global, List, [], ◌∷◌, map, refl, sym, ap, ◌∙◌}
use Rattle.std.proofs.lemmas.List.{take_all}
use Rattle.std.specs.Str.Lossy.{utf8_lossy}
use Rattle.dsm_top.specs.CommandLine.{words_of}
use Rattle.dsm_top.proofs.command_line.as_texts.Goals as goal

lossy-items : (list : List (Vec ℕ Global)) → map utf8_lossy (map (λ a. a.items) list) ≡ map (λ a. utf8_lossy a.items) list
lossy-items [] = refl
lossy-items (a ∷ list) = ap (λ words. utf8_lossy a.items ∷ words) (lossy-items list)

words_of-others : (list others : List (Vec ℕ Global)) (first : Vec ℕ Global) → list ≡ first ∷ others → words_of (map (λ a. a.items) list) ≡ map (λ a. utf8_lossy a.items) others
words_of-others list others first cut = ap (λ l. words_of (map (λ (a : Vec ℕ Global). a.items) l)) cut ∙ lossy-items others

pub returns : goal.returns
returns c =
    let others = c.in-Some.others.now in
    let all = take_all c.loop-argument.argument-index others c.loop-argument-test.false in
    c.loop-argument.invariant ∙ ap (map (λ (a : Vec ℕ Global). utf8_lossy a.items)) all
    ∙ sym (words_of-others c.args.arguments.now others c.in-Some.field-0-0.now c.in-Some.ensures.cases.0)
