use Rattle.std.proofs.Common.{◌-◌, ◌%◌, ap, ◌∙◌}
use Rattle.std.specs.Prelude.{slice_index}
use Rattle.dsm_words.specs.Words.{word}
use Rattle.dsm_words.proofs.layout.Layout.home_in.Goals as goal

pub returns-clause-home : goal.returns-clause-home
unfolding word
returns-clause-home c =
    let words = c.args.words.now in
    ap (λ n. c.saturating_sub.result % n) c.from.ensures
    ∙ ap (λ v. v % c.args.self.now.t.nodes) (c.saturating_sub.ensures ∙ ap (λ k. slice_index words k - 1) c.place.ensures.place)
