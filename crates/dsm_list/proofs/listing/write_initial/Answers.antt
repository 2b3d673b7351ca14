use Rattle.std.proofs.Common.{◌<◌, ◌^◌, arith, subst}
use Rattle.std.specs.List.{All}
use Rattle.std.proofs.lemmas.Grind.{common_steps}
use Rattle.std.proofs.lemmas.List.{take_all}
use Rattle.std.proofs.lemmas.List.Elements.{All-more}
use Rattle.dsm_list.proofs.listing.write_initial.Goals as goal

pub loop-word-preserved : goal.loop-word-preserved
loop-word-preserved c = (
  grind (arith, common_steps),
  All-more (λ word. word.1 < 2 ^ 64) c.args.init.now c.loop-word.word-index (0, 0) c.loop-word-test.true c.loop-word.invariant.1 c.write_init.ensures.range,
)

pub returns-clause-range : goal.returns-clause-range
returns-clause-range c = subst (All (λ word. word.1 < 2 ^ 64)) (take_all c.loop-word.word-index c.args.init.now c.loop-word-test.false) c.loop-word.invariant.1
