use Rattle.std.proofs.Common.{arith, subst}
use Rattle.std.specs.List.{All}
use Rattle.std.proofs.lemmas.Grind.{common_steps}
use Rattle.std.proofs.lemmas.List.{take_all}
use Rattle.std.proofs.lemmas.List.Elements.{All-more}
use Rattle.std.proofs.lemmas.Result.{on_ok_weaker}
use Rattle.dsm_isa.specs.Operands.{IsInRange}
use Rattle.dsm_list.proofs.listing.write_code.Goals as goal

pub loop-place-preserved : goal.loop-place-preserved
loop-place-preserved c = (
  grind (arith, common_steps),
  All-more IsInRange c.args.code.now c.loop-place.place c.index-code-place.result c.loop-place-test.true c.loop-place.invariant.1 (subst IsInRange c.index-code-place.is c.in_ok-write_instr.ensures.range),
)

pub returns-clause-range : goal.returns-clause-range
returns-clause-range c =
    let all = subst (All IsInRange) (take_all c.loop-place.place c.args.code.now c.loop-place-test.false) c.loop-place.invariant.1 in
    on_ok_weaker c.write_label-2.result (λ text. all) c.write_label-2.ensures
