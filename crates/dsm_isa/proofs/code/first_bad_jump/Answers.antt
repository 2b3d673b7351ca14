use Rattle.std.proofs.Common.{arith, below_more}
use Rattle.dsm_isa.proofs.Jumping.{not_bad_read, inside}
use Rattle.dsm_isa.proofs.code.first_bad_jump.Goals as goal

pub loop-at-preserved : goal.loop-at-preserved
loop-at-preserved c =
    below_more _ _ c.loop-at.invariant
    (not_bad_read c.args.list.now c.loop-at.at c.index-list-at.result c.loop-at-test.true c.index-list-at.is
    (λ b. let h = c.jumps_past.ensures.1 b in cc))

pub returns : goal.returns
returns c = inside c.args.list.now (λ k l. c.loop-at.invariant k (omega arith))
