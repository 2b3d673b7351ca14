use Rattle.std.proofs.Common.{arith}
use Rattle.dsm_flat.proofs.Listing.{ordered_more}
use Rattle.dsm_flat.proofs.judge.first_racy.Goals as goal

pub returns-then-not-is_ordered : goal.returns-then-not-is_ordered
returns-then-not-is_ordered c = λ ts w s.
    (omega (arith, c.loop-m.auto), c.loop-m-test.true, c.loop-m.invariant ts w s, c.if-not-is_ordered.ensures ts w s)

pub loop-m-preserved : goal.loop-m-preserved
loop-m-preserved c = λ ts w s.
    ordered_more ts c.args.list.now c.args.k c.loop-m.m (c.loop-m.invariant ts w s) (c.if-not-is_ordered.ensures ts w s)

pub returns : goal.returns
returns c = λ ts w s n lo hi. c.loop-m.invariant ts w s n lo (omega (arith, hi, c.loop-m-test.false))
