use Rattle.std.proofs.Common.{arith}
use Rattle.dsm_top.proofs.Spelling.{one_behind}
use Rattle.dsm_top.proofs.planning.number_behind.Goals as goal

pub returns-in_err-n-clause-none : goal.returns-in_err-n-clause-none
returns-in_err-n-clause-none c = rw c.from_residual.ensures (λ n range is. c.in_err-n.ensures.none n (omega (arith, range, c.ranges.most.fits)) is)

pub returns-then-n-most-clause-some : goal.returns-then-n-most-clause-some
returns-then-n-most-clause-some c = ((omega arith, omega arith), c.in_ok-n.ensures.some)

pub returns-else-n-ge1-clause-none : goal.returns-else-n-ge1-clause-none
returns-else-n-ge1-clause-none c n range is =
    let same = one_behind c.args.word.now c.args.name.now c.in_ok-n.n n (omega arith) (omega (arith, range, c.ranges.most.fits)) c.in_ok-n.ensures.some is in
    omega (arith, same, range, c.else-n-ge1.either)
