use Rattle.std.proofs.Common.{◌+◌, ◌/◌, ◌^◌, ◌<◌, w64, refl, arith}
use Rattle.std.specs.Int.{trailing_zeros}
use Rattle.dsm_notice.proofs.Lowest.{lowest, no_bits}
use Rattle.dsm_notice.proofs.drain.first_page.Goals as goal

pub returns-then-rest-eq0-clause-none : goal.returns-then-rest-eq0-clause-none
returns-then-rest-eq0-clause-none c _ = no_bits c.args.bits c.args.from c.args.to c.if-rest-eq0.true

pub returns-then-b-to-clause-some : goal.returns-then-b-to-clause-some
returns-then-b-to-clause-some c =
    let some : 0 < c.args.bits / 2 ^ c.args.from = omega (arith, c.if-rest-eq0.false) in
    let found = lowest c.args.bits c.args.from (c.args.from + trailing_zeros w64 (c.args.bits / 2 ^ c.args.from)) c.ranges.bits.fits some refl in
    (omega arith, c.if-b-to.true, found.0, found.1)

pub returns-else-b-to-clause-none : goal.returns-else-b-to-clause-none
returns-else-b-to-clause-none c _ =
    let some : 0 < c.args.bits / 2 ^ c.args.from = omega (arith, c.if-rest-eq0.false) in
    let found = lowest c.args.bits c.args.from (c.args.from + trailing_zeros w64 (c.args.bits / 2 ^ c.args.from)) c.ranges.bits.fits some refl in
    λ b p q. found.1 b p (omega (arith, c.if-b-to.false))
