use Rattle.std.proofs.Common.{◌≡◌, ℕ, ◌+◌, ◌/◌, ◌^◌, ◌<◌, ◌≤◌, w64, refl, subst, arith}
use Rattle.std.specs.Int.{bit_at, trailing_zeros}
use Rattle.dsm_notice.specs.Finding.{HasGap}
use Rattle.dsm_notice.proofs.Lowest.{lowest, no_bits}
use Rattle.dsm_machine.proofs.machine.working.visiting.next_busy.Goals as goal

pub returns-then-rest-eq0-clause-none : goal.returns-then-rest-eq0-clause-none
returns-then-rest-eq0-clause-none c _ = subst (λ (x : ℕ). HasGap x c.args.m c.args.nodes) c.from.ensures (no_bits c.from.result c.args.m c.args.nodes c.if-rest-eq0.true)

pub returns-then-b-nodes-clause-some : goal.returns-then-b-nodes-clause-some
returns-then-b-nodes-clause-some c =
    let b = c.args.m + trailing_zeros w64 (c.from.result / 2 ^ c.args.m) in
    let some : 0 < c.from.result / 2 ^ c.args.m = omega (arith, c.if-rest-eq0.false) in
    let found = lowest c.from.result c.args.m b (omega (arith, c.ranges.busy.fits, c.from.ensures)) some refl in
    subst (λ (x : ℕ). (c.args.m ≤ b) × (b < c.args.nodes) × (bit_at x b ≡ 1) × HasGap x c.args.m b) c.from.ensures (omega arith, c.if-b-nodes.true, found.0, found.1)

pub returns-else-b-nodes-clause-none : goal.returns-else-b-nodes-clause-none
returns-else-b-nodes-clause-none c _ =
    let b = c.args.m + trailing_zeros w64 (c.from.result / 2 ^ c.args.m) in
    let some : 0 < c.from.result / 2 ^ c.args.m = omega (arith, c.if-rest-eq0.false) in
    let found = lowest c.from.result c.args.m b (omega (arith, c.ranges.busy.fits, c.from.ensures)) some refl in
    subst (λ (x : ℕ). HasGap x c.args.m c.args.nodes) c.from.ensures (λ x p q. found.1 x p (omega (arith, c.if-b-nodes.false)))
