use Rattle.std.proofs.Common.{arith, refl}
use Rattle.dsm_isa.proofs.Ascending.{broken, ascending}
use Rattle.dsm_isa.proofs.program.ascends.Goals as goal

pub returns-then-init-at : goal.returns-then-init-at
returns-then-init-at c =
    (λ h. cc, λ h. absurd (broken c.args.init.now c.loop-at.at c.loop-at.auto.at c.loop-at-test.true (omega arith) h))

pub returns : goal.returns
returns c = (λ h. ascending c.args.init.now (λ k l. c.loop-at.invariant k (omega arith)), λ h. refl)
