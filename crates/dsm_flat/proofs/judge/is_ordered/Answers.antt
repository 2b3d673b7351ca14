use Rattle.dsm_flat.proofs.Listing.{ordered_back}
use Rattle.dsm_flat.proofs.judge.is_ordered.Goals as goal
use Rattle.dsm_flat.proofs.judge.is_ordered.Goals.{then-not-conflict, else-not-conflict}

pub returns-else-is_before : goal.returns-else-is_before
returns-else-is_before c = λ ts w s.
    elim c.if-not-conflict.branch [
      | then-not-conflict b ↦ absurd (let t = b.if-not-conflict.true in cc t)
      | else-not-conflict b ↦
          ordered_back ts c.args.list.now c.args.k c.args.m c.is_before-else-is_before.result c.requires.k c.requires.m b.if-not-conflict.ensures
          (λ h. absurd (let e = b.value-is in let t = b.is_before.ensures ts w s in let u = t.1 h in let f = c.if-is_before.false in cc (e, u, f)))
          (c.is_before-else-is_before.ensures ts w s)
    ]
