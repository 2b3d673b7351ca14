use Rattle.std.proofs.Common.{None, ap}
use Rattle.dsm_top.proofs.planning.Given.endless.Goals as goal

pub returns : goal.returns
returns c settings given = ap (λ l. record { turns = l.turns; looks = None }) (c.limits.ensures settings given)
