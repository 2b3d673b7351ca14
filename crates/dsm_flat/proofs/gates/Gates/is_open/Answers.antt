use Rattle.std.proofs.Common.{◌∙◌, sym}
use Rattle.dsm_flat.proofs.Adding.{no_signal}
use Rattle.dsm_flat.proofs.gates.Gates.is_open.Goals as goal

pub returns-in-None : goal.returns-in-None
returns-in-None c = λ ts done a z j h lt. absurd (no_signal ts done c.args.self.now c.args.o a (sym c.find.ensures ∙ c.in-None.is) z j h)
