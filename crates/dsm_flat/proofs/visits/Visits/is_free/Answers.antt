use Rattle.dsm_flat.proofs.Following.{free_pass}
use Rattle.dsm_flat.proofs.visits.Visits.is_free.Goals as goal

pub returns-in-Pass : goal.returns-in-Pass
returns-in-Pass c = λ ts done a. free_pass ts done c.args.e c.in-Pass.o c.in-Pass.c c.in-Pass.is c.is_open.result (c.is_open.ensures ts done a)
