use Rattle.dsm_exclusive.proofs.Broken.{break_sends, break_leaves, break_made}
use Rattle.dsm_exclusive.proofs.law.break_law.Goals as goal

pub returns : goal.returns
returns c = record { sends = break_sends; unnamed = break_leaves; made = break_made }
