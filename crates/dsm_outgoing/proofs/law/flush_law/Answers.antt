use Rattle.dsm_outgoing.proofs.Flushing.{flush_sends, flush_leaves, flush_made}
use Rattle.dsm_outgoing.proofs.law.flush_law.Goals as goal

pub returns : goal.returns
returns c = record { sends = flush_sends; unnamed = flush_leaves; made = flush_made }
