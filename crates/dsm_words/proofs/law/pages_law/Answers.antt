use Rattle.dsm_words.proofs.Taking.{pages_taken}
use Rattle.dsm_words.proofs.law.pages_law.Goals as goal

pub returns : goal.returns
returns c = record { taken = pages_taken }
