use Rattle.dsm_flat.proofs.WordLaw.{word_is_flat, handed_over}
use Rattle.dsm_flat.proofs.laws.word_law.Goals as goal

pub returns : goal.returns
returns c = record { flat = word_is_flat; handed = handed_over }
