use Rattle.dsm_words.proofs.WordLaws.{word_same, word_other, reply_is, length-done}
use Rattle.dsm_words.proofs.law.operation_law.Goals as goal

pub returns : goal.returns
returns c = record { own = word_same; others = word_other; answer = reply_is; length = length-done }
