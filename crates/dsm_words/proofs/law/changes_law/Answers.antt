use Rattle.dsm_words.proofs.ListChanges.{all_others, length-all}
use Rattle.dsm_words.proofs.law.changes_law.Goals as goal

pub returns : goal.returns
returns c = record { others = all_others; length = length-all }
