use Rattle.dsm_lex.proofs.Numbers.{number_of-forth, number_of-back}
use Rattle.dsm_lex.proofs.Pieces.{no_feed, no_blank, some_bytes}
use Rattle.dsm_lex.proofs.laws.lex_law.Goals as goal

pub returns : goal.returns
returns c = record { lines = no_feed; no_blank = no_blank; no_empty = some_bytes; numbers = λ word n. (number_of-forth word n, number_of-back word n) }
