use Rattle.std.proofs.Common.{arith}
use Rattle.dsm_notice.proofs.Telling.{Tells, posts}
use Rattle.dsm_notice.proofs.law.post_law.Goals as goal

pub returns-clause-count : goal.returns-clause-count
returns-clause-count c l n g h xs told made = let s : Tells n g h 0 xs told = posts n g h l.nodes 0 0 xs told made in omega (arith, s.count)

pub returns-clause-told : goal.returns-clause-told
returns-clause-told c l n g h xs told made = let s : Tells n g h 0 xs told = posts n g h l.nodes 0 0 xs told made in s.tells
