use Rattle.std.proofs.Common.{true, refl}
use Rattle.dsm_twin.proofs.Dropping.{Drops, drops}
use Rattle.dsm_twin.proofs.law.twin_law.Goals as goal

pub returns-clause-unwritten : goal.returns-clause-unwritten
returns-clause-unwritten c l n g xs d h = let s : Drops n g true true xs d = drops n g l.procs _ true true xs d h in (λ t. (s.unwritten.0 t).1, λ r. s.unwritten.1 (refl, r))

pub returns-clause-dropped : goal.returns-clause-dropped
returns-clause-dropped c l n g xs d h = let s : Drops n g true true xs d = drops n g l.procs _ true true xs d h in s.stored

pub returns-clause-left : goal.returns-clause-left
returns-clause-left c l n g xs d h = let s : Drops n g true true xs d = drops n g l.procs _ true true xs d h in (λ m. (s.left.0 m).2, λ r. s.left.1 (refl, refl, r))
