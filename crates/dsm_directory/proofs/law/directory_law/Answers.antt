use Rattle.std.proofs.Common.{true, inl, inr, refl, ap, ◌==◌, arith}
use Rattle.std.proofs.lemmas.Nat.Bits.{bit_at-zero}
use Rattle.dsm_directory.specs.Directory.{no_row}
use Rattle.dsm_directory.proofs.Sharing.{Shares, shares, own_read}
use Rattle.dsm_directory.proofs.Holding.{Holds, holds}
use Rattle.dsm_directory.proofs.Leaving.{Leaves, leaves}
use Rattle.dsm_directory.proofs.law.directory_law.Goals as goal

pub returns-clause-own : goal.returns-clause-own
returns-clause-own c l n g xs row q h = own_read n g l.nodes 0 no_row row xs (omega arith) (omega arith) h

pub returns-clause-others : goal.returns-clause-others
returns-clause-others c l n g xs row h =
    let s : Shares n g no_row xs row = shares n g l.nodes 0 no_row row xs h in
    (λ t. elim (s.others.0 t) [ inl e ↦ absurd (cc e) | inr a ↦ a ], λ a. s.others.1 (inr a))

pub returns-clause-busy : goal.returns-clause-busy
returns-clause-busy c l n g xs row h m =
    let s : Shares n g no_row xs row = shares n g l.nodes 0 no_row row xs h in
    (λ t. elim ((s.busy m).0 t) [ inl e ↦ absurd (cc (e, ap (λ x. x == 1) (bit_at-zero m))) | inr a ↦ a ], λ a. (s.busy m).1 (inr a))

pub returns-clause-none : goal.returns-clause-none
returns-clause-none c l g xs holder h = let s : Holds g xs holder = holds g l.nodes 0 xs holder h in s.none

pub returns-clause-holder : goal.returns-clause-holder
returns-clause-holder c l g xs holder h = let s : Holds g xs holder = holds g l.nodes 0 xs holder h in s.some

pub returns-clause-unused : goal.returns-clause-unused
returns-clause-unused c l n g xs left h = let s : Leaves n g true xs left = leaves n g l.procs _ true xs left h in (λ t. (s.unused.0 t).1, λ r. s.unused.1 (refl, r))

pub returns-clause-left : goal.returns-clause-left
returns-clause-left c l n g xs left h = let s : Leaves n g true xs left = leaves n g l.procs _ true xs left h in s.stored
