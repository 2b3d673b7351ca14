use Rattle.std.proofs.Common.{subst}
use Rattle.std.specs.Prelude.{IfSome}
use Rattle.dsm_entry.specs.Told.{lists_of}
use Rattle.dsm_flat.specs.declared.shown.Shown.TheVariants.{Clocks}
use Rattle.dsm_flat.specs.Accesses.{AreClocks}
use Rattle.dsm_flat.proofs.Showing.{shown_told}
use Rattle.dsm_flat.proofs.judge.by_clocks.Goals as goal

pub returns-in-Some-clause-raced : goal.returns-in-Some-clause-raced
returns-in-Some-clause-raced c = λ x y.
    c.first_race.ensures.raced (lists_of c.args.traces.now) c.args.w x y
    (shown_told c.args.traces.now c.args.w c.in_ok-list.list.items c.deref.result.now c.deref-in-Some.result.now (Clocks c.in-Some.clocks) c.in_ok-list.ensures c.deref.ensures.value c.deref-in-Some.ensures.value
    (subst (λ o. IfSome o (λ v. AreClocks (lists_of c.args.traces.now) c.deref.result.now v.items)) c.in-Some.is c.in_ok-clocks.ensures))
