use Rattle.std.proofs.Common.{arith}
use Rattle.dsm_flat.proofs.Deciding.{latest_other, only_load, only_store, no_access}
use Rattle.dsm_flat.proofs.judge.note.Goals as goal

pub returns-else-at-w : goal.returns-else-at-w
returns-else-at-w c = λ ts done now v h l.
    latest_other ts c.args.w done c.args.v.place c.args.clock.now now v c.args.latest.now l
    (λ a. let e = only_load ts c.args.v.place c.args.v.entry c.in-Load.at c.in-Load.v h c.in-Load.is c.args.w a in absurd (omega (arith, e, c.if-at-w.false)))

pub returns-else-at-w-2 : goal.returns-else-at-w-2
returns-else-at-w-2 c = λ ts done now v h l.
    latest_other ts c.args.w done c.args.v.place c.args.clock.now now v c.args.latest.now l
    (λ a. let e = only_store ts c.args.v.place c.args.v.entry c.in-Store.at c.in-Store.v h c.in-Store.is c.args.w a in absurd (omega (arith, e, c.if-at-w-2.false)))

pub returns-in_default : goal.returns-in_default
returns-in_default c = λ ts done now v h l.
    latest_other ts c.args.w done c.args.v.place c.args.clock.now now v c.args.latest.now l
    (no_access ts c.args.v.place c.args.v.entry h c.in_default.not-Load c.in_default.not-Store c.args.w)
