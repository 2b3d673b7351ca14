use Rattle.std.proofs.Common.{◌∙◌, length, refl, ap, arith}
use Rattle.std.proofs.lemmas.Option.{slice_get_read}
use Rattle.std.specs.Prelude.{Some}
use Rattle.dsm_flat.proofs.Deciding.{all_others, one_latest, only_load, only_store, no_access}
use Rattle.dsm_flat.proofs.raced.note.Goals as goal

pub returns-in_ok-load-in-Load-clause-latest : goal.returns-in_ok-load-in-Load-clause-latest
returns-in_ok-load-in-Load-clause-latest c = λ ts done now v h all.
    let list = c.args.list.now.items in
    let w = c.in-Load.w in
    let y = c.args.v.place in
    one_latest ts done y c.args.clock.now now v list all w c.index_mut.result.now c.load.new.self
    (slice_get_read list (length list) w c.index_mut.result.now refl (omega (arith, c.if-w-len.true, c.len.ensures, c.args.list.now.ok.0)) c.index_mut.ensures.value) (only_load ts y c.args.v.entry w c.in-Load.v h c.in-Load.is)
    (c.in_ok-load-in-Load.ensures ts w done now v (c.in-Load.v, h ∙ ap Some c.in-Load.is))

pub returns-else-w-len-clause-latest : goal.returns-else-w-len-clause-latest
returns-else-w-len-clause-latest c = λ ts done now v h all.
    all_others ts done c.args.v.place c.args.clock.now now v c.args.list.now.items all
    (λ u lt a. let e = only_load ts c.args.v.place c.args.v.entry c.in-Load.w c.in-Load.v h c.in-Load.is u a in absurd (omega (arith, lt, e, c.if-w-len.false)))

pub returns-then-w-len-2-clause-latest : goal.returns-then-w-len-2-clause-latest
returns-then-w-len-2-clause-latest c = λ ts done now v h all.
    let list = c.args.list.now.items in
    let w = c.in-Store.w in
    let y = c.args.v.place in
    let old = c.index_mut-then-w-len-2.result.now in
    one_latest ts done y c.args.clock.now now v list all w old c.store.new.self
    (slice_get_read list (length list) w old refl (omega (arith, c.if-w-len-2.true, c.len-in-Store.ensures, c.args.list.now.ok.0)) c.index_mut-then-w-len-2.ensures.value) (only_store ts y c.args.v.entry w c.in-Store.v h c.in-Store.is)
    (c.store.ensures ts w done now v (c.in-Store.v, h ∙ ap Some c.in-Store.is))

pub returns-else-w-len-2-clause-latest : goal.returns-else-w-len-2-clause-latest
returns-else-w-len-2-clause-latest c = λ ts done now v h all.
    all_others ts done c.args.v.place c.args.clock.now now v c.args.list.now.items all
    (λ u lt a. let e = only_store ts c.args.v.place c.args.v.entry c.in-Store.w c.in-Store.v h c.in-Store.is u a in absurd (omega (arith, lt, e, c.if-w-len-2.false)))

pub returns-in_default : goal.returns-in_default
returns-in_default c =
    record {
      len = refl;
      latest = λ ts done now v h all.
          all_others ts done c.args.v.place c.args.clock.now now v c.args.list.now.items all
          (λ u lt a. no_access ts c.args.v.place c.args.v.entry h c.in_default.not-Load c.in_default.not-Store u a);
    }
