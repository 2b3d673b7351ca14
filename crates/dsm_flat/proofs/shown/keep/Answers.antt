use Rattle.std.proofs.Common.{◌∙◌, length, arith, refl, sym, subst}
use Rattle.std.specs.Prelude.{slice_set}
use Rattle.std.proofs.lemmas.Option.{slice_get_within}
use Rattle.dsm_flat.specs.declared.accesses.Access.{Access}
use Rattle.dsm_flat.specs.Accesses.{AreKept, first_place}
use Rattle.dsm_flat.proofs.Keeping.{some_of, none_of, index_at, kept_own, kept_other}
use Rattle.dsm_flat.proofs.shown.keep.Goals as goal

pub index_mut-requires : goal.index_mut-requires
index_mut-requires c =
    let r = c.requires.listed in
    let s = some_of c.kind.result c.if-is_some.ensures in
    let a = index_at r.0 c.args.w c.args.list.now r.1 c.args.v.place c.args.v.entry s.0 r.2 (sym c.kind.ensures ∙ s.1) in
    let k = c.index_of-k.ensures r.0 c.args.w a.0 (first_place (length r.0)) (record { place = c.args.v.place; stores = s.0 }) r.1 a.1 refl in
    let lt = slice_get_within c.args.list.now a.0 (record { place = c.args.v.place; stores = s.0 }) a.1 in
    omega (arith, k, lt, c.requires.len, c.args.kept.now.ok.0)

pub returns-in_ok-kept : goal.returns-in_ok-kept
returns-in_ok-kept c = λ ts done now g v h old.
    let s = some_of c.kind.result c.if-is_some.ensures in
    let b : Access = record { place = c.args.v.place; stores = s.0 } in
    let a = index_at ts c.args.w c.args.list.now g c.args.v.place c.args.v.entry s.0 h (sym c.kind.ensures ∙ s.1) in
    let k = c.index_of-k.ensures ts c.args.w a.0 (first_place (length ts)) b g a.1 refl in
    subst (λ z. AreKept ts now c.args.list.now (slice_set c.args.kept.now.items c.index_of-k.result z)) (sym c.in_ok-kept.ensures)
    (subst (λ n. AreKept ts now c.args.list.now (slice_set c.args.kept.now.items n c.args.clock.now)) (sym k)
    (kept_own ts c.args.w c.args.list.now g done c.args.v.place c.args.clock.now now v c.args.kept.now.items old a.0 b a.1 refl))

pub returns-else-is_some : goal.returns-else-is_some
returns-else-is_some c = λ ts done now g v h old.
    kept_other ts c.args.w c.args.list.now g done c.args.v.place c.args.clock.now now v c.args.kept.now.items old c.args.v.entry h (sym c.kind.ensures ∙ none_of c.kind.result c.if-is_some.ensures)
