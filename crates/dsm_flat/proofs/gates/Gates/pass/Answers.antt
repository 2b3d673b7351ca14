use Rattle.std.proofs.Common.{◌∙◌, sym, refl, subst}
use Rattle.std.specs.Prelude.{◌⊎◌, ◌↔◌}
use Rattle.dsm_flat.specs.Clocks.{Counted, FromSignals}
use Rattle.dsm_entry.specs.declared.entry.Entry.TheVariants.{Pass}
use Rattle.dsm_flat.specs.Visits.{AreVisited}
use Rattle.dsm_flat.specs.Gates.{OfPass}
use Rattle.dsm_flat.proofs.Adding.{gates_set, indexed_set, at_place}
use Rattle.dsm_flat.proofs.gates.Gates.pass.Goals as goal

pub pass-requires : goal.pass-requires
pass-requires c =
    let s = c.args.self.now in
    let r = at_place s.index s.list.items c.args.o c.in-Some.k c.index_mut.result.now c.requires.3.indexed (sym c.find.ensures ∙ c.in-Some.is) c.index_mut.ensures.value in
    (c.requires.0, c.requires.1, c.requires.2, c.requires.3.each c.in-Some.k c.index_mut.result.now r.0, rw r.1 c.requires.4)

pub returns-in_ok-pass-clause-indexed : goal.returns-in_ok-pass-clause-indexed
returns-in_ok-pass-clause-indexed c =
    let s = c.args.self.now in
    let r = at_place s.index s.list.items c.args.o c.in-Some.k c.index_mut.result.now c.requires.3.indexed (sym c.find.ensures ∙ c.in-Some.is) c.index_mut.ensures.value in
    indexed_set s.index s.list.items c.in-Some.k c.index_mut.result.now c.pass.new.self c.requires.3.indexed r.0 c.in_ok-pass.ensures.o

pub returns-in_ok-pass-clause-gates : goal.returns-in_ok-pass-clause-gates
returns-in_ok-pass-clause-gates c = λ ts done a v.
    let s = c.args.self.now in
    let r = at_place s.index s.list.items c.args.o c.in-Some.k c.index_mut.result.now a.indexed (sym c.find.ensures ∙ c.in-Some.is) c.index_mut.ensures.value in
    gates_set ts done done s _ c.in-Some.k c.index_mut.result.now c.pass.new.self a refl refl r.0 c.in_ok-pass.ensures.o (λ g. c.in_ok-pass.ensures.gate ts done g (subst (λ o. AreVisited ts o done c.args.c) (sym r.1) v)) (λ m d n at g. g)

pub returns-in_ok-pass-clause-clock : goal.returns-in_ok-pass-clause-clock
returns-in_ok-pass-clause-clock c = λ ts done y a v h x.
    let s = c.args.self.now in
    let r = at_place s.index s.list.items c.args.o c.in-Some.k c.index_mut.result.now a.indexed (sym c.find.ensures ∙ c.in-Some.is) c.index_mut.ensures.value in
    subst (λ o. Counted c.pass.new.clock x ↔ (Counted c.args.clock.now x ⊎ FromSignals ts o c.args.c x)) r.1
    (c.in_ok-pass.ensures.clock ts done y (a.each c.in-Some.k c.index_mut.result.now r.0) (subst (λ o. AreVisited ts o done c.args.c) (sym r.1) v) (rw r.1 h) x)

pub returns-in_default-clause-clock : goal.returns-in_default-clause-clock
returns-in_default-clause-clock c = λ ts done y a v h.
    let r = a.all y (Pass c.args.o c.args.c) c.args.o h (OfPass c.args.c) in
    absurd (c.in_default.not-Some r.0 (c.find.ensures ∙ r.1))
