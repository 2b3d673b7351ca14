use Rattle.std.proofs.Common.{◌∙◌, sym, refl}
use Rattle.dsm_entry.specs.declared.entry.Entry.TheVariants.{Signal}
use Rattle.dsm_flat.specs.Gates.{OfSignal}
use Rattle.dsm_flat.proofs.Adding.{gates_signal, at_place}
use Rattle.dsm_flat.proofs.gates.Gates.signal.Goals as goal

pub returns-in_ok-signal : goal.returns-in_ok-signal
returns-in_ok-signal c = λ ts before y v h a.
    let s = c.args.self.now in
    let k = c.in-Some.k in
    let g = c.index_mut.result.now in
    let r = at_place s.index s.list.items c.args.o k g c.requires (sym c.find.ensures ∙ c.in-Some.is) c.index_mut.ensures.value in
    let e = c.in_ok-signal.ensures in
    gates_signal ts before y c.args.clock.now c.args.done.now v c.args.o c.args.j s _ k g c.signal.new.self h a refl refl r.0 e.o r.1 (e.gate ts before y v (rw r.1 h))

pub returns-in_default : goal.returns-in_default
returns-in_default c = λ ts before y v h a.
    let r = a.all y (Signal c.args.o c.args.j) c.args.o h (OfSignal c.args.j) in
    absurd (c.in_default.not-Some r.0 (c.find.ensures ∙ r.1))
