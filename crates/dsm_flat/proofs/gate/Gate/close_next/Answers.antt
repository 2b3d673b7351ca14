use Rattle.std.proofs.Common.{refl, sym, ◌∙◌, subst, length}
use Rattle.std.proofs.lemmas.Option.{slice_get_read, same_Some}
use Rattle.dsm_flat.specs.Clocks.{IsUnion}
use Rattle.dsm_flat.proofs.Gating.{closes}
use Rattle.dsm_flat.proofs.gate.Gate.close_next.Goals as goal

pub returns-clause-gate : goal.returns-clause-gate
returns-clause-gate c = λ ts done g v.
    let s = c.args.self.now in
    let at = slice_get_read s.clocks.items (length s.clocks.items) s.closed c.index.result.now refl c.requires c.index.ensures in
    let again = slice_get_read s.clocks.items (length s.clocks.items) s.closed c.index_mut.result.now refl c.requires c.index_mut.ensures.value in
    closes ts done s.o s.signals.items s.seen s.counts.items s.clocks.items s.closed s.all g c.index.result.now c.join.new.self c.join-2.new.self c.requires at v c.in_ok-join.ensures
    (subst (λ old. IsUnion old c.join.new.self c.join-2.new.self) (same_Some c.index_mut.result.now c.index.result.now (sym again ∙ at)) c.in_ok-join-2.ensures)
