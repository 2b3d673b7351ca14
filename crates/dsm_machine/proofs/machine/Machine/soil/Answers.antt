use Rattle.std.proofs.Common.{◌≡◌, ◌<◌, ℕ, Bool, true, List, sym, ap, ◌∙◌, arith, length}
use Rattle.dsm_machine.specs.Machines.{own_of}
use Rattle.dsm_machine.specs.Dirty.{flags, with_page}
use Rattle.dsm_machine.proofs.Flags.{flags_set, soil_same, soil_other}
use Rattle.dsm_machine.proofs.machine.Machine.soil.Goals as goal

pub returns-clause-own : goal.returns-clause-own
returns-clause-own c =
    let m = c.args.self.now in
    let g = c.args.g in
    let h : g < 256 = omega (arith, m.lay.most_pages, c.requires) in
    let four : length m.dirty ≡ 4 = c.with-self.ensures.four in
    ap (λ (ds : List ℕ). record (own_of m) { dirty = flags ds }) c.with-self.ensures.set ∙ ap (λ (f : List Bool). record (own_of m) { dirty = f }) (sym (flags_set m.dirty (with_page m.dirty g) true g h (λ b k ne. soil_other m.dirty g b h four ne) (soil_same m.dirty g h four)))
