use Rattle.std.proofs.Common.{◌≡◌, ◌<◌, ℕ, Bool, false, List, sym, ap, ◌∙◌, arith, length}
use Rattle.dsm_machine.specs.Machines.{own_of}
use Rattle.dsm_machine.specs.Dirty.{flags, cleared_in}
use Rattle.dsm_machine.proofs.Flags.{flags_set, clear_same, clear_other}
use Rattle.dsm_machine.proofs.machine.Machine.clean.Goals as goal

pub returns-clause-own : goal.returns-clause-own
returns-clause-own c =
    let m = c.args.self.now in
    let g = c.args.g in
    let h : g < 256 = omega (arith, m.lay.most_pages, c.requires) in
    let four : length m.dirty ≡ 4 = c.without-self.ensures.four in
    ap (λ (ds : List ℕ). record (own_of m) { dirty = flags ds }) c.without-self.ensures.cleared ∙ ap (λ (f : List Bool). record (own_of m) { dirty = f }) (sym (flags_set m.dirty (cleared_in m.dirty g) false g h (λ b k ne. clear_other m.dirty g b h four ne) (clear_same m.dirty g h four)))
