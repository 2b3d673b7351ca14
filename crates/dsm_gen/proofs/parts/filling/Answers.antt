use Rattle.std.proofs.Common.{rules, sym, ap}
use Rattle.std.specs.List.{slice_range}
use Rattle.dsm_gen.proofs.Whole.{AreWords, program-template}
use Rattle.dsm_gen.proofs.parts.filling.Goals as goal

pub returns : goal.returns
returns c =
    let are : AreWords c.args.n = record { first = search rules; up = search rules; up_by = search rules; down = search rules; down_by = search rules } in
    rw (c.me.ensures, c.procs.ensures, c.li.ensures, c.li-2.ensures, c.li-3.ensures, c.li-4.ensures, c.mov.ensures, c.bge.ensures, c.addi.ensures, c.mul.ensures, c.st.ensures, c.add.ensures)
    (sym (ap (λ p. slice_range p.code 0 14) (program-template c.args.n are)))
