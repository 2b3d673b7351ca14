use Rattle.std.proofs.Common.{rules, sym, ap}
use Rattle.std.specs.List.{slice_range}
use Rattle.dsm_gen.proofs.Whole.{AreWords, program-template}
use Rattle.dsm_gen.proofs.parts.going_up.Goals as goal

pub returns : goal.returns
returns c =
    let are : AreWords c.args.n = record { first = search rules; up = search rules; up_by = search rules; down = search rules; down_by = search rules } in
    rw (c.li.ensures, c.mov.ensures, c.bge.ensures, c.ld.ensures, c.mul.ensures, c.addi.ensures, c.rem.ensures, c.ld-2.ensures, c.add.ensures, c.st.ensures, c.add-2.ensures)
    (sym (ap (λ p. slice_range p.code 14 27) (program-template c.args.n are)))
