use Rattle.std.proofs.Common.{rules, sym, ap}
use Rattle.std.specs.List.{slice_range}
use Rattle.dsm_gen.proofs.Whole.{AreWords, program-template}
use Rattle.dsm_gen.proofs.parts.adding_up.Goals as goal

pub returns : goal.returns
returns c =
    let are : AreWords c.args.n = record { first = search rules; up = search rules; up_by = search rules; down = search rules; down_by = search rules } in
    rw (c.li.ensures, c.mov.ensures, c.bge.ensures, c.ld.ensures, c.add.ensures, c.add-2.ensures, c.ld-2.ensures, c.add-3.ensures, c.st.ensures, c.bne.ensures, c.ld-3.ensures, c.out.ensures)
    (sym (ap (λ p. slice_range p.code 42 59) (program-template c.args.n are)))
