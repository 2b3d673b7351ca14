use Rattle.std.proofs.Common.{rules, sym, ap}
use Rattle.std.specs.List.{slice_range}
use Rattle.dsm_gen.proofs.Whole.{AreWords, program-template}
use Rattle.dsm_gen.proofs.parts.going_down.Goals as goal

pub returns : goal.returns
returns c =
    let are : AreWords c.args.n = record { first = search rules; up = search rules; up_by = search rules; down = search rules; down_by = search rules } in
    rw (c.li.ensures, c.mov.ensures, c.bge.ensures, c.ld.ensures, c.mul.ensures, c.addi.ensures, c.rem.ensures, c.ld-2.ensures, c.xor.ensures, c.st.ensures, c.add.ensures, c.subi.ensures, c.bne.ensures)
    (sym (ap (λ p. slice_range p.code 27 42) (program-template c.args.n are)))
