use Rattle.std.proofs.Common.{◌+◌, Some, ap, sym, ◌∙◌, arith}
use Rattle.dsm_asm.proofs.Taking.{HasTaken-nothing, HasTaken-line, HasTaken-refused}
use Rattle.dsm_asm.proofs.assembler.take_lines.Goals as goal

pub loop-here-init : goal.loop-here-init
loop-here-init c = record { taken = HasTaken-nothing c.args.text.now c.new-assembly.result c.new-assembly.ensures; fits = omega arith }

pub returns-in-Err-Refused-clause-fault : goal.returns-in-Err-Refused-clause-fault
returns-in-Err-Refused-clause-fault c =
    let wrong = rw c.in-Err-Refused.field-0-is at c.in-Err-Refused.ensures.fault in
    rw c.refused.ensures (HasTaken-refused c.args.text.now c.loop-here.rest.now c.in-Some.behind.now c.in-Some.here.now c.loop-here.number c.loop-here.assembly c.args.labels.now c.in-Err-Refused.kind c.loop-here.invariant.taken c.in-Some.ensures.lines c.requires.labels wrong ∙ ap (λ kind. Some (c.loop-here.number + 1, kind)) (sym c.in-Err-Refused.kind-is))

pub loop-here-preserved : goal.loop-here-preserved
loop-here-preserved c = record {
  taken = HasTaken-line c.args.text.now c.loop-here.rest.now c.in-Some.behind.now c.in-Some.here.now c.loop-here.number c.loop-here.assembly c.take.new.self c.args.labels.now c.loop-here.invariant.taken c.in-Some.ensures.lines c.requires.labels c.in-Ok.ensures.sound c.in-Ok.ensures.behind;
  fits = omega (arith, c.in-Some.ensures.shorter, c.loop-here.invariant.fits);
}
