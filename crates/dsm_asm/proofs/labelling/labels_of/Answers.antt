use Rattle.std.proofs.Common.{subst, refl, arith}
use Rattle.dsm_asm.specs.Table.{held}
use Rattle.dsm_asm.proofs.Whereabouts.{HasLabelled, HasLabelled-nothing, HasLabelled-line, HasLabelled-all, instructions-most}
use Rattle.dsm_asm.proofs.labelling.labels_of.Goals as goal

pub loop-here-init : goal.loop-here-init
loop-here-init c = record {
  read = HasLabelled-nothing c.args.text.now (held c.new-labels.result) c.new-labels.ensures;
  fits = omega arith;
  fewer = omega arith;
}

pub overflow_add-place : goal.overflow_add-place
overflow_add-place c =
    let here = c.in-Some.here.now in
    let most = instructions-most here c.instructions_in-place.result (c.instructions_in-place.ensures here c.first_words-words.ensures.name) in
    omega (arith, most, c.loop-here.invariant.fits, c.loop-here.invariant.fewer, c.in-Some.ensures.shorter, c.requires)

pub loop-here-preserved : goal.loop-here-preserved
loop-here-preserved c =
    let here = c.in-Some.here.now in
    let has = c.instructions_in-place.ensures here c.first_words-words.ensures.name in
    record {
      read = HasLabelled-line c.args.text.now c.loop-here.rest.now c.in-Some.behind.now here c.loop-here.line c.loop-here.place (held c.loop-here.labels) (held c.note.new.labels) c.first_words-words.result.label c.instructions_in-place.result
          c.loop-here.invariant.read c.in-Some.ensures.lines c.first_words-words.ensures.label has c.in_ok-note.ensures;
      fits = omega (arith, c.in-Some.ensures.shorter, c.loop-here.invariant.fits);
      fewer = omega (arith, instructions-most here c.instructions_in-place.result has, c.loop-here.invariant.fewer);
    }

pub returns : goal.returns
returns c = HasLabelled-all c.args.text.now c.loop-here.line c.loop-here.place (held c.loop-here.labels) (subst (λ rest. HasLabelled c.args.text.now rest c.loop-here.line c.loop-here.place (held c.loop-here.labels)) ((c.in_default.ensures.none).0 refl) c.loop-here.invariant.read)
