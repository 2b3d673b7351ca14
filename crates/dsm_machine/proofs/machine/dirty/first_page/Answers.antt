use Rattle.std.proofs.Common.{◌+◌, ◌/◌, ◌%◌, ◌^◌, w64, refl, arith}
use Rattle.std.specs.Int.{trailing_zeros}
use Rattle.std.specs.Prelude.{slice_index}
use Rattle.dsm_words.specs.Pages.{has_page}
use Rattle.dsm_machine.proofs.Finding.{no_more, no_page, first_one}
use Rattle.dsm_machine.proofs.machine.dirty.first_page.Goals as goal

pub returns-then-g-to-clause-some : goal.returns-then-g-to-clause-some
returns-then-g-to-clause-some c =
    let set = c.args.set in
    let at = c.loop-at.at in
    let g = at + trailing_zeros w64 (slice_index set (at / 64) / 2 ^ (at % 64)) in
    let found = first_one set at g c.loop-at-test.element_fits.fits (omega (arith, c.if-rest-ne0.true)) refl in
    (omega (arith, c.loop-at.invariant.0), c.if-g-to.true, found.0, no_more (has_page set) c.args.from at g c.loop-at.invariant.1 found.1)

pub returns-else-g-to-clause-none : goal.returns-else-g-to-clause-none
returns-else-g-to-clause-none c _ =
    let set = c.args.set in
    let at = c.loop-at.at in
    let g = at + trailing_zeros w64 (slice_index set (at / 64) / 2 ^ (at % 64)) in
    let found = first_one set at g c.loop-at-test.element_fits.fits (omega (arith, c.if-rest-ne0.true)) refl in
    no_more (has_page set) c.args.from at c.args.to c.loop-at.invariant.1 (λ b p q. found.1 b p (omega (arith, c.if-g-to.false)))

pub loop-at-preserved : goal.loop-at-preserved
loop-at-preserved c =
    let set = c.args.set in
    let at = c.loop-at.at in
    (omega (arith, c.loop-at.invariant.0), no_more (has_page set) c.args.from at _ c.loop-at.invariant.1 (no_page set at c.if-rest-ne0.false))
