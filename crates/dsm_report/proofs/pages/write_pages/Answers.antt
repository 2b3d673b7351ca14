use Rattle.std.proofs.Common.{◌≡◌, ◌++◌, flat_map, append-nil, arith, sym, ap, ◌∙◌}
use Rattle.std.specs.List.{range_with_len}
use Rattle.dsm_report.specs.Report.{page_line}
use Rattle.dsm_report.proofs.PageLines.{lines-more}
use Rattle.dsm_report.proofs.pages.write_pages.Goals as goal

pub loop-g-init : goal.loop-g-init
loop-g-init c = sym (append-nil c.args.lines.now)

pub loop-g-preserved : goal.loop-g-preserved
loop-g-preserved c =
    let f = page_line c.args.shape.words c.args.words.now in
    c.in_ok-write_page.ensures ∙ ap (λ l. l ++ f c.loop-g.g) c.loop-g.invariant ∙ lines-more f c.args.lines.now c.loop-g.g

pub returns : goal.returns
returns c =
    let f = page_line c.args.shape.words c.args.words.now in
    let all : c.loop-g.g ≡ c.args.shape.pages = omega (arith, c.loop-g-test.false, c.loop-g.auto.g-end) in
    c.loop-g.invariant ∙ ap (λ n. c.args.lines.now ++ flat_map f (range_with_len 0 n)) all
