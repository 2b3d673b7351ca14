use Rattle.std.proofs.Common.{◌≡◌, ◌*◌, length, sym, ap, ◌∙◌, subst}
use Rattle.std.proofs.lemmas.Result.{IfOk-weaker}
use Rattle.dsm_entry.specs.Told.{lists_of}
use Rattle.dsm_report.specs.Report.{report, AreRaces, IsReport}
use Rattle.dsm_report.proofs.reporting.text.Goals as goal

pub returns : goal.returns
returns c =
    let ran = c.args.ran.now in
    let races = c.in_ok-races.races.items in
    let traces : lists_of c.deref.result.now ≡ ran.traces = ap lists_of c.deref.ensures.value ∙ ap (λ r. r.traces) c.ran.view_is in
    let words : c.shape-shape.result.pages * c.shape-shape.result.words ≡ length ran.pages = ap (λ s. s.pages * s.words) c.shape-shape.ensures ∙ sym c.requires.pages in
    let found : AreRaces (lists_of c.deref.result.now) (c.shape-shape.result.pages * c.shape-shape.result.words) races = record { len = c.in_ok-races.ensures.len; ordered = c.in_ok-races.ensures.ordered; raced = c.in_ok-races.ensures.raced } in
    let are : AreRaces ran.traces (length ran.pages) races = subst (λ ts. AreRaces ts (length ran.pages) races) traces (subst (λ n. AreRaces (lists_of c.deref.result.now) n races) words found) in
    IfOk-weaker c.report_with.result _ (λ text. IsReport c.args.t c.args.program.now.shape ran c.args.trace text.items) (λ text is. (races, are, is ∙ ap (λ races. report c.args.t c.args.program.now.shape ran races c.args.trace) c.deref-2.ensures.value)) c.report_with.ensures
