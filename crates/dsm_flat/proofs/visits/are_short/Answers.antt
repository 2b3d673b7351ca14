use Rattle.std.proofs.Common.{◌≡◌, ℕ, ◌+◌, ◌<◌, ◌^◌, ◌⊎◌, List, length, sym, ap, ◌∙◌, inl, inr, arith}
use Rattle.std.specs.Prelude.{Some, slice_get}
use Rattle.std.proofs.lemmas.Bool.{cases_eq}
use Rattle.std.proofs.lemmas.List.{length-map}
use Rattle.std.proofs.lemmas.Option.{slice_get_within, same_Some}
use Rattle.dsm_entry.specs.declared.entry.Entry.{Entry}
use Rattle.dsm_entry.specs.Told.{list_of, lists_of}
use Rattle.dsm_flat.proofs.Searching.{trace_at}
use Rattle.dsm_flat.proofs.visits.are_short.Goals as goal

pub loop-p-preserved : goal.loop-p-preserved
loop-p-preserved c = λ q t lt at. go q t lt at (cases_eq q c.loop-p.p)
  where
    go : (q : ℕ) (t : List Entry) → q < c.loop-p.p + 1 → slice_get (lists_of c.args.traces.now) q ≡ Some t → (q ≡ c.loop-p.p) ⊎ (q ≡ c.loop-p.p → ⊥) → length t < 2 ^ 32
    go q t lt at (inr d) = c.loop-p.invariant q t (omega (arith, lt, d)) at
    go q t lt at (inl e) =
        let here = trace_at c.args.traces.now c.loop-p.p c.index-traces-p.result c.loop-p-test.true c.index-traces-p.is in
        let same : t ≡ c.index-traces-p.result.list = same_Some t c.index-traces-p.result.list (sym at ∙ (ap (λ n. slice_get (lists_of c.args.traces.now) n) e ∙ here)) in
        let n : length t ≡ length c.index-traces-p.result.list = ap length same in
        omega (arith, n, c.len.ensures, c.from.ensures, c.if-len-from.false)

pub returns : goal.returns
returns c = λ yes q t at.
    let w = slice_get_within (lists_of c.args.traces.now) q t at in
    c.loop-p.invariant q t (omega (arith, w, c.loop-p-test.false, c.loop-p.auto.p-end, length-map c.args.traces.now list_of)) at
