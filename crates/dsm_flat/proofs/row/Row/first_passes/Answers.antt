use Rattle.std.proofs.Common.{◌≡◌, ℕ, ◌+◌, ◌<◌, List, ◌∷◌, [], ◌++◌, length, get_or, arith, sym, ◌∙◌, subst}
use Rattle.std.specs.Prelude.{Some, slice_get}
use Rattle.std.proofs.lemmas.List.{length-map}
use Rattle.std.proofs.lemmas.Option.{same_Some}
use Rattle.dsm_entry.specs.declared.entry.Obj.{Obj}
use Rattle.dsm_entry.specs.declared.entry.Entry.{Entry}
use Rattle.dsm_entry.specs.Told.{Told}
use Rattle.dsm_entry.specs.Told.{list_of, lists_of}
use Rattle.dsm_flat.specs.Links.{IsFirstPass}
use Rattle.dsm_flat.proofs.Lists.{Filled, filled_push}
use Rattle.dsm_flat.proofs.Searching.{trace_at}
use Rattle.dsm_flat.proofs.row.Row.first_passes.Goals as goal

one_more : (told : List Told) (o : Obj) (j n i : ℕ) (r : Told) (xs : List ℕ) → n < length told → r ≡ get_or told n r → IsFirstPass r.list o j i
    → Filled (λ q i. (t : List Entry) → slice_get (lists_of told) q ≡ Some t → IsFirstPass t o j i) n xs
    → Filled (λ q i. (t : List Entry) → slice_get (lists_of told) q ≡ Some t → IsFirstPass t o j i) (n + 1) (xs ++ i ∷ [])
one_more told o j n i r xs lt is first g =
    filled_push (λ q i. (t : List Entry) → slice_get (lists_of told) q ≡ Some t → IsFirstPass t o j i) n xs i g
    (λ t at. subst (λ z. IsFirstPass z o j i) (same_Some r.list t (sym (trace_at told n r lt is) ∙ at)) first)

pub loop-trace-preserved : goal.loop-trace-preserved
loop-trace-preserved c =
    subst (λ xs. Filled (λ q i. (t : List Entry) → slice_get (lists_of c.args.traces.now) q ≡ Some t → IsFirstPass t c.args.o c.args.j i) (c.loop-trace.trace-index + 1) xs) (sym c.in_ok-push.ensures.items)
    (one_more c.args.traces.now c.args.o c.args.j c.loop-trace.trace-index c.first_pass.result c.trace-item.result c.loop-trace.indices.items c.loop-trace-test.true c.trace-item.is c.first_pass.ensures c.loop-trace.invariant)

pub returns : goal.returns
returns c =
    record {
      len = omega (arith, c.loop-trace.invariant.len, c.loop-trace-test.false, c.loop-trace.auto.trace-index-end, length-map c.args.traces.now list_of);
      each = λ q i t h at. c.loop-trace.invariant.each q i h t at;
    }
