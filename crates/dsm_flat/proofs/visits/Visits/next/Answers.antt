use Rattle.std.proofs.Common.{◌≡◌, ℕ, ◌+◌, ◌<◌, ◌⊎◌, arith, subst, inl, inr}
use Rattle.std.proofs.lemmas.Bool.{cases_eq}
use Rattle.std.proofs.lemmas.List.{length-map}
use Rattle.std.proofs.lemmas.Option.{slice_get_within}
use Rattle.dsm_entry.specs.Told.{list_of, lists_of}
use Rattle.dsm_flat.specs.Clocks.{IsLeft, IsBlocked}
use Rattle.dsm_flat.proofs.visits.Visits.next.Goals as goal

pub loop-p-preserved : goal.loop-p-preserved
loop-p-preserved c = λ q lt. go q lt (cases_eq c.loop-p.p q)
  where
    go : (q : ℕ) → q < c.loop-p.p + 1 → (c.loop-p.p ≡ q) ⊎ (c.loop-p.p ≡ q → ⊥) → IsLeft (lists_of c.args.traces.now) c.args.self.now.done q → IsBlocked (lists_of c.args.traces.now) c.args.self.now.done q
    go q lt (inl e) = subst (λ n. IsLeft (lists_of c.args.traces.now) c.args.self.now.done n → IsBlocked (lists_of c.args.traces.now) c.args.self.now.done n) e c.in_default-ready.ensures
    go q lt (inr d) = c.loop-p.invariant q (omega (arith, lt, d))

pub returns : goal.returns
returns c = λ q left.
    let w = slice_get_within (lists_of c.args.traces.now) q left.0 left.1 in
    c.loop-p.invariant q (omega (arith, w, c.loop-p-test.false, length-map c.args.traces.now list_of)) left
