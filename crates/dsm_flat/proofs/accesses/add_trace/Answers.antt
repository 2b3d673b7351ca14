use Rattle.std.proofs.Common.{◌+◌, arith, sym, ◌∙◌, subst}
use Rattle.dsm_entry.specs.Told.{lists_of}
use Rattle.dsm_flat.specs.Accesses.{IsListed}
use Rattle.dsm_flat.proofs.Searching.{trace_at, holds_in}
use Rattle.dsm_flat.proofs.Listing.{listed_push, listed_skip, listed_next, no_gap}
use Rattle.dsm_flat.proofs.accesses.add_trace.Goals as goal
use Rattle.dsm_flat.proofs.accesses.add_trace.Goals.{in-Some+in-Some-kind+in_ok-push, in-Some+in_default-kind, in_default}

pub loop-i-preserved : goal.loop-i-preserved
loop-i-preserved c =
    let ts = lists_of c.args.traces.now in
    let t = c.index-traces-p.result.list in
    let p = c.args.p in
    let i = c.loop-i.i in
    let at = trace_at c.args.traces.now p c.index-traces-p.result c.requires.p c.index-traces-p.is in
    elim c.match-get.branch [
      | in-Some+in-Some-kind+in_ok-push w ↦
          let h = holds_in ts p i t w.in-Some.e at (sym c.get.ensures ∙ w.in-Some.is) in
          subst (λ v. IsListed ts c.args.w (record { p = p; i = i + 1 }) v.items) (sym w.list-is)
          (subst (λ l. IsListed ts c.args.w (record { p = p; i = i + 1 }) l) (sym w.in_ok-push.ensures.items)
          (listed_push ts c.args.w p i c.loop-i.list.items c.loop-i.invariant w.in-Some.e w.in-Some-kind.stores h (sym w.kind.ensures ∙ w.in-Some-kind.is)))
      | in-Some+in_default-kind w ↦
          let h = holds_in ts p i t w.in-Some.e at (sym c.get.ensures ∙ w.in-Some.is) in
          subst (λ v. IsListed ts c.args.w (record { p = p; i = i + 1 }) v.items) (sym w.list-is)
          (listed_skip ts c.args.w p i c.loop-i.list.items c.loop-i.invariant w.in-Some.e h (sym w.kind.ensures ∙ w.in_default-kind.is))
      | in_default w ↦
          absurd (no_gap t i (omega (arith, c.loop-i-test.true, c.len-i-end.ensures)) (sym c.get.ensures ∙ w.in_default.is))
    ]

pub returns : goal.returns
returns c =
    let at = trace_at c.args.traces.now c.args.p c.index-traces-p.result c.requires.p c.index-traces-p.is in
    listed_next _ _ _ _ _ c.loop-i.invariant c.index-traces-p.result.list at (omega (arith, c.loop-i-test.false, c.len-i-end.ensures))
