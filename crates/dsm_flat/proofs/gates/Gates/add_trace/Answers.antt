use Rattle.std.proofs.Common.{◌+◌, ◌∙◌, sym, arith, subst}
use Rattle.dsm_entry.specs.Told.{lists_of}
use Rattle.dsm_flat.specs.Gates.{AreAdded}
use Rattle.dsm_flat.proofs.Searching.{trace_at, holds_in}
use Rattle.dsm_flat.proofs.Listing.{no_gap}
use Rattle.dsm_flat.proofs.Adding.{trace_end}
use Rattle.dsm_flat.proofs.gates.Gates.add_trace.Goals as goal
use Rattle.dsm_flat.proofs.gates.Gates.add_trace.Goals.{in-Some+in_ok-add, in_default}

pub loop-i-preserved : goal.loop-i-preserved
loop-i-preserved c =
    let ts = lists_of c.args.traces.now in
    let t = c.index-traces-p.result.list in
    let p = c.args.p in
    let i = c.loop-i.i in
    let at = trace_at c.args.traces.now p c.index-traces-p.result c.requires.p c.index-traces-p.is in
    elim c.match-get.branch [
      | in-Some+in_ok-add w ↦
          let h = holds_in ts p i t w.in-Some.e at (sym c.get.ensures ∙ w.in-Some.is) in
          subst (λ g. AreAdded ts (record { p = p; i = i + 1 }) g) (sym w.self-is) (w.in_ok-add.ensures.added ts h c.loop-i.invariant)
      | in_default w ↦
          absurd (no_gap t i (omega (arith, c.loop-i-test.true, c.len-i-end.ensures)) (sym c.get.ensures ∙ w.in_default.is))
    ]

pub returns : goal.returns
returns c =
    let ts = lists_of c.args.traces.now in
    let at = trace_at c.args.traces.now c.args.p c.index-traces-p.result c.requires.p c.index-traces-p.is in
    trace_end ts c.args.p c.loop-i.i c.index-traces-p.result.list c.loop-i.self at (omega (arith, c.loop-i-test.false, c.len-i-end.ensures)) c.loop-i.invariant
