use Rattle.std.proofs.Common.{◌≡◌, sym, ◌∙◌, rules}
use Rattle.std.specs.Prelude.{slice_index}
use Rattle.std.proofs.lemmas.Option.{same_Some}
use Rattle.dsm_entry.specs.Told.{lists_of}
use Rattle.dsm_flat.proofs.Searching.{trace_at, holds_in}
use Rattle.dsm_flat.proofs.Listing.{no_gap}
use Rattle.dsm_flat.proofs.Following.{blocked}
use Rattle.dsm_flat.proofs.visits.Visits.ready.Goals as goal

pub returns-else-is_free : goal.returns-else-is_free
returns-else-is_free c = λ left.
    let ts = lists_of c.args.traces.now in
    let p = c.args.p in
    let at = trace_at c.args.traces.now p c.index-traces-p.result c.requires.p c.index-traces-p.is in
    let there = holds_in ts p (slice_index c.args.self.now.done p) c.index-traces-p.result.list c.in-Some.entry at (search rules) in
    blocked ts c.args.self.now.done p c.in-Some.entry there (c.if-is_free.ensures ts c.args.self.now.done c.requires.visits.gates)

pub returns-in_default : goal.returns-in_default
returns-in_default c = λ left.
    let ts = lists_of c.args.traces.now in
    let p = c.args.p in
    let at = trace_at c.args.traces.now p c.index-traces-p.result c.requires.p c.index-traces-p.is in
    let same : left.0 ≡ c.index-traces-p.result.list = same_Some left.0 c.index-traces-p.result.list (sym left.1 ∙ at) in
    let lt = left.2 in
    absurd (no_gap left.0 (slice_index c.args.self.now.done p) lt (rw same (search rules)))
