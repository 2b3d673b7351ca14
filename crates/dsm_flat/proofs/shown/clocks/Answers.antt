use Rattle.std.proofs.Common.{length, sym, subst}
use Rattle.std.proofs.lemmas.List.{length-map}
use Rattle.dsm_entry.specs.Told.{list_of, lists_of}
use Rattle.dsm_flat.specs.Following.{AllVisited}
use Rattle.dsm_flat.specs.Accesses.{IsListed, first_place}
use Rattle.dsm_flat.proofs.Deciding.{next_some, visit_read, fewer, none_of}
use Rattle.dsm_flat.proofs.Keeping.{all_kept}
use Rattle.dsm_flat.proofs.shown.clocks.Goals as goal

pub loop-visits-smaller : goal.loop-visits-smaller
loop-visits-smaller c =
    let ts = lists_of c.args.traces.now in
    let n = next_some ts c.loop-visits.visits c.step.new.self c.in_ok-v.field-0 c.in-Some.v c.in-Some.is c.in_ok-v.ensures.next in
    fewer ts c.loop-visits.visits c.step.new.self c.in-Some.v n

pub loop-visits-preserved : goal.loop-visits-preserved
loop-visits-preserved c =
    let ts = lists_of c.args.traces.now in
    let v = c.in-Some.v in
    let new = c.step.new.self in
    let n = next_some ts c.loop-visits.visits new c.in_ok-v.field-0 v c.in-Some.is c.in_ok-v.ensures.next in
    record {
      visits = c.in_ok-v.ensures.visits;
      kept = c.in_ok-keep.ensures ts c.loop-visits.visits.done new.done (subst (λ k. IsListed ts c.args.w (first_place k) c.args.list.now) (sym (length-map c.args.traces.now list_of)) c.requires.listed)
          (visit_read ts c.loop-visits.visits new v c.in_ok-v.ensures.visits n c.index.result.now c.index.ensures) n.can.there c.loop-visits.invariant.kept;
    }

pub returns-then-is_over : goal.returns-then-is_over
returns-then-is_over c =
    let ts = lists_of c.args.traces.now in
    let same = c.in_ok-v.ensures.same (none_of c.in_ok-v.field-0 c.in_default.not-Some) in
    all_kept ts c.args.w (first_place (length c.args.traces.now)) c.loop-visits.visits.done c.args.list.now c.loop-visits.kept.items c.requires.listed
    (subst (λ done. AllVisited ts done) same (c.is_over.ensures c.if-is_over.true)) c.loop-visits.invariant.kept
