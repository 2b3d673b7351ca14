use Rattle.std.proofs.Common.{subst, arith}
use Rattle.dsm_entry.specs.Told.{lists_of}
use Rattle.dsm_flat.specs.Following.{AllVisited}
use Rattle.dsm_flat.proofs.Deciding.{next_some, short_place, has_clock, visit_read, fewer, none_of, shown}
use Rattle.dsm_flat.proofs.judge.shows_order.Goals as goal

pub loop-visits-init : goal.loop-visits-init
loop-visits-init c =
    record {
      visits = c.in_ok-visits.ensures.visits;
      latest = c.new-latest.ensures (lists_of c.args.traces.now) c.args.w c.in_ok-visits.visits.done c.in_ok-visits.ensures.none;
    }

pub index-requires : goal.index-requires
index-requires c =
    let n = next_some (lists_of c.args.traces.now) c.loop-visits.visits c.step.new.self c.in_ok-v.field-0 c.in-Some.v c.in-Some.is c.in_ok-v.ensures.next in
    let lt = has_clock (lists_of c.args.traces.now) c.loop-visits.visits c.step.new.self c.in-Some.v c.in_ok-v.ensures.visits n in
    omega (arith, lt, c.step.new.self.clocks.ok.0)

pub note-requires : goal.note-requires
note-requires c =
    let n = next_some (lists_of c.args.traces.now) c.loop-visits.visits c.step.new.self c.in_ok-v.field-0 c.in-Some.v c.in-Some.is c.in_ok-v.ensures.next in
    short_place (lists_of c.args.traces.now) c.requires.short c.loop-visits.visits c.step.new.self c.in-Some.v n

pub loop-visits-smaller : goal.loop-visits-smaller
loop-visits-smaller c =
    let n = next_some (lists_of c.args.traces.now) c.loop-visits.visits c.step.new.self c.in_ok-v.field-0 c.in-Some.v c.in-Some.is c.in_ok-v.ensures.next in
    fewer (lists_of c.args.traces.now) c.loop-visits.visits c.step.new.self c.in-Some.v n

pub loop-visits-preserved : goal.loop-visits-preserved
loop-visits-preserved c =
    let ts = lists_of c.args.traces.now in
    let v = c.in-Some.v in
    let new = c.step.new.self in
    let n = next_some ts c.loop-visits.visits new c.in_ok-v.field-0 v c.in-Some.is c.in_ok-v.ensures.next in
    record {
      visits = c.in_ok-v.ensures.visits;
      latest = c.in_ok-note.ensures ts c.loop-visits.visits.done new.done (visit_read ts c.loop-visits.visits new v c.in_ok-v.ensures.visits n c.index.result.now c.index.ensures) n.can.there c.loop-visits.invariant.latest;
    }

pub returns : goal.returns
returns c = λ yes.
    let same = c.in_ok-v.ensures.same (none_of c.in_ok-v.field-0 c.in_default.not-Some) in
    shown (lists_of c.args.traces.now) c.args.w c.loop-visits.visits.done c.loop-visits.latest c.loop-visits.invariant.latest c.if-latest.false
    (subst (λ done. AllVisited (lists_of c.args.traces.now) done) same (c.is_over.ensures yes))
