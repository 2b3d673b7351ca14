use Rattle.std.proofs.Common.{length, refl, arith}
use Rattle.std.proofs.lemmas.Option.{slice_get_read}
use Rattle.dsm_flat.proofs.Adding.{item_there}
use Rattle.dsm_flat.proofs.Following.{visited}
use Rattle.dsm_flat.proofs.visits.Visits.visit.Goals as goal

pub tell-requires-clause-indexed : goal.tell-requires-clause-indexed
tell-requires-clause-indexed c = let r = c.requires.can in (c.in_ok-join.ensures.gates r.0 c.args.self.now.done r.1.gates r.2.free).indexed

pub returns : goal.returns
returns c = λ ts a can.
    let old = c.args.self.now in
    let v = c.args.v in
    let p = v.place.p in
    let mid = c.join.new.self in
    let e = c.in_ok-join.ensures in
    let t = c.in_ok-tell.ensures in
    let own = item_there old.clocks.items p c.requires.p in
    let past = c.index_mut.result.now in
    let past_at = slice_get_read mid.clocks.items (length mid.clocks.items) p past refl (omega (arith, c.requires.p, e.len)) c.index_mut.ensures.value in
    visited ts old (record { done = c.tell.new.self.done; clocks = c.tell.new.self.clocks; gates = c.tell.new.self.gates; last = p }) a v can mid.clocks.items mid.gates own.0 past c.put.new.self c.requires.p e.len e.others own.1
    (e.joins ts old.done v.place own.0 past a.gates can.free can.there own.1 past_at)
    c.in_ok-put.ensures
    (rw t.done (rw e.done at c.in_ok-put-2.ensures))
    t.clocks
    (λ now at visit. rw t.done (t.gates ts old.done now at (rw t.done at visit) can.there (e.gates ts old.done a.gates can.free)))
