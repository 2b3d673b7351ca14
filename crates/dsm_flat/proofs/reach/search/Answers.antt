use Rattle.std.proofs.Common.{◌-◌, ◌<◌, arith, length, sym, subst, slice_set}
use Rattle.dsm_entry.specs.Told.{lists_of}
use Rattle.dsm_flat.specs.Order.{entry_at}
use Rattle.dsm_flat.specs.Links.{LeadsTo}
use Rattle.dsm_flat.proofs.Searching.{Searching, searching_start, searching_step, reach_is, links_at, link_at, leads_len}
use Rattle.dsm_flat.proofs.reach.search.Goals as goal

pub loop-p-init : goal.loop-p-init
loop-p-init c =
    subst (λ r. Searching (lists_of c.args.traces.now) c.args.x r c.args.scanned.now) (sym c.set.ensures)
    (searching_start c.args.traces.now c.args.x c.args.reached.now c.args.scanned.now c.requires.at c.requires.reached c.requires.scanned)

pub index-requires : goal.index-requires
index-requires c =
    let small = c.in-Some.ensures in
    let g = c.loop-p.invariant in
    let l = links_at (lists_of c.args.traces.now) c.args.links.now c.in-Some.p c.index-links-p.result c.requires.links (omega (arith, small.0, g.same_len)) c.index-links-p.is in
    omega (arith, small.1, c.get-i.ensures, g.fits c.in-Some.p l.0 l.1, l.2.len, c.index-links-p.result.ok.0)

pub lower-requires : goal.lower-requires
lower-requires c =
    let ts = lists_of c.args.traces.now in
    let small = c.in-Some.ensures in
    let g = c.loop-p.invariant in
    let l = links_at ts c.args.links.now c.in-Some.p c.index-links-p.result c.requires.links (omega (arith, small.0, g.same_len)) c.index-links-p.is in
    let room : c.get-i.result - 1 < length c.index-links-p.result.items = omega (arith, small.1, c.get-i.ensures, g.fits c.in-Some.p l.0 l.1, l.2.len) in
    let leads = link_at ts c.in-Some.p (c.get-i.result - 1) l.0 c.index-links-p.result.items c.index.result.now l.1 l.2 room c.index.ensures in
    omega (arith, leads_len ts (entry_at ts (record { p = c.in-Some.p; i = c.get-i.result - 1 })) c.index.result.now leads, g.len)

pub loop-p-preserved : goal.loop-p-preserved
loop-p-preserved c =
    let ts = lists_of c.args.traces.now in
    let small = c.in-Some.ensures in
    let g = c.loop-p.invariant in
    let p = c.in-Some.p in
    let l = links_at ts c.args.links.now p c.index-links-p.result c.requires.links (omega (arith, small.0, g.same_len)) c.index-links-p.is in
    let room : c.get-i.result - 1 < length c.index-links-p.result.items = omega (arith, small.1, c.get-i.ensures, g.fits p l.0 l.1, l.2.len) in
    let leads = link_at ts p (c.get-i.result - 1) l.0 c.index-links-p.result.items c.index.result.now l.1 l.2 room c.index.ensures in
    subst (λ s. Searching ts c.args.x c.lower.new.self s) (sym c.set-in-Some.ensures)
    (subst (λ i. Searching ts c.args.x c.lower.new.self (slice_set c.loop-p.scanned p (i - 1))) (sym c.get-i.ensures)
    (searching_step ts c.args.x c.loop-p.reached c.loop-p.scanned g p (omega (arith, small.0, g.same_len)) small.1 c.index.result.now c.lower.new.self
    (subst (λ i. LeadsTo ts (entry_at ts (record { p = p; i = i - 1 })) c.index.result.now) c.get-i.ensures leads) c.lower.ensures))

pub returns : goal.returns
returns c =
    reach_is (lists_of c.args.traces.now) c.args.x c.loop-p.reached c.loop-p.scanned c.loop-p.invariant (λ q lt. c.in_default.ensures q lt) c.requires.at
