use Rattle.std.proofs.Common.{length, arith, refl, subst}
use Rattle.std.proofs.lemmas.Option.{slice_get_read}
use Rattle.dsm_flat.specs.Accesses.{AreRows, AreClocks, ShowsOrder}
use Rattle.dsm_flat.proofs.Listing.{item_at}
use Rattle.dsm_flat.proofs.Showing.{row_room, row_shows, clock_shows}
use Rattle.dsm_flat.proofs.shown.Shown.is_before.Goals as goal

pub covers-requires : goal.covers-requires
covers-requires c =
    let s = c.requires.shown in
    let list = c.args.list.now in
    let rows = c.in-Rows.rows.items in
    let r : AreRows s.0 list rows = subst (λ z. ShowsOrder s.0 list z) c.in-Rows.is s.2.order in
    row_room s.0 s.1 list s.2.listed rows r c.args.k c.args.m c.index.result.now _ _
    (slice_get_read rows (length rows) c.args.k c.index.result.now refl (omega (arith, c.requires.k, r.len)) c.index.ensures) (item_at list c.args.k c.requires.k) (item_at list c.args.m c.requires.m)

pub returns-in-Rows : goal.returns-in-Rows
returns-in-Rows c = λ ts w s.
    let list = c.args.list.now in
    let rows = c.in-Rows.rows.items in
    let r : AreRows ts list rows = subst (λ z. ShowsOrder ts list z) c.in-Rows.is s.order in
    let f = row_shows ts w list s.listed rows r c.args.k c.args.m c.index.result.now _ _
    (slice_get_read rows (length rows) c.args.k c.index.result.now refl (omega (arith, c.requires.k, r.len)) c.index.ensures) (item_at list c.args.k c.requires.k) (item_at list c.args.m c.requires.m) in
    (λ h. f.0 (c.covers.ensures.0 h), λ b. c.covers.ensures.1 (f.1 b))

pub returns-in-Clocks : goal.returns-in-Clocks
returns-in-Clocks c = λ ts w s.
    let list = c.args.list.now in
    let clocks = c.in-Clocks.clocks.items in
    let r : AreClocks ts list clocks = subst (λ z. ShowsOrder ts list z) c.in-Clocks.is s.order in
    let f = clock_shows ts w list s.listed clocks r c.args.k c.args.m c.index-in-Clocks.result.now _ _ c.requires.other
    (slice_get_read clocks (length clocks) c.args.m c.index-in-Clocks.result.now refl (omega (arith, c.requires.m, r.len)) c.index-in-Clocks.ensures) (item_at list c.args.k c.requires.k) (item_at list c.args.m c.requires.m) in
    (λ h. f.0 (c.has.ensures.0 h), λ b. c.has.ensures.1 (f.1 b))
