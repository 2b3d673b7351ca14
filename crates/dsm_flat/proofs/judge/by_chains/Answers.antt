use Rattle.std.proofs.Common.{sym, subst}
use Rattle.dsm_entry.specs.Told.{lists_of}
use Rattle.dsm_flat.specs.declared.shown.Shown.TheVariants.{Rows}
use Rattle.dsm_flat.specs.Accesses.{AreAt}
use Rattle.dsm_flat.proofs.Listing.{at_of}
use Rattle.dsm_flat.proofs.Showing.{shown_told}
use Rattle.dsm_flat.proofs.judge.by_chains.Goals as goal

pub rows-requires : goal.rows-requires
rows-requires c =
    subst (λ list. AreAt (lists_of c.args.traces.now) list) (sym c.deref.ensures.value) (at_of _ _ _ _ c.in_ok-list.ensures)

pub returns-clause-raced : goal.returns-clause-raced
returns-clause-raced c = λ x y.
    c.first_race.ensures.raced (lists_of c.args.traces.now) c.args.w x y
    (shown_told c.args.traces.now c.args.w c.in_ok-list.list.items c.deref.result.now c.deref-2.result.now (Rows c.in_ok-rows.rows) c.in_ok-list.ensures c.deref.ensures.value c.deref-2.ensures.value c.in_ok-rows.ensures)
