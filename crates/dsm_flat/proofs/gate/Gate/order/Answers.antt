use Rattle.std.proofs.Common.{rules}
use Rattle.std.proofs.lemmas.List.Sorted.{IsNonDecreasingBy-from_sort_by_key}
use Rattle.std.proofs.lemmas.List.Filters.{dedup_is}
use Rattle.dsm_flat.proofs.Gating.{ordered}
use Rattle.dsm_flat.proofs.gate.Gate.order.Goals as goal

pub returns-clause-gate : goal.returns-clause-gate
returns-clause-gate c = λ ts done none new signs.
    let s = c.args.self.now in
    rw (new.seen, new.closed, new.all)
    (ordered ts done s.o s.signals.items c.sort_unstable_by_key.new.self.items s.counts.items c.sort_unstable.new.self.items c.dedup.new.self.items c.in_ok-self.field-0.items none signs
    c.sort_unstable_by_key.ensures.permutation (IsNonDecreasingBy-from_sort_by_key (λ m. m.j) c.sort_unstable_by_key.new.self.items c.sort_unstable_by_key.ensures.sorted (λ a r q k. search rules))
    c.sort_unstable.ensures.permutation c.sort_unstable.ensures.sorted (dedup_is _ _ _ c.dedup.ensures.filtered) (search rules) c.in_ok-self.ensures.none)
