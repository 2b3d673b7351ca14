-- The first processor of a list that has not ended.
use Rattle.std.proofs.Common.{◌≡◌, ◌⊎◌, inl, inr, ℕ, zero, suc, ◌+◌, ◌-◌, ◌<◌, ◌≤◌, Bool, true, false, List, [], ◌∷◌, length, map, get_or, Option, Some, None, refl, sym, ap, ◌∙◌, subst, arith, if◌then◌else◌}
use Rattle.std.specs.Prelude.{slice_get, slice_index_or, not, is_some, All, Contains, IsTrue}
use Rattle.std.specs.List.{range_with_len}
use Rattle.std.proofs.lemmas.List.Elements.{All-nil, All-cons, All-tail, Contains-append_left, Contains-append_right}
use Rattle.std.proofs.lemmas.List.FromFn.{length-range_with_len, get_or-range_with_len}
use Rattle.std.proofs.lemmas.Option.{get_or_from_slice_get, slice_get-get_or, slice_get_within}
use Rattle.dsm_local.specs.declared.end.End.{End}
use Rattle.dsm_protocol.specs.Jobs.{Job, Ended, has_ended, end_of}
use Rattle.dsm_protocol.specs.Processors.{Processor, ending}
use Rattle.dsm_runs.specs.Clusters.{Cluster, may_go}
use Rattle.dsm_core.specs.States.{AllEnded}
use Rattle.dsm_runs.proofs.Lists.{some_one}
use Rattle.dsm_runs.proofs.Promising.{item_of_map}
use Rattle.dsm_sched.specs.Schedules.{first_running, cyclic}

-- it is one that there is, and that has not ended
pub found_goes : (c : Cluster) (ps : List ℕ) (p : ℕ) → first_running c ps ≡ Some p → may_go false (slice_get c.processors p) ≡ true
found_goes c [] p h = absurd (cc h)
found_goes c (q ∷ ps) p h = go (may_go false (slice_get c.processors q)) refl (found_goes c ps p) h
  where
    go : (b : Bool) → may_go false (slice_get c.processors q) ≡ b → (first_running c ps ≡ Some p → may_go false (slice_get c.processors p) ≡ true) → (if b then Some q else first_running c ps) ≡ Some p → may_go false (slice_get c.processors p) ≡ true
    go true is rest e = subst (λ x. may_go false (slice_get c.processors x) ≡ true) (some_one q p e) is
    go false is rest e = rest e

-- an item of the list is where none is found one that has ended
pub none_goes : (c : Cluster) (ps : List ℕ) → first_running c ps ≡ None → All (λ p. may_go false (slice_get c.processors p) ≡ false) ps
none_goes c [] h = All-nil (λ p. may_go false (slice_get c.processors p) ≡ false)
none_goes c (q ∷ ps) h = go (may_go false (slice_get c.processors q)) refl (none_goes c ps) h
  where
    go : (b : Bool) → may_go false (slice_get c.processors q) ≡ b → (first_running c ps ≡ None → All (λ p. may_go false (slice_get c.processors p) ≡ false) ps) → (if b then Some q else first_running c ps) ≡ None → All (λ p. may_go false (slice_get c.processors p) ≡ false) (q ∷ ps)
    go true is rest e = absurd (cc e)
    go false is rest e = All-cons (λ p. may_go false (slice_get c.processors p) ≡ false) q ps is (rest e)

-- where all have ended none is found
pub none_found : (c : Cluster) (ps : List ℕ) → AllEnded c → first_running c ps ≡ None
none_found c [] all = refl
none_found c (q ∷ ps) all = go (may_go false (slice_get c.processors q)) refl (none_found c ps all)
  where
    ended : (o : Option Processor) → slice_get c.processors q ≡ o → may_go false o ≡ true → ⊥
    ended None at h = absurd (cc h)
    ended (Some m) at h =
        let over : has_ended m.todo ≡ true = subst (λ x. has_ended x.todo ≡ true) (get_or_from_slice_get c.processors q m m at) (all q m (slice_get_within c.processors q m at)) in
        absurd (cc (ap not over))

    go : (b : Bool) → may_go false (slice_get c.processors q) ≡ b → first_running c ps ≡ None → (if b then Some q else first_running c ps) ≡ None
    go true is rest = absurd (ended (slice_get c.processors q) refl is)
    go false is rest = rest

-- a number of a range is in it
in_range : (a n p : ℕ) → a ≤ p → p < a + n → Contains (range_with_len a n) p
in_range a n p low high =
    let i : ℕ = p - a in
    let inside : i < n = omega arith in
    let is : get_or (range_with_len a n) i p ≡ p = get_or-range_with_len a n i p inside ∙ (let z : a + i ≡ p = omega arith in z) in
    (i, omega (arith, length-range_with_len a n), is)

-- the cyclic order has every processor
pub in_cyclic : (all from p : ℕ) → from ≤ all → p < all → Contains (cyclic all from) p
in_cyclic all from p low inside = go (cases from p)
  where
    cases : (a b : ℕ) → (a ≤ b) ⊎ (b < a)
    cases a b = grind arith

    go : (from ≤ p) ⊎ (p < from) → Contains (cyclic all from) p
    go (inl h) = Contains-append_left (range_with_len from (all - from)) (range_with_len 0 from) p (in_range from (all - from) p h (omega arith))
    go (inr h) = Contains-append_right (range_with_len from (all - from)) (range_with_len 0 from) p (in_range 0 from p (omega arith) (omega arith))

-- so where none is found in it, all have ended
pub all_ended : (c : Cluster) (from : ℕ) → from ≤ length c.processors → first_running c (cyclic (length c.processors) from) ≡ None → AllEnded c
all_ended c from low h p d inside = over (slice_get c.processors p) (slice_get-get_or c.processors p d inside) (goes (in_cyclic (length c.processors) from p low inside))
  where
    goes : Contains (cyclic (length c.processors) from) p → may_go false (slice_get c.processors p) ≡ false
    goes k = subst (λ q. may_go false (slice_get c.processors q) ≡ false) k.2 (none_goes c (cyclic (length c.processors) from) h k.0 p k.1)

    turned : (b : Bool) → not b ≡ false → b ≡ true
    turned true e = refl
    turned false e = absurd (cc e)

    over : (o : Option Processor) → o ≡ Some (get_or c.processors p d) → may_go false o ≡ false → has_ended (get_or c.processors p d).todo ≡ true
    over None at e = absurd (cc at)
    over (Some m) at e = subst (λ x. has_ended x.todo ≡ true) (some_one m (get_or c.processors p d) at) (turned (has_ended m.todo) e)

-- all have ended, or some end is none
running_or_not : (m : Processor) → (has_ended m.todo ≡ true) ⊎ (ending m ≡ None)
running_or_not m = go m.todo
  where
    go : (j : Job) → (has_ended j ≡ true) ⊎ (end_of j ≡ None)
    go (Ended e) = inl refl
    go j = inr refl

pub all_or_none : (ms : List Processor) → All (λ m. IsTrue (has_ended m.todo)) ms ⊎ Contains (map ending ms) None
all_or_none [] = inl (All-nil (λ m. IsTrue (has_ended m.todo)))
all_or_none (m ∷ ms) = go (running_or_not m) (all_or_none ms)
  where
    go : (has_ended m.todo ≡ true) ⊎ (ending m ≡ None) → All (λ n. IsTrue (has_ended n.todo)) ms ⊎ Contains (map ending ms) None → All (λ n. IsTrue (has_ended n.todo)) (m ∷ ms) ⊎ Contains (map ending (m ∷ ms)) None
    go (inr is) rest = inr (0, omega arith, is)
    go (inl over) (inl all) = inl (All-cons (λ n. IsTrue (has_ended n.todo)) m ms over all)
    go (inl over) (inr k) = inr (Contains-append_right (ending m ∷ []) (map ending ms) None k)

-- not both
pub not_both : (ms : List Processor) → All (λ m. IsTrue (has_ended m.todo)) ms → Contains (map ending ms) None → ⊥
not_both [] all k = absurd (omega (arith, k.1))
not_both (m ∷ ms) all k = go k.0 k.1 k.2 (not_both ms (All-tail (λ n. IsTrue (has_ended n.todo)) m ms all))
  where
    running : (j : Job) → has_ended j ≡ true → end_of j ≡ None → ⊥
    running (Ended e) over is = absurd (cc is)
    running j over is = absurd (cc over)

    go : (i : ℕ) → i < length (map ending (m ∷ ms)) → slice_index_or (map ending (m ∷ ms)) i None ≡ None → (Contains (map ending ms) None → ⊥) → ⊥
    go zero low is rest = running m.todo (all 0 m (omega arith)) is
    go (suc i) low is rest = rest (i, omega (arith, low), is)

-- a processor may go on where its end is none
pub end_says : (c : Cluster) (p : ℕ) (r : Option End) (runs : Bool) → slice_get (map ending c.processors) p ≡ Some r → is_some r ≡ not runs → may_go false (slice_get c.processors p) ≡ runs
end_says c p r runs at is =
    let m = item_of_map ending c.processors p r at in
    ap (may_go false) m.1 ∙ ap not (over m.0.todo ∙ ap is_some (sym m.2) ∙ is) ∙ twice runs
  where
    over : (j : Job) → has_ended j ≡ is_some (end_of j)
    over (Ended e) = refl
    over j = refl

    twice : (b : Bool) → not (not b) ≡ b
    twice true = refl
    twice false = refl
