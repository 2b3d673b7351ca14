use Rattle.std.proofs.Common.{◌≡◌, ℕ, ◌+◌, ◌<◌, ◌⊎◌, List, arith, length, subst, inl, inr}
use Rattle.std.proofs.lemmas.Bool.{cases_eq}
use Rattle.dsm_flat.specs.declared.accesses.Access.{Access}
use Rattle.dsm_flat.specs.declared.shown.Shown.{Shown}
use Rattle.dsm_flat.specs.Order.{Traces}
use Rattle.dsm_flat.specs.Judge.{IsFirstRace}
use Rattle.dsm_flat.specs.Accesses.{IsShown, IsRacyAt, IsOrderedUpTo}
use Rattle.dsm_flat.proofs.Listing.{item, item_at, all_ordered, first_race, ordered_says_ordered, ordered_says_raced, raced_says_ordered, raced_says_raced}
use Rattle.dsm_flat.proofs.judge.first_race.Goals as goal

first : (ts : Traces) (w : ℕ) (list : List Access) (shown : Shown) (k m : ℕ) → IsShown ts w list shown → ((n : ℕ) → n < k → IsOrderedUpTo ts list n (length list)) → (k < m) × (m < length list) × IsOrderedUpTo ts list k m × IsRacyAt ts list k m
    → IsFirstRace ts w (item list k).place (item list m).place
first ts w list shown k m s before h =
    first_race ts w list s.listed k m (item list k) (item list m) before h.2 h.3 h.0 (item_at list k (omega (arith, h.0, h.1))) (item_at list m h.1)

pub loop-k-preserved : goal.loop-k-preserved
loop-k-preserved c = λ ts w s n lt. go ts w s n lt (cases_eq c.loop-k.k n)
  where
    go : (ts : Traces) (w : ℕ) → IsShown ts w c.args.list.now c.args.shown.now → (n : ℕ) → n < c.loop-k.k + 1 → (c.loop-k.k ≡ n) ⊎ (c.loop-k.k ≡ n → ⊥) → IsOrderedUpTo ts c.args.list.now n (length c.args.list.now)
    go ts w s n lt (inl e) = subst (λ z. IsOrderedUpTo ts c.args.list.now z (length c.args.list.now)) e (c.in_default.ensures ts w s)
    go ts w s n lt (inr d) = c.loop-k.invariant ts w s n (omega (arith, lt, d))

pub returns-in-Some-clause-ordered : goal.returns-in-Some-clause-ordered
returns-in-Some-clause-ordered c = λ ts w s.
    raced_says_ordered ts w _ _ (first ts w c.args.list.now c.args.shown.now c.loop-k.k c.in-Some.m s (c.loop-k.invariant ts w s) (c.in-Some.ensures ts w s))

pub returns-in-Some-clause-raced : goal.returns-in-Some-clause-raced
returns-in-Some-clause-raced c = λ ts w x y s.
    raced_says_raced ts w _ _ x y (first ts w c.args.list.now c.args.shown.now c.loop-k.k c.in-Some.m s (c.loop-k.invariant ts w s) (c.in-Some.ensures ts w s))

pub returns-clause-ordered : goal.returns-clause-ordered
returns-clause-ordered c = λ ts w s.
    ordered_says_ordered ts w (all_ordered ts w c.args.list.now s.listed (λ k lt. c.loop-k.invariant ts w s k (omega (arith, lt, c.loop-k-test.false))))

pub returns-clause-raced : goal.returns-clause-raced
returns-clause-raced c = λ ts w x y s.
    ordered_says_raced ts w x y (all_ordered ts w c.args.list.now s.listed (λ k lt. c.loop-k.invariant ts w s k (omega (arith, lt, c.loop-k-test.false))))
