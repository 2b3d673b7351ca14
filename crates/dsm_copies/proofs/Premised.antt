-- The premises by numbers of sends and by debts are enough.
use Rattle.std.proofs.Common.{ℕ, Option, List, [], ◌∷◌}
use Rattle.dsm_copies.specs.Copies.{State, Event, after_event, after, start}
use Rattle.dsm_copies.specs.Premises.{Premise, Told, Broken, Released, Kept, Asks, RunsUnder, Every}
use Rattle.dsm_copies.specs.Counts.{Count, count, no_count, count_after}
use Rattle.dsm_copies.specs.Debts.{Debts, owes, no_debts, debts_after, AsksOf, RunsOf}
use Rattle.dsm_copies.specs.Laws.{SendsAndDebtsAreEnough, LastStoreIsOwed}
use Rattle.dsm_copies.proofs.Needs.{May, needs}
use Rattle.dsm_copies.proofs.Holds.{Holds}
use Rattle.dsm_copies.proofs.Events.{keeps}
use Rattle.dsm_copies.proofs.Counting.{Tally, told_of, broken_of, tally_keeps, begins_by}
use Rattle.dsm_copies.proofs.Owing.{Owing, released_of, kept_of, owing_keeps}

-- what holds of the copies, the numbers of sends and the debts
record All (place : ℕ → Option ℕ) (s : State) (c : Count) (d : Debts) : Type 0 where
  holds : Holds place s
  k : ℕ
  tally : Tally s c k
  owing : Owing place s d

module _ (place : ℕ → Option ℕ) where
  asks_of : (s : State) (c : Count) (d : Debts) → All place s c d → (e : Event) (r : Premise) → AsksOf place r s c d e → Asks place r s e
  asks_of s c d a e Told x = told_of place s c a.k a.holds a.tally d e x
  asks_of s c d a e Broken x = broken_of place s c a.k a.holds a.tally d e x
  asks_of s c d a e Released x = released_of place s d a.holds a.owing c e x
  asks_of s c d a e Kept x = kept_of place s d a.holds a.owing c e x
  asks_of s c d a e r x = x

  step_all : (s : State) (c : Count) (d : Debts) (e : Event) → All place s c d → May place s e → All place (after_event place s e) (count s e c) (owes place s e d)
  step_all s c d e a m = let z = tally_keeps place s c a.k a.holds a.tally e m in record { holds = keeps place s a.holds e m; k = z.0; tally = z.1; owing = owing_keeps place s d a.holds a.owing e }

  runs_all : (s : State) (c : Count) (d : Debts) (es : List Event) → All place s c d → RunsOf place Every s c d es → RunsUnder place Every s es × All place (after place s es) (count_after place s c es) (debts_after place s d es)
  runs_all s c d [] a r = (tt, a)
  runs_all s c d (e ∷ older) a r =
      let y = runs_all s c d older a r.1 in
      let asks : (q : Premise) → Every q → Asks place q (after place s older) e = λ q x. asks_of (after place s older) (count_after place s c older) (debts_after place s d older) y.1 e q (r.0 q x) in
      ((asks, y.0), step_all (after place s older) (count_after place s c older) (debts_after place s d older) e y.1 (needs place (after place s older) e asks))

begins_all : (place : ℕ → Option ℕ) (init : ℕ) (frames twins : ℕ → ℕ) → All place (start init frames twins) no_count no_debts
begins_all place init frames twins = let z = begins_by place init frames twins in record { holds = z.holds; k = z.k; tally = z.tally; owing = record { progress = λ p e. absurd (cc e); seen = λ p n e. absurd (cc e) } }

pub enough : SendsAndDebtsAreEnough
enough place init frames twins es r = (runs_all place (start init frames twins) no_count no_debts es (begins_all place init frames twins) r).0

pub owed_by : LastStoreIsOwed
owed_by place init frames twins es p r e = (runs_all place (start init frames twins) no_count no_debts es (begins_all place init frames twins) r).1.owing.progress p e
