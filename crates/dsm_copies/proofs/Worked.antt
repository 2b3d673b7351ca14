-- The lists that are written out, computed.
use Rattle.std.proofs.Common.{◌≡◌, ℕ, Bool, true, false, ◌==◌, List, [], ◌∷◌, refl, inl, inr}
use Rattle.std.specs.Prelude.{not, ◌&&◌, reverse}
use Rattle.std.proofs.lemmas.Bool.{ne_eqb}
use Rattle.dsm_copies.specs.Copies.{Event, Load, Store, latest}
use Rattle.dsm_copies.specs.Premises.{Premise, RunsUnder, Every, But}
use Rattle.dsm_copies.specs.Laws.{Stored}
use Rattle.dsm_copies.specs.Examples.{places, origin, MeetsAll, MeetsAllBySends, Case, Misses, Invents}
use Rattle.dsm_copies.specs.Counts.{no_count}
use Rattle.dsm_copies.specs.Debts.{no_debts}
use Rattle.dsm_copies.proofs.SendTests.{runs_test_of, runs_pass_of}
use Rattle.dsm_copies.proofs.Tests.{and_left, and_right, other, index, index_one, runs_test, runs_pass, IsBounded}

-- at the start no node has done anything
starts : (bound : ℕ) → IsBounded places bound origin
starts bound k le = refl

-- a list that passes all tests meets all premises
pub meets : (es : List Event) → runs_test places 4 (λ r. false) origin (reverse es) ≡ true → MeetsAll es
meets es h = (runs_pass places 4 Every (λ r. false) (λ r x. refl) origin (starts 4) (reverse es) h).0

-- the same by numbers of sends and by debts
pub meets_by_sends : (es : List Event) → runs_test_of places 4 origin no_count no_debts (reverse es) ≡ true → MeetsAllBySends es
meets_by_sends es h =
    (runs_pass_of places 4 origin no_count no_debts
    (record { modes = starts 4; told_none = λ m le. refl; broken_none = λ m le. refl; known_none = λ q m le. refl; debt_none = λ q le. refl })
    (reverse es) h).0

-- and one that passes all but one meets the others
but : (r : Premise) (es : List Event) → runs_test places 4 (λ q. index q == index r) origin es ≡ true → RunsUnder places (But r) origin es
but r es h = (runs_pass places 4 (But r) (λ q. index q == index r) (λ q ne. ne_eqb (index q) (index r) (λ e. ne (index_one q r e))) origin (starts 4) es h).0

-- whether a list meets the premises but one
abbrev pub case_test : Case → Bool
case_test c = runs_test places 4 (λ q. index q == index c.without) origin (Load c.p c.v ∷ reverse c.events)

pub misses : (c : Case) → (case_test c && not (c.v == latest 3 (reverse c.events))) ≡ true → Misses c
misses c h =
    (but c.without (Load c.p c.v ∷ reverse c.events) (and_left (case_test c) (not (c.v == latest 3 (reverse c.events))) h), other c.v (latest 3 (reverse c.events)) (and_right (case_test c) (not (c.v == latest 3 (reverse c.events))) h))

-- whether no store of the list stored v
abbrev pub unstored : ℕ → List Event → Bool
unstored v [] = true
unstored v (Store p u ∷ older) = not (u == v) && unstored v older
unstored v (_ ∷ older) = unstored v older

unstored_is : (v : ℕ) (es : List Event) → unstored v es ≡ true → Stored es v → ⊥
unstored_is v [] h st = st
unstored_is v (Store p u ∷ older) h (inl e) = other u v (and_left (not (u == v)) (unstored v older) h) e
unstored_is v (Store p u ∷ older) h (inr st) = unstored_is v older (and_right (not (u == v)) (unstored v older) h) st
unstored_is v (Load p u ∷ older) h (inl e) = e
unstored_is v (Load p u ∷ older) h (inr st) = unstored_is v older h st
unstored_is v (e ∷ older) h (inl a) = a
unstored_is v (e ∷ older) h (inr st) = unstored_is v older h st

pub invents : (c : Case) → (case_test c && (not (c.v == 3) && unstored c.v (reverse c.events))) ≡ true → Invents c
invents c h =
    let rest = and_right (case_test c) (not (c.v == 3) && unstored c.v (reverse c.events)) h in (
      but c.without (Load c.p c.v ∷ reverse c.events) (and_left (case_test c) (not (c.v == 3) && unstored c.v (reverse c.events)) h),
      other c.v 3 (and_left (not (c.v == 3)) (unstored c.v (reverse c.events)) rest),
      unstored_is c.v (reverse c.events) (and_right (not (c.v == 3)) (unstored c.v (reverse c.events)) rest),
    )
