-- The same tests where fetches are asked by numbers of sends, and releases by debts.
use Rattle.std.proofs.Common.{◌≡◌, ◌≢◌, ℕ, suc, ◌≤◌, ◌⊎◌, Bool, true, false, ◌==◌, Option, None, Some, List, [], ◌∷◌, refl, ap, ◌∙◌, inl, inr, arith, if◌then◌else◌}
use Rattle.std.specs.Prelude.{◌||◌, ◌&&◌, not, nat_le, nat_lt}
use Rattle.std.proofs.lemmas.Bool.{eq-eqb, eqb-true}
use Rattle.dsm_copies.specs.Modes.{Mode, Bare, owed, covered, ended, told}
use Rattle.dsm_copies.specs.Copies.{State, Event, Load, Store, Signal, Pass, Begin, Op, Drop, Enter, Home_sent, Home_told, Home_enter, Home_break, is_at, put, home_next, home_broken, after_event, after, exclusive_at}
use Rattle.dsm_copies.specs.Premises.{Premise, Told, Broken, Released, Kept, Away, AtAccess, Every}
use Rattle.dsm_copies.specs.Counts.{Count, op_told, op_last_break, count, count_after}
use Rattle.dsm_copies.specs.Debts.{Debts, op_debt, owes, debts_after, AsksOf, RunsOf}
use Rattle.dsm_copies.proofs.Holds.{each_put}
use Rattle.dsm_copies.proofs.Tests.{and_left, and_right, or_case, not_false, other, at_access, access_passes, away, away_passes, all_below, below_passes, below, above, premises, index, at_index, all_of, all_passes, IsBounded, begins_below, each_passes, test, passes, bounded}

op_debt_told : (t : ℕ) (seen : Bool) (x : Mode) → op_debt t told seen x ≡ told
op_debt_told t true Bare = refl
op_debt_told t false Bare = refl
op_debt_told t seen x = grind arith

home_next_told : (w : Option ℕ) → (home_next w covered told ≡ told) × (home_next w ended told ≡ told) × (home_broken w told ≡ told)
home_next_told None = (refl, refl, refl)
home_next_told (Some n) = (refl, refl, refl)

module _ (place : ℕ → Option ℕ) (bound : ℕ) where
  -- nodes, senders and processors from the bound on have done nothing
  pub record IsSmall (s : State) (c : Count) (d : Debts) : Type 0 where
    pub modes : IsBounded place bound s
    pub told_none : (m : ℕ) → suc bound ≤ m → c.told m ≡ 0
    pub broken_none : (m : ℕ) → suc bound ≤ m → c.broken m ≡ 0
    pub known_none : (q m : ℕ) → suc bound ≤ m → c.known q m ≡ 0
    pub debt_none : (q : ℕ) → bound ≤ q → d.debt q ≡ told

  abbrev pub got_test : (ℕ → ℕ) → (ℕ → ℕ) → ℕ → Bool
  got_test f got n = all_below (suc bound) (λ m. (m == suc n) || nat_le (f m) (got m))

  abbrev pub test_of : Premise → State → Count → Debts → Event → Bool
  test_of Told s c d e = at_access (λ p. away (place p) (λ n. got_test (c.known p) (c.got n) n)) e
  test_of Broken s c d e = at_access (λ p. away (place p) (λ n. got_test c.broken (c.got n) n)) e
  test_of Released s c d (Signal p) = (d.debt p == told) || (exclusive_at s (place p) && not (d.debt p == owed))
  test_of Kept s c d (Drop n) = all_below bound (λ q. not (is_at (place q) n) || not (d.debt q == owed))
  test_of r s c d e = test place bound r s e

  abbrev pub stores_below : Event → Bool
  stores_below (Store p v) = nat_lt p bound
  stores_below e = true

  le_of : (m n : ℕ) → nat_le m n ≡ true → m ≤ n
  le_of m n e = grind arith

  got_passes : (f got : ℕ → ℕ) (n : ℕ) → ((m : ℕ) → suc bound ≤ m → f m ≡ 0) → got_test f got n ≡ true → (m : ℕ) → m ≢ suc n → f m ≤ got m
  got_passes f got n none h m ne = go (nat_lt m (suc bound)) refl
    where
      one : ((m == suc n) ≡ true) ⊎ (nat_le (f m) (got m) ≡ true) → f m ≤ got m
      one (inl e) = absurd (ne (eqb-true m (suc n) e))
      one (inr e) = le_of (f m) (got m) e

      go : (b : Bool) → nat_lt m (suc bound) ≡ b → f m ≤ got m
      go true e = one (or_case (m == suc n) (nat_le (f m) (got m)) (below_passes (suc bound) (λ m. (m == suc n) || nat_le (f m) (got m)) h m (below m (suc bound) e)))
      go false e = let z = none m (above m (suc bound) e) in omega (arith, z)

  module _ (s : State) (c : Count) (d : Debts) (small : IsSmall s c d) where
    released_passes : (p : ℕ) → ((d.debt p == told) || (exclusive_at s (place p) && not (d.debt p == owed))) ≡ true → (d.debt p ≡ told) ⊎ ((exclusive_at s (place p) ≡ true) × (d.debt p ≢ owed))
    released_passes p h = go (or_case (d.debt p == told) (exclusive_at s (place p) && not (d.debt p == owed)) h)
      where
        go : ((d.debt p == told) ≡ true) ⊎ ((exclusive_at s (place p) && not (d.debt p == owed)) ≡ true) → (d.debt p ≡ told) ⊎ ((exclusive_at s (place p) ≡ true) × (d.debt p ≢ owed))
        go (inl e) = inl (eqb-true (d.debt p) told e)
        go (inr e) = inr (and_left (exclusive_at s (place p)) (not (d.debt p == owed)) e, other (d.debt p) owed (and_right (exclusive_at s (place p)) (not (d.debt p == owed)) e))

    kept_passes : (n : ℕ) → all_below bound (λ q. not (is_at (place q) n) || not (d.debt q == owed)) ≡ true → (q : ℕ) → place q ≡ Some n → d.debt q ≢ owed
    kept_passes n h = each_passes place bound (λ q. not (is_at (place q) n) || not (d.debt q == owed)) (λ q. place q ≡ Some n → d.debt q ≢ owed) one high h
      where
        one : (q : ℕ) → (not (is_at (place q) n) || not (d.debt q == owed)) ≡ true → place q ≡ Some n → d.debt q ≢ owed
        one q h at = go (or_case (not (is_at (place q) n)) (not (d.debt q == owed)) h)
          where
            go : (not (is_at (place q) n) ≡ true) ⊎ (not (d.debt q == owed) ≡ true) → d.debt q ≢ owed
            go (inl e) = absurd (let f = not_false (is_at (place q) n) e in let g : is_at (place q) n ≡ true = rw at (eq-eqb n n refl) in cc (f, g))
            go (inr e) = other (d.debt q) owed e

        high : (q : ℕ) → bound ≤ q → place q ≡ Some n → d.debt q ≢ owed
        high q le at e = let z = small.debt_none q le in absurd (omega (arith, z, e))

    -- at an access, by what is known of its processor
    got_access : (f : ℕ → ℕ → ℕ) → ((p m : ℕ) → suc bound ≤ m → f p m ≡ 0) → (e : Event) → at_access (λ p. away (place p) (λ n. got_test (f p) (c.got n) n)) e ≡ true
        → AtAccess (λ p. Away (place p) (λ n. (m : ℕ) → m ≢ suc n → f p m ≤ c.got n m)) e
    got_access f none e h = access_passes (λ p. away (place p) (λ n. got_test (f p) (c.got n) n)) (λ p. Away (place p) (λ n. (m : ℕ) → m ≢ suc n → f p m ≤ c.got n m)) one e h
      where
        one : (p : ℕ) → away (place p) (λ n. got_test (f p) (c.got n) n) ≡ true → Away (place p) (λ n. (m : ℕ) → m ≢ suc n → f p m ≤ c.got n m)
        one p x = away_passes (λ n. got_test (f p) (c.got n) n) (λ n. (m : ℕ) → m ≢ suc n → f p m ≤ c.got n m) (λ n y. got_passes (f p) (c.got n) n (none p) y) (place p) x

    passes_of : (r : Premise) (e : Event) → test_of r s c d e ≡ true → AsksOf place r s c d e
    passes_of Told e h = got_access c.known small.known_none e h
    passes_of Broken e h = got_access (λ p. c.broken) (λ p. small.broken_none) e h
    passes_of Released (Signal p) h = released_passes p h
    passes_of Kept (Drop n) h = kept_passes n h
    passes_of Released e h = passes place bound s small.modes Released e h
    passes_of Kept e h = passes place bound s small.modes Kept e h
    passes_of r e h = passes place bound s small.modes r e h

    op_debts : (n q : ℕ) → bound ≤ q → (owes place s (Op n) d).debt q ≡ told
    op_debts n q le = go (is_at (place q) n)
      where
        go : (b : Bool) → (if b then op_debt (s.nodes n).twin (d.debt q) (d.seen q) (s.nodes n).mode else d.debt q) ≡ told
        go true = rw (small.debt_none q le) (op_debt_told (s.nodes n).twin (d.seen q) (s.nodes n).mode)
        go false = small.debt_none q le

    zero_at : (f : ℕ → ℕ) (x : ℕ) → ((m : ℕ) → suc bound ≤ m → f m ≡ 0) → (m : ℕ) → suc bound ≤ m → put f 0 x m ≡ 0
    zero_at f x none = each_put (λ m y. suc bound ≤ m → y ≡ 0) f 0 x (λ le. absurd (omega (arith, le))) (λ m ne. none m)

    -- a change of modes and of what was sent when a fetch began
    same : {s' : State} (snap : ℕ → ℕ → ℕ) → IsBounded place bound s' → IsSmall s' (record c { snap = snap }) d
    same snap modes = record { modes = modes; told_none = small.told_none; broken_none = small.broken_none; known_none = small.known_none; debt_none = small.debt_none }

    small_after : (e : Event) → begins_below place bound e ≡ true → stores_below e ≡ true → IsSmall (after_event place s e) (count s e c) (owes place s e d)
    small_after (Load p v) b st = small
    small_after (Store p v) b st = record { modes = bounded place bound s small.modes (Store p v) b; told_none = small.told_none; broken_none = small.broken_none; known_none = small.known_none; debt_none = each_put (λ q x. bound ≤ q → x ≡ told) d.debt p _ (λ le. absurd (let lt = below p bound st in omega (arith, lt, le))) (λ q ne. small.debt_none q) }
    small_after (Signal p) b st = record { modes = small.modes; told_none = small.told_none; broken_none = small.broken_none; known_none = small.known_none; debt_none = small.debt_none }
    small_after (Pass p) b st = record { modes = small.modes; told_none = small.told_none; broken_none = small.broken_none; known_none = each_put (λ q f. (m : ℕ) → suc bound ≤ m → f m ≡ 0) c.known p c.told small.told_none (λ q ne. small.known_none q); debt_none = small.debt_none }
    small_after (Begin n kind) b st = same _ (bounded place bound s small.modes (Begin n kind) b)
    small_after (Op n) b st = record {
      modes = bounded place bound s small.modes (Op n) b;
      told_none = each_put (λ m x. suc bound ≤ m → x ≡ 0) c.told (suc n) _ (λ le. ap (op_told (c.sent (suc n)) (c.told (suc n))) (small.modes n (omega (arith, le))) ∙ small.told_none (suc n) le) (λ m ne. small.told_none m);
      broken_none = each_put (λ m x. suc bound ≤ m → x ≡ 0) c.broken (suc n) _ (λ le. ap (op_last_break (c.sent (suc n)) (c.broken (suc n))) (small.modes n (omega (arith, le))) ∙ small.broken_none (suc n) le) (λ m ne. small.broken_none m);
      known_none = small.known_none;
      debt_none = op_debts n;
    }
    small_after (Drop n) b st = same _ (bounded place bound s small.modes (Drop n) b)
    small_after (Enter n) b st = same _ (bounded place bound s small.modes (Enter n) b)
    small_after Home_sent b st = record { modes = small.modes; told_none = zero_at c.told (c.told 0) small.told_none; broken_none = zero_at c.broken (c.broken 0) small.broken_none; known_none = small.known_none; debt_none = λ q le. ap (home_next (place q) covered) (small.debt_none q le) ∙ (home_next_told (place q)).0 }
    small_after Home_told b st = record { modes = small.modes; told_none = zero_at c.told (c.sent 0) small.told_none; broken_none = zero_at c.broken (c.broken 0) small.broken_none; known_none = small.known_none; debt_none = λ q le. ap (home_next (place q) ended) (small.debt_none q le) ∙ (home_next_told (place q)).1 }
    small_after Home_enter b st = record { modes = small.modes; told_none = small.told_none; broken_none = small.broken_none; known_none = small.known_none; debt_none = small.debt_none }
    small_after Home_break b st = record { modes = small.modes; told_none = zero_at c.told (suc (c.sent 0)) small.told_none; broken_none = zero_at c.broken (suc (c.sent 0)) small.broken_none; known_none = small.known_none; debt_none = λ q le. ap (home_broken (place q)) (small.debt_none q le) ∙ (home_next_told (place q)).2 }

  -- all premises, at each event of a list
  abbrev pub runs_test_of : State → Count → Debts → List Event → Bool
  runs_test_of s c d [] = true
  runs_test_of s c d (e ∷ older) = (begins_below place bound e && (stores_below e && all_of premises (λ r. test_of r (after place s older) (count_after place s c older) (debts_after place s d older) e))) && runs_test_of s c d older

  pub runs_pass_of : (s : State) (c : Count) (d : Debts) → IsSmall s c d → (es : List Event) → runs_test_of s c d es ≡ true
      → RunsOf place Every s c d es × IsSmall (after place s es) (count_after place s c es) (debts_after place s d es)
  runs_pass_of s c d small [] h = (tt, small)
  runs_pass_of s c d small (e ∷ older) h =
      let s' = after place s older in
      let c' = count_after place s c older in
      let d' = debts_after place s d older in
      let here = all_of premises (λ r. test_of r s' c' d' e) in
      let now = and_left (begins_below place bound e && (stores_below e && here)) (runs_test_of s c d older) h in
      let ih = runs_pass_of s c d small older (and_right (begins_below place bound e && (stores_below e && here)) (runs_test_of s c d older) h) in
      let rest = and_right (begins_below place bound e) (stores_below e && here) now in
      let all = and_right (stores_below e) here rest in (
        (λ r x. passes_of s' c' d' ih.1 r e (all_passes premises (λ q. test_of q s' c' d' e) all (index r) r (at_index r)), ih.0),
        small_after s' c' d' ih.1 e (and_left (begins_below place bound e) (stores_below e && here) now) (and_left (stores_below e) here rest),
      )
