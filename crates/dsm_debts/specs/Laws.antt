-- The law of what the processors of one node owe.
use Rattle.std.specs.Prelude.{◌≡◌, ◌≢◌, ℕ, ◌⊎◌, Bool, true, false, List}
use Rattle.dsm_copies.specs.Modes.{exclusive, owed, covered, ended, told}
use Rattle.dsm_debts.specs.Page.{Stage, Event, Signal, Drop, State, is_loaded, is_broken, IsDue, after, start, IsClock}
use Rattle.dsm_debts.specs.Premises.{May, Runs}

-- what holds behind every list of events that meets the premises, at the home and at other nodes, from any clock and any stages
abbrev pub Always : ((home : Bool) (first top : ℕ) → State → Type 0) → Type 0
Always P =
    (home : Bool) (first top clock : ℕ) (stages : ℕ → Stage) (es : List Event)
    → IsClock clock stages → Runs home first top (start clock stages) es → P home first top (after home first (start clock stages) es)

-- who signals owes nothing, or its node is exclusive and its last store was not made after a break in progress had loaded the word
abbrev pub Signals : Type 0
Signals =
    Always (λ home first top s. (q : ℕ) → May home first top s (Signal q)
    → ((s.processors q).debt ≡ told) ⊎ ((s.page.sole ≡ true) × ((s.processors q).debt ≢ owed)))

-- a twin that is dropped hides no store that is owed
abbrev pub Drops : Type 0
Drops = Always (λ home first top s. May home first top s Drop → (q : ℕ) → (s.processors q).debt ≢ owed)

-- a store made in exclusive use, and not covered yet: the node is exclusive, and a break that has loaded the word has seen it
abbrev pub Exclusive : Type 0
Exclusive =
    Always (λ home first top s. (q : ℕ) → (s.processors q).debt ≡ exclusive
    → (home ≡ false) × (s.page.sole ≡ true) × (is_loaded s.page.work ≡ true → (s.processors q).seen ≡ true))

-- a store that is owed: the node is not the home, a twin stands or a break is past the load of the word and has not seen it, and its
-- processor has a release of the page before it
abbrev pub Owed : Type 0
Owed =
    Always (λ home first top s. (q : ℕ) → (s.processors q).debt ≡ owed
    → (home ≡ false) × ((s.page.twin ≡ true) ⊎ ((is_broken s.page.work ≡ true) × ((s.processors q).seen ≡ false))) × IsDue (s.processors q))

-- every debt is one of the five
abbrev pub Standing : Type 0
Standing =
    Always (λ home first top s. (q : ℕ)
    → let d = (s.processors q).debt in (d ≡ exclusive) ⊎ (d ≡ owed) ⊎ (d ≡ covered) ⊎ (d ≡ ended) ⊎ (d ≡ told))

-- a debt that is not told yet: the node is exclusive, or a release of the page is due
abbrev pub Untold : Type 0
Untold = Always (λ home first top s. (q : ℕ) → (s.processors q).debt ≢ told → (s.page.sole ≡ true) ⊎ IsDue (s.processors q))
