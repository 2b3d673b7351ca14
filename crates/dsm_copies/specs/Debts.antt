-- The premises on releases by what each processor owes.
use Rattle.std.specs.Prelude.{◌≡◌, ◌≢◌, ℕ, ◌≤◌, suc, ◌⊎◌, Bool, true, false, ◌==◌, if◌then◌else◌, Option, None, Some, List, [], ◌∷◌}
use Rattle.dsm_copies.specs.Modes.{Mode, Flush_load, Flush_compare, Flush_send, Flush_end, Flush_tell, Break_load, Break_send, Break_end, cover, next, break_over, store_progress, owed, covered, ended, told}
use Rattle.dsm_copies.specs.Copies.{State, Event, Store, Signal, Op, Drop, Home_sent, Home_told, Home_break, is_at, put, home_next, home_broken, after, exclusive_at}
use Rattle.dsm_copies.specs.Premises.{Premise, Told, Broken, Released, Kept, AtAccess, Away, Asks}
use Rattle.dsm_copies.specs.Counts.{Count, count_after}

-- For each processor: how far its own last store has come, and whether a block has loaded the frame behind it and has not
-- finished its part.
pub record Debts : Type 0 where
  pub debt : ℕ → ℕ
  pub seen : ℕ → Bool

-- a processor's debt behind an operation of its node's open block
abbrev pub op_debt : (t debt : ℕ) → Bool → Mode → ℕ
op_debt t debt seen (Flush_compare v b) = if v == t then cover true seen debt else debt
op_debt t debt seen (Flush_send v b) = cover true seen debt
op_debt t debt seen Flush_end = next true covered debt
op_debt t debt seen Flush_tell = next true ended debt
op_debt t debt seen (Break_send v b) = cover true seen debt
op_debt t debt seen Break_end = break_over true debt
op_debt t debt seen _ = debt

-- a block has loaded the frame behind its store
abbrev pub op_seen : (t : ℕ) → Bool → Mode → Bool
op_seen t seen Flush_load = true
op_seen t seen (Flush_compare v b) = if v == t then false else seen
op_seen t seen (Flush_send v b) = false
op_seen t seen Break_load = true
op_seen t seen (Break_send v b) = false
op_seen t seen _ = seen

-- what is owed when a store is made
abbrev pub store_debt : State → Option ℕ → ℕ
store_debt s None = covered
store_debt s (Some n) = store_progress (s.nodes n).mode

-- at the start nobody owes
abbrev pub no_debts : Debts
no_debts = record { debt = λ q. told; seen = λ q. false }

module _ (place : ℕ → Option ℕ) where
  -- the debts behind one event
  abbrev pub owes : State → Event → Debts → Debts
  owes s (Store p v) d = record { debt = put d.debt p (store_debt s (place p)); seen = put d.seen p false }
  owes s (Op n) d = record {
    debt = λ q. if is_at (place q) n then op_debt (s.nodes n).twin (d.debt q) (d.seen q) (s.nodes n).mode else d.debt q;
    seen = λ q. if is_at (place q) n then op_seen (s.nodes n).twin (d.seen q) (s.nodes n).mode else d.seen q;
  }
  owes s Home_sent d = record d { debt = λ q. home_next (place q) covered (d.debt q) }
  owes s Home_told d = record d { debt = λ q. home_next (place q) ended (d.debt q) }
  owes s Home_break d = record d { debt = λ q. home_broken (place q) (d.debt q) }
  owes s _ d = d

  -- the debts behind a list of events, newest first
  abbrev pub debts_after : State → Debts → List Event → Debts
  debts_after s d [] = d
  debts_after s d (e ∷ older) = owes (after place s older) e (debts_after s d older)

  -- What a premise asks as the protocol can show it. The node has fetched since each send that was told before the processor's
  -- last pass, and since each break; who signals owes nothing of its own, or its node is exclusive and it does not owe; and
  -- where a twin is dropped no processor of the node owes. All else is asked as it stands.
  abbrev pub AsksOf : Premise → State → Count → Debts → Event → Type 0
  AsksOf Told s c d e = AtAccess (λ p. Away (place p) (λ n. (m : ℕ) → m ≢ suc n → c.known p m ≤ c.got n m)) e
  AsksOf Broken s c d e = AtAccess (λ p. Away (place p) (λ n. (m : ℕ) → m ≢ suc n → c.broken m ≤ c.got n m)) e
  AsksOf Released s c d (Signal p) = (d.debt p ≡ told) ⊎ ((exclusive_at s (place p) ≡ true) × (d.debt p ≢ owed))
  AsksOf Kept s c d (Drop n) = (q : ℕ) → place q ≡ Some n → d.debt q ≢ owed
  AsksOf r s c d e = Asks place r s e

  -- each event of the list, newest first, meets them
  abbrev pub RunsOf : (Premise → Type 0) → State → Count → Debts → List Event → Type 0
  RunsOf asked s c d [] = Unit {0}
  RunsOf asked s c d (e ∷ older) =
      ((r : Premise) → asked r → AsksOf r (after place s older) (count_after place s c older) (debts_after s d older) e) × RunsOf asked s c d older
