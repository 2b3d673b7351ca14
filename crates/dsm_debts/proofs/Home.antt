-- The same at the home.
use Rattle.std.proofs.Common.{◌≡◌, ◌≢◌, ℕ, ◌⊎◌, true, false, Option, None, Some, [], refl, sym, ap, ◌∙◌, subst, inl, inr, arith, if◌then◌else◌, ◌==◌}
use Rattle.std.specs.Prelude.{◌||◌}
use Rattle.std.proofs.lemmas.Bool.{cases_eq, eq-eqb, ne_eqb}
use Rattle.dsm_copies.specs.Modes.{next, break_over, owed, covered, ended, told}
use Rattle.dsm_copies.specs.Copies as W
use Rattle.dsm_copies.specs.Debts.{Debts, owes, store_debt as word_debt}
use Rattle.dsm_copies.specs.Debts.{debts_after}
use Rattle.dsm_debts.specs.Page.{Part, Loaded, Sending, After, Work, Idle, Flushing, Copying, Copied, Running, Drawn, Releasing, opened, worker, index, State, Processor, Page, Event, Tick, Store, Open, Take, Signal, Keep, Early, Map_exclusive, Map_write, Unmap, Make, Enter, Draw, Begin, Load, Same, Differ, Refresh, Send, Stamp, Stamp_bare, Tell, Lower, Look, Drop, Finish, Break, Mark, Pass_by, Copy, Raise, End, End_home, after_event}
use Rattle.dsm_debts.specs.Premises.{IsPart, IsFlushPart, May}
use Rattle.dsm_copies.specs.Joining.{onto}
use Rattle.dsm_debts.specs.Joining.{home_event, HomeAgrees}
use Rattle.dsm_debts.proofs.Facts.{Sound}
use Rattle.dsm_debts.proofs.Keeps.{Holds, choose, may_signal}

-- the home has no flush and no copying
no_part : (g : Page) (w : Work) (x : Part) → IsPart x w → Sound true (record g { work = w }) → ⊥
no_part g (Flushing p t y) x i s = let a = s.flush_twin in let b = s.home_bare in grind arith
no_part g (Copying y) x i s = let a = s.copying_away in grind arith
no_part g w x i s = absurd i

no_flush_part : (g : Page) (w : Work) (x : Part) → IsFlushPart x w → Sound true (record g { work = w }) → ⊥
no_flush_part g (Flushing p t y) x i s = let a = s.flush_twin in let b = s.home_bare in grind arith
no_flush_part g w x i s = absurd i

no_copied : (g : Page) (w : Work) → w ≡ Copied → Sound true (record g { work = w }) → ⊥
no_copied g Copied i s = let a = s.copying_away in grind arith
no_copied g Idle i s = absurd (cc i)
no_copied g w i s = absurd (cc i)

debt_if : (a y : Processor) (q p : ℕ) → a.debt ≡ y.debt → (if q == p then a else y).debt ≡ y.debt
debt_if a y q p e = choose (λ z. z.debt ≡ y.debt) q p a y (λ _. e) (λ _. refl)

module _ (place : ℕ → Option ℕ) where
  pub record Matches (s : W.State) (d : Debts) (x : State) : Type 0 where
    pub debt : (q : ℕ) → place q ≡ None → (x.processors q).debt ≡ d.debt q
    pub sole : x.page.sole ≡ s.home_exclusive

  -- events of the copies that are none of the home
  abbrev pub IsHomeElse : W.Event → Type 0
  IsHomeElse (W.Store p v) = place p ≢ None
  IsHomeElse (W.Signal p) = place p ≢ None
  IsHomeElse W.Home_sent = ⊥
  IsHomeElse W.Home_told = ⊥
  IsHomeElse W.Home_enter = ⊥
  IsHomeElse W.Home_break = ⊥
  IsHomeElse e = Unit {0}

  module _ (first top : ℕ) where
    abbrev Joins : W.State → Debts → ℕ → Event → State → Type 0
    Joins s d v e x = Holds true first top x → Matches s d x → Matches (W.after place s (onto (home_event v e) [])) (debts_after place s d (onto (home_event v e) [])) (after_event true first x e)

    joins_store : (s : W.State) (d : Debts) (v p : ℕ) (x : State) → place p ≡ None → Joins s d v (Store p) x
    joins_store s d v p x a h k = subst (λ w. Matches (W.store_at s p w v) (record { debt = W.put d.debt p (word_debt s w); seen = W.put d.seen p false }) (after_event true first x (Store p))) (sym a) (record { debt = λ q e. debts q e (cases_eq q p); sole = k.sole })
      where
        debts : (q : ℕ) → place q ≡ None → (q ≡ p) ⊎ (q ≢ p) → (if q == p then record (x.processors q) { debt = covered; seen = false } else x.processors q).debt ≡ W.put d.debt p covered q
        debts q e (inl i) = rw (eq-eqb q p i) refl
        debts q e (inr ne) = rw (ne_eqb q p ne) (k.debt q e)

    pub joins : (s : W.State) (d : Debts) (v : ℕ) (x : State) (e : Event) → May true first top x e → HomeAgrees place e → Joins s d v e x
    joins s d v x (Store p) m a h k = joins_store s d v p x a h k
    joins s d v x Same m a h k = absurd (no_flush_part x.page x.page.work Loaded m h.sound)
    joins s d v x Send m a h k = absurd (no_part x.page x.page.work Sending m h.sound)
    joins s d v x Stamp m a h k = absurd (no_flush_part x.page x.page.work After m h.sound)
    joins s d v x End m a h k = absurd (no_copied x.page x.page.work m h.sound)
    joins s d v x Stamp_bare m a h k = record { debt = λ q e. rw e (ap (λ z. next true covered z) (k.debt q e)); sole = k.sole }
    joins s d v x Tell m a h k = record { debt = λ q e. rw e (ap (λ z. next true ended z) (k.debt q e)); sole = k.sole }
    joins s d v x End_home m a h k = record { debt = λ q e. rw e (ap (λ z. break_over true z) (k.debt q e)); sole = refl }
    joins s d v x Enter m a h k = record { debt = k.debt; sole = refl }
    joins s d v x (Open p) m a h k = record { debt = λ q e. debt_if (record (x.processors q) { stage = Drawn x.page.clock }) (x.processors q) q p refl ∙ k.debt q e; sole = k.sole }
    joins s d v x (Take p) m a h k = record { debt = λ q e. debt_if (record (x.processors q) { dirty = (x.processors q).dirty || (x.processors q).bit; bit = false; stage = Releasing (opened (x.processors q).stage) }) (x.processors q) q p refl ∙ k.debt q e; sole = k.sole }
    joins s d v x (Signal p) m a h k = record { debt = λ q e. debt_if (record (x.processors q) { stage = Running }) (x.processors q) q p refl ∙ k.debt q e; sole = k.sole }
    joins s d v x (Keep p) m a h k = record { debt = λ q e. debt_if (record (x.processors q) { dirty = false }) (x.processors q) q p refl ∙ k.debt q e; sole = k.sole }
    joins s d v x (Early p) m a h k = record { debt = λ q e. debt_if (record (x.processors q) { dirty = false }) (x.processors q) q p refl ∙ k.debt q e; sole = k.sole }
    joins s d v x (Map_exclusive p) m a h k = record { debt = λ q e. debt_if (record (x.processors q) { writes = true }) (x.processors q) q p refl ∙ k.debt q e; sole = k.sole }
    joins s d v x (Map_write p) m a h k = record { debt = λ q e. debt_if (record (x.processors q) { writes = true; dirty = true }) (x.processors q) q p refl ∙ k.debt q e; sole = k.sole }
    joins s d v x (Unmap p) m a h k = record { debt = λ q e. debt_if (record (x.processors q) { writes = false }) (x.processors q) q p refl ∙ k.debt q e; sole = k.sole }
    joins s d v x Lower m a h k = record { debt = λ q e. debt_if (record (x.processors q) { writes = false }) (x.processors q) q (worker x.page.work) refl ∙ k.debt q e; sole = k.sole }
    joins s d v x Finish m a h k = record { debt = λ q e. debt_if (record (x.processors q) { dirty = false }) (x.processors q) q (worker x.page.work) refl ∙ k.debt q e; sole = k.sole }
    joins s d v x Mark m a h k = record { debt = λ q e. debt_if (record (x.processors q) { bit = true }) (x.processors q) q (index x.page.work) refl ∙ k.debt q e; sole = k.sole }
    joins s d v x Tick m a h k = record { debt = k.debt; sole = k.sole }
    joins s d v x Make m a h k = record { debt = k.debt; sole = k.sole }
    joins s d v x (Draw p) m a h k = record { debt = k.debt; sole = k.sole }
    joins s d v x Begin m a h k = record { debt = k.debt; sole = k.sole }
    joins s d v x Load m a h k = record { debt = k.debt; sole = k.sole }
    joins s d v x Differ m a h k = record { debt = k.debt; sole = k.sole }
    joins s d v x Refresh m a h k = record { debt = k.debt; sole = k.sole }
    joins s d v x Look m a h k = record { debt = k.debt; sole = k.sole }
    joins s d v x Drop m a h k = record { debt = k.debt; sole = k.sole }
    joins s d v x Break m a h k = record { debt = k.debt; sole = k.sole }
    joins s d v x Pass_by m a h k = record { debt = k.debt; sole = k.sole }
    joins s d v x Copy m a h k = record { debt = k.debt; sole = k.sole }
    joins s d v x Raise m a h k = record { debt = k.debt; sole = k.sole }

    pub others : (s : W.State) (d : Debts) (x : State) (e : W.Event) → IsHomeElse e → Matches s d x → Matches (W.after_event place s e) (owes place s e d) x
    others s d x (W.Load p v) a h = record { debt = h.debt; sole = h.sole }
    others s d x (W.Store p v) a h = store (place p) a
      where
        debts : (w : Option ℕ) (q : ℕ) → place q ≡ None → (x.processors q).debt ≡ W.put d.debt p (word_debt s w) q
        debts w q e = rw (ne_eqb q p (λ i. a (ap place (sym i) ∙ e))) (h.debt q e)

        store : (w : Option ℕ) → w ≢ None → Matches (W.store_at s p w v) (record { debt = W.put d.debt p (word_debt s w); seen = W.put d.seen p false }) x
        store None i = absurd (i refl)
        store (Some m) i = record { debt = debts (Some m); sole = h.sole }
    others s d x (W.Signal p) a h = record { debt = h.debt; sole = h.sole }
    others s d x (W.Pass p) a h = record { debt = h.debt; sole = h.sole }
    others s d x (W.Begin k kind) a h = record { debt = h.debt; sole = h.sole }
    others s d x (W.Op k) a h = record { debt = λ q e. rw e (h.debt q e); sole = h.sole }
    others s d x (W.Drop k) a h = record { debt = h.debt; sole = h.sole }
    others s d x W.Home_sent a h = absurd a
    others s d x W.Home_told a h = absurd a
    others s d x (W.Enter k) a h = record { debt = h.debt; sole = h.sole }
    others s d x W.Home_enter a h = absurd a
    others s d x W.Home_break a h = absurd a

    -- who signals owes nothing in both laws, or is exclusive in both
    pub signal_may : (s : W.State) (d : Debts) (x : State) → Holds true first top x → Matches s d x → (q : ℕ) → place q ≡ None → May true first top x (Signal q) → (d.debt q ≡ told) ⊎ ((W.exclusive_at s (place q) ≡ true) × (d.debt q ≢ owed))
    signal_may s d x h k q e m = go (may_signal true first top x h q m)
      where
        go : ((x.processors q).debt ≡ told) ⊎ ((x.page.sole ≡ true) × ((x.processors q).debt ≢ owed)) → (d.debt q ≡ told) ⊎ ((W.exclusive_at s (place q) ≡ true) × (d.debt q ≢ owed))
        go (inl i) = inl (sym (k.debt q e) ∙ i)
        go (inr i) = inr (subst (λ w. W.exclusive_at s w ≡ true) (sym e) (sym k.sole ∙ i.0), λ z. i.1 (k.debt q e ∙ z))
