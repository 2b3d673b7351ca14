-- Events of the copies that are none of a node leave both laws' debts the same.
use Rattle.std.proofs.Common.{◌≡◌, ◌≢◌, ℕ, ◌⊎◌, Bool, true, false, Option, None, Some, refl, sym, ap, ◌∙◌, subst, inl, inr}
use Rattle.std.proofs.lemmas.Bool.{cases_eq, eq-eqb, ne_eqb}
use Rattle.dsm_copies.specs.Modes.{Flush_over, owed, told}
use Rattle.dsm_copies.specs.Copies as W
use Rattle.dsm_copies.specs.Debts.{Debts, owes, store_debt as word_debt}
use Rattle.dsm_debts.specs.Page.{State, Signal, Drop}
use Rattle.dsm_debts.specs.Premises.{May}
use Rattle.dsm_debts.specs.Joining.{Quiet, mode_track, page_track, enters, IsFetch}
use Rattle.dsm_debts.proofs.Keeps.{Holds, may_signal, may_drop}
use Rattle.dsm_debts.proofs.Meeting.{Matches, op_joins, outdated_track, exclusive_track}
use Rattle.dsm_debts.proofs.Tracks.{quiet_track, quiet_debt, over_is}

fetch_track : (progress : ℕ) (kind : W.Kind) → IsFetch kind → mode_track (W.begun progress kind) ≡ Quiet
fetch_track progress W.Flush f = absurd f
fetch_track progress W.Break f = absurd f
fetch_track progress W.Merge f = refl
fetch_track progress W.Overwrite f = refl
fetch_track progress W.Make f = refl

module _ (place : ℕ → Option ℕ) (n : ℕ) where
  -- events of the copies that are none of node n
  abbrev pub IsElse : W.State → W.Event → Type 0
  IsElse s (W.Store p v) = place p ≢ Some n
  IsElse s (W.Signal p) = place p ≢ Some n
  IsElse s (W.Begin k kind) = (k ≢ n) ⊎ (IsFetch kind × (mode_track (s.nodes n).mode ≡ Quiet))
  IsElse s (W.Op k) = (k ≢ n) ⊎ ((enters (s.nodes n).mode ≡ false) × (mode_track (s.nodes n).mode ≡ Quiet))
  IsElse s (W.Drop k) = k ≢ n
  IsElse s (W.Enter k) = (k ≢ n) ⊎ (mode_track (s.nodes n).mode ≡ Quiet)
  IsElse s e = Unit {0}

  not_here : (q k : ℕ) → place q ≡ Some n → k ≢ n → W.is_at (place q) k ≡ false
  not_here q k e ne = rw e (ne_eqb k n ne)

  -- a node's mode is another
  other_node : (s : W.State) (d : Debts) (x : State) (k : ℕ) (z : W.Node) → Matches place n s d x → (k ≡ n → mode_track z.mode ≡ mode_track (s.nodes n).mode) → Matches place n (record s { nodes = W.put s.nodes k z }) d x
  other_node s d x k z h f = record { debt = h.debt; seen = h.seen; track = go (cases_eq n k) }
    where
      go : (n ≡ k) ⊎ (n ≢ k) → mode_track (W.put s.nodes k z n).mode ≡ page_track x.page.sole x.page.work
      go (inl e) = rw (eq-eqb n k e) (f (sym e) ∙ h.track)
      go (inr ne) = rw (ne_eqb n k ne) h.track

  else_far : (s : W.State) (d : Debts) (x : State) (k : ℕ) → Matches place n s d x → k ≢ n → Matches place n (W.after_event place s (W.Op k)) (owes place s (W.Op k) d) x
  else_far s d x k h ne = record { debt = λ q e. rw (not_here q k e ne) (h.debt q e); seen = λ q e. rw (not_here q k e ne) (h.seen q e); track = rw (ne_eqb n k (λ z. ne (sym z))) h.track }

  else_here : (s : W.State) (d : Debts) (x : State) → Matches place n s d x → enters (s.nodes n).mode ≡ false → mode_track (s.nodes n).mode ≡ Quiet → Matches place n (W.after_event place s (W.Op n)) (owes place s (W.Op n) d) x
  else_here s d x h a b = op_joins place n s d x (quiet_track s.master s.progress (s.nodes n).frame (s.nodes n).twin (s.nodes n).mode b a ∙ (sym b ∙ h.track)) (λ q e. quiet_debt (s.nodes n).twin (x.processors q).debt (d.debt q) (x.processors q).seen (d.seen q) (s.nodes n).mode b a (h.debt q e) (h.seen q e))

  else_op : (s : W.State) (d : Debts) (x : State) (k : ℕ) → Matches place n s d x → (k ≢ n) ⊎ ((enters (s.nodes n).mode ≡ false) × (mode_track (s.nodes n).mode ≡ Quiet)) → Matches place n (W.after_event place s (W.Op k)) (owes place s (W.Op k) d) x
  else_op s d x k h (inl ne) = else_far s d x k h ne
  else_op s d x k h (inr a) = go (cases_eq k n)
    where
      go : (k ≡ n) ⊎ (k ≢ n) → Matches place n (W.after_event place s (W.Op k)) (owes place s (W.Op k) d) x
      go (inl e) = subst (λ z. Matches place n (W.after_event place s (W.Op z)) (owes place s (W.Op z) d) x) (sym e) (else_here s d x h a.0 a.1)
      go (inr ne) = else_far s d x k h ne

  else_store : (s : W.State) (d : Debts) (x : State) (p v : ℕ) (w : Option ℕ) → w ≢ Some n → (place p ≢ Some n) → Matches place n s d x → Matches place n (W.store_at s p w v) (record { debt = W.put d.debt p (word_debt s w); seen = W.put d.seen p false }) x
  else_store s d x p v w ne a h = record { debt = debts; seen = seens; track = go w ne }
    where
      apart : (q : ℕ) → place q ≡ Some n → q ≢ p
      apart q e i = a (ap place (sym i) ∙ e)

      debts : (q : ℕ) → place q ≡ Some n → (x.processors q).debt ≡ W.put d.debt p (word_debt s w) q
      debts q e = rw (ne_eqb q p (apart q e)) (h.debt q e)

      seens : (q : ℕ) → place q ≡ Some n → (x.processors q).seen ≡ W.put d.seen p false q
      seens q e = rw (ne_eqb q p (apart q e)) (h.seen q e)

      go : (u : Option ℕ) → u ≢ Some n → mode_track ((W.store_at s p u v).nodes n).mode ≡ page_track x.page.sole x.page.work
      go None i = outdated_track (s.nodes n).mode ∙ h.track
      go (Some m) i = rw (ne_eqb n m (λ z. i (ap (λ y. Some y) (sym z)))) (outdated_track (s.nodes n).mode ∙ h.track)

  homes : (s : W.State) (d : Debts) (x : State) (progress : ℕ) (broken sole : Bool) (debt : ℕ → ℕ) → Matches place n s d x → ((q : ℕ) → place q ≡ Some n → debt q ≡ d.debt q) → Matches place n (record s { progress = progress; broken = broken; home_exclusive = sole }) (record d { debt = debt }) x
  homes s d x progress broken sole debt h f = record { debt = λ q e. h.debt q e ∙ sym (f q e); seen = h.seen; track = h.track }

  pub others : (s : W.State) (d : Debts) (x : State) (e : W.Event) → IsElse s e → Matches place n s d x → Matches place n (W.after_event place s e) (owes place s e d) x
  others s d x (W.Load p v) a h = record { debt = h.debt; seen = h.seen; track = h.track }
  others s d x (W.Store p v) a h = else_store s d x p v (place p) a a h
  others s d x (W.Signal p) a h = record { debt = h.debt; seen = h.seen; track = h.track }
  others s d x (W.Pass p) a h = record { debt = h.debt; seen = h.seen; track = h.track }
  others s d x (W.Begin k kind) a h = other_node s d x k (record (s.nodes k) { mode = W.begun s.progress kind }) h (go a)
    where
      go : (k ≢ n) ⊎ (IsFetch kind × (mode_track (s.nodes n).mode ≡ Quiet)) → k ≡ n → mode_track (W.begun s.progress kind) ≡ mode_track (s.nodes n).mode
      go (inl ne) e = absurd (ne e)
      go (inr b) e = fetch_track s.progress kind b.0 ∙ sym b.1
  others s d x (W.Op k) a h = else_op s d x k h a
  others s d x (W.Drop k) a h = other_node s d x k _ h (λ e. absurd (a e))
  others s d x W.Home_sent a h = homes s d x _ s.broken s.home_exclusive _ h (λ q e. rw e refl)
  others s d x W.Home_told a h = homes s d x _ s.broken s.home_exclusive _ h (λ q e. rw e refl)
  others s d x (W.Enter k) a h = other_node s d x k _ h (go a)
    where
      go : (k ≢ n) ⊎ (mode_track (s.nodes n).mode ≡ Quiet) → k ≡ n → Quiet ≡ mode_track (s.nodes n).mode
      go (inl ne) e = absurd (ne e)
      go (inr b) e = sym b
  others s d x W.Home_enter a h = record { debt = h.debt; seen = h.seen; track = h.track }
  others s d x W.Home_break a h = homes s d x _ _ false _ h (λ q e. rw e refl)

  module _ (first top : ℕ) where
    -- who signals owes nothing in both laws, or is exclusive in both
    pub signal_may : (s : W.State) (d : Debts) (x : State) → Holds false first top x → Matches place n s d x → (q : ℕ) → place q ≡ Some n → May false first top x (Signal q) → (d.debt q ≡ told) ⊎ ((W.exclusive_at s (place q) ≡ true) × (d.debt q ≢ owed))
    signal_may s d x h k q e m = go (may_signal false first top x h q m)
      where
        go : ((x.processors q).debt ≡ told) ⊎ ((x.page.sole ≡ true) × ((x.processors q).debt ≢ owed)) → (d.debt q ≡ told) ⊎ ((W.exclusive_at s (place q) ≡ true) × (d.debt q ≢ owed))
        go (inl i) = inl (sym (k.debt q e) ∙ i)
        go (inr i) = inr (subst (λ w. W.exclusive_at s w ≡ true) (sym e) (exclusive_track x.page x.page.work (s.nodes n).mode h.sound k.track i.0), λ z. i.1 (k.debt q e ∙ z))

    -- and no twin hides an owed store in either
    pub drop_may : (s : W.State) (d : Debts) (x : State) → Holds false first top x → Matches place n s d x → May false first top x Drop → ((s.nodes n).mode ≡ Flush_over) × ((q : ℕ) → place q ≡ Some n → d.debt q ≢ owed)
    drop_may s d x h k m = (over_is (s.nodes n).mode (k.track ∙ ap (λ w. page_track x.page.sole w) m.2), λ q e z. may_drop false first top x h m q (k.debt q e ∙ z))
