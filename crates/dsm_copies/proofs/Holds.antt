-- What holds of a word whatever happened to it, and that each event keeps it.
use Rattle.std.proofs.Common.{◌≡◌, ◌≢◌, ℕ, ◌<◌, ◌≤◌, ◌⊎◌, Bool, true, false, Option, None, Some, refl, sym, ap, ◌∙◌, subst, inl, inr, arith}
use Rattle.std.proofs.lemmas.Bool.{cases_eq, eq-eqb, eqb-true, ne_eqb}
use Rattle.dsm_copies.specs.Modes.{is_exclusive, is_alone, op_progress, op_broken, op_master}
use Rattle.dsm_copies.specs.Copies.{Node, State, is_at, put, read, op_node}
use Rattle.dsm_copies.specs.Premises.{IsApart}
use Rattle.dsm_copies.proofs.Needs.{MayAccess}
use Rattle.dsm_copies.proofs.Facts.{Past, Fits, Sound}
use Rattle.dsm_copies.proofs.Stores.{exclusive_alone, Prompt}

abbrev pub FitsNode : Past → Node → Type 0
FitsNode g x = Fits g x.frame x.twin x.fresh x.since x.mode

-- what an operation of node n leaves: how far the last store has come, whether a break told it, the home's word, and the node
abbrev pub progress_behind : State → ℕ → ℕ
progress_behind s n = op_progress (is_at s.at n) s.progress (s.nodes n).twin (s.nodes n).mode

abbrev pub broken_behind : State → ℕ → Bool
broken_behind s n = op_broken (is_at s.at n) s.progress s.broken (s.nodes n).mode

abbrev pub master_behind : State → ℕ → ℕ
master_behind s n = op_master s.master (s.nodes n).mode

abbrev pub node_behind : State → ℕ → Node
node_behind s n = op_node s.master s.progress (s.nodes n)

-- the last store as node k sees it
abbrev pub past : State → ℕ → Past
past s k = record { store = record { own = is_at s.at k; prog = s.progress; m = s.master; l = s.last }; released = s.released; early = s.early; broken = s.broken }

-- a last store of the home
pub record IsHomes (s : State) : Type 0 where
  pub covers : 2 ≤ s.progress
  pub signalled : s.released ≡ true → (4 ≤ s.progress) ⊎ (s.home_exclusive ≡ true)
  pub passed : s.early ≡ true → (s.broken ≡ true) ⊎ ((s.home_exclusive ≡ true) × (s.progress < 4))
  pub no_send : s.home_exclusive ≡ true → s.progress ≢ 3

-- before the first store
pub record IsFirst (s : State) : Type 0 where
  pub all_told : 4 ≤ s.progress
  pub fetches : (k : ℕ) → (s.nodes k).fetched ≡ true → (s.nodes k).since ≡ true
  pub prompt : (k : ℕ) → Prompt (s.nodes k).mode

pub record Holds (place : ℕ → Option ℕ) (s : State) : Type 0 where
  pub sound : Sound (past s 0)
  pub each : (k : ℕ) → FitsNode (past s k) (s.nodes k)
  pub maker : (p : ℕ) → s.by ≡ Some p → s.at ≡ place p
  pub told_is : (q : ℕ) → s.told_to q ≡ true → 4 ≤ s.progress
  pub knows_is : (q : ℕ) → s.knows q ≡ true → (s.by ≡ Some q) ⊎ (s.told_to q ≡ true) ⊎ (s.early ≡ true)
  pub homes : s.at ≡ None → IsHomes s
  pub first : s.by ≡ None → IsFirst s

-- a change at one place
pub each_put : {A : Type 0} (P : ℕ → A → Type 0) (f : ℕ → A) (n : ℕ) (x : A) → P n x → ((k : ℕ) → k ≢ n → P k (f k)) → (k : ℕ) → P k (put f n x k)
each_put P f n x a b k = go (cases_eq k n)
  where
    go : (k ≡ n) ⊎ (k ≢ n) → P k (put f n x k)
    go (inl e) = rw (eq-eqb k n e) (subst (λ z. P z x) (sym e) a)
    go (inr ne) = rw (ne_eqb k n ne) (b k ne)

pub not_at : (k n : ℕ) → k ≢ n → is_at (Some n) k ≡ false
not_at k n ne = ne_eqb k n ne

pub at_own : (n : ℕ) → is_at (Some n) n ≡ true
at_own n = eq-eqb n n refl

pub at_is : (at : Option ℕ) (n : ℕ) → is_at at n ≡ true → at ≡ Some n
at_is None n e = absurd (cc e)
at_is (Some k) n e = ap (λ z. Some z) (sym (eqb-true n k e))

-- at most one node made the last store
pub one_own : (at : Option ℕ) (n k : ℕ) → k ≢ n → is_at at n ≡ true → is_at at k ≡ false
one_own at n k ne e = rw (at_is at n e) (not_at k n ne)

pub not_true : (b : Bool) → (b ≡ true → ⊥) → b ≡ false
not_true true h = absurd (h refl)
not_true false h = refl

module _ (place : ℕ → Option ℕ) (s : State) (h : Holds place s) where
  -- a break told a last store that somebody knows early, where nobody is exclusive
  early_home : s.at ≡ None → s.early ≡ true → s.home_exclusive ≡ false → s.broken ≡ true
  early_home e a free = let z = (h.homes e).passed a in grind arith

  early_node : (k : ℕ) → s.at ≡ Some k → s.early ≡ true → is_alone (s.nodes k).mode ≡ false → s.broken ≡ true
  early_node k e a free = go ((h.each k).base.early_is (rw e (at_own k)) a)
    where
      go : (s.broken ≡ true) ⊎ ((is_exclusive (s.nodes k).mode ≡ true) × (s.progress ≢ 1) × (s.progress < 4)) → s.broken ≡ true
      go (inl b) = b
      go (inr z) = let y = exclusive_alone (s.nodes k).mode z.0 in absurd (cc (y, free))

  made : (c w : Option ℕ) → s.at ≡ c → s.early ≡ true → (w ≡ c → ⊥) → IsApart s w → s.broken ≡ true
  made None None e a ne free = absurd (ne refl)
  made None (Some n) e a ne free = early_home e a free.0
  made (Some k) None e a ne free = early_node k e a (free k)
  made (Some k) (Some n) e a ne free = early_node k e a (free.1 k (λ f. ne (ap (λ z. Some z) (sym f))))

  -- a processor that knows a last store that was made elsewhere was told of it, or a break told it
  far : (p : ℕ) (w : Option ℕ) → w ≡ place p → s.knows p ≡ true → IsApart s w → s.at ≢ w → (4 ≤ s.progress) × ((s.told_to p ≡ true) ⊎ (s.broken ≡ true))
  far p w here knows free ne = go (h.knows_is p knows)
    where
      go : (s.by ≡ Some p) ⊎ (s.told_to p ≡ true) ⊎ (s.early ≡ true) → (4 ≤ s.progress) × ((s.told_to p ≡ true) ⊎ (s.broken ≡ true))
      go (inl e) = absurd (ne (h.maker p e ∙ sym here))
      go (inr (inl t)) = (h.told_is p t, inl t)
      go (inr (inr e)) = let b = made s.at w refl e (λ f. ne (sym f)) free in (h.sound.broken b, inr b)

  at_other : (n : ℕ) → is_at s.at n ≡ false → s.at ≢ Some n
  at_other n e f = let z : is_at s.at n ≡ true = rw f (at_own n) in absurd (cc (z, e))

  -- who may access has the last store
  since_node : (p n : ℕ) → Some n ≡ place p → MayAccess s p (Some n) → is_at s.at n ≡ false → (c : Option ℕ) → s.by ≡ c → (s.nodes n).since ≡ true
  since_node p n here may e None f = (h.first f).fetches n may.2
  since_node p n here may e (Some q) f = may.3 e (λ z. absurd (cc (z, f))) (far p (Some n) here may.0 may.1 (at_other n e)).1

  pub has_node : (p n : ℕ) → Some n ≡ place p → MayAccess s p (Some n) → (is_at s.at n ≡ true) ⊎ ((s.nodes n).fresh ≡ true)
  has_node p n here may = go (is_at s.at n) refl
    where
      go : (b : Bool) → is_at s.at n ≡ b → (is_at s.at n ≡ true) ⊎ ((s.nodes n).fresh ≡ true)
      go true e = inl e
      go false e = inr ((h.each n).base.since_has (since_node p n here may e s.by refl)).1

  pub has_home : (p : ℕ) → None ≡ place p → MayAccess s p None → s.master ≡ s.last
  has_home p here may = go s.at refl
    where
      go : (c : Option ℕ) → s.at ≡ c → s.master ≡ s.last
      go None e = h.sound.settled (h.homes e).covers
      go (Some k) e = let z = far p None here may.0 may.1 (λ f. absurd (cc (e, f))) in h.sound.settled (omega (arith, z.0))

  pub reads : (p : ℕ) (w : Option ℕ) → w ≡ place p → MayAccess s p w → read s w ≡ s.last
  reads p None here may = has_home p here may
  reads p (Some n) here may = go (has_node p n here may)
    where
      go : (is_at s.at n ≡ true) ⊎ ((s.nodes n).fresh ≡ true) → (s.nodes n).frame ≡ s.last
      go (inl e) = (h.each n).base.own_has e
      go (inr e) = ((h.each n).base.fresh_has e).1

  -- no other node owes the last store at an access
  pub not_owed : (p : ℕ) (w : Option ℕ) → w ≡ place p → s.knows p ≡ true → IsApart s w → (k : ℕ) → w ≢ Some k → is_at s.at k ≡ true → s.progress ≢ 1
  not_owed p w here knows free k ne e one = let z = far p w here knows free (λ f. ne (sym f ∙ at_is s.at k e)) in absurd (omega (arith, z.0, one))
