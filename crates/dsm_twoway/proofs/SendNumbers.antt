-- The numbers behind a send of the own node that has ended or is told.
use Rattle.std.proofs.Common.{◌≡◌, ◌≢◌, ◌⊎◌, inl, inr, ℕ, suc, ◌<◌, Bool, refl, sym, ◌∙◌, subst, arith}
use Rattle.std.proofs.lemmas.Bool.{cases_eq, eq-eqb, ne_eqb}
use Rattle.dsm_protocol.specs.Own.{Who}
use Rattle.dsm_copies.specs.Counts.{Count}
use Rattle.dsm_fresh.specs.Stages as F
use Rattle.dsm_fresh.specs.Pages as S
use Rattle.dsm_freshness.proofs.Words.{put_kept}
use Rattle.dsm_twoway.specs.Tied.{IsAway, spot, Counted}
use Rattle.dsm_twoway.proofs.Numbers.{Alike}

-- two senders at one place are the same
pub spot_apart : (h : ℕ) (u : Who) (m j : ℕ) → m ≢ j → spot h u m ≢ spot h u j
spot_apart h u m j ne = go (cases_eq m h) (cases_eq j h)
  where
    go : (m ≡ h) ⊎ (m ≢ h) → (j ≡ h) ⊎ (j ≢ h) → spot h u m ≢ spot h u j
    go (inl a) (inl b) e = ne (a ∙ sym b)
    go (inl a) (inr b) e = let z : 0 ≡ suc j = sym (rw (eq-eqb m h a) refl) ∙ e ∙ (rw (ne_eqb j h b) refl) in absurd (cc z)
    go (inr a) (inl b) e = let z : suc m ≡ 0 = sym (rw (ne_eqb m h a) refl) ∙ e ∙ (rw (eq-eqb j h b) refl) in absurd (cc z)
    go (inr a) (inr b) e = let z : suc m ≡ suc j = sym (rw (ne_eqb m h a) refl) ∙ e ∙ (rw (ne_eqb j h b) refl) in ne (omega (arith, z))

-- behind this event of the copy as node j sees it, only the numbers of sends and of told ones differ
pub record Beside (f f' : S.State) : Type 0 where
  pub broken_is : f'.page.broken ≡ f.page.broken
  pub got_is : f'.page.got ≡ f.page.got
  pub known_is : (q : ℕ) → (f'.processors q).known ≡ (f.processors q).known
  pub open_is : (q e t : ℕ) (enters : Bool) → f'.page.work ≡ F.Open q enters t e → f.page.work ≡ F.Open q enters t e

pub beside_send : (first : ℕ) (f : S.State) → Beside f (S.happens first f S.Send)
beside_send first f = record { broken_is = refl; got_is = refl; known_is = λ q. put_kept (λ (z : S.Processor). z.known) f.processors 0 (f.processors 0) refl q; open_is = λ q e t b d. d }

pub beside_tell : (first : ℕ) (f : S.State) → Beside f (S.happens first f S.Tell)
beside_tell first f = record { broken_is = refl; got_is = refl; known_is = λ q. put_kept (λ (z : S.Processor). z.known) f.processors 0 (f.processors 0) refl q; open_is = λ q e t b d. d }

-- and of the counts
pub record Near (k : ℕ) (c c' : Count) : Type 0 where
  pub sent_is : (j : ℕ) → j ≢ k → c'.sent j ≡ c.sent j
  pub told_is : (j : ℕ) → j ≢ k → c'.told j ≡ c.told j
  pub broken_is : (j : ℕ) → c'.broken j ≡ c.broken j
  pub got_is : (n j : ℕ) → c'.got n j ≡ c.got n j
  pub snap_is : (n j : ℕ) → c'.snap n j ≡ c.snap n j
  pub known_is : (q j : ℕ) → c'.known q j ≡ c.known q j

module _ (h : ℕ) (u : Who) (fresh fresh' : (m n : ℕ) → S.State) (c c' : Count) (k : Counted h u fresh c) (j : ℕ) (j_in : j < u.lay.nodes) where
  -- the numbers are those of the copies again, where the sender's own are
  pub counted_send : ((m n : ℕ) → m ≢ j → Alike (fresh m n) (fresh' m n)) → ((n : ℕ) → Beside (fresh j n) (fresh' j n)) → Near (spot h u j) c c'
      → ((n : ℕ) → j ≢ n → IsAway h u n → (c'.sent (spot h u j) ≡ (fresh' j n).page.sent) × (c'.told (spot h u j) ≡ (fresh' j n).page.told)) → Counted h u fresh' c'
  counted_send others own near mine =
      record {
        sent_is = λ m n l ne i. sent m n l ne i (cases_eq m j);
        told_is = λ m n l ne i. told m n l ne i (cases_eq m j);
        broken_is = λ m n l ne i. near.broken_is (spot h u m) ∙ k.broken_is m n l ne i ∙ sym (beside m n (cases_eq m j)).broken_is;
        got_is = λ m n l ne i. near.got_is n (spot h u m) ∙ k.got_is m n l ne i ∙ sym (beside m n (cases_eq m j)).got_is;
        known_is = λ m n q l ne i q_in at. near.known_is q (spot h u m) ∙ k.known_is m n q l ne i q_in at ∙ sym ((beside m n (cases_eq m j)).known_is q);
        snap_is = λ m n q e t b l ne i d. near.snap_is n (spot h u m) ∙ k.snap_is m n q e t b l ne i ((beside m n (cases_eq m j)).open_is q e t b d);
        silent = λ i none. let z = k.silent i none in (near.told_is i (none j j_in) ∙ z.0, near.broken_is i ∙ z.1, λ q. near.known_is q i ∙ z.2 q);
      }
    where
      beside : (m n : ℕ) → (m ≡ j) ⊎ (m ≢ j) → Beside (fresh m n) (fresh' m n)
      beside m n (inl e) = subst (λ z. Beside (fresh z n) (fresh' z n)) (sym e) (own n)
      beside m n (inr ne) = let a = others m n ne in record { broken_is = a.broken_is; got_is = a.got_is; known_is = a.known_is; open_is = a.open_is }

      sent : (m n : ℕ) → m < u.lay.nodes → m ≢ n → IsAway h u n → (m ≡ j) ⊎ (m ≢ j) → c'.sent (spot h u m) ≡ (fresh' m n).page.sent
      sent m n l ne i (inl e) = subst (λ z. c'.sent (spot h u z) ≡ (fresh' z n).page.sent) (sym e) (mine n (λ d. ne (e ∙ d)) i).0
      sent m n l ne i (inr off) = near.sent_is (spot h u m) (spot_apart h u m j off) ∙ k.sent_is m n l ne i ∙ sym (others m n off).sent_is

      told : (m n : ℕ) → m < u.lay.nodes → m ≢ n → IsAway h u n → (m ≡ j) ⊎ (m ≢ j) → c'.told (spot h u m) ≡ (fresh' m n).page.told
      told m n l ne i (inl e) = subst (λ z. c'.told (spot h u z) ≡ (fresh' z n).page.told) (sym e) (mine n (λ d. ne (e ∙ d)) i).1
      told m n l ne i (inr off) = near.told_is (spot h u m) (spot_apart h u m j off) ∙ k.told_is m n l ne i ∙ sym (others m n off).told_is
