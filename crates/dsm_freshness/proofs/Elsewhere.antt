-- What is known of the other processors stays under an event of one.
use Rattle.std.proofs.Common.{◌<◌, ◌≡◌, ◌≢◌, ◌⊎◌, inl, inr, ℕ, true, List, [], ◌∷◌, Option, None, Some, refl, sym, ap, ◌∙◌}
use Rattle.std.specs.Prelude.{IfSome}
use Rattle.std.proofs.lemmas.Bool.{eqb-true}
use Rattle.dsm_words.specs.Place.{IsWithin}
use Rattle.dsm_clock.specs.Turns.{turn_item}
use Rattle.dsm_clock.specs.declared.turns.TurnId.{TurnId}
use Rattle.dsm_clock.specs.declared.turns.TurnId.TheVariants.{Page, Notices}
use Rattle.dsm_protocol.specs.Own.{Who, node_of}
use Rattle.dsm_protocol.specs.Stages.{Stage, Compared, Judged, Posting, Telling, Posted, Work, Off, On, Gone, turn_at, stage_turn}
use Rattle.dsm_ties.specs.Views.{AtStage}
use Rattle.dsm_fresh.specs.Pages.{Event, Reset, Draw, First, Last, Stamp, Enter, Current, Current_sole, Done, Send, Pass_by, Post_bit, Pass, Drain_none, Drain_some, Time, Notify, Flag, Flagged, Other_time, Other_notice, Give, Take, Skip, Unmap, Keep, Keep_sole, Settle, Page as Copy, State, page_after, happens, after}
use Rattle.dsm_freshness.specs.Views.{has_served, stamp_read}
use Rattle.dsm_freshness.specs.Tied.{Knows}
use Rattle.dsm_freshness.proofs.Words.{stage_kept, others_kept}
use Rattle.dsm_freshness.proofs.Frame.{both}
use Rattle.dsm_freshness.proofs.Making.{IsBy, need, Made, AllMade}

module _ (m n g : ℕ) (first : ℕ) (p : Copy) where
  -- what changes under a turn alone
  work_left : (e : Event) → need m n g e ≢ Some (Page n g) → (page_after first p e).work ≡ p.work
  work_left (Draw q) ne = absurd (ne refl)
  work_left (First q a) ne = absurd (ne refl)
  work_left (Last q) ne = absurd (ne refl)
  work_left (Stamp q) ne = absurd (ne refl)
  work_left (Enter q) ne = absurd (ne refl)
  work_left (Current q) ne = absurd (ne refl)
  work_left (Current_sole q) ne = absurd (ne refl)
  work_left (Done q) ne = absurd (ne refl)
  work_left e ne = refl

  update_left : (e : Event) → need m n g e ≢ Some (Page n g) → (page_after first p e).update ≡ p.update
  update_left Reset ne = absurd (ne refl)
  update_left (Stamp q) ne = absurd (ne refl)
  update_left e ne = refl

  hand_left : (e : Event) → need m n g e ≢ Some (Notices n) → (page_after first p e).hand ≡ p.hand
  hand_left (Drain_some q) ne = absurd (ne refl)
  hand_left Time ne = absurd (ne refl)
  hand_left Notify ne = absurd (ne refl)
  hand_left Flag ne = absurd (ne refl)
  hand_left Flagged ne = absurd (ne refl)
  hand_left Other_time ne = absurd (ne refl)
  hand_left Other_notice ne = absurd (ne refl)
  hand_left e ne = refl

  served_left : (e : Event) → need m n g e ≢ Some (Page m g) → p.served ≡ true → (page_after first p e).served ≡ true
  served_left Send ne s = absurd (ne refl)
  served_left Pass_by ne s = refl
  served_left Post_bit ne s = refl
  served_left e ne s = s

-- where another processor stands in its acquire
stage_left : (first : ℕ) (f : State) (p q : ℕ) → q ≢ p → (e : Event) → IsBy p e → ((happens first f e).processors q).stage ≡ (f.processors q).stage
stage_left first f p q ne (Pass k) by = ap (λ z. z.stage) (others_kept first f (Pass k) q (λ d. ne (d ∙ by)))
stage_left first f p q ne (Drain_none k) by = ap (λ z. z.stage) (others_kept first f (Drain_none k) q (λ d. ne (d ∙ by)))
stage_left first f p q ne (Drain_some k) by = ap (λ z. z.stage) (others_kept first f (Drain_some k) q (λ d. ne (d ∙ by)))
stage_left first f p q ne (Give k) by = ap (λ z. z.stage) (others_kept first f (Give k) q (λ d. ne (d ∙ by)))
stage_left first f p q ne (Take k) by = ap (λ z. z.stage) (others_kept first f (Take k) q (λ d. ne (d ∙ by)))
stage_left first f p q ne (Skip k) by = ap (λ z. z.stage) (others_kept first f (Skip k) q (λ d. ne (d ∙ by)))
stage_left first f p q ne (Unmap k) by = ap (λ z. z.stage) (others_kept first f (Unmap k) q (λ d. ne (d ∙ by)))
stage_left first f p q ne (Keep k) by = ap (λ z. z.stage) (others_kept first f (Keep k) q (λ d. ne (d ∙ by)))
stage_left first f p q ne (Keep_sole k) by = ap (λ z. z.stage) (others_kept first f (Keep_sole k) q (λ d. ne (d ∙ by)))
stage_left first f p q ne (Settle k) by = ap (λ z. z.stage) (others_kept first f (Settle k) q (λ d. ne (d ∙ by)))
stage_left first f p q ne e by = stage_kept first f e refl q

-- a stamp in hand, and a send that is dealt with, are known under the turn of the page
reads_turn : (u : Who) (g : ℕ) (s : Stage) → (stage_turn u g s ≡ Some (Page (node_of u) g)) ⊎ (stamp_read s ≡ None)
reads_turn u g (Compared write h x) = inl refl
reads_turn u g (Judged x) = inl refl
reads_turn u g s = inr refl

serves_turn : (m n g : ℕ) (u : Who) (w : Work) → has_served m n g u w ≡ true → turn_at u w ≡ Some (Page m g)
serves_turn m n g u (On r h (Posting home flushed j)) e = let y = both (both e).0 in λ i. Some (Page (eqb-true (node_of u) m y.1 i) (eqb-true h g y.0 i))
serves_turn m n g u (On r h (Telling home flushed j)) e = let y = both (both e).0 in λ i. Some (Page (eqb-true (node_of u) m y.1 i) (eqb-true h g y.0 i))
serves_turn m n g u (On r h (Posted home flushed)) e = let y = both e in λ i. Some (Page (eqb-true (node_of u) m y.1 i) (eqb-true h g y.0 i))
serves_turn m n g u w e = absurd (cc e)

none_some : {t : TurnId} → None ≡ Some t → ⊥
none_some e = absurd (cc e)

-- processor u stands at w, and the events are made by another one, p, that holds t
module _ (m n g : ℕ) (first : ℕ) (u : Who) (w : Work) (p : ℕ) (t : Option TurnId) (ne : u.p ≢ p) (m_in : m < u.lay.nodes) (n_in : n < u.lay.nodes) (g_in : g < u.lay.pages) (apart : (x : TurnId) → IsWithin u.lay (turn_item x) → turn_at u w ≡ Some x → t ≢ Some x) where
  needs_not : (e : Event) → Made m n g p t e → (x : TurnId) → IsWithin u.lay (turn_item x) → turn_at u w ≡ Some x → need m n g e ≢ Some x
  needs_not e made x x_in at d = go made.1
    where
      go : (need m n g e ≡ None) ⊎ (need m n g e ≡ t) → ⊥
      go (inl z) = none_some (sym z ∙ d)
      go (inr z) = apart x x_in at (sym z ∙ d)

  other_one : (f : State) (e : Event) → Made m n g p t e → Knows m n g u f w → Knows m n g u (happens first f e) w
  other_one f e made k =
      record {
        works = λ d. let z = k.works d in (z.0, work_left m n g first f.page e (needs_not e made (Page n g) (n_in, g_in) d) ∙ z.1);
        stage = λ d z. stage_left first f p u.p ne e made.0 ∙ k.stage d z;
        hand = λ d z. let y = k.hand d z in (y.0, hand_left m n g first f.page e (needs_not e made (Notices n) n_in z) ∙ y.1);
        stamp = λ d. stamps w d (k.stamp d) (λ z. needs_not e made (Page n g) (n_in, g_in) z);
        served = λ d. served_left m n g first f.page e (needs_not e made (Page m g) (m_in, g_in) (serves_turn m n g u w d)) (k.served d);
      }
    where
      here : (z : Option ℕ) → (page_after first f.page e).update ≡ f.page.update → IfSome z (λ x. f.page.update ≡ x) → IfSome z (λ x. (page_after first f.page e).update ≡ x)
      here None d i = tt
      here (Some x) d i = d ∙ i

      none_read : (z : Option ℕ) → z ≡ None → IfSome z (λ x. (page_after first f.page e).update ≡ x)
      none_read None d = tt
      none_read (Some x) d = absurd (cc d)

      stamps : (w : Work) → node_of u ≡ n → AtStage (λ s. IfSome (stamp_read s) (λ x. f.page.update ≡ x)) g w → (turn_at u w ≡ Some (Page n g) → need m n g e ≢ Some (Page n g)) → AtStage (λ s. IfSome (stamp_read s) (λ x. (page_after first f.page e).update ≡ x)) g w
      stamps (On r h s) d i none = λ z. go (reads_turn u h s) z
        where
          go : (stage_turn u h s ≡ Some (Page (node_of u) h)) ⊎ (stamp_read s ≡ None) → h ≡ g → IfSome (stamp_read s) (λ x. (page_after first f.page e).update ≡ x)
          go (inl tu) z = here (stamp_read s) (update_left m n g first f.page e (none (tu ∙ ap Some (λ i. Page (d i) (z i))))) (i z)
          go (inr y) z = none_read (stamp_read s) y
      stamps (Off r) d i none = tt
      stamps Gone d i none = tt

  pub others_stay : (f : State) (es : List Event) → AllMade m n g p t es → Knows m n g u f w → Knows m n g u (after first f es) w
  others_stay f [] made k = k
  others_stay f (e ∷ es) made k = others_stay (happens first f e) es made.1 (other_one f e made.0 k)
