-- Rows at which nothing is done to the copies: the directory is read, a turn is won, a turn is given back.
use Rattle.std.proofs.Common.{◌≡◌, ◌≢◌, ◌⊎◌, inl, inr, ℕ, ◌==◌, Bool, true, false, List, [], Some, refl, sym, ap, ◌∙◌, subst, if◌then◌else◌}
use Rattle.std.proofs.lemmas.Bool.{cases_eq}
use Rattle.dsm_words.specs.declared.item.Item.{Item}
use Rattle.dsm_words.specs.declared.item.Item.TheVariants.{Frame, Twin, Twined, Dir, Update, Turn}
use Rattle.dsm_words.specs.Place.{IsWithin}
use Rattle.dsm_words.specs.Script.{Act, Get, Put, item_of}
use Rattle.dsm_words.specs.Words.{word, done}
use Rattle.dsm_clock.specs.declared.turns.TurnId.TheVariants.{Page}
use Rattle.dsm_protocol.specs.Own.{Own, node_of}
use Rattle.dsm_protocol.specs.Stages.{For_fault, Asked, Seeking, Setting, Round, Access, On}
use Rattle.dsm_protocol.specs.Rows.{sees_dir, gives}
use Rattle.dsm_fresh.specs.Pages as S
use Rattle.dsm_freshness.specs.Events as FE
use Rattle.dsm_twoway.specs.Views.{plain}
use Rattle.dsm_twoway.specs.Tied.{IsAway, rest_of, Copy, Words}
use Rattle.dsm_twoway.proofs.Numbers.{AllQuiet, step_quiet}
use Rattle.dsm_twoway.proofs.Scene.{Scene, RowActs, Acted, Meets, fresh_left}
use Rattle.dsm_twoway.proofs.Changes.{IsOf, IsPart, stays, rest_stays, words_stay, words_at, part_stays}
use Rattle.dsm_twoway.proofs.Frame.{by_none, quiet_row, numbers_stay, off_knows}

module _ (s : Scene) where
  -- The words where a turn's word alone changes: behind it the turn is held, or nobody works there and what would be open is open.
  pub turn_words : (a : Act) (within : IsWithin s.u.lay (item_of a)) (j k : ℕ) → item_of a ≡ Turn j k
      → (k ≡ s.g → IsAway s.h s.u j → word s.u.lay (done s.u.lay s.ws a) (Turn j s.g) ≡ 0 → plain (s.x.nodes j).mode ≡ rest_of s.h s.g s.i s.u s.ws j)
      → Words s.h s.g s.i s.u (done s.u.lay s.ws a) s.x
  turn_words a within j k is rest = go (cases_eq k s.g)
    where
      other : (it : Item) → it ≢ Turn j k → it ≢ item_of a
      other it ne e = ne (e ∙ is)

      go : (k ≡ s.g) ⊎ (k ≢ s.g) → Words s.h s.g s.i s.u (done s.u.lay s.ws a) s.x
      go (inr ne) = words_stay s a within (part_stays s a within (λ i. absurd (ne (subst (IsPart s) is i))))
      go (inl d) =
          words_at s a within j s.x (λ n ne at z. ne (sym (subst (IsOf s n) is z).0)) (λ n ne. refl) copy (s.match.words.none j)
          (stays s a within (Frame s.h s.g s.i) (s.h_in, s.g_in, s.i_in) (other (Frame s.h s.g s.i) (λ e. absurd (cc e))) ∙ s.match.words.master_is)
          (ap (λ z. z == 2) (stays s a within (Dir s.h s.g) (s.h_in, s.g_in) (other (Dir s.h s.g) (λ e. absurd (cc e)))) ∙ s.match.words.home_is)
        where
          copy : IsAway s.h s.u j → Copy s.h s.g s.i s.u (done s.u.lay s.ws a) j (s.x.nodes j)
          copy away =
              let c = s.match.words.each j away in
              let up = stays s a within (Update j s.g) (away.0, s.g_in) (other (Update j s.g) (λ e. absurd (cc e))) in
              let di = stays s a within (Dir j s.g) (away.0, s.g_in) (other (Dir j s.g) (λ e. absurd (cc e))) in
              let tw = stays s a within (Twined j s.g) (away.0, s.g_in) (other (Twined j s.g) (λ e. absurd (cc e))) in
              record {
                frame_is = stays s a within (Frame j s.g s.i) (away.0, s.g_in, s.i_in) (other (Frame j s.g s.i) (λ e. absurd (cc e))) ∙ c.frame_is;
                twin_is = stays s a within (Twin j s.g s.i) (away.0, s.g_in, s.i_in) (other (Twin j s.g s.i) (λ e. absurd (cc e))) ∙ c.twin_is;
                fetched_is = λ ne. c.fetched_is (λ z. ne (up ∙ z));
                rest_is = λ z. rest d away z ∙ sym (rest_stays s a within j di tw);
                rights = λ z. c.rights (either (sym tw) (sym di) z);
              }
            where
              either : {p p' q q' : ℕ} → p ≡ p' → q ≡ q' → (p' ≡ 1) ⊎ (q' ≡ 2) → (p ≡ 1) ⊎ (q ≡ 2)
              either e f (inl z) = inl (e ∙ z)
              either e f (inr z) = inr (f ∙ z)

  module _ (o : Own) where
    -- the directory is read
    pub row_sees_dir : {r : Round} {k y : ℕ} {write : Bool} → RowActs s o (sees_dir {r = r} {g = k} {x = y} {write = write})
    row_sees_dir {r} {k} {y} {write} f = go (y == 2) f
      where
        quiet : (m n : ℕ) → AllQuiet (FE.step_events m n s.g s.u {maps = o.maps} {dirty = o.dirty} (sees_dir {r = r} {g = k} {x = y} {write = write}))
        quiet m n = step_quiet m n s.g s.u {ms = o.maps} {ds = o.dirty} (sees_dir {r = r} {g = k} {x = y} {write = write}) refl

        go : (c : Bool) → Meets s (On r k (Asked write)) o (Get (Dir (node_of s.u) k)) y → Acted s (On r k (if c then Setting write true else Seeking (For_fault write y))) (done s.u.lay s.ws (Get (Dir (node_of s.u) k))) (λ m n. FE.step_events m n s.g s.u {maps = o.maps} {dirty = o.dirty} (sees_dir {r = r} {g = k} {x = y} {write = write})) []
        go true f = quiet_row s {z = Asked write} {t = Setting write true} (λ m n. FE.step_events m n s.g s.u {maps = o.maps} {dirty = o.dirty} (sees_dir {r = r} {g = k} {x = y} {write = write})) [] f (λ _. refl) tt quiet refl (λ rest d d'. refl) refl refl
        go false f = quiet_row s {z = Asked write} {t = Seeking (For_fault write y)} (λ m n. FE.step_events m n s.g s.u {maps = o.maps} {dirty = o.dirty} (sees_dir {r = r} {g = k} {x = y} {write = write})) [] f (λ _. refl) tt quiet refl (λ rest d d'. refl) refl refl

    -- the turn of a fault is given back
    pub row_gives : {k a y : ℕ} {write : Bool} → RowActs s o (gives {g = k} {a = a} {x = y} {write = write})
    row_gives {k} {a} {y} {write} f =
        let es : (m n : ℕ) → List S.Event = λ m n. FE.step_events m n s.g s.u {maps = o.maps} {dirty = o.dirty} (gives {g = k} {a = a} {x = y} {write = write}) in
        let ws' : List ℕ = done s.u.lay s.ws (Put (Turn (node_of s.u) k) 0) in
        by_none s {es = es} [] tt
        (record {
          words = turn_words (Put (Turn (node_of s.u) k) 0) f.within (node_of s.u) k refl (λ d away _. f.here.knows.mode (node_of s.u) away (ap (λ z. Some (Page (node_of s.u) z)) d) d);
          counted = numbers_stay s es (λ m n. step_quiet m n s.g s.u {ms = o.maps} {ds = o.dirty} (gives {g = k} {a = a} {x = y} {write = write}) refl);
        })
        (off_knows s ws' (fresh_left s es) s.pages s.x s.c (Access true write a))
