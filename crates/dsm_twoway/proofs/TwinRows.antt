-- The row at which a new twin is up.
use Rattle.std.proofs.Common.{◌≡◌, ◌≢◌, ◌⊎◌, inl, inr, ℕ, suc, ◌==◌, Bool, true, false, List, [], ◌∷◌, ◌++◌, Option, Some, refl, sym, ap, ◌∙◌, arith, if◌then◌else◌}
use Rattle.std.specs.Prelude.{map, ◌&&◌, not}
use Rattle.std.proofs.lemmas.Bool.{cases_eq, eq-eqb, ne_eqb}
use Rattle.dsm_words.specs.declared.item.Item.TheVariants.{Frame, Twin, Twined, Dir, Update, Turn}
use Rattle.dsm_words.specs.Script.{Act, Put}
use Rattle.dsm_words.specs.Words.{word, done}
use Rattle.dsm_protocol.specs.Own.{Own, node_of}
use Rattle.dsm_protocol.specs.Stages.{Whole, Making, Setting, Round, On}
use Rattle.dsm_protocol.specs.Rows.{made}
use Rattle.dsm_copies.specs.Modes.{Bare, Make_load, Make_end, may_store, op_mode}
use Rattle.dsm_copies.specs.Copies as W
use Rattle.dsm_copies.specs.Counts.{count}
use Rattle.dsm_owners.specs.Stages as O
use Rattle.dsm_fresh.specs.Pages as S
use Rattle.dsm_debts.specs.Page as P
use Rattle.dsm_debts.specs.Joining.{Move, At, Other}
use Rattle.dsm_releases.specs.Events as R
use Rattle.dsm_twoway.specs.Views.{plain, block}
use Rattle.dsm_twoway.specs.Events as E
use Rattle.dsm_twoway.specs.Events.{place_of}
use Rattle.dsm_twoway.specs.Tied.{IsAway}
use Rattle.dsm_twoway.proofs.Modes.{op_plain, store_plain, op_keeps_fetched}
use Rattle.dsm_twoway.proofs.Scene.{Scene, place, pages_left, fresh_left, RowActs, Acted}
use Rattle.dsm_twoway.proofs.Changes.{stays, becomes}
use Rattle.dsm_twoway.proofs.Frame.{by_events, numbers_kept}
use Rattle.dsm_twoway.proofs.Ops.{op_equal, op_words}
use Rattle.dsm_twoway.proofs.Blocks.{op_asks, other_row, open_here, place_away}
use Rattle.dsm_twoway.proofs.Standing.{away_by, node_at_turn, held_here, dir_word, twin_rest}
use Rattle.dsm_twoway.proofs.Others.{op_behind, op_other, own_knows}
use Rattle.dsm_twoway.proofs.FetchNotes.{block_over}

module _ (s : Scene) (o : Own) where
  -- a new twin is up
  pub row_made : {r : Round} {k y : ℕ} → RowActs s o (made {r = r} {g = k} {x = y})
  row_made {r} {k} {y} f = go (cases_eq k s.g)
    where
      ws' : List ℕ
      ws' = done s.u.lay s.ws (Put (Twined (node_of s.u) k) 1)

      a : Act
      a = Put (Twined (node_of s.u) k) 1

      es : (m n : ℕ) → List S.Event
      es m n = []

      goal : (c c' : Bool) (l : Option ℕ) → (k == s.g && not (node_of s.u == s.h)) ≡ c → (k == s.g && node_of s.u == node_of s.u) ≡ c' → place_of s.h (node_of s.u) ≡ l
          → Acted s (On r k (Setting true false)) (done s.u.lay s.ws (Put (Twined (node_of s.u) k) 1)) (λ m n. []) (map Other (E.only c (W.Op (node_of s.u))) ++ map (At l 0) (R.only c' P.Make))
          → Acted s (On r k (Setting true false)) (done s.u.lay s.ws (Put (Twined (node_of s.u) k) 1)) (λ m n. []) (map Other (E.only (k == s.g && not (node_of s.u == s.h)) (W.Op (node_of s.u))) ++ map (At (place_of s.h (node_of s.u)) 0) (R.only (k == s.g && node_of s.u == node_of s.u) P.Make))
      goal c c' l e e' e'' x = rw e (rw e' (rw e'' x))

      here : (a b : Bool) → a ≡ true → b ≡ false → (a && not b) ≡ true
      here a b p q = rw p (rw q refl)

      both : (a b : Bool) → a ≡ true → b ≡ true → (a && b) ≡ true
      both a b p q = rw p q

      not_here : (a b : Bool) → a ≡ false → (a && b) ≡ false
      not_here a b p = rw p refl

      at : k ≡ s.g → ((s.b.nodes (node_of s.u)).dir ≡ 1) × (s.b.home ≢ suc (node_of s.u)) × ((s.b.nodes (node_of s.u)).update ≡ true)
      at d = node_at_turn s f.here d O.Making refl refl

      away : k ≡ s.g → IsAway s.h s.u (node_of s.u)
      away d = (s.at.node_in, away_by s (λ z. let w = (at d).0 in absurd (omega (arith, z, w))) (at d).1)

      is : k ≡ s.g → plain (s.x.nodes (node_of s.u)).mode ≡ Make_end
      is d = open_here s {z = Making s.u.lay.words Whole} f d (away d).1 refl ∙ ap (λ c. if c then Bare else block s.i s.u.lay.words Make_load Make_load Make_end) (ne_eqb s.u.lay.words 0 (λ z. let i = s.i_in in absurd (omega (arith, z, i)))) ∙ block_over s.i s.u.lay.words Make_load Make_load Make_end s.i_in

      now : k ≡ s.g → word s.u.lay (done s.u.lay s.ws (Put (Twined (node_of s.u) k) 1)) (Twined (node_of s.u) s.g) ≡ 1
      now d = (λ z. word s.u.lay (done s.u.lay s.ws (Put (Twined (node_of s.u) k) 1)) (Twined (node_of s.u) (sym d z))) ∙ becomes s (Put (Twined (node_of s.u) k) 1) f.within

      go : (k ≡ s.g) ⊎ (k ≢ s.g) → Acted s (On r k (Setting true false)) (done s.u.lay s.ws (Put (Twined (node_of s.u) k) 1)) (λ m n. []) (map Other (E.only (k == s.g && not (node_of s.u == s.h)) (W.Op (node_of s.u))) ++ map (At (place_of s.h (node_of s.u)) 0) (R.only (k == s.g && node_of s.u == node_of s.u) P.Make))
      go (inr ne) = goal false false (place_of s.h (node_of s.u)) (not_here (k == s.g) (not (node_of s.u == s.h)) (ne_eqb k s.g ne)) (not_here (k == s.g) (node_of s.u == node_of s.u) (ne_eqb k s.g ne)) refl
          (other_row s {z = Making s.u.lay.words Whole} {t = Setting true false} es f ne (λ d. d) (λ m n. tt))
      go (inl d) = goal true true (Some (node_of s.u)) (here (k == s.g) (node_of s.u == s.h) (eq-eqb k s.g d) (ne_eqb (node_of s.u) s.h (away d).1)) (both (k == s.g) (node_of s.u == node_of s.u) (eq-eqb k s.g d) (eq-eqb (node_of s.u) (node_of s.u) refl)) (place_away s.h (node_of s.u) (away d).1)
          (let n : ℕ = node_of s.u in
          let w : W.Node = s.x.nodes n in
          let c = s.match.words.each n (away d) in
          let ms : List Move = Other (W.Op n) ∷ At (Some n) 0 P.Make ∷ [] in
          let di : word s.u.lay ws' (Dir n s.g) ≡ word s.u.lay s.ws (Dir n s.g) = stays s a f.within (Dir n s.g) (s.at.node_in, s.g_in) (λ e. absurd (cc e)) in
          by_events s {es = es} ms (W.Op n ∷ []) refl (op_other s s.x n Make_end (is d) refl refl, (tt, tt)) ((λ p q. op_asks (place s) s.x s.c s.d n p), tt)
          (record {
            words = op_words s a f.within n (away d) Make_end (is d) (λ j ne at z. ne (sym z.0))
                (stays s a f.within (Frame s.h s.g s.i) (s.h_in, s.g_in, s.i_in) (λ e. absurd (cc e)) ∙ s.match.words.master_is)
                (stays s a f.within (Frame n s.g s.i) (s.at.node_in, s.g_in, s.i_in) (λ e. absurd (cc e)) ∙ c.frame_is)
                (stays s a f.within (Twin n s.g s.i) (s.at.node_in, s.g_in, s.i_in) (λ e. absurd (cc e)) ∙ c.twin_is)
                (ap (λ z. z == 2) (stays s a f.within (Dir s.h s.g) (s.h_in, s.g_in) (λ e. absurd (cc e))) ∙ s.match.words.home_is)
                (λ ne. op_keeps_fetched w.fetched w.mode (c.fetched_is (λ z. ne (stays s a f.within (Update n s.g) (s.at.node_in, s.g_in) (λ e. absurd (cc e)) ∙ z))))
                (λ z. absurd (held_here s f.here d O.Making refl refl (sym (stays s a f.within (Turn n s.g) (s.at.node_in, s.g_in) (λ e. absurd (cc e))) ∙ z)))
                (λ z. store_plain (op_mode s.x.master s.x.progress w.frame w.twin w.mode) ∙ ap may_store (op_plain s.x.master s.x.progress w.frame w.twin w.mode ∙ ap (λ q. plain (op_mode s.x.master 0 w.frame w.twin q)) (is d)));
            counted = numbers_kept s es (count s.x (W.Op n) s.c) (λ m j. tt) (op_equal s.x n s.c Make_end (is d) refl);
          })
          (own_knows s ws' (fresh_left s es) (pages_left s ms) (W.after_event (place s) s.x (W.Op n)) (count s.x (W.Op n) s.c) r k (Setting true false) refl
          (λ b. op_behind s s.x n Make_end (is d) ∙ sym (twin_rest (word s.u.lay ws' (Dir n s.g)) (word s.u.lay ws' (Twined n s.g)) (λ e. absurd (cc (sym e ∙ di ∙ dir_word s 1 (at d).0))) (now d)))
          (λ at z. absurd (cc z)) (λ at z. absurd (cc z))))
