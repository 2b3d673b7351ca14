-- Rows of a flush: the operations of each word.
use Rattle.std.proofs.Common.{◌≡◌, ◌≢◌, ◌⊎◌, inl, inr, ℕ, suc, ◌≤◌, ◌+◌, ◌==◌, Bool, true, false, List, [], ◌∷◌, Option, Some, refl, sym, ap, ◌∙◌, subst, arith, if◌then◌else◌}
use Rattle.std.specs.Prelude.{map, ◌&&◌}
use Rattle.std.proofs.lemmas.Bool.{eq-eqb, ne_eqb, eqb-true}
use Rattle.dsm_words.specs.declared.item.Item.{Item}
use Rattle.dsm_words.specs.declared.item.Item.TheVariants.{Frame, Twin, Twined, Dir, Update, Turn}
use Rattle.dsm_words.specs.Script.{Act, Get, Put}
use Rattle.dsm_words.specs.Place.{IsWithin}
use Rattle.dsm_words.specs.Words.{word, done}
use Rattle.dsm_protocol.specs.Own.{Own, node_of}
use Rattle.dsm_clock.specs.declared.turns.TurnId.TheVariants.{Page}
use Rattle.dsm_protocol.specs.Stages.{Part, Whole, Got, Differs, Half, Timed, Flushing, Stamping, Round, On}
use Rattle.dsm_protocol.specs.Rows.{flushes_same, flushes, flushes_twin, flushes_home, tests_flush}
use Rattle.dsm_copies.specs.Modes.{Mode, Twinned, Flush_load, Flush_compare, Flush_refresh, Flush_send, Flush_end, op_mode}
use Rattle.dsm_copies.specs.Counts.{Count, count}
use Rattle.dsm_copies.specs.Premises.{Premise, Flushes}
use Rattle.dsm_copies.specs.Debts.{Debts, AsksOf}
use Rattle.dsm_copies.specs.Copies as W
use Rattle.dsm_owners.specs.Stages as O
use Rattle.dsm_fresh.specs.Pages as S
use Rattle.dsm_debts.specs.Page as P
use Rattle.dsm_debts.specs.Joining.{At, hand}
use Rattle.dsm_releases.specs.Events as R
use Rattle.dsm_twoway.specs.Views.{plain, mode_view, flush_here, block, resting}
use Rattle.dsm_twoway.specs.Events.{place_of}
use Rattle.dsm_twoway.proofs.Modes.{hand_plain, twinned_is}
use Rattle.dsm_twoway.proofs.Scene.{Scene, place, fresh_left, pages_left, RowActs, Acted, Meets}
use Rattle.dsm_twoway.proofs.Numbers.{Equal}
use Rattle.dsm_twoway.specs.Tied.{Copy, Words, Counted}
use Rattle.dsm_twoway.proofs.Changes.{IsPart, stays, becomes, words_at, part_stays}
use Rattle.dsm_twoway.proofs.Frame.{numbers_kept, by_events, on_knows}
use Rattle.dsm_twoway.proofs.Calm.{calm_row}
use Rattle.dsm_twoway.proofs.Ops.{op_equal, op_held, reads, put_same, put_other, put_what}
use Rattle.dsm_twoway.proofs.Blocks.{block_other, block_here, block_behind, block_past, at_turn, stage_is, home_found, twin_away, open_here, turn_held, turn_node, place_away, own_op, own_word, pick_move}

-- what is asked where a flush begins
begin_asks : (place : ℕ → Option ℕ) (x : W.State) (c : Count) (d : Debts) (n : ℕ) → (x.nodes n).mode ≡ Twinned → (r : Premise) → AsksOf place r x c d (W.Begin n W.Flush)
begin_asks place x c d n e Flushes = e
begin_asks place x c d n e r = tt

-- its begin leaves the numbers
begin_equal : (x : W.State) (c : Count) (n : ℕ) → Equal c (count x (W.Begin n W.Flush) c)
begin_equal x c n = record { sent_is = λ k. refl; told_is = λ k. refl; broken_is = λ k. refl; got_is = λ k j. refl; snap_is = λ k j. ap (λ (z : ℕ → ℕ). z j) (put_what c.snap n (c.snap n) refl k); known_is = λ q k. refl }

-- before its first word it has loaded none
block_first : (i : ℕ) → block i 0 Flush_load Flush_load Flush_end ≡ Flush_load
block_first i = grind arith

module _ (s : Scene) (o : Own) where
  -- who flushes is not at the home
  pub flush_away : {r : Round} {k h t e : ℕ} {part : Part} {a : Act} {y : ℕ} → Meets s (On r k (Flushing h t e part)) o a y → k ≡ s.g → node_of s.u ≢ s.h
  flush_away {r} {k} {h} {t} {e} {part} f d =
      let at = at_turn s O.Flushing (node_of s.u) (stage_is s {z = Flushing h t e part} f d) refl in
      twin_away s at.1 (f.here.owns.homes d ∙ ap suc (home_found s {z = Flushing h t e part} f d h refl))

  -- what is open at a word's own operations
  pub flush_open : {r : Round} {k h t e : ℕ} {part : Part} {a : Act} {y : ℕ} → Meets s (On r k (Flushing h t e part)) o a y → k ≡ s.g → e ≡ s.i → plain (s.x.nodes (node_of s.u)).mode ≡ flush_here part
  flush_open {r} {k} {h} {t} {e} {part} f d i = open_here s {z = Flushing h t e part} f d (flush_away {h = h} {t = t} {e = e} {part = part} f d) (ap (λ w. Some (Page (node_of s.u) w)) refl) ∙ block_here s.i e Flush_load (flush_here part) Flush_end i

  -- the frame's word and the twin's are the same, or not
  pub row_flushes_same : {r : Round} {k h t e v y : ℕ} → RowActs s o (flushes_same {r = r} {g = k} {h = h} {t = t} {i = e} {v = v} {x = y})
  row_flushes_same {r} {k} {h} {t} {e} {v} {y} f = go (v == y) refl
    where
      es : (m n : ℕ) → List S.Event
      es m n = []

      past : (c : Bool) → e ≢ s.i → (rest : Mode) (d d' : Bool) → mode_view s.i rest d' (if c then Flushing h t (e + 1) Whole else Flushing h t e (Differs v)) ≡ mode_view s.i rest d (Flushing h t e (Got v))
      past true ne rest d d' = block_past s.i e Flush_load (Flush_compare v false) Flush_end ne
      past false ne rest d d' = block_other s.i e Flush_load (Flush_refresh v false) (Flush_compare v false) Flush_end ne

      away : k ≡ s.g → node_of s.u ≢ s.h
      away d = flush_away {h = h} {t = t} {e = e} {part = Got v} f d

      is_twin : k ≡ s.g → e ≡ s.i → y ≡ (s.x.nodes (node_of s.u)).twin
      is_twin d i = f.told ∙ (λ z. word s.u.lay s.ws (Twin (node_of s.u) (d z) (i z))) ∙ (s.match.words.each (node_of s.u) (s.at.node_in, away d)).twin_is

      open_is : k ≡ s.g → e ≡ s.i → plain (s.x.nodes (node_of s.u)).mode ≡ Flush_compare v false
      open_is d i = flush_open {h = h} {t = t} {e = e} {part = Got v} f d i

      leads : k ≡ s.g → e ≡ s.i → (c : Bool) → (v == y) ≡ c → plain (op_mode s.x.master 0 (s.x.nodes (node_of s.u)).frame (s.x.nodes (node_of s.u)).twin (Flush_compare v false)) ≡ (if c then Flush_end else Flush_refresh v false)
      leads d i c is = ap (λ q. plain (if q then Flush_end else Flush_refresh v false)) (ap (λ q. v == q) (sym (is_twin d i)) ∙ is) ∙ same c
        where
          same : (c : Bool) → plain (if c then Flush_end else Flush_refresh v false) ≡ (if c then Flush_end else Flush_refresh v false)
          same true = refl
          same false = refl

      shown : (c : Bool) → e ≡ s.i → (rest : Mode) (d : Bool) → (if c then Flush_end else Flush_refresh v false) ≡ mode_view s.i rest d (if c then Flushing h t (e + 1) Whole else Flushing h t e (Differs v))
      shown true i rest d = sym (block_behind s.i e Flush_load Flush_load Flush_end i)
      shown false i rest d = sym (block_here s.i e Flush_load (Flush_refresh v false) Flush_end i)

      words : k ≡ s.g → e ≡ s.i → Words s.h s.g s.i s.u (done s.u.lay s.ws (Get (Twin (node_of s.u) k e))) (W.after_event (place s) s.x (W.Op (node_of s.u)))
      words d i = reads s (Twin (node_of s.u) k e) f.within (s.at.node_in, away d) (Flush_compare v false) (open_is d i) (turn_held s {z = Flushing h t e (Got v)} f d refl) (λ j ne at z. ne (sym z.0)) refl refl refl

      numbers : k ≡ s.g → e ≡ s.i → Counted s.h s.u (fresh_left s es) (count s.x (W.Op (node_of s.u)) s.c)
      numbers d i = numbers_kept s es (count s.x (W.Op (node_of s.u)) s.c) (λ m n. tt) (op_equal s.x (node_of s.u) s.c (Flush_compare v false) (open_is d i) refl)

      in_hand : k ≡ s.g → e ≡ s.i → hand (s.x.nodes (node_of s.u)).mode ≡ v
      in_hand d i = hand_plain (s.x.nodes (node_of s.u)).mode ∙ ap hand (open_is d i)

      go : (c : Bool) → (v == y) ≡ c → Acted s (On r k (if c then Flushing h t (e + 1) Whole else Flushing h t e (Differs v))) (done s.u.lay s.ws (Get (Twin (node_of s.u) k e))) es (map (At (place_of s.h (node_of s.u)) 0) (R.only ((k == s.g && node_of s.u == node_of s.u) && e == s.i) (if c then P.Same else P.Differ)))
      go true c = own_word s {z = Flushing h t e (Got v)} {t = Flushing h t (e + 1) Whole} es P.Same e f (λ i. i.0) (λ _ _. refl) (λ m n. tt) refl refl refl (past true) away
          (λ d i off. own_op s {z = Flushing h t e (Got v)} {t = Flushing h t (e + 1) Whole} es P.Same (Flush_compare v false) off (open_is d i) (λ w. refl) (in_hand d i ∙ eqb-true v y c ∙ is_twin d i) f (words d i) (numbers d i) refl (λ rest b. leads d i true c ∙ shown true i rest b) refl refl)
      go false c = own_word s {z = Flushing h t e (Got v)} {t = Flushing h t e (Differs v)} es P.Differ e f (λ i. i.0) (λ _ _. refl) (λ m n. tt) refl refl refl (past false) away
          (λ d i off. own_op s {z = Flushing h t e (Got v)} {t = Flushing h t e (Differs v)} es P.Differ (Flush_compare v false) off (open_is d i) (λ w. refl) (λ z. absurd (cc (sym c ∙ eq-eqb v y (sym (in_hand d i) ∙ z ∙ sym (is_twin d i))))) f (words d i) (numbers d i) refl (λ rest b. leads d i false c ∙ shown false i rest b) refl refl)

  -- the frame's word is loaded
  pub row_flushes : {r : Round} {g h t i x : ℕ} → RowActs s o (flushes {r = r} {g = g} {h = h} {t = t} {i = i} {x = x})
  row_flushes {r} {g = k} {h} {t} {i = e} {x = y} f =
      own_word s {z = Flushing h t e Whole} {t = Flushing h t e (Got y)} es P.Load e f (λ i. i.0) (λ _ _. refl) (λ m n. tt) refl refl refl (λ ne rest d d'. block_other s.i e Flush_load (Flush_compare y false) Flush_load Flush_end ne) away
      (λ d i off. own_op s {z = Flushing h t e Whole} {t = Flushing h t e (Got y)} es P.Load Flush_load off (open_is d i) (λ w. refl) tt f (words d i) (numbers d i) refl (λ rest b. ap (λ q. Flush_compare q false) (sym (is_frame d i)) ∙ sym (block_here s.i e Flush_load (Flush_compare y false) Flush_end i)) refl refl)
    where
      es : (m n : ℕ) → List S.Event
      es m n = []

      away : k ≡ s.g → node_of s.u ≢ s.h
      away d = flush_away {h = h} {t = t} {e = e} {part = Whole} f d

      is_frame : k ≡ s.g → e ≡ s.i → y ≡ (s.x.nodes (node_of s.u)).frame
      is_frame d i = f.told ∙ (λ z. word s.u.lay s.ws (Frame (node_of s.u) (d z) (i z))) ∙ (s.match.words.each (node_of s.u) (s.at.node_in, away d)).frame_is

      open_is : k ≡ s.g → e ≡ s.i → plain (s.x.nodes (node_of s.u)).mode ≡ Flush_load
      open_is d i = flush_open {h = h} {t = t} {e = e} {part = Whole} f d i

      words : k ≡ s.g → e ≡ s.i → Words s.h s.g s.i s.u (done s.u.lay s.ws (Get (Frame (node_of s.u) k e))) (W.after_event (place s) s.x (W.Op (node_of s.u)))
      words d i = reads s (Frame (node_of s.u) k e) f.within (s.at.node_in, away d) Flush_load (open_is d i) (turn_held s {z = Flushing h t e Whole} f d refl) (λ j ne at z. ne (sym z.0)) refl refl refl

      numbers : k ≡ s.g → e ≡ s.i → Counted s.h s.u (fresh_left s es) (count s.x (W.Op (node_of s.u)) s.c)
      numbers d i = numbers_kept s es (count s.x (W.Op (node_of s.u)) s.c) (λ m n. tt) (op_equal s.x (node_of s.u) s.c Flush_load (open_is d i) refl)

  -- the twin gets it
  pub row_flushes_twin : {r : Round} {g h t i v x : ℕ} → RowActs s o (flushes_twin {r = r} {g = g} {h = h} {t = t} {i = i} {v = v} {x = x})
  row_flushes_twin {r} {g = k} {h} {t} {i = e} {v} {x} f =
      own_word s {z = Flushing h t e (Differs v)} {t = Flushing h t e (Half v)} es P.Refresh e f (λ i. i.0) (λ off i. absurd (off i.0 i.1)) (λ m n. tt) refl refl refl (λ ne rest d d'. block_other s.i e Flush_load (Flush_send v false) (Flush_refresh v false) Flush_end ne) away
      (λ d i off. own_op s {z = Flushing h t e (Differs v)} {t = Flushing h t e (Half v)} es P.Refresh (Flush_refresh v false) off (open_is d i) (λ w. refl) tt f (words d i) (numbers d i) refl (λ rest b. sym (block_here s.i e Flush_load (Flush_send v false) Flush_end i)) refl refl)
    where
      es : (m n : ℕ) → List S.Event
      es m n = []

      away : k ≡ s.g → node_of s.u ≢ s.h
      away d = flush_away {h = h} {t = t} {e = e} {part = Differs v} f d

      open_is : k ≡ s.g → e ≡ s.i → plain (s.x.nodes (node_of s.u)).mode ≡ Flush_refresh v false
      open_is d i = flush_open {h = h} {t = t} {e = e} {part = Differs v} f d i

      words : k ≡ s.g → e ≡ s.i → Words s.h s.g s.i s.u (done s.u.lay s.ws (Put (Twin (node_of s.u) k e) v)) (W.after_event (place s) s.x (W.Op (node_of s.u)))
      words d i =
          let a : Act = Put (Twin (node_of s.u) k e) v in
          let m = s.match.words in
          let c = m.each (node_of s.u) (s.at.node_in, away d) in
          op_held s a f.within (node_of s.u) (s.at.node_in, away d) (Flush_refresh v false) (open_is d i) tt (turn_held s {z = Flushing h t e (Differs v)} f d refl) (λ j ne at z. ne (sym z.0))
          (stays s a f.within (Frame s.h s.g s.i) (s.h_in, s.g_in, s.i_in) (λ z. absurd (cc z)) ∙ m.master_is)
          (stays s a f.within (Frame (node_of s.u) s.g s.i) (s.at.node_in, s.g_in, s.i_in) (λ z. absurd (cc z)) ∙ c.frame_is)
          (sym (λ z. word s.u.lay (done s.u.lay s.ws (Put (Twin (node_of s.u) k e) v)) (Twin (node_of s.u) (d z) (i z))) ∙ becomes s a f.within)

      numbers : k ≡ s.g → e ≡ s.i → Counted s.h s.u (fresh_left s es) (count s.x (W.Op (node_of s.u)) s.c)
      numbers d i = numbers_kept s es (count s.x (W.Op (node_of s.u)) s.c) (λ m n. tt) (op_equal s.x (node_of s.u) s.c (Flush_refresh v false) (open_is d i) refl)

  -- and the home
  pub row_flushes_home : {r : Round} {g h t i v x : ℕ} → RowActs s o (flushes_home {r = r} {g = g} {h = h} {t = t} {i = i} {v = v} {x = x})
  row_flushes_home {r} {g = k} {h} {t} {i = e} {v} {x} f =
      own_word s {z = Flushing h t e (Half v)} {t = Flushing h t (e + 1) Whole} es P.Send e f (λ i. i.0) (λ off i. absurd (off i.0 i.1)) (λ m n. tt) refl refl refl (λ ne rest d d'. block_past s.i e Flush_load (Flush_send v false) Flush_end ne) away
      (λ d i off. own_op s {z = Flushing h t e (Half v)} {t = Flushing h t (e + 1) Whole} es P.Send (Flush_send v false) off (open_is d i) (λ w. refl) tt f (words d i) (numbers d i) refl (λ rest b. sym (block_behind s.i e Flush_load Flush_load Flush_end i)) refl refl)
    where
      es : (m n : ℕ) → List S.Event
      es m n = []

      away : k ≡ s.g → node_of s.u ≢ s.h
      away d = flush_away {h = h} {t = t} {e = e} {part = Half v} f d

      home : k ≡ s.g → h ≡ s.h
      home d = home_found s {z = Flushing h t e (Half v)} f d h refl

      open_is : k ≡ s.g → e ≡ s.i → plain (s.x.nodes (node_of s.u)).mode ≡ Flush_send v false
      open_is d i = flush_open {h = h} {t = t} {e = e} {part = Half v} f d i

      frame_node : Item → ℕ
      frame_node (Frame j g i) = j
      frame_node it = 0

      words : k ≡ s.g → e ≡ s.i → Words s.h s.g s.i s.u (done s.u.lay s.ws (Put (Frame h k e) v)) (W.after_event (place s) s.x (W.Op (node_of s.u)))
      words d i =
          let a : Act = Put (Frame h k e) v in
          let m = s.match.words in
          let c = m.each (node_of s.u) (s.at.node_in, away d) in
          op_held s a f.within (node_of s.u) (s.at.node_in, away d) (Flush_send v false) (open_is d i) tt (turn_held s {z = Flushing h t e (Half v)} f d refl) (λ j ne at z. at.1 (sym z.0 ∙ home d))
          (sym (λ z. word s.u.lay (done s.u.lay s.ws (Put (Frame h k e) v)) (Frame (home d z) (d z) (i z))) ∙ becomes s a f.within)
          (stays s a f.within (Frame (node_of s.u) s.g s.i) (s.at.node_in, s.g_in, s.i_in) (λ z. away d (ap frame_node z ∙ home d)) ∙ c.frame_is)
          (stays s a f.within (Twin (node_of s.u) s.g s.i) (s.at.node_in, s.g_in, s.i_in) (λ z. absurd (cc z)) ∙ c.twin_is)

      numbers : k ≡ s.g → e ≡ s.i → Counted s.h s.u (fresh_left s es) (count s.x (W.Op (node_of s.u)) s.c)
      numbers d i = numbers_kept s es (count s.x (W.Op (node_of s.u)) s.c) (λ m n. tt) (op_equal s.x (node_of s.u) s.c (Flush_send v false) (open_is d i) refl)

  -- a flush begins where there is a twin
  pub row_tests_flush : {r : Round} {g h t x : ℕ} (e : (node_of s.u == h) ≡ false) → RowActs s o (tests_flush {r = r} {g = g} {h = h} {t = t} {x = x} e)
  row_tests_flush {r} {g} {h} {t} {x} e f = go (x == 1) refl
    where
      ws' : List ℕ
      ws' = done s.u.lay s.ws (Get (Twined (node_of s.u) g))

      kept : (it : Item) → IsWithin s.u.lay it → IsPart s it → word s.u.lay ws' it ≡ word s.u.lay s.ws it
      kept it i p = part_stays s (Get (Twined (node_of s.u) g)) f.within (λ _. refl) it i p

      away : g ≡ s.g → node_of s.u ≢ s.h
      away d is = absurd (cc (sym e ∙ eq-eqb (node_of s.u) h (is ∙ sym (home_found s {z = Timed h t} f d h refl))))

      begins : g ≡ s.g → node_of s.u ≢ s.h → x ≡ 1 → Acted s (On r g (Flushing h t 0 Whole)) ws' (λ m n. []) (At (Some (node_of s.u)) 0 P.Begin ∷ [])
      begins d off one = by_events s {es = λ m n. []} (At (Some (node_of s.u)) 0 P.Begin ∷ []) (W.Begin (node_of s.u) W.Flush ∷ []) refl (tt, tt) ((λ r' i. begin_asks (place s) s.x s.c s.d (node_of s.u) twinned r'), tt)
          (record { words = words; counted = numbers_kept s (λ m n. []) (count s.x (W.Begin (node_of s.u) W.Flush) s.c) (λ m n. tt) (begin_equal s.x s.c (node_of s.u)) })
          (on_knows s ws' s.fresh (pages_left s (At (Some (node_of s.u)) 0 P.Begin ∷ [])) x' (count s.x (W.Begin (node_of s.u) W.Flush) s.c) r g (Flushing h t 0 Whole) refl refl
          (λ n at d' tu. subst (λ q. plain (x'.nodes q).mode ≡ block s.i 0 Flush_load Flush_load Flush_end) (ap turn_node tu) (ap (λ (z : W.Node). plain z.mode) (put_same s.x.nodes (node_of s.u) y') ∙ sym (block_first s.i))))
        where
          y' : W.Node
          y' = record (s.x.nodes (node_of s.u)) { mode = Flush_load }

          x' : W.State
          x' = W.after_event (place s) s.x (W.Begin (node_of s.u) W.Flush)

          low : (s.b.nodes (node_of s.u)).dir ≤ 1
          low = at_turn s O.Checked (node_of s.u) (stage_is s {z = Timed h t} f d) refl

          rest : resting (word s.u.lay s.ws (Dir (node_of s.u) s.g)) (word s.u.lay s.ws (Twined (node_of s.u) s.g)) ≡ Twinned
          rest = rw (ne_eqb (word s.u.lay s.ws (Dir (node_of s.u) s.g)) 2 (λ z. let i = s.owned.dir (node_of s.u) s.at.node_in in let l = low in absurd (omega (arith, z, i, l)))) (rw (eq-eqb (word s.u.lay s.ws (Twined (node_of s.u) s.g)) 1 (sym (λ z. word s.u.lay s.ws (Twined (node_of s.u) (d z))) ∙ sym f.told ∙ one)) refl)

          twinned : (s.x.nodes (node_of s.u)).mode ≡ Twinned
          twinned = twinned_is (s.x.nodes (node_of s.u)).mode (open_here s {z = Timed h t} f d off refl ∙ rest)

          copy : Copy s.h s.g s.i s.u ws' (node_of s.u) y'
          copy =
              let c = s.match.words.each (node_of s.u) (s.at.node_in, off) in
              record {
                frame_is = kept (Frame (node_of s.u) s.g s.i) (s.at.node_in, s.g_in, s.i_in) (refl, refl) ∙ c.frame_is;
                twin_is = kept (Twin (node_of s.u) s.g s.i) (s.at.node_in, s.g_in, s.i_in) (refl, refl) ∙ c.twin_is;
                fetched_is = λ ne. c.fetched_is (λ z. ne (kept (Update (node_of s.u) s.g) (s.at.node_in, s.g_in) refl ∙ z));
                rest_is = λ z. absurd (turn_held s {z = Timed h t} f d refl (sym (kept (Turn (node_of s.u) s.g) (s.at.node_in, s.g_in) refl) ∙ z));
                rights = λ z. refl;
              }

          words : Words s.h s.g s.i s.u ws' x'
          words = words_at s (Get (Twined (node_of s.u) g)) f.within (node_of s.u) x' (λ n ne at z. ne (sym z.0)) (λ n ne. put_other s.x.nodes (node_of s.u) y' n ne)
              (λ at. subst (Copy s.h s.g s.i s.u ws' (node_of s.u)) (sym (put_same s.x.nodes (node_of s.u) y')) copy) (λ out. absurd (none out))
              (kept (Frame s.h s.g s.i) (s.h_in, s.g_in, s.i_in) (refl, refl) ∙ s.match.words.master_is)
              (ap (λ z. z == 2) (kept (Dir s.h s.g) (s.h_in, s.g_in) refl) ∙ s.match.words.home_is)
            where
              none : (node_of s.u ≡ s.h) ⊎ (s.u.lay.nodes ≤ node_of s.u) → ⊥
              none (inl is) = off is
              none (inr l) = let i = s.at.node_in in absurd (omega (arith, i, l))

      all : (c d : Bool) → c ≡ true → d ≡ true → ((c && d) && true) ≡ true
      all c d i j = rw i (rw j refl)

      never : (c d : Bool) → ((c && d) && false) ≡ true → ⊥
      never true true i = absurd (cc i)
      never true false i = absurd (cc i)
      never false d i = absurd (cc i)

      ever : (c d : Bool) → ((c && d) && true) ≡ true → c ≡ true
      ever true d i = refl
      ever false d i = absurd (cc i)

      go : (b : Bool) → (x == 1) ≡ b → Acted s (On r g (if b then Flushing h t 0 Whole else Stamping h t false)) ws' (λ m n. []) (map (At (place_of s.h (node_of s.u)) 0) (R.only ((g == s.g && node_of s.u == node_of s.u) && b) P.Begin))
      go true one = pick_move s (place_of s.h (node_of s.u)) 0 P.Begin ((g == s.g && node_of s.u == node_of s.u) && true)
          (λ c. let d : g ≡ s.g = eqb-true g s.g (ever (g == s.g) (node_of s.u == node_of s.u) c) in rw (place_away s.h (node_of s.u) (away d)) (begins d (away d) (eqb-true x 1 one)))
          (λ c. calm_row s {z = Timed h t} {t = Flushing h t 0 Whole} (λ m n. []) [] f (λ _. refl) tt (λ m n. tt) refl refl refl refl (λ d off rest. absurd (cc (sym c ∙ all (g == s.g) (node_of s.u == node_of s.u) (eq-eqb g s.g d) (eq-eqb (node_of s.u) (node_of s.u) refl)))))
      go false one = pick_move s (place_of s.h (node_of s.u)) 0 P.Begin ((g == s.g && node_of s.u == node_of s.u) && false)
          (λ c. absurd (never (g == s.g) (node_of s.u == node_of s.u) c))
          (λ c. calm_row s {z = Timed h t} {t = Stamping h t false} (λ m n. []) [] f (λ _. refl) tt (λ m n. tt) refl refl refl refl (λ d off rest. refl))
