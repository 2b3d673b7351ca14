-- Rows of a fetch and of the making of a twin: the operations of each word behind its load.
use Rattle.std.proofs.Common.{◌≡◌, ◌≢◌, ◌⊎◌, inl, inr, ℕ, ◌+◌, ◌==◌, Bool, true, false, List, [], ◌++◌, Some, refl, sym, ap, ◌∙◌, subst, arith, if◌then◌else◌}
use Rattle.std.specs.Prelude.{map, ◌&&◌, not}
use Rattle.std.proofs.lemmas.Bool.{cases_eq, eq-eqb, ne_eqb}
use Rattle.dsm_words.specs.declared.item.Item.{Item}
use Rattle.dsm_words.specs.declared.item.Item.TheVariants.{Frame, Twin, Twined, Turn}
use Rattle.dsm_words.specs.Place.{IsWithin}
use Rattle.dsm_words.specs.Script.{Act, Get, Put, item_of}
use Rattle.dsm_words.specs.Words.{word, done}
use Rattle.dsm_clock.specs.declared.turns.TurnId.TheVariants.{Page}
use Rattle.dsm_protocol.specs.Own.{Own, node_of}
use Rattle.dsm_protocol.specs.Stages.{Part, Whole, Got, Differs, Half, Stage, Filling, Copying, Making, Round, On, stage_turn}
use Rattle.dsm_protocol.specs.Rows.{fills_own, copies_over, merges, merges_own, merges_twin, makes_twin}
use Rattle.dsm_copies.specs.Modes.{Mode, Bare, Twinned, Merge_load, Merge_compare, Merge_write, Merge_refresh, Merge_end, Overwrite_load, Overwrite_write, Overwrite_end, Enter_load, Enter_write, Enter_end, Make_load, Make_write, Make_end, op_mode, op_frame, op_twin, op_master}
use Rattle.dsm_copies.specs.Copies as W
use Rattle.dsm_copies.specs.Counts.{count}
use Rattle.dsm_owners.specs.Stages as O
use Rattle.dsm_fresh.specs.Pages as S
use Rattle.dsm_debts.specs.Joining.{Other, mode_track, Quiet, enters, has_flushed}
use Rattle.dsm_twoway.specs.Views.{plain, mode_view, block, unless_fresh}
use Rattle.dsm_twoway.specs.Events as E
use Rattle.dsm_twoway.specs.Tied.{IsAway, rest_of, is_beginning, is_copied, HasCopied, Words}
use Rattle.dsm_twoway.proofs.Scene.{Scene, place, RowActs, Acted, Meets}
use Rattle.dsm_twoway.proofs.Changes.{IsPart, stays, becomes}
use Rattle.dsm_twoway.proofs.Frame.{numbers_kept}
use Rattle.dsm_twoway.proofs.Ops.{is_counted, op_equal, op_held, reads}
use Rattle.dsm_twoway.proofs.Blocks.{open_here, other_row, block_other, block_here, block_behind, block_past}
use Rattle.dsm_twoway.proofs.Standing.{away_by, node_at_turn, held_here}
use Rattle.dsm_twoway.proofs.Others.{other_op, still_row}

-- the node of a word of a frame
abbrev frame_node : Item → ℕ
frame_node (Frame n g i) = n
frame_node it = 0

-- behind its first word a block has begun
begun : (e : ℕ) (rest opened : Mode) → unless_fresh (e + 1) Whole rest opened ≡ opened
begun e rest opened = ap (λ c. if c then rest else opened) (ne_eqb (e + 1) 0 (λ d. absurd (omega (arith, d))))

all : (a b c : Bool) → a ≡ true → b ≡ false → c ≡ true → ((a && not b) && c) ≡ true
all a b c p q w = rw p (rw q w)

none : (a b c : Bool) → (a ≡ false) ⊎ (c ≡ false) → ((a && not b) && c) ≡ false
none false b c w = refl
none true b c (inl w) = absurd (cc w)
none true true c (inr w) = refl
none true false c (inr w) = w

module _ (s : Scene) where
  -- the words where the open operation stores in the frame,
  frame_words : {k e v : ℕ} (within : IsWithin s.u.lay (Frame (node_of s.u) k e)) (x : Mode) → IsAway s.h s.u (node_of s.u) → word s.u.lay s.ws (Turn (node_of s.u) s.g) ≢ 0 → k ≡ s.g → e ≡ s.i → plain (s.x.nodes (node_of s.u)).mode ≡ x
      → op_master s.x.master x ≡ s.x.master → op_frame (s.x.nodes (node_of s.u)).frame x ≡ v → op_twin (s.x.nodes (node_of s.u)).twin x ≡ (s.x.nodes (node_of s.u)).twin
      → Words s.h s.g s.i s.u (done s.u.lay s.ws (Put (Frame (node_of s.u) k e) v)) (W.after_event (place s) s.x (W.Op (node_of s.u)))
  frame_words {k} {e} {v} within x away held d i is m f t =
      let a : Act = Put (Frame (node_of s.u) k e) v in
      op_held s a within (node_of s.u) away x is tt held (λ j ne at z. ne (sym z.0))
      (stays s a within (Frame s.h s.g s.i) (s.h_in, s.g_in, s.i_in) (λ z. away.1 (sym (ap frame_node z))) ∙ s.match.words.master_is ∙ sym m)
      ((λ z. word s.u.lay (done s.u.lay s.ws a) (Frame (node_of s.u) (sym d z) (sym i z))) ∙ becomes s a within ∙ sym f)
      (stays s a within (Twin (node_of s.u) s.g s.i) (away.0, s.g_in, s.i_in) (λ z. absurd (cc z)) ∙ (s.match.words.each (node_of s.u) away).twin_is ∙ sym t)

  -- or in the twin
  twin_words : {k e v : ℕ} (within : IsWithin s.u.lay (Twin (node_of s.u) k e)) (x : Mode) → IsAway s.h s.u (node_of s.u) → word s.u.lay s.ws (Turn (node_of s.u) s.g) ≢ 0 → k ≡ s.g → e ≡ s.i → plain (s.x.nodes (node_of s.u)).mode ≡ x
      → op_master s.x.master x ≡ s.x.master → op_frame (s.x.nodes (node_of s.u)).frame x ≡ (s.x.nodes (node_of s.u)).frame → op_twin (s.x.nodes (node_of s.u)).twin x ≡ v
      → Words s.h s.g s.i s.u (done s.u.lay s.ws (Put (Twin (node_of s.u) k e) v)) (W.after_event (place s) s.x (W.Op (node_of s.u)))
  twin_words {k} {e} {v} within x away held d i is m f t =
      let a : Act = Put (Twin (node_of s.u) k e) v in
      op_held s a within (node_of s.u) away x is tt held (λ j ne at z. ne (sym z.0))
      (stays s a within (Frame s.h s.g s.i) (s.h_in, s.g_in, s.i_in) (λ z. absurd (cc z)) ∙ s.match.words.master_is ∙ sym m)
      (stays s a within (Frame (node_of s.u) s.g s.i) (away.0, s.g_in, s.i_in) (λ z. absurd (cc z)) ∙ (s.match.words.each (node_of s.u) away).frame_is ∙ sym f)
      ((λ z. word s.u.lay (done s.u.lay s.ws a) (Twin (node_of s.u) (sym d z) (sym i z))) ∙ becomes s a within ∙ sym t)

  module _ {r : Round} {k : ℕ} {z t : Stage} {o : Own} {a : Act} {y : ℕ} (e : ℕ) (f : Meets s (On r k z) o a y)
      (page : IsPart s (item_of a) → (k ≡ s.g) × (e ≡ s.i)) (tz : stage_turn s.u k z ≡ Some (Page (node_of s.u) k)) (tt' : stage_turn s.u k t ≡ Some (Page (node_of s.u) k))
      (away : k ≡ s.g → IsAway s.h s.u (node_of s.u)) (other : Twined (node_of s.u) s.g ≢ item_of a)
      (x x' : Mode) (at_z : e ≡ s.i → (rest : Mode) (w : Bool) → mode_view s.i rest w z ≡ x) (at_t : e ≡ s.i → (rest : Mode) (w : Bool) → mode_view s.i rest w t ≡ x') (same : e ≢ s.i → (rest : Mode) (w w' : Bool) → mode_view s.i rest w' t ≡ mode_view s.i rest w z)
      (copied : k ≡ s.g → (w : Bool) → is_copied t ≡ true → HasCopied t w (word s.u.lay s.ws (Twined (node_of s.u) s.g))) (later : is_beginning t ≡ false)
      (track : mode_track x ≡ Quiet) (enter : enters x ≡ false) (number : is_counted x ≡ false)
      (leads : k ≡ s.g → e ≡ s.i → plain (op_mode s.x.master 0 (s.x.nodes (node_of s.u)).frame (s.x.nodes (node_of s.u)).twin x) ≡ x')
      (words : k ≡ s.g → e ≡ s.i → plain (s.x.nodes (node_of s.u)).mode ≡ x → Words s.h s.g s.i s.u (done s.u.lay s.ws a) (W.after_event (place s) s.x (W.Op (node_of s.u)))) where
    -- an operation of the open block, on the word or on another one
    open_row : Acted s (On r k t) (done s.u.lay s.ws a) (λ m n. []) (map Other (E.op s.h s.g s.i s.u k e) ++ [])
    open_row = go (cases_eq k s.g) (cases_eq e s.i)
      where
        es : (m n : ℕ) → List S.Event
        es m n = []

        is : k ≡ s.g → e ≡ s.i → plain (s.x.nodes (node_of s.u)).mode ≡ x
        is d i = open_here s {z = z} f d (away d).1 tz ∙ at_z i (rest_of s.h s.g s.i s.u s.ws (node_of s.u)) (has_flushed (s.pages (Some (node_of s.u))).page.work)

        goal : (c : Bool) → ((k == s.g && not (node_of s.u == s.h)) && e == s.i) ≡ c → Acted s (On r k t) (done s.u.lay s.ws a) (λ m n. []) (map Other (E.only c (W.Op (node_of s.u))) ++ []) → Acted s (On r k t) (done s.u.lay s.ws a) (λ m n. []) (map Other (E.op s.h s.g s.i s.u k e) ++ [])
        goal c p w = rw p w

        go : (k ≡ s.g) ⊎ (k ≢ s.g) → (e ≡ s.i) ⊎ (e ≢ s.i) → Acted s (On r k t) (done s.u.lay s.ws a) (λ m n. []) (map Other (E.op s.h s.g s.i s.u k e) ++ [])
        go (inr ne) w = goal false (none (k == s.g) (node_of s.u == s.h) (e == s.i) (inl (ne_eqb k s.g ne))) (other_row s {z = z} {t = t} es f ne (λ i. (page i).0) (λ m n. tt))
        go (inl d) (inr ne) = goal false (none (k == s.g) (node_of s.u == s.h) (e == s.i) (inr (ne_eqb e s.i ne)))
            (still_row s {z = z} {t = t} es [] f (λ i. absurd (ne (page i).1)) tt (λ m n. tt) tz tt' (λ _ w w'. same ne (rest_of s.h s.g s.i s.u s.ws (node_of s.u)) w w') (λ d at w. copied d _ w) later)
        go (inl d) (inl i) = goal true (all (k == s.g) (node_of s.u == s.h) (e == s.i) (eq-eqb k s.g d) (ne_eqb (node_of s.u) s.h (away d).1) (eq-eqb e s.i i))
            (other_op s {t = t} es x (is d i) track enter (words d i (is d i)) (numbers_kept s es (count s.x (W.Op (node_of s.u)) s.c) (λ m n. tt) (op_equal s.x (node_of s.u) s.c x (is d i) number)) tt'
            (λ w. leads d i ∙ sym (at_t i (rest_of s.h s.g s.i s.u (done s.u.lay s.ws a) (node_of s.u)) w))
            (λ at w. subst (HasCopied t _) (sym (stays s a f.within (Twined (node_of s.u) s.g) (at.0, s.g_in) other)) (copied d _ w)) later)

module _ (s : Scene) (o : Own) where
  -- who fetches a copy is not at the home, and holds the turn
  copy_away : {r : Round} {k h t e y : ℕ} {write twin : Bool} {part : Part} {a : Act} → Meets s (On r k (Copying write h t twin e part)) o a y → k ≡ s.g → IsAway s.h s.u (node_of s.u)
  copy_away {write = write} f d = let at = node_at_turn s f.here d (O.Opened write) refl refl in (s.at.node_in, away_by s (λ z. let w = at.0 in absurd (omega (arith, z, w))) at.1)

  copy_held : {r : Round} {k h t e y : ℕ} {write twin : Bool} {part : Part} {a : Act} → Meets s (On r k (Copying write h t twin e part)) o a y → k ≡ s.g → word s.u.lay s.ws (Turn (node_of s.u) s.g) ≢ 0
  copy_held {write = write} f d = held_here s f.here d (O.Opened write) refl refl

  -- so for who enters exclusive use
  fill_away : {r : Round} {k h t e y : ℕ} {part : Part} {a : Act} → Meets s (On r k (Filling h t e part)) o a y → k ≡ s.g → IsAway s.h s.u (node_of s.u)
  fill_away f d = let at = node_at_turn s f.here d O.Copying refl refl in (s.at.node_in, away_by s (λ z. let w = at.0 in absurd (omega (arith, z, w))) at.3)

  -- and for who makes a twin
  make_away : {r : Round} {k e y : ℕ} {part : Part} {a : Act} → Meets s (On r k (Making e part)) o a y → k ≡ s.g → IsAway s.h s.u (node_of s.u)
  make_away f d = let at = node_at_turn s f.here d O.Making refl refl in (s.at.node_in, away_by s (λ z. let w = at.0 in absurd (omega (arith, z, w))) at.1)

  -- the home's word is stored in the frame: where no twin is up,
  pub row_copies_over : {r : Round} {k h t e v y : ℕ} {write : Bool} → RowActs s o (copies_over {r = r} {g = k} {h = h} {t = t} {i = e} {v = v} {x = y} {write = write})
  row_copies_over {r} {k} {h} {t} {e} {v} {y} {write} f =
      open_row s {z = Copying write h t false e (Got v)} {t = Copying write h t false (e + 1) Whole} e f (λ i. (i.0, i.1)) refl refl away (λ z. absurd (cc z))
      (Overwrite_write v false false) (Overwrite_end false) (λ i rest w. block_here s.i e (Overwrite_load false) (Overwrite_write v false false) (Overwrite_end false) i)
      (λ i rest w. begun e Bare (block s.i (e + 1) (Overwrite_load false) (Overwrite_load false) (Overwrite_end false)) ∙ block_behind s.i e (Overwrite_load false) (Overwrite_load false) (Overwrite_end false) i)
      (λ ne rest w w'. begun e Bare (block s.i (e + 1) (Overwrite_load false) (Overwrite_load false) (Overwrite_end false)) ∙ block_past s.i e (Overwrite_load false) (Overwrite_write v false false) (Overwrite_end false) ne)
      (λ d w _ z. absurd (cc z)) refl refl refl refl (λ d i. refl)
      (λ d i is. frame_words s f.within (Overwrite_write v false false) (away d) (copy_held {h = h} {t = t} {e = e} {write = write} {twin = false} {part = Got v} f d) d i is refl refl refl)
    where
      away : k ≡ s.g → IsAway s.h s.u (node_of s.u)
      away d = copy_away {h = h} {t = t} {e = e} {write = write} {twin = false} {part = Got v} f d

  -- and where its node enters exclusive use
  pub row_fills_own : {r : Round} {k h t e v y : ℕ} → RowActs s o (fills_own {r = r} {g = k} {h = h} {t = t} {i = e} {v = v} {x = y})
  row_fills_own {r} {k} {h} {t} {e} {v} {y} f =
      open_row s {z = Filling h t e (Got v)} {t = Filling h t (e + 1) Whole} e f (λ i. (i.0, i.1)) refl refl away (λ z. absurd (cc z))
      (Enter_write v false false) (Enter_end false) (λ i rest w. block_here s.i e (Enter_load false) (Enter_write v false false) (Enter_end false) i)
      (λ i rest w. begun e Bare (block s.i (e + 1) (Enter_load false) (Enter_load false) (Enter_end false)) ∙ block_behind s.i e (Enter_load false) (Enter_load false) (Enter_end false) i)
      (λ ne rest w w'. begun e Bare (block s.i (e + 1) (Enter_load false) (Enter_load false) (Enter_end false)) ∙ block_past s.i e (Enter_load false) (Enter_write v false false) (Enter_end false) ne)
      (λ d w z. absurd (cc z)) refl refl refl refl (λ d i. refl)
      (λ d i is. frame_words s f.within (Enter_write v false false) (away d) (held_here s f.here d O.Copying refl refl) d i is refl refl refl)
    where
      away : k ≡ s.g → IsAway s.h s.u (node_of s.u)
      away d = fill_away {h = h} {t = t} {e = e} {part = Got v} f d

  -- where a twin is up: it is compared with the twin,
  pub row_merges : {r : Round} {k h t e v y : ℕ} {write : Bool} → RowActs s o (merges {r = r} {g = k} {h = h} {t = t} {i = e} {v = v} {x = y} {write = write})
  row_merges {r} {k} {h} {t} {e} {v} {y} {write} f = go (v == y) refl
    where
      away : k ≡ s.g → IsAway s.h s.u (node_of s.u)
      away d = copy_away {h = h} {t = t} {e = e} {write = write} {twin = true} {part = Got v} f d

      is_twin : k ≡ s.g → e ≡ s.i → y ≡ (s.x.nodes (node_of s.u)).twin
      is_twin d i = f.told ∙ (λ z. word s.u.lay s.ws (Twin (node_of s.u) (d z) (i z))) ∙ (s.match.words.each (node_of s.u) (away d)).twin_is

      leads : (c : Bool) → (v == y) ≡ c → k ≡ s.g → e ≡ s.i → plain (if v == (s.x.nodes (node_of s.u)).twin then Merge_end false else Merge_write v false false) ≡ (if c then Merge_end false else Merge_write v false false)
      leads c is d i = ap (λ q. plain (if q then Merge_end false else Merge_write v false false)) (ap (λ q. v == q) (sym (is_twin d i)) ∙ is) ∙ same c
        where
          same : (c : Bool) → plain (if c then Merge_end false else Merge_write v false false) ≡ (if c then Merge_end false else Merge_write v false false)
          same true = refl
          same false = refl

      words : k ≡ s.g → e ≡ s.i → plain (s.x.nodes (node_of s.u)).mode ≡ Merge_compare v false false → Words s.h s.g s.i s.u (done s.u.lay s.ws (Get (Twin (node_of s.u) k e))) (W.after_event (place s) s.x (W.Op (node_of s.u)))
      words d i is = reads s (Twin (node_of s.u) k e) f.within (away d) (Merge_compare v false false) is (copy_held {h = h} {t = t} {e = e} {write = write} {twin = true} {part = Got v} f d) (λ j ne at z. ne (sym z.0)) refl refl refl

      go : (c : Bool) → (v == y) ≡ c → Acted s (On r k (if c then Copying write h t true (e + 1) Whole else Copying write h t true e (Differs v))) (done s.u.lay s.ws (Get (Twin (node_of s.u) k e))) (λ m n. []) (map Other (E.op s.h s.g s.i s.u k e) ++ [])
      go true c = open_row s {z = Copying write h t true e (Got v)} {t = Copying write h t true (e + 1) Whole} e f (λ i. (i.0, i.1)) refl refl away (λ z. absurd (cc z))
          (Merge_compare v false false) (Merge_end false) (λ i rest w. block_here s.i e (Merge_load false) (Merge_compare v false false) (Merge_end false) i)
          (λ i rest w. begun e Twinned (block s.i (e + 1) (Merge_load false) (Merge_load false) (Merge_end false)) ∙ block_behind s.i e (Merge_load false) (Merge_load false) (Merge_end false) i)
          (λ ne rest w w'. begun e Twinned (block s.i (e + 1) (Merge_load false) (Merge_load false) (Merge_end false)) ∙ block_past s.i e (Merge_load false) (Merge_compare v false false) (Merge_end false) ne)
          (λ d w _. f.here.knows.copied (away d) d refl) refl refl refl refl (leads true c) words
      go false c = open_row s {z = Copying write h t true e (Got v)} {t = Copying write h t true e (Differs v)} e f (λ i. (i.0, i.1)) refl refl away (λ z. absurd (cc z))
          (Merge_compare v false false) (Merge_write v false false) (λ i rest w. block_here s.i e (Merge_load false) (Merge_compare v false false) (Merge_end false) i)
          (λ i rest w. block_here s.i e (Merge_load false) (Merge_write v false false) (Merge_end false) i)
          (λ ne rest w w'. block_other s.i e (Merge_load false) (Merge_write v false false) (Merge_compare v false false) (Merge_end false) ne)
          (λ d w _. f.here.knows.copied (away d) d refl) refl refl refl refl (leads false c) words

  -- stored in the frame,
  pub row_merges_own : {r : Round} {k h t e v y : ℕ} {write : Bool} → RowActs s o (merges_own {r = r} {g = k} {h = h} {t = t} {i = e} {v = v} {x = y} {write = write})
  row_merges_own {r} {k} {h} {t} {e} {v} {y} {write} f =
      open_row s {z = Copying write h t true e (Differs v)} {t = Copying write h t true e (Half v)} e f (λ i. (i.0, i.1)) refl refl away (λ z. absurd (cc z))
      (Merge_write v false false) (Merge_refresh v false false) (λ i rest w. block_here s.i e (Merge_load false) (Merge_write v false false) (Merge_end false) i)
      (λ i rest w. block_here s.i e (Merge_load false) (Merge_refresh v false false) (Merge_end false) i)
      (λ ne rest w w'. block_other s.i e (Merge_load false) (Merge_refresh v false false) (Merge_write v false false) (Merge_end false) ne)
      (λ d w _. f.here.knows.copied (away d) d refl) refl refl refl refl (λ d i. refl)
      (λ d i is. frame_words s f.within (Merge_write v false false) (away d) (copy_held {h = h} {t = t} {e = e} {write = write} {twin = true} {part = Differs v} f d) d i is refl refl refl)
    where
      away : k ≡ s.g → IsAway s.h s.u (node_of s.u)
      away d = copy_away {h = h} {t = t} {e = e} {write = write} {twin = true} {part = Differs v} f d

  -- and in the twin
  pub row_merges_twin : {r : Round} {k h t e v y : ℕ} {write : Bool} → RowActs s o (merges_twin {r = r} {g = k} {h = h} {t = t} {i = e} {v = v} {x = y} {write = write})
  row_merges_twin {r} {k} {h} {t} {e} {v} {y} {write} f =
      open_row s {z = Copying write h t true e (Half v)} {t = Copying write h t true (e + 1) Whole} e f (λ i. (i.0, i.1)) refl refl away (λ z. absurd (cc z))
      (Merge_refresh v false false) (Merge_end false) (λ i rest w. block_here s.i e (Merge_load false) (Merge_refresh v false false) (Merge_end false) i)
      (λ i rest w. begun e Twinned (block s.i (e + 1) (Merge_load false) (Merge_load false) (Merge_end false)) ∙ block_behind s.i e (Merge_load false) (Merge_load false) (Merge_end false) i)
      (λ ne rest w w'. begun e Twinned (block s.i (e + 1) (Merge_load false) (Merge_load false) (Merge_end false)) ∙ block_past s.i e (Merge_load false) (Merge_refresh v false false) (Merge_end false) ne)
      (λ d w _. f.here.knows.copied (away d) d refl) refl refl refl refl (λ d i. refl)
      (λ d i is. twin_words s f.within (Merge_refresh v false false) (away d) (copy_held {h = h} {t = t} {e = e} {write = write} {twin = true} {part = Half v} f d) d i is refl refl refl)
    where
      away : k ≡ s.g → IsAway s.h s.u (node_of s.u)
      away d = copy_away {h = h} {t = t} {e = e} {write = write} {twin = true} {part = Half v} f d

  -- the frame's word is stored in a new twin
  pub row_makes_twin : {r : Round} {k e v y : ℕ} → RowActs s o (makes_twin {r = r} {g = k} {i = e} {v = v} {x = y})
  row_makes_twin {r} {k} {e} {v} {y} f =
      open_row s {z = Making e (Got v)} {t = Making (e + 1) Whole} e f (λ i. (i.0, i.1)) refl refl away (λ z. absurd (cc z))
      (Make_write v) Make_end (λ i rest w. block_here s.i e Make_load (Make_write v) Make_end i)
      (λ i rest w. begun e Bare (block s.i (e + 1) Make_load Make_load Make_end) ∙ block_behind s.i e Make_load Make_load Make_end i)
      (λ ne rest w w'. begun e Bare (block s.i (e + 1) Make_load Make_load Make_end) ∙ block_past s.i e Make_load (Make_write v) Make_end ne)
      (λ d w z. absurd (cc z)) refl refl refl refl (λ d i. refl)
      (λ d i is. twin_words s f.within (Make_write v) (away d) (held_here s f.here d O.Making refl refl) d i is refl refl refl)
    where
      away : k ≡ s.g → IsAway s.h s.u (node_of s.u)
      away d = make_away {e = e} {part = Got v} f d
