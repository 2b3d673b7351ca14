-- Operations of a fetch and of the making of a twin: what they leave, and what is known behind them.
use Rattle.std.proofs.Common.{◌≡◌, ◌≢◌, ◌⊎◌, inl, inr, ℕ, ◌<◌, ◌≤◌, ◌==◌, Bool, true, false, List, [], ◌∷◌, Option, Some, refl, sym, ap, ◌∙◌, subst, arith}
use Rattle.std.proofs.lemmas.Bool.{cases_eq}
use Rattle.dsm_words.specs.declared.item.Item.{Item}
use Rattle.dsm_words.specs.declared.item.Item.TheVariants.{Frame, Twin, Twined, Dir, Update, Turn}
use Rattle.dsm_words.specs.Place.{IsWithin}
use Rattle.dsm_words.specs.Script.{Act, item_of}
use Rattle.dsm_words.specs.Words.{word, done, left_in}
use Rattle.dsm_clock.specs.declared.turns.TurnId.TheVariants.{Page}
use Rattle.dsm_protocol.specs.Own.{Own, node_of}
use Rattle.dsm_protocol.specs.Stages.{Stage, Round, On, stage_turn}
use Rattle.dsm_copies.specs.Modes.{Mode, Bare, op_mode, op_frame, op_twin, op_master, op_fetched, may_store}
use Rattle.dsm_copies.specs.Copies as W
use Rattle.dsm_copies.specs.Copies.{op_node}
use Rattle.dsm_copies.specs.Counts.{Count, count}
use Rattle.dsm_fresh.specs.Pages as S
use Rattle.dsm_debts.specs.Page as P
use Rattle.dsm_debts.specs.Joining.{Move, Other, IsOther, has_flushed, mode_track, Quiet, enters}
use Rattle.dsm_twoway.specs.Views.{plain, resting, mode_view}
use Rattle.dsm_twoway.specs.Tied.{IsAway, spot, rest_of, is_beginning, is_copied, HasCopied, Copy, Words, Counted, Knows}
use Rattle.dsm_twoway.proofs.Modes.{op_plain, frame_plain, twin_plain, master_plain, op_may, op_keeps_fetched, track_plain, enters_plain}
use Rattle.dsm_twoway.proofs.Numbers.{AllQuiet}
use Rattle.dsm_twoway.proofs.Scene.{Scene, place, pages_left, fresh_left, Acted, Meets}
use Rattle.dsm_twoway.proofs.Changes.{IsPart, words_stay, part_stays, rest_stays}
use Rattle.dsm_twoway.proofs.Frame.{AllSilent, by_events, by_none, numbers_stay}
use Rattle.dsm_twoway.proofs.Ops.{put_same, put_other}
use Rattle.dsm_twoway.proofs.Blocks.{op_asks, turn_node}

module _ (s : Scene) where
  -- all words of the copies are there as before
  abbrev pub Same : List ℕ → Type 0
  Same ws' = (it : Item) → IsWithin s.u.lay it → IsPart s it → word s.u.lay ws' it ≡ word s.u.lay s.ws it

  -- the copies' words, where they stay and what is open at one node changes, whose turn is held
  pub words_left : (ws' : List ℕ) → Same ws' → (n : ℕ) → IsAway s.h s.u n → word s.u.lay s.ws (Turn n s.g) ≢ 0 → (x' : W.State) → ((k : ℕ) → k ≢ n → x'.nodes k ≡ s.x.nodes k) → x'.master ≡ s.x.master → x'.home_exclusive ≡ s.x.home_exclusive
      → (x'.nodes n).frame ≡ (s.x.nodes n).frame → (x'.nodes n).twin ≡ (s.x.nodes n).twin → ((s.x.nodes n).fetched ≡ true → (x'.nodes n).fetched ≡ true) → (may_store (s.x.nodes n).mode ≡ true → may_store (x'.nodes n).mode ≡ true)
      → Words s.h s.g s.i s.u ws' x'
  words_left ws' left n at held x' same master home frame twin fetched may =
      record {
        master_is = left (Frame s.h s.g s.i) (s.h_in, s.g_in, s.i_in) (refl, refl) ∙ s.match.words.master_is ∙ sym master;
        home_is = ap (λ z. z == 2) (left (Dir s.h s.g) (s.h_in, s.g_in) refl) ∙ s.match.words.home_is ∙ sym home;
        each = λ k away. each k away (cases_eq k n);
        none = λ k out. none k out (cases_eq k n);
      }
    where
      either : {p p' q q' : ℕ} → p ≡ p' → q ≡ q' → (p' ≡ 1) ⊎ (q' ≡ 2) → (p ≡ 1) ⊎ (q ≡ 2)
      either e f (inl z) = inl (e ∙ z)
      either e f (inr z) = inr (f ∙ z)

      mine : Copy s.h s.g s.i s.u ws' n (x'.nodes n)
      mine =
          let c = s.match.words.each n at in
          let d = left (Dir n s.g) (at.0, s.g_in) refl in
          let t = left (Twined n s.g) (at.0, s.g_in) refl in
          record {
            frame_is = left (Frame n s.g s.i) (at.0, s.g_in, s.i_in) (refl, refl) ∙ c.frame_is ∙ sym frame;
            twin_is = left (Twin n s.g s.i) (at.0, s.g_in, s.i_in) (refl, refl) ∙ c.twin_is ∙ sym twin;
            fetched_is = λ ne. fetched (c.fetched_is (λ z. ne (left (Update n s.g) (at.0, s.g_in) refl ∙ z)));
            rest_is = λ z. absurd (held (sym (left (Turn n s.g) (at.0, s.g_in) refl) ∙ z));
            rights = λ z. may (c.rights (either (sym t) (sym d) z));
          }

      other : (k : ℕ) → IsAway s.h s.u k → Copy s.h s.g s.i s.u ws' k (s.x.nodes k)
      other k away =
          let c = s.match.words.each k away in
          let d = left (Dir k s.g) (away.0, s.g_in) refl in
          let t = left (Twined k s.g) (away.0, s.g_in) refl in
          record {
            frame_is = left (Frame k s.g s.i) (away.0, s.g_in, s.i_in) (refl, refl) ∙ c.frame_is;
            twin_is = left (Twin k s.g s.i) (away.0, s.g_in, s.i_in) (refl, refl) ∙ c.twin_is;
            fetched_is = λ ne. c.fetched_is (λ z. ne (left (Update k s.g) (away.0, s.g_in) refl ∙ z));
            rest_is = λ z. c.rest_is (sym (left (Turn k s.g) (away.0, s.g_in) refl) ∙ z) ∙ sym (λ z. resting (d z) (t z));
            rights = λ z. c.rights (either (sym t) (sym d) z);
          }

      each : (k : ℕ) → IsAway s.h s.u k → (k ≡ n) ⊎ (k ≢ n) → Copy s.h s.g s.i s.u ws' k (x'.nodes k)
      each k away (inl e) = subst (λ z. Copy s.h s.g s.i s.u ws' z (x'.nodes z)) (sym e) mine
      each k away (inr ne) = subst (Copy s.h s.g s.i s.u ws' k) (sym (same k ne)) (other k away)

      none : (k : ℕ) → (k ≡ s.h) ⊎ (s.u.lay.nodes ≤ k) → (k ≡ n) ⊎ (k ≢ n) → (x'.nodes k).mode ≡ Bare
      none k (inl d) (inl e) = absurd (at.1 (sym e ∙ d))
      none k (inr l) (inl e) = let i = at.0 in absurd (omega (arith, e, l, i))
      none k out (inr ne) = ap (λ (z : W.Node). z.mode) (same k ne) ∙ s.match.words.none k out

  -- What an operation at node n leaves, where what is open there in the state y is v, and only that was changed in it.
  module _ (y : W.State) (n : ℕ) (v : Mode) (is : plain (y.nodes n).mode ≡ v) where
    pub op_behind : plain ((W.after_event (place s) y (W.Op n)).nodes n).mode ≡ plain (op_mode y.master 0 (y.nodes n).frame (y.nodes n).twin v)
    op_behind = ap (λ (z : W.Node). plain z.mode) (put_same y.nodes n (op_node y.master y.progress (y.nodes n))) ∙ op_plain y.master y.progress (y.nodes n).frame (y.nodes n).twin (y.nodes n).mode ∙ ap (λ z. plain (op_mode y.master 0 (y.nodes n).frame (y.nodes n).twin z)) is

    pub op_left : (ws' : List ℕ) → Same ws' → IsAway s.h s.u n → word s.u.lay s.ws (Turn n s.g) ≢ 0 → ((k : ℕ) → k ≢ n → y.nodes k ≡ s.x.nodes k) → y.master ≡ s.x.master → y.home_exclusive ≡ s.x.home_exclusive
        → (y.nodes n).frame ≡ (s.x.nodes n).frame → (y.nodes n).twin ≡ (s.x.nodes n).twin → (y.nodes n).fetched ≡ (s.x.nodes n).fetched → (may_store (s.x.nodes n).mode ≡ true → may_store (y.nodes n).mode ≡ true)
        → op_master y.master v ≡ y.master → op_frame (y.nodes n).frame v ≡ (y.nodes n).frame → op_twin (y.nodes n).twin v ≡ (y.nodes n).twin
        → Words s.h s.g s.i s.u ws' (W.after_event (place s) y (W.Op n))
    op_left ws' left at held same master home frame twin fetched may m_kept f_kept t_kept =
        let e = put_same y.nodes n (op_node y.master y.progress (y.nodes n)) in
        words_left ws' left n at held (W.after_event (place s) y (W.Op n))
        (λ k ne. put_other y.nodes n (op_node y.master y.progress (y.nodes n)) k ne ∙ same k ne)
        (master_plain y.master (y.nodes n).mode ∙ ap (op_master y.master) is ∙ m_kept ∙ master) home
        (ap (λ (z : W.Node). z.frame) e ∙ frame_plain (y.nodes n).frame (y.nodes n).mode ∙ ap (op_frame (y.nodes n).frame) is ∙ f_kept ∙ frame)
        (ap (λ (z : W.Node). z.twin) e ∙ twin_plain (y.nodes n).twin (y.nodes n).mode ∙ ap (op_twin (y.nodes n).twin) is ∙ t_kept ∙ twin)
        (λ z. ap (λ (w : W.Node). w.fetched) e ∙ op_keeps_fetched (y.nodes n).fetched (y.nodes n).mode (fetched ∙ z))
        (λ z. ap (λ (w : W.Node). may_store w.mode) e ∙ op_may y.master y.progress (y.nodes n).frame (y.nodes n).twin (y.nodes n).mode (may z))

    -- it is one of a fetch
    pub op_other : mode_track v ≡ Quiet → enters v ≡ false → IsOther (place s) y (W.Op n)
    op_other track enter = (enters_plain (y.nodes n).mode ∙ ap enters is ∙ enter, track_plain (y.nodes n).mode ∙ ap mode_track is ∙ track)

  -- what is known of who holds the turn of its own node's copy
  pub own_knows : (ws' : List ℕ) (fresh' : (m n : ℕ) → S.State) (pages' : Option ℕ → P.State) (x' : W.State) (c' : Count) (r : Round) (k : ℕ) (t : Stage) → stage_turn s.u k t ≡ Some (Page (node_of s.u) k)
      → ((d : Bool) → plain (x'.nodes (node_of s.u)).mode ≡ mode_view s.i (rest_of s.h s.g s.i s.u ws' (node_of s.u)) d t)
      → (IsAway s.h s.u (node_of s.u) → is_copied t ≡ true → HasCopied t (x'.nodes (node_of s.u)).fetched (word s.u.lay ws' (Twined (node_of s.u) s.g)))
      → (IsAway s.h s.u (node_of s.u) → is_beginning t ≡ true → (m : ℕ) → m < s.u.lay.nodes → m ≢ node_of s.u → c'.snap (node_of s.u) (spot s.h s.u m) ≡ (fresh' m (node_of s.u)).page.sent)
      → Knows s.h s.g s.i s.u ws' fresh' pages' x' c' (On r k t)
  own_knows ws' fresh' pages' x' c' r k t tu mode copied beginning =
      record {
        mode = λ j at tu' d. let same : node_of s.u ≡ j = ap turn_node (sym tu ∙ tu') in
            subst (λ q. plain (x'.nodes q).mode ≡ mode_view s.i (rest_of s.h s.g s.i s.u ws' q) (has_flushed (pages' (Some q)).page.work) t) same (mode (has_flushed (pages' (Some (node_of s.u))).page.work));
        copied = λ away d. copied away;
        beginning = λ away d. beginning away;
      }

  -- an operation on the word that is no move at its place
  pub other_op : {r : Round} {k : ℕ} {t : Stage} {ws' : List ℕ} (es : (m n : ℕ) → List S.Event) (v : Mode) → plain (s.x.nodes (node_of s.u)).mode ≡ v → mode_track v ≡ Quiet → enters v ≡ false
      → Words s.h s.g s.i s.u ws' (W.after_event (place s) s.x (W.Op (node_of s.u))) → Counted s.h s.u (fresh_left s es) (count s.x (W.Op (node_of s.u)) s.c)
      → stage_turn s.u k t ≡ Some (Page (node_of s.u) k) → ((d : Bool) → plain (op_mode s.x.master 0 (s.x.nodes (node_of s.u)).frame (s.x.nodes (node_of s.u)).twin v) ≡ mode_view s.i (rest_of s.h s.g s.i s.u ws' (node_of s.u)) d t)
      → (IsAway s.h s.u (node_of s.u) → is_copied t ≡ true → HasCopied t (op_fetched (s.x.nodes (node_of s.u)).fetched (s.x.nodes (node_of s.u)).mode) (word s.u.lay ws' (Twined (node_of s.u) s.g))) → is_beginning t ≡ false
      → Acted s (On r k t) ws' es (Other (W.Op (node_of s.u)) ∷ [])
  other_op {r} {k} {t} {ws'} es v is track enter words counted tu next copied beginning =
      let n : ℕ = node_of s.u in
      let ms : List Move = Other (W.Op n) ∷ [] in
      by_events s {es = es} ms (W.Op n ∷ []) refl (op_other s.x n v is track enter, tt) ((λ r' i. op_asks (place s) s.x s.c s.d n r'), tt)
      (record { words = words; counted = counted })
      (own_knows ws' (fresh_left s es) (pages_left s ms) (W.after_event (place s) s.x (W.Op n)) (count s.x (W.Op n) s.c) r k t tu
      (λ d. op_behind s.x n v is ∙ next d)
      (λ away z. subst (λ (w : W.Node). HasCopied t w.fetched (word s.u.lay ws' (Twined n s.g))) (sym (put_same s.x.nodes n (op_node s.x.master s.x.progress (s.x.nodes n)))) (copied away z))
      (λ away z. absurd (cc (sym beginning ∙ z))))

  -- a row at the own node's copy that changes no word of the copies, with nothing to them
  pub still_row : {r : Round} {k : ℕ} {z t : Stage} {o : Own} {a : Act} {y : ℕ} (es : (m n : ℕ) → List S.Event) (ms : List Move) → Meets s (On r k z) o a y → (IsPart s (item_of a) → left_in a (word s.u.lay s.ws (item_of a)) ≡ word s.u.lay s.ws (item_of a)) → AllSilent ms → ((m n : ℕ) → AllQuiet (es m n))
      → stage_turn s.u k z ≡ Some (Page (node_of s.u) k) → stage_turn s.u k t ≡ Some (Page (node_of s.u) k)
      → (k ≡ s.g → (d d' : Bool) → mode_view s.i (rest_of s.h s.g s.i s.u s.ws (node_of s.u)) d' t ≡ mode_view s.i (rest_of s.h s.g s.i s.u s.ws (node_of s.u)) d z)
      → (k ≡ s.g → IsAway s.h s.u (node_of s.u) → is_copied t ≡ true → HasCopied t (s.x.nodes (node_of s.u)).fetched (word s.u.lay s.ws (Twined (node_of s.u) s.g)))
      → is_beginning t ≡ false → Acted s (On r k t) (done s.u.lay s.ws a) es ms
  still_row {r} {k} {z} {t} {o} {a} {y} es ms f part silent quiet tz tt' same copied beginning =
      by_none s {es = es} ms silent (record { words = words_stay s a f.within left; counted = numbers_stay s es quiet })
      (record {
        mode = λ j at tu' d. let e : node_of s.u ≡ j = ap turn_node (sym tt' ∙ tu') in
            subst (λ q. plain (s.x.nodes q).mode ≡ mode_view s.i (rest_of s.h s.g s.i s.u (done s.u.lay s.ws a) q) (has_flushed (pages_left s ms (Some q)).page.work) t) e (mine d (subst (IsAway s.h s.u) (sym e) at));
        copied = λ away d w. subst (HasCopied t (s.x.nodes (node_of s.u)).fetched) (sym (left (Twined (node_of s.u) s.g) (away.0, s.g_in) refl)) (copied d away w);
        beginning = λ away d w. absurd (cc (sym beginning ∙ w));
      })
    where
      left : (it : Item) → IsWithin s.u.lay it → IsPart s it → word s.u.lay (done s.u.lay s.ws a) it ≡ word s.u.lay s.ws it
      left = part_stays s a f.within part

      mine : k ≡ s.g → IsAway s.h s.u (node_of s.u) → plain (s.x.nodes (node_of s.u)).mode ≡ mode_view s.i (rest_of s.h s.g s.i s.u (done s.u.lay s.ws a) (node_of s.u)) (has_flushed (pages_left s ms (Some (node_of s.u))).page.work) t
      mine d away =
          let n : ℕ = node_of s.u in
          let b : Bool = has_flushed (pages_left s ms (Some n)).page.work in
          f.here.knows.mode n away (tz ∙ ap (λ w. Some (Page n w)) d) d ∙ sym (same d (has_flushed (s.pages (Some n)).page.work) b)
          ∙ ap (λ w. mode_view s.i w b t) (sym (rest_stays s a f.within n (left (Dir n s.g) (away.0, s.g_in) refl) (left (Twined n s.g) (away.0, s.g_in) refl)))
