-- A load that begins a block of operations at its own node with the first word.
use Rattle.std.proofs.Common.{◌≡◌, ◌≢◌, ◌⊎◌, inl, inr, ℕ, ◌*◌, ◌<◌, ◌==◌, Bool, true, false, List, [], ◌∷◌, ◌++◌, Some, refl, sym, ap, ◌∙◌, subst, arith, if◌then◌else◌}
use Rattle.std.specs.Prelude.{map, nat_lt, ◌&&◌, not}
use Rattle.std.proofs.lemmas.Bool.{cases_eq, eq-eqb, ne_eqb}
use Rattle.dsm_words.specs.declared.item.Item.{Item}
use Rattle.dsm_words.specs.declared.item.Item.TheVariants.{Twined, Turn}
use Rattle.dsm_words.specs.Place.{IsWithin}
use Rattle.dsm_words.specs.Script.{Get}
use Rattle.dsm_words.specs.Words.{word, done}
use Rattle.dsm_clock.specs.declared.turns.TurnId.TheVariants.{Page}
use Rattle.dsm_protocol.specs.Own.{Own, node_of}
use Rattle.dsm_protocol.specs.Stages.{Stage, Round, On, stage_turn}
use Rattle.dsm_copies.specs.Modes.{Mode, op_mode, op_frame, op_twin, op_master, may_store}
use Rattle.dsm_copies.specs.Copies as W
use Rattle.dsm_copies.specs.Copies.{put}
use Rattle.dsm_copies.specs.Counts.{Count, count}
use Rattle.dsm_copies.specs.Premises.{Premise}
use Rattle.dsm_copies.specs.Debts.{AsksOf, debts_after}
use Rattle.dsm_fresh.specs.Pages as S
use Rattle.dsm_fresh.specs.Stages as F
use Rattle.dsm_freshness.specs.Views.{work_view, work_of}
use Rattle.dsm_debts.specs.Joining.{Move, Other, IsOther, mode_track, Quiet, enters, has_flushed}
use Rattle.dsm_twoway.specs.Views.{plain, mode_view, block}
use Rattle.dsm_twoway.specs.Events as E
use Rattle.dsm_twoway.specs.Tied.{IsAway, spot, rest_of, is_beginning, is_copied, HasCopied, Counted}
use Rattle.dsm_twoway.proofs.Numbers.{quiet_alike, counted_kept}
use Rattle.dsm_twoway.proofs.Scene.{Scene, Asked, place, pages_left, fresh_left, Acted, Here, Meets}
use Rattle.dsm_twoway.proofs.Changes.{IsPart, part_stays}
use Rattle.dsm_twoway.proofs.Frame.{by_events, numbers_kept}
use Rattle.dsm_twoway.proofs.Ops.{put_other, is_counted, op_equal}
use Rattle.dsm_twoway.proofs.Blocks.{op_asks, other_row, block_other, block_here, open_here}
use Rattle.dsm_twoway.proofs.Others.{words_left, op_behind, op_left, op_other, own_knows, other_op, still_row}

-- a block at its first word, before another word
block_first : (i e : ℕ) (b c d : Mode) → e ≡ 0 → e ≢ i → block i e b c d ≡ b
block_first i e b c d z ne = go (nat_lt e i) refl
  where
    go : (w : Bool) → nat_lt e i ≡ w → (if w then b else (if e == i then c else d)) ≡ b
    go true w = refl
    go false w = absurd (ne (grind arith))

all : (a b c d : Bool) → a ≡ true → b ≡ false → c ≡ d → ((a && not b) && c) ≡ d
all a b c d p q w = rw p (rw q w)

none : (a b c : Bool) → a ≡ false → ((a && not b) && c) ≡ false
none a b c p = rw p refl

module _ (s : Scene) where
  -- the work on its own node's copy, as a sender sees it
  pub works_here : {r : Round} {k : ℕ} {z : Stage} {o : Own} → Here s (On r k z) o → k ≡ s.g → stage_turn s.u k z ≡ Some (Page (node_of s.u) k) → IsAway s.h s.u (node_of s.u) → (m : ℕ) → m < s.u.lay.nodes → m ≢ node_of s.u → (e : ℕ) × ((s.fresh m (node_of s.u)).page.work ≡ work_view s.u.p e z)
  works_here {r} {k} {z} f d tu away m l ne =
      let w = (f.copies m (node_of s.u) l ne away).works (tu ∙ ap (λ w. Some (Page (node_of s.u) w)) d) in
      (w.0, w.1 ∙ same w.0)
    where
      same : (e : ℕ) → work_of m (node_of s.u) s.g s.u e (On r k z) ≡ work_view s.u.p e z
      same e = rw (eq-eqb k s.g d) (rw (eq-eqb (node_of s.u) (node_of s.u) refl) refl)

  -- the numbers where a fetch begins that is not open yet
  pub begin_counted : (snap : ℕ → ℕ) → ((m : ℕ) → m < s.u.lay.nodes → m ≢ node_of s.u → IsAway s.h s.u (node_of s.u) → (q e t : ℕ) (a : Bool) → (s.fresh m (node_of s.u)).page.work ≡ F.Open q a t e → ⊥) → Counted s.h s.u s.fresh (record s.c { snap = put s.c.snap (node_of s.u) snap })
  begin_counted snap shut =
      let k = s.match.counted in
      record {
        sent_is = k.sent_is;
        told_is = k.told_is;
        broken_is = k.broken_is;
        got_is = k.got_is;
        known_is = k.known_is;
        silent = k.silent;
        snap_is = λ m n q e t a l ne i d. each m n q e t a l ne i d (cases_eq n (node_of s.u));
      }
    where
      each : (m n q e t : ℕ) (a : Bool) → m < s.u.lay.nodes → m ≢ n → IsAway s.h s.u n → (s.fresh m n).page.work ≡ F.Open q a t e → (n ≡ node_of s.u) ⊎ (n ≢ node_of s.u) → put s.c.snap (node_of s.u) snap n (spot s.h s.u m) ≡ e
      each m n q e t a l ne i d (inl z) = absurd (shut m l (λ w. ne (w ∙ sym z)) (subst (IsAway s.h s.u) z i) q e t a (subst (λ j. (s.fresh m j).page.work ≡ F.Open q a t e) z d))
      each m n q e t a l ne i d (inr z) = ap (λ (g : ℕ → ℕ). g (spot s.h s.u m)) (put_other s.c.snap (node_of s.u) snap n z) ∙ s.match.counted.snap_is m n q e t a l ne i d

  module _ {r : Round} {k : ℕ} {z t : Stage} {o : Own} {y : ℕ} (e : ℕ) (it : Item) (f : Meets s (On r k z) o (Get it) y)
      (page : IsPart s it → k ≡ s.g) (tz : stage_turn s.u k z ≡ Some (Page (node_of s.u) k)) (tt' : stage_turn s.u k t ≡ Some (Page (node_of s.u) k))
      (away : k ≡ s.g → IsAway s.h s.u (node_of s.u)) (held : k ≡ s.g → word s.u.lay s.ws (Turn (node_of s.u) s.g) ≢ 0)
      (v0 l m d : Mode) (view_z : (rest : Mode) (b : Bool) → mode_view s.i rest b z ≡ (if e == 0 then v0 else block s.i e l l d)) (view_t : (rest : Mode) (b : Bool) → mode_view s.i rest b t ≡ block s.i e l m d)
      (later : e ≢ 0 → is_beginning t ≡ false) (copied : k ≡ s.g → (b : Bool) → is_copied t ≡ true → HasCopied t b (word s.u.lay s.ws (Twined (node_of s.u) s.g)))
      (leads : k ≡ s.g → e ≡ s.i → (p q w : ℕ) → p ≡ s.x.master → q ≡ (s.x.nodes (node_of s.u)).frame → plain (op_mode p 0 q w l) ≡ m)
      (m_kept : (p : ℕ) → op_master p l ≡ p) (f_kept : (p : ℕ) → op_frame p l ≡ p) (t_kept : (p : ℕ) → op_twin p l ≡ p) (track : mode_track l ≡ Quiet) (enter : enters l ≡ false) (number : is_counted l ≡ false)
      (ev : W.Event) (m1 : Mode) (m1_is : plain m1 ≡ l) (at1 : (W.after_event (place s) s.x ev).nodes (node_of s.u) ≡ record (s.x.nodes (node_of s.u)) { mode = m1 })
      (same1 : (j : ℕ) → j ≢ node_of s.u → (W.after_event (place s) s.x ev).nodes j ≡ s.x.nodes j) (master1 : (W.after_event (place s) s.x ev).master ≡ s.x.master) (home1 : (W.after_event (place s) s.x ev).home_exclusive ≡ s.x.home_exclusive)
      (may1 : k ≡ s.g → e ≡ 0 → may_store (s.x.nodes (node_of s.u)).mode ≡ true → may_store m1 ≡ true)
      (other : k ≡ s.g → e ≡ 0 → IsOther (place s) s.x ev) (asks : k ≡ s.g → e ≡ 0 → (p : Premise) → Asked p → AsksOf (place s) p s.x s.c s.d ev)
      (counted1 : k ≡ s.g → e ≡ 0 → Counted s.h s.u s.fresh (count s.x ev s.c))
      (snap1 : k ≡ s.g → e ≡ 0 → is_beginning t ≡ true → (j : ℕ) → j < s.u.lay.nodes → j ≢ node_of s.u → (count s.x ev s.c).snap (node_of s.u) (spot s.h s.u j) ≡ (s.fresh j (node_of s.u)).page.sent) where
    -- such a load: it is no operation on the word, or one that begins the block, or one of the open block, or both
    pub begin_row : Acted s (On r k t) (done s.u.lay s.ws (Get it)) (λ m n. []) (map Other (E.begins s.h s.g s.i s.u k e ev) ++ [])
    begin_row = go (cases_eq k s.g) (cases_eq e s.i) (cases_eq e 0)
      where
        ws' : List ℕ
        ws' = done s.u.lay s.ws (Get it)

        es : (m n : ℕ) → List S.Event
        es m n = []

        left : (jt : Item) → IsWithin s.u.lay jt → IsPart s jt → word s.u.lay (done s.u.lay s.ws (Get it)) jt ≡ word s.u.lay s.ws jt
        left = part_stays s (Get it) f.within (λ _. refl)

        copied' : k ≡ s.g → (b : Bool) → is_copied t ≡ true → HasCopied t b (word s.u.lay (done s.u.lay s.ws (Get it)) (Twined (node_of s.u) s.g))
        copied' g b w = subst (HasCopied t b) (sym (left (Twined (node_of s.u) s.g) ((away g).0, s.g_in) refl)) (copied g b w)

        goal : (a b : Bool) → ((k == s.g && not (node_of s.u == s.h)) && e == s.i) ≡ a → ((k == s.g && not (node_of s.u == s.h)) && e == 0) ≡ b
            → Acted s (On r k t) (done s.u.lay s.ws (Get it)) (λ m n. []) (map Other (E.only a (W.Op (node_of s.u)) ++ E.only b ev) ++ []) → Acted s (On r k t) (done s.u.lay s.ws (Get it)) (λ m n. []) (map Other (E.begins s.h s.g s.i s.u k e ev) ++ [])
        goal a b p q w = rw p (rw q w)

        is_one : k ≡ s.g → e ≢ 0 → e ≡ s.i → plain (s.x.nodes (node_of s.u)).mode ≡ l
        is_one g nz i = open_here s {z = z} f g (away g).1 tz ∙ view_z (rest_of s.h s.g s.i s.u s.ws (node_of s.u)) (has_flushed (s.pages (Some (node_of s.u))).page.work) ∙ ap (λ w. if w then v0 else block s.i e l l d) (ne_eqb e 0 nz) ∙ block_here s.i e l l d i

        is_two : plain ((W.after_event (place s) s.x ev).nodes (node_of s.u)).mode ≡ l
        is_two = ap (λ (w : W.Node). plain w.mode) at1 ∙ m1_is

        may_two : k ≡ s.g → e ≡ 0 → may_store (s.x.nodes (node_of s.u)).mode ≡ true → may_store ((W.after_event (place s) s.x ev).nodes (node_of s.u)).mode ≡ true
        may_two g nz w = ap (λ (w : W.Node). may_store w.mode) at1 ∙ may1 g nz w

        only_op : k ≡ s.g → e ≢ 0 → e ≡ s.i → Acted s (On r k t) (done s.u.lay s.ws (Get it)) (λ m n. []) (Other (W.Op (node_of s.u)) ∷ [])
        only_op g nz i = other_op s {t = t} es l (is_one g nz i) track enter
            (op_left s s.x (node_of s.u) l (is_one g nz i) ws' left (away g) (held g) (λ j ne. refl) refl refl refl refl refl (λ w. w) (m_kept s.x.master) (f_kept (s.x.nodes (node_of s.u)).frame) (t_kept (s.x.nodes (node_of s.u)).twin))
            (numbers_kept s es (count s.x (W.Op (node_of s.u)) s.c) (λ m n. tt) (op_equal s.x (node_of s.u) s.c l (is_one g nz i) number)) tt'
            (λ b. leads g i s.x.master (s.x.nodes (node_of s.u)).frame (s.x.nodes (node_of s.u)).twin refl refl ∙ sym (view_t (rest_of s.h s.g s.i s.u ws' (node_of s.u)) b ∙ block_here s.i e l m d i))
            (λ at w. copied' g _ w) (later nz)

        only_begin : k ≡ s.g → e ≡ 0 → e ≢ s.i → Acted s (On r k t) (done s.u.lay s.ws (Get it)) (λ m n. []) (Other ev ∷ [])
        only_begin g nz ne =
            by_events s {es = es} (Other ev ∷ []) (ev ∷ []) refl (other g nz, tt) (asks g nz, tt)
            (record {
              words = words_left s ws' left (node_of s.u) (away g) (held g) (W.after_event (place s) s.x ev) same1 master1 home1 (ap (λ (w : W.Node). w.frame) at1) (ap (λ (w : W.Node). w.twin) at1) (λ w. ap (λ (w : W.Node). w.fetched) at1 ∙ w) (may_two g nz);
              counted = counted1 g nz;
            })
            (own_knows s ws' (fresh_left s es) (pages_left s (Other ev ∷ [])) (W.after_event (place s) s.x ev) (count s.x ev s.c) r k t tt'
            (λ b. is_two ∙ sym (view_t (rest_of s.h s.g s.i s.u ws' (node_of s.u)) b ∙ block_first s.i e l m d nz ne)) (λ at w. copied' g _ w) (λ at w. snap1 g nz w))

        both : k ≡ s.g → e ≡ 0 → e ≡ s.i → Acted s (On r k t) (done s.u.lay s.ws (Get it)) (λ m n. []) (Other (W.Op (node_of s.u)) ∷ Other ev ∷ [])
        both g nz i =
            let n : ℕ = node_of s.u in
            let x1 : W.State = W.after_event (place s) s.x ev in
            let c1 : Count = count s.x ev s.c in
            let ms : List Move = Other (W.Op n) ∷ Other ev ∷ [] in
            let frame : (x1.nodes n).frame ≡ (s.x.nodes n).frame = ap (λ (w : W.Node). w.frame) at1 in
            by_events s {es = es} ms (W.Op n ∷ ev ∷ []) refl (op_other s x1 n l is_two track enter, (other g nz, tt)) ((λ p q. op_asks (place s) x1 c1 (debts_after (place s) s.x s.d (ev ∷ [])) n p), (asks g nz, tt))
            (record {
              words = op_left s x1 n l is_two ws' left (away g) (held g) same1 master1 home1 frame (ap (λ (w : W.Node). w.twin) at1) (ap (λ (w : W.Node). w.fetched) at1) (may_two g nz) (m_kept x1.master) (f_kept (x1.nodes n).frame) (t_kept (x1.nodes n).twin);
              counted = counted_kept s.h s.u s.fresh s.fresh c1 (count x1 (W.Op n) c1) (counted1 g nz) (λ m j. quiet_alike (j * s.u.lay.procs) (s.fresh m j) [] tt) (op_equal x1 n c1 l is_two number);
            })
            (own_knows s ws' (fresh_left s es) (pages_left s ms) (W.after_event (place s) x1 (W.Op n)) (count x1 (W.Op n) c1) r k t tt'
            (λ b. op_behind s x1 n l is_two ∙ leads g i x1.master (x1.nodes n).frame (x1.nodes n).twin master1 frame ∙ sym (view_t (rest_of s.h s.g s.i s.u ws' n) b ∙ block_here s.i e l m d i)) (λ at w. copied' g _ w) (λ at w. snap1 g nz w))

        on_page : k ≡ s.g → (w w' : Bool) → (e == s.i) ≡ w → (e == 0) ≡ w' → Acted s (On r k t) (done s.u.lay s.ws (Get it)) (λ m n. []) (map Other (E.only w (W.Op (node_of s.u)) ++ E.only w' ev) ++ []) → Acted s (On r k t) (done s.u.lay s.ws (Get it)) (λ m n. []) (map Other (E.begins s.h s.g s.i s.u k e ev) ++ [])
        on_page g w w' p q x =
            let at : (node_of s.u == s.h) ≡ false = ne_eqb (node_of s.u) s.h (away g).1 in
            goal w w' (all (k == s.g) (node_of s.u == s.h) (e == s.i) w (eq-eqb k s.g g) at p) (all (k == s.g) (node_of s.u == s.h) (e == 0) w' (eq-eqb k s.g g) at q) x

        go : (k ≡ s.g) ⊎ (k ≢ s.g) → (e ≡ s.i) ⊎ (e ≢ s.i) → (e ≡ 0) ⊎ (e ≢ 0) → Acted s (On r k t) (done s.u.lay s.ws (Get it)) (λ m n. []) (map Other (E.begins s.h s.g s.i s.u k e ev) ++ [])
        go (inr ne) p q =
            let off : (k == s.g) ≡ false = ne_eqb k s.g ne in
            goal false false (none (k == s.g) (node_of s.u == s.h) (e == s.i) off) (none (k == s.g) (node_of s.u == s.h) (e == 0) off) (other_row s {z = z} {t = t} es f ne page (λ m n. tt))
        go (inl g) (inl i) (inl nz) = on_page g true true (eq-eqb e s.i i) (eq-eqb e 0 nz) (both g nz i)
        go (inl g) (inl i) (inr nz) = on_page g true false (eq-eqb e s.i i) (ne_eqb e 0 nz) (only_op g nz i)
        go (inl g) (inr ne) (inl nz) = on_page g false true (ne_eqb e s.i ne) (eq-eqb e 0 nz) (only_begin g nz ne)
        go (inl g) (inr ne) (inr nz) = on_page g false false (ne_eqb e s.i ne) (ne_eqb e 0 nz)
            (still_row s {z = z} {t = t} es [] f (λ _. refl) tt (λ m n. tt) tz tt'
            (λ _ b b'. view_t (rest_of s.h s.g s.i s.u s.ws (node_of s.u)) b' ∙ block_other s.i e l m l d ne ∙ sym (view_z (rest_of s.h s.g s.i s.u s.ws (node_of s.u)) b ∙ ap (λ w. if w then v0 else block s.i e l l d) (ne_eqb e 0 nz)))
            (λ g at w. copied g _ w) (later nz))
