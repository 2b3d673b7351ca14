-- Rows of a release that end a send, and notes and decisions that tell it.
use Rattle.std.proofs.Common.{◌≡◌, ◌≢◌, ◌⊎◌, inl, inr, ℕ, suc, ◌*◌, ◌≤◌, ◌==◌, Bool, true, false, List, [], ◌∷◌, Option, None, Some, refl, sym, ap, ◌∙◌, subst, arith, if◌then◌else◌}
use Rattle.std.specs.Prelude.{map, ◌&&◌, ◌||◌}
use Rattle.std.proofs.lemmas.Bool.{cases_eq, eq-eqb, ne_eqb, eqb-true}
use Rattle.dsm_words.specs.declared.item.Item.TheVariants.{Dir, Turn, Flush}
use Rattle.dsm_words.specs.Script.{Put}
use Rattle.dsm_words.specs.Words.{word, done}
use Rattle.dsm_clock.specs.declared.turns.TurnId.TheVariants.{Page}
use Rattle.dsm_protocol.specs.Own.{Own, node_of}
use Rattle.dsm_protocol.specs.Stages.{Stamping, Stamped, Posted, Lowering, Round, On}
use Rattle.dsm_protocol.specs.Rows.{stamps_flush, untold, told}
use Rattle.dsm_copies.specs.Modes.{covered, ended, Mode, Flush_end, Flush_tell, Flush_over, op_mode, op_frame, op_twin, op_master}
use Rattle.dsm_copies.specs.Copies as W
use Rattle.dsm_copies.specs.Copies.{put}
use Rattle.dsm_copies.specs.Counts.{Count, count, op_sent, op_told, op_last_break, op_got}
use Rattle.dsm_copies.specs.Premises.{Premise, Values, Home_sends}
use Rattle.dsm_copies.specs.Debts.{Debts, AsksOf}
use Rattle.dsm_copies.specs.Joining.{onto}
use Rattle.dsm_owners.specs.Stages as O
use Rattle.dsm_fresh.specs.Pages as S
use Rattle.dsm_debts.specs.Page as P
use Rattle.dsm_debts.specs.Joining.{Move, At, word_event}
use Rattle.dsm_releases.specs.Events as R
use Rattle.dsm_freshness.specs.Events as FE
use Rattle.dsm_twoway.specs.Views.{plain}
use Rattle.dsm_twoway.specs.Events.{place_of}
use Rattle.dsm_twoway.specs.Tied.{IsAway, spot, Copy, Words, Counted}
use Rattle.dsm_twoway.proofs.Modes.{op_plain, frame_plain, twin_plain, master_plain, sent_plain, told_plain, broken_plain, got_plain, op_may, op_keeps_fetched}
use Rattle.dsm_twoway.proofs.Numbers.{Alike, alike}
use Rattle.dsm_twoway.proofs.Scene.{Scene, place, fresh_left, pages_left, RowActs, SlipActs, NoteActs, Acted, Meets, Here}
use Rattle.dsm_twoway.proofs.Changes.{words_stay, part_stays}
use Rattle.dsm_twoway.proofs.Frame.{by_events, on_knows}
use Rattle.dsm_twoway.proofs.Ops.{put_same, put_other, put_what, op_held}
use Rattle.dsm_twoway.proofs.Blocks.{turn_node, place_away, place_home, op_asks, at_turn, stage_is, home_found, twin_away, open_here, turn_held, own_op, other_row, pick_move}
use Rattle.dsm_twoway.proofs.Accesses.{spot_home, spot_away}
use Rattle.dsm_twoway.proofs.Calm.{calm_row, calm_here, calm_none, works_here, home_same, turn_here}
use Rattle.dsm_twoway.proofs.SendNumbers.{Near, Beside, beside_send, beside_tell, counted_send}

-- of the end of the home's send nothing is asked but that it is not exclusive, and of its telling nothing
home_sent_asks : (place : ℕ → Option ℕ) (x : W.State) (c : Count) (d : Debts) → x.home_exclusive ≡ false → (r : Premise) → AsksOf place r x c d W.Home_sent
home_sent_asks place x c d e Home_sends = e
home_sent_asks place x c d e r = tt

home_told_asks : (place : ℕ → Option ℕ) (x : W.State) (c : Count) (d : Debts) (r : Premise) → AsksOf place r x c d W.Home_told
home_told_asks place x c d Values = tt
home_told_asks place x c d r = tt

-- the numbers behind the end of a flush, and behind its telling
near_end : (x : W.State) (c : Count) (n : ℕ) → plain (x.nodes n).mode ≡ Flush_end → Near (suc n) c (count x (W.Op n) c)
near_end x c n e =
    let m : Mode = (x.nodes n).mode in
    record {
      sent_is = λ j ne. put_other c.sent (suc n) (op_sent (c.sent (suc n)) m) j ne;
      told_is = λ j ne. put_other c.told (suc n) (op_told (c.sent (suc n)) (c.told (suc n)) m) j ne;
      broken_is = put_what c.broken (suc n) (op_last_break (c.sent (suc n)) (c.broken (suc n)) m) (broken_plain (c.sent (suc n)) (c.broken (suc n)) m ∙ ap (op_last_break (c.sent (suc n)) (c.broken (suc n))) e);
      got_is = λ k j. ap (λ (z : ℕ → ℕ). z j) (put_what c.got n (λ l. op_got (c.snap n l) (c.got n l) m) (λ z l. (got_plain (c.snap n l) (c.got n l) m ∙ ap (op_got (c.snap n l) (c.got n l)) e) z) k);
      snap_is = λ k j. refl;
      known_is = λ q k. refl;
    }

near_tell : (x : W.State) (c : Count) (n : ℕ) → plain (x.nodes n).mode ≡ Flush_tell → Near (suc n) c (count x (W.Op n) c)
near_tell x c n e =
    let m : Mode = (x.nodes n).mode in
    record {
      sent_is = λ j ne. put_other c.sent (suc n) (op_sent (c.sent (suc n)) m) j ne;
      told_is = λ j ne. put_other c.told (suc n) (op_told (c.sent (suc n)) (c.told (suc n)) m) j ne;
      broken_is = put_what c.broken (suc n) (op_last_break (c.sent (suc n)) (c.broken (suc n)) m) (broken_plain (c.sent (suc n)) (c.broken (suc n)) m ∙ ap (op_last_break (c.sent (suc n)) (c.broken (suc n))) e);
      got_is = λ k j. ap (λ (z : ℕ → ℕ). z j) (put_what c.got n (λ l. op_got (c.snap n l) (c.got n l) m) (λ z l. (got_plain (c.snap n l) (c.got n l) m ∙ ap (op_got (c.snap n l) (c.got n l)) e) z) k);
      snap_is = λ k j. refl;
      known_is = λ q k. refl;
    }

-- and at the home
near_home : (c c' : Count) (a b : ℕ) → c' ≡ record c { sent = put c.sent 0 a; told = put c.told 0 b; broken = put c.broken 0 (c.broken 0) } → Near 0 c c'
near_home c c' a b e = subst (Near 0 c) (sym e)
    (record {
      sent_is = λ j ne. put_other c.sent 0 a j ne;
      told_is = λ j ne. put_other c.told 0 b j ne;
      broken_is = put_what c.broken 0 (c.broken 0) refl;
      got_is = λ n j. refl;
      snap_is = λ n j. refl;
      known_is = λ q j. refl;
    })

module _ (s : Scene) where
  -- the events of the copies where a send of the own node has ended, and where it is told
  abbrev sends : (m k : ℕ) → List S.Event
  sends m k = FE.only (node_of s.u == m) S.Send

  abbrev tells : (m k : ℕ) → List S.Event
  tells m k = FE.only (node_of s.u == m) S.Tell

  others : (e : S.Event) (m k : ℕ) → m ≢ node_of s.u → Alike (s.fresh m k) (fresh_left s (λ m k. FE.only (node_of s.u == m) e) m k)
  others e m k ne = rw (ne_eqb (node_of s.u) m (λ d. ne (sym d))) (alike (s.fresh m k))

  mine : (e : S.Event) (k : ℕ) → fresh_left s (λ m k. FE.only (node_of s.u == m) e) (node_of s.u) k ≡ S.happens (k * s.u.lay.procs) (s.fresh (node_of s.u) k) e
  mine e k = rw (eq-eqb (node_of s.u) (node_of s.u) refl) refl

  -- the numbers of the own node's sends, where those that the copies have are these
  sent_counted : (c' : Count) → Near (spot s.h s.u (node_of s.u)) s.c c' → c'.sent (spot s.h s.u (node_of s.u)) ≡ suc (s.c.sent (spot s.h s.u (node_of s.u))) → c'.told (spot s.h s.u (node_of s.u)) ≡ s.c.told (spot s.h s.u (node_of s.u)) → Counted s.h s.u (fresh_left s sends) c'
  sent_counted c' near a b =
      counted_send s.h s.u s.fresh (fresh_left s sends) s.c c' s.match.counted (node_of s.u) s.at.node_in (others S.Send)
      (λ k. subst (Beside (s.fresh (node_of s.u) k)) (sym (mine S.Send k)) (beside_send (k * s.u.lay.procs) (s.fresh (node_of s.u) k))) near
      (λ k ne i. (a ∙ ap suc (s.match.counted.sent_is (node_of s.u) k s.at.node_in ne i) ∙ sym (ap (λ (z : S.State). z.page.sent) (mine S.Send k)), b ∙ s.match.counted.told_is (node_of s.u) k s.at.node_in ne i ∙ sym (ap (λ (z : S.State). z.page.told) (mine S.Send k))))

  told_counted : (c' : Count) → Near (spot s.h s.u (node_of s.u)) s.c c' → c'.sent (spot s.h s.u (node_of s.u)) ≡ s.c.sent (spot s.h s.u (node_of s.u)) → c'.told (spot s.h s.u (node_of s.u)) ≡ s.c.sent (spot s.h s.u (node_of s.u)) → Counted s.h s.u (fresh_left s tells) c'
  told_counted c' near a b =
      counted_send s.h s.u s.fresh (fresh_left s tells) s.c c' s.match.counted (node_of s.u) s.at.node_in (others S.Tell)
      (λ k. subst (Beside (s.fresh (node_of s.u) k)) (sym (mine S.Tell k)) (beside_tell (k * s.u.lay.procs) (s.fresh (node_of s.u) k))) near
      (λ k ne i. (a ∙ s.match.counted.sent_is (node_of s.u) k s.at.node_in ne i ∙ sym (ap (λ (z : S.State). z.page.sent) (mine S.Tell k)), b ∙ s.match.counted.sent_is (node_of s.u) k s.at.node_in ne i ∙ sym (ap (λ (z : S.State). z.page.told) (mine S.Tell k))))

  -- so behind the end of a flush, behind its telling, and behind those at the home
  end_counted : node_of s.u ≢ s.h → plain (s.x.nodes (node_of s.u)).mode ≡ Flush_end → Counted s.h s.u (fresh_left s sends) (count s.x (W.Op (node_of s.u)) s.c)
  end_counted off e = go (spot s.h s.u (node_of s.u)) (spot_away s (node_of s.u) off) refl
    where
      go : (k : ℕ) → k ≡ suc (node_of s.u) → k ≡ spot s.h s.u (node_of s.u) → Counted s.h s.u (fresh_left s sends) (count s.x (W.Op (node_of s.u)) s.c)
      go k is at = sent_counted (count s.x (W.Op (node_of s.u)) s.c)
          (subst (λ z. Near z s.c (count s.x (W.Op (node_of s.u)) s.c)) (sym is ∙ at) (near_end s.x s.c (node_of s.u) e))
          (subst (λ z. (count s.x (W.Op (node_of s.u)) s.c).sent z ≡ suc (s.c.sent z)) (sym is ∙ at) (put_same s.c.sent (suc (node_of s.u)) (op_sent (s.c.sent (suc (node_of s.u))) (s.x.nodes (node_of s.u)).mode) ∙ sent_plain (s.c.sent (suc (node_of s.u))) (s.x.nodes (node_of s.u)).mode ∙ ap (op_sent (s.c.sent (suc (node_of s.u)))) e))
          (subst (λ z. (count s.x (W.Op (node_of s.u)) s.c).told z ≡ s.c.told z) (sym is ∙ at) (put_same s.c.told (suc (node_of s.u)) (op_told (s.c.sent (suc (node_of s.u))) (s.c.told (suc (node_of s.u))) (s.x.nodes (node_of s.u)).mode) ∙ told_plain (s.c.sent (suc (node_of s.u))) (s.c.told (suc (node_of s.u))) (s.x.nodes (node_of s.u)).mode ∙ ap (op_told (s.c.sent (suc (node_of s.u))) (s.c.told (suc (node_of s.u)))) e))

  tell_counted : node_of s.u ≢ s.h → plain (s.x.nodes (node_of s.u)).mode ≡ Flush_tell → Counted s.h s.u (fresh_left s tells) (count s.x (W.Op (node_of s.u)) s.c)
  tell_counted off e = go (spot s.h s.u (node_of s.u)) (spot_away s (node_of s.u) off) refl
    where
      go : (k : ℕ) → k ≡ suc (node_of s.u) → k ≡ spot s.h s.u (node_of s.u) → Counted s.h s.u (fresh_left s tells) (count s.x (W.Op (node_of s.u)) s.c)
      go k is at = told_counted (count s.x (W.Op (node_of s.u)) s.c)
          (subst (λ z. Near z s.c (count s.x (W.Op (node_of s.u)) s.c)) (sym is ∙ at) (near_tell s.x s.c (node_of s.u) e))
          (subst (λ z. (count s.x (W.Op (node_of s.u)) s.c).sent z ≡ s.c.sent z) (sym is ∙ at) (put_same s.c.sent (suc (node_of s.u)) (op_sent (s.c.sent (suc (node_of s.u))) (s.x.nodes (node_of s.u)).mode) ∙ sent_plain (s.c.sent (suc (node_of s.u))) (s.x.nodes (node_of s.u)).mode ∙ ap (op_sent (s.c.sent (suc (node_of s.u)))) e))
          (subst (λ z. (count s.x (W.Op (node_of s.u)) s.c).told z ≡ s.c.sent z) (sym is ∙ at) (put_same s.c.told (suc (node_of s.u)) (op_told (s.c.sent (suc (node_of s.u))) (s.c.told (suc (node_of s.u))) (s.x.nodes (node_of s.u)).mode) ∙ told_plain (s.c.sent (suc (node_of s.u))) (s.c.told (suc (node_of s.u))) (s.x.nodes (node_of s.u)).mode ∙ ap (op_told (s.c.sent (suc (node_of s.u))) (s.c.told (suc (node_of s.u)))) e))

  home_sent_counted : node_of s.u ≡ s.h → Counted s.h s.u (fresh_left s sends) (count s.x W.Home_sent s.c)
  home_sent_counted e = sent_counted (count s.x W.Home_sent s.c)
      (subst (λ z. Near z s.c (count s.x W.Home_sent s.c)) (sym (spot_home s (node_of s.u) e)) (near_home s.c (count s.x W.Home_sent s.c) (suc (s.c.sent 0)) (s.c.told 0) refl))
      (subst (λ z. (count s.x W.Home_sent s.c).sent z ≡ suc (s.c.sent z)) (sym (spot_home s (node_of s.u) e)) (put_same s.c.sent 0 (suc (s.c.sent 0))))
      (subst (λ z. (count s.x W.Home_sent s.c).told z ≡ s.c.told z) (sym (spot_home s (node_of s.u) e)) (put_same s.c.told 0 (s.c.told 0)))

  home_told_counted : node_of s.u ≡ s.h → Counted s.h s.u (fresh_left s tells) (count s.x W.Home_told s.c)
  home_told_counted e = told_counted (count s.x W.Home_told s.c)
      (subst (λ z. Near z s.c (count s.x W.Home_told s.c)) (sym (spot_home s (node_of s.u) e)) (near_home s.c (count s.x W.Home_told s.c) (s.c.sent 0) (s.c.sent 0) refl))
      (subst (λ z. (count s.x W.Home_told s.c).sent z ≡ s.c.sent z) (sym (spot_home s (node_of s.u) e)) (put_same s.c.sent 0 (s.c.sent 0)))
      (subst (λ z. (count s.x W.Home_told s.c).told z ≡ s.c.sent z) (sym (spot_home s (node_of s.u) e)) (put_same s.c.told 0 (s.c.sent 0)))

  -- how far the last store has come is in no word
  same_words : {ws' : List ℕ} (a : ℕ) → Words s.h s.g s.i s.u ws' s.x → Words s.h s.g s.i s.u ws' (record s.x { progress = a })
  same_words a w = record { master_is = w.master_is; home_is = w.home_is; each = w.each; none = w.none }

  -- The words behind the telling of a flush.
  tell_words : node_of s.u ≢ s.h → plain (s.x.nodes (node_of s.u)).mode ≡ Flush_tell → word s.u.lay s.ws (Turn (node_of s.u) s.g) ≢ 0 → Words s.h s.g s.i s.u s.ws (W.after_event (place s) s.x (W.Op (node_of s.u)))
  tell_words off is held =
      let w = s.match.words in
      record {
        master_is = w.master_is ∙ sym (master_plain s.x.master (s.x.nodes (node_of s.u)).mode ∙ ap (op_master s.x.master) is);
        home_is = w.home_is;
        each = λ k away. each k away (cases_eq k (node_of s.u));
        none = λ k out. ap (λ (z : W.Node). z.mode) (put_other s.x.nodes (node_of s.u) y' k (other k out)) ∙ w.none k out;
      }
    where
      y : W.Node
      y = s.x.nodes (node_of s.u)

      y' : W.Node
      y' = W.op_node s.x.master s.x.progress (s.x.nodes (node_of s.u))

      other : (k : ℕ) → (k ≡ s.h) ⊎ (s.u.lay.nodes ≤ k) → k ≢ node_of s.u
      other k (inl e) d = off (sym d ∙ e)
      other k (inr l) d = let i = s.at.node_in in absurd (omega (arith, l, d, i))

      each : (k : ℕ) → IsAway s.h s.u k → (k ≡ node_of s.u) ⊎ (k ≢ node_of s.u) → Copy s.h s.g s.i s.u s.ws k ((W.after_event (place s) s.x (W.Op (node_of s.u))).nodes k)
      each k away (inr ne) = subst (Copy s.h s.g s.i s.u s.ws k) (sym (put_other s.x.nodes (node_of s.u) y' k ne)) (s.match.words.each k away)
      each k away (inl e) = subst (λ z. Copy s.h s.g s.i s.u s.ws z ((W.after_event (place s) s.x (W.Op (node_of s.u))).nodes z)) (sym e) (subst (Copy s.h s.g s.i s.u s.ws (node_of s.u)) (sym (put_same s.x.nodes (node_of s.u) y')) own)
        where
          own : Copy s.h s.g s.i s.u s.ws (node_of s.u) (W.op_node s.x.master s.x.progress (s.x.nodes (node_of s.u)))
          own =
              let c = s.match.words.each (node_of s.u) (s.at.node_in, off) in
              record {
                frame_is = c.frame_is ∙ sym (frame_plain (s.x.nodes (node_of s.u)).frame (s.x.nodes (node_of s.u)).mode ∙ ap (op_frame (s.x.nodes (node_of s.u)).frame) is);
                twin_is = c.twin_is ∙ sym (twin_plain (s.x.nodes (node_of s.u)).twin (s.x.nodes (node_of s.u)).mode ∙ ap (op_twin (s.x.nodes (node_of s.u)).twin) is);
                fetched_is = λ z. op_keeps_fetched (s.x.nodes (node_of s.u)).fetched (s.x.nodes (node_of s.u)).mode (c.fetched_is z);
                rest_is = λ z. absurd (held z);
                rights = λ z. op_may s.x.master s.x.progress (s.x.nodes (node_of s.u)).frame (s.x.nodes (node_of s.u)).twin (s.x.nodes (node_of s.u)).mode (c.rights z);
              }

  module _ (o : Own) where
    -- a send of which nobody is to know is not told
    pub slip_untold : {r : Round} {g h : ℕ} {flushed : Bool} (e : (flushed || node_of s.u == h) ≡ false) → SlipActs s o (untold {r = r} {g = g} {h = h} {flushed = flushed} e)
    slip_untold {r} {g} {h} {flushed} e own f = go flushed e f
      where
        go : (b : Bool) → (b || node_of s.u == h) ≡ false → Here s (On r g (Posted h b)) o → Acted s (On r g (Lowering b)) s.ws (λ m n. []) (map (At (place_of s.h (node_of s.u)) 0) (R.only (g == s.g && node_of s.u == node_of s.u) P.Tell))
        go true e f = absurd (cc e)
        go false e f = pick_move s (place_of s.h (node_of s.u)) 0 P.Tell (g == s.g && node_of s.u == node_of s.u) (λ c. here (page_is (g == s.g) refl c)) (λ c. calm_here s {z = Posted h false} {t = Lowering false} (λ m n. []) [] f tt (λ m n. tt) refl refl refl refl (λ d off rest. refl))
          where
            page_is : (c : Bool) → (g == s.g) ≡ c → (c && node_of s.u == node_of s.u) ≡ true → g ≡ s.g
            page_is true is c = eqb-true g s.g is
            page_is false is c = absurd (cc c)

            off : g ≡ s.g → node_of s.u ≢ s.h
            off d is = absurd (cc (sym e ∙ eq-eqb (node_of s.u) h (is ∙ sym (home_same s {z = Posted h false} f d h refl))))

            none : (w : P.Work) → w ≡ P.Posting s.u.p false → onto (word_event (node_of s.u) w 0 P.Tell) [] ≡ []
            none w is = subst (λ z. onto (word_event (node_of s.u) z 0 P.Tell) [] ≡ []) (sym is) refl

            here : g ≡ s.g → Acted s (On r g (Lowering false)) s.ws (λ m n. []) (At (place_of s.h (node_of s.u)) 0 P.Tell ∷ [])
            here d = rw (place_away s.h (node_of s.u) (off d)) (calm_none s {z = Posted h false} {t = Lowering false} s.ws (λ m n. []) (At (Some (node_of s.u)) 0 P.Tell ∷ []) f.knows s.match.words (λ n away. refl) (none (s.pages (Some (node_of s.u))).page.work (works_here s {z = Posted h false} f d (off d) refl)) (tt, tt) (λ m n. tt) refl refl refl refl (λ d off rest. refl))

    -- a send is told
    pub note_told : {r : Round} {g h : ℕ} {flushed : Bool} (e : (flushed || node_of s.u == h) ≡ true) → NoteActs s o (told {r = r} {g = g} {h = h} {flushed = flushed} e)
    note_told {r} {g} {h} {flushed} e f = go (g == s.g) refl (cases_eq (node_of s.u) s.h)
      where
        at_home : g ≡ s.g → node_of s.u ≡ s.h → Acted s (On r g (Lowering flushed)) s.ws tells (At None 0 P.Tell ∷ [])
        at_home d is = by_events s {es = tells} (At None 0 P.Tell ∷ []) (W.Home_told ∷ []) refl (tt, tt) ((λ r' i. home_told_asks (place s) s.x s.c s.d r'), tt)
            (record { words = same_words (W.home_next s.x.at ended s.x.progress) s.match.words; counted = home_told_counted is })
            (on_knows s s.ws (fresh_left s tells) (pages_left s (At None 0 P.Tell ∷ [])) (W.after_event (place s) s.x W.Home_told) (count s.x W.Home_told s.c) r g (Lowering flushed) refl refl
            (λ n away d' tu. absurd (away.1 (sym (ap turn_node tu) ∙ is))))

        away : (b : Bool) → (b || node_of s.u == h) ≡ true → Here s (On r g (Posted h b)) o → g ≡ s.g → node_of s.u ≢ s.h → Acted s (On r g (Lowering b)) s.ws tells (At (Some (node_of s.u)) 0 P.Tell ∷ [])
        away false e f d off = absurd (off (eqb-true (node_of s.u) h e ∙ home_same s {z = Posted h false} f d h refl))
        away true e f d off = by_events s {es = tells} (At (Some (node_of s.u)) 0 P.Tell ∷ []) (W.Op (node_of s.u) ∷ []) (event (s.pages (Some (node_of s.u))).page.work (works_here s {z = Posted h true} f d off refl)) (tt, tt) ((λ r' i. op_asks (place s) s.x s.c s.d (node_of s.u) r'), tt)
            (record { words = tell_words off is (turn_here s {z = Posted h true} f d refl); counted = tell_counted off is })
            (on_knows s s.ws (fresh_left s tells) (pages_left s (At (Some (node_of s.u)) 0 P.Tell ∷ [])) (W.after_event (place s) s.x (W.Op (node_of s.u))) (count s.x (W.Op (node_of s.u)) s.c) r g (Lowering true) refl refl
            (λ n away d' tu. subst (λ q. plain ((W.after_event (place s) s.x (W.Op (node_of s.u))).nodes q).mode ≡ Flush_over) (ap turn_node tu) behind))
          where
            is : plain (s.x.nodes (node_of s.u)).mode ≡ Flush_tell
            is = f.knows.mode (node_of s.u) (s.at.node_in, off) (ap (λ w. Some (Page (node_of s.u) w)) d) d

            event : (w : P.Work) → w ≡ P.Posting s.u.p true → onto (word_event (node_of s.u) w 0 P.Tell) [] ≡ W.Op (node_of s.u) ∷ []
            event w is = subst (λ z. onto (word_event (node_of s.u) z 0 P.Tell) [] ≡ W.Op (node_of s.u) ∷ []) (sym is) refl

            behind : plain ((W.after_event (place s) s.x (W.Op (node_of s.u))).nodes (node_of s.u)).mode ≡ Flush_over
            behind = ap (λ (z : W.Node). plain z.mode) (put_same s.x.nodes (node_of s.u) (W.op_node s.x.master s.x.progress (s.x.nodes (node_of s.u)))) ∙ op_plain s.x.master s.x.progress (s.x.nodes (node_of s.u)).frame (s.x.nodes (node_of s.u)).twin (s.x.nodes (node_of s.u)).mode ∙ ap (λ z. plain (op_mode s.x.master 0 (s.x.nodes (node_of s.u)).frame (s.x.nodes (node_of s.u)).twin z)) is

        go : (c : Bool) → (g == s.g) ≡ c → (node_of s.u ≡ s.h) ⊎ (node_of s.u ≢ s.h) → Acted s (On r g (Lowering flushed)) s.ws (λ m n. FE.only (c && node_of s.u == m) S.Tell) (map (At (place_of s.h (node_of s.u)) 0) (R.only (c && node_of s.u == node_of s.u) P.Tell))
        go false c w = calm_here s {z = Posted h flushed} {t = Lowering flushed} (λ m n. []) [] f tt (λ m n. tt) refl refl refl refl (λ d off rest. absurd (cc (sym c ∙ eq-eqb g s.g d)))
        go true c (inl w) = rw (eq-eqb (node_of s.u) (node_of s.u) refl) (rw (place_home s.h (node_of s.u) w) (at_home (eqb-true g s.g c) w))
        go true c (inr w) = rw (eq-eqb (node_of s.u) (node_of s.u) refl) (rw (place_away s.h (node_of s.u) w) (away flushed e f (eqb-true g s.g c) w))

    -- a send has ended
    pub row_stamps_flush : {r : Round} {g h t x : ℕ} {flushed : Bool} → RowActs s o (stamps_flush {r = r} {g = g} {h = h} {t = t} {x = x} {flushed = flushed})
    row_stamps_flush {r} {g} {h} {t} {x} {flushed} f = go flushed (g == s.g) refl (cases_eq (node_of s.u) s.h) f
      where
        ws' : List ℕ
        ws' = done s.u.lay s.ws (Put (Flush (node_of s.u) g) t)

        es : Bool → Bool → (m n : ℕ) → List S.Event
        es c b m n = FE.only (c && node_of s.u == m && (b || node_of s.u == h)) S.Send

        ms : Bool → Bool → List Move
        ms c b = map (At (place_of s.h (node_of s.u)) 0) (R.only (c && node_of s.u == node_of s.u) (if b then P.Stamp else P.Stamp_bare))

        words : {b : Bool} → Meets s (On r g (Stamping h t b)) o (Put (Flush (node_of s.u) g) t) x → Words s.h s.g s.i s.u (done s.u.lay s.ws (Put (Flush (node_of s.u) g) t)) s.x
        words f = words_stay s (Put (Flush (node_of s.u) g) t) f.within (part_stays s (Put (Flush (node_of s.u) g) t) f.within (λ i. absurd i))

        -- every send of the own node
        all_sends : (d : Bool) → d ≡ true → (m n : ℕ) → FE.only (true && node_of s.u == m && d) S.Send ≡ sends m n
        all_sends d i m n = rw i (drop (node_of s.u == m))
          where
            drop : (c : Bool) → FE.only (true && c && true) S.Send ≡ FE.only c S.Send
            drop true = refl
            drop false = refl

        none_sends : (d : Bool) → d ≡ false → (m n : ℕ) → FE.only (true && node_of s.u == m && d) S.Send ≡ []
        none_sends d i m n = rw i (drop (node_of s.u == m))
          where
            drop : (c : Bool) → FE.only (true && c && false) S.Send ≡ []
            drop true = refl
            drop false = refl

        -- at the home
        at_home : Meets s (On r g (Stamping h t false)) o (Put (Flush (node_of s.u) g) t) x → g ≡ s.g → node_of s.u ≡ s.h → Acted s (On r g (Stamped h false)) ws' sends (At None 0 P.Stamp_bare ∷ [])
        at_home f d is = by_events s {es = sends} (At None 0 P.Stamp_bare ∷ []) (W.Home_sent ∷ []) refl (tt, tt) ((λ r' i. home_sent_asks (place s) s.x s.c s.d shared r'), tt)
            (record { words = same_words (W.home_next s.x.at covered s.x.progress) (words f); counted = home_sent_counted is })
            (on_knows s ws' (fresh_left s sends) (pages_left s (At None 0 P.Stamp_bare ∷ [])) (W.after_event (place s) s.x W.Home_sent) (count s.x W.Home_sent s.c) r g (Stamped h false) refl refl
            (λ n away d' tu. absurd (away.1 (sym (ap turn_node tu) ∙ is))))
          where
            home_is : h ≡ s.h
            home_is = home_found s {z = Stamping h t false} f d h refl

            low : (s.b.nodes (node_of s.u)).dir ≤ 1
            low = at_turn s O.Checked (node_of s.u) (stage_is s {z = Stamping h t false} f d ∙ checked (node_of s.u == h) (eq-eqb (node_of s.u) h (is ∙ sym home_is))) refl
              where
                checked : (c : Bool) → c ≡ true → (if c then O.Checked else O.Posting false) ≡ O.Checked
                checked true i = refl
                checked false i = absurd (cc i)

            shared : s.x.home_exclusive ≡ false
            shared = sym s.match.words.home_is ∙ ne_eqb (word s.u.lay s.ws (Dir s.h s.g)) 2 (λ e. let z = sym (s.owned.dir (node_of s.u) s.at.node_in) ∙ ap (λ w. word s.u.lay s.ws (Dir w s.g)) is ∙ e in let l = low in absurd (omega (arith, z, l)))

        -- away from it, with a flush
        ends : Meets s (On r g (Stamping h t true)) o (Put (Flush (node_of s.u) g) t) x → g ≡ s.g → node_of s.u ≢ s.h → Acted s (On r g (Stamped h true)) ws' sends (At (Some (node_of s.u)) 0 P.Stamp ∷ [])
        ends f d off = own_op s {z = Stamping h t true} {t = Stamped h true} sends P.Stamp Flush_end off is (λ w. refl) tt f held (end_counted off is) refl (λ rest b. refl) refl refl
          where
            is : plain (s.x.nodes (node_of s.u)).mode ≡ Flush_end
            is = open_here s {z = Stamping h t true} f d off refl

            held : Words s.h s.g s.i s.u (done s.u.lay s.ws (Put (Flush (node_of s.u) g) t)) (W.after_event (place s) s.x (W.Op (node_of s.u)))
            held =
                let w = words f in
                let c = w.each (node_of s.u) (s.at.node_in, off) in
                op_held s (Put (Flush (node_of s.u) g) t) f.within (node_of s.u) (s.at.node_in, off) Flush_end is tt (turn_held s {z = Stamping h t true} f d refl) (λ k ne away z. absurd z) w.master_is c.frame_is c.twin_is

        -- and without one
        bare : Meets s (On r g (Stamping h t false)) o (Put (Flush (node_of s.u) g) t) x → Acted s (On r g (Stamped h false)) ws' (λ m n. []) (At (Some (node_of s.u)) 0 P.Stamp_bare ∷ [])
        bare f = calm_row s {z = Stamping h t false} {t = Stamped h false} (λ m n. []) (At (Some (node_of s.u)) 0 P.Stamp_bare ∷ []) f (λ i. absurd i) (refl, tt) (λ m n. tt) refl refl refl refl (λ d off rest. refl)

        no_home : Meets s (On r g (Stamping h t true)) o (Put (Flush (node_of s.u) g) t) x → g ≡ s.g → node_of s.u ≢ s.h
        no_home f d =
            let at = at_turn s O.Flushing (node_of s.u) (stage_is s {z = Stamping h t true} f d) refl in
            twin_away s at.1 (f.here.owns.homes d ∙ ap suc (home_found s {z = Stamping h t true} f d h refl))

        go : (b c : Bool) → (g == s.g) ≡ c → (node_of s.u ≡ s.h) ⊎ (node_of s.u ≢ s.h) → Meets s (On r g (Stamping h t b)) o (Put (Flush (node_of s.u) g) t) x → Acted s (On r g (Stamped h b)) ws' (es c b) (ms c b)
        go true false c w f = other_row s {z = Stamping h t true} {t = Stamped h true} (λ m n. []) f (λ d. absurd (cc (sym c ∙ eq-eqb g s.g d))) (λ i. absurd i) (λ m n. tt)
        go false false c w f = other_row s {z = Stamping h t false} {t = Stamped h false} (λ m n. []) f (λ d. absurd (cc (sym c ∙ eq-eqb g s.g d))) (λ i. absurd i) (λ m n. tt)
        go true true c (inl w) f = absurd (no_home f (eqb-true g s.g c) w)
        go true true c (inr w) f = rw (eq-eqb (node_of s.u) (node_of s.u) refl) (rw (place_away s.h (node_of s.u) w) (subst (λ (q : (m n : ℕ) → List S.Event). Acted s (On r g (Stamped h true)) ws' q (At (Some (node_of s.u)) 0 P.Stamp ∷ [])) (λ z m n. sym (all_sends (true || node_of s.u == h) refl m n) z) (ends f (eqb-true g s.g c) w)))
        go false true c (inl w) f = rw (eq-eqb (node_of s.u) (node_of s.u) refl) (rw (place_home s.h (node_of s.u) w) (subst (λ (q : (m n : ℕ) → List S.Event). Acted s (On r g (Stamped h false)) ws' q (At None 0 P.Stamp_bare ∷ [])) (λ z m n. sym (all_sends (node_of s.u == h) (eq-eqb (node_of s.u) h (w ∙ sym (home_found s {z = Stamping h t false} f (eqb-true g s.g c) h refl))) m n) z) (at_home f (eqb-true g s.g c) w)))
        go false true c (inr w) f = rw (eq-eqb (node_of s.u) (node_of s.u) refl) (rw (place_away s.h (node_of s.u) w) (subst (λ (q : (m n : ℕ) → List S.Event). Acted s (On r g (Stamped h false)) ws' q (At (Some (node_of s.u)) 0 P.Stamp_bare ∷ [])) (λ z m n. sym (none_sends (node_of s.u == h) (ne_eqb (node_of s.u) h (λ e. w (e ∙ home_found s {z = Stamping h t false} f (eqb-true g s.g c) h refl))) m n) z) (bare f)))
