-- Rows of a visit to a node that has the page alone: its break, in a fault or in the closing work.
use Rattle.std.proofs.Common.{◌≡◌, ◌≢◌, ◌⊎◌, inl, inr, ℕ, suc, ◌+◌, ◌*◌, ◌<◌, ◌≤◌, ◌==◌, Bool, true, false, List, [], ◌∷◌, Option, None, Some, refl, sym, ap, ◌∙◌, subst, arith, if◌then◌else◌}
use Rattle.std.specs.Prelude.{map, not, ◌&&◌, nat_lt}
use Rattle.std.proofs.lemmas.Bool.{cases_eq, eq-eqb, eqb-true, ne_eqb}
use Rattle.dsm_words.specs.declared.item.Item.{Item}
use Rattle.dsm_words.specs.declared.item.Item.TheVariants.{Frame, Twin, Twined, Dir, Update, Turn}
use Rattle.dsm_words.specs.Place.{IsWithin}
use Rattle.dsm_words.specs.Script.{Act, Get, Put, item_of}
use Rattle.dsm_words.specs.Words.{word, done}
use Rattle.dsm_clock.specs.declared.turns.TurnId.TheVariants.{Page}
use Rattle.dsm_directory.specs.Directory.{is_busy}
use Rattle.dsm_protocol.specs.Own.{Own, node_of}
use Rattle.dsm_protocol.specs.Stages.{Part, Whole, Got, Half, Cause, Fault, Closing, Stage, Visiting, Looking, Breaking, Marking, Saving, Ending, Broken, Broadcast, Parted, Round, Closes, On, stage_turn, held_alone, departed}
use Rattle.dsm_protocol.specs.Rows.{looks, reads_map, marks, saves, saves_twin, saves_home, twins_broken, breaks, departs, visits, closes, marked, broken, broadcast}
use Rattle.dsm_copies.specs.Modes.{Mode, Twinned, Exclusive, Break_load, Break_refresh, Break_send, Break_end, may_store, op_mode}
use Rattle.dsm_copies.specs.Copies as W
use Rattle.dsm_copies.specs.Copies.{put}
use Rattle.dsm_copies.specs.Counts.{Count, count, op_sent, op_told, op_last_break, op_got}
use Rattle.dsm_copies.specs.Debts.{Debts, AsksOf}
use Rattle.dsm_copies.specs.Premises.{Premise, Values, Breaks}
use Rattle.dsm_owners.specs.Stages as O
use Rattle.dsm_owners.proofs.Facts.{AtTurn}
use Rattle.dsm_ties.specs.Views.{why}
use Rattle.dsm_ties.specs.Tied.{bit}
use Rattle.dsm_fresh.specs.Pages as S
use Rattle.dsm_fresh.specs.Stages as F
use Rattle.dsm_freshness.specs.Events as FE
use Rattle.dsm_freshness.proofs.Words.{put_kept}
use Rattle.dsm_copies.specs.Joining.{onto}
use Rattle.dsm_debts.specs.Page as P
use Rattle.dsm_debts.specs.Joining.{Move, At, event_at, has_flushed, AgreesAt}
use Rattle.dsm_debts.proofs.Facts.{is_copying}
use Rattle.dsm_releases.specs.Events as R
use Rattle.dsm_twoway.specs.Views.{plain, resting, block, mode_view}
use Rattle.dsm_twoway.specs.Events.{place_of}
use Rattle.dsm_twoway.specs.Tied.{IsAway, Knows, rest_of, spot, is_copied, is_beginning, Copy, Words, Counted}
use Rattle.dsm_twoway.proofs.Modes.{exclusive_is, store_plain, op_may, op_keeps_fetched}
use Rattle.dsm_twoway.proofs.Numbers.{AllQuiet, Alike, Equal, quiet_alike}
use Rattle.dsm_twoway.proofs.Scene.{Scene, place, RowActs, WinActs, SlipActs, NoteActs, Acted, Meets, fresh_left, pages_left}
use Rattle.dsm_twoway.proofs.Changes.{IsPart, stays, becomes, part_stays, words_stay, words_at}
use Rattle.dsm_twoway.proofs.Frame.{is_silent, AllSilent, by_events, by_none, on_knows, off_knows, numbers_stay, numbers_kept}
use Rattle.dsm_twoway.proofs.Ops.{put_same, put_other, put_what, op_words, op_held, reads, op_equal, mode_behind, is_counted}
use Rattle.dsm_twoway.proofs.Accesses.{spot_home, spot_away}
use Rattle.dsm_twoway.proofs.Blocks.{block_here, block_other, block_past, block_behind, below, above, op_asks, turn_node, place_away, place_home, at_turn, stage_is, home_found, other_row}
use Rattle.dsm_twoway.proofs.Controls.{silent_only, quiet_stay, won_row, given, control_words, control_here, turn_kept, home_has, like_pick, like_row, like_stay}

-- a block that is a break's, at its first word and behind its last
block_first : (i : ℕ) (b d : Mode) → block i 0 b b d ≡ b
block_first i b d = go (nat_lt 0 i) refl
  where
    go : (z : Bool) → nat_lt 0 i ≡ z → (if z then b else (if 0 == i then b else d)) ≡ b
    go true w = refl
    go false w = let l = above 0 i w in rw (eq-eqb 0 i (omega (arith, l))) refl

block_last : (i k : ℕ) (b c d : Mode) → i < k → block i k b c d ≡ d
block_last i k b c d l = go (nat_lt k i) refl
  where
    go : (z : Bool) → nat_lt k i ≡ z → (if z then b else (if k == i then c else d)) ≡ d
    go true w = let m = below k i w in absurd (omega (arith, l, m))
    go false w = rw (ne_eqb k i (λ e. absurd (omega (arith, e, l)))) refl

-- where the end of a break is open, nothing is remembered
break_end_is : (x : Mode) → plain x ≡ Break_end → x ≡ Break_end
break_end_is Break_end e = refl
break_end_is x e = absurd (cc e)

-- conditions
all_true : (a b c : Bool) → a ≡ true → b ≡ true → c ≡ true → ((a && b) && c) ≡ true
all_true a b c p q w = rw p (rw q w)

with_false : (a b c : Bool) → c ≡ false → ((a && b) && c) ≡ false
with_false true true c e = e
with_false true false c e = refl
with_false false b c e = refl

first_false : (a b c : Bool) → a ≡ false → ((a && b) && c) ≡ false
first_false false b c e = refl
first_false true b c e = absurd (cc e)

and_true : (a b : Bool) → a ≡ true → b ≡ true → (a && b) ≡ true
and_true a b p q = rw p q

and_false : (a b : Bool) → a ≡ false → (a && b) ≡ false
and_false false b e = refl
and_false true b e = absurd (cc e)

-- a break begins where the node is exclusive
begin_asks : (place : ℕ → Option ℕ) (x : W.State) (c : Count) (d : Debts) (n : ℕ) → (x.nodes n).mode ≡ Exclusive → (r : Premise) → AsksOf place r x c d (W.Begin n W.Break)
begin_asks place x c d n e Breaks = e
begin_asks place x c d n e Values = tt
begin_asks place x c d n e r = tt

-- the end of the home's exclusive use is asked nothing
home_asks : (place : ℕ → Option ℕ) (x : W.State) (c : Count) (d : Debts) (r : Premise) → AsksOf place r x c d W.Home_break
home_asks place x c d Values = tt
home_asks place x c d r = tt

module _ (s : Scene) (o : Own) where
  -- a break begins
  pub row_looks : {r : Round} {g j x : ℕ} {c : Cause} → RowActs s o (looks {r = r} {g = g} {j = j} {x = x} {c = c})
  row_looks {r} {g} {j} {x} {c} f = go (x == 2) refl
    where
      held_turn : (c : Cause) → stage_turn s.u g (held_alone s.u c j) ≡ Some (Page j g)
      held_turn (Fault write h busy) = refl
      held_turn Closing = refl

      held_open : (c : Cause) (rest : Mode) (d : Bool) → mode_view s.i rest d (held_alone s.u c j) ≡ Break_load
      held_open (Fault write h busy) rest d = refl
      held_open Closing rest d = refl

      held_copied : (c : Cause) → is_copied (held_alone s.u c j) ≡ false
      held_copied (Fault write h busy) = refl
      held_copied Closing = refl

      held_beginning : (c : Cause) → is_beginning (held_alone s.u c j) ≡ false
      held_beginning (Fault write h busy) = refl
      held_beginning Closing = refl

      left : (it : Item) → IsWithin s.u.lay it → IsPart s it → word s.u.lay (done s.u.lay s.ws (Get (Dir j g))) it ≡ word s.u.lay s.ws it
      left it i p = part_stays s (Get (Dir j g)) f.within (λ _. refl) it i p

      -- the home's break is not of the copies
      home : g ≡ s.g → j ≡ s.h → Acted s (On r g (held_alone s.u c j)) (done s.u.lay s.ws (Get (Dir j g))) (λ m n. []) (At None 0 P.Break ∷ [])
      home d e =
          by_none s {es = λ m n. []} (At None 0 P.Break ∷ []) (refl, tt) (record { words = words_stay s (Get (Dir j g)) f.within left; counted = numbers_stay s (λ m n. []) (λ m n. tt) })
          (on_knows s (done s.u.lay s.ws (Get (Dir j g))) s.fresh (pages_left s (At None 0 P.Break ∷ [])) s.x s.c r g (held_alone s.u c j) (held_copied c) (held_beginning c)
          (λ n away d' tu. absurd (away.1 (sym (ap turn_node (sym (held_turn c) ∙ tu)) ∙ e))))

      begun : W.State
      begun = W.after_event (place s) s.x (W.Begin j W.Break)

      new : W.Node
      new = record (s.x.nodes j) { mode = Break_load }

      sole : g ≡ s.g → (x == 2) ≡ true → IsAway s.h s.u j → (s.x.nodes j).mode ≡ Exclusive
      sole d two away =
          let e : word s.u.lay s.ws (Dir j s.g) ≡ x = (λ q. word s.u.lay s.ws (Dir j (sym d q))) ∙ sym f.told in
          exclusive_is (s.x.nodes j).mode (f.here.knows.mode j away (ap (λ q. Some (Page j q)) d) d
          ∙ ap (λ q. resting q (word s.u.lay s.ws (Twined j s.g))) (e ∙ eqb-true x 2 two))

      away_row : g ≡ s.g → (x == 2) ≡ true → j ≢ s.h → Acted s (On r g (held_alone s.u c j)) (done s.u.lay s.ws (Get (Dir j g))) (λ m n. []) (At (Some j) 0 P.Break ∷ [])
      away_row d two off =
          let away : IsAway s.h s.u j = (f.within.0, off) in
          let ms : List Move = At (Some j) 0 P.Break ∷ [] in
          by_events s {es = λ m n. []} ms (W.Begin j W.Break ∷ []) refl (tt, tt) ((λ r' i. begin_asks (place s) s.x s.c s.d j (sole d two away) r'), tt)
          (record {
            words = words_at s (Get (Dir j g)) f.within j begun (λ n ne at z. ne (sym z.0)) (λ n ne. put_other s.x.nodes j new n ne) (λ at. subst (Copy s.h s.g s.i s.u (done s.u.lay s.ws (Get (Dir j g))) j) (sym (put_same s.x.nodes j new)) (copy away d))
                (λ out. absurd (none out)) (left (Frame s.h s.g s.i) (s.h_in, s.g_in, s.i_in) (refl, refl) ∙ s.match.words.master_is) (ap (λ z. z == 2) (left (Dir s.h s.g) (s.h_in, s.g_in) refl) ∙ s.match.words.home_is);
            counted = numbers_kept s (λ m n. []) (count s.x (W.Begin j W.Break) s.c) (λ m n. tt) same;
          })
          (on_knows s (done s.u.lay s.ws (Get (Dir j g))) s.fresh (pages_left s ms) begun (count s.x (W.Begin j W.Break) s.c) r g (held_alone s.u c j) (held_copied c) (held_beginning c)
          (λ n at d' tu. let is : j ≡ n = ap turn_node (sym (held_turn c) ∙ tu) in
          ap (λ q. plain (begun.nodes q).mode) (sym is) ∙ ap (λ (q : W.Node). plain q.mode) (put_same s.x.nodes j new)
          ∙ sym (held_open c (rest_of s.h s.g s.i s.u (done s.u.lay s.ws (Get (Dir j g))) n) (has_flushed (pages_left s ms (Some n)).page.work))))
        where
          none : (j ≡ s.h) ⊎ (s.u.lay.nodes ≤ j) → ⊥
          none (inl e) = off e
          none (inr l) = let i = f.within.0 in absurd (omega (arith, l, i))

          same : Equal s.c (count s.x (W.Begin j W.Break) s.c)
          same = record { sent_is = λ k. refl; told_is = λ k. refl; broken_is = λ k. refl; got_is = λ n k. refl; snap_is = λ n k. ap (λ (z : ℕ → ℕ). z k) (put_what s.c.snap j (s.c.snap j) refl n); known_is = λ q k. refl }

          copy : IsAway s.h s.u j → g ≡ s.g → Copy s.h s.g s.i s.u (done s.u.lay s.ws (Get (Dir j g))) j new
          copy away d =
              let y = s.match.words.each j away in
              record {
                frame_is = left (Frame j s.g s.i) (away.0, s.g_in, s.i_in) (refl, refl) ∙ y.frame_is;
                twin_is = left (Twin j s.g s.i) (away.0, s.g_in, s.i_in) (refl, refl) ∙ y.twin_is;
                fetched_is = λ ne. y.fetched_is (λ z. ne (left (Update j s.g) (away.0, s.g_in) refl ∙ z));
                rest_is = λ z. absurd (turn_kept s {z = Looking c j} j f d refl away (sym (left (Turn j s.g) (away.0, s.g_in) refl) ∙ z));
                rights = λ z. refl;
              }

      go : (b : Bool) → (x == 2) ≡ b → Acted s (On r g (if b then held_alone s.u c j else Parted c j)) (done s.u.lay s.ws (Get (Dir j g))) (λ m n. []) (map (At (place_of s.h j) 0) (R.only ((g == s.g && j == j) && b) P.Break))
      go false e = rw (with_false (g == s.g) (j == j) false refl) (like_row s {r = r} {k = g} {z = Looking c j} {t = Parted c j} (λ m n. []) [] f (λ i. refl) tt (λ m n. tt) (record { turn = refl; same = λ rest d d'. refl; copied = refl; beginning = refl }))
      go true e = at (cases_eq g s.g) (cases_eq j s.h)
        where
          at : (g ≡ s.g) ⊎ (g ≢ s.g) → (j ≡ s.h) ⊎ (j ≢ s.h) → Acted s (On r g (held_alone s.u c j)) (done s.u.lay s.ws (Get (Dir j g))) (λ m n. []) (map (At (place_of s.h j) 0) (R.only ((g == s.g && j == j) && true) P.Break))
          at (inr ne) z = rw (first_false (g == s.g) (j == j) true (ne_eqb g s.g ne)) (other_row s {r = r} {k = g} {z = Looking c j} {t = held_alone s.u c j} (λ m n. []) f ne (λ i. i) (λ m n. tt))
          at (inl d) (inl w) = rw (all_true (g == s.g) (j == j) true (eq-eqb g s.g d) (eq-eqb j j refl) refl) (rw (place_home s.h j w) (home d w))
          at (inl d) (inr w) = rw (all_true (g == s.g) (j == j) true (eq-eqb g s.g d) (eq-eqb j j refl) refl) (rw (place_away s.h j w) (away_row d e w))

  -- its processors' mappings
  pub row_reads_map : {r : Round} {g h j q x : ℕ} {c : Cause} → RowActs s o (reads_map {r = r} {g = g} {h = h} {j = j} {q = q} {x = x} {c = c})
  row_reads_map {r} {g} {h} {j} {q} {x} {c} f =
      like_row s {r = r} {k = g} {z = Breaking c h j q} (λ m n. []) (map (At (place_of s.h j) 0) (R.only ((g == s.g && j == j) && not (x == 2)) P.Pass_by)) f (λ i. absurd i)
      (silent_only (place_of s.h j) 0 ((g == s.g && j == j) && not (x == 2)) P.Pass_by (quiet (place_of s.h j))) (λ m n. tt)
      (like_pick s (x == 2) (record { turn = refl; same = λ rest d d'. refl; copied = refl; beginning = refl }) (record { turn = refl; same = λ rest d d'. refl; copied = refl; beginning = refl }))
    where
      quiet : (k : Option ℕ) → is_silent k P.Pass_by ≡ true
      quiet None = refl
      quiet (Some n) = refl

  -- and a mark to one that may write
  pub row_marks : {r : Round} {g h j q x : ℕ} {c : Cause} (lo : j * s.u.lay.procs ≤ q) (hi : q < j * s.u.lay.procs + s.u.lay.procs) → RowActs s o (marks {r = r} {g = g} {h = h} {j = j} {q = q} {x = x} {c = c} lo hi)
  row_marks {r} {g} {h} {j} {q} {x} {c} lo hi f =
      like_row s {r = r} {k = g} {z = Marking c h j q} {t = Breaking c h j (q + 1)} (λ m n. []) (map (At (place_of s.h j) 0) (R.only (g == s.g && j == j) P.Mark)) f (λ i. absurd i)
      (silent_only (place_of s.h j) 0 (g == s.g && j == j) P.Mark (quiet (place_of s.h j))) (λ m n. tt)
      (record { turn = refl; same = λ rest d d'. refl; copied = refl; beginning = refl })
    where
      quiet : (k : Option ℕ) → is_silent k P.Mark ≡ true
      quiet None = refl
      quiet (Some n) = refl

  -- behind the last processor its words are saved, but at the home
  pub slip_marked : {r : Round} {g h j : ℕ} {c : Cause} → SlipActs s o (marked {r = r} {g = g} {h = h} {j = j} {c = c})
  slip_marked {r} {g} {h} {j} {c} own f = go (j == h) refl
    where
      quiet : (k : Option ℕ) → is_silent k P.Copy ≡ true
      quiet None = refl
      quiet (Some n) = refl

      silent : (b : Bool) → AllSilent (map (At (place_of s.h j) 0) (R.only ((g == s.g && j == j) && not b) P.Copy))
      silent b = silent_only (place_of s.h j) 0 ((g == s.g && j == j) && not b) P.Copy (quiet (place_of s.h j))

      go : (b : Bool) → (j == h) ≡ b → Acted s (On r g (if b then Ending c j else Saving c h j 0 Whole)) s.ws (λ m n. []) (map (At (place_of s.h j) 0) (R.only ((g == s.g && j == j) && not b) P.Copy))
      go true e = quiet_stay s {r = r} {k = g} {z = Breaking c h j (j * s.u.lay.procs + s.u.lay.procs)} {t = Ending c j} (λ m n. []) (map (At (place_of s.h j) 0) (R.only ((g == s.g && j == j) && not true) P.Copy)) f.knows (silent true) (λ m n. tt) refl
          (λ n away tu d b b'. absurd (away.1 (sym (ap turn_node tu) ∙ eqb-true j h e ∙ home_has s f.owns.homes d h refl))) refl refl
      go false e = like_stay s {r = r} {k = g} {z = Breaking c h j (j * s.u.lay.procs + s.u.lay.procs)} {t = Saving c h j 0 Whole} (λ m n. []) (map (At (place_of s.h j) 0) (R.only ((g == s.g && j == j) && not false) P.Copy)) f.knows (silent false) (λ m n. tt)
          (record { turn = refl; same = λ rest d d'. block_first s.i Break_load Break_end; copied = refl; beginning = refl })

  -- what is open at the node that is visited
  visit_open : {r : Round} {k : ℕ} {z : Stage} {a : Act} {y : ℕ} (j : ℕ) → Meets s (On r k z) o a y → k ≡ s.g → IsAway s.h s.u j → stage_turn s.u k z ≡ Some (Page j k) → plain (s.x.nodes j).mode ≡ mode_view s.i (rest_of s.h s.g s.i s.u s.ws j) (has_flushed (s.pages (Some j)).page.work) z
  visit_open j f d away tu = f.here.knows.mode j away (tu ∙ ap (λ w. Some (Page j w)) d) d

  -- words are saved away from the home
  saving_away : {r : Round} {k h j e : ℕ} {c : Cause} {part : Part} {a : Act} {y : ℕ} → Meets s (On r k (Saving c h j e part)) o a y → j < s.u.lay.nodes → k ≡ s.g → j ≢ s.h
  saving_away {j = j} f l d w = absurd (cc (sym (eq-eqb j s.h w) ∙ (s.sound j l).copying_away (ap is_copying ((f.here.releases j l).works (ap (λ q. Some (Page j q)) d) d))))

  -- An operation of the block at the node that is visited, where the page and the word are the move's; else the same is open behind it.
  visit_word : {r : Round} {k : ℕ} {z t : Stage} {a : Act} {y : ℕ} (j e : ℕ) (ev : P.Event) (v : Mode) → Meets s (On r k z) o a y → (IsPart s (item_of a) → (k ≡ s.g) × (e ≡ s.i)) → stage_turn s.u k z ≡ Some (Page j k) → stage_turn s.u k t ≡ Some (Page j k) → is_copied t ≡ false → is_beginning t ≡ false
      → ((w : P.Work) → event_at (Some j) w 0 ev ≡ Some (W.Op j)) → AgreesAt (place s) (Some j) s.x ev → j < s.u.lay.nodes → (k ≡ s.g → j ≢ s.h) → (e ≢ s.i → (rest : Mode) (d d' : Bool) → mode_view s.i rest d' t ≡ mode_view s.i rest d z)
      → (k ≡ s.g → e ≡ s.i → IsAway s.h s.u j → plain (s.x.nodes j).mode ≡ v) → is_counted v ≡ false
      → (k ≡ s.g → e ≡ s.i → IsAway s.h s.u j → Words s.h s.g s.i s.u (done s.u.lay s.ws a) (W.after_event (place s) s.x (W.Op j)))
      → (k ≡ s.g → e ≡ s.i → IsAway s.h s.u j → (rest : Mode) (d : Bool) → plain (op_mode s.x.master 0 (s.x.nodes j).frame (s.x.nodes j).twin v) ≡ mode_view s.i rest d t)
      → Acted s (On r k t) (done s.u.lay s.ws a) (λ m n. []) (map (At (place_of s.h j) 0) (R.only ((k == s.g && j == j) && e == s.i) ev))
  visit_word {r} {k} {z} {t} {a} {y} j e ev v f part tu tu' copied beginning event agrees l away same open_is plainly words next = go (cases_eq k s.g) (cases_eq e s.i)
    where
      here : k ≡ s.g → e ≡ s.i → Acted s (On r k t) (done s.u.lay s.ws a) (λ m n. []) (At (Some j) 0 ev ∷ [])
      here d w =
          let at : IsAway s.h s.u j = (l, away d) in
          let ms : List Move = At (Some j) 0 ev ∷ [] in
          by_events s {es = λ m n. []} ms (W.Op j ∷ []) (ap (λ (q : Option W.Event). onto q []) (event (s.pages (Some j)).page.work)) (agrees, tt) ((λ r' i. op_asks (place s) s.x s.c s.d j r'), tt)
          (record { words = words d w at; counted = numbers_kept s (λ m n. []) (count s.x (W.Op j) s.c) (λ m n. tt) (op_equal s.x j s.c v (open_is d w at) plainly) })
          (on_knows s (done s.u.lay s.ws a) s.fresh (pages_left s ms) (W.after_event (place s) s.x (W.Op j)) (count s.x (W.Op j) s.c) r k t copied beginning
          (λ n _ _ tn. let is : j ≡ n = ap turn_node (sym tu' ∙ tn) in
          subst (λ q. plain ((W.after_event (place s) s.x (W.Op j)).nodes q).mode ≡ mode_view s.i (rest_of s.h s.g s.i s.u (done s.u.lay s.ws a) q) (has_flushed (pages_left s ms (Some q)).page.work) t) is
          (mode_behind s a f.within j at v (open_is d w at) ∙ next d w at (rest_of s.h s.g s.i s.u (done s.u.lay s.ws a) j) (has_flushed (pages_left s ms (Some j)).page.work))))

      go : (k ≡ s.g) ⊎ (k ≢ s.g) → (e ≡ s.i) ⊎ (e ≢ s.i) → Acted s (On r k t) (done s.u.lay s.ws a) (λ m n. []) (map (At (place_of s.h j) 0) (R.only ((k == s.g && j == j) && e == s.i) ev))
      go (inr ne) w = rw (first_false (k == s.g) (j == j) (e == s.i) (ne_eqb k s.g ne)) (other_row s {r = r} {k = k} {z = z} {t = t} (λ m n. []) f ne (λ i. (part i).0) (λ m n. tt))
      go (inl d) (inr ne) = rw (with_false (k == s.g) (j == j) (e == s.i) (ne_eqb e s.i ne)) (like_row s {r = r} {k = k} {z = z} {t = t} (λ m n. []) [] f (λ i. absurd (ne (part i).1)) tt (λ m n. tt) (record { turn = tu' ∙ sym tu; same = same ne; copied = copied; beginning = beginning }))
      go (inl d) (inl w) = rw (all_true (k == s.g) (j == j) (e == s.i) (eq-eqb k s.g d) (eq-eqb j j refl) (eq-eqb e s.i w)) (rw (place_away s.h j (away d)) (here d w))

  -- a word is loaded
  pub row_saves : {r : Round} {g h j i x : ℕ} {c : Cause} → RowActs s o (saves {r = r} {g = g} {h = h} {j = j} {i = i} {x = x} {c = c})
  row_saves {r} {g} {h} {j} {i = e} {x} {c} f =
      visit_word {r = r} {k = g} {z = Saving c h j e Whole} {t = Saving c h j e (Got x)} j e P.Load Break_load f (λ i. i) refl refl refl refl (λ w. refl) tt f.within.0 away
      (λ ne rest d d'. block_other s.i e Break_load (Break_refresh x false) Break_load Break_end ne) open_is refl
      (λ d w at. reads s (Frame j g e) f.within at Break_load (open_is d w at) (turn_kept s {z = Saving c h j e Whole} j f d refl at) (λ n ne _ z. ne (sym z.0)) refl refl refl)
      (λ d w at rest b. ap (λ q. Break_refresh q false) (sym (f.told ∙ (λ q. word s.u.lay s.ws (Frame j (d q) (w q))) ∙ (s.match.words.each j at).frame_is)) ∙ sym (block_here s.i e Break_load (Break_refresh x false) Break_end w))
    where
      away : g ≡ s.g → j ≢ s.h
      away d = saving_away {h = h} {j = j} {e = e} {c = c} {part = Whole} f f.within.0 d

      open_is : g ≡ s.g → e ≡ s.i → IsAway s.h s.u j → plain (s.x.nodes j).mode ≡ Break_load
      open_is d w at = visit_open {z = Saving c h j e Whole} j f d at refl ∙ block_here s.i e Break_load Break_load Break_end w

  -- it is stored in the twin
  pub row_saves_twin : {r : Round} {g h j i v x : ℕ} {c : Cause} → RowActs s o (saves_twin {r = r} {g = g} {h = h} {j = j} {i = i} {v = v} {x = x} {c = c})
  row_saves_twin {r} {g} {h} {j} {i = e} {v} {x} {c} f =
      visit_word {r = r} {k = g} {z = Saving c h j e (Got v)} {t = Saving c h j e (Half v)} j e P.Refresh (Break_refresh v false) f (λ i. i) refl refl refl refl (λ w. refl) tt f.within.0 away
      (λ ne rest d d'. block_other s.i e Break_load (Break_send v false) (Break_refresh v false) Break_end ne) open_is refl
      (λ d w at. op_held s (Put (Twin j g e) v) f.within j at (Break_refresh v false) (open_is d w at) tt (turn_kept s {z = Saving c h j e (Got v)} j f d refl at) (λ n ne _ z. ne (sym z.0))
      (stays s (Put (Twin j g e) v) f.within (Frame s.h s.g s.i) (s.h_in, s.g_in, s.i_in) (λ q. absurd (cc q)) ∙ s.match.words.master_is)
      (stays s (Put (Twin j g e) v) f.within (Frame j s.g s.i) (at.0, s.g_in, s.i_in) (λ q. absurd (cc q)) ∙ (s.match.words.each j at).frame_is)
      ((λ q. word s.u.lay (done s.u.lay s.ws (Put (Twin j g e) v)) (Twin j (sym d q) (sym w q))) ∙ becomes s (Put (Twin j g e) v) f.within))
      (λ d w at rest b. sym (block_here s.i e Break_load (Break_send v false) Break_end w))
    where
      away : g ≡ s.g → j ≢ s.h
      away d = saving_away {h = h} {j = j} {e = e} {c = c} {part = Got v} f f.within.0 d

      open_is : g ≡ s.g → e ≡ s.i → IsAway s.h s.u j → plain (s.x.nodes j).mode ≡ Break_refresh v false
      open_is d w at = visit_open {z = Saving c h j e (Got v)} j f d at refl ∙ block_here s.i e Break_load (Break_refresh v false) Break_end w

  -- a node that has the page alone is one of the layout's
  sole_in : (j : ℕ) → (s.b.nodes j).dir ≡ 2 → j < s.u.lay.nodes
  sole_in j d = (s.holds.good j).sure_in (λ e. let l = (s.holds.good j).sole_sure d in let i = s.at.node_in in absurd (omega (arith, e, l, i)))

  -- and sent home
  pub row_saves_home : {r : Round} {g h j i v x : ℕ} {c : Cause} → RowActs s o (saves_home {r = r} {g = g} {h = h} {j = j} {i = i} {v = v} {x = x} {c = c})
  row_saves_home {r} {g} {h} {j} {i = e} {v} {x} {c} f = go (cases_eq g s.g)
    where
      open_is : g ≡ s.g → e ≡ s.i → IsAway s.h s.u j → plain (s.x.nodes j).mode ≡ Break_send v false
      open_is d w at = visit_open {z = Saving c h j e (Half v)} j f d at refl ∙ block_here s.i e Break_load (Break_send v false) Break_end w

      on : j < s.u.lay.nodes → Acted s (On r g (Saving c h j (e + 1) Whole)) (done s.u.lay s.ws (Put (Frame h g e) v)) (λ m n. []) (map (At (place_of s.h j) 0) (R.only ((g == s.g && j == j) && e == s.i) P.Send))
      on l =
          visit_word {r = r} {k = g} {z = Saving c h j e (Half v)} {t = Saving c h j (e + 1) Whole} j e P.Send (Break_send v false) f (λ i. i) refl refl refl refl (λ w. refl) tt l (λ d. saving_away {h = h} {j = j} {e = e} {c = c} {part = Half v} f l d)
          (λ ne rest d d'. block_past s.i e Break_load (Break_send v false) Break_end ne) open_is refl
          (λ d w at. let is : h ≡ s.h = home_found s {z = Saving c h j e (Half v)} f d h refl in
          op_held s (Put (Frame h g e) v) f.within j at (Break_send v false) (open_is d w at) tt (turn_kept s {z = Saving c h j e (Half v)} j f d refl at) (λ n _ away z. away.1 (sym z.0 ∙ is))
          ((λ q. word s.u.lay (done s.u.lay s.ws (Put (Frame h g e) v)) (Frame (sym is q) (sym d q) (sym w q))) ∙ becomes s (Put (Frame h g e) v) f.within)
          (stays s (Put (Frame h g e) v) f.within (Frame j s.g s.i) (at.0, s.g_in, s.i_in) (λ q. at.1 (cc q ∙ is)) ∙ (s.match.words.each j at).frame_is)
          (stays s (Put (Frame h g e) v) f.within (Twin j s.g s.i) (at.0, s.g_in, s.i_in) (λ q. absurd (cc q)) ∙ (s.match.words.each j at).twin_is))
          (λ d w at rest b. sym (block_behind s.i e Break_load Break_load Break_end w))

      go : (g ≡ s.g) ⊎ (g ≢ s.g) → Acted s (On r g (Saving c h j (e + 1) Whole)) (done s.u.lay s.ws (Put (Frame h g e) v)) (λ m n. []) (map (At (place_of s.h j) 0) (R.only ((g == s.g && j == j) && e == s.i) P.Send))
      go (inl d) = on (sole_in j (at_turn s (O.Breaking (why c) j) j (stage_is s {z = Saving c h j e (Half v)} f d) refl))
      go (inr ne) = rw (first_false (g == s.g) (j == j) (e == s.i) (ne_eqb g s.g ne)) (other_row s {r = r} {k = g} {z = Saving c h j e (Half v)} {t = Saving c h j (e + 1) Whole} (λ m n. []) f ne (λ i. i.0) (λ m n. tt))

  -- its twin is up
  pub row_twins_broken : {r : Round} {g h j x : ℕ} {c : Cause} (e : (j == h) ≡ false) → RowActs s o (twins_broken {r = r} {g = g} {h = h} {j = j} {x = x} {c = c} e)
  row_twins_broken {r} {g} {h} {j} {x} {c} e f = go (cases_eq g s.g)
    where
      quiet : (k : Option ℕ) → is_silent k P.Raise ≡ true
      quiet None = refl
      quiet (Some n) = refl

      last : (rest : Mode) (d : Bool) → mode_view s.i rest d (Saving c h j s.u.lay.words Whole) ≡ Break_end
      last rest d = block_last s.i s.u.lay.words Break_load Break_load Break_end s.i_in

      words : g ≡ s.g → Words s.h s.g s.i s.u (done s.u.lay s.ws (Put (Twined j g) 1)) s.x
      words d =
          control_words s (Put (Twined j g) 1) f.within j (refl, d) (λ away. turn_kept s {z = Saving c h j s.u.lay.words Whole} j f d refl away)
          (λ away ne. (s.match.words.each j away).fetched_is (λ q. ne (stays s (Put (Twined j g) 1) f.within (Update j s.g) (away.0, s.g_in) (λ w. absurd (cc w)) ∙ q)))
          (λ away _. store_plain (s.x.nodes j).mode ∙ ap may_store (visit_open {z = Saving c h j s.u.lay.words Whole} j f d away refl ∙ last (rest_of s.h s.g s.i s.u s.ws j) (has_flushed (s.pages (Some j)).page.work)))
          (ap (λ q. q == 2) (stays s (Put (Twined j g) 1) f.within (Dir s.h s.g) (s.h_in, s.g_in) (λ q. absurd (cc q))) ∙ s.match.words.home_is)

      go : (g ≡ s.g) ⊎ (g ≢ s.g) → Acted s (On r g (Ending c j)) (done s.u.lay s.ws (Put (Twined j g) 1)) (λ m n. []) (map (At (place_of s.h j) 0) (R.only (g == s.g && j == j) P.Raise))
      go (inl d) =
          control_here s {r = r} {k = g} {z = Saving c h j s.u.lay.words Whole} (Ending c j) (λ m n. []) (map (At (place_of s.h j) 0) (R.only (g == s.g && j == j) P.Raise)) j f (silent_only (place_of s.h j) 0 (g == s.g && j == j) P.Raise (quiet (place_of s.h j))) (λ m n. tt) refl refl refl refl d (words d)
          (λ away b b'. sym (last (rest_of s.h s.g s.i s.u s.ws j) b))
      go (inr ne) = rw (and_false (g == s.g) (j == j) (ne_eqb g s.g ne)) (other_row s {r = r} {k = g} {z = Saving c h j s.u.lay.words Whole} {t = Ending c j} (λ m n. []) f ne (λ i. i) (λ m n. tt))

  -- the break ends: the home counts a send, told at once, of the node
  pub row_breaks : {r : Round} {g j x : ℕ} {c : Cause} → RowActs s o (breaks {r = r} {g = g} {j = j} {x = x} {c = c})
  row_breaks {r} {g} {j} {x} {c} f = go (cases_eq g s.g) (cases_eq j s.h)
    where
      es : (m n : ℕ) → List S.Event
      es m n = FE.step_events m n s.g s.u {maps = o.maps} {dirty = o.dirty} (breaks {r = r} {g = g} {j = j} {x = x} {c = c})

      j_in : j < s.u.lay.nodes
      j_in = f.within.0

      -- the copies that see a send, and those that do not
      which : g ≡ s.g → (m n : ℕ) → m ≢ n → ((m ≡ j) × (es m n ≡ S.Break ∷ [])) ⊎ ((m ≢ j) × AllQuiet (es m n))
      which d m n ne = rw (eq-eqb g s.g d) (each (cases_eq m j) (cases_eq j n))
        where
          each : (m ≡ j) ⊎ (m ≢ j) → (j ≡ n) ⊎ (j ≢ n) → ((m ≡ j) × ((if j == n then S.Share ∷ [] else FE.only (j == m) S.Break) ≡ S.Break ∷ [])) ⊎ ((m ≢ j) × AllQuiet (if j == n then S.Share ∷ [] else FE.only (j == m) S.Break))
          each (inl e) (inl w) = absurd (ne (e ∙ w))
          each (inl e) (inr w) = inl (e, rw (ne_eqb j n w) (rw (eq-eqb j m (sym e)) refl))
          each (inr e) (inl w) = inr (e, rw (eq-eqb j n w) (refl, tt))
          each (inr e) (inr w) = inr (e, rw (ne_eqb j n w) (rw (ne_eqb j m (λ q. e (sym q))) tt))

      spot_ne : (m : ℕ) → m ≢ j → spot s.h s.u m ≢ spot s.h s.u j
      spot_ne m ne e = each (cases_eq m s.h) (cases_eq j s.h)
        where
          each : (m ≡ s.h) ⊎ (m ≢ s.h) → (j ≡ s.h) ⊎ (j ≢ s.h) → ⊥
          each (inl p) (inl q) = ne (p ∙ sym q)
          each (inl p) (inr q) = let w = sym (spot_home s m p) ∙ e ∙ spot_away s j q in absurd (omega (arith, w))
          each (inr p) (inl q) = let w = sym (spot_away s m p) ∙ e ∙ spot_home s j q in absurd (omega (arith, w))
          each (inr p) (inr q) = let w = sym (spot_away s m p) ∙ e ∙ spot_away s j q in ne (omega (arith, w))

      at_spot : (t : ℕ → ℕ) (v m : ℕ) → m ≡ j → put t (spot s.h s.u j) v (spot s.h s.u m) ≡ v
      at_spot t v m e = ap (λ q. put t (spot s.h s.u j) v (spot s.h s.u q)) e ∙ put_same t (spot s.h s.u j) v

      off_spot : (t : ℕ → ℕ) (v m : ℕ) → m ≢ j → put t (spot s.h s.u j) v (spot s.h s.u m) ≡ t (spot s.h s.u m)
      off_spot t v m ne = put_other t (spot s.h s.u j) v (spot s.h s.u m) (spot_ne m ne)

      quietly : (m n : ℕ) → AllQuiet (es m n) → Alike (s.fresh m n) (fresh_left s es m n)
      quietly m n q = quiet_alike (n * s.u.lay.procs) (s.fresh m n) (es m n) q

      -- the numbers behind it
      numbers : g ≡ s.g → (c' : Count) → ((k : ℕ) → c'.sent k ≡ put s.c.sent (spot s.h s.u j) (suc (s.c.sent (spot s.h s.u j))) k) → ((k : ℕ) → c'.told k ≡ put s.c.told (spot s.h s.u j) (suc (s.c.sent (spot s.h s.u j))) k) → ((k : ℕ) → c'.broken k ≡ put s.c.broken (spot s.h s.u j) (suc (s.c.sent (spot s.h s.u j))) k)
          → ((n k : ℕ) → c'.got n k ≡ s.c.got n k) → ((n k : ℕ) → c'.snap n k ≡ s.c.snap n k) → ((q k : ℕ) → c'.known q k ≡ s.c.known q k) → Counted s.h s.u (fresh_left s es) c'
      numbers d c' sends tells ends gets snap known =
          record {
            sent_is = λ m n l ne i. sends (spot s.h s.u m) ∙ pick_sent m n l ne i (which d m n ne);
            told_is = λ m n l ne i. tells (spot s.h s.u m) ∙ pick_told m n l ne i (which d m n ne);
            broken_is = λ m n l ne i. ends (spot s.h s.u m) ∙ pick_broken m n l ne i (which d m n ne);
            got_is = λ m n l ne i. gets n (spot s.h s.u m) ∙ s.match.counted.got_is m n l ne i ∙ pick_got m n (which d m n ne);
            known_is = λ m n q l ne i q_in at. known q (spot s.h s.u m) ∙ s.match.counted.known_is m n q l ne i q_in at ∙ pick_known m n q (which d m n ne);
            snap_is = λ m n q e t b l ne i w. snap n (spot s.h s.u m) ∙ s.match.counted.snap_is m n q e t b l ne i (pick_open m n q e t b (which d m n ne) w);
            silent = λ k none. let z = s.match.counted.silent k none in (
              tells k ∙ put_other s.c.told (spot s.h s.u j) (suc (s.c.sent (spot s.h s.u j))) k (none j j_in) ∙ z.0,
              ends k ∙ put_other s.c.broken (spot s.h s.u j) (suc (s.c.sent (spot s.h s.u j))) k (none j j_in) ∙ z.1,
              λ q. known q k ∙ z.2 q,
            );
          }
        where
          one_more : (m n : ℕ) → m < s.u.lay.nodes → m ≢ n → IsAway s.h s.u n → m ≡ j → suc (s.c.sent (spot s.h s.u j)) ≡ suc (s.fresh m n).page.sent
          one_more m n l ne i e = ap suc (ap (λ q. s.c.sent (spot s.h s.u q)) (sym e) ∙ s.match.counted.sent_is m n l ne i)

          pick_sent : (m n : ℕ) → m < s.u.lay.nodes → m ≢ n → IsAway s.h s.u n → ((m ≡ j) × (es m n ≡ S.Break ∷ [])) ⊎ ((m ≢ j) × AllQuiet (es m n)) → put s.c.sent (spot s.h s.u j) (suc (s.c.sent (spot s.h s.u j))) (spot s.h s.u m) ≡ (fresh_left s es m n).page.sent
          pick_sent m n l ne i (inl w) = at_spot s.c.sent (suc (s.c.sent (spot s.h s.u j))) m w.0 ∙ one_more m n l ne i w.0 ∙ sym (ap (λ z. (S.after (n * s.u.lay.procs) (s.fresh m n) z).page.sent) w.1)
          pick_sent m n l ne i (inr w) = off_spot s.c.sent (suc (s.c.sent (spot s.h s.u j))) m w.0 ∙ s.match.counted.sent_is m n l ne i ∙ sym (quietly m n w.1).sent_is

          pick_told : (m n : ℕ) → m < s.u.lay.nodes → m ≢ n → IsAway s.h s.u n → ((m ≡ j) × (es m n ≡ S.Break ∷ [])) ⊎ ((m ≢ j) × AllQuiet (es m n)) → put s.c.told (spot s.h s.u j) (suc (s.c.sent (spot s.h s.u j))) (spot s.h s.u m) ≡ (fresh_left s es m n).page.told
          pick_told m n l ne i (inl w) = at_spot s.c.told (suc (s.c.sent (spot s.h s.u j))) m w.0 ∙ one_more m n l ne i w.0 ∙ sym (ap (λ z. (S.after (n * s.u.lay.procs) (s.fresh m n) z).page.told) w.1)
          pick_told m n l ne i (inr w) = off_spot s.c.told (suc (s.c.sent (spot s.h s.u j))) m w.0 ∙ s.match.counted.told_is m n l ne i ∙ sym (quietly m n w.1).told_is

          pick_broken : (m n : ℕ) → m < s.u.lay.nodes → m ≢ n → IsAway s.h s.u n → ((m ≡ j) × (es m n ≡ S.Break ∷ [])) ⊎ ((m ≢ j) × AllQuiet (es m n)) → put s.c.broken (spot s.h s.u j) (suc (s.c.sent (spot s.h s.u j))) (spot s.h s.u m) ≡ (fresh_left s es m n).page.broken
          pick_broken m n l ne i (inl w) = at_spot s.c.broken (suc (s.c.sent (spot s.h s.u j))) m w.0 ∙ one_more m n l ne i w.0 ∙ sym (ap (λ z. (S.after (n * s.u.lay.procs) (s.fresh m n) z).page.broken) w.1)
          pick_broken m n l ne i (inr w) = off_spot s.c.broken (suc (s.c.sent (spot s.h s.u j))) m w.0 ∙ s.match.counted.broken_is m n l ne i ∙ sym (quietly m n w.1).broken_is

          pick_got : (m n : ℕ) → ((m ≡ j) × (es m n ≡ S.Break ∷ [])) ⊎ ((m ≢ j) × AllQuiet (es m n)) → (s.fresh m n).page.got ≡ (fresh_left s es m n).page.got
          pick_got m n (inl w) = sym (ap (λ z. (S.after (n * s.u.lay.procs) (s.fresh m n) z).page.got) w.1)
          pick_got m n (inr w) = sym (quietly m n w.1).got_is

          pick_known : (m n q : ℕ) → ((m ≡ j) × (es m n ≡ S.Break ∷ [])) ⊎ ((m ≢ j) × AllQuiet (es m n)) → ((s.fresh m n).processors q).known ≡ ((fresh_left s es m n).processors q).known
          pick_known m n q (inl w) =
              sym (ap (λ z. ((S.after (n * s.u.lay.procs) (s.fresh m n) z).processors q).known) w.1
              ∙ put_kept (λ (z : S.Processor). z.known) (s.fresh m n).processors 0 ((s.fresh m n).processors 0) refl q)
          pick_known m n q (inr w) = sym ((quietly m n w.1).known_is q)

          pick_open : (m n q e t : ℕ) (b : Bool) → ((m ≡ j) × (es m n ≡ S.Break ∷ [])) ⊎ ((m ≢ j) × AllQuiet (es m n)) → (fresh_left s es m n).page.work ≡ F.Open q b t e → (s.fresh m n).page.work ≡ F.Open q b t e
          pick_open m n q e t b (inl w) z = sym (ap (λ y. (S.after (n * s.u.lay.procs) (s.fresh m n) y).page.work) w.1) ∙ z
          pick_open m n q e t b (inr w) z = (quietly m n w.1).open_is q e t b z

      -- at the home
      home_row : g ≡ s.g → j ≡ s.h → Acted s (On r g (Broken c j)) (done s.u.lay s.ws (Put (Dir j g) 1)) es (At None 0 P.End_home ∷ [])
      home_row d e =
          let ms : List Move = At None 0 P.End_home ∷ [] in
          let x' : W.State = W.after_event (place s) s.x W.Home_break in
          by_events s {es = es} ms (W.Home_break ∷ []) refl (tt, tt) ((λ r' i. home_asks (place s) s.x s.c s.d r'), tt)
          (record {
            words = words_at s (Put (Dir j g) 1) f.within j x' (λ n ne at z. ne (sym z.0)) (λ n ne. refl) (λ away. absurd (away.1 e)) (s.match.words.none j)
                (stays s (Put (Dir j g) 1) f.within (Frame s.h s.g s.i) (s.h_in, s.g_in, s.i_in) (λ q. absurd (cc q)) ∙ s.match.words.master_is)
                (ap (λ q. q == 2) ((λ q. word s.u.lay (done s.u.lay s.ws (Put (Dir j g) 1)) (Dir (sym e q) (sym d q))) ∙ becomes s (Put (Dir j g) 1) f.within));
            counted = numbers d (count s.x W.Home_break s.c)
                (λ k. ap (λ w. put s.c.sent w (suc (s.c.sent w)) k) (sym (spot_home s j e)))
                (λ k. ap (λ w. put s.c.told w (suc (s.c.sent w)) k) (sym (spot_home s j e)))
                (λ k. ap (λ w. put s.c.broken w (suc (s.c.sent w)) k) (sym (spot_home s j e)))
                (λ n k. refl) (λ n k. refl) (λ q k. refl);
          })
          (on_knows s (done s.u.lay s.ws (Put (Dir j g) 1)) (fresh_left s es) (pages_left s ms) x' (count s.x W.Home_break s.c) r g (Broken c j) refl refl
          (λ n away d' tu. absurd (away.1 (sym (ap turn_node tu) ∙ e))))

      -- at another node
      away_row : g ≡ s.g → j ≢ s.h → Acted s (On r g (Broken c j)) (done s.u.lay s.ws (Put (Dir j g) 1)) es (At (Some j) 0 P.End ∷ [])
      away_row d off =
          let ms : List Move = At (Some j) 0 P.End ∷ [] in
          let x' : W.State = W.after_event (place s) s.x (W.Op j) in
          let c' : Count = count s.x (W.Op j) s.c in
          by_events s {es = es} ms (W.Op j ∷ []) refl (tt, tt) ((λ r' i. op_asks (place s) s.x s.c s.d j r'), tt)
          (record { words = words; counted = counted })
          (on_knows s (done s.u.lay s.ws (Put (Dir j g) 1)) (fresh_left s es) (pages_left s ms) x' c' r g (Broken c j) refl refl
          (λ n _ _ tu. let is : j ≡ n = ap turn_node tu in
          subst (λ q. plain (x'.nodes q).mode ≡ rest_of s.h s.g s.i s.u (done s.u.lay s.ws (Put (Dir j g) 1)) q) is (mode_behind s (Put (Dir j g) 1) f.within j away Break_end open_is ∙ sym twinned)))
        where
          away : IsAway s.h s.u j
          away = (j_in, off)

          open_is : plain (s.x.nodes j).mode ≡ Break_end
          open_is = visit_open {z = Ending c j} j f d away refl

          mode_is : (s.x.nodes j).mode ≡ Break_end
          mode_is = break_end_is (s.x.nodes j).mode open_is

          at : AtTurn s.u.lay.nodes s.b.home (node_of s.u) j (s.b.nodes j) (O.Ending (why c) j)
          at = at_turn s (O.Ending (why c) j) j (stage_is s {z = Ending c j} f d) refl

          not_home : s.b.home ≢ suc j
          not_home e = each s.home
            where
              each : (s.b.home ≡ 0) ⊎ (s.b.home ≡ suc s.h) → ⊥
              each (inl z) = absurd (cc (sym z ∙ e))
              each (inr z) = let w = sym z ∙ e in off (omega (arith, w))

          twin_up : word s.u.lay (done s.u.lay s.ws (Put (Dir j g) 1)) (Twined j s.g) ≡ 1
          twin_up = stays s (Put (Dir j g) 1) f.within (Twined j s.g) (j_in, s.g_in) (λ q. absurd (cc q)) ∙ s.owned.twined j j_in ∙ ap bit (at.1 not_home)

          low : word s.u.lay (done s.u.lay s.ws (Put (Dir j g) 1)) (Dir j s.g) ≡ 1
          low = (λ q. word s.u.lay (done s.u.lay s.ws (Put (Dir j g) 1)) (Dir j (sym d q))) ∙ becomes s (Put (Dir j g) 1) f.within

          twinned : rest_of s.h s.g s.i s.u (done s.u.lay s.ws (Put (Dir j g) 1)) j ≡ Twinned
          twinned = λ q. resting (low q) (twin_up q)

          words : Words s.h s.g s.i s.u (done s.u.lay s.ws (Put (Dir j g) 1)) (W.after_event (place s) s.x (W.Op j))
          words =
              let y = s.match.words.each j away in
              op_words s (Put (Dir j g) 1) f.within j away Break_end open_is (λ n ne _ z. ne (sym z.0))
              (stays s (Put (Dir j g) 1) f.within (Frame s.h s.g s.i) (s.h_in, s.g_in, s.i_in) (λ q. absurd (cc q)) ∙ s.match.words.master_is)
              (stays s (Put (Dir j g) 1) f.within (Frame j s.g s.i) (j_in, s.g_in, s.i_in) (λ q. absurd (cc q)) ∙ y.frame_is)
              (stays s (Put (Dir j g) 1) f.within (Twin j s.g s.i) (j_in, s.g_in, s.i_in) (λ q. absurd (cc q)) ∙ y.twin_is)
              (ap (λ q. q == 2) (stays s (Put (Dir j g) 1) f.within (Dir s.h s.g) (s.h_in, s.g_in) (λ q. off (sym (cc q)))) ∙ s.match.words.home_is)
              (λ ne. op_keeps_fetched (s.x.nodes j).fetched (s.x.nodes j).mode (y.fetched_is (λ z. ne (stays s (Put (Dir j g) 1) f.within (Update j s.g) (j_in, s.g_in) (λ q. absurd (cc q)) ∙ z))))
              (λ z. sym twinned)
              (λ z. op_may s.x.master s.x.progress (s.x.nodes j).frame (s.x.nodes j).twin (s.x.nodes j).mode (ap may_store mode_is))

          counted : Counted s.h s.u (fresh_left s es) (count s.x (W.Op j) s.c)
          counted =
              numbers d (count s.x (W.Op j) s.c)
              (λ k. ap (λ q. put s.c.sent (suc j) (op_sent (s.c.sent (suc j)) q) k) mode_is ∙ ap (λ w. put s.c.sent w (suc (s.c.sent w)) k) (sym (spot_away s j off)))
              (λ k. ap (λ q. put s.c.told (suc j) (op_told (s.c.sent (suc j)) (s.c.told (suc j)) q) k) mode_is ∙ ap (λ w. put s.c.told w (suc (s.c.sent w)) k) (sym (spot_away s j off)))
              (λ k. ap (λ q. put s.c.broken (suc j) (op_last_break (s.c.sent (suc j)) (s.c.broken (suc j)) q) k) mode_is ∙ ap (λ w. put s.c.broken w (suc (s.c.sent w)) k) (sym (spot_away s j off)))
              (λ n k. ap (λ (z : ℕ → ℕ). z k) (put_what s.c.got j (λ l. op_got (s.c.snap j l) (s.c.got j l) (s.x.nodes j).mode) (λ z l. ap (op_got (s.c.snap j l) (s.c.got j l)) mode_is z) n))
              (λ n k. refl) (λ q k. refl)

      go : (g ≡ s.g) ⊎ (g ≢ s.g) → (j ≡ s.h) ⊎ (j ≢ s.h) → Acted s (On r g (Broken c j)) (done s.u.lay s.ws (Put (Dir j g) 1)) es (map (At (place_of s.h j) 0) (R.only (g == s.g && j == j) (if j == s.h then P.End_home else P.End)))
      go (inr ne) w = rw (and_false (g == s.g) (j == j) (ne_eqb g s.g ne)) (other_row s {r = r} {k = g} {z = Ending c j} {t = Broken c j} es f ne (λ i. i) (λ m n. unseen m n))
        where
          unseen : (m n : ℕ) → AllQuiet (es m n)
          unseen m n = rw (ne_eqb g s.g ne) tt
      go (inl d) (inl e) = rw (and_true (g == s.g) (j == j) (eq-eqb g s.g d) (eq-eqb j j refl)) (rw (place_home s.h j e) (rw (eq-eqb j s.h e) (home_row d e)))
      go (inl d) (inr e) = rw (and_true (g == s.g) (j == j) (eq-eqb g s.g d) (eq-eqb j j refl)) (rw (place_away s.h j e) (rw (ne_eqb j s.h e) (away_row d e)))

  -- the turn is given back
  pub row_departs : {r : Round} {g j x : ℕ} {c : Cause} → RowActs s o (departs {r = r} {g = g} {j = j} {x = x} {c = c})
  row_departs {r} {g} {j} {x} {c} f = by_none s {es = λ m n. []} [] tt (given s {z = Parted c j} j f refl (λ rest d. refl)) (over c)
    where
      over : (c : Cause) → Knows s.h s.g s.i s.u (done s.u.lay s.ws (Put (Turn j g) 0)) s.fresh s.pages s.x s.c (departed r g c j)
      over (Fault write h busy) = on_knows s (done s.u.lay s.ws (Put (Turn j g) 0)) s.fresh s.pages s.x s.c r g (Visiting write h busy (j + 1)) refl refl (λ n away d tu. absurd (cc tu))
      over Closing = off_knows s (done s.u.lay s.ws (Put (Turn j g) 0)) s.fresh s.pages s.x s.c (Closes (g + 1) 0)

  -- the turn of a copy is won for a visit, in a fault and in the closing work
  pub win_visits : {r : Round} {g h busy i : ℕ} {write : Bool} (j : ℕ) (lo : i ≤ j) (is : is_busy busy j ≡ true) (none : (k : ℕ) → i ≤ k → k < j → is_busy busy k ≡ false) → WinActs s o (visits {r = r} {g = g} {h = h} {busy = busy} {i = i} {write = write} j lo is none)
  win_visits {r} {g} {h} {busy} {i} {write} j lo is none f = won_row s (Looking (Fault write h busy) j) j f refl (λ rest d. refl) refl refl

  pub win_closes : {g j : ℕ} → WinActs s o (closes {g = g} {j = j})
  win_closes {g} {j} f = won_row s (Looking Closing j) j f refl (λ rest d. refl) refl refl

  -- the two notes of a break
  pub note_broken : {r : Round} {g j : ℕ} {c : Cause} → NoteActs s o (broken {r = r} {g = g} {j = j} {c = c})
  note_broken {r} {g} {j} {c} f = like_stay s {r = r} {k = g} {z = Broken c j} {t = Broadcast c j} (λ m n. []) [] f.knows tt (λ m n. tt) (record { turn = refl; same = λ rest d d'. refl; copied = refl; beginning = refl })

  pub note_broadcast : {r : Round} {g j : ℕ} {c : Cause} → NoteActs s o (broadcast {r = r} {g = g} {j = j} {c = c})
  note_broadcast {r} {g} {j} {c} f = like_stay s {r = r} {k = g} {z = Broadcast c j} {t = Parted c j} (λ m n. []) [] f.knows tt (λ m n. tt) (record { turn = refl; same = λ rest d d'. refl; copied = refl; beginning = refl })
