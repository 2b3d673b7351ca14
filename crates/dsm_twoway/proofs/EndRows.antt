-- Rows at the end of a page of a release: its turn is won, its twin dropped, its node unlisted, and the turn given back.
use Rattle.std.proofs.Common.{◌≡◌, ◌≢◌, ◌⊎◌, inl, inr, ℕ, ◌+◌, ◌*◌, ◌≤◌, ◌==◌, Bool, true, false, List, [], ◌∷◌, Option, None, Some, refl, sym, ap, ◌∙◌, subst, arith, if◌then◌else◌}
use Rattle.std.specs.Prelude.{map, ◌&&◌, slice_index_or}
use Rattle.std.proofs.lemmas.Bool.{cases_eq, eq-eqb, ne_eqb, eqb-true}
use Rattle.dsm_words.specs.declared.item.Item.{Item}
use Rattle.dsm_words.specs.declared.item.Item.TheVariants.{Frame, Twin, Twined, Dir, Update, Turn}
use Rattle.dsm_words.specs.Place.{IsWithin}
use Rattle.dsm_words.specs.Script.{Put, Change}
use Rattle.dsm_words.specs.Words.{word, done}
use Rattle.dsm_clock.specs.declared.turns.TurnId.TheVariants.{Page}
use Rattle.dsm_protocol.specs.Own.{Own, node_of}
use Rattle.dsm_protocol.specs.Stages.{Stage, Released, Untwining, Unlisting, Done, Round, Releasing, Cleaning, Off, On, stage_turn}
use Rattle.dsm_protocol.specs.Rows.{untwins, unlists, finishes, releases}
use Rattle.dsm_copies.specs.Modes.{Mode, Bare, Twinned, Flush_over, may_store}
use Rattle.dsm_copies.specs.Copies as W
use Rattle.dsm_copies.specs.Copies.{put}
use Rattle.dsm_copies.specs.Counts.{Count, count}
use Rattle.dsm_copies.specs.Premises.{Premise, Drops, Kept}
use Rattle.dsm_copies.specs.Debts.{Debts, AsksOf}
use Rattle.dsm_copies.specs.Joining.{onto}
use Rattle.dsm_owners.specs.Stages as O
use Rattle.dsm_ties.specs.Tied.{bit}
use Rattle.dsm_fresh.specs.Pages as S
use Rattle.dsm_debts.specs.Page as P
use Rattle.dsm_debts.specs.Joining.{At, has_flushed, OnOthers, event_at, AgreesAt}
use Rattle.dsm_debts.proofs.Facts.{Sound, is_flush, is_copied as is_done}
use Rattle.dsm_releases.specs.Events as R
use Rattle.dsm_releases.specs.Tied as RT
use Rattle.dsm_releases.specs.Views.{WorksAt}
use Rattle.dsm_freshness.specs.Events as FE
use Rattle.dsm_twoway.specs.Views.{plain, mode_view, resting}
use Rattle.dsm_twoway.specs.Events.{place_of}
use Rattle.dsm_twoway.specs.Tied.{IsAway, rest_of, is_copied, is_beginning, Copy, Words}
use Rattle.dsm_twoway.proofs.Modes.{store_plain, op_may, op_keeps_fetched}
use Rattle.dsm_twoway.proofs.Numbers.{AllQuiet, step_quiet}
use Rattle.dsm_twoway.proofs.Scene.{Scene, place, fresh_left, pages_left, RowActs, WinActs, Acted}
use Rattle.dsm_twoway.proofs.Changes.{stays, becomes, rest_stays, words_at}
use Rattle.dsm_twoway.proofs.Frame.{is_silent, by_events, by_none, numbers_stay, numbers_kept, off_knows, on_knows}
use Rattle.dsm_twoway.proofs.Ops.{put_same, put_other, op_words, op_equal}
use Rattle.dsm_twoway.proofs.Blocks.{turn_node, place_away, place_home, op_asks, at_turn, stage_is, open_here, turn_held, other_row}
use Rattle.dsm_twoway.proofs.TurnRows.{turn_words}
use Rattle.dsm_twoway.proofs.Calm.{works_here, works_there, flushed_away}

-- a flush that is told is all that is open
over_is : (x : Mode) → plain x ≡ Flush_over → x ≡ Flush_over
over_is Flush_over e = refl
over_is x e = absurd (cc e)

-- what is asked where a twin is dropped
drop_asks : (place : ℕ → Option ℕ) (x : W.State) (c : Count) (d : Debts) (n : ℕ) → (x.nodes n).mode ≡ Flush_over → (r : Premise) → OnOthers r → AsksOf place r x c d (W.Drop n)
drop_asks place x c d n e Drops i = absurd i
drop_asks place x c d n e Kept i = absurd i
drop_asks place x c d n e r i = tt

-- at the end of a page at the home nothing is done to the copies
end_silent : (p : ℕ) (sole : Bool) (w : P.Work) → is_silent None (R.finish_event p sole w) ≡ true
end_silent p sole (P.Posted q b j) = refl
end_silent p true w = refl
end_silent p false w = refl

module _ (s : Scene) where
  -- nothing is open at a node with no twin that is not exclusive
  resting_low : (d t : ℕ) → d ≤ 1 → resting d t ≡ resting 0 t
  resting_low d t l = rw (ne_eqb d 2 (λ e. absurd (omega (arith, e, l)))) refl

  module _ (o : Own) where
    -- the twin is dropped
    pub row_untwins : {r : Round} {g x : ℕ} {free : Bool} → RowActs s o (untwins {r = r} {g = g} {x = x} {free = free})
    row_untwins {r} {g} {x} {free} f = pick free (go (g == s.g) refl)
      where
        ws' : List ℕ
        ws' = done s.u.lay s.ws (Put (Twined (node_of s.u) g) 0)

        -- where it leads to
        IsNext : Stage → Type 0
        IsNext t = (stage_turn s.u g t ≡ Some (Page (node_of s.u) g)) × (is_copied t ≡ false) × (is_beginning t ≡ false) × ((rest : Mode) → mode_view s.i rest false t ≡ rest)

        pick : (b : Bool) → ((t : Stage) → IsNext t → Acted s (On r g t) ws' (λ m n. []) (map (At (place_of s.h (node_of s.u)) 0) (R.only (g == s.g && node_of s.u == node_of s.u) P.Drop))) → Acted s (On r g (if b then Unlisting else Done)) ws' (λ m n. []) (map (At (place_of s.h (node_of s.u)) 0) (R.only (g == s.g && node_of s.u == node_of s.u) P.Drop))
        pick true k = k Unlisting (refl, refl, refl, λ rest. refl)
        pick false k = k Done (refl, refl, refl, λ rest. refl)

        posted : g ≡ s.g → (j : ℕ) × ((s.pages (place_of s.h (node_of s.u))).page.work ≡ P.Posted s.u.p true j)
        posted d = let w = works_there s {z = Untwining free} f.here d refl in (w.0, w.1)

        off : g ≡ s.g → node_of s.u ≢ s.h
        off d = flushed_away s {z = Untwining free} f.here d (let w = posted d in rw (w.1) refl)

        low : g ≡ s.g → (s.b.nodes (node_of s.u)).dir ≤ 1
        low d = (at_turn s (O.Dropping (node_of s.u * s.u.lay.procs + s.u.lay.procs) _) (node_of s.u) (stage_is s {z = Untwining free} f d) refl).0

        drops : (t : Stage) → IsNext t → g ≡ s.g → node_of s.u ≢ s.h → Acted s (On r g t) ws' (λ m n. []) (At (Some (node_of s.u)) 0 P.Drop ∷ [])
        drops t next d away = by_events s {es = λ m n. []} (At (Some (node_of s.u)) 0 P.Drop ∷ []) (W.Drop (node_of s.u) ∷ []) refl (tt, tt) ((λ r' i. drop_asks (place s) s.x s.c s.d (node_of s.u) over r' i.0), tt)
            (record { words = words; counted = s.match.counted })
            (on_knows s ws' s.fresh (pages_left s (At (Some (node_of s.u)) 0 P.Drop ∷ [])) x' s.c r g t next.1 next.2
            (λ n at d' tu. let is : node_of s.u ≡ n = ap turn_node (sym next.0 ∙ tu) in subst (λ q. plain (x'.nodes q).mode ≡ mode_view s.i (rest_of s.h s.g s.i s.u ws' q) (has_flushed (pages_left s (At (Some (node_of s.u)) 0 P.Drop ∷ []) (Some q)).page.work) t) is behind))
          where
            over : (s.x.nodes (node_of s.u)).mode ≡ Flush_over
            over = over_is (s.x.nodes (node_of s.u)).mode (open_here s {z = Untwining free} f d away refl)

            y' : W.Node
            y' = record (s.x.nodes (node_of s.u)) { mode = Bare }

            x' : W.State
            x' = W.after_event (place s) s.x (W.Drop (node_of s.u))

            other : (it : Item) → it ≢ Twined (node_of s.u) s.g → it ≢ Twined (node_of s.u) g
            other it ne e = ne (subst (λ z. it ≡ Twined (node_of s.u) z) d e)

            gone : word s.u.lay ws' (Twined (node_of s.u) s.g) ≡ 0
            gone = subst (λ z. word s.u.lay ws' (Twined (node_of s.u) z) ≡ 0) d (becomes s (Put (Twined (node_of s.u) g) 0) f.within)

            kept : (it : Item) → IsWithin s.u.lay it → it ≢ Twined (node_of s.u) s.g → word s.u.lay ws' it ≡ word s.u.lay s.ws it
            kept it i ne = stays s (Put (Twined (node_of s.u) g) 0) f.within it i (other it ne)

            dir_is : word s.u.lay ws' (Dir (node_of s.u) s.g) ≡ (s.b.nodes (node_of s.u)).dir
            dir_is = kept (Dir (node_of s.u) s.g) (s.at.node_in, s.g_in) (λ e. absurd (cc e)) ∙ s.owned.dir (node_of s.u) s.at.node_in

            copy : Copy s.h s.g s.i s.u ws' (node_of s.u) y'
            copy =
                let c = s.match.words.each (node_of s.u) (s.at.node_in, away) in
                record {
                  frame_is = kept (Frame (node_of s.u) s.g s.i) (s.at.node_in, s.g_in, s.i_in) (λ e. absurd (cc e)) ∙ c.frame_is;
                  twin_is = kept (Twin (node_of s.u) s.g s.i) (s.at.node_in, s.g_in, s.i_in) (λ e. absurd (cc e)) ∙ c.twin_is;
                  fetched_is = λ ne. c.fetched_is (λ z. ne (kept (Update (node_of s.u) s.g) (s.at.node_in, s.g_in) (λ e. absurd (cc e)) ∙ z));
                  rest_is = λ z. absurd (turn_held s {z = Untwining free} f d refl (sym (kept (Turn (node_of s.u) s.g) (s.at.node_in, s.g_in) (λ e. absurd (cc e))) ∙ z));
                  rights = none;
                }
              where
                none : (word s.u.lay ws' (Twined (node_of s.u) s.g) ≡ 1) ⊎ (word s.u.lay ws' (Dir (node_of s.u) s.g) ≡ 2) → may_store Bare ≡ true
                none (inl e) = absurd (cc (sym gone ∙ e))
                none (inr e) = let z = sym dir_is ∙ e in let l = low d in absurd (omega (arith, z, l))

            words : Words s.h s.g s.i s.u ws' x'
            words = words_at s (Put (Twined (node_of s.u) g) 0) f.within (node_of s.u) x' (λ n ne at z. ne (sym z.0)) (λ n ne. put_other s.x.nodes (node_of s.u) y' n ne)
                (λ at. subst (Copy s.h s.g s.i s.u ws' (node_of s.u)) (sym (put_same s.x.nodes (node_of s.u) y')) copy) (λ out. ap (λ (z : W.Node). z.mode) (put_same s.x.nodes (node_of s.u) y'))
                (kept (Frame s.h s.g s.i) (s.h_in, s.g_in, s.i_in) (λ e. absurd (cc e)) ∙ s.match.words.master_is)
                (ap (λ z. z == 2) (kept (Dir s.h s.g) (s.h_in, s.g_in) (λ e. absurd (cc e))) ∙ s.match.words.home_is)

            unflushed : has_flushed (pages_left s (At (Some (node_of s.u)) 0 P.Drop ∷ []) (Some (node_of s.u))).page.work ≡ false
            unflushed = let w = works_here s {z = Untwining free} f.here d away refl in rw (eq-eqb (node_of s.u) (node_of s.u) refl) (rw (w.1) refl)

            behind : plain (x'.nodes (node_of s.u)).mode ≡ mode_view s.i (rest_of s.h s.g s.i s.u ws' (node_of s.u)) (has_flushed (pages_left s (At (Some (node_of s.u)) 0 P.Drop ∷ []) (Some (node_of s.u))).page.work) t
            behind = ap (λ (z : W.Node). plain z.mode) (put_same s.x.nodes (node_of s.u) y') ∙ sym rests ∙ sym (next.3 (rest_of s.h s.g s.i s.u ws' (node_of s.u))) ∙ ap (λ z. mode_view s.i (rest_of s.h s.g s.i s.u ws' (node_of s.u)) z t) (sym unflushed)
              where
                rests : rest_of s.h s.g s.i s.u ws' (node_of s.u) ≡ Bare
                rests = ap (λ z. resting (word s.u.lay ws' (Dir (node_of s.u) s.g)) z) gone ∙ ap (λ z. resting z 0) dir_is ∙ resting_low (s.b.nodes (node_of s.u)).dir 0 (low d)

        go : (c : Bool) → (g == s.g) ≡ c → (t : Stage) → IsNext t → Acted s (On r g t) ws' (λ m n. []) (map (At (place_of s.h (node_of s.u)) 0) (R.only (c && node_of s.u == node_of s.u) P.Drop))
        go false c t next = other_row s {z = Untwining free} {t = t} (λ m n. []) f (λ d. absurd (cc (sym c ∙ eq-eqb g s.g d))) (λ i. i) (λ m n. tt)
        go true c t next = rw (eq-eqb (node_of s.u) (node_of s.u) refl) (rw (place_away s.h (node_of s.u) (off (eqb-true g s.g c))) (drops t next (eqb-true g s.g c) (off (eqb-true g s.g c))))

    -- the node leaves
    pub row_unlists : {r : Round} {g x : ℕ} → RowActs s o (unlists {r = r} {g = g} {x = x})
    row_unlists {r} {g} {x} f = go (cases_eq g s.g)
      where
        es : (m n : ℕ) → List S.Event
        es m n = FE.step_events m n s.g s.u {maps = o.maps} {dirty = o.dirty} (unlists {r = r} {g = g} {x = x})

        quiet : (m n : ℕ) → AllQuiet (es m n)
        quiet m n = step_quiet m n s.g s.u {ms = o.maps} {ds = o.dirty} (unlists {r = r} {g = g} {x = x}) refl

        ws' : List ℕ
        ws' = done s.u.lay s.ws (Put (Dir (node_of s.u) g) 0)

        here : g ≡ s.g → Acted s (On r g Done) ws' es []
        here d = by_none s {es = es} [] tt (record { words = words; counted = numbers_stay s es quiet })
            (on_knows s ws' (fresh_left s es) s.pages s.x s.c r g Done refl refl (λ n at d' tu. let is : node_of s.u ≡ n = ap turn_node tu in
            subst (λ q. IsAway s.h s.u q → plain (s.x.nodes q).mode ≡ mode_view s.i (rest_of s.h s.g s.i s.u ws' q) (has_flushed (s.pages (Some q)).page.work) Done) is behind at))
          where
            kept : (it : Item) → IsWithin s.u.lay it → it ≢ Dir (node_of s.u) s.g → word s.u.lay ws' it ≡ word s.u.lay s.ws it
            kept it i ne = stays s (Put (Dir (node_of s.u) g) 0) f.within it i (λ e. ne (subst (λ z. it ≡ Dir (node_of s.u) z) d e))

            gone : word s.u.lay ws' (Dir (node_of s.u) s.g) ≡ 0
            gone = subst (λ z. word s.u.lay ws' (Dir (node_of s.u) z) ≡ 0) d (becomes s (Put (Dir (node_of s.u) g) 0) f.within)

            low : word s.u.lay s.ws (Dir (node_of s.u) s.g) ≤ 1
            low = let z = s.owned.dir (node_of s.u) s.at.node_in in let l = (at_turn s O.Unlisting (node_of s.u) (stage_is s {z = Unlisting} f d) refl).0 in omega (arith, z, l)

            rests : rest_of s.h s.g s.i s.u ws' (node_of s.u) ≡ rest_of s.h s.g s.i s.u s.ws (node_of s.u)
            rests = ap (λ z. resting z (word s.u.lay ws' (Twined (node_of s.u) s.g))) gone ∙ ap (λ z. resting 0 z) (kept (Twined (node_of s.u) s.g) (s.at.node_in, s.g_in) (λ e. absurd (cc e))) ∙ sym (resting_low (word s.u.lay s.ws (Dir (node_of s.u) s.g)) (word s.u.lay s.ws (Twined (node_of s.u) s.g)) low)

            behind : IsAway s.h s.u (node_of s.u) → plain (s.x.nodes (node_of s.u)).mode ≡ mode_view s.i (rest_of s.h s.g s.i s.u ws' (node_of s.u)) (has_flushed (s.pages (Some (node_of s.u))).page.work) Done
            behind away = f.here.knows.mode (node_of s.u) away (ap (λ w. Some (Page (node_of s.u) w)) d) d ∙ ap (λ w. mode_view s.i w (has_flushed (s.pages (Some (node_of s.u))).page.work) Done) (sym rests)

            copy : IsAway s.h s.u (node_of s.u) → Copy s.h s.g s.i s.u ws' (node_of s.u) (s.x.nodes (node_of s.u))
            copy away =
                let c = s.match.words.each (node_of s.u) away in
                record {
                  frame_is = kept (Frame (node_of s.u) s.g s.i) (s.at.node_in, s.g_in, s.i_in) (λ e. absurd (cc e)) ∙ c.frame_is;
                  twin_is = kept (Twin (node_of s.u) s.g s.i) (s.at.node_in, s.g_in, s.i_in) (λ e. absurd (cc e)) ∙ c.twin_is;
                  fetched_is = λ ne. c.fetched_is (λ z. ne (kept (Update (node_of s.u) s.g) (s.at.node_in, s.g_in) (λ e. absurd (cc e)) ∙ z));
                  rest_is = λ z. absurd (turn_held s {z = Unlisting} f d refl (sym (kept (Turn (node_of s.u) s.g) (s.at.node_in, s.g_in) (λ e. absurd (cc e))) ∙ z));
                  rights = λ z. c.rights (either z);
                }
              where
                either : (word s.u.lay ws' (Twined (node_of s.u) s.g) ≡ 1) ⊎ (word s.u.lay ws' (Dir (node_of s.u) s.g) ≡ 2) → (word s.u.lay s.ws (Twined (node_of s.u) s.g) ≡ 1) ⊎ (word s.u.lay s.ws (Dir (node_of s.u) s.g) ≡ 2)
                either (inl e) = inl (sym (kept (Twined (node_of s.u) s.g) (s.at.node_in, s.g_in) (λ e. absurd (cc e))) ∙ e)
                either (inr e) = absurd (cc (sym gone ∙ e))

            home : (node_of s.u ≡ s.h) ⊎ (node_of s.u ≢ s.h) → (word s.u.lay ws' (Dir s.h s.g) == 2) ≡ s.x.home_exclusive
            home (inl e) = ap (λ z. z == 2) (subst (λ z. word s.u.lay ws' (Dir z s.g) ≡ 0) e gone) ∙ sym (ne_eqb (word s.u.lay s.ws (Dir s.h s.g)) 2 (λ z. let l = subst (λ q. word s.u.lay s.ws (Dir q s.g) ≤ 1) e low in absurd (omega (arith, z, l)))) ∙ s.match.words.home_is
            home (inr ne) = ap (λ z. z == 2) (kept (Dir s.h s.g) (s.h_in, s.g_in) (λ e. ne (sym (dir_node e)))) ∙ s.match.words.home_is
              where
                dir_at : Item → ℕ
                dir_at (Dir k e) = k
                dir_at it = 0

                dir_node : Dir s.h s.g ≡ Dir (node_of s.u) s.g → s.h ≡ node_of s.u
                dir_node e = ap dir_at e

            words : Words s.h s.g s.i s.u ws' s.x
            words = words_at s (Put (Dir (node_of s.u) g) 0) f.within (node_of s.u) s.x (λ n ne at z. ne (sym z.0)) (λ n ne. refl) copy (s.match.words.none (node_of s.u))
                (kept (Frame s.h s.g s.i) (s.h_in, s.g_in, s.i_in) (λ e. absurd (cc e)) ∙ s.match.words.master_is) (home (cases_eq (node_of s.u) s.h))

        go : (g ≡ s.g) ⊎ (g ≢ s.g) → Acted s (On r g Done) ws' es []
        go (inl d) = here d
        go (inr ne) = other_row s {z = Unlisting} {t = Done} es f ne (λ i. i) quiet

    -- the turn of a page of a release is won
    pub win_releases : {t0 g : ℕ} (e : slice_index_or o.dirty g false ≡ true) → WinActs s o (releases {t0 = t0} {g = g} e)
    win_releases {t0} {g} e f = by_none s {es = λ m n. []} [] tt
        (record { words = turn_words s (Change (Turn (node_of s.u) g) 0 (s.u.p + 1)) f.within (node_of s.u) g refl (λ d away z. absurd (held d z)); counted = s.match.counted })
        (on_knows s ws' s.fresh s.pages s.x s.c (Releasing t0 g) g Released refl refl (λ n away d tu. let is : node_of s.u ≡ n = ap turn_node tu in (s.match.words.each n away).rest_is (free n d is) ∙ sym (rest_stays s (Change (Turn (node_of s.u) g) 0 (s.u.p + 1)) f.within n (stays s (Change (Turn (node_of s.u) g) 0 (s.u.p + 1)) f.within (Dir n s.g) (away.0, s.g_in) (λ e. absurd (cc e))) (stays s (Change (Turn (node_of s.u) g) 0 (s.u.p + 1)) f.within (Twined n s.g) (away.0, s.g_in) (λ e. absurd (cc e))))))
      where
        ws' : List ℕ
        ws' = done s.u.lay s.ws (Change (Turn (node_of s.u) g) 0 (s.u.p + 1))

        left : (w : ℕ) → w ≡ 0 → (if w == 0 then s.u.p + 1 else w) ≡ 0 → ⊥
        left w is z = let y : s.u.p + 1 ≡ 0 = sym (rw (eq-eqb w 0 is) refl) ∙ z in absurd (omega (arith, y))

        held : g ≡ s.g → word s.u.lay ws' (Turn (node_of s.u) s.g) ≡ 0 → ⊥
        held d z = left (word s.u.lay s.ws (Turn (node_of s.u) g)) (sym f.told) (sym (becomes s (Change (Turn (node_of s.u) g) 0 (s.u.p + 1)) f.within) ∙ subst (λ w. word s.u.lay ws' (Turn (node_of s.u) w) ≡ 0) (sym d) z)

        free : (n : ℕ) → g ≡ s.g → node_of s.u ≡ n → word s.u.lay s.ws (Turn n s.g) ≡ 0
        free n d is = subst (λ w. word s.u.lay s.ws (Turn w s.g) ≡ 0) is (subst (λ w. word s.u.lay s.ws (Turn (node_of s.u) w) ≡ 0) d (sym f.told))

    -- the page is done
    pub row_finishes : {t0 g x : ℕ} → RowActs s o (finishes {t0 = t0} {g = g} {x = x})
    row_finishes {t0} {g} {x} f = go (g == s.g) refl (cases_eq (node_of s.u) s.h)
      where
        ws' : List ℕ
        ws' = done s.u.lay s.ws (Put (Turn (node_of s.u) g) 0)

        -- the last event of its page
        last : Option ℕ → P.Event
        last k = R.finish_event s.u.p (s.pages k).page.sole (s.pages k).page.work

        words : (g ≡ s.g → node_of s.u ≢ s.h → plain (s.x.nodes (node_of s.u)).mode ≡ rest_of s.h s.g s.i s.u s.ws (node_of s.u)) → Words s.h s.g s.i s.u ws' s.x
        words rest = turn_words s (Put (Turn (node_of s.u) g) 0) f.within (node_of s.u) g refl (λ d away z. rest d away.1)

        open_is : g ≡ s.g → node_of s.u ≢ s.h → (b : Bool) → has_flushed (s.pages (Some (node_of s.u))).page.work ≡ b → plain (s.x.nodes (node_of s.u)).mode ≡ (if b then Flush_over else rest_of s.h s.g s.i s.u s.ws (node_of s.u))
        open_is d off b e = open_here s {z = Done} f d off refl ∙ ap (λ z. if z then Flush_over else rest_of s.h s.g s.i s.u s.ws (node_of s.u)) e

        -- nothing is done to the copies
        bare : g ≡ s.g → node_of s.u ≢ s.h → onto (event_at (Some (node_of s.u)) (s.pages (Some (node_of s.u))).page.work 0 (last (Some (node_of s.u)))) [] ≡ [] → AgreesAt (place s) (Some (node_of s.u)) s.x (last (Some (node_of s.u))) → has_flushed (s.pages (Some (node_of s.u))).page.work ≡ false
            → Acted s (Off (Cleaning t0 g)) ws' (λ m n. []) (At (Some (node_of s.u)) 0 (last (Some (node_of s.u))) ∷ [])
        bare d off none agrees e = by_events s {es = λ m n. []} (At (Some (node_of s.u)) 0 (last (Some (node_of s.u))) ∷ []) [] none (agrees, tt) tt (record { words = words (λ d' off'. open_is d off false e); counted = s.match.counted }) (off_knows s ws' s.fresh (pages_left s (At (Some (node_of s.u)) 0 (last (Some (node_of s.u))) ∷ [])) s.x s.c (Cleaning t0 g))

        -- or a flush is over, and its twin stands
        over : g ≡ s.g → node_of s.u ≢ s.h → (j : ℕ) → (s.pages (Some (node_of s.u))).page.work ≡ P.Posted s.u.p true j → Acted s (Off (Cleaning t0 g)) ws' (λ m n. []) (At (Some (node_of s.u)) 0 (last (Some (node_of s.u))) ∷ [])
        over d off j e = by_events s {es = λ m n. []} (At (Some (node_of s.u)) 0 (last (Some (node_of s.u))) ∷ []) (W.Op (node_of s.u) ∷ [])
            (subst (λ w. onto (event_at (Some (node_of s.u)) w 0 (R.finish_event s.u.p (s.pages (Some (node_of s.u))).page.sole w)) [] ≡ W.Op (node_of s.u) ∷ []) (sym e) refl)
            (subst (λ w. AgreesAt (place s) (Some (node_of s.u)) s.x (R.finish_event s.u.p (s.pages (Some (node_of s.u))).page.sole w)) (sym e) tt, tt)
            ((λ r' i. op_asks (place s) s.x s.c s.d (node_of s.u) r'), tt)
            (record { words = left; counted = numbers_kept s (λ m n. []) (count s.x (W.Op (node_of s.u)) s.c) (λ m n. tt) (op_equal s.x (node_of s.u) s.c Flush_over is refl) })
            (off_knows s ws' s.fresh (pages_left s (At (Some (node_of s.u)) 0 (last (Some (node_of s.u))) ∷ [])) (W.after_event (place s) s.x (W.Op (node_of s.u))) (count s.x (W.Op (node_of s.u)) s.c) (Cleaning t0 g))
          where
            is : plain (s.x.nodes (node_of s.u)).mode ≡ Flush_over
            is = open_is d off true (ap has_flushed e)

            kept : (it : Item) → IsWithin s.u.lay it → it ≢ Turn (node_of s.u) g → word s.u.lay ws' it ≡ word s.u.lay s.ws it
            kept it i ne = stays s (Put (Turn (node_of s.u) g) 0) f.within it i ne

            sound : Sound (node_of s.u == s.h) (s.pages (Some (node_of s.u))).page
            sound = subst (λ k. Sound (node_of s.u == s.h) (s.pages k).page) (place_away s.h (node_of s.u) off) (s.sound (node_of s.u) s.at.node_in)

            shown : RT.Match s.h (node_of s.u) s.g s.i s.u s.ws (s.pages (Some (node_of s.u)))
            shown = subst (λ k. RT.Match s.h (node_of s.u) s.g s.i s.u s.ws (s.pages k)) (place_away s.h (node_of s.u) off) (s.releases (node_of s.u) s.at.node_in)

            twin_up : (s.pages (Some (node_of s.u))).page.twin ≡ true
            twin_up = sound.flush_twin (ap is_flush e)

            twined : word s.u.lay s.ws (Twined (node_of s.u) s.g) ≡ 1
            twined = shown.twin ∙ ap bit twin_up

            shared : word s.u.lay s.ws (Dir (node_of s.u) s.g) ≢ 2
            shared z = none (sound.sole_bare (shown.alone z))
              where
                none : ((s.pages (Some (node_of s.u))).page.twin ≡ false) ⊎ (is_done (s.pages (Some (node_of s.u))).page.work ≡ true) → ⊥
                none (inl w) = absurd (cc (sym twin_up ∙ w))
                none (inr w) = absurd (cc (sym (ap is_done e) ∙ w))

            rests : rest_of s.h s.g s.i s.u ws' (node_of s.u) ≡ Twinned
            rests = rest_stays s (Put (Turn (node_of s.u) g) 0) f.within (node_of s.u) (kept (Dir (node_of s.u) s.g) (s.at.node_in, s.g_in) (λ e. absurd (cc e))) (kept (Twined (node_of s.u) s.g) (s.at.node_in, s.g_in) (λ e. absurd (cc e)))
                ∙ rw (ne_eqb (word s.u.lay s.ws (Dir (node_of s.u) s.g)) 2 shared) (rw (eq-eqb (word s.u.lay s.ws (Twined (node_of s.u) s.g)) 1 twined) refl)

            left : Words s.h s.g s.i s.u ws' (W.after_event (place s) s.x (W.Op (node_of s.u)))
            left =
                let m = s.match.words in
                let c = m.each (node_of s.u) (s.at.node_in, off) in
                op_words s (Put (Turn (node_of s.u) g) 0) f.within (node_of s.u) (s.at.node_in, off) Flush_over is (λ k ne away z. ne (sym z.0))
                (kept (Frame s.h s.g s.i) (s.h_in, s.g_in, s.i_in) (λ e. absurd (cc e)) ∙ m.master_is)
                (kept (Frame (node_of s.u) s.g s.i) (s.at.node_in, s.g_in, s.i_in) (λ e. absurd (cc e)) ∙ c.frame_is)
                (kept (Twin (node_of s.u) s.g s.i) (s.at.node_in, s.g_in, s.i_in) (λ e. absurd (cc e)) ∙ c.twin_is)
                (ap (λ z. z == 2) (kept (Dir s.h s.g) (s.h_in, s.g_in) (λ e. absurd (cc e))) ∙ m.home_is)
                (λ ne. op_keeps_fetched (s.x.nodes (node_of s.u)).fetched (s.x.nodes (node_of s.u)).mode (c.fetched_is (λ z. ne (kept (Update (node_of s.u) s.g) (s.at.node_in, s.g_in) (λ e. absurd (cc e)) ∙ z))))
                (λ z. sym rests)
                (λ z. op_may s.x.master s.x.progress (s.x.nodes (node_of s.u)).frame (s.x.nodes (node_of s.u)).twin (s.x.nodes (node_of s.u)).mode (store_plain (s.x.nodes (node_of s.u)).mode ∙ ap may_store is))

        -- by what is so of the work
        idle : (p : ℕ) (sole : Bool) → onto (event_at (Some (node_of s.u)) P.Idle 0 (R.finish_event p sole P.Idle)) [] ≡ []
        idle p true = refl
        idle p false = refl

        idle_agrees : (p : ℕ) (sole : Bool) → AgreesAt (place s) (Some (node_of s.u)) s.x (R.finish_event p sole P.Idle)
        idle_agrees p true = tt
        idle_agrees p false = tt

        leaves : g ≡ s.g → node_of s.u ≢ s.h → (s.pages (Some (node_of s.u))).page.work ≡ P.Idle → Acted s (Off (Cleaning t0 g)) ws' (λ m n. []) (At (Some (node_of s.u)) 0 (last (Some (node_of s.u))) ∷ [])
        leaves d off e = bare d off (subst (λ w. onto (event_at (Some (node_of s.u)) w 0 (R.finish_event s.u.p (s.pages (Some (node_of s.u))).page.sole w)) [] ≡ []) (sym e) (idle s.u.p (s.pages (Some (node_of s.u))).page.sole))
            (subst (λ w. AgreesAt (place s) (Some (node_of s.u)) s.x (R.finish_event s.u.p (s.pages (Some (node_of s.u))).page.sole w)) (sym e) (idle_agrees s.u.p (s.pages (Some (node_of s.u))).page.sole)) (ap has_flushed e)

        posted : g ≡ s.g → node_of s.u ≢ s.h → (b : Bool) (j : ℕ) → (s.pages (Some (node_of s.u))).page.work ≡ P.Posted s.u.p b j → Acted s (Off (Cleaning t0 g)) ws' (λ m n. []) (At (Some (node_of s.u)) 0 (last (Some (node_of s.u))) ∷ [])
        posted d off true j e = over d off j e
        posted d off false j e = bare d off (subst (λ w. onto (event_at (Some (node_of s.u)) w 0 (R.finish_event s.u.p (s.pages (Some (node_of s.u))).page.sole w)) [] ≡ []) (sym e) refl)
            (subst (λ w. AgreesAt (place s) (Some (node_of s.u)) s.x (R.finish_event s.u.p (s.pages (Some (node_of s.u))).page.sole w)) (sym e) tt) (ap has_flushed e)

        away : g ≡ s.g → node_of s.u ≢ s.h → WorksAt (node_of s.u == s.h) (node_of s.u * s.u.lay.procs) (node_of s.u * s.u.lay.procs + s.u.lay.procs) s.i s.u.p Done (s.pages (Some (node_of s.u))) → Acted s (Off (Cleaning t0 g)) ws' (λ m n. []) (At (Some (node_of s.u)) 0 (last (Some (node_of s.u))) ∷ [])
        away d off (inl w) = posted d off w.0.0 w.0.1 w.0.2
        away d off (inr (inl w)) = leaves d off w.0
        away d off (inr (inr w)) = leaves d off w.0.0

        go : (c : Bool) → (g == s.g) ≡ c → (node_of s.u ≡ s.h) ⊎ (node_of s.u ≢ s.h) → Acted s (Off (Cleaning t0 g)) ws' (λ m n. []) (map (At (place_of s.h (node_of s.u)) 0) (R.only (c && node_of s.u == node_of s.u) (last (place_of s.h (node_of s.u)))))
        go false c w = by_none s {es = λ m n. []} [] tt (record { words = words (λ d off. absurd (cc (sym c ∙ eq-eqb g s.g d))); counted = s.match.counted }) (off_knows s ws' s.fresh s.pages s.x s.c (Cleaning t0 g))
        go true c (inl w) = rw (eq-eqb (node_of s.u) (node_of s.u) refl) (rw (place_home s.h (node_of s.u) w) (by_none s {es = λ m n. []} (At None 0 (last None) ∷ []) (end_silent s.u.p (s.pages None).page.sole (s.pages None).page.work, tt) (record { words = words (λ d off. absurd (off w)); counted = s.match.counted }) (off_knows s ws' s.fresh (pages_left s (At None 0 (last None) ∷ [])) s.x s.c (Cleaning t0 g))))
        go true c (inr w) = rw (eq-eqb (node_of s.u) (node_of s.u) refl) (rw (place_away s.h (node_of s.u) w) (away (eqb-true g s.g c) w (works_here s {z = Done} f.here (eqb-true g s.g c) w refl)))
