-- Rows of a page of an acquire; and a turn that is won.
use Rattle.std.proofs.Common.{◌≡◌, ◌≢◌, ◌⊎◌, inl, inr, ℕ, ◌+◌, ◌*◌, ◌<◌, ◌≤◌, ◌==◌, Bool, true, false, List, [], Option, None, Some, refl, sym, ap, ◌∙◌, subst, arith, if◌then◌else◌}
use Rattle.std.specs.Prelude.{not, nat_lt, ◌&&◌, ◌||◌}
use Rattle.std.proofs.lemmas.Bool.{cases_eq, ne_eqb}
use Rattle.dsm_words.specs.declared.item.Item.{Item}
use Rattle.dsm_words.specs.declared.item.Item.TheVariants.{Frame, Twin, Twined, Dir, Update, Turn}
use Rattle.dsm_words.specs.Place.{IsWithin}
use Rattle.dsm_words.specs.Pages.{has_page}
use Rattle.dsm_words.specs.Script.{Act, Put, Change, item_of}
use Rattle.dsm_words.specs.Words.{word, done, left_in}
use Rattle.dsm_clock.specs.declared.turns.TurnId.TheVariants.{Page}
use Rattle.dsm_protocol.specs.Own.{Own, node_of}
use Rattle.dsm_protocol.specs.Stages.{Stage, Acquiring, Judging, Judged, Unmapping, Emptying, Emptied, Leaving, Over, Round, Told, Work, On, stage_turn}
use Rattle.dsm_protocol.specs.Rows.{Step, map_at, sees_acquire, compares_own, judges_own, unmaps, empties, sees_bare, leaves, gives_over, acquires, emptied}
use Rattle.dsm_copies.specs.Modes.{Mode}
use Rattle.dsm_owners.specs.Stages as O
use Rattle.dsm_fresh.specs.Pages as S
use Rattle.dsm_debts.specs.Page as P
use Rattle.dsm_debts.specs.Joining.{has_flushed}
use Rattle.dsm_freshness.specs.Events as FE
use Rattle.dsm_twoway.specs.Events.{place_of, step_moves}
use Rattle.dsm_twoway.specs.Views.{resting, mode_view}
use Rattle.dsm_twoway.specs.Tied.{IsAway, rest_of, is_copied, is_beginning, Copy, Words}
use Rattle.dsm_twoway.proofs.Numbers.{is_sending, step_quiet}
use Rattle.dsm_twoway.proofs.Scene.{Scene, fresh_left, RowActs, WinActs, SlipActs, Acted, Here, Meets}
use Rattle.dsm_twoway.proofs.Changes.{IsPart, stays, becomes, part_stays, rest_stays, words_stay, words_at}
use Rattle.dsm_twoway.proofs.Frame.{is_silent, AllSilent, by_none, numbers_stay, off_knows, on_knows, quiet_row}
use Rattle.dsm_twoway.proofs.Blocks.{at_turn, stage_is, turn_node}
use Rattle.dsm_twoway.proofs.TurnRows.{turn_words}
use Rattle.dsm_twoway.proofs.PlainRows.{silent_only}

unmap_silent : (k : Option ℕ) (q : ℕ) → is_silent k (P.Unmap q) ≡ true
unmap_silent None q = refl
unmap_silent (Some n) q = refl

-- one of two
either : {A : Type 0} (Q : A → Type 0) (d : Bool) (x y : A) → Q x → Q y → Q (if d then x else y)
either Q true x y p q = p
either Q false x y p q = q

-- where the word of the directory was not 2, and comes to be none at all, the same would be open
resting_left : (dir twined : ℕ) → dir ≤ 1 → resting 0 twined ≡ resting dir twined
resting_left dir twined l = rw (ne_eqb dir 2 (λ e. absurd (omega (arith, e, l)))) refl

module _ (s : Scene) where
  -- At both stages the same turn is held, and the same is open.
  pub record Calm (k : ℕ) (z t : Stage) : Type 0 where
    pub turn : stage_turn s.u k t ≡ stage_turn s.u k z
    pub same : (rest : Mode) (d d' : Bool) → mode_view s.i rest d' t ≡ mode_view s.i rest d z
    pub copied : is_copied t ≡ false
    pub beginning : is_beginning t ≡ false

  -- a turn that is won had nobody
  module _ {w : Work} {o : Own} (j k : ℕ) (f : Meets s w o (Change (Turn j k) 0 (s.u.p + 1)) 0) where
    won_free : word s.u.lay s.ws (Turn j k) ≡ 0
    won_free = sym f.told

    won_words : Words s.h s.g s.i s.u (done s.u.lay s.ws (Change (Turn j k) 0 (s.u.p + 1))) s.x
    won_words = turn_words s (Change (Turn j k) 0 (s.u.p + 1)) f.within j k refl (λ d away z. absurd (held (ap (λ y. word s.u.lay (done s.u.lay s.ws (Change (Turn j k) 0 (s.u.p + 1))) (Turn j y)) d ∙ z)))
      where
        held : word s.u.lay (done s.u.lay s.ws (Change (Turn j k) 0 (s.u.p + 1))) (Turn j k) ≡ 0 → ⊥
        held z = let e : s.u.p + 1 ≡ 0 = sym (ap (λ y. if y == 0 then s.u.p + 1 else y) won_free) ∙ sym (becomes s (Change (Turn j k) 0 (s.u.p + 1)) f.within) ∙ z in absurd (omega (arith, e))

    -- so that at a stage with nothing of its own open, what would be open is open
    pub win_on : {r : Round} {t : Stage} → stage_turn s.u k t ≡ Some (Page j k) → ((rest : Mode) (d : Bool) → mode_view s.i rest d t ≡ rest) → is_copied t ≡ false → is_beginning t ≡ false → Acted s (On r k t) (done s.u.lay s.ws (Change (Turn j k) 0 (s.u.p + 1))) (λ m n. []) []
    win_on {r} {t} tu view copied beginning =
        let a : Act = Change (Turn j k) 0 (s.u.p + 1) in
        let ws' : List ℕ = done s.u.lay s.ws a in
        by_none s {es = λ m n. []} [] tt (record { words = won_words; counted = numbers_stay s (λ m n. []) (λ m n. tt) })
        (on_knows s ws' s.fresh s.pages s.x s.c r k t copied beginning
        (λ n away d tu'. let at : j ≡ n = ap turn_node (sym tu ∙ tu') in
        (s.match.words.each n away).rest_is ((λ z. word s.u.lay s.ws (Turn (sym at z) (sym d z))) ∙ won_free)
        ∙ sym (rest_stays s a f.within n (stays s a f.within (Dir n s.g) (away.0, s.g_in) (λ e. absurd (cc e))) (stays s a f.within (Twined n s.g) (away.0, s.g_in) (λ e. absurd (cc e))))
        ∙ sym (view (rest_of s.h s.g s.i s.u ws' n) (has_flushed (s.pages (Some n)).page.work))))

  module _ (o : Own) where
    -- a row at whose stages the same is open
    pub calm_row : {r : Round} {k : ℕ} {z t : Stage} {a : Act} {y : ℕ} (step : Step s.u o.maps o.dirty (On r k z) a y (On r k t)) → (IsPart s (item_of a) → left_in a (word s.u.lay s.ws (item_of a)) ≡ word s.u.lay s.ws (item_of a)) → ((m n : ℕ) → is_sending m n s.g s.u step ≡ false) → AllSilent (step_moves s.h s.g s.i s.u s.pages step) → Calm k z t → RowActs s o step
    calm_row {r} {k} {z} {t} {a} {y} step part sending silent c f =
        quiet_row s {r = r} {k = k} {z = z} {t = t} (λ m n. FE.step_events m n s.g s.u step) (step_moves s.h s.g s.i s.u s.pages step) f part silent (λ m n. step_quiet m n s.g s.u {ms = o.maps} {ds = o.dirty} step (sending m n)) c.turn c.same c.copied c.beginning

    -- the directory's word and the stamp of the own copy are looked at
    pub row_sees_acquire : {r : Round} {g x : ℕ} → RowActs s o (sees_acquire {r = r} {g = g} {x = x})
    row_sees_acquire {r} {g} {x} = calm_row (sees_acquire {r = r} {g = g} {x = x}) (λ _. refl) (λ m n. refl) tt
        (either (Calm g Acquiring) (x == 2) Over Judging (record { turn = refl; same = λ rest d d'. refl; copied = refl; beginning = refl }) (record { turn = refl; same = λ rest d d'. refl; copied = refl; beginning = refl }))

    pub row_compares_own : {r : Round} {g x : ℕ} → RowActs s o (compares_own {r = r} {g = g} {x = x})
    row_compares_own {r} {g} {x} = calm_row (compares_own {r = r} {g = g} {x = x}) (λ _. refl) (λ m n. refl) tt (record { turn = refl; same = λ rest d d'. refl; copied = refl; beginning = refl })

    pub row_judges_own : {r : Round} {g y x : ℕ} → RowActs s o (judges_own {r = r} {g = g} {y = y} {x = x})
    row_judges_own {r} {g} {y} {x} = calm_row (judges_own {r = r} {g = g} {y = y} {x = x}) (λ _. refl) (λ m n. refl) tt
        (either (Calm g (Judged y)) (y == 0 || nat_lt y x) Unmapping Over (record { turn = refl; same = λ rest d d'. refl; copied = refl; beginning = refl }) (record { turn = refl; same = λ rest d d'. refl; copied = refl; beginning = refl }))

    -- its mapping is taken away
    pub row_unmaps : {r : Round} {g x : ℕ} → RowActs s o (unmaps {r = r} {g = g} {x = x})
    row_unmaps {r} {g} {x} = calm_row (unmaps {r = r} {g = g} {x = x}) (λ i. absurd i) (λ m n. refl)
        (silent_only (place_of s.h (node_of s.u)) 0 (g == s.g && node_of s.u == node_of s.u) (P.Unmap s.u.p) (unmap_silent (place_of s.h (node_of s.u)) s.u.p))
        (record { turn = refl; same = λ rest d d'. refl; copied = refl; beginning = refl })

    pub row_empties : {r : Round} {g q x : ℕ} {free : Bool} (lo : node_of s.u * s.u.lay.procs ≤ q) (hi : q < node_of s.u * s.u.lay.procs + s.u.lay.procs) → RowActs s o (empties {r = r} {g = g} {q = q} {x = x} {free = free} lo hi)
    row_empties {r} {g} {q} {x} {free} lo hi = calm_row (empties {r = r} {g = g} {q = q} {x = x} {free = free} lo hi) (λ i. absurd i) (λ m n. refl) tt (record { turn = refl; same = λ rest d d'. refl; copied = refl; beginning = refl })

    pub row_sees_bare : {r : Round} {g x : ℕ} → RowActs s o (sees_bare {r = r} {g = g} {x = x})
    row_sees_bare {r} {g} {x} = calm_row (sees_bare {r = r} {g = g} {x = x}) (λ _. refl) (λ m n. refl) tt
        (either (Calm g Emptied) (x == 0) Leaving Over (record { turn = refl; same = λ rest d d'. refl; copied = refl; beginning = refl }) (record { turn = refl; same = λ rest d d'. refl; copied = refl; beginning = refl }))

    -- its node leaves: it was not exclusive
    pub row_leaves : {r : Round} {k x : ℕ} → RowActs s o (leaves {r = r} {g = k} {x = x})
    row_leaves {r} {k} {x} f = by_none s {es = es} [] tt (record { words = words (cases_eq k s.g); counted = numbers_stay s es (λ m n. step_quiet m n s.g s.u {ms = o.maps} {ds = o.dirty} (leaves {r = r} {g = k} {x = x}) refl) })
        (on_knows s ws' (fresh_left s es) s.pages s.x s.c r k Over refl refl
        (λ n away d tu. let at : node_of s.u ≡ n = ap turn_node tu in
        f.here.knows.mode n away tu d ∙ subst (λ j. rest_of s.h s.g s.i s.u s.ws j ≡ rest_of s.h s.g s.i s.u ws' j) at (sym (rest_left d))))
      where
        es : (m n : ℕ) → List S.Event
        es m n = FE.step_events m n s.g s.u {maps = o.maps} {dirty = o.dirty} (leaves {r = r} {g = k} {x = x})

        a : Act
        a = Put (Dir (node_of s.u) k) 0

        ws' : List ℕ
        ws' = done s.u.lay s.ws (Put (Dir (node_of s.u) k) 0)

        new : k ≡ s.g → word s.u.lay ws' (Dir (node_of s.u) s.g) ≡ 0
        new d = ap (λ z. word s.u.lay ws' (Dir (node_of s.u) z)) (sym d) ∙ becomes s (Put (Dir (node_of s.u) k) 0) f.within

        low : k ≡ s.g → word s.u.lay s.ws (Dir (node_of s.u) s.g) ≤ 1
        low d = let z = at_turn s O.Emptied (node_of s.u) (stage_is s {z = Leaving} f d) refl in let e = s.owned.dir (node_of s.u) s.at.node_in in let l = z.0 in omega (arith, e, l)

        twined : word s.u.lay ws' (Twined (node_of s.u) s.g) ≡ word s.u.lay s.ws (Twined (node_of s.u) s.g)
        twined = stays s (Put (Dir (node_of s.u) k) 0) f.within (Twined (node_of s.u) s.g) (s.at.node_in, s.g_in) (λ e. absurd (cc e))

        rest_left : k ≡ s.g → rest_of s.h s.g s.i s.u ws' (node_of s.u) ≡ rest_of s.h s.g s.i s.u s.ws (node_of s.u)
        rest_left d = (λ z. resting (new d z) (twined z)) ∙ resting_left (word s.u.lay s.ws (Dir (node_of s.u) s.g)) (word s.u.lay s.ws (Twined (node_of s.u) s.g)) (low d)

        copy : k ≡ s.g → IsAway s.h s.u (node_of s.u) → Copy s.h s.g s.i s.u ws' (node_of s.u) (s.x.nodes (node_of s.u))
        copy d away =
            let j : ℕ = node_of s.u in
            let c = s.match.words.each j away in
            let left : (it : Item) → IsWithin s.u.lay it → it ≢ Dir j k → word s.u.lay ws' it ≡ word s.u.lay s.ws it = λ it i ne. stays s (Put (Dir j k) 0) f.within it i ne in
            record {
              frame_is = left (Frame j s.g s.i) (away.0, s.g_in, s.i_in) (λ e. absurd (cc e)) ∙ c.frame_is;
              twin_is = left (Twin j s.g s.i) (away.0, s.g_in, s.i_in) (λ e. absurd (cc e)) ∙ c.twin_is;
              fetched_is = λ ne. c.fetched_is (λ z. ne (left (Update j s.g) (away.0, s.g_in) (λ e. absurd (cc e)) ∙ z));
              rest_is = λ z. c.rest_is (sym (left (Turn j s.g) (away.0, s.g_in) (λ e. absurd (cc e))) ∙ z) ∙ sym (rest_left d);
              rights = λ z. c.rights (old z);
            }
          where
            old : (word s.u.lay ws' (Twined (node_of s.u) s.g) ≡ 1) ⊎ (word s.u.lay ws' (Dir (node_of s.u) s.g) ≡ 2) → (word s.u.lay s.ws (Twined (node_of s.u) s.g) ≡ 1) ⊎ (word s.u.lay s.ws (Dir (node_of s.u) s.g) ≡ 2)
            old (inl z) = inl (sym twined ∙ z)
            old (inr z) = absurd (cc (sym (new d) ∙ z))

        home_left : k ≡ s.g → (node_of s.u ≡ s.h) ⊎ (node_of s.u ≢ s.h) → (word s.u.lay ws' (Dir s.h s.g) == 2) ≡ s.x.home_exclusive
        home_left d (inl e) = ap (λ z. z == 2) (ap (λ j. word s.u.lay ws' (Dir j s.g)) (sym e) ∙ new d) ∙ sym (ne_eqb (word s.u.lay s.ws (Dir s.h s.g)) 2 (λ z. let l = low d in let same = ap (λ j. word s.u.lay s.ws (Dir j s.g)) e in absurd (omega (arith, z, l, same)))) ∙ s.match.words.home_is
        home_left d (inr ne) = ap (λ z. z == 2) (stays s (Put (Dir (node_of s.u) k) 0) f.within (Dir s.h s.g) (s.h_in, s.g_in) (λ e. ne (sym (dir_node e)))) ∙ s.match.words.home_is
          where
            dir_node : {j l e e' : ℕ} → Dir j e ≡ Dir l e' → j ≡ l
            dir_node e = cc e

        words : (k ≡ s.g) ⊎ (k ≢ s.g) → Words s.h s.g s.i s.u ws' s.x
        words (inr ne) = words_stay s (Put (Dir (node_of s.u) k) 0) f.within (part_stays s (Put (Dir (node_of s.u) k) 0) f.within (λ i. absurd (ne i)))
        words (inl d) = words_at s (Put (Dir (node_of s.u) k) 0) f.within (node_of s.u) s.x (λ n ne at z. ne (sym z.0)) (λ n ne. refl) (copy d) (s.match.words.none (node_of s.u))
            (stays s (Put (Dir (node_of s.u) k) 0) f.within (Frame s.h s.g s.i) (s.h_in, s.g_in, s.i_in) (λ e. absurd (cc e)) ∙ s.match.words.master_is) (home_left d (cases_eq (node_of s.u) s.h))

    -- the page was looked at, and the turn is given
    pub row_gives_over : {g x : ℕ} {set : List ℕ} → RowActs s o (gives_over {g = g} {x = x} {set = set})
    row_gives_over {g} {x} {set} f =
        let es : (m n : ℕ) → List S.Event = λ m n. [] in
        by_none s {es = es} [] tt
        (record { words = turn_words s (Put (Turn (node_of s.u) g) 0) f.within (node_of s.u) g refl (λ d away _. f.here.knows.mode (node_of s.u) away (ap (λ z. Some (Page (node_of s.u) z)) d) d); counted = numbers_stay s es (λ m n. tt) })
        (off_knows s (done s.u.lay s.ws (Put (Turn (node_of s.u) g) 0)) (fresh_left s es) s.pages s.x s.c (Told set (g + 1)))

    -- the turn of a page of the set is won
    pub win_acquires : {g : ℕ} {set : List ℕ} (e : (has_page set g && not (map_at s.u o.maps o.dirty g == 0)) ≡ true) → WinActs s o (acquires {g = g} {set = set} e)
    win_acquires {g} {set} e f = win_on (node_of s.u) g f {r = Told set g} {t = Acquiring} refl (λ rest d. refl) refl refl

    pub slip_emptied : {r : Round} {g : ℕ} {free : Bool} → SlipActs s o (emptied {r = r} {g = g} {free = free})
    slip_emptied {r} {g} {free} own f = go free f
      where
        still : (t : Stage) (d : Bool) → Calm g (Emptying (node_of s.u * s.u.lay.procs + s.u.lay.procs) d) t → Here s (On r g (Emptying (node_of s.u * s.u.lay.procs + s.u.lay.procs) d)) o → Acted s (On r g t) s.ws (λ m n. []) []
        still t d c f = by_none s {es = λ m n. []} [] tt s.match
            (on_knows s s.ws s.fresh s.pages s.x s.c r g t c.copied c.beginning
            (λ n away e tu. f.knows.mode n away (sym c.turn ∙ tu) e ∙ sym (c.same (rest_of s.h s.g s.i s.u s.ws n) (has_flushed (s.pages (Some n)).page.work) (has_flushed (s.pages (Some n)).page.work))))

        go : (d : Bool) → Here s (On r g (Emptying (node_of s.u * s.u.lay.procs + s.u.lay.procs) d)) o → Acted s (On r g (if d then Emptied else Over)) s.ws (λ m n. []) []
        go true f = still Emptied true (record { turn = refl; same = λ rest d d'. refl; copied = refl; beginning = refl }) f
        go false f = still Over false (record { turn = refl; same = λ rest d d'. refl; copied = refl; beginning = refl }) f
