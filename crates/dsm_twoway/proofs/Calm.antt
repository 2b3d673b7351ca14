-- Steps under the turn of the own node's copy that are nothing to the copies, by what the debts say of the work on it.
use Rattle.std.proofs.Common.{◌≡◌, ◌≢◌, ◌⊎◌, inl, inr, ℕ, suc, ◌+◌, ◌*◌, ◌==◌, Bool, true, false, List, [], Option, None, Some, refl, sym, ap, ◌∙◌, subst, arith, if◌then◌else◌}
use Rattle.std.specs.Prelude.{map, IfSome}
use Rattle.std.proofs.lemmas.Bool.{eq-eqb, eqb-true}
use Rattle.dsm_words.specs.declared.item.Item.{Item}
use Rattle.dsm_words.specs.declared.item.Item.TheVariants.{Dir, Twined, Turn}
use Rattle.dsm_words.specs.Place.{IsWithin}
use Rattle.dsm_words.specs.Script.{Act, item_of}
use Rattle.dsm_words.specs.Words.{word, done, left_in}
use Rattle.dsm_clock.specs.declared.turns.TurnId.TheVariants.{Page}
use Rattle.dsm_protocol.specs.Own.{Own, node_of}
use Rattle.dsm_protocol.specs.Stages.{Stage, Round, On, stage_turn}
use Rattle.dsm_copies.specs.Modes.{Mode}
use Rattle.dsm_owners.specs.Stages as O
use Rattle.dsm_ties.specs.Views.{stage_view, view, home_in}
use Rattle.dsm_fresh.specs.Pages as S
use Rattle.dsm_debts.specs.Page as P
use Rattle.dsm_debts.specs.Joining.{Move, At, has_flushed}
use Rattle.dsm_debts.proofs.Facts.{is_flush}
use Rattle.dsm_releases.specs.Events as R
use Rattle.dsm_releases.specs.Views.{WorksAt}
use Rattle.dsm_twoway.specs.Views.{mode_view}
use Rattle.dsm_twoway.specs.Events.{place_of}
use Rattle.dsm_twoway.specs.Tied.{IsAway, rest_of, is_beginning, is_copied, Words}
use Rattle.dsm_twoway.proofs.Numbers.{AllQuiet}
use Rattle.dsm_twoway.proofs.Scene.{Scene, first, events, pages_left, fresh_left, AllAgree, Acted, Now, Here, Meets}
use Rattle.dsm_twoway.proofs.Changes.{IsPart, words_stay, part_stays, rest_stays}
use Rattle.dsm_twoway.proofs.Frame.{is_silent, AllSilent, no_events, all_agree, by_events, numbers_stay, on_knows}
use Rattle.dsm_twoway.proofs.Blocks.{turn_node, place_away}

-- a silent move under a condition
pub silent_pick : (d : Bool) (k : Option ℕ) (v : ℕ) (e : P.Event) → is_silent k e ≡ true → AllSilent (map (At k v) (R.only d e))
silent_pick true k v e i = (i, tt)
silent_pick false k v e i = tt

module _ (s : Scene) where
  -- an event that leaves the flush of its page leaves all
  pub flushed_left : (k q : Option ℕ) (v : ℕ) (c : Bool) (e : P.Event) → ((home : Bool) (first : ℕ) (g : P.Page) → has_flushed (P.page_after home first g e).work ≡ has_flushed g.work)
      → has_flushed (pages_left s (map (At k v) (R.only c e)) q).page.work ≡ has_flushed (s.pages q).page.work
  flushed_left k q v false e keeps = refl
  flushed_left None None v true e keeps = keeps true (first s None) (s.pages None).page
  flushed_left None (Some q) v true e keeps = refl
  flushed_left (Some n) None v true e keeps = refl
  flushed_left (Some n) (Some q) v true e keeps = go (q == n) refl
    where
      go : (d : Bool) → (q == n) ≡ d → has_flushed (if d then P.after_event false (first s (Some n)) (s.pages (Some n)) e else s.pages (Some q)).page.work ≡ has_flushed (s.pages (Some q)).page.work
      go true i = keeps false (first s (Some n)) (s.pages (Some n)).page ∙ ap (λ z. has_flushed (s.pages (Some z)).page.work) (sym (eqb-true q n i))
      go false i = refl

  module _ {r : Round} {k : ℕ} {z : Stage} {o : Own} where
    -- what the debts say of the work on the copy, away from the home
    pub works_here : Here s (On r k z) o → k ≡ s.g → node_of s.u ≢ s.h → stage_turn s.u k z ≡ Some (Page (node_of s.u) k) → WorksAt (node_of s.u == s.h) (node_of s.u * s.u.lay.procs) (node_of s.u * s.u.lay.procs + s.u.lay.procs) s.i s.u.p z (s.pages (Some (node_of s.u)))
    works_here f d off tu = subst (λ q. WorksAt (node_of s.u == s.h) (node_of s.u * s.u.lay.procs) (node_of s.u * s.u.lay.procs + s.u.lay.procs) s.i s.u.p z (s.pages q)) (place_away s.h (node_of s.u) off) ((f.releases (node_of s.u) s.at.node_in).works (tu ∙ ap (λ w. Some (Page (node_of s.u) w)) d) d)

    -- at either place, of which the work's page is known
    pub works_there : Here s (On r k z) o → k ≡ s.g → stage_turn s.u k z ≡ Some (Page (node_of s.u) k) → WorksAt (node_of s.u == s.h) (node_of s.u * s.u.lay.procs) (node_of s.u * s.u.lay.procs + s.u.lay.procs) s.i s.u.p z (s.pages (place_of s.h (node_of s.u)))
    works_there f d tu = (f.releases (node_of s.u) s.at.node_in).works (tu ∙ ap (λ w. Some (Page (node_of s.u) w)) d) d

    -- where its last flush has its twin, the node is not the home
    pub flushed_away : Here s (On r k z) o → k ≡ s.g → is_flush (s.pages (place_of s.h (node_of s.u))).page.work ≡ true → node_of s.u ≢ s.h
    flushed_away f d is e =
        let g = s.sound (node_of s.u) s.at.node_in in
        absurd (cc (sym (g.flush_twin is) ∙ g.home_bare (eq-eqb (node_of s.u) s.h e)))

    -- the directory's stage of it, and what it knows of its node
    pub stage_here : Here s (On r k z) o → k ≡ s.g → (s.b.processors s.u.p).stage ≡ stage_view s.u z
    stage_here f d = f.owns.at ∙ same
      where
        same : view s.u s.g (On r k z) ≡ stage_view s.u z
        same = rw (eq-eqb k s.g d) refl

    -- the home that it has found is the page's
    pub home_here : Here s (On r k z) o → k ≡ s.g → (h : ℕ) → home_in z ≡ Some h → s.b.home ≡ suc h
    home_here f d h e = subst (λ w. IfSome w (λ l. s.b.home ≡ suc l)) e (f.owns.homes d)

    pub home_same : Here s (On r k z) o → k ≡ s.g → (h : ℕ) → home_in z ≡ Some h → h ≡ s.h
    home_same f d h e = go s.home
      where
        go : (s.b.home ≡ 0) ⊎ (s.b.home ≡ suc s.h) → h ≡ s.h
        go (inl w) = absurd (cc (sym w ∙ home_here f d h e))
        go (inr w) = let x = sym w ∙ home_here f d h e in omega (arith, x)

    -- who holds the turn to the directory has its word
    pub turn_here : Here s (On r k z) o → k ≡ s.g → O.held (node_of s.u) (stage_view s.u z) ≡ suc (node_of s.u) → word s.u.lay s.ws (Turn (node_of s.u) s.g) ≢ 0
    turn_here f d e zero = let x = (s.holds.fits (node_of s.u) s.u.p).turn_is (ap (O.held (node_of s.u)) (stage_here f d) ∙ e) in absurd (cc (sym zero ∙ s.owned.turn (node_of s.u) s.at.node_in ∙ x))

  -- the same is open behind the step, where the debts say so
  abbrev pub Same : (k : ℕ) (z t : Stage) (ms : List Move) → Type 0
  Same k z t ms = k ≡ s.g → node_of s.u ≢ s.h → (rest : Mode) → mode_view s.i rest (has_flushed (pages_left s ms (Some (node_of s.u))).page.work) t ≡ mode_view s.i rest (has_flushed (s.pages (Some (node_of s.u))).page.work) z

  module _ {r : Round} {k : ℕ} {z t : Stage} where
    -- nothing happens to the copies, and what would be open stays
    pub calm_none : (ws' : List ℕ) (es : (m n : ℕ) → List S.Event) (ms : List Move) → Now s (On r k z) → Words s.h s.g s.i s.u ws' s.x → ((n : ℕ) → IsAway s.h s.u n → rest_of s.h s.g s.i s.u ws' n ≡ rest_of s.h s.g s.i s.u s.ws n) → events s ms ≡ [] → AllAgree s ms → ((m n : ℕ) → AllQuiet (es m n))
        → stage_turn s.u k t ≡ Some (Page (node_of s.u) k) → stage_turn s.u k z ≡ Some (Page (node_of s.u) k) → is_copied t ≡ false → is_beginning t ≡ false → Same k z t ms → Acted s (On r k t) ws' es ms
    calm_none ws' es ms f words rests none agrees quiet tu mine copied beginning same =
        by_events s {es = es} ms [] none agrees tt (record { words = words; counted = numbers_stay s es quiet })
        (on_knows s ws' (fresh_left s es) (pages_left s ms) s.x s.c r k t copied beginning (λ n away d tu'.
        let is : node_of s.u ≡ n = ap turn_node (sym tu ∙ tu') in
        f.mode n away (mine ∙ sym tu ∙ tu') d
        ∙ subst (λ q. (rest : Mode) → mode_view s.i rest (has_flushed (s.pages (Some q)).page.work) z ≡ mode_view s.i rest (has_flushed (pages_left s ms (Some q)).page.work) t) is (λ rest. sym (same d (λ e. away.1 (sym is ∙ e)) rest)) (rest_of s.h s.g s.i s.u s.ws n)
        ∙ ap (λ w. mode_view s.i w (has_flushed (pages_left s ms (Some n)).page.work) t) (sym (rests n away))))

    -- so with silent moves
    pub calm : (ws' : List ℕ) (es : (m n : ℕ) → List S.Event) (ms : List Move) → Now s (On r k z) → Words s.h s.g s.i s.u ws' s.x → ((n : ℕ) → IsAway s.h s.u n → rest_of s.h s.g s.i s.u ws' n ≡ rest_of s.h s.g s.i s.u s.ws n) → AllSilent ms → ((m n : ℕ) → AllQuiet (es m n))
        → stage_turn s.u k t ≡ Some (Page (node_of s.u) k) → stage_turn s.u k z ≡ Some (Page (node_of s.u) k) → is_copied t ≡ false → is_beginning t ≡ false → Same k z t ms → Acted s (On r k t) ws' es ms
    calm ws' es ms f words rests silent quiet tu mine copied beginning same = calm_none ws' es ms f words rests (no_events s ms silent) (all_agree s ms silent) quiet tu mine copied beginning same

    -- a row that changes no word of the copies
    pub calm_row : {o : Own} {a : Act} {y : ℕ} (es : (m n : ℕ) → List S.Event) (ms : List Move) → Meets s (On r k z) o a y → (IsPart s (item_of a) → left_in a (word s.u.lay s.ws (item_of a)) ≡ word s.u.lay s.ws (item_of a)) → AllSilent ms → ((m n : ℕ) → AllQuiet (es m n))
        → stage_turn s.u k t ≡ Some (Page (node_of s.u) k) → stage_turn s.u k z ≡ Some (Page (node_of s.u) k) → is_copied t ≡ false → is_beginning t ≡ false → Same k z t ms → Acted s (On r k t) (done s.u.lay s.ws a) es ms
    calm_row {o} {a} {y} es ms f part silent quiet tu mine copied beginning same =
        let left : (it : Item) → IsWithin s.u.lay it → IsPart s it → word s.u.lay (done s.u.lay s.ws a) it ≡ word s.u.lay s.ws it = part_stays s a f.within part in
        calm (done s.u.lay s.ws a) es ms f.here.knows (words_stay s a f.within left) (λ n away. rest_stays s a f.within n (left (Dir n s.g) (away.0, s.g_in) refl) (left (Twined n s.g) (away.0, s.g_in) refl)) silent quiet tu mine copied beginning same

    -- a decision or a note
    pub calm_here : {o : Own} (es : (m n : ℕ) → List S.Event) (ms : List Move) → Here s (On r k z) o → AllSilent ms → ((m n : ℕ) → AllQuiet (es m n))
        → stage_turn s.u k t ≡ Some (Page (node_of s.u) k) → stage_turn s.u k z ≡ Some (Page (node_of s.u) k) → is_copied t ≡ false → is_beginning t ≡ false → Same k z t ms → Acted s (On r k t) s.ws es ms
    calm_here es ms f silent quiet tu mine copied beginning same = calm s.ws es ms f.knows s.match.words (λ n away. refl) silent quiet tu mine copied beginning same
