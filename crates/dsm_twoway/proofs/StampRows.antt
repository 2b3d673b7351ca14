-- Rows at which a word of the directory or a stamp is stored, and the notes of a fetch.
use Rattle.std.proofs.Common.{◌≡◌, ◌≢◌, ◌⊎◌, inl, inr, ℕ, ◌==◌, Bool, true, false, List, [], ◌∷◌, Option, None, Some, refl, sym, ap, ◌∙◌, subst}
use Rattle.std.specs.Prelude.{map, ◌&&◌}
use Rattle.std.proofs.lemmas.Bool.{cases_eq, eq-eqb, ne_eqb}
use Rattle.dsm_words.specs.declared.item.Item.{Item}
use Rattle.dsm_words.specs.declared.item.Item.TheVariants.{Frame, Twin, Twined, Dir, Update, Turn}
use Rattle.dsm_words.specs.Place.{IsWithin}
use Rattle.dsm_words.specs.Script.{Act, Put, item_of}
use Rattle.dsm_words.specs.Words.{word, done}
use Rattle.dsm_clock.specs.declared.turns.TurnId.{TurnId}
use Rattle.dsm_clock.specs.declared.turns.TurnId.TheVariants.{Page}
use Rattle.dsm_protocol.specs.Own.{Own, node_of}
use Rattle.dsm_protocol.specs.Stages.{Stage, Withdrawing, Filled, Entered, Ready, Copied, Current, Setting, Round, On, stage_turn}
use Rattle.dsm_protocol.specs.Rows.{withdraws, stamps_enter, enters, stamps}
use Rattle.dsm_copies.specs.Modes.{Exclusive, may_store}
use Rattle.dsm_copies.specs.Copies as W
use Rattle.dsm_copies.specs.Premises.{Premise, Home_tells}
use Rattle.dsm_copies.specs.Debts.{AsksOf}
use Rattle.dsm_owners.specs.Stages as O
use Rattle.dsm_fresh.specs.Pages as S
use Rattle.dsm_freshness.specs.Events as FE
use Rattle.dsm_debts.specs.Page as P
use Rattle.dsm_debts.proofs.Facts.{is_posting}
use Rattle.dsm_debts.specs.Joining.{At, has_flushed}
use Rattle.dsm_releases.specs.Events as R
use Rattle.dsm_twoway.specs.Views.{plain, mode_view}
use Rattle.dsm_twoway.specs.Events.{place_of}
use Rattle.dsm_twoway.specs.Tied.{IsAway, rest_of, is_beginning, is_copied, Copy, Words}
use Rattle.dsm_twoway.proofs.Modes.{store_plain}
use Rattle.dsm_twoway.proofs.Numbers.{AllQuiet, step_quiet}
use Rattle.dsm_twoway.proofs.Scene.{Scene, Asked, place, RowActs, Acted, Meets}
use Rattle.dsm_twoway.proofs.Changes.{IsPart, stays, becomes, rest_stays, words_at}
use Rattle.dsm_twoway.proofs.Frame.{by_events, by_none, numbers_stay}
use Rattle.dsm_twoway.proofs.Blocks.{turn_node, other_row, open_here, place_home}
use Rattle.dsm_twoway.proofs.Standing.{node_at_turn, held_here, bare_rest, sole_rest, no_twin, dir_word}

-- the node of a word of the directory
abbrev dir_node : Item → ℕ
dir_node (Dir n g) = n
dir_node it = 0

-- two turns of a page
turn_of : {m n k : ℕ} {g : ℕ} {t : Option TurnId} → t ≡ Some (Page m k) → t ≡ Some (Page n g) → m ≡ n
turn_of e f = ap turn_node (sym e ∙ f)

-- its last flush still has its twin
abbrev has : P.State → Bool
has f = has_flushed f.page.work

module _ (s : Scene) where
  -- the words where the stamp is stored of a node that has fetched
  stamp_words : {k : ℕ} (t : ℕ) (within : IsWithin s.u.lay (Update (node_of s.u) k)) → (IsAway s.h s.u (node_of s.u) → (s.x.nodes (node_of s.u)).fetched ≡ true) → Words s.h s.g s.i s.u (done s.u.lay s.ws (Put (Update (node_of s.u) k) t)) s.x
  stamp_words {k} t within fetched =
      let a : Act = Put (Update (node_of s.u) k) t in
      words_at s a within (node_of s.u) s.x (λ n ne at z. ne (sym z.0)) (λ n ne. refl) copy (s.match.words.none (node_of s.u))
      (stays s a within (Frame s.h s.g s.i) (s.h_in, s.g_in, s.i_in) (λ e. absurd (cc e)) ∙ s.match.words.master_is)
      (ap (λ z. z == 2) (stays s a within (Dir s.h s.g) (s.h_in, s.g_in) (λ e. absurd (cc e))) ∙ s.match.words.home_is)
    where
      either : {p p' q q' : ℕ} → p ≡ p' → q ≡ q' → (p' ≡ 1) ⊎ (q' ≡ 2) → (p ≡ 1) ⊎ (q ≡ 2)
      either e f (inl z) = inl (e ∙ z)
      either e f (inr z) = inr (f ∙ z)

      copy : IsAway s.h s.u (node_of s.u) → Copy s.h s.g s.i s.u (done s.u.lay s.ws (Put (Update (node_of s.u) k) t)) (node_of s.u) (s.x.nodes (node_of s.u))
      copy away =
          let a : Act = Put (Update (node_of s.u) k) t in
          let c = s.match.words.each (node_of s.u) away in
          let di = stays s a within (Dir (node_of s.u) s.g) (away.0, s.g_in) (λ e. absurd (cc e)) in
          let tw = stays s a within (Twined (node_of s.u) s.g) (away.0, s.g_in) (λ e. absurd (cc e)) in
          record {
            frame_is = stays s a within (Frame (node_of s.u) s.g s.i) (away.0, s.g_in, s.i_in) (λ e. absurd (cc e)) ∙ c.frame_is;
            twin_is = stays s a within (Twin (node_of s.u) s.g s.i) (away.0, s.g_in, s.i_in) (λ e. absurd (cc e)) ∙ c.twin_is;
            fetched_is = λ ne. fetched away;
            rest_is = λ z. c.rest_is (sym (stays s a within (Turn (node_of s.u) s.g) (away.0, s.g_in) (λ e. absurd (cc e))) ∙ z) ∙ sym (rest_stays s a within (node_of s.u) di tw);
            rights = λ z. c.rights (either (sym tw) (sym di) z);
          }

  -- the words where the directory's word is stored under the turn
  dir_words : {k v : ℕ} (within : IsWithin s.u.lay (Dir (node_of s.u) k)) (x' : W.State) → x'.nodes ≡ s.x.nodes → x'.master ≡ s.x.master → k ≡ s.g → word s.u.lay s.ws (Turn (node_of s.u) s.g) ≢ 0
      → (node_of s.u ≡ s.h → (v == 2) ≡ x'.home_exclusive) → (node_of s.u ≢ s.h → s.x.home_exclusive ≡ x'.home_exclusive)
      → (IsAway s.h s.u (node_of s.u) → (word s.u.lay s.ws (Twined (node_of s.u) s.g) ≡ 1) ⊎ (v ≡ 2) → may_store (s.x.nodes (node_of s.u)).mode ≡ true)
      → Words s.h s.g s.i s.u (done s.u.lay s.ws (Put (Dir (node_of s.u) k) v)) x'
  dir_words {k} {v} within x' nodes master d held at_home off_home may =
      let a : Act = Put (Dir (node_of s.u) k) v in
      words_at s a within (node_of s.u) x' (λ n ne at z. ne (sym z.0)) (λ n ne. ap (λ (f : ℕ → W.Node). f n) nodes) (λ at. subst (Copy s.h s.g s.i s.u (done s.u.lay s.ws a) (node_of s.u)) (sym (ap (λ (f : ℕ → W.Node). f (node_of s.u)) nodes)) (copy at))
      (λ out. ap (λ (f : ℕ → W.Node). (f (node_of s.u)).mode) nodes ∙ s.match.words.none (node_of s.u) out)
      (stays s a within (Frame s.h s.g s.i) (s.h_in, s.g_in, s.i_in) (λ e. absurd (cc e)) ∙ s.match.words.master_is ∙ sym master)
      (home (cases_eq (node_of s.u) s.h))
    where
      now : word s.u.lay (done s.u.lay s.ws (Put (Dir (node_of s.u) k) v)) (Dir (node_of s.u) s.g) ≡ v
      now = (λ z. word s.u.lay (done s.u.lay s.ws (Put (Dir (node_of s.u) k) v)) (Dir (node_of s.u) (sym d z))) ∙ becomes s (Put (Dir (node_of s.u) k) v) within

      home : (node_of s.u ≡ s.h) ⊎ (node_of s.u ≢ s.h) → (word s.u.lay (done s.u.lay s.ws (Put (Dir (node_of s.u) k) v)) (Dir s.h s.g) == 2) ≡ x'.home_exclusive
      home (inl e) = ap (λ z. z == 2) ((λ z. word s.u.lay (done s.u.lay s.ws (Put (Dir (node_of s.u) k) v)) (Dir (sym e z) s.g)) ∙ now) ∙ at_home e
      home (inr ne) = ap (λ z. z == 2) (stays s (Put (Dir (node_of s.u) k) v) within (Dir s.h s.g) (s.h_in, s.g_in) (λ z. ne (sym (ap dir_node z)))) ∙ s.match.words.home_is ∙ off_home ne

      either : {p p' q : ℕ} → p ≡ p' → (p ≡ 1) ⊎ (q ≡ 2) → q ≡ v → (p' ≡ 1) ⊎ (v ≡ 2)
      either e (inl z) f = inl (sym e ∙ z)
      either e (inr z) f = inr (sym f ∙ z)

      copy : IsAway s.h s.u (node_of s.u) → Copy s.h s.g s.i s.u (done s.u.lay s.ws (Put (Dir (node_of s.u) k) v)) (node_of s.u) (s.x.nodes (node_of s.u))
      copy away =
          let a : Act = Put (Dir (node_of s.u) k) v in
          let c = s.match.words.each (node_of s.u) away in
          let tw = stays s a within (Twined (node_of s.u) s.g) (away.0, s.g_in) (λ e. absurd (cc e)) in
          record {
            frame_is = stays s a within (Frame (node_of s.u) s.g s.i) (away.0, s.g_in, s.i_in) (λ e. absurd (cc e)) ∙ c.frame_is;
            twin_is = stays s a within (Twin (node_of s.u) s.g s.i) (away.0, s.g_in, s.i_in) (λ e. absurd (cc e)) ∙ c.twin_is;
            fetched_is = λ ne. c.fetched_is (λ z. ne (stays s a within (Update (node_of s.u) s.g) (away.0, s.g_in) (λ e. absurd (cc e)) ∙ z));
            rest_is = λ z. absurd (held (sym (stays s a within (Turn (node_of s.u) s.g) (away.0, s.g_in) (λ e. absurd (cc e))) ∙ z));
            rights = λ z. may away (either tw z now);
          }

  -- such a row with nothing to the copies
  control_row : {r : Round} {k : ℕ} {z t : Stage} {o : Own} {a : Act} {y : ℕ} (es : (m n : ℕ) → List S.Event) → Meets s (On r k z) o a y → (IsPart s (item_of a) → k ≡ s.g) → ((m n : ℕ) → AllQuiet (es m n)) → stage_turn s.u k t ≡ Some (Page (node_of s.u) k)
      → is_copied t ≡ false → is_beginning t ≡ false → (k ≡ s.g → Words s.h s.g s.i s.u (done s.u.lay s.ws a) s.x)
      → (k ≡ s.g → (b : Bool) → IsAway s.h s.u (node_of s.u) → plain (s.x.nodes (node_of s.u)).mode ≡ mode_view s.i (rest_of s.h s.g s.i s.u (done s.u.lay s.ws a) (node_of s.u)) b t)
      → Acted s (On r k t) (done s.u.lay s.ws a) es []
  control_row {r} {k} {z} {t} {o} {a} {y} es f page quiet tu copied beginning words mode = go (cases_eq k s.g)
    where
      go : (k ≡ s.g) ⊎ (k ≢ s.g) → Acted s (On r k t) (done s.u.lay s.ws a) es []
      go (inr ne) = other_row s {z = z} {t = t} es f ne page quiet
      go (inl d) = by_none s {es = es} [] tt (record { words = words d; counted = numbers_stay s es quiet })
          (record {
            mode = λ j at tu' _. let same : node_of s.u ≡ j = turn_of tu tu' in
                subst (λ q. plain (s.x.nodes q).mode ≡ mode_view s.i (rest_of s.h s.g s.i s.u (done s.u.lay s.ws a) q) (has (s.pages (Some q))) t) same (mode d (has (s.pages (Some (node_of s.u)))) (subst (IsAway s.h s.u) (sym same) at));
            copied = λ away d z. absurd (cc (sym copied ∙ z));
            beginning = λ away d z. absurd (cc (sym beginning ∙ z));
          })

module _ (s : Scene) (o : Own) where
  -- a claim is withdrawn
  pub row_withdraws : {r : Round} {k h y : ℕ} → RowActs s o (withdraws {r = r} {g = k} {h = h} {x = y})
  row_withdraws {r} {k} {h} {y} f =
      control_row s {z = Withdrawing h} {t = Ready true h} (λ m n. FE.step_events m n s.g s.u {maps = o.maps} {dirty = o.dirty} (withdraws {r = r} {g = k} {h = h} {x = y})) f (λ d. d)
      (λ m n. step_quiet m n s.g s.u {ms = o.maps} {ds = o.dirty} (withdraws {r = r} {g = k} {h = h} {x = y}) refl) refl refl refl
      (λ d. dir_words s f.within s.x refl refl d (held d) (λ e. sym (ap (λ w. w == 2) (dir_word s 3 (at d).0)) ∙ (λ z. word s.u.lay s.ws (Dir (e z) s.g) == 2) ∙ s.match.words.home_is) (λ ne. refl) (λ away. calm d away))
      (λ d b away. open_here s {z = Withdrawing h} f d away.1 refl ∙ bare_rest (word s.u.lay s.ws (Dir (node_of s.u) s.g)) (word s.u.lay s.ws (Twined (node_of s.u) s.g)) (λ e. absurd (cc (sym e ∙ dir_word s 3 (at d).0))) (no_twin s (at d).1)
      ∙ sym (bare_rest (word s.u.lay (done s.u.lay s.ws (Put (Dir (node_of s.u) k) 1)) (Dir (node_of s.u) s.g)) (word s.u.lay (done s.u.lay s.ws (Put (Dir (node_of s.u) k) 1)) (Twined (node_of s.u) s.g)) (λ e. absurd (cc (sym e ∙ now d))) (λ e. no_twin s (at d).1 (sym (stays s (Put (Dir (node_of s.u) k) 1) f.within (Twined (node_of s.u) s.g) (away.0, s.g_in) (λ e. absurd (cc e))) ∙ e))))
    where
      at : k ≡ s.g → ((s.b.nodes (node_of s.u)).dir ≡ 3) × ((s.b.nodes (node_of s.u)).twined ≡ false)
      at d = node_at_turn s f.here d O.Failing refl refl

      held : k ≡ s.g → word s.u.lay s.ws (Turn (node_of s.u) s.g) ≢ 0
      held d = held_here s f.here d O.Failing refl refl

      now : k ≡ s.g → word s.u.lay (done s.u.lay s.ws (Put (Dir (node_of s.u) k) 1)) (Dir (node_of s.u) s.g) ≡ 1
      now d = (λ z. word s.u.lay (done s.u.lay s.ws (Put (Dir (node_of s.u) k) 1)) (Dir (node_of s.u) (sym d z))) ∙ becomes s (Put (Dir (node_of s.u) k) 1) f.within

      calm : k ≡ s.g → IsAway s.h s.u (node_of s.u) → (word s.u.lay s.ws (Twined (node_of s.u) s.g) ≡ 1) ⊎ (◌≡◌ {A = ℕ} 1 2) → may_store (s.x.nodes (node_of s.u)).mode ≡ true
      calm d away (inl e) = absurd (no_twin s (at d).1 e)
      calm d away (inr e) = absurd (cc e)

  -- a copy is stamped
  pub row_stamps : {r : Round} {k h t y : ℕ} {write : Bool} → RowActs s o (stamps {r = r} {g = k} {h = h} {t = t} {x = y} {write = write})
  row_stamps {r} {k} {h} {t} {y} {write} f =
      control_row s {z = Copied write h t} {t = Current write h} (λ m n. FE.step_events m n s.g s.u {maps = o.maps} {dirty = o.dirty} (stamps {r = r} {g = k} {h = h} {t = t} {x = y} {write = write})) f (λ d. d)
      (λ m n. step_quiet m n s.g s.u {ms = o.maps} {ds = o.dirty} (stamps {r = r} {g = k} {h = h} {t = t} {x = y} {write = write}) refl) refl refl refl
      (λ d. stamp_words s t f.within (λ away. f.here.knows.copied away d refl))
      (λ d b away. open_here s {z = Copied write h t} f d away.1 refl ∙ sym (rest_stays s (Put (Update (node_of s.u) k) t) f.within (node_of s.u) (stays s (Put (Update (node_of s.u) k) t) f.within (Dir (node_of s.u) s.g) (away.0, s.g_in) (λ e. absurd (cc e))) (stays s (Put (Update (node_of s.u) k) t) f.within (Twined (node_of s.u) s.g) (away.0, s.g_in) (λ e. absurd (cc e)))))

  pub row_stamps_enter : {r : Round} {k t y : ℕ} → RowActs s o (stamps_enter {r = r} {g = k} {t = t} {x = y})
  row_stamps_enter {r} {k} {t} {y} f =
      control_row s {z = Filled t} {t = Entered} (λ m n. FE.step_events m n s.g s.u {maps = o.maps} {dirty = o.dirty} (stamps_enter {r = r} {g = k} {t = t} {x = y})) f (λ d. d)
      (λ m n. step_quiet m n s.g s.u {ms = o.maps} {ds = o.dirty} (stamps_enter {r = r} {g = k} {t = t} {x = y}) refl) refl refl refl
      (λ d. stamp_words s t f.within (λ away. f.here.knows.copied away d refl))
      (λ d b away. open_here s {z = Filled t} f d away.1 refl)

  -- the node becomes exclusive
  pub row_enters : {r : Round} {k y : ℕ} → RowActs s o (enters {r = r} {g = k} {x = y})
  row_enters {r} {k} {y} f = go (cases_eq k s.g) (cases_eq (node_of s.u) s.h)
    where
      a : Act
      a = Put (Dir (node_of s.u) k) 2

      es : (m n : ℕ) → List S.Event
      es m n = FE.step_events m n s.g s.u {maps = o.maps} {dirty = o.dirty} (enters {r = r} {g = k} {x = y})

      quiet : (m n : ℕ) → AllQuiet (es m n)
      quiet m n = step_quiet m n s.g s.u {ms = o.maps} {ds = o.dirty} (enters {r = r} {g = k} {x = y}) refl

      held : k ≡ s.g → word s.u.lay s.ws (Turn (node_of s.u) s.g) ≢ 0
      held d = held_here s f.here d O.Entered refl refl

      now : k ≡ s.g → word s.u.lay (done s.u.lay s.ws (Put (Dir (node_of s.u) k) 2)) (Dir (node_of s.u) s.g) ≡ 2
      now d = (λ z. word s.u.lay (done s.u.lay s.ws (Put (Dir (node_of s.u) k) 2)) (Dir (node_of s.u) (sym d z))) ∙ becomes s (Put (Dir (node_of s.u) k) 2) f.within

      open_is : k ≡ s.g → node_of s.u ≢ s.h → plain (s.x.nodes (node_of s.u)).mode ≡ Exclusive
      open_is d ne = open_here s {z = Entered} f d ne refl

      none : (p q w : Bool) → (p ≡ false) ⊎ (w ≡ false) → ((p && q) && w) ≡ false
      none false q w e = refl
      none true q w (inl e) = absurd (cc e)
      none true true w (inr e) = e
      none true false w (inr e) = refl

      all : (p q w : Bool) → p ≡ true → q ≡ true → w ≡ true → ((p && q) && w) ≡ true
      all p q w e e' e'' = rw e (rw e' e'')

      goal : (c : Bool) (l : Option ℕ) → ((k == s.g && node_of s.u == node_of s.u) && node_of s.u == s.h) ≡ c → place_of s.h (node_of s.u) ≡ l
          → Acted s (On r k (Setting true true)) (done s.u.lay s.ws (Put (Dir (node_of s.u) k) 2)) es (map (At l 0) (R.only c P.Enter)) → Acted s (On r k (Setting true true)) (done s.u.lay s.ws (Put (Dir (node_of s.u) k) 2)) es (map (At (place_of s.h (node_of s.u)) 0) (R.only ((k == s.g && node_of s.u == node_of s.u) && node_of s.u == s.h) P.Enter))
      goal c l e e' x = rw e (rw e' x)

      away_row : (node_of s.u ≢ s.h) ⊎ (k ≢ s.g) → Acted s (On r k (Setting true true)) (done s.u.lay s.ws (Put (Dir (node_of s.u) k) 2)) es []
      away_row c =
          control_row s {z = Entered} {t = Setting true true} es f (λ d. d) quiet refl refl refl
          (λ d. let ne = off d c in dir_words s f.within s.x refl refl d (held d) (λ e. absurd (ne e)) (λ ne. refl) (λ away _. store_plain (s.x.nodes (node_of s.u)).mode ∙ ap may_store (open_is d ne)))
          (λ d b away. open_is d away.1 ∙ sym (sole_rest (word s.u.lay (done s.u.lay s.ws (Put (Dir (node_of s.u) k) 2)) (Dir (node_of s.u) s.g)) (word s.u.lay (done s.u.lay s.ws (Put (Dir (node_of s.u) k) 2)) (Twined (node_of s.u) s.g)) (now d)))
        where
          off : k ≡ s.g → (node_of s.u ≢ s.h) ⊎ (k ≢ s.g) → node_of s.u ≢ s.h
          off d (inl ne) = ne
          off d (inr ne) = absurd (ne d)

      tells : k ≡ s.g → node_of s.u ≡ s.h → (p : Premise) → Asked p → AsksOf (place s) p s.x s.c s.d W.Home_enter
      tells d e Home_tells q = λ at ended.
          let n_in = s.at.node_in in
          let works = ((f.here.releases (node_of s.u) n_in).works (ap (λ w. Some (Page (node_of s.u) w)) d) d).0 in
          let idle : (s.pages None).page.work ≡ P.Idle = sym (ap (λ l. (s.pages l).page.work) (place_home s.h (node_of s.u) e)) ∙ works in
          absurd (cc (sym (s.posts at ended) ∙ ap is_posting idle))
      tells d e p q = tt

      home_row : k ≡ s.g → node_of s.u ≡ s.h → Acted s (On r k (Setting true true)) (done s.u.lay s.ws (Put (Dir (node_of s.u) k) 2)) es (At None 0 P.Enter ∷ [])
      home_row d e =
          by_events s {es = es} (At None 0 P.Enter ∷ []) (W.Home_enter ∷ []) refl (tt, tt) (tells d e, tt)
          (record { words = dir_words s f.within (W.after_event (place s) s.x W.Home_enter) refl refl d (held d) (λ _. refl) (λ ne. absurd (ne e)) (λ away. absurd (away.1 e)); counted = numbers_stay s es quiet })
          (record { mode = λ j at tu' _. absurd (at.1 (sym (turn_of refl tu') ∙ e)); copied = λ away d z. absurd (cc z); beginning = λ away d z. absurd (cc z) })

      go : (k ≡ s.g) ⊎ (k ≢ s.g) → (node_of s.u ≡ s.h) ⊎ (node_of s.u ≢ s.h) → Acted s (On r k (Setting true true)) (done s.u.lay s.ws (Put (Dir (node_of s.u) k) 2)) es (map (At (place_of s.h (node_of s.u)) 0) (R.only ((k == s.g && node_of s.u == node_of s.u) && node_of s.u == s.h) P.Enter))
      go (inr ne) w = goal false (place_of s.h (node_of s.u)) (none (k == s.g) (node_of s.u == node_of s.u) (node_of s.u == s.h) (inl (ne_eqb k s.g ne))) refl (away_row (inr ne))
      go (inl d) (inr ne) = goal false (place_of s.h (node_of s.u)) (none (k == s.g) (node_of s.u == node_of s.u) (node_of s.u == s.h) (inr (ne_eqb (node_of s.u) s.h ne))) refl (away_row (inl ne))
      go (inl d) (inl e) = goal true None (all (k == s.g) (node_of s.u == node_of s.u) (node_of s.u == s.h) (eq-eqb k s.g d) (eq-eqb (node_of s.u) (node_of s.u) refl) (eq-eqb (node_of s.u) s.h e)) (place_home s.h (node_of s.u) e) (home_row d e)
