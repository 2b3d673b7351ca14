-- Rows of a page of a release, for what a node owes: it is sent, its mapping lowered, its twin dropped, its node unlisted.
use Rattle.std.proofs.Common.{◌≡◌, inl, inr, ℕ, zero, suc, ◌+◌, ◌*◌, ◌<◌, ◌==◌, Bool, true, false, [], ◌∷◌, refl, sym, ap, ◌∙◌, subst, arith, if◌then◌else◌}
use Rattle.std.specs.Prelude.{◌&&◌, ◌||◌, nat_lt, slice_index}
use Rattle.std.proofs.lemmas.Bool.{lt-ltb, ltb-true, eq-eqb, eqb-true}
use Rattle.dsm_words.specs.declared.item.Item.TheVariants.{Frame, Twin, Twined, Map, Dir, Flush}
use Rattle.dsm_words.specs.Script.{Get, Put}
use Rattle.dsm_words.specs.Words.{done}
use Rattle.dsm_protocol.specs.Own.{Own, node_of}
use Rattle.dsm_protocol.specs.Stages.{For_release, Whole, Got, Differs, Half, Mapped, Seeking, Released, Checking, Drawing, Timed, Flushing, Stamping, Stamped, Posting, Posted, Telling, Lowering, Dropping, Untwining, Unlisting, Done, Round, Releasing, On, lowered}
use Rattle.dsm_protocol.specs.Rows.{map_at, sees_release, lasts, tests_flush, flushes, flushes_twin, flushes_home, reads_dir, posts, lowers, untwins, unlists, flushed_all, unsent, posted, untold, unlowered, dropped, sent, told}
use Rattle.dsm_ties.specs.Tied.{bit}
use Rattle.dsm_debts.specs.Page as D
use Rattle.dsm_debts.specs.Page.{Event, Unmap, Begin, Load, Refresh, Send, Tell, Drop, with_part, worker, opened}
use Rattle.dsm_debts.specs.Premises.{IsPart as IsPartOf, IsRefreshing}
use Rattle.dsm_releases.specs.Views.{part_view, soils as is_soiling}
use Rattle.dsm_releases.specs.Events.{only, lower_event}
use Rattle.dsm_releases.proofs.Words.{Scene, home, first, match_one, match_get, match_aside, match_still, says, says_same, untouched, loaded, stage_kept, keeps_stage, keeps_dirty}
use Rattle.dsm_releases.proofs.Frame as F
use Rattle.dsm_releases.proofs.Models.{part_at, part_past, part_same, part_next}

-- a copying that begins stands before each word
part_first : (i : ℕ) → part_view i 0 D.Before ≡ D.Before
part_first zero = refl
part_first (suc i) = rw (lt-ltb 0 (suc i) (omega arith)) refl

-- a word that says that there is a twin, or none
has_twin : (b : Bool) → bit b ≡ 1 → b ≡ true
has_twin true e = refl
has_twin false e = absurd (omega (arith, e))

no_twin : (b : Bool) (x : ℕ) → x ≡ bit b → (x == 1) ≡ false → b ≡ false
no_twin false x e off = refl
no_twin true x e off = absurd (cc (sym (eq-eqb x 1 e) ∙ off))

module _ (c : Scene) (o : Own) where
  -- a page of an exclusive node is left as it is
  pub row_sees_release : {r : Round} {g x : ℕ} → F.RowActs c o (sees_release {r = r} {g = g} {x = x})
  row_sees_release {r} {g} {x} f = go (x == 2) refl
    where
      go : (b : Bool) → (x == 2) ≡ b → F.Acted c (On r g (if b then Done else Seeking For_release)) o (done c.u.lay c.ws (Get (Dir (node_of c.u) g))) []
      go true is = F.loads c {r = r} {k = g} {s = Released} {t = Done} f (λ e. e) (λ d tu w. inr (inl (w, (says c (Dir (node_of c.u) g) f.within ((F.page_is tu).0, d)).0 (sym f.told ∙ eqb-true x 2 is)))) refl
      go false is = F.loads c {r = r} {k = g} {s = Released} {t = Seeking For_release} f (λ e. e) (λ _ _ w. w) refl

  -- so is one that was flushed since the release began
  pub row_lasts : {t0 k g h x : ℕ} → F.RowActs c o (lasts {t0 = t0} {k = k} {g = g} {h = h} {x = x})
  row_lasts {t0} {k} {g} {h} {x} f = go (nat_lt t0 x) refl
    where
      go : (b : Bool) → nat_lt t0 x ≡ b → F.Acted c (On (Releasing t0 k) g (if b then Lowering false else Drawing h)) o (done c.u.lay c.ws (Get (Flush (node_of c.u) g))) []
      go true is = F.loads c {r = Releasing t0 k} {k = g} {s = Checking h} {t = Lowering false} f (λ e. e) (λ d tu w. inr (refl, (w, later d (F.page_is tu).0))) refl
        where
          later : g ≡ c.g → node_of c.u ≡ c.n → opened (c.f.processors c.u.p).stage < c.f.page.flush
          later d e = let at = F.stage_now c {w = On (Releasing t0 k) g (Checking h)} f.here.knows (λ z. absurd (cc z)) e in subst (λ z. opened z < c.f.page.flush) (sym at) (subst (λ z. t0 < z) (f.told ∙ says c (Flush (node_of c.u) g) f.within (e, d)) (ltb-true t0 x is))
      go false is = F.loads c {r = Releasing t0 k} {k = g} {s = Checking h} {t = Drawing h} f (λ e. e) (λ _ _ w. w) refl

  -- there is a twin, and its flush begins; or there is nothing to flush
  pub row_tests_flush : {r : Round} {g h t x : ℕ} (e : (node_of c.u == h) ≡ false) → F.RowActs c o (tests_flush {r = r} {g = g} {h = h} {t = t} {x = x} e)
  row_tests_flush {r} {g} {h} {t} {x} away f = go (x == 1) refl
    where
      go : (b : Bool) → (x == 1) ≡ b → F.Acted c (On r g (if b then Flushing h t 0 Whole else Stamping h t false)) o (done c.u.lay c.ws (Get (Twined (node_of c.u) g))) (only (F.IsAt c g (node_of c.u) && b) Begin)
      go true is = F.turn_row c {r = r} {k = g} {s = Timed h t} {t = Flushing h t 0 Whole} (node_of c.u) true Begin f refl refl refl refl refl (λ _. loaded c (Twined (node_of c.u) g) f.within)
          (λ d e other w. absurd (cc other))
          (λ d e _ w. record {
            may = (c.u.p, t, w, has_twin c.f.page.twin (sym (says c (Twined (node_of c.u) g) f.within (e, d)) ∙ sym f.told ∙ eqb-true x 1 is));
            works = ap D.begun w ∙ ap (D.Flushing c.u.p t) (sym (part_first c.i));
            match = match_get c Begin (F.held c (node_of c.u) f refl d e (F.behind c Begin)) (Twined (node_of c.u) g) f.within refl;
          })
      go false is = F.turn_row c {r = r} {k = g} {s = Timed h t} {t = Stamping h t false} (node_of c.u) false Begin f refl refl refl refl refl (λ _. loaded c (Twined (node_of c.u) g) f.within)
          (λ d e _ w. (w, inr (no_twin c.f.page.twin x (f.told ∙ says c (Twined (node_of c.u) g) f.within (e, d)) is)))
          (λ d e other w. absurd (cc other))

  -- the parts of a flush
  pub row_flushes : {r : Round} {g h t i x : ℕ} → F.RowActs c o (flushes {r = r} {g = g} {h = h} {t = t} {i = i} {x = x})
  row_flushes {r} {g} {h} {t} {i} {x} f = F.turn_row c {r = r} {k = g} {s = Flushing h t i Whole} {t = Flushing h t i (Got x)} (node_of c.u) (i == c.i) Load f refl refl refl refl refl (λ _. loaded c (Frame (node_of c.u) g i) f.within)
      (λ d e other w. w ∙ ap (D.Flushing c.u.p t) (part_same c.i i D.Before D.Loaded (λ z. absurd (cc (sym (eq-eqb i c.i z) ∙ other)))))
      (λ d e yes w. let at = eqb-true i c.i yes in record {
        may = subst (λ z. IsPartOf D.Before z) (sym w) (part_at c.i i D.Before at);
        works = ap (with_part D.Loaded) w ∙ ap (D.Flushing c.u.p t) (sym (part_at c.i i D.Loaded at));
        match = match_get c Load (F.held c (node_of c.u) f refl d e (F.behind c Load)) (Frame (node_of c.u) g i) f.within refl;
      })

  pub row_flushes_twin : {r : Round} {g h t i v x : ℕ} → F.RowActs c o (flushes_twin {r = r} {g = g} {h = h} {t = t} {i = i} {v = v} {x = x})
  row_flushes_twin {r} {g} {h} {t} {i} {v} {x} f = F.turn_row c {r = r} {k = g} {s = Flushing h t i (Differs v)} {t = Flushing h t i (Half v)} (node_of c.u) (i == c.i) Refresh f refl refl refl refl refl (λ _. untouched c (Put (Twin (node_of c.u) g i) v) f.within (λ z. z))
      (λ d e other w. w ∙ ap (D.Flushing c.u.p t) (part_same c.i i D.Differs D.Sending (λ z. absurd (cc (sym (eq-eqb i c.i z) ∙ other)))))
      (λ d e yes w. let at = eqb-true i c.i yes in record {
        may = subst (λ z. IsRefreshing z) (sym w) (part_at c.i i D.Differs at);
        works = ap (with_part D.Sending) w ∙ ap (D.Flushing c.u.p t) (sym (part_at c.i i D.Sending at));
        match = match_aside c Refresh (F.held c (node_of c.u) f refl d e (F.behind c Refresh)) (Put (Twin (node_of c.u) g i) v) f.within refl (λ z. z);
      })

  pub row_flushes_home : {r : Round} {g h t i v x : ℕ} → F.RowActs c o (flushes_home {r = r} {g = g} {h = h} {t = t} {i = i} {v = v} {x = x})
  row_flushes_home {r} {g} {h} {t} {i} {v} {x} f = F.turn_row c {r = r} {k = g} {s = Flushing h t i (Half v)} {t = Flushing h t (i + 1) Whole} (node_of c.u) (i == c.i) Send f refl refl refl refl refl (λ _. untouched c (Put (Frame h g i) v) f.within (λ z. z))
      (λ d e other w. w ∙ ap (D.Flushing c.u.p t) (part_next c.i i D.Sending (λ z. absurd (cc (sym (eq-eqb i c.i z) ∙ other)))))
      (λ d e yes w. let at = eqb-true i c.i yes in record {
        may = subst (λ z. IsPartOf D.Sending z) (sym w) (part_at c.i i D.Sending at);
        works = ap (with_part D.After) w ∙ ap (D.Flushing c.u.p t) (sym (part_past c.i (i + 1) D.Before (omega (arith, at))));
        match = match_aside c Send (F.held c (node_of c.u) f refl d e (F.behind c Send)) (Put (Frame h g i) v) f.within refl (λ z. z);
      })

  -- each other node is passed by, or told
  pub row_reads_dir : {r : Round} {g h j x : ℕ} {flushed : Bool} → F.RowActs c o (reads_dir {r = r} {g = g} {h = h} {j = j} {x = x} {flushed = flushed})
  row_reads_dir {r} {g} {h} {j} {x} {flushed} f = F.pick c (x == 0 || j == node_of c.u || j == h)
      (F.loads c {r = r} {k = g} {s = Posting h flushed j} {t = Posting h flushed (j + 1)} f (λ e. e) (λ _ _ w. w) refl)
      (F.loads c {r = r} {k = g} {s = Posting h flushed j} {t = Telling h flushed j} f (λ e. e) (λ _ _ w. w) refl)

  pub row_posts : {r : Round} {g h j x : ℕ} {flushed : Bool} (v : ℕ) (e : (v == 0 || j == node_of c.u || j == h) ≡ false) → F.RowActs c o (posts {r = r} {g = g} {h = h} {j = j} {x = x} {flushed = flushed} v e)
  row_posts {r} {g} {h} {j} {x} {flushed} v e f = F.stores c {r = r} {k = g} {s = Telling h flushed j} {t = Posting h flushed (j + 1)} f (λ i. i) (λ d. d) (λ _ _ w. w) refl

  -- its own mapping is lowered, behind a flush or because one was timed since its release began
  pub row_lowers : {r : Round} {g x : ℕ} {flushed : Bool} (e : (map_at c.u o.maps o.dirty g == 2) ≡ true) → F.RowActs c o (lowers {r = r} {g = g} {x = x} {flushed = flushed} e)
  row_lowers {r} {g} {x} {flushed} two f = F.only_if c (F.IsAt c g (node_of c.u)) (λ z. let m = F.at_is c g (node_of c.u) z in on m.0 m.1 (F.works_here c {r = r} {k = g} {s = Lowering flushed} (node_of c.u) f.here.knows refl m.0 m.1))
      (λ z. let off : g ≡ c.g → node_of c.u ≡ c.n → ⊥ = λ d e. absurd (cc (sym (F.is_at c d e) ∙ z)) in record { runs = tt; match = untouched c (Put (Map c.u.p g) 1) f.within (λ i. off i.1 i.0); knows = F.elsewhere_on c {r = r} {k = g} {s = Lowering flushed} {t = Mapped 1 (lowered c.u flushed)} (node_of c.u) off f.here.knows refl (F.dirty_on c (Mapped 1 (lowered c.u flushed)) f.here.knows (unsoiled flushed)) })
    where
      unsoiled : (b : Bool) → is_soiling (lowered c.u b) ≡ false
      unsoiled true = refl
      unsoiled false = refl

      acts : (e : Event) → keeps_stage e ≡ true → keeps_dirty e ≡ true → F.Under c (Mapped 1 (lowered c.u flushed)) (done c.u.lay c.ws (Put (Map c.u.p g) 1)) e → lower_event c.u.p c.f.page.work ≡ e → F.Acted c (On r g (Mapped 1 (lowered c.u flushed))) o (done c.u.lay c.ws (Put (Map c.u.p g) 1)) (lower_event c.u.p c.f.page.work ∷ [])
      acts e st di z same = subst (λ y. F.Acted c (On r g (Mapped 1 (lowered c.u flushed))) o (done c.u.lay c.ws (Put (Map c.u.p g) 1)) (y ∷ [])) (sym same) (F.event_on c {r = r} {k = g} {s = Lowering flushed} {t = Mapped 1 (lowered c.u flushed)} e f.here.knows st di (unsoiled flushed) z)

      behind_flush : (b : Bool) → node_of c.u ≡ c.n → (c.f.page.work ≡ D.Posted c.u.p b (first c)) → ((F.behind c D.Lower).processors c.u.p).writes ≡ false → F.WorksHere c (lowered c.u b) (F.behind c D.Lower)
      behind_flush true e w bare = (first c, w, (λ _. ap (λ z. z * c.u.lay.procs) (sym e)), bare)
      behind_flush false e w bare = inl ((false, first c, w), bare)

      timed : (b : Bool) → b ≡ false → (c.f.page.work ≡ D.Idle) → (opened (c.f.processors c.u.p).stage < c.f.page.flush) → F.WorksHere c (lowered c.u b) (F.behind c (Unmap c.u.p))
      timed true is w later = absurd (cc is)
      timed false is w later = inr (inr ((w, subst (λ z. opened z < c.f.page.flush) (sym (stage_kept (home c) (first c) c.f (Unmap c.u.p) refl c.u.p)) later), rw (eq-eqb c.u.p c.u.p refl) refl))

      on : (d : g ≡ c.g) (e : node_of c.u ≡ c.n) → F.WorksHere c (Lowering flushed) c.f → F.Acted c (On r g (Mapped 1 (lowered c.u flushed))) o (done c.u.lay c.ws (Put (Map c.u.p g) 1)) (lower_event c.u.p c.f.page.work ∷ [])
      on d e (inl w) = let mine = sym (ap worker w) in let bare : ((F.behind c D.Lower).processors c.u.p).writes ≡ false = rw (eq-eqb c.u.p (worker c.f.page.work) mine) refl in
          acts D.Lower refl refl (record {
            may = (c.u.p, flushed, first c, w);
            works = behind_flush flushed e w bare;
            match = match_one c D.Lower (F.held c (node_of c.u) f refl d e (F.behind c D.Lower)) (Put (Map c.u.p g) 1) f.within (e, d) refl mine (sym bare);
          }) (ap (lower_event c.u.p) w)
      on d e (inr w) = acts (Unmap c.u.p) refl refl (record {
        may = w.1.0;
        works = timed flushed w.0 w.1.0 w.1.1;
        match = match_one c (Unmap c.u.p) (F.held c (node_of c.u) f refl d e (F.behind c (Unmap c.u.p))) (Put (Map c.u.p g) 1) f.within (e, d) refl refl (rw (eq-eqb c.u.p c.u.p refl) refl);
      }) (ap (lower_event c.u.p) w.1.0)

  -- the twin is dropped
  pub row_untwins : {r : Round} {g x : ℕ} {free : Bool} → F.RowActs c o (untwins {r = r} {g = g} {x = x} {free = free})
  row_untwins {r} {g} {x} {free} f = go free f
    where
      go : (b : Bool) → F.Meets c (On r g (Untwining b)) o (Put (Twined (node_of c.u) g) 0) x → F.Acted c (On r g (if b then Unlisting else Done)) o (done c.u.lay c.ws (Put (Twined (node_of c.u) g) 0)) (only (F.IsAt c g (node_of c.u)) Drop)
      go true f = F.event_row c {r = r} {k = g} {s = Untwining true} {t = Unlisting} (node_of c.u) Drop f refl refl refl refl refl (λ off. untouched c (Put (Twined (node_of c.u) g) 0) f.within (λ i. off i.1 i.0))
          (λ d e w. record {
            may = (c.u.p, w.0, w.1, w.2);
            works = ((false, w.0, ap D.dropped w.1), w.3);
            match = match_one c Drop (F.held c (node_of c.u) f refl d e (F.behind c Drop)) (Put (Twined (node_of c.u) g) 0) f.within (e, d) refl tt refl;
          })
      go false f = F.event_row c {r = r} {k = g} {s = Untwining false} {t = Done} (node_of c.u) Drop f refl refl refl refl refl (λ off. untouched c (Put (Twined (node_of c.u) g) 0) f.within (λ i. off i.1 i.0))
          (λ d e w. record {
            may = (c.u.p, w.0, w.1, w.2);
            works = inl ((false, w.0, ap D.dropped w.1), w.3);
            match = match_one c Drop (F.held c (node_of c.u) f refl d e (F.behind c Drop)) (Put (Twined (node_of c.u) g) 0) f.within (e, d) refl tt refl;
          })

  -- the node leaves: it had the page not alone
  pub row_unlists : {r : Round} {g x : ℕ} → F.RowActs c o (unlists {r = r} {g = g} {x = x})
  row_unlists {r} {g} {x} f = F.quiet_row c {r = r} {k = g} {s = Unlisting} {t = Done} f
      (says_same c (Put (Dir (node_of c.u) g) 0) f.within (λ i. (λ z. absurd (omega (arith, z)), λ z. absurd (cc (sym (F.not_sole c (F.turn_says c {r = r} {k = g} {s = Unlisting} {o = o} (node_of c.u) f.here.owns i.1 i.0 refl).0) ∙ z)))))
      (λ e. e) (λ _ _ w. inl w) refl

  -- the whole page is flushed
  pub slip_flushed_all : {r : Round} {g h t : ℕ} → F.SlipActs c o (flushed_all {r = r} {g = g} {h = h} {t = t})
  slip_flushed_all {r} {g} {h} {t} own f = F.stays c {r = r} {k = g} {s = Flushing h t c.u.lay.words Whole} {t = Stamping h t true} f.knows (λ e. e) (λ _ _ w. w ∙ ap (D.Flushing c.u.p t) (part_past c.i c.u.lay.words D.Before c.i_in)) refl

  pub slip_unsent : {r : Round} {g h : ℕ} {flushed : Bool} (e : (flushed || node_of c.u == h) ≡ false) → F.SlipActs c o (unsent {r = r} {g = g} {h = h} {flushed = flushed} e)
  slip_unsent {r} {g} {h} {flushed} e own f = F.stays c {r = r} {k = g} {s = Stamped h flushed} {t = Posting h flushed 0} f.knows (λ d. d) (λ _ _ w. w) refl

  pub slip_posted : {r : Round} {g h : ℕ} {flushed : Bool} → F.SlipActs c o (posted {r = r} {g = g} {h = h} {flushed = flushed})
  slip_posted {r} {g} {h} {flushed} own f = F.stays c {r = r} {k = g} {s = Posting h flushed c.u.lay.nodes} {t = Posted h flushed} f.knows (λ e. e) (λ _ _ w. w) refl

  -- all are told
  tells_all : {r : Round} {g h : ℕ} {flushed : Bool} → F.Now c (On r g (Posted h flushed)) o → F.Acted c (On r g (Lowering flushed)) o c.ws (only (F.IsAt c g (node_of c.u)) Tell)
  tells_all {r} {g} {h} {flushed} knows = F.event_note c {r = r} {k = g} {s = Posted h flushed} {t = Lowering flushed} (node_of c.u) Tell knows refl refl refl refl refl
      (λ d e w. record {
        may = (c.u.p, flushed, w);
        works = inl (ap (D.posted (first c)) w);
        match = match_still c Tell (F.busy c w (λ z. absurd (cc z)) (F.behind c Tell)) refl;
      })

  pub slip_untold : {r : Round} {g h : ℕ} {flushed : Bool} (e : (flushed || node_of c.u == h) ≡ false) → F.SlipActs c o (untold {r = r} {g = g} {h = h} {flushed = flushed} e)
  slip_untold {r} {g} {h} {flushed} e own f = tells_all {r = r} {g = g} {h = h} {flushed = flushed} f.knows

  -- there was no mapping to write
  pub slip_unlowered : {r : Round} {g : ℕ} {flushed : Bool} (e : (map_at c.u o.maps o.dirty g == 2) ≡ false) → F.SlipActs c o (unlowered {r = r} {g = g} {flushed = flushed} e)
  slip_unlowered {r} {g} {flushed} none own f = go flushed f.knows
    where
      bare : g ≡ c.g → node_of c.u ≡ c.n → (c.f.processors c.u.p).writes ≡ false
      bare d e = sym (says c (Map c.u.p c.g) (c.at.p_in, c.g_in) (e, refl)) ∙ ap (λ z. z == 2) own ∙ subst (λ z. (slice_index o.maps z == 2) ≡ false) d none

      go : (b : Bool) → F.Now c (On r g (Lowering b)) o → F.Acted c (On r g (lowered c.u b)) o c.ws []
      go true k = F.stays c {r = r} {k = g} {s = Lowering true} {t = Dropping (node_of c.u * c.u.lay.procs) true true} k (λ e. e) (λ d tu w. next d (F.page_is tu).0 w) refl
        where
          next : g ≡ c.g → node_of c.u ≡ c.n → F.WorksHere c (Lowering true) c.f → F.WorksHere c (Dropping (node_of c.u * c.u.lay.procs) true true) c.f
          next d e (inl w) = (first c, w, (λ _. ap (λ z. z * c.u.lay.procs) (sym e)), bare d e)
          next d e (inr w) = absurd (cc w.0)
      go false k = F.stays c {r = r} {k = g} {s = Lowering false} {t = Done} k (λ e. e) (λ d tu w. next d (F.page_is tu).0 w) refl
        where
          next : g ≡ c.g → node_of c.u ≡ c.n → F.WorksHere c (Lowering false) c.f → F.WorksHere c Done c.f
          next d e (inl w) = inl ((false, first c, w), bare d e)
          next d e (inr w) = inr (inr (w.1, bare d e))

  -- all processors were looked at
  pub slip_dropped : {r : Round} {g : ℕ} {unwritten free : Bool} → F.SlipActs c o (dropped {r = r} {g = g} {unwritten = unwritten} {free = free})
  slip_dropped {r} {g} {unwritten} {free} own f = go unwritten f.knows
    where
      last : ℕ
      last = node_of c.u * c.u.lay.procs + c.u.lay.procs

      go : (b : Bool) → F.Now c (On r g (Dropping last b free)) o → F.Acted c (On r g (if b then Untwining free else Done)) o c.ws []
      go true k = F.stays c {r = r} {k = g} {s = Dropping last true free} {t = Untwining free} k (λ e. e) (λ d tu w. (w.0, w.1, (let at = ap (λ z. z * c.u.lay.procs) (F.page_is tu).0 in let same : w.0 ≡ last = w.2 refl in omega (arith, same, at)), w.3)) refl
      go false k = F.stays c {r = r} {k = g} {s = Dropping last false free} {t = Done} k (λ e. e) (λ d tu w. inl ((true, w.0, w.1), w.3)) refl

  pub note_sent : {r : Round} {g h : ℕ} {flushed : Bool} (e : (flushed || node_of c.u == h) ≡ true) → F.NoteActs c o (sent {r = r} {g = g} {h = h} {flushed = flushed} e)
  note_sent {r} {g} {h} {flushed} e f = F.stays c {r = r} {k = g} {s = Stamped h flushed} {t = Posting h flushed 0} f.knows (λ d. d) (λ _ _ w. w) refl

  pub note_told : {r : Round} {g h : ℕ} {flushed : Bool} (e : (flushed || node_of c.u == h) ≡ true) → F.NoteActs c o (told {r = r} {g = g} {h = h} {flushed = flushed} e)
  note_told {r} {g} {h} {flushed} e f = tells_all {r = r} {g = g} {h = h} {flushed = flushed} f.knows
