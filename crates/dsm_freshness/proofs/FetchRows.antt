-- Rows of a fetch, of a twin that is made, and of the mapping behind them.
use Rattle.std.proofs.Common.{◌≡◌, ◌≢◌, ℕ, ◌+◌, ◌≤◌, ◌==◌, Bool, true, false, [], None, refl, sym, ap, ◌∙◌, arith, if◌then◌else◌}
use Rattle.std.specs.Prelude.{◌&&◌, ◌||◌, not, nat_lt}
use Rattle.std.proofs.lemmas.Bool.{ne_eqb, eqb-false}
use Rattle.dsm_words.specs.declared.item.Item.TheVariants.{Update, Notice, Map, Frame, Twin, Twined}
use Rattle.dsm_words.specs.Script.{Get, Put}
use Rattle.dsm_words.specs.Words.{word, done}
use Rattle.dsm_protocol.specs.Own.{Own, node_of}
use Rattle.dsm_protocol.specs.Steps.{wanted}
use Rattle.dsm_protocol.specs.Stages.{Whole, First, Got, Differs, Stage, Mapped, Parting, Entered, Filling, Filled, Compared, Fetching, Copying, Copied, Current, Making, Setting, Soiling, Giving, Dropping, Done, Emptying, Round, On}
use Rattle.dsm_protocol.specs.Rows.{loaded as loads_as, draws_enter, fills, fills_own, stamps_enter, enters, compares, judges, draws, sees_twin, copies, copies_over, merges, merges_own, merges_twin, stamps, has_twin, makes, makes_twin, made, sets, maps, soils, begins_copy, begins_fill, fetched, filled, appends_load, appends_store}
use Rattle.dsm_fresh.specs.Pages.{First as Begin, Last, Stamp, Enter, Current as Finds, Map as Maps}
use Rattle.dsm_fresh.specs.Stages as S
use Rattle.dsm_freshness.specs.Views.{fetch_view, work_view}
use Rattle.dsm_freshness.specs.Events.{only}
use Rattle.dsm_freshness.specs.Tied.{may_load}
use Rattle.dsm_freshness.proofs.Words.{Scene, says, match_one, match_none, match_still, loaded, untouched, put_same}
use Rattle.dsm_freshness.proofs.Frame as F

-- the first word of a fetch is loaded, and nothing is seen of it
first_seen : (q : ℕ) (a : Bool) (e t i x : ℕ) → fetch_view q a e t i (loads_as i x) ≡ fetch_view q a e t i Whole
first_seen q a e t i x = go (i == 0)
  where
    go : (d : Bool) → fetch_view q a e t i (if d then First x else Got x) ≡ (if d then S.Ready q t else S.Open q a t e)
    go true = refl
    go false = refl

-- the next word of a fetch is not the first one
next_seen : (q : ℕ) (a : Bool) (e t i : ℕ) → fetch_view q a e t (i + 1) Whole ≡ S.Open q a t e
next_seen q a e t i = ap (λ z. if z then S.Ready q t else S.Open q a t e) (ne_eqb (i + 1) 0 (λ d. omega (arith, d)))

below : (x y : ℕ) → nat_lt y x ≡ false → x ≤ y
below x y e = grind arith

neither : (a b : Bool) → (a || b) ≡ false → (a ≡ false) × (b ≡ false)
neither true b e = absurd (cc e)
neither false b e = (refl, e)

module _ (c : Scene) (o : Own) where
  -- the copy of entering exclusive use
  pub row_draws_enter : {r : Round} {g h x : ℕ} → F.RowActs c o (draws_enter {r = r} {g = g} {h = h} {x = x})
  row_draws_enter {r} {g} {h} {x} f = F.draw_row c f refl refl refl f.here.fits (λ k. refl) (λ k. refl) refl refl (λ d n. let k = F.own_turn c f.here.owns d n refl in λ z. absurd (omega (arith, z, F.dir_same c, k.0)))

  pub row_fills : {r : Round} {g h t i x : ℕ} → F.RowActs c o (fills {r = r} {g = g} {h = h} {t = t} {i = i} {x = x})
  row_fills {r} {g} {h} {t} {i} {x} f = F.quiet_row c f (loaded c (Frame h g i) f.within) refl (λ k. first_seen c.u.p true k t i x) refl (λ d. d) (λ _ _. tt)

  pub row_fills_own : {r : Round} {g h t i v x : ℕ} → F.RowActs c o (fills_own {r = r} {g = g} {h = h} {t = t} {i = i} {v = v} {x = x})
  row_fills_own {r} {g} {h} {t} {i} {v} {x} f = F.quiet_row c f (untouched c (Put (Frame (node_of c.u) g i) v) f.within (λ e. e)) refl (λ k. next_seen c.u.p true k t i) refl (λ d. d) (λ _ _. tt)

  pub row_stamps_enter : {r : Round} {g t x : ℕ} → F.RowActs c o (stamps_enter {r = r} {g = g} {t = t} {x = x})
  row_stamps_enter {r} {g} {t} {x} f = F.own_row c (Stamp c.u.p) f refl refl refl (λ i. (i.1, i.0)) (λ is. let i = F.mine c g is in let k = F.works_here c f.here is refl in
      record { may = (true, t, k.0, k.1); works = (k.0, ap S.stamped k.1); hand = refl; stage = F.stage_on c Entered (Stamp c.u.p) f.here is refl refl; stamp = tt; match = λ w d. match_one c (Stamp c.u.p) w d _ f.within (i.1, i.0) refl tt (sym (ap S.time_of k.1)) })

  pub row_enters : {r : Round} {g x : ℕ} → F.RowActs c o (enters {r = r} {g = g} {x = x})
  row_enters {r} {g} {x} f = F.own_row c (Enter c.u.p) f refl refl refl (λ i. (i.1, i.0)) (λ is. let i = F.mine c g is in let k = F.works_here c f.here is refl in
      record { may = k.1; works = (k.0, refl); hand = refl; stage = F.stage_on c (Setting true true) (Enter c.u.p) f.here is refl refl; stamp = tt; match = λ w d. match_one c (Enter c.u.p) w d _ f.within (i.1, i.0) refl tt refl })

  -- the stamp is compared with the last notice
  pub row_compares : {r : Round} {g h x : ℕ} {write : Bool} (e : (node_of c.u == h) ≡ false) → F.RowActs c o (compares {r = r} {g = g} {h = h} {x = x} {write = write} e)
  row_compares {r} {g} {h} {x} {write} e f = F.quiet_row c f (loaded c (Update (node_of c.u) g) f.within) refl (λ k. refl) refl (λ d. d) (λ d n. sym c.match.update ∙ sym (f.told ∙ ap (word c.u.lay c.ws) (λ i. Update (n i) (d i))))

  pub row_judges : {r : Round} {g h y x : ℕ} {write : Bool} → F.RowActs c o (judges {r = r} {g = g} {h = h} {y = y} {x = x} {write = write})
  row_judges {r} {g} {h} {y} {x} {write} f = go (y == 0 || nat_lt y x) refl
    where
      go : (d : Bool) → (y == 0 || nat_lt y x) ≡ d → F.Acted c (On r g (if d then Fetching write h else Current write h)) (done c.u.lay c.ws (Get (Notice (node_of c.u) g))) (if d then [] else only (g == c.g && node_of c.u == c.n) (Finds c.u.p))
      go true e = F.quiet_row c {r = r} {h = g} {s = Compared write h y} {t = Fetching write h} f (loaded c (Notice (node_of c.u) g) f.within) refl (λ k. refl) refl (λ d. d) (λ _ _. tt)
      go false e = F.own_row c {r = r} {h = g} {s = Compared write h y} {t = Current write h} (Finds c.u.p) f refl refl refl (λ i. (i.1, i.0)) (λ is. let i = F.mine c g is in let k = F.works_here c f.here is refl in
          let z = neither (y == 0) (nat_lt y x) e in let some : y ≢ 0 = eqb-false y 0 z.0 in
          let stamp : c.f.page.update ≡ y = f.here.knows.stamp i.1 i.0 in
          let at : x ≡ c.f.page.notice = f.told ∙ ap (word c.u.lay c.ws) (λ j. Notice (i.1 j) (i.0 j)) ∙ c.match.notice in
          let turn = F.own_turn c f.here.owns i.0 i.1 refl in
          record {
            may = ((F.is_of c i.1, F.stage_here c f.here is ∙ F.at_rest c.m c.n c.g r g (Compared write h y) f.here.fits, k.1), (λ d. absurd (omega (arith, d, F.dir_same c, turn.0))), (λ d. some (sym stamp ∙ d)), omega (arith, stamp, at, below x y z.1));
            works = (k.0, refl);
            hand = refl;
            stage = F.stage_on c (Current write h) (Finds c.u.p) f.here is refl refl;
            stamp = tt;
            match = λ w d. match_none c (Finds c.u.p) w d (Get (Notice (node_of c.u) g)) f.within refl (λ j. says c (Notice (node_of c.u) g) f.within j);
          })

  -- a fetch draws its time
  pub row_draws : {r : Round} {g h x : ℕ} {write : Bool} → F.RowActs c o (draws {r = r} {g = g} {h = h} {x = x} {write = write})
  row_draws {r} {g} {h} {x} {write} f = F.draw_row c f refl refl refl f.here.fits (λ k. refl) (λ k. refl) refl refl (λ d n. let k = F.own_turn c f.here.owns d n refl in λ z. absurd (omega (arith, z, F.dir_same c, k.0)))

  pub row_sees_twin : {r : Round} {g h t x : ℕ} {write : Bool} → F.RowActs c o (sees_twin {r = r} {g = g} {h = h} {t = t} {x = x} {write = write})
  row_sees_twin {r} {g} {h} {t} {x} {write} f = F.quiet_row c f (loaded c (Twined (node_of c.u) g) f.within) refl (λ k. refl) refl (λ d. d) (λ _ _. tt)

  -- its words are copied
  pub row_copies : {r : Round} {g h t i x : ℕ} {write twin : Bool} → F.RowActs c o (copies {r = r} {g = g} {h = h} {t = t} {i = i} {x = x} {write = write} {twin = twin})
  row_copies {r} {g} {h} {t} {i} {x} {write} {twin} f = F.quiet_row c f (loaded c (Frame h g i) f.within) refl (λ k. first_seen c.u.p false k t i x) refl (λ d. d) (λ _ _. tt)

  pub row_copies_over : {r : Round} {g h t i v x : ℕ} {write : Bool} → F.RowActs c o (copies_over {r = r} {g = g} {h = h} {t = t} {i = i} {v = v} {x = x} {write = write})
  row_copies_over {r} {g} {h} {t} {i} {v} {x} {write} f = F.quiet_row c f (untouched c (Put (Frame (node_of c.u) g i) v) f.within (λ e. e)) refl (λ k. next_seen c.u.p false k t i) refl (λ d. d) (λ _ _. tt)

  pub row_merges : {r : Round} {g h t i v x : ℕ} {write : Bool} → F.RowActs c o (merges {r = r} {g = g} {h = h} {t = t} {i = i} {v = v} {x = x} {write = write})
  row_merges {r} {g} {h} {t} {i} {v} {x} {write} f = go (v == x)
    where
      go : (d : Bool) → F.Acted c (On r g (if d then Copying write h t true (i + 1) Whole else Copying write h t true i (Differs v))) (done c.u.lay c.ws (Get (Twin (node_of c.u) g i))) []
      go true = F.quiet_row c {r = r} {h = g} {s = Copying write h t true i (Got v)} {t = Copying write h t true (i + 1) Whole} f (loaded c (Twin (node_of c.u) g i) f.within) refl (λ k. next_seen c.u.p false k t i) refl (λ d. d) (λ _ _. tt)
      go false = F.quiet_row c {r = r} {h = g} {s = Copying write h t true i (Got v)} {t = Copying write h t true i (Differs v)} f (loaded c (Twin (node_of c.u) g i) f.within) refl (λ k. refl) refl (λ d. d) (λ _ _. tt)

  pub row_merges_own : {r : Round} {g h t i v x : ℕ} {write : Bool} → F.RowActs c o (merges_own {r = r} {g = g} {h = h} {t = t} {i = i} {v = v} {x = x} {write = write})
  row_merges_own {r} {g} {h} {t} {i} {v} {x} {write} f = F.quiet_row c f (untouched c (Put (Frame (node_of c.u) g i) v) f.within (λ e. e)) refl (λ k. refl) refl (λ d. d) (λ _ _. tt)

  pub row_merges_twin : {r : Round} {g h t i v x : ℕ} {write : Bool} → F.RowActs c o (merges_twin {r = r} {g = g} {h = h} {t = t} {i = i} {v = v} {x = x} {write = write})
  row_merges_twin {r} {g} {h} {t} {i} {v} {x} {write} f = F.quiet_row c f (untouched c (Put (Twin (node_of c.u) g i) v) f.within (λ e. e)) refl (λ k. next_seen c.u.p false k t i) refl (λ d. d) (λ _ _. tt)

  pub row_stamps : {r : Round} {g h t x : ℕ} {write : Bool} → F.RowActs c o (stamps {r = r} {g = g} {h = h} {t = t} {x = x} {write = write})
  row_stamps {r} {g} {h} {t} {x} {write} f = F.own_row c (Stamp c.u.p) f refl refl refl (λ i. (i.1, i.0)) (λ is. let i = F.mine c g is in let k = F.works_here c f.here is refl in
      record { may = (false, t, k.0, k.1); works = (k.0, ap S.stamped k.1); hand = refl; stage = F.stage_on c (Current write h) (Stamp c.u.p) f.here is refl refl; stamp = tt; match = λ w d. match_one c (Stamp c.u.p) w d _ f.within (i.1, i.0) refl tt (sym (ap S.time_of k.1)) })

  -- a twin is made
  pub row_has_twin : {r : Round} {g h x : ℕ} → F.RowActs c o (has_twin {r = r} {g = g} {h = h} {x = x})
  row_has_twin {r} {g} {h} {x} f = go (x == 1)
    where
      go : (d : Bool) → F.Acted c (On r g (if d then Setting true false else Making 0 Whole)) (done c.u.lay c.ws (Get (Twined (node_of c.u) g))) []
      go true = F.quiet_row c {r = r} {h = g} {s = Current true h} {t = Setting true false} f (loaded c (Twined (node_of c.u) g) f.within) refl (λ k. refl) refl (λ d. d) (λ _ _. tt)
      go false = F.quiet_row c {r = r} {h = g} {s = Current true h} {t = Making 0 Whole} f (loaded c (Twined (node_of c.u) g) f.within) refl (λ k. refl) refl (λ d. d) (λ _ _. tt)

  pub row_makes : {r : Round} {g i x : ℕ} → F.RowActs c o (makes {r = r} {g = g} {i = i} {x = x})
  row_makes {r} {g} {i} {x} f = F.quiet_row c f (loaded c (Frame (node_of c.u) g i) f.within) refl (λ k. refl) refl (λ d. d) (λ _ _. tt)

  pub row_makes_twin : {r : Round} {g i v x : ℕ} → F.RowActs c o (makes_twin {r = r} {g = g} {i = i} {v = v} {x = x})
  row_makes_twin {r} {g} {i} {v} {x} f = F.quiet_row c f (untouched c (Put (Twin (node_of c.u) g i) v) f.within (λ e. e)) refl (λ k. refl) refl (λ d. d) (λ _ _. tt)

  pub row_made : {r : Round} {g x : ℕ} → F.RowActs c o (made {r = r} {g = g} {x = x})
  row_made {r} {g} {x} f = F.quiet_row c f (untouched c (Put (Twined (node_of c.u) g) 1) f.within (λ e. e)) refl (λ k. refl) refl (λ d. d) (λ _ _. tt)

  -- its own mapping is stored
  pub row_sets : {r : Round} {g x : ℕ} {write alone : Bool} → F.RowActs c o (sets {r = r} {g = g} {x = x} {write = write} {alone = alone})
  row_sets {r} {g} {x} {write} {alone} f = F.own_row c (Maps c.u.p) f refl refl refl (λ i. (i.1, i.0)) (λ is. let i = F.mine c g is in let k = F.works_here c f.here is refl in
      record {
        may = k.1;
        works = (k.0, k.1 ∙ after (write && not alone) k.0);
        hand = refl;
        stage = F.stage_on c (next (write && not alone)) (Maps c.u.p) f.here is refl refl;
        stamp = tt;
        match = λ w e. match_one c (Maps c.u.p) w e (Put (Map c.u.p g) (wanted write)) f.within (i.1, i.0) refl refl (loads write ∙ sym (ap (λ z. z.mapped) (put_same c.f.processors c.u.p _)));
      })
    where
      next : Bool → Stage
      next d = Mapped (wanted write) (if d then Soiling else Giving)

      loads : (write : Bool) → may_load (wanted write) ≡ true
      loads true = refl
      loads false = refl

      after : (d : Bool) (k : ℕ) → S.Fetched c.u.p ≡ work_view c.u.p k (next d)
      after true k = refl
      after false k = refl

  -- notes
  pub note_soils : {r : Round} {g : ℕ} → F.NoteActs c o (soils {r = r} {g = g})
  note_soils {r} {g} f = record { runs = tt; match = c.match; knows = F.quiet_on c {r = r} {h = g} {s = Soiling} {t = Giving} f.knows refl (λ k. refl) refl (λ d. d) (λ _ _. tt) }

  pub note_begins_copy : {r : Round} {g h t v : ℕ} {write twin : Bool} → F.NoteActs c o (begins_copy {r = r} {g = g} {h = h} {t = t} {v = v} {write = write} {twin = twin})
  note_begins_copy {r} {g} {h} {t} {v} {write} {twin} f = F.own_note c (Begin c.u.p false) f refl refl refl (λ is. let k = F.works_here c f is refl in F.works_on c k.1 (F.same_p c)) (λ is. let k = F.works_here c f is refl in
      record { may = (t, k.1); works = (c.f.page.sent, ap (S.opened false c.f.page.sent) k.1); hand = refl; stage = F.stage_on c (Copying write h t twin 0 (Got v)) (Begin c.u.p false) f is refl refl; stamp = tt; match = λ w d. match_still c (Begin c.u.p false) w d refl })

  pub note_begins_fill : {r : Round} {g h t v : ℕ} → F.NoteActs c o (begins_fill {r = r} {g = g} {h = h} {t = t} {v = v})
  note_begins_fill {r} {g} {h} {t} {v} f = F.own_note c (Begin c.u.p true) f refl refl refl (λ is. let k = F.works_here c f is refl in F.works_on c k.1 (F.same_p c)) (λ is. let k = F.works_here c f is refl in
      record { may = (t, k.1); works = (c.f.page.sent, ap (S.opened true c.f.page.sent) k.1); hand = refl; stage = F.stage_on c (Filling h t 0 (Got v)) (Begin c.u.p true) f is refl refl; stamp = tt; match = λ w d. match_still c (Begin c.u.p true) w d refl })

  pub note_fetched : {r : Round} {g h t : ℕ} {write twin : Bool} → F.NoteActs c o (fetched {r = r} {g = g} {h = h} {t = t} {write = write} {twin = twin})
  note_fetched {r} {g} {h} {t} {write} {twin} f = F.own_note c (Last c.u.p) f refl refl refl (λ is. let k = F.works_here c f is refl in F.works_on c (k.1 ∙ F.past c c.u.p false k.0 t) (F.same_p c)) (λ is. let k = F.works_here c f is refl in let opens : c.f.page.work ≡ S.Open c.u.p false t k.0 = k.1 ∙ F.past c c.u.p false k.0 t in
      record { may = (false, t, k.0, opens); works = (k.0, ap S.copied opens); hand = refl; stage = F.stage_on c (Copied write h t) (Last c.u.p) f is refl refl; stamp = tt; match = λ w d. match_still c (Last c.u.p) w d refl })

  pub note_filled : {r : Round} {g h t : ℕ} → F.NoteActs c o (filled {r = r} {g = g} {h = h} {t = t})
  note_filled {r} {g} {h} {t} f = F.own_note c (Last c.u.p) f refl refl refl (λ is. let k = F.works_here c f is refl in F.works_on c (k.1 ∙ F.past c c.u.p true k.0 t) (F.same_p c)) (λ is. let k = F.works_here c f is refl in let opens : c.f.page.work ≡ S.Open c.u.p true t k.0 = k.1 ∙ F.past c c.u.p true k.0 t in
      record { may = (true, t, k.0, opens); works = (k.0, ap S.copied opens); hand = refl; stage = F.stage_on c (Filled t) (Last c.u.p) f is refl refl; stamp = tt; match = λ w d. match_still c (Last c.u.p) w d refl })

  pub note_appends_load : {w x : ℕ} (none : None ≡ None) → F.NoteActs c o (appends_load {w = w} {x = x} none)
  note_appends_load {w} {x} none f = record { runs = tt; match = c.match; knows = F.off_same c f.knows refl (λ _. refl) (λ _ _. refl) }

  pub note_appends_store : {w v : ℕ} (none : None ≡ None) → F.NoteActs c o (appends_store {w = w} {v = v} none)
  note_appends_store {w} {v} none f = record { runs = tt; match = c.match; knows = F.off_same c f.knows refl (λ _. refl) (λ _ _. refl) }

  -- it notes its mapping
  pub note_maps : {r : Round} {g k : ℕ} {s : Stage} → F.NoteActs c o (maps {r = r} {g = g} {k = k} {s = s})
  note_maps {r} {g} {k} {s = Parting write h busy} f = record { runs = tt; match = c.match; knows = F.quiet_on c {r = r} {h = g} {s = Mapped k (Parting write h busy)} {t = Parting write h busy} f.knows refl (λ k. refl) refl (λ d. d) (λ _ _. tt) }
  note_maps {r} {g} {k} {s = Soiling} f = record { runs = tt; match = c.match; knows = F.quiet_on c {r = r} {h = g} {s = Mapped k Soiling} {t = Soiling} f.knows refl (λ k. refl) refl (λ d. d) (λ _ _. tt) }
  note_maps {r} {g} {k} {s = Giving} f = record { runs = tt; match = c.match; knows = F.quiet_on c {r = r} {h = g} {s = Mapped k Giving} {t = Giving} f.knows refl (λ k. refl) refl (λ d. d) (λ _ _. tt) }
  note_maps {r} {g} {k} {s = Dropping q unwritten free} f = record { runs = tt; match = c.match; knows = F.quiet_on c {r = r} {h = g} {s = Mapped k (Dropping q unwritten free)} {t = Dropping q unwritten free} f.knows refl (λ k. refl) refl (λ d. d) (λ _ _. tt) }
  note_maps {r} {g} {k} {s = Done} f = record { runs = tt; match = c.match; knows = F.quiet_on c {r = r} {h = g} {s = Mapped k Done} {t = Done} f.knows refl (λ k. refl) refl (λ d. d) (λ _ _. tt) }
  note_maps {r} {g} {k} {s = Emptying q free} f = record { runs = tt; match = c.match; knows = F.quiet_on c {r = r} {h = g} {s = Mapped k (Emptying q free)} {t = Emptying q free} f.knows refl (λ k. refl) refl (λ d. d) (λ _ _. tt) }
  note_maps {r} {g} {k} {s} f = absurd f.fits.0
