-- Rows of a fetch, of entering exclusive use, and of a twin that is made: what they leave of what a node owes.
use Rattle.std.proofs.Common.{◌≡◌, inl, ℕ, ◌==◌, Bool, true, false, None, refl, ◌∙◌, arith}
use Rattle.std.specs.Prelude.{◌||◌, nat_lt}
use Rattle.dsm_words.specs.declared.item.Item.TheVariants.{Dir, Twined}
use Rattle.dsm_words.specs.Script.{Put}
use Rattle.dsm_protocol.specs.Own.{Own, node_of}
use Rattle.dsm_protocol.specs.Stages.{Whole, First, Got, Entering, Filling, Filled, Entered, Fetching, Opened, Copying, Copied, Making, Setting, Round, Loaded, Stored, Finished, Off}
use Rattle.dsm_protocol.specs.Rows.{draws_enter, fills, fills_own, stamps_enter, enters, compares, judges, draws, sees_twin, copies, copies_over, merges, merges_own, merges_twin, stamps, has_twin, makes, makes_twin, made, begins_copy, begins_fill, fetched, appends_load, appends_store}
use Rattle.dsm_debts.specs.Page.{Enter, Make}
use Rattle.dsm_freshness.proofs.Frame.{not_true}
use Rattle.dsm_releases.proofs.Words.{Scene, home, untouched, says_same, match_one}
use Rattle.dsm_releases.proofs.Frame as F

module _ (c : Scene) (o : Own) where
  -- a time is drawn for the copy with which exclusive use is entered
  pub row_draws_enter : {r : Round} {g h x : ℕ} → F.RowActs c o (draws_enter {r = r} {g = g} {h = h} {x = x})
  row_draws_enter {r} {g} {h} {x} f = F.any_clock c f (F.quiet_on c {r = r} {k = g} {s = Entering h} {t = Filling h x 0 Whole} f.here.knows (λ e. e) (λ _ _ w. w) refl)

  -- a word of the home is loaded
  pub row_fills : {r : Round} {g h t i x : ℕ} → F.RowActs c o (fills {r = r} {g = g} {h = h} {t = t} {i = i} {x = x})
  row_fills f = F.loads c f (λ e. e) (λ _ _ w. w) refl

  -- and stored in the own frame
  pub row_fills_own : {r : Round} {g h t i v x : ℕ} → F.RowActs c o (fills_own {r = r} {g = g} {h = h} {t = t} {i = i} {v = v} {x = x})
  row_fills_own f = F.stores c f (λ i. i) (λ e. e) (λ _ _ w. w) refl

  -- the copy is stamped, and away from the home the node has entered already
  pub row_stamps_enter : {r : Round} {g t x : ℕ} → F.RowActs c o (stamps_enter {r = r} {g = g} {t = t} {x = x})
  row_stamps_enter {r} {g} {t} {x} f = F.stores c {r = r} {k = g} {s = Filled t} {t = Entered} f (λ i. i) (λ e. e) (λ _ _ w. (w.0, λ _. w.1)) refl

  -- at the home no word is copied, so that the store of the word of the directory enters
  pub row_enters : {r : Round} {g x : ℕ} → F.RowActs c o (enters {r = r} {g = g} {x = x})
  row_enters {r} {g} {x} f = F.turn_row c {r = r} {k = g} {s = Entered} {t = Setting true true} (node_of c.u) (home c) Enter f refl refl refl refl refl
      (λ off. says_same c (Put (Dir (node_of c.u) g) 2) f.within (λ i. (λ _. (F.works_here c {r = r} {k = g} {s = Entered} (node_of c.u) f.here.knows refl i.1 i.0).1 (not_true (off i.1 i.0)), λ _. inl refl)))
      (λ d e other w. w.0)
      (λ d e yes w. let z = F.turn_says c {r = r} {k = g} {s = Entered} {o = o} (node_of c.u) f.here.owns d e refl in record {
        may = (w.0, F.twin_same c ∙ z.1);
        works = w.0;
        match = match_one c Enter (F.held c (node_of c.u) f refl d e (F.behind c Enter)) (Put (Dir (node_of c.u) g) 2) f.within (e, d) refl tt (λ _. refl, λ _. inl refl);
      })

  -- the stamp is looked at
  pub row_compares : {r : Round} {g h x : ℕ} {write : Bool} (e : (node_of c.u == h) ≡ false) → F.RowActs c o (compares {r = r} {g = g} {h = h} {x = x} {write = write} e)
  row_compares e f = F.loads c f (λ e. e) (λ _ _ w. w) refl

  -- it is compared with the last notice
  pub row_judges : {r : Round} {g h y x : ℕ} {write : Bool} → F.RowActs c o (judges {r = r} {g = g} {h = h} {y = y} {x = x} {write = write})
  row_judges {y = y} {x = x} f = F.pick c (y == 0 || nat_lt y x) (F.loads c f (λ e. e) (λ _ _ w. w) refl) (F.loads c f (λ e. e) (λ _ _ w. w) refl)

  -- a fetch draws its time
  pub row_draws : {r : Round} {g h x : ℕ} {write : Bool} → F.RowActs c o (draws {r = r} {g = g} {h = h} {x = x} {write = write})
  row_draws {r} {g} {h} {x} {write} f = F.any_clock c f (F.quiet_on c {r = r} {k = g} {s = Fetching write h} {t = Opened write h x} f.here.knows (λ e. e) (λ _ _ w. w) refl)

  -- it merges where there is a twin
  pub row_sees_twin : {r : Round} {g h t x : ℕ} {write : Bool} → F.RowActs c o (sees_twin {r = r} {g = g} {h = h} {t = t} {x = x} {write = write})
  row_sees_twin f = F.loads c f (λ e. e) (λ _ _ w. w) refl

  -- a word of the home is loaded for it
  pub row_copies : {r : Round} {g h t i x : ℕ} {write twin : Bool} → F.RowActs c o (copies {r = r} {g = g} {h = h} {t = t} {i = i} {x = x} {write = write} {twin = twin})
  row_copies f = F.loads c f (λ e. e) (λ _ _ w. w) refl

  -- with no twin it is stored in the own frame
  pub row_copies_over : {r : Round} {g h t i v x : ℕ} {write : Bool} → F.RowActs c o (copies_over {r = r} {g = g} {h = h} {t = t} {i = i} {v = v} {x = x} {write = write})
  row_copies_over f = F.stores c f (λ i. i) (λ e. e) (λ _ _ w. w) refl

  -- with one it is compared with the twin's word
  pub row_merges : {r : Round} {g h t i v x : ℕ} {write : Bool} → F.RowActs c o (merges {r = r} {g = g} {h = h} {t = t} {i = i} {v = v} {x = x} {write = write})
  row_merges {v = v} {x = x} f = F.pick c (v == x) (F.loads c f (λ e. e) (λ _ _ w. w) refl) (F.loads c f (λ e. e) (λ _ _ w. w) refl)

  -- and stored in the own frame where it differs
  pub row_merges_own : {r : Round} {g h t i v x : ℕ} {write : Bool} → F.RowActs c o (merges_own {r = r} {g = g} {h = h} {t = t} {i = i} {v = v} {x = x} {write = write})
  row_merges_own f = F.stores c f (λ i. i) (λ e. e) (λ _ _ w. w) refl

  -- and in the twin
  pub row_merges_twin : {r : Round} {g h t i v x : ℕ} {write : Bool} → F.RowActs c o (merges_twin {r = r} {g = g} {h = h} {t = t} {i = i} {v = v} {x = x} {write = write})
  row_merges_twin f = F.stores c f (λ i. i) (λ e. e) (λ _ _ w. w) refl

  -- the copy is stamped
  pub row_stamps : {r : Round} {g h t x : ℕ} {write : Bool} → F.RowActs c o (stamps {r = r} {g = g} {h = h} {t = t} {x = x} {write = write})
  row_stamps f = F.stores c f (λ i. i) (λ e. e) (λ _ _ w. w) refl

  -- a write needs a twin
  pub row_has_twin : {r : Round} {g h x : ℕ} → F.RowActs c o (has_twin {r = r} {g = g} {h = h} {x = x})
  row_has_twin {x = x} f = F.pick c (x == 1) (F.loads c f (λ e. e) (λ _ _ w. w) refl) (F.loads c f (λ e. e) (λ _ _ w. w) refl)

  -- a word of the own frame is loaded for it
  pub row_makes : {r : Round} {g i x : ℕ} → F.RowActs c o (makes {r = r} {g = g} {i = i} {x = x})
  row_makes f = F.loads c f (λ e. e) (λ _ _ w. w) refl

  -- and stored in the twin
  pub row_makes_twin : {r : Round} {g i v x : ℕ} → F.RowActs c o (makes_twin {r = r} {g = g} {i = i} {v = v} {x = x})
  row_makes_twin f = F.stores c f (λ i. i) (λ e. e) (λ _ _ w. w) refl

  -- the twin is up, away from the home and where the node is not exclusive
  pub row_made : {r : Round} {g x : ℕ} → F.RowActs c o (made {r = r} {g = g} {x = x})
  row_made {r} {g} {x} f = F.event_row c {r = r} {k = g} {s = Making c.u.lay.words Whole} {t = Setting true false} (node_of c.u) Make f refl refl refl refl refl (λ off. untouched c (Put (Twined (node_of c.u) g) 1) f.within (λ i. off i.1 i.0))
      (λ d e w. let z = F.turn_says c {r = r} {k = g} {s = Making c.u.lay.words Whole} {o = o} (node_of c.u) f.here.owns d e refl in let one = z.0 in record {
        may = (w, F.is_away c (λ y. absurd (omega (arith, y, one))) z.1, F.not_sole c (omega (arith, one)));
        works = w;
        match = match_one c Make (F.held c (node_of c.u) f refl d e (F.behind c Make)) (Put (Twined (node_of c.u) g) 1) f.within (e, d) refl tt refl;
      })

  -- the first word of a fetch is loaded
  pub note_begins_copy : {r : Round} {g h t v : ℕ} {write twin : Bool} → F.NoteActs c o (begins_copy {r = r} {g = g} {h = h} {t = t} {v = v} {write = write} {twin = twin})
  note_begins_copy {r} {g} {h} {t} {v} {write} {twin} f = F.noted c refl (F.stays c {r = r} {k = g} {s = Copying write h t twin 0 (First v)} {t = Copying write h t twin 0 (Got v)} f.knows (λ e. e) (λ _ _ w. w) refl)

  -- and that of a copy with which exclusive use is entered
  pub note_begins_fill : {r : Round} {g h t v : ℕ} → F.NoteActs c o (begins_fill {r = r} {g = g} {h = h} {t = t} {v = v})
  note_begins_fill {r} {g} {h} {t} {v} f = F.noted c refl (F.stays c {r = r} {k = g} {s = Filling h t 0 (First v)} {t = Filling h t 0 (Got v)} f.knows (λ e. e) (λ _ _ w. w) refl)

  -- all words are copied
  pub note_fetched : {r : Round} {g h t : ℕ} {write twin : Bool} → F.NoteActs c o (fetched {r = r} {g = g} {h = h} {t = t} {write = write} {twin = twin})
  note_fetched {r} {g} {h} {t} {write} {twin} f = F.noted c refl (F.stays c {r = r} {k = g} {s = Copying write h t twin c.u.lay.words Whole} {t = Copied write h t} f.knows (λ e. e) (λ _ _ w. w) refl)

  -- a load is noted
  pub note_appends_load : {w x : ℕ} (none : None ≡ None) → F.NoteActs c o (appends_load {w = w} {x = x} none)
  note_appends_load {w} {x} none f = F.noted c refl (F.off_stays c {w = Off (Loaded w x)} {t = Finished} f.knows (λ d. absurd (cc d)) (λ _. refl) (λ _. refl) tt)

  -- and a store
  pub note_appends_store : {w v : ℕ} (none : None ≡ None) → F.NoteActs c o (appends_store {w = w} {v = v} none)
  note_appends_store {w} {v} none f = F.noted c refl (F.off_stays c {w = Off (Stored w v)} {t = Finished} f.knows (λ d. absurd (cc d)) (λ _. refl) (λ _. refl) tt)
