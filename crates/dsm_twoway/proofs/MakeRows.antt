-- Rows of a fetch and of the making of a twin: the loads that begin it.
use Rattle.std.proofs.Common.{◌≡◌, ◌≢◌, ℕ, suc, ◌<◌, ◌==◌, Bool, true, false, refl, sym, ap, ◌∙◌, arith, if◌then◌else◌}
use Rattle.std.specs.Prelude.{nat_le}
use Rattle.std.proofs.lemmas.Bool.{eq-eqb, ne_eqb}
use Rattle.dsm_words.specs.declared.item.Item.TheVariants.{Frame, Turn}
use Rattle.dsm_words.specs.Words.{word}
use Rattle.dsm_protocol.specs.Own.{Own, node_of}
use Rattle.dsm_protocol.specs.Stages.{Whole, First, Got, Copying, Making, Round}
use Rattle.dsm_protocol.specs.Rows.{loaded, copies, makes}
use Rattle.dsm_copies.specs.Modes.{Bare, Twinned, Merge_load, Merge_compare, Merge_end, Overwrite_load, Overwrite_write, Overwrite_end, Make_load, Make_write, Make_end, may_store, ended}
use Rattle.dsm_copies.specs.Copies as W
use Rattle.dsm_copies.specs.Premises.{Premise, Merges, Overwrites, Makes}
use Rattle.dsm_copies.specs.Debts.{AsksOf}
use Rattle.dsm_owners.specs.Stages as O
use Rattle.dsm_fresh.specs.Stages as F
use Rattle.dsm_debts.specs.Joining.{mode_track}
use Rattle.dsm_twoway.specs.Views.{block, unless_fresh, merge_here, overwrite_here}
use Rattle.dsm_twoway.specs.Tied.{IsAway, spot, is_beginning}
use Rattle.dsm_twoway.proofs.Modes.{bare_is, twinned_is}
use Rattle.dsm_twoway.proofs.Scene.{Scene, Asked, place, RowActs}
use Rattle.dsm_twoway.proofs.Ops.{put_same, put_other}
use Rattle.dsm_twoway.proofs.Blocks.{home_found, open_here}
use Rattle.dsm_twoway.proofs.Standing.{away_by, node_at_turn, held_here}
use Rattle.dsm_twoway.proofs.Beginning.{works_here, begin_counted, begin_row}

module _ (s : Scene) (o : Own) where
  -- a fetch that keeps what the twin shows loads a word
  copies_merge : {r : Round} {k h t e y : ℕ} {write : Bool} → RowActs s o (copies {r = r} {g = k} {h = h} {t = t} {i = e} {x = y} {write = write} {twin = true})
  copies_merge {r = r} {k = k} {h = h} {t = t} {e = e} {y = y} {write = write} f =
      begin_row s {r = r} {k = k} {z = Copying write h t true e Whole} {t = Copying write h t true e (loaded e y)} e (Frame h k e) f (λ i. i.0) refl refl away held
      Twinned (Merge_load false) (Merge_compare y false false) (Merge_end false) (λ rest b. refl) (λ rest b. shown (e == 0)) (λ ne. ap (λ c. is_beginning (Copying write h t true e (if c then First y else Got y))) (ne_eqb e 0 ne))
      (λ d b w. f.here.knows.copied (away d) d refl) (λ d i p q w is is'. ap (λ m. Merge_compare m false false) (is ∙ sym (is_master d i))) (λ p. refl) (λ p. refl) (λ p. refl) refl refl refl
      (W.Begin (node_of s.u) W.Merge) (Merge_load (nat_le ended s.x.progress)) refl (put_same s.x.nodes (node_of s.u) (record (s.x.nodes (node_of s.u)) { mode = Merge_load (nat_le ended s.x.progress) })) (λ j ne. put_other s.x.nodes (node_of s.u) (record (s.x.nodes (node_of s.u)) { mode = Merge_load (nat_le ended s.x.progress) }) j ne) refl refl
      (λ d nz w. refl) (λ d nz. (tt, ap mode_track (rests d nz))) asks (λ d nz. begin_counted s s.c.sent (λ m l ne i q z x a op. shut d nz m l ne i q z x a op))
      (λ d nz w m l ne. ap (λ (g : ℕ → ℕ). g (spot s.h s.u m)) (put_same s.c.snap (node_of s.u) s.c.sent) ∙ s.match.counted.sent_is m (node_of s.u) l ne (away d))
    where
      at : k ≡ s.g → ((s.b.nodes (node_of s.u)).dir ≡ 1) × (s.b.home ≢ suc (node_of s.u))
      at d = node_at_turn s f.here d (O.Opened write) refl refl

      away : k ≡ s.g → IsAway s.h s.u (node_of s.u)
      away d = (s.at.node_in, away_by s (λ z. let w = (at d).0 in absurd (omega (arith, z, w))) (at d).1)

      held : k ≡ s.g → word s.u.lay s.ws (Turn (node_of s.u) s.g) ≢ 0
      held d = held_here s f.here d (O.Opened write) refl refl

      shown : (c : Bool) → unless_fresh e (if c then First y else Got y) Twinned (block s.i e (Merge_load false) (merge_here (if c then First y else Got y)) (Merge_end false)) ≡ block s.i e (Merge_load false) (Merge_compare y false false) (Merge_end false)
      shown true = refl
      shown false = refl

      is_master : k ≡ s.g → e ≡ s.i → y ≡ s.x.master
      is_master d i = let hm = home_found s {z = Copying write h t true e Whole} f d h refl in f.told ∙ (λ z. word s.u.lay s.ws (Frame (hm z) (d z) (i z))) ∙ s.match.words.master_is

      rests : k ≡ s.g → e ≡ 0 → (s.x.nodes (node_of s.u)).mode ≡ Twinned
      rests d nz = twinned_is (s.x.nodes (node_of s.u)).mode (open_here s {z = Copying write h t true e Whole} f d (away d).1 refl ∙ ap (λ w. if w then Twinned else block s.i e (Merge_load false) (Merge_load false) (Merge_end false)) (eq-eqb e 0 nz))

      asks : k ≡ s.g → e ≡ 0 → (p : Premise) → Asked p → AsksOf (place s) p s.x s.c s.d (W.Begin (node_of s.u) W.Merge)
      asks d nz Merges q = rests d nz
      asks d nz p q = tt

      shut : k ≡ s.g → e ≡ 0 → (m : ℕ) → m < s.u.lay.nodes → m ≢ node_of s.u → IsAway s.h s.u (node_of s.u) → (q z x : ℕ) (a : Bool) → (s.fresh m (node_of s.u)).page.work ≡ F.Open q a x z → ⊥
      shut d nz m l ne i q z x a op = let w = works_here s f.here d refl i m l ne in
          absurd (cc (sym (w.1 ∙ ap (λ c. if c then F.Ready s.u.p t else F.Open s.u.p false t w.0) (eq-eqb e 0 nz)) ∙ op))

  -- a fetch where no twin is up loads a word
  copies_overwrite : {r : Round} {k h t e y : ℕ} {write : Bool} → RowActs s o (copies {r = r} {g = k} {h = h} {t = t} {i = e} {x = y} {write = write} {twin = false})
  copies_overwrite {r = r} {k = k} {h = h} {t = t} {e = e} {y = y} {write = write} f =
      begin_row s {r = r} {k = k} {z = Copying write h t false e Whole} {t = Copying write h t false e (loaded e y)} e (Frame h k e) f (λ i. i.0) refl refl away held
      Bare (Overwrite_load false) (Overwrite_write y false false) (Overwrite_end false) (λ rest b. refl) (λ rest b. shown (e == 0)) (λ ne. ap (λ c. is_beginning (Copying write h t false e (if c then First y else Got y))) (ne_eqb e 0 ne))
      (λ d b w. f.here.knows.copied (away d) d refl) (λ d i p q w is is'. ap (λ m. Overwrite_write m false false) (is ∙ sym (is_master d i))) (λ p. refl) (λ p. refl) (λ p. refl) refl refl refl
      (W.Begin (node_of s.u) W.Overwrite) (Overwrite_load (nat_le ended s.x.progress)) refl (put_same s.x.nodes (node_of s.u) (record (s.x.nodes (node_of s.u)) { mode = Overwrite_load (nat_le ended s.x.progress) })) (λ j ne. put_other s.x.nodes (node_of s.u) (record (s.x.nodes (node_of s.u)) { mode = Overwrite_load (nat_le ended s.x.progress) }) j ne) refl refl
      (λ d nz w. absurd (cc (sym (ap may_store (rests d nz)) ∙ w))) (λ d nz. (tt, ap mode_track (rests d nz))) asks (λ d nz. begin_counted s s.c.sent (λ m l ne i q z x a op. shut d nz m l ne i q z x a op))
      (λ d nz w m l ne. ap (λ (g : ℕ → ℕ). g (spot s.h s.u m)) (put_same s.c.snap (node_of s.u) s.c.sent) ∙ s.match.counted.sent_is m (node_of s.u) l ne (away d))
    where
      at : k ≡ s.g → ((s.b.nodes (node_of s.u)).dir ≡ 1) × (s.b.home ≢ suc (node_of s.u))
      at d = node_at_turn s f.here d (O.Opened write) refl refl

      away : k ≡ s.g → IsAway s.h s.u (node_of s.u)
      away d = (s.at.node_in, away_by s (λ z. let w = (at d).0 in absurd (omega (arith, z, w))) (at d).1)

      held : k ≡ s.g → word s.u.lay s.ws (Turn (node_of s.u) s.g) ≢ 0
      held d = held_here s f.here d (O.Opened write) refl refl

      shown : (c : Bool) → unless_fresh e (if c then First y else Got y) Bare (block s.i e (Overwrite_load false) (overwrite_here (if c then First y else Got y)) (Overwrite_end false)) ≡ block s.i e (Overwrite_load false) (Overwrite_write y false false) (Overwrite_end false)
      shown true = refl
      shown false = refl

      is_master : k ≡ s.g → e ≡ s.i → y ≡ s.x.master
      is_master d i = let hm = home_found s {z = Copying write h t false e Whole} f d h refl in f.told ∙ (λ z. word s.u.lay s.ws (Frame (hm z) (d z) (i z))) ∙ s.match.words.master_is

      rests : k ≡ s.g → e ≡ 0 → (s.x.nodes (node_of s.u)).mode ≡ Bare
      rests d nz = bare_is (s.x.nodes (node_of s.u)).mode (open_here s {z = Copying write h t false e Whole} f d (away d).1 refl ∙ ap (λ w. if w then Bare else block s.i e (Overwrite_load false) (Overwrite_load false) (Overwrite_end false)) (eq-eqb e 0 nz))

      asks : k ≡ s.g → e ≡ 0 → (p : Premise) → Asked p → AsksOf (place s) p s.x s.c s.d (W.Begin (node_of s.u) W.Overwrite)
      asks d nz Overwrites q = rests d nz
      asks d nz p q = tt

      shut : k ≡ s.g → e ≡ 0 → (m : ℕ) → m < s.u.lay.nodes → m ≢ node_of s.u → IsAway s.h s.u (node_of s.u) → (q z x : ℕ) (a : Bool) → (s.fresh m (node_of s.u)).page.work ≡ F.Open q a x z → ⊥
      shut d nz m l ne i q z x a op = let w = works_here s f.here d refl i m l ne in
          absurd (cc (sym (w.1 ∙ ap (λ c. if c then F.Ready s.u.p t else F.Open s.u.p false t w.0) (eq-eqb e 0 nz)) ∙ op))

  pub row_copies : {r : Round} {k h t e y : ℕ} {write twin : Bool} → RowActs s o (copies {r = r} {g = k} {h = h} {t = t} {i = e} {x = y} {write = write} {twin = twin})
  row_copies {r} {k} {h} {t} {e} {y} {write} {twin = true} f = copies_merge {r = r} {k = k} {h = h} {t = t} {e = e} {y = y} {write = write} f
  row_copies {r} {k} {h} {t} {e} {y} {write} {twin = false} f = copies_overwrite {r = r} {k = k} {h = h} {t = t} {e = e} {y = y} {write = write} f

  -- a word is loaded for a twin
  pub row_makes : {r : Round} {k e y : ℕ} → RowActs s o (makes {r = r} {g = k} {i = e} {x = y})
  row_makes {r} {k} {e} {y} f =
      begin_row s {r = r} {k = k} {z = Making e Whole} {t = Making e (Got y)} e (Frame (node_of s.u) k e) f (λ i. i.0) refl refl away held
      Bare Make_load (Make_write y) Make_end (λ rest b. refl) (λ rest b. refl) (λ ne. refl)
      (λ d b w. absurd (cc w)) (λ d i p q w is is'. ap Make_write (is' ∙ sym (is_frame d i))) (λ p. refl) (λ p. refl) (λ p. refl) refl refl refl
      (W.Begin (node_of s.u) W.Make) Make_load refl (put_same s.x.nodes (node_of s.u) (record (s.x.nodes (node_of s.u)) { mode = Make_load })) (λ j ne. put_other s.x.nodes (node_of s.u) (record (s.x.nodes (node_of s.u)) { mode = Make_load }) j ne) refl refl
      (λ d nz w. absurd (cc (sym (ap may_store (rests d nz)) ∙ w))) (λ d nz. (tt, ap mode_track (rests d nz))) asks (λ d nz. begin_counted s (s.c.snap (node_of s.u)) (λ m l ne i q z x a op. shut d m l ne i q z x a op))
      (λ d nz w. absurd (cc w))
    where
      at : k ≡ s.g → ((s.b.nodes (node_of s.u)).dir ≡ 1) × (s.b.home ≢ suc (node_of s.u)) × ((s.b.nodes (node_of s.u)).update ≡ true)
      at d = node_at_turn s f.here d O.Making refl refl

      away : k ≡ s.g → IsAway s.h s.u (node_of s.u)
      away d = (s.at.node_in, away_by s (λ z. let w = (at d).0 in absurd (omega (arith, z, w))) (at d).1)

      held : k ≡ s.g → word s.u.lay s.ws (Turn (node_of s.u) s.g) ≢ 0
      held d = held_here s f.here d O.Making refl refl

      is_frame : k ≡ s.g → e ≡ s.i → y ≡ (s.x.nodes (node_of s.u)).frame
      is_frame d i = f.told ∙ (λ z. word s.u.lay s.ws (Frame (node_of s.u) (d z) (i z))) ∙ (s.match.words.each (node_of s.u) (away d)).frame_is

      rests : k ≡ s.g → e ≡ 0 → (s.x.nodes (node_of s.u)).mode ≡ Bare
      rests d nz = bare_is (s.x.nodes (node_of s.u)).mode (open_here s {z = Making e Whole} f d (away d).1 refl ∙ ap (λ w. if w then Bare else block s.i e Make_load Make_load Make_end) (eq-eqb e 0 nz))

      asks : k ≡ s.g → e ≡ 0 → (p : Premise) → Asked p → AsksOf (place s) p s.x s.c s.d (W.Begin (node_of s.u) W.Make)
      asks d nz Makes q = rests d nz
      asks d nz p q = tt

      shut : k ≡ s.g → (m : ℕ) → m < s.u.lay.nodes → m ≢ node_of s.u → IsAway s.h s.u (node_of s.u) → (q z x : ℕ) (a : Bool) → (s.fresh m (node_of s.u)).page.work ≡ F.Open q a x z → ⊥
      shut d m l ne i q z x a op = let w = works_here s f.here d refl i m l ne in absurd (cc (sym w.1 ∙ op))
