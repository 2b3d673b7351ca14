-- Rows at which a copy is found current or not, and those of a fetch that do nothing to the copies.
use Rattle.std.proofs.Common.{◌≡◌, ◌≢◌, ℕ, ◌+◌, ◌==◌, Bool, true, false, List, [], refl, sym, ap, ◌∙◌, if◌then◌else◌}
use Rattle.std.specs.Prelude.{map, ◌||◌, nat_lt}
use Rattle.std.proofs.lemmas.Bool.{eqb-true, eqb-false}
use Rattle.dsm_words.specs.declared.item.Item.TheVariants.{Twined, Dir, Notice}
use Rattle.dsm_words.specs.Script.{Get}
use Rattle.dsm_words.specs.Words.{word, done}
use Rattle.dsm_directory.specs.declared.row.Row.{Row}
use Rattle.dsm_directory.specs.Directory.{row_with}
use Rattle.dsm_protocol.specs.Own.{Own, node_of}
use Rattle.dsm_protocol.specs.Stages.{Whole, Claimed, Entering, Filling, Ready, Compared, Fetching, Opened, Copying, Current, Making, Setting, Round, On}
use Rattle.dsm_protocol.specs.Rows.{looks_again, draws_enter, compares, judges, draws, sees_twin, has_twin, at_home, read_only}
use Rattle.dsm_owners.specs.Stages as O
use Rattle.dsm_fresh.specs.Pages as S
use Rattle.dsm_freshness.specs.Events as FE
use Rattle.dsm_debts.specs.Page as P
use Rattle.dsm_debts.specs.Joining.{At}
use Rattle.dsm_releases.specs.Events as R
use Rattle.dsm_twoway.specs.Events.{place_of}
use Rattle.dsm_twoway.proofs.Numbers.{AllQuiet, step_quiet}
use Rattle.dsm_twoway.proofs.Scene.{Scene, RowActs, SlipActs, Acted}
use Rattle.dsm_twoway.proofs.Frame.{quiet_row}
use Rattle.dsm_twoway.proofs.Standing.{tick_silent, bare_rest, twin_rest, dir_word, no_twin, node_at_turn, quiet_slip}
use Rattle.dsm_twoway.proofs.Others.{still_row}

module _ (s : Scene) (o : Own) where
  -- a claim looks at the directory
  pub row_looks_again : {r : Round} {k h j y : ℕ} {row : Row} → RowActs s o (looks_again {r = r} {g = k} {h = h} {j = j} {x = y} {row = row})
  row_looks_again {r} {k} {h} {j} {y} {row} f = quiet_row s {z = Claimed h j row} {t = Claimed h (j + 1) (row_with (node_of s.u) j y row)} (λ m n. []) [] f (λ _. refl) tt (λ m n. tt) refl (λ rest d d'. refl) refl refl

  -- the copy of entering exclusive use draws its time
  pub row_draws_enter : {r : Round} {k h y : ℕ} → RowActs s o (draws_enter {r = r} {g = k} {h = h} {x = y})
  row_draws_enter {r} {k} {h} {y} f =
      still_row s {z = Entering h} {t = Filling h y 0 Whole} es (map (At (place_of s.h (node_of s.u)) 0) (R.only (node_of s.u == node_of s.u) P.Tick)) f (λ i. absurd i) (tick_silent (place_of s.h (node_of s.u)) (node_of s.u == node_of s.u)) (λ m n. step_quiet m n s.g s.u {ms = o.maps} {ds = o.dirty} (draws_enter {r = r} {g = k} {h = h} {x = y}) refl) refl refl
      (λ d b b'. let a = node_at_turn s f.here d O.Entering refl refl in
      sym (bare_rest (word s.u.lay s.ws (Dir (node_of s.u) s.g)) (word s.u.lay s.ws (Twined (node_of s.u) s.g)) (λ e. absurd (cc (sym e ∙ dir_word s 3 a.0))) (no_twin s a.1)))
      (λ d away z. absurd (cc z)) refl
    where
      es : (m n : ℕ) → List S.Event
      es m n = FE.step_events m n s.g s.u {maps = o.maps} {dirty = o.dirty} (draws_enter {r = r} {g = k} {h = h} {x = y})

  -- the stamp is compared with the last notice
  pub row_compares : {r : Round} {k h y : ℕ} {write : Bool} (e : (node_of s.u == h) ≡ false) → RowActs s o (compares {r = r} {g = k} {h = h} {x = y} {write = write} e)
  row_compares {r} {k} {h} {y} {write} e f = quiet_row s {z = Ready write h} {t = Compared write h y} (λ m n. []) [] f (λ _. refl) tt (λ m n. tt) refl (λ rest d d'. refl) refl refl

  pub row_judges : {r : Round} {k h v y : ℕ} {write : Bool} → RowActs s o (judges {r = r} {g = k} {h = h} {y = v} {x = y} {write = write})
  row_judges {r} {k} {h} {v} {y} {write} f = go (v == 0 || nat_lt v y)
    where
      es : (m n : ℕ) → List S.Event
      es m n = FE.step_events m n s.g s.u {maps = o.maps} {dirty = o.dirty} (judges {r = r} {g = k} {h = h} {y = v} {x = y} {write = write})

      quiet : (m n : ℕ) → AllQuiet (es m n)
      quiet m n = step_quiet m n s.g s.u {ms = o.maps} {ds = o.dirty} (judges {r = r} {g = k} {h = h} {y = v} {x = y} {write = write}) refl

      go : (c : Bool) → Acted s (On r k (if c then Fetching write h else Current write h)) (done s.u.lay s.ws (Get (Notice (node_of s.u) k))) es []
      go true = quiet_row s {z = Compared write h v} {t = Fetching write h} es [] f (λ _. refl) tt quiet refl (λ rest d d'. refl) refl refl
      go false = quiet_row s {z = Compared write h v} {t = Current write h} es [] f (λ _. refl) tt quiet refl (λ rest d d'. refl) refl refl

  -- a fetch draws its time
  pub row_draws : {r : Round} {k h y : ℕ} {write : Bool} → RowActs s o (draws {r = r} {g = k} {h = h} {x = y} {write = write})
  row_draws {r} {k} {h} {y} {write} f =
      quiet_row s {z = Fetching write h} {t = Opened write h y} (λ m n. FE.step_events m n s.g s.u {maps = o.maps} {dirty = o.dirty} (draws {r = r} {g = k} {h = h} {x = y} {write = write})) (map (At (place_of s.h (node_of s.u)) 0) (R.only (node_of s.u == node_of s.u) P.Tick)) f (λ i. absurd i) (tick_silent (place_of s.h (node_of s.u)) (node_of s.u == node_of s.u))
      (λ m n. step_quiet m n s.g s.u {ms = o.maps} {ds = o.dirty} (draws {r = r} {g = k} {h = h} {x = y} {write = write}) refl) refl (λ rest d d'. refl) refl refl

  -- it sees whether there is a twin
  pub row_sees_twin : {r : Round} {k h t y : ℕ} {write : Bool} → RowActs s o (sees_twin {r = r} {g = k} {h = h} {t = t} {x = y} {write = write})
  row_sees_twin {r} {k} {h} {t} {y} {write} f = go (y == 1) refl
    where
      is_word : k ≡ s.g → y ≡ word s.u.lay s.ws (Twined (node_of s.u) s.g)
      is_word d = f.told ∙ ap (λ w. word s.u.lay s.ws (Twined (node_of s.u) w)) d

      shared : k ≡ s.g → word s.u.lay s.ws (Dir (node_of s.u) s.g) ≢ 2
      shared d e = absurd (cc (sym e ∙ dir_word s 1 (node_at_turn s f.here d (O.Opened write) refl refl).0))

      go : (c : Bool) → (y == 1) ≡ c → Acted s (On r k (Copying write h t c 0 Whole)) (done s.u.lay s.ws (Get (Twined (node_of s.u) k))) (λ m n. []) []
      go true c = still_row s {z = Opened write h t} {t = Copying write h t true 0 Whole} (λ m n. []) [] f (λ _. refl) tt (λ m n. tt) refl refl
          (λ d b b'. sym (twin_rest (word s.u.lay s.ws (Dir (node_of s.u) s.g)) (word s.u.lay s.ws (Twined (node_of s.u) s.g)) (shared d) (sym (is_word d) ∙ eqb-true y 1 c)))
          (λ d away z w. sym (is_word d) ∙ eqb-true y 1 c) refl
      go false c = still_row s {z = Opened write h t} {t = Copying write h t false 0 Whole} (λ m n. []) [] f (λ _. refl) tt (λ m n. tt) refl refl
          (λ d b b'. sym (bare_rest (word s.u.lay s.ws (Dir (node_of s.u) s.g)) (word s.u.lay s.ws (Twined (node_of s.u) s.g)) (shared d) (λ e. eqb-false y 1 c (is_word d ∙ e))))
          (λ d away z w. absurd (cc w)) refl

  -- whether there is a twin is seen where the page is to be written
  pub row_has_twin : {r : Round} {k h y : ℕ} → RowActs s o (has_twin {r = r} {g = k} {h = h} {x = y})
  row_has_twin {r} {k} {h} {y} f = go (y == 1) refl
    where
      go : (c : Bool) → (y == 1) ≡ c → Acted s (On r k (if c then Setting true false else Making 0 Whole)) (done s.u.lay s.ws (Get (Twined (node_of s.u) k))) (λ m n. []) []
      go true c = quiet_row s {z = Current true h} {t = Setting true false} (λ m n. []) [] f (λ _. refl) tt (λ m n. tt) refl (λ rest d d'. refl) refl refl
      go false c = still_row s {z = Current true h} {t = Making 0 Whole} (λ m n. []) [] f (λ _. refl) tt (λ m n. tt) refl refl
          (λ d b b'. sym (bare_rest (word s.u.lay s.ws (Dir (node_of s.u) s.g)) (word s.u.lay s.ws (Twined (node_of s.u) s.g)) (λ e. absurd (cc (sym e ∙ dir_word s 1 (node_at_turn s f.here d (O.Fetched true) refl refl).0))) (λ e. eqb-false y 1 c (f.told ∙ ap (λ w. word s.u.lay s.ws (Twined (node_of s.u) w)) d ∙ e))))
          (λ d away z. absurd (cc z)) refl

  -- decisions
  pub slip_at_home : {r : Round} {k h : ℕ} {write : Bool} (e : (node_of s.u == h) ≡ true) → SlipActs s o (at_home {r = r} {g = k} {h = h} {write = write} e)
  slip_at_home {r} {k} {h} {write} e own f = quiet_slip s {z = Ready write h} {t = Setting write false} (λ m n. []) f (λ m n. tt) refl (λ rest d d'. refl) refl refl

  pub slip_read_only : {r : Round} {k h : ℕ} → SlipActs s o (read_only {r = r} {g = k} {h = h})
  slip_read_only {r} {k} {h} own f = quiet_slip s {z = Current false h} {t = Setting false false} (λ m n. []) f (λ m n. tt) refl (λ rest d d'. refl) refl refl
