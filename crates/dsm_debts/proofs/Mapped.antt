-- Each event keeps what holds of write mappings.
use Rattle.std.proofs.Common.{◌≡◌, ℕ, suc, ◌≤◌, ◌<◌, ◌⊎◌, Bool, true, false, if◌then◌else◌, arith}
use Rattle.std.specs.Prelude.{◌||◌}
use Rattle.dsm_copies.specs.Modes.{cover, next, break_over, exclusive, owed, covered, ended}
use Rattle.dsm_debts.specs.Page.{Before, Loaded, Differs, Sending, After, Work, Idle, Ready, Flushing, Posting, Posted, Marking, Copying, Copied, Running, Drawn, Releasing, Processor, is_loaded, has_taken}
use Rattle.dsm_debts.proofs.Facts.{page, Sound, Maps}

module _ (home : Bool) (first top flush clock : ℕ) (sole twin : Bool) (q : ℕ) (x : Processor) where
  pub store_maps : (w : Work) → (x.writes ≡ true) → Sound home (page flush clock twin sole w) → Maps home first top sole twin w q (record x { stage = Running }) → Maps home first top sole twin w q (record x { stage = Running; debt = (if home then covered else (if sole then (if is_loaded w then owed else exclusive) else owed)); seen = false })
  store_maps Idle e s m = grind arith
  store_maps (Flushing p t Before) e s m = grind arith
  store_maps (Flushing p t Loaded) e s m = grind arith
  store_maps (Flushing p t y) e s m = grind arith
  store_maps (Copying Before) e s m = grind arith
  store_maps (Copying Loaded) e s m = grind arith
  store_maps (Copying y) e s m = grind arith
  store_maps w e s m = grind arith

  pub open_maps : (w : Work) → Sound home (page flush clock twin sole w) → Maps home first top sole twin w q (record x { stage = Running }) → Maps home first top sole twin w q (record x { stage = Drawn clock })
  open_maps Idle s m = grind arith
  open_maps (Flushing p t Before) s m = grind arith
  open_maps (Flushing p t Loaded) s m = grind arith
  open_maps (Flushing p t y) s m = grind arith
  open_maps (Copying Before) s m = grind arith
  open_maps (Copying Loaded) s m = grind arith
  open_maps (Copying y) s m = grind arith
  open_maps w s m = grind arith

  pub take_maps : (w : Work) (u : ℕ) → Sound home (page flush clock twin sole w) → Maps home first top sole twin w q (record x { stage = Drawn u }) → Maps home first top sole twin w q (record x { stage = Releasing u; dirty = x.dirty || x.bit; bit = false })
  take_maps Idle u s m = grind arith
  take_maps (Flushing p t Before) u s m = grind arith
  take_maps (Flushing p t Loaded) u s m = grind arith
  take_maps (Flushing p t y) u s m = grind arith
  take_maps (Copying Before) u s m = grind arith
  take_maps (Copying Loaded) u s m = grind arith
  take_maps (Copying y) u s m = grind arith
  take_maps w u s m = grind arith

  pub signal_maps : (w : Work) (u : ℕ) → (x.dirty ≡ false) → Sound home (page flush clock twin sole w) → Maps home first top sole twin w q (record x { stage = Releasing u }) → Maps home first top sole twin w q (record x { stage = Running })
  signal_maps Idle u e s m = grind arith
  signal_maps (Flushing p t Before) u e s m = grind arith
  signal_maps (Flushing p t Loaded) u e s m = grind arith
  signal_maps (Flushing p t y) u e s m = grind arith
  signal_maps (Copying Before) u e s m = grind arith
  signal_maps (Copying Loaded) u e s m = grind arith
  signal_maps (Copying y) u e s m = grind arith
  signal_maps w u e s m = grind arith

  pub keep_maps : Sound home (page flush clock twin true Idle) → Maps home first top true twin Idle q x → Maps home first top true twin Idle q (record x { dirty = false })
  keep_maps s m = grind arith

  pub early_maps : (u : ℕ) → (u < flush) → (x.writes ≡ false) → Sound home (page flush clock twin sole Idle) → Maps home first top sole twin Idle q (record x { stage = Releasing u }) → Maps home first top sole twin Idle q (record x { stage = Releasing u; dirty = false })
  early_maps u e i s m = grind arith

  pub map_exclusive_maps : ((first ≤ q) × (q < top)) → Sound home (page flush clock twin true Idle) → Maps home first top true twin Idle q x → Maps home first top true twin Idle q (record x { writes = true })
  map_exclusive_maps e s m = grind arith

  pub map_write_maps : ((first ≤ q) × (q < top)) → ((home ≡ true) ⊎ (twin ≡ true)) → Sound home (page flush clock twin sole Idle) → Maps home first top sole twin Idle q x → Maps home first top sole twin Idle q (record x { writes = true; dirty = true })
  map_write_maps e i s m = grind arith

  pub unmap_maps : Sound home (page flush clock twin sole Idle) → Maps home first top sole twin Idle q x → Maps home first top sole twin Idle q (record x { writes = false })
  unmap_maps s m = grind arith

  pub make_maps : (home ≡ false) → Sound home (page flush clock twin false Idle) → Maps home first top false twin Idle q x → Maps home first top false true Idle q x
  make_maps e s m = grind arith

  pub enter_maps : Sound home (page flush clock false sole Idle) → Maps home first top sole false Idle q x → Maps home first top true false Idle q x
  enter_maps s m = grind arith

  pub draw_maps : (p : ℕ) → ((q ≡ p → (has_taken x.stage ≡ true) × (x.dirty ≡ true))) → Sound home (page flush clock twin sole Idle) → Maps home first top sole twin Idle q x → Maps home first top sole twin (Ready p clock) q x
  draw_maps p e s m = grind arith

  pub begin_maps : (p t : ℕ) → Sound home (page flush clock true sole (Ready p t)) → Maps home first top sole true (Ready p t) q x → Maps home first top sole true (Flushing p t Before) q x
  begin_maps p t s m = grind arith

  pub load_maps : (p t : ℕ) → Sound home (page flush clock twin sole (Flushing p t Before)) → Maps home first top sole twin (Flushing p t Before) q x → Maps home first top sole twin (Flushing p t Loaded) q (record x { seen = true })
  load_maps p t s m = grind arith

  pub same_maps : (p t : ℕ) → Sound home (page flush clock twin sole (Flushing p t Loaded)) → Maps home first top sole twin (Flushing p t Loaded) q x → Maps home first top sole twin (Flushing p t After) q (record x { debt = cover true x.seen x.debt; seen = false })
  same_maps p t s m = grind arith

  pub differ_maps : (p t : ℕ) → Sound home (page flush clock twin sole (Flushing p t Loaded)) → Maps home first top sole twin (Flushing p t Loaded) q x → Maps home first top sole twin (Flushing p t Differs) q x
  differ_maps p t s m = grind arith

  pub refresh_maps : (p t : ℕ) → Sound home (page flush clock twin sole (Flushing p t Differs)) → Maps home first top sole twin (Flushing p t Differs) q x → Maps home first top sole twin (Flushing p t Sending) q x
  refresh_maps p t s m = grind arith

  pub send_maps : (p t : ℕ) → Sound home (page flush clock twin sole (Flushing p t Sending)) → Maps home first top sole twin (Flushing p t Sending) q x → Maps home first top sole twin (Flushing p t After) q (record x { debt = cover true x.seen x.debt; seen = false })
  send_maps p t s m = grind arith

  pub stamp_maps : (p t : ℕ) → Sound home (page flush clock twin sole (Flushing p t After)) → Maps home first top sole twin (Flushing p t After) q x → Maps home first top sole twin (Posting p true) q (record x { debt = next true covered x.debt })
  stamp_maps p t s m = grind arith

  pub stamp_bare_maps : (p t : ℕ) → ((home ≡ true) ⊎ (twin ≡ false)) → Sound home (page flush clock twin sole (Ready p t)) → Maps home first top sole twin (Ready p t) q x → Maps home first top sole twin (Posting p false) q (record x { debt = next true covered x.debt })
  stamp_bare_maps p t e s m = grind arith

  pub tell_maps : (p : ℕ) (b : Bool) → Sound home (page flush clock twin sole (Posting p b)) → Maps home first top sole twin (Posting p b) q x → Maps home first top sole twin (Posted p b first) q (record x { debt = next true ended x.debt })
  tell_maps p b s m = grind arith

  pub lower_maps : (p : ℕ) (b : Bool) (j : ℕ) → (p ≡ q) → Sound home (page flush clock twin sole (Posted p b j)) → Maps home first top sole twin (Posted p b j) q x → Maps home first top sole twin (Posted p b j) q (record x { writes = false })
  lower_maps p b j e s m = grind arith

  pub look_maps : (p : ℕ) (b : Bool) (j : ℕ) → ((q ≡ j → x.writes ≡ false)) → Sound home (page flush clock twin sole (Posted p b j)) → Maps home first top sole twin (Posted p b j) q x → Maps home first top sole twin (Posted p b (suc j)) q x
  look_maps p b j e s m = grind arith

  pub drop_maps : (p j : ℕ) → (top ≤ j) → Sound home (page flush clock twin sole (Posted p true j)) → Maps home first top sole twin (Posted p true j) q x → Maps home first top sole false (Posted p false j) q x
  drop_maps p j e s m = grind arith

  pub finish_mine_maps : (p : ℕ) (b : Bool) (j : ℕ) → (p ≡ q) → (x.writes ≡ false) → Sound home (page flush clock twin sole (Posted p b j)) → Maps home first top sole twin (Posted p b j) q x → Maps home first top sole twin Idle q (record x { dirty = false })
  finish_mine_maps p b j e i s m = grind arith

  pub finish_maps : (p : ℕ) (b : Bool) (j : ℕ) → Sound home (page flush clock twin sole (Posted p b j)) → Maps home first top sole twin (Posted p b j) q x → Maps home first top sole twin Idle q x
  finish_maps p b j s m = grind arith

  pub break_maps : Sound home (page flush clock twin true Idle) → Maps home first top true twin Idle q x → Maps home first top true twin (Marking first) q x
  break_maps s m = grind arith

  pub mark_mine_maps : (j : ℕ) → (j ≡ q) → Sound home (page flush clock twin sole (Marking j)) → Maps home first top sole twin (Marking j) q x → Maps home first top sole twin (Marking (suc j)) q (record x { bit = true })
  mark_mine_maps j e s m = grind arith

  pub mark_maps : (j : ℕ) → ((q ≡ j → x.writes ≡ false)) → Sound home (page flush clock twin sole (Marking j)) → Maps home first top sole twin (Marking j) q x → Maps home first top sole twin (Marking (suc j)) q x
  mark_maps j e s m = grind arith

  pub mark_other_maps : (j : ℕ) → ((q ≡ j → ⊥)) → Sound home (page flush clock twin sole (Marking j)) → Maps home first top sole twin (Marking j) q x → Maps home first top sole twin (Marking (suc j)) q x
  mark_other_maps j e s m = grind arith

  pub copy_maps : (j : ℕ) → (top ≤ j) → (home ≡ false) → Sound home (page flush clock twin sole (Marking j)) → Maps home first top sole twin (Marking j) q x → Maps home first top sole twin (Copying Before) q x
  copy_maps j e i s m = grind arith

  pub load_break_maps : Sound home (page flush clock twin sole (Copying Before)) → Maps home first top sole twin (Copying Before) q x → Maps home first top sole twin (Copying Loaded) q (record x { seen = true })
  load_break_maps s m = grind arith

  pub refresh_break_maps : Sound home (page flush clock twin sole (Copying Loaded)) → Maps home first top sole twin (Copying Loaded) q x → Maps home first top sole twin (Copying Sending) q x
  refresh_break_maps s m = grind arith

  pub send_break_maps : Sound home (page flush clock twin sole (Copying Sending)) → Maps home first top sole twin (Copying Sending) q x → Maps home first top sole twin (Copying After) q (record x { debt = cover true x.seen x.debt; seen = false })
  send_break_maps s m = grind arith

  pub raise_maps : Sound home (page flush clock twin sole (Copying After)) → Maps home first top sole twin (Copying After) q x → Maps home first top sole true Copied q x
  raise_maps s m = grind arith

  pub end_maps : Sound home (page flush clock twin sole Copied) → Maps home first top sole twin Copied q x → Maps home first top false twin Idle q (record x { debt = break_over true x.debt })
  end_maps s m = grind arith

  pub end_home_maps : (j : ℕ) → (top ≤ j) → (home ≡ true) → Sound home (page flush clock twin sole (Marking j)) → Maps home first top sole twin (Marking j) q x → Maps home first top false twin Idle q (record x { debt = break_over true x.debt })
  end_home_maps j e i s m = grind arith
