-- Each event keeps what holds of the last stores.
use Rattle.std.proofs.Common.{◌≡◌, ℕ, suc, ◌≤◌, ◌<◌, ◌⊎◌, Bool, true, false, if◌then◌else◌, arith}
use Rattle.std.specs.Prelude.{◌||◌}
use Rattle.dsm_copies.specs.Modes.{cover, next, break_over, exclusive, owed, covered, ended}
use Rattle.dsm_debts.specs.Page.{Before, Loaded, Differs, Sending, After, Work, Idle, Ready, Flushing, Posting, Posted, Marking, Copying, Copied, Running, Drawn, Releasing, Processor, is_loaded, has_taken}
use Rattle.dsm_debts.proofs.Facts.{page, Sound, Maps, Owes, Releases}

module _ (home : Bool) (first top flush clock : ℕ) (sole twin : Bool) (q : ℕ) (x : Processor) where
  pub store_owes : (w : Work) → (x.writes ≡ true) → Sound home (page flush clock twin sole w) → Maps home first top sole twin w q (record x { stage = Running }) → Owes home sole twin w (record x { stage = Running }) → Owes home sole twin w (record x { stage = Running; debt = (if home then covered else (if sole then (if is_loaded w then owed else exclusive) else owed)); seen = false })
  store_owes Idle e s m o = grind arith
  store_owes (Flushing p t Before) e s m o = grind arith
  store_owes (Flushing p t Loaded) e s m o = grind arith
  store_owes (Flushing p t y) e s m o = grind arith
  store_owes (Copying Before) e s m o = grind arith
  store_owes (Copying Loaded) e s m o = grind arith
  store_owes (Copying y) e s m o = grind arith
  store_owes w e s m o = grind arith

  pub open_owes : (w : Work) → Sound home (page flush clock twin sole w) → Maps home first top sole twin w q (record x { stage = Running }) → Owes home sole twin w (record x { stage = Running }) → Owes home sole twin w (record x { stage = Drawn clock })
  open_owes Idle s m o = grind arith
  open_owes (Flushing p t Before) s m o = grind arith
  open_owes (Flushing p t Loaded) s m o = grind arith
  open_owes (Flushing p t y) s m o = grind arith
  open_owes (Copying Before) s m o = grind arith
  open_owes (Copying Loaded) s m o = grind arith
  open_owes (Copying y) s m o = grind arith
  open_owes w s m o = grind arith

  pub take_owes : (w : Work) (u : ℕ) → Sound home (page flush clock twin sole w) → Maps home first top sole twin w q (record x { stage = Drawn u }) → Owes home sole twin w (record x { stage = Drawn u }) → Owes home sole twin w (record x { stage = Releasing u; dirty = x.dirty || x.bit; bit = false })
  take_owes Idle u s m o = grind arith
  take_owes (Flushing p t Before) u s m o = grind arith
  take_owes (Flushing p t Loaded) u s m o = grind arith
  take_owes (Flushing p t y) u s m o = grind arith
  take_owes (Copying Before) u s m o = grind arith
  take_owes (Copying Loaded) u s m o = grind arith
  take_owes (Copying y) u s m o = grind arith
  take_owes w u s m o = grind arith

  pub signal_owes : (w : Work) (u : ℕ) → (x.dirty ≡ false) → Sound home (page flush clock twin sole w) → Maps home first top sole twin w q (record x { stage = Releasing u }) → Owes home sole twin w (record x { stage = Releasing u }) → Owes home sole twin w (record x { stage = Running })
  signal_owes Idle u e s m o = grind arith
  signal_owes (Flushing p t Before) u e s m o = grind arith
  signal_owes (Flushing p t Loaded) u e s m o = grind arith
  signal_owes (Flushing p t y) u e s m o = grind arith
  signal_owes (Copying Before) u e s m o = grind arith
  signal_owes (Copying Loaded) u e s m o = grind arith
  signal_owes (Copying y) u e s m o = grind arith
  signal_owes w u e s m o = grind arith

  pub keep_owes : Sound home (page flush clock twin true Idle) → Maps home first top true twin Idle q x → Owes home true twin Idle x → Owes home true twin Idle (record x { dirty = false })
  keep_owes s m o = grind arith

  pub early_owes : (u : ℕ) → (u < flush) → (x.writes ≡ false) → Sound home (page flush clock twin sole Idle) → Maps home first top sole twin Idle q (record x { stage = Releasing u }) → Owes home sole twin Idle (record x { stage = Releasing u }) → Releases flush clock sole Idle q (record x { stage = Releasing u }) → Owes home sole twin Idle (record x { stage = Releasing u; dirty = false })
  early_owes u e i s m o r = grind arith

  pub map_exclusive_owes : ((first ≤ q) × (q < top)) → Sound home (page flush clock twin true Idle) → Maps home first top true twin Idle q x → Owes home true twin Idle x → Owes home true twin Idle (record x { writes = true })
  map_exclusive_owes e s m o = grind arith

  pub map_write_owes : ((first ≤ q) × (q < top)) → ((home ≡ true) ⊎ (twin ≡ true)) → Sound home (page flush clock twin sole Idle) → Maps home first top sole twin Idle q x → Owes home sole twin Idle x → Owes home sole twin Idle (record x { writes = true; dirty = true })
  map_write_owes e i s m o = grind arith

  pub unmap_owes : Sound home (page flush clock twin sole Idle) → Maps home first top sole twin Idle q x → Owes home sole twin Idle x → Owes home sole twin Idle (record x { writes = false })
  unmap_owes s m o = grind arith

  pub make_owes : (home ≡ false) → Sound home (page flush clock twin false Idle) → Maps home first top false twin Idle q x → Owes home false twin Idle x → Owes home false true Idle x
  make_owes e s m o = grind arith

  pub enter_owes : Sound home (page flush clock false sole Idle) → Maps home first top sole false Idle q x → Owes home sole false Idle x → Owes home true false Idle x
  enter_owes s m o = grind arith

  pub draw_owes : (p : ℕ) → ((q ≡ p → (has_taken x.stage ≡ true) × (x.dirty ≡ true))) → Sound home (page flush clock twin sole Idle) → Maps home first top sole twin Idle q x → Owes home sole twin Idle x → Owes home sole twin (Ready p clock) x
  draw_owes p e s m o = grind arith

  pub begin_owes : (p t : ℕ) → Sound home (page flush clock true sole (Ready p t)) → Maps home first top sole true (Ready p t) q x → Owes home sole true (Ready p t) x → Owes home sole true (Flushing p t Before) x
  begin_owes p t s m o = grind arith

  pub load_owes : (p t : ℕ) → Sound home (page flush clock twin sole (Flushing p t Before)) → Maps home first top sole twin (Flushing p t Before) q x → Owes home sole twin (Flushing p t Before) x → Owes home sole twin (Flushing p t Loaded) (record x { seen = true })
  load_owes p t s m o = grind arith

  pub same_owes : (p t : ℕ) → Sound home (page flush clock twin sole (Flushing p t Loaded)) → Maps home first top sole twin (Flushing p t Loaded) q x → Owes home sole twin (Flushing p t Loaded) x → Owes home sole twin (Flushing p t After) (record x { debt = cover true x.seen x.debt; seen = false })
  same_owes p t s m o = grind arith

  pub differ_owes : (p t : ℕ) → Sound home (page flush clock twin sole (Flushing p t Loaded)) → Maps home first top sole twin (Flushing p t Loaded) q x → Owes home sole twin (Flushing p t Loaded) x → Owes home sole twin (Flushing p t Differs) x
  differ_owes p t s m o = grind arith

  pub refresh_owes : (p t : ℕ) → Sound home (page flush clock twin sole (Flushing p t Differs)) → Maps home first top sole twin (Flushing p t Differs) q x → Owes home sole twin (Flushing p t Differs) x → Owes home sole twin (Flushing p t Sending) x
  refresh_owes p t s m o = grind arith

  pub send_owes : (p t : ℕ) → Sound home (page flush clock twin sole (Flushing p t Sending)) → Maps home first top sole twin (Flushing p t Sending) q x → Owes home sole twin (Flushing p t Sending) x → Owes home sole twin (Flushing p t After) (record x { debt = cover true x.seen x.debt; seen = false })
  send_owes p t s m o = grind arith

  pub stamp_owes : (p t : ℕ) → Sound home (page flush clock twin sole (Flushing p t After)) → Maps home first top sole twin (Flushing p t After) q x → Owes home sole twin (Flushing p t After) x → Releases flush clock sole (Flushing p t After) q x → Owes home sole twin (Posting p true) (record x { debt = next true covered x.debt })
  stamp_owes p t s m o r = grind arith

  pub stamp_bare_owes : (p t : ℕ) → ((home ≡ true) ⊎ (twin ≡ false)) → Sound home (page flush clock twin sole (Ready p t)) → Maps home first top sole twin (Ready p t) q x → Owes home sole twin (Ready p t) x → Owes home sole twin (Posting p false) (record x { debt = next true covered x.debt })
  stamp_bare_owes p t e s m o = grind arith

  pub tell_owes : (p : ℕ) (b : Bool) → Sound home (page flush clock twin sole (Posting p b)) → Maps home first top sole twin (Posting p b) q x → Owes home sole twin (Posting p b) x → Owes home sole twin (Posted p b first) (record x { debt = next true ended x.debt })
  tell_owes p b s m o = grind arith

  pub lower_owes : (p : ℕ) (b : Bool) (j : ℕ) → (p ≡ q) → Sound home (page flush clock twin sole (Posted p b j)) → Maps home first top sole twin (Posted p b j) q x → Owes home sole twin (Posted p b j) x → Releases flush clock sole (Posted p b j) q x → Owes home sole twin (Posted p b j) (record x { writes = false })
  lower_owes p b j e s m o r = grind arith

  pub look_owes : (p : ℕ) (b : Bool) (j : ℕ) → ((q ≡ j → x.writes ≡ false)) → Sound home (page flush clock twin sole (Posted p b j)) → Maps home first top sole twin (Posted p b j) q x → Owes home sole twin (Posted p b j) x → Owes home sole twin (Posted p b (suc j)) x
  look_owes p b j e s m o = grind arith

  pub drop_owes : (p j : ℕ) → (top ≤ j) → Sound home (page flush clock twin sole (Posted p true j)) → Maps home first top sole twin (Posted p true j) q x → Owes home sole twin (Posted p true j) x → Owes home sole false (Posted p false j) x
  drop_owes p j e s m o = grind arith

  pub finish_mine_owes : (p : ℕ) (b : Bool) (j : ℕ) → (p ≡ q) → (x.writes ≡ false) → Sound home (page flush clock twin sole (Posted p b j)) → Maps home first top sole twin (Posted p b j) q x → Owes home sole twin (Posted p b j) x → Releases flush clock sole (Posted p b j) q x → Owes home sole twin Idle (record x { dirty = false })
  finish_mine_owes p b j e i s m o r = grind arith

  pub finish_owes : (p : ℕ) (b : Bool) (j : ℕ) → Sound home (page flush clock twin sole (Posted p b j)) → Maps home first top sole twin (Posted p b j) q x → Owes home sole twin (Posted p b j) x → Owes home sole twin Idle x
  finish_owes p b j s m o = grind arith

  pub break_owes : Sound home (page flush clock twin true Idle) → Maps home first top true twin Idle q x → Owes home true twin Idle x → Owes home true twin (Marking first) x
  break_owes s m o = grind arith

  pub mark_mine_owes : (j : ℕ) → (j ≡ q) → Sound home (page flush clock twin sole (Marking j)) → Maps home first top sole twin (Marking j) q x → Owes home sole twin (Marking j) x → Owes home sole twin (Marking (suc j)) (record x { bit = true })
  mark_mine_owes j e s m o = grind arith

  pub mark_owes : (j : ℕ) → ((q ≡ j → x.writes ≡ false)) → Sound home (page flush clock twin sole (Marking j)) → Maps home first top sole twin (Marking j) q x → Owes home sole twin (Marking j) x → Owes home sole twin (Marking (suc j)) x
  mark_owes j e s m o = grind arith

  pub mark_other_owes : (j : ℕ) → ((q ≡ j → ⊥)) → Sound home (page flush clock twin sole (Marking j)) → Maps home first top sole twin (Marking j) q x → Owes home sole twin (Marking j) x → Owes home sole twin (Marking (suc j)) x
  mark_other_owes j e s m o = grind arith

  pub copy_owes : (j : ℕ) → (top ≤ j) → (home ≡ false) → Sound home (page flush clock twin sole (Marking j)) → Maps home first top sole twin (Marking j) q x → Owes home sole twin (Marking j) x → Owes home sole twin (Copying Before) x
  copy_owes j e i s m o = grind arith

  pub load_break_owes : Sound home (page flush clock twin sole (Copying Before)) → Maps home first top sole twin (Copying Before) q x → Owes home sole twin (Copying Before) x → Owes home sole twin (Copying Loaded) (record x { seen = true })
  load_break_owes s m o = grind arith

  pub refresh_break_owes : Sound home (page flush clock twin sole (Copying Loaded)) → Maps home first top sole twin (Copying Loaded) q x → Owes home sole twin (Copying Loaded) x → Owes home sole twin (Copying Sending) x
  refresh_break_owes s m o = grind arith

  pub send_break_owes : Sound home (page flush clock twin sole (Copying Sending)) → Maps home first top sole twin (Copying Sending) q x → Owes home sole twin (Copying Sending) x → Owes home sole twin (Copying After) (record x { debt = cover true x.seen x.debt; seen = false })
  send_break_owes s m o = grind arith

  pub raise_owes : Sound home (page flush clock twin sole (Copying After)) → Maps home first top sole twin (Copying After) q x → Owes home sole twin (Copying After) x → Owes home sole true Copied x
  raise_owes s m o = grind arith

  pub end_owes : Sound home (page flush clock twin sole Copied) → Maps home first top sole twin Copied q x → Owes home sole twin Copied x → Owes home false twin Idle (record x { debt = break_over true x.debt })
  end_owes s m o = grind arith

  pub end_home_owes : (j : ℕ) → (top ≤ j) → (home ≡ true) → Sound home (page flush clock twin sole (Marking j)) → Maps home first top sole twin (Marking j) q x → Owes home sole twin (Marking j) x → Owes home false twin Idle (record x { debt = break_over true x.debt })
  end_home_owes j e i s m o = grind arith
