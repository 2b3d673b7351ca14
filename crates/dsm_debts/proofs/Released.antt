-- Each event keeps what holds of releases.
use Rattle.std.proofs.Common.{◌≡◌, ℕ, suc, ◌≤◌, ◌<◌, ◌⊎◌, Bool, true, false, if◌then◌else◌, arith}
use Rattle.std.specs.Prelude.{◌||◌}
use Rattle.dsm_copies.specs.Modes.{cover, next, break_over, exclusive, owed, covered, ended}
use Rattle.dsm_debts.specs.Page.{Before, Loaded, Differs, Sending, After, Work, Idle, Ready, Flushing, Posting, Posted, Marking, Copying, Copied, Running, Drawn, Releasing, Processor, is_loaded, has_taken}
use Rattle.dsm_debts.proofs.Facts.{page, Sound, Owes, Releases}

module _ (home : Bool) (first top flush clock : ℕ) (sole twin : Bool) (q : ℕ) (x : Processor) where
  pub tick_releases : (w : Work) → Sound home (page flush clock twin sole w) → Owes home sole twin w x → Releases flush clock sole w q x → Releases flush (suc clock) sole w q x
  tick_releases Idle s o r = grind arith
  tick_releases (Flushing p t Before) s o r = grind arith
  tick_releases (Flushing p t Loaded) s o r = grind arith
  tick_releases (Flushing p t y) s o r = grind arith
  tick_releases (Copying Before) s o r = grind arith
  tick_releases (Copying Loaded) s o r = grind arith
  tick_releases (Copying y) s o r = grind arith
  tick_releases w s o r = grind arith

  pub store_releases : (w : Work) → (x.writes ≡ true) → Sound home (page flush clock twin sole w) → Owes home sole twin w (record x { stage = Running }) → Releases flush clock sole w q (record x { stage = Running }) → Releases flush clock sole w q (record x { stage = Running; debt = (if home then covered else (if sole then (if is_loaded w then owed else exclusive) else owed)); seen = false })
  store_releases Idle e s o r = grind arith
  store_releases (Flushing p t Before) e s o r = grind arith
  store_releases (Flushing p t Loaded) e s o r = grind arith
  store_releases (Flushing p t y) e s o r = grind arith
  store_releases (Copying Before) e s o r = grind arith
  store_releases (Copying Loaded) e s o r = grind arith
  store_releases (Copying y) e s o r = grind arith
  store_releases w e s o r = grind arith

  pub open_releases : (w : Work) → Sound home (page flush clock twin sole w) → Owes home sole twin w (record x { stage = Running }) → Releases flush clock sole w q (record x { stage = Running }) → Releases flush (suc clock) sole w q (record x { stage = Drawn clock })
  open_releases Idle s o r = grind arith
  open_releases (Flushing p t Before) s o r = grind arith
  open_releases (Flushing p t Loaded) s o r = grind arith
  open_releases (Flushing p t y) s o r = grind arith
  open_releases (Copying Before) s o r = grind arith
  open_releases (Copying Loaded) s o r = grind arith
  open_releases (Copying y) s o r = grind arith
  open_releases w s o r = grind arith

  pub take_releases : (w : Work) (u : ℕ) → Sound home (page flush clock twin sole w) → Owes home sole twin w (record x { stage = Drawn u }) → Releases flush clock sole w q (record x { stage = Drawn u }) → Releases flush clock sole w q (record x { stage = Releasing u; dirty = x.dirty || x.bit; bit = false })
  take_releases Idle u s o r = grind arith
  take_releases (Flushing p t Before) u s o r = grind arith
  take_releases (Flushing p t Loaded) u s o r = grind arith
  take_releases (Flushing p t y) u s o r = grind arith
  take_releases (Copying Before) u s o r = grind arith
  take_releases (Copying Loaded) u s o r = grind arith
  take_releases (Copying y) u s o r = grind arith
  take_releases w u s o r = grind arith

  pub signal_releases : (w : Work) (u : ℕ) → (x.dirty ≡ false) → Sound home (page flush clock twin sole w) → Owes home sole twin w (record x { stage = Releasing u }) → Releases flush clock sole w q (record x { stage = Releasing u }) → Releases flush clock sole w q (record x { stage = Running })
  signal_releases Idle u e s o r = grind arith
  signal_releases (Flushing p t Before) u e s o r = grind arith
  signal_releases (Flushing p t Loaded) u e s o r = grind arith
  signal_releases (Flushing p t y) u e s o r = grind arith
  signal_releases (Copying Before) u e s o r = grind arith
  signal_releases (Copying Loaded) u e s o r = grind arith
  signal_releases (Copying y) u e s o r = grind arith
  signal_releases w u e s o r = grind arith

  pub keep_releases : Sound home (page flush clock twin true Idle) → Owes home true twin Idle x → Releases flush clock true Idle q x → Releases flush clock true Idle q (record x { dirty = false })
  keep_releases s o r = grind arith

  pub early_releases : (u : ℕ) → (u < flush) → (x.writes ≡ false) → Sound home (page flush clock twin sole Idle) → Owes home sole twin Idle (record x { stage = Releasing u }) → Releases flush clock sole Idle q (record x { stage = Releasing u }) → Releases flush clock sole Idle q (record x { stage = Releasing u; dirty = false })
  early_releases u e i s o r = grind arith

  pub map_exclusive_releases : ((first ≤ q) × (q < top)) → Sound home (page flush clock twin true Idle) → Owes home true twin Idle x → Releases flush clock true Idle q x → Releases flush clock true Idle q (record x { writes = true })
  map_exclusive_releases e s o r = grind arith

  pub map_write_releases : ((first ≤ q) × (q < top)) → ((home ≡ true) ⊎ (twin ≡ true)) → Sound home (page flush clock twin sole Idle) → Owes home sole twin Idle x → Releases flush clock sole Idle q x → Releases flush clock sole Idle q (record x { writes = true; dirty = true })
  map_write_releases e i s o r = grind arith

  pub unmap_releases : Sound home (page flush clock twin sole Idle) → Owes home sole twin Idle x → Releases flush clock sole Idle q x → Releases flush clock sole Idle q (record x { writes = false })
  unmap_releases s o r = grind arith

  pub make_releases : (home ≡ false) → Sound home (page flush clock twin false Idle) → Owes home false twin Idle x → Releases flush clock false Idle q x → Releases flush clock false Idle q x
  make_releases e s o r = grind arith

  pub enter_releases : Sound home (page flush clock false sole Idle) → Owes home sole false Idle x → Releases flush clock sole Idle q x → Releases flush clock true Idle q x
  enter_releases s o r = grind arith

  pub draw_releases : (p : ℕ) → ((q ≡ p → (has_taken x.stage ≡ true) × (x.dirty ≡ true))) → Sound home (page flush clock twin sole Idle) → Owes home sole twin Idle x → Releases flush clock sole Idle q x → Releases flush (suc clock) sole (Ready p clock) q x
  draw_releases p e s o r = grind arith

  pub begin_releases : (p t : ℕ) → Sound home (page flush clock true sole (Ready p t)) → Owes home sole true (Ready p t) x → Releases flush clock sole (Ready p t) q x → Releases flush clock sole (Flushing p t Before) q x
  begin_releases p t s o r = grind arith

  pub load_releases : (p t : ℕ) → Sound home (page flush clock twin sole (Flushing p t Before)) → Owes home sole twin (Flushing p t Before) x → Releases flush clock sole (Flushing p t Before) q x → Releases flush clock sole (Flushing p t Loaded) q (record x { seen = true })
  load_releases p t s o r = grind arith

  pub same_releases : (p t : ℕ) → Sound home (page flush clock twin sole (Flushing p t Loaded)) → Owes home sole twin (Flushing p t Loaded) x → Releases flush clock sole (Flushing p t Loaded) q x → Releases flush clock sole (Flushing p t After) q (record x { debt = cover true x.seen x.debt; seen = false })
  same_releases p t s o r = grind arith

  pub differ_releases : (p t : ℕ) → Sound home (page flush clock twin sole (Flushing p t Loaded)) → Owes home sole twin (Flushing p t Loaded) x → Releases flush clock sole (Flushing p t Loaded) q x → Releases flush clock sole (Flushing p t Differs) q x
  differ_releases p t s o r = grind arith

  pub refresh_releases : (p t : ℕ) → Sound home (page flush clock twin sole (Flushing p t Differs)) → Owes home sole twin (Flushing p t Differs) x → Releases flush clock sole (Flushing p t Differs) q x → Releases flush clock sole (Flushing p t Sending) q x
  refresh_releases p t s o r = grind arith

  pub send_releases : (p t : ℕ) → Sound home (page flush clock twin sole (Flushing p t Sending)) → Owes home sole twin (Flushing p t Sending) x → Releases flush clock sole (Flushing p t Sending) q x → Releases flush clock sole (Flushing p t After) q (record x { debt = cover true x.seen x.debt; seen = false })
  send_releases p t s o r = grind arith

  pub stamp_releases : (p t : ℕ) → Sound home (page flush clock twin sole (Flushing p t After)) → Owes home sole twin (Flushing p t After) x → Releases flush clock sole (Flushing p t After) q x → Releases t clock sole (Posting p true) q (record x { debt = next true covered x.debt })
  stamp_releases p t s o r = grind arith

  pub stamp_bare_releases : (p t : ℕ) → ((home ≡ true) ⊎ (twin ≡ false)) → Sound home (page flush clock twin sole (Ready p t)) → Owes home sole twin (Ready p t) x → Releases flush clock sole (Ready p t) q x → Releases t clock sole (Posting p false) q (record x { debt = next true covered x.debt })
  stamp_bare_releases p t e s o r = grind arith

  pub tell_releases : (p : ℕ) (b : Bool) → Sound home (page flush clock twin sole (Posting p b)) → Owes home sole twin (Posting p b) x → Releases flush clock sole (Posting p b) q x → Releases flush clock sole (Posted p b first) q (record x { debt = next true ended x.debt })
  tell_releases p b s o r = grind arith

  pub lower_releases : (p : ℕ) (b : Bool) (j : ℕ) → (p ≡ q) → Sound home (page flush clock twin sole (Posted p b j)) → Owes home sole twin (Posted p b j) x → Releases flush clock sole (Posted p b j) q x → Releases flush clock sole (Posted p b j) q (record x { writes = false })
  lower_releases p b j e s o r = grind arith

  pub look_releases : (p : ℕ) (b : Bool) (j : ℕ) → ((q ≡ j → x.writes ≡ false)) → Sound home (page flush clock twin sole (Posted p b j)) → Owes home sole twin (Posted p b j) x → Releases flush clock sole (Posted p b j) q x → Releases flush clock sole (Posted p b (suc j)) q x
  look_releases p b j e s o r = grind arith

  pub drop_releases : (p j : ℕ) → (top ≤ j) → Sound home (page flush clock twin sole (Posted p true j)) → Owes home sole twin (Posted p true j) x → Releases flush clock sole (Posted p true j) q x → Releases flush clock sole (Posted p false j) q x
  drop_releases p j e s o r = grind arith

  pub finish_mine_releases : (p : ℕ) (b : Bool) (j : ℕ) → (p ≡ q) → (x.writes ≡ false) → Sound home (page flush clock twin sole (Posted p b j)) → Owes home sole twin (Posted p b j) x → Releases flush clock sole (Posted p b j) q x → Releases flush clock sole Idle q (record x { dirty = false })
  finish_mine_releases p b j e i s o r = grind arith

  pub finish_releases : (p : ℕ) (b : Bool) (j : ℕ) → Sound home (page flush clock twin sole (Posted p b j)) → Owes home sole twin (Posted p b j) x → Releases flush clock sole (Posted p b j) q x → Releases flush clock sole Idle q x
  finish_releases p b j s o r = grind arith

  pub break_releases : Sound home (page flush clock twin true Idle) → Owes home true twin Idle x → Releases flush clock true Idle q x → Releases flush clock true (Marking first) q x
  break_releases s o r = grind arith

  pub mark_mine_releases : (j : ℕ) → (j ≡ q) → Sound home (page flush clock twin sole (Marking j)) → Owes home sole twin (Marking j) x → Releases flush clock sole (Marking j) q x → Releases flush clock sole (Marking (suc j)) q (record x { bit = true })
  mark_mine_releases j e s o r = grind arith

  pub mark_releases : (j : ℕ) → ((q ≡ j → x.writes ≡ false)) → Sound home (page flush clock twin sole (Marking j)) → Owes home sole twin (Marking j) x → Releases flush clock sole (Marking j) q x → Releases flush clock sole (Marking (suc j)) q x
  mark_releases j e s o r = grind arith

  pub mark_other_releases : (j : ℕ) → ((q ≡ j → ⊥)) → Sound home (page flush clock twin sole (Marking j)) → Owes home sole twin (Marking j) x → Releases flush clock sole (Marking j) q x → Releases flush clock sole (Marking (suc j)) q x
  mark_other_releases j e s o r = grind arith

  pub copy_releases : (j : ℕ) → (top ≤ j) → (home ≡ false) → Sound home (page flush clock twin sole (Marking j)) → Owes home sole twin (Marking j) x → Releases flush clock sole (Marking j) q x → Releases flush clock sole (Copying Before) q x
  copy_releases j e i s o r = grind arith

  pub load_break_releases : Sound home (page flush clock twin sole (Copying Before)) → Owes home sole twin (Copying Before) x → Releases flush clock sole (Copying Before) q x → Releases flush clock sole (Copying Loaded) q (record x { seen = true })
  load_break_releases s o r = grind arith

  pub refresh_break_releases : Sound home (page flush clock twin sole (Copying Loaded)) → Owes home sole twin (Copying Loaded) x → Releases flush clock sole (Copying Loaded) q x → Releases flush clock sole (Copying Sending) q x
  refresh_break_releases s o r = grind arith

  pub send_break_releases : Sound home (page flush clock twin sole (Copying Sending)) → Owes home sole twin (Copying Sending) x → Releases flush clock sole (Copying Sending) q x → Releases flush clock sole (Copying After) q (record x { debt = cover true x.seen x.debt; seen = false })
  send_break_releases s o r = grind arith

  pub raise_releases : Sound home (page flush clock twin sole (Copying After)) → Owes home sole twin (Copying After) x → Releases flush clock sole (Copying After) q x → Releases flush clock sole Copied q x
  raise_releases s o r = grind arith

  pub end_releases : Sound home (page flush clock twin sole Copied) → Owes home sole twin Copied x → Releases flush clock sole Copied q x → Releases flush clock false Idle q (record x { debt = break_over true x.debt })
  end_releases s o r = grind arith

  pub end_home_releases : (j : ℕ) → (top ≤ j) → (home ≡ true) → Sound home (page flush clock twin sole (Marking j)) → Owes home sole twin (Marking j) x → Releases flush clock sole (Marking j) q x → Releases flush clock false Idle q (record x { debt = break_over true x.debt })
  end_home_releases j e i s o r = grind arith
