-- Each event keeps what holds of a processor.
use Rattle.std.proofs.Common.{◌≡◌, ℕ, suc, ◌≤◌, ◌<◌, ◌⊎◌, Bool, true, false, if◌then◌else◌}
use Rattle.std.specs.Prelude.{◌||◌}
use Rattle.dsm_copies.specs.Modes.{cover, next, break_over, exclusive, owed, covered, ended}
use Rattle.dsm_debts.specs.Page.{Before, Loaded, Differs, Sending, After, Work, Idle, Ready, Flushing, Posting, Posted, Marking, Copying, Copied, Running, Drawn, Releasing, Processor, is_loaded, has_taken}
use Rattle.dsm_debts.proofs.Facts.{page, Sound, Fits}
use Rattle.dsm_debts.proofs.Mapped.{store_maps, open_maps, take_maps, signal_maps, keep_maps, early_maps, map_exclusive_maps, map_write_maps, unmap_maps, make_maps, enter_maps, draw_maps, begin_maps, load_maps, same_maps, differ_maps, refresh_maps, send_maps, stamp_maps, stamp_bare_maps, tell_maps, lower_maps, look_maps, drop_maps, finish_mine_maps, finish_maps, break_maps, mark_mine_maps, mark_maps, mark_other_maps, copy_maps, load_break_maps, refresh_break_maps, send_break_maps, raise_maps, end_maps, end_home_maps}
use Rattle.dsm_debts.proofs.Owed.{store_owes, open_owes, take_owes, signal_owes, keep_owes, early_owes, map_exclusive_owes, map_write_owes, unmap_owes, make_owes, enter_owes, draw_owes, begin_owes, load_owes, same_owes, differ_owes, refresh_owes, send_owes, stamp_owes, stamp_bare_owes, tell_owes, lower_owes, look_owes, drop_owes, finish_mine_owes, finish_owes, break_owes, mark_mine_owes, mark_owes, mark_other_owes, copy_owes, load_break_owes, refresh_break_owes, send_break_owes, raise_owes, end_owes, end_home_owes}
use Rattle.dsm_debts.proofs.Released.{tick_releases, store_releases, open_releases, take_releases, signal_releases, keep_releases, early_releases, map_exclusive_releases, map_write_releases, unmap_releases, make_releases, enter_releases, draw_releases, begin_releases, load_releases, same_releases, differ_releases, refresh_releases, send_releases, stamp_releases, stamp_bare_releases, tell_releases, lower_releases, look_releases, drop_releases, finish_mine_releases, finish_releases, break_releases, mark_mine_releases, mark_releases, mark_other_releases, copy_releases, load_break_releases, refresh_break_releases, send_break_releases, raise_releases, end_releases, end_home_releases}

module _ (home : Bool) (first top flush clock : ℕ) (sole twin : Bool) (q : ℕ) (x : Processor) where
  pub tick_fits : (w : Work) → Sound home (page flush clock twin sole w) → Fits home first top (page flush clock twin sole w) q x → Fits home first top (page flush (suc clock) twin sole w) q x
  tick_fits w s f = record { maps = f.maps; owes = f.owes; releases = tick_releases home first top flush clock sole twin q x w s f.owes f.releases }

  pub store_fits : (w : Work) → (x.writes ≡ true) → Sound home (page flush clock twin sole w) → Fits home first top (page flush clock twin sole w) q (record x { stage = Running }) → Fits home first top (page flush clock twin sole w) q (record x { stage = Running; debt = (if home then covered else (if sole then (if is_loaded w then owed else exclusive) else owed)); seen = false })
  store_fits w e s f = record { maps = store_maps home first top flush clock sole twin q x w e s f.maps; owes = store_owes home first top flush clock sole twin q x w e s f.maps f.owes; releases = store_releases home first top flush clock sole twin q x w e s f.owes f.releases }

  pub open_fits : (w : Work) → Sound home (page flush clock twin sole w) → Fits home first top (page flush clock twin sole w) q (record x { stage = Running }) → Fits home first top (page flush (suc clock) twin sole w) q (record x { stage = Drawn clock })
  open_fits w s f = record { maps = open_maps home first top flush clock sole twin q x w s f.maps; owes = open_owes home first top flush clock sole twin q x w s f.maps f.owes; releases = open_releases home first top flush clock sole twin q x w s f.owes f.releases }

  pub take_fits : (w : Work) (u : ℕ) → Sound home (page flush clock twin sole w) → Fits home first top (page flush clock twin sole w) q (record x { stage = Drawn u }) → Fits home first top (page flush clock twin sole w) q (record x { stage = Releasing u; dirty = x.dirty || x.bit; bit = false })
  take_fits w u s f = record { maps = take_maps home first top flush clock sole twin q x w u s f.maps; owes = take_owes home first top flush clock sole twin q x w u s f.maps f.owes; releases = take_releases home first top flush clock sole twin q x w u s f.owes f.releases }

  pub signal_fits : (w : Work) (u : ℕ) → (x.dirty ≡ false) → Sound home (page flush clock twin sole w) → Fits home first top (page flush clock twin sole w) q (record x { stage = Releasing u }) → Fits home first top (page flush clock twin sole w) q (record x { stage = Running })
  signal_fits w u e s f = record { maps = signal_maps home first top flush clock sole twin q x w u e s f.maps; owes = signal_owes home first top flush clock sole twin q x w u e s f.maps f.owes; releases = signal_releases home first top flush clock sole twin q x w u e s f.owes f.releases }

  pub keep_fits : Sound home (page flush clock twin true Idle) → Fits home first top (page flush clock twin true Idle) q x → Fits home first top (page flush clock twin true Idle) q (record x { dirty = false })
  keep_fits s f = record { maps = keep_maps home first top flush clock sole twin q x s f.maps; owes = keep_owes home first top flush clock sole twin q x s f.maps f.owes; releases = keep_releases home first top flush clock sole twin q x s f.owes f.releases }

  pub early_fits : (u : ℕ) → (u < flush) → (x.writes ≡ false) → Sound home (page flush clock twin sole Idle) → Fits home first top (page flush clock twin sole Idle) q (record x { stage = Releasing u }) → Fits home first top (page flush clock twin sole Idle) q (record x { stage = Releasing u; dirty = false })
  early_fits u e i s f = record { maps = early_maps home first top flush clock sole twin q x u e i s f.maps; owes = early_owes home first top flush clock sole twin q x u e i s f.maps f.owes f.releases; releases = early_releases home first top flush clock sole twin q x u e i s f.owes f.releases }

  pub map_exclusive_fits : ((first ≤ q) × (q < top)) → Sound home (page flush clock twin true Idle) → Fits home first top (page flush clock twin true Idle) q x → Fits home first top (page flush clock twin true Idle) q (record x { writes = true })
  map_exclusive_fits e s f = record { maps = map_exclusive_maps home first top flush clock sole twin q x e s f.maps; owes = map_exclusive_owes home first top flush clock sole twin q x e s f.maps f.owes; releases = map_exclusive_releases home first top flush clock sole twin q x e s f.owes f.releases }

  pub map_write_fits : ((first ≤ q) × (q < top)) → ((home ≡ true) ⊎ (twin ≡ true)) → Sound home (page flush clock twin sole Idle) → Fits home first top (page flush clock twin sole Idle) q x → Fits home first top (page flush clock twin sole Idle) q (record x { writes = true; dirty = true })
  map_write_fits e i s f = record { maps = map_write_maps home first top flush clock sole twin q x e i s f.maps; owes = map_write_owes home first top flush clock sole twin q x e i s f.maps f.owes; releases = map_write_releases home first top flush clock sole twin q x e i s f.owes f.releases }

  pub unmap_fits : Sound home (page flush clock twin sole Idle) → Fits home first top (page flush clock twin sole Idle) q x → Fits home first top (page flush clock twin sole Idle) q (record x { writes = false })
  unmap_fits s f = record { maps = unmap_maps home first top flush clock sole twin q x s f.maps; owes = unmap_owes home first top flush clock sole twin q x s f.maps f.owes; releases = unmap_releases home first top flush clock sole twin q x s f.owes f.releases }

  pub make_fits : (home ≡ false) → Sound home (page flush clock twin false Idle) → Fits home first top (page flush clock twin false Idle) q x → Fits home first top (page flush clock true false Idle) q x
  make_fits e s f = record { maps = make_maps home first top flush clock sole twin q x e s f.maps; owes = make_owes home first top flush clock sole twin q x e s f.maps f.owes; releases = make_releases home first top flush clock sole twin q x e s f.owes f.releases }

  pub enter_fits : Sound home (page flush clock false sole Idle) → Fits home first top (page flush clock false sole Idle) q x → Fits home first top (page flush clock false true Idle) q x
  enter_fits s f = record { maps = enter_maps home first top flush clock sole twin q x s f.maps; owes = enter_owes home first top flush clock sole twin q x s f.maps f.owes; releases = enter_releases home first top flush clock sole twin q x s f.owes f.releases }

  pub draw_fits : (p : ℕ) → ((q ≡ p → (has_taken x.stage ≡ true) × (x.dirty ≡ true))) → Sound home (page flush clock twin sole Idle) → Fits home first top (page flush clock twin sole Idle) q x → Fits home first top (page flush (suc clock) twin sole (Ready p clock)) q x
  draw_fits p e s f = record { maps = draw_maps home first top flush clock sole twin q x p e s f.maps; owes = draw_owes home first top flush clock sole twin q x p e s f.maps f.owes; releases = draw_releases home first top flush clock sole twin q x p e s f.owes f.releases }

  pub begin_fits : (p t : ℕ) → Sound home (page flush clock true sole (Ready p t)) → Fits home first top (page flush clock true sole (Ready p t)) q x → Fits home first top (page flush clock true sole (Flushing p t Before)) q x
  begin_fits p t s f = record { maps = begin_maps home first top flush clock sole twin q x p t s f.maps; owes = begin_owes home first top flush clock sole twin q x p t s f.maps f.owes; releases = begin_releases home first top flush clock sole twin q x p t s f.owes f.releases }

  pub load_fits : (p t : ℕ) → Sound home (page flush clock twin sole (Flushing p t Before)) → Fits home first top (page flush clock twin sole (Flushing p t Before)) q x → Fits home first top (page flush clock twin sole (Flushing p t Loaded)) q (record x { seen = true })
  load_fits p t s f = record { maps = load_maps home first top flush clock sole twin q x p t s f.maps; owes = load_owes home first top flush clock sole twin q x p t s f.maps f.owes; releases = load_releases home first top flush clock sole twin q x p t s f.owes f.releases }

  pub same_fits : (p t : ℕ) → Sound home (page flush clock twin sole (Flushing p t Loaded)) → Fits home first top (page flush clock twin sole (Flushing p t Loaded)) q x → Fits home first top (page flush clock twin sole (Flushing p t After)) q (record x { debt = cover true x.seen x.debt; seen = false })
  same_fits p t s f = record { maps = same_maps home first top flush clock sole twin q x p t s f.maps; owes = same_owes home first top flush clock sole twin q x p t s f.maps f.owes; releases = same_releases home first top flush clock sole twin q x p t s f.owes f.releases }

  pub differ_fits : (p t : ℕ) → Sound home (page flush clock twin sole (Flushing p t Loaded)) → Fits home first top (page flush clock twin sole (Flushing p t Loaded)) q x → Fits home first top (page flush clock twin sole (Flushing p t Differs)) q x
  differ_fits p t s f = record { maps = differ_maps home first top flush clock sole twin q x p t s f.maps; owes = differ_owes home first top flush clock sole twin q x p t s f.maps f.owes; releases = differ_releases home first top flush clock sole twin q x p t s f.owes f.releases }

  pub refresh_fits : (p t : ℕ) → Sound home (page flush clock twin sole (Flushing p t Differs)) → Fits home first top (page flush clock twin sole (Flushing p t Differs)) q x → Fits home first top (page flush clock twin sole (Flushing p t Sending)) q x
  refresh_fits p t s f = record { maps = refresh_maps home first top flush clock sole twin q x p t s f.maps; owes = refresh_owes home first top flush clock sole twin q x p t s f.maps f.owes; releases = refresh_releases home first top flush clock sole twin q x p t s f.owes f.releases }

  pub send_fits : (p t : ℕ) → Sound home (page flush clock twin sole (Flushing p t Sending)) → Fits home first top (page flush clock twin sole (Flushing p t Sending)) q x → Fits home first top (page flush clock twin sole (Flushing p t After)) q (record x { debt = cover true x.seen x.debt; seen = false })
  send_fits p t s f = record { maps = send_maps home first top flush clock sole twin q x p t s f.maps; owes = send_owes home first top flush clock sole twin q x p t s f.maps f.owes; releases = send_releases home first top flush clock sole twin q x p t s f.owes f.releases }

  pub stamp_fits : (p t : ℕ) → Sound home (page flush clock twin sole (Flushing p t After)) → Fits home first top (page flush clock twin sole (Flushing p t After)) q x → Fits home first top (page t clock twin sole (Posting p true)) q (record x { debt = next true covered x.debt })
  stamp_fits p t s f = record { maps = stamp_maps home first top flush clock sole twin q x p t s f.maps; owes = stamp_owes home first top flush clock sole twin q x p t s f.maps f.owes f.releases; releases = stamp_releases home first top flush clock sole twin q x p t s f.owes f.releases }

  pub stamp_bare_fits : (p t : ℕ) → ((home ≡ true) ⊎ (twin ≡ false)) → Sound home (page flush clock twin sole (Ready p t)) → Fits home first top (page flush clock twin sole (Ready p t)) q x → Fits home first top (page t clock twin sole (Posting p false)) q (record x { debt = next true covered x.debt })
  stamp_bare_fits p t e s f = record { maps = stamp_bare_maps home first top flush clock sole twin q x p t e s f.maps; owes = stamp_bare_owes home first top flush clock sole twin q x p t e s f.maps f.owes; releases = stamp_bare_releases home first top flush clock sole twin q x p t e s f.owes f.releases }

  pub tell_fits : (p : ℕ) (b : Bool) → Sound home (page flush clock twin sole (Posting p b)) → Fits home first top (page flush clock twin sole (Posting p b)) q x → Fits home first top (page flush clock twin sole (Posted p b first)) q (record x { debt = next true ended x.debt })
  tell_fits p b s f = record { maps = tell_maps home first top flush clock sole twin q x p b s f.maps; owes = tell_owes home first top flush clock sole twin q x p b s f.maps f.owes; releases = tell_releases home first top flush clock sole twin q x p b s f.owes f.releases }

  pub lower_fits : (p : ℕ) (b : Bool) (j : ℕ) → (p ≡ q) → Sound home (page flush clock twin sole (Posted p b j)) → Fits home first top (page flush clock twin sole (Posted p b j)) q x → Fits home first top (page flush clock twin sole (Posted p b j)) q (record x { writes = false })
  lower_fits p b j e s f = record { maps = lower_maps home first top flush clock sole twin q x p b j e s f.maps; owes = lower_owes home first top flush clock sole twin q x p b j e s f.maps f.owes f.releases; releases = lower_releases home first top flush clock sole twin q x p b j e s f.owes f.releases }

  pub look_fits : (p : ℕ) (b : Bool) (j : ℕ) → ((q ≡ j → x.writes ≡ false)) → Sound home (page flush clock twin sole (Posted p b j)) → Fits home first top (page flush clock twin sole (Posted p b j)) q x → Fits home first top (page flush clock twin sole (Posted p b (suc j))) q x
  look_fits p b j e s f = record { maps = look_maps home first top flush clock sole twin q x p b j e s f.maps; owes = look_owes home first top flush clock sole twin q x p b j e s f.maps f.owes; releases = look_releases home first top flush clock sole twin q x p b j e s f.owes f.releases }

  pub drop_fits : (p j : ℕ) → (top ≤ j) → Sound home (page flush clock twin sole (Posted p true j)) → Fits home first top (page flush clock twin sole (Posted p true j)) q x → Fits home first top (page flush clock false sole (Posted p false j)) q x
  drop_fits p j e s f = record { maps = drop_maps home first top flush clock sole twin q x p j e s f.maps; owes = drop_owes home first top flush clock sole twin q x p j e s f.maps f.owes; releases = drop_releases home first top flush clock sole twin q x p j e s f.owes f.releases }

  pub finish_mine_fits : (p : ℕ) (b : Bool) (j : ℕ) → (p ≡ q) → (x.writes ≡ false) → Sound home (page flush clock twin sole (Posted p b j)) → Fits home first top (page flush clock twin sole (Posted p b j)) q x → Fits home first top (page flush clock twin sole Idle) q (record x { dirty = false })
  finish_mine_fits p b j e i s f = record { maps = finish_mine_maps home first top flush clock sole twin q x p b j e i s f.maps; owes = finish_mine_owes home first top flush clock sole twin q x p b j e i s f.maps f.owes f.releases; releases = finish_mine_releases home first top flush clock sole twin q x p b j e i s f.owes f.releases }

  pub finish_fits : (p : ℕ) (b : Bool) (j : ℕ) → Sound home (page flush clock twin sole (Posted p b j)) → Fits home first top (page flush clock twin sole (Posted p b j)) q x → Fits home first top (page flush clock twin sole Idle) q x
  finish_fits p b j s f = record { maps = finish_maps home first top flush clock sole twin q x p b j s f.maps; owes = finish_owes home first top flush clock sole twin q x p b j s f.maps f.owes; releases = finish_releases home first top flush clock sole twin q x p b j s f.owes f.releases }

  pub break_fits : Sound home (page flush clock twin true Idle) → Fits home first top (page flush clock twin true Idle) q x → Fits home first top (page flush clock twin true (Marking first)) q x
  break_fits s f = record { maps = break_maps home first top flush clock sole twin q x s f.maps; owes = break_owes home first top flush clock sole twin q x s f.maps f.owes; releases = break_releases home first top flush clock sole twin q x s f.owes f.releases }

  pub mark_mine_fits : (j : ℕ) → (j ≡ q) → Sound home (page flush clock twin sole (Marking j)) → Fits home first top (page flush clock twin sole (Marking j)) q x → Fits home first top (page flush clock twin sole (Marking (suc j))) q (record x { bit = true })
  mark_mine_fits j e s f = record { maps = mark_mine_maps home first top flush clock sole twin q x j e s f.maps; owes = mark_mine_owes home first top flush clock sole twin q x j e s f.maps f.owes; releases = mark_mine_releases home first top flush clock sole twin q x j e s f.owes f.releases }

  pub mark_fits : (j : ℕ) → ((q ≡ j → x.writes ≡ false)) → Sound home (page flush clock twin sole (Marking j)) → Fits home first top (page flush clock twin sole (Marking j)) q x → Fits home first top (page flush clock twin sole (Marking (suc j))) q x
  mark_fits j e s f = record { maps = mark_maps home first top flush clock sole twin q x j e s f.maps; owes = mark_owes home first top flush clock sole twin q x j e s f.maps f.owes; releases = mark_releases home first top flush clock sole twin q x j e s f.owes f.releases }

  pub mark_other_fits : (j : ℕ) → ((q ≡ j → ⊥)) → Sound home (page flush clock twin sole (Marking j)) → Fits home first top (page flush clock twin sole (Marking j)) q x → Fits home first top (page flush clock twin sole (Marking (suc j))) q x
  mark_other_fits j e s f = record { maps = mark_other_maps home first top flush clock sole twin q x j e s f.maps; owes = mark_other_owes home first top flush clock sole twin q x j e s f.maps f.owes; releases = mark_other_releases home first top flush clock sole twin q x j e s f.owes f.releases }

  pub copy_fits : (j : ℕ) → (top ≤ j) → (home ≡ false) → Sound home (page flush clock twin sole (Marking j)) → Fits home first top (page flush clock twin sole (Marking j)) q x → Fits home first top (page flush clock twin sole (Copying Before)) q x
  copy_fits j e i s f = record { maps = copy_maps home first top flush clock sole twin q x j e i s f.maps; owes = copy_owes home first top flush clock sole twin q x j e i s f.maps f.owes; releases = copy_releases home first top flush clock sole twin q x j e i s f.owes f.releases }

  pub load_break_fits : Sound home (page flush clock twin sole (Copying Before)) → Fits home first top (page flush clock twin sole (Copying Before)) q x → Fits home first top (page flush clock twin sole (Copying Loaded)) q (record x { seen = true })
  load_break_fits s f = record { maps = load_break_maps home first top flush clock sole twin q x s f.maps; owes = load_break_owes home first top flush clock sole twin q x s f.maps f.owes; releases = load_break_releases home first top flush clock sole twin q x s f.owes f.releases }

  pub refresh_break_fits : Sound home (page flush clock twin sole (Copying Loaded)) → Fits home first top (page flush clock twin sole (Copying Loaded)) q x → Fits home first top (page flush clock twin sole (Copying Sending)) q x
  refresh_break_fits s f = record { maps = refresh_break_maps home first top flush clock sole twin q x s f.maps; owes = refresh_break_owes home first top flush clock sole twin q x s f.maps f.owes; releases = refresh_break_releases home first top flush clock sole twin q x s f.owes f.releases }

  pub send_break_fits : Sound home (page flush clock twin sole (Copying Sending)) → Fits home first top (page flush clock twin sole (Copying Sending)) q x → Fits home first top (page flush clock twin sole (Copying After)) q (record x { debt = cover true x.seen x.debt; seen = false })
  send_break_fits s f = record { maps = send_break_maps home first top flush clock sole twin q x s f.maps; owes = send_break_owes home first top flush clock sole twin q x s f.maps f.owes; releases = send_break_releases home first top flush clock sole twin q x s f.owes f.releases }

  pub raise_fits : Sound home (page flush clock twin sole (Copying After)) → Fits home first top (page flush clock twin sole (Copying After)) q x → Fits home first top (page flush clock true sole Copied) q x
  raise_fits s f = record { maps = raise_maps home first top flush clock sole twin q x s f.maps; owes = raise_owes home first top flush clock sole twin q x s f.maps f.owes; releases = raise_releases home first top flush clock sole twin q x s f.owes f.releases }

  pub end_fits : Sound home (page flush clock twin sole Copied) → Fits home first top (page flush clock twin sole Copied) q x → Fits home first top (page flush clock twin false Idle) q (record x { debt = break_over true x.debt })
  end_fits s f = record { maps = end_maps home first top flush clock sole twin q x s f.maps; owes = end_owes home first top flush clock sole twin q x s f.maps f.owes; releases = end_releases home first top flush clock sole twin q x s f.owes f.releases }

  pub end_home_fits : (j : ℕ) → (top ≤ j) → (home ≡ true) → Sound home (page flush clock twin sole (Marking j)) → Fits home first top (page flush clock twin sole (Marking j)) q x → Fits home first top (page flush clock twin false Idle) q (record x { debt = break_over true x.debt })
  end_home_fits j e i s f = record { maps = end_home_maps home first top flush clock sole twin q x j e i s f.maps; owes = end_home_owes home first top flush clock sole twin q x j e i s f.maps f.owes; releases = end_home_releases home first top flush clock sole twin q x j e i s f.owes f.releases }
