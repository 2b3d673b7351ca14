-- Each event keeps what holds of the page.
use Rattle.std.proofs.Common.{◌≡◌, ℕ, suc, ◌≤◌, ◌⊎◌, Bool, true, false, arith}
use Rattle.dsm_debts.specs.Page.{Before, Loaded, Differs, Sending, After, Work, Idle, Ready, Flushing, Posting, Posted, Marking, Copying, Copied}
use Rattle.dsm_debts.proofs.Facts.{page, Sound}

module _ (home : Bool) (first top flush clock : ℕ) (sole twin : Bool) where
  pub tick_sound : (w : Work) → Sound home (page flush clock twin sole w) → Sound home (page flush (suc clock) twin sole w)
  tick_sound Idle s = grind arith
  tick_sound (Flushing p t Before) s = grind arith
  tick_sound (Flushing p t Loaded) s = grind arith
  tick_sound (Flushing p t y) s = grind arith
  tick_sound (Copying Before) s = grind arith
  tick_sound (Copying Loaded) s = grind arith
  tick_sound (Copying y) s = grind arith
  tick_sound w s = grind arith

  pub make_sound : (home ≡ false) → Sound home (page flush clock twin false Idle) → Sound home (page flush clock true false Idle)
  make_sound e s = grind arith

  pub enter_sound : Sound home (page flush clock false sole Idle) → Sound home (page flush clock false true Idle)
  enter_sound s = grind arith

  pub draw_sound : (p : ℕ) → Sound home (page flush clock twin sole Idle) → Sound home (page flush (suc clock) twin sole (Ready p clock))
  draw_sound p s = grind arith

  pub begin_sound : (p t : ℕ) → Sound home (page flush clock true sole (Ready p t)) → Sound home (page flush clock true sole (Flushing p t Before))
  begin_sound p t s = grind arith

  pub load_sound : (p t : ℕ) → Sound home (page flush clock twin sole (Flushing p t Before)) → Sound home (page flush clock twin sole (Flushing p t Loaded))
  load_sound p t s = grind arith

  pub same_sound : (p t : ℕ) → Sound home (page flush clock twin sole (Flushing p t Loaded)) → Sound home (page flush clock twin sole (Flushing p t After))
  same_sound p t s = grind arith

  pub differ_sound : (p t : ℕ) → Sound home (page flush clock twin sole (Flushing p t Loaded)) → Sound home (page flush clock twin sole (Flushing p t Differs))
  differ_sound p t s = grind arith

  pub refresh_sound : (p t : ℕ) → Sound home (page flush clock twin sole (Flushing p t Differs)) → Sound home (page flush clock twin sole (Flushing p t Sending))
  refresh_sound p t s = grind arith

  pub send_sound : (p t : ℕ) → Sound home (page flush clock twin sole (Flushing p t Sending)) → Sound home (page flush clock twin sole (Flushing p t After))
  send_sound p t s = grind arith

  pub stamp_sound : (p t : ℕ) → Sound home (page flush clock twin sole (Flushing p t After)) → Sound home (page t clock twin sole (Posting p true))
  stamp_sound p t s = grind arith

  pub stamp_bare_sound : (p t : ℕ) → ((home ≡ true) ⊎ (twin ≡ false)) → Sound home (page flush clock twin sole (Ready p t)) → Sound home (page t clock twin sole (Posting p false))
  stamp_bare_sound p t e s = grind arith

  pub tell_sound : (p : ℕ) (b : Bool) → Sound home (page flush clock twin sole (Posting p b)) → Sound home (page flush clock twin sole (Posted p b first))
  tell_sound p b s = grind arith

  pub look_sound : (p : ℕ) (b : Bool) (j : ℕ) → Sound home (page flush clock twin sole (Posted p b j)) → Sound home (page flush clock twin sole (Posted p b (suc j)))
  look_sound p b j s = grind arith

  pub drop_sound : (p j : ℕ) → (top ≤ j) → Sound home (page flush clock twin sole (Posted p true j)) → Sound home (page flush clock false sole (Posted p false j))
  drop_sound p j e s = grind arith

  pub finish_sound : (p : ℕ) (b : Bool) (j : ℕ) → Sound home (page flush clock twin sole (Posted p b j)) → Sound home (page flush clock twin sole Idle)
  finish_sound p b j s = grind arith

  pub break_sound : Sound home (page flush clock twin true Idle) → Sound home (page flush clock twin true (Marking first))
  break_sound s = grind arith

  pub mark_sound : (j : ℕ) → Sound home (page flush clock twin sole (Marking j)) → Sound home (page flush clock twin sole (Marking (suc j)))
  mark_sound j s = grind arith

  pub copy_sound : (j : ℕ) → (top ≤ j) → (home ≡ false) → Sound home (page flush clock twin sole (Marking j)) → Sound home (page flush clock twin sole (Copying Before))
  copy_sound j e i s = grind arith

  pub load_break_sound : Sound home (page flush clock twin sole (Copying Before)) → Sound home (page flush clock twin sole (Copying Loaded))
  load_break_sound s = grind arith

  pub refresh_break_sound : Sound home (page flush clock twin sole (Copying Loaded)) → Sound home (page flush clock twin sole (Copying Sending))
  refresh_break_sound s = grind arith

  pub send_break_sound : Sound home (page flush clock twin sole (Copying Sending)) → Sound home (page flush clock twin sole (Copying After))
  send_break_sound s = grind arith

  pub raise_sound : Sound home (page flush clock twin sole (Copying After)) → Sound home (page flush clock true sole Copied)
  raise_sound s = grind arith

  pub end_sound : Sound home (page flush clock twin sole Copied) → Sound home (page flush clock twin false Idle)
  end_sound s = grind arith

  pub end_home_sound : (j : ℕ) → (top ≤ j) → (home ≡ true) → Sound home (page flush clock twin sole (Marking j)) → Sound home (page flush clock twin false Idle)
  end_home_sound j e i s = grind arith
