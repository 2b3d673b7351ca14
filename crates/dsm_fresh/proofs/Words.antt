-- Each event keeps what holds of the page: one lemma for each, of one kind.
use Rattle.std.proofs.Common.{◌≡◌, ◌≢◌, ◌⊎◌, ℕ, ◌≤◌, Bool, true, false, arith}
use Rattle.dsm_fresh.specs.Stages.{Idle, Ready, Open, Copied, Entered, Fetched, Empty, Found, Timed, Flags, Other, is_open, is_entering}
use Rattle.dsm_fresh.specs.Pages.{Page, Reset, Register, Claim, Share, Leave, Draw, First, Last, Stamp, Enter, Current, Current_sole, Done, Send, Pass_by, Post_bit, Tell, Break, Drain_none, Drain_some, Time, Notify, Flag, Flagged, Other_time, Other_notice, Tick, page_after}
use Rattle.dsm_fresh.proofs.Facts.{Sound}

module _ (first : ℕ) (g : Page) where
  pub reset_sound : (g.dir ≡ 0) → Sound g → Sound (page_after first g Reset)
  reset_sound h0 s = record { bounds = grind arith; times = grind arith; notices = grind arith }

  pub register_sound : (g.update ≡ 0) → Sound g → Sound (page_after first g Register)
  register_sound h0 s = record { bounds = grind arith; times = grind arith; notices = grind arith }

  pub claim_sound : (g.dir ≢ 0) → Sound g → Sound (page_after first g Claim)
  claim_sound h0 s = record { bounds = grind arith; times = grind arith; notices = grind arith }

  pub share_sound : (g.dir ≢ 0) → Sound g → Sound (page_after first g Share)
  share_sound h0 s = record { bounds = grind arith; times = grind arith; notices = grind arith }

  pub leave_sound : Sound (record g { work = Idle }) → Sound (page_after first (record g { work = Idle }) Leave)
  leave_sound s = record { bounds = grind arith; times = grind arith; notices = grind arith }

  pub draw_sound : (p : ℕ) → (g.dir ≢ 0) → Sound (record g { work = Idle }) → Sound (page_after first (record g { work = Idle }) (Draw p))
  draw_sound p h0 s = record { bounds = grind arith; times = grind arith; notices = grind arith }

  pub first_sound : (p : ℕ) (a : Bool) (t : ℕ) → Sound (record g { work = Ready p t }) → Sound (page_after first (record g { work = Ready p t }) (First p a))
  first_sound p a t s = record { bounds = grind arith; times = grind arith; notices = grind arith }

  pub last_sound : (p : ℕ) (a : Bool) (t : ℕ) (e : ℕ) → Sound (record g { work = Open p a t e }) → Sound (page_after first (record g { work = Open p a t e }) (Last p))
  last_sound p a t e s = record { bounds = grind arith; times = grind arith; notices = grind arith }

  pub stamp_sound : (p : ℕ) (a : Bool) (t : ℕ) (e : ℕ) → Sound (record g { work = Copied p a t e }) → Sound (page_after first (record g { work = Copied p a t e }) (Stamp p))
  stamp_sound p true t e s = record { bounds = grind arith; times = grind arith; notices = grind arith }
  stamp_sound p false t e s = record { bounds = grind arith; times = grind arith; notices = grind arith }

  pub enter_sound : (p : ℕ) → Sound (record g { work = Entered p }) → Sound (page_after first (record g { work = Entered p }) (Enter p))
  enter_sound p s = record { bounds = grind arith; times = grind arith; notices = grind arith }

  pub current_sound : (p : ℕ) → (g.dir ≢ 0) → (g.update ≢ 0) → (g.notice ≤ g.update) → Sound (record g { work = Idle }) → Sound (page_after first (record g { work = Idle }) (Current p))
  current_sound p h0 h1 h2 s = record { bounds = grind arith; times = grind arith; notices = grind arith }

  pub current_sole_sound : (p : ℕ) → (g.dir ≡ 2) → Sound (record g { work = Idle }) → Sound (page_after first (record g { work = Idle }) (Current_sole p))
  current_sole_sound p h0 s = record { bounds = grind arith; times = grind arith; notices = grind arith }

  pub done_sound : (p : ℕ) → Sound (record g { work = Fetched p }) → Sound (page_after first (record g { work = Fetched p }) (Done p))
  done_sound p s = record { bounds = grind arith; times = grind arith; notices = grind arith }

  pub send_sound : (g.dir ≢ 2) → (is_entering g.work ≡ false) → Sound g → Sound (page_after first g Send)
  send_sound h0 h1 s = record { bounds = grind arith; times = grind arith; notices = grind arith }

  pub pass_by_sound : (g.dir ≡ 0) → Sound g → Sound (page_after first g Pass_by)
  pass_by_sound h0 s = record { bounds = grind arith; times = grind arith; notices = grind arith }

  pub post_bit_sound : Sound g → Sound (page_after first g Post_bit)
  post_bit_sound s = record { bounds = grind arith; times = grind arith; notices = grind arith }

  pub tell_sound : (g.served ≡ true) → Sound g → Sound (page_after first g Tell)
  tell_sound h0 s = record { bounds = grind arith; times = grind arith; notices = grind arith }

  pub break_sound : (is_open g.work ≡ false) → ((g.dir ≡ 0) ⊎ (g.update ≡ 0)) → Sound g → Sound (page_after first g Break)
  break_sound h0 h1 s = record { bounds = grind arith; times = grind arith; notices = grind arith }

  pub drain_none_sound : (p : ℕ) → (g.bit ≡ false) → Sound (record g { hand = Empty }) → Sound (page_after first (record g { hand = Empty }) (Drain_none p))
  drain_none_sound p h0 s = record { bounds = grind arith; times = grind arith; notices = grind arith }

  pub drain_some_sound : (p : ℕ) → (g.bit ≡ true) → Sound (record g { hand = Empty }) → Sound (page_after first (record g { hand = Empty }) (Drain_some p))
  drain_some_sound p h0 s = record { bounds = grind arith; times = grind arith; notices = grind arith }

  pub time_sound : (c : ℕ) → Sound (record g { hand = Found c }) → Sound (page_after first (record g { hand = Found c }) Time)
  time_sound c s = record { bounds = grind arith; times = grind arith; notices = grind arith }

  pub notify_sound : (c : ℕ) (t : ℕ) → Sound (record g { hand = Timed c t }) → Sound (page_after first (record g { hand = Timed c t }) Notify)
  notify_sound c t s = record { bounds = grind arith; times = grind arith; notices = grind arith }

  pub flag_sound : (j : ℕ) → Sound (record g { hand = Flags j }) → Sound (page_after first (record g { hand = Flags j }) Flag)
  flag_sound j s = record { bounds = grind arith; times = grind arith; notices = grind arith }

  pub flagged_sound : (j : ℕ) → Sound (record g { hand = Flags j }) → Sound (page_after first (record g { hand = Flags j }) Flagged)
  flagged_sound j s = record { bounds = grind arith; times = grind arith; notices = grind arith }

  pub other_time_sound : Sound (record g { hand = Empty }) → Sound (page_after first (record g { hand = Empty }) Other_time)
  other_time_sound s = record { bounds = grind arith; times = grind arith; notices = grind arith }

  pub other_notice_sound : (t : ℕ) → Sound (record g { hand = Other t }) → Sound (page_after first (record g { hand = Other t }) Other_notice)
  other_notice_sound t s = record { bounds = grind arith; times = grind arith; notices = grind arith }

  pub tick_sound : Sound g → Sound (page_after first g Tick)
  tick_sound s = record { bounds = grind arith; times = grind arith; notices = grind arith }
