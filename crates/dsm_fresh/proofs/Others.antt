-- Each event keeps what holds of a processor that it does not change.
use Rattle.std.proofs.Common.{◌≡◌, ◌≢◌, ◌⊎◌, ℕ, ◌≤◌, ◌<◌, Bool, true, false, arith}
use Rattle.std.specs.Prelude.{max}
use Rattle.dsm_fresh.specs.Stages.{Work, Idle, Ready, Open, Copied, Entered, Fetched, Empty, Found, Timed, Flags, Other, Stage, Rest, Before, Drained, Given, Taken, is_open, is_entering}
use Rattle.dsm_fresh.specs.Pages.{Page, Processor, Reset, Register, Claim, Share, Leave, Draw, First, Last, Stamp, Enter, Current, Current_sole, Done, Send, Pass_by, Post_bit, Tell, Break, Drain_none, Drain_some, Time, Notify, Flagged, Other_time, Other_notice, Tick, page_after}
use Rattle.dsm_fresh.proofs.Facts.{Sound, AtStage, Fits}

module _ (first top : ℕ) (g : Page) (q : ℕ) (x : Processor) where
  pub reset_fits : (g.dir ≡ 0) → Sound g → Fits first top g q x → Fits first top (page_after first g Reset) q x
  reset_fits h0 s f = grind arith

  pub register_fits : (g.update ≡ 0) → Sound g → Fits first top g q x → Fits first top (page_after first g Register) q x
  register_fits h0 s f = grind arith

  pub claim_fits : (g.dir ≢ 0) → Sound g → Fits first top g q x → Fits first top (page_after first g Claim) q x
  claim_fits h0 s f = grind arith

  pub share_fits : (g.dir ≢ 0) → Sound g → Fits first top g q x → Fits first top (page_after first g Share) q x
  share_fits h0 s f = grind arith

  pub leave_fits : ((first ≤ q) × (q < top) → x.mapped ≡ false) → Sound (record g { work = Idle }) → Fits first top (record g { work = Idle }) q x → Fits first top (page_after first (record g { work = Idle }) Leave) q x
  leave_fits r0 s f = grind arith

  pub draw_fits : (p : ℕ) → (g.dir ≢ 0) → (p ≡ q → (x.stage ≡ Rest) × (first ≤ q) × (q < top)) → Sound (record g { work = Idle }) → Fits first top (record g { work = Idle }) q x → Fits first top (page_after first (record g { work = Idle }) (Draw p)) q x
  draw_fits p h0 r0 s f = grind arith

  pub first_fits : (p : ℕ) (a : Bool) (t : ℕ) → Sound (record g { work = Ready p t }) → Fits first top (record g { work = Ready p t }) q x → Fits first top (page_after first (record g { work = Ready p t }) (First p a)) q x
  first_fits p a t s f = grind arith

  less : (a b c : ℕ) → max a b < c → a < c
  less a b c h = grind arith

  last_stage : (p : ℕ) (a : Bool) (t : ℕ) (e : ℕ) → Sound (record g { work = Open p a t e }) → (z : Stage) → AtStage (record g { work = Open p a t e }) x z → AtStage (page_after first (record g { work = Open p a t e }) (Last p)) x z
  last_stage p a t e s Rest f = grind arith
  last_stage p a t e s Before f = grind arith
  last_stage p a t e s Drained f = grind arith
  last_stage p a t e s Given f = grind arith
  last_stage p a t e s (Taken b) f = grind arith

  pub last_fits : (p : ℕ) (a : Bool) (t : ℕ) (e : ℕ) → Sound (record g { work = Open p a t e }) → Fits first top (record g { work = Open p a t e }) q x → Fits first top (page_after first (record g { work = Open p a t e }) (Last p)) q x
  last_fits p a t e s f =
      record { unlisted = f.unlisted; unfetched = f.unfetched; known_in = f.known_in; at_rest = f.at_rest; of_node = f.of_node; reached = λ m l. f.reached m (less g.got e g.dealt l); at_work = λ i. ((f.at_work i).0, λ l m. (f.at_work i).1 (less g.got e g.dealt l) m); at_stage = last_stage p a t e s x.stage f.at_stage }

  stamp_stage : (p : ℕ) (t : ℕ) (e : ℕ) → Sound (record g { work = Copied p false t e }) → (z : Stage) → AtStage (record g { work = Copied p false t e }) x z → AtStage (page_after first (record g { work = Copied p false t e }) (Stamp p)) x z
  stamp_stage p t e s Rest f = grind arith
  stamp_stage p t e s Before f = grind arith
  stamp_stage p t e s Drained f = grind arith
  stamp_stage p t e s Given f = grind arith
  stamp_stage p t e s (Taken b) f = grind arith

  pub stamp_fits : (p : ℕ) (a : Bool) (t : ℕ) (e : ℕ) → Sound (record g { work = Copied p a t e }) → Fits first top (record g { work = Copied p a t e }) q x → Fits first top (page_after first (record g { work = Copied p a t e }) (Stamp p)) q x
  stamp_fits p true t e s f = grind arith
  stamp_fits p false t e s f =
      record { unlisted = grind arith; unfetched = grind arith; known_in = grind arith; at_rest = grind arith; of_node = grind arith; reached = grind arith; at_work = grind arith; at_stage = stamp_stage p t e s x.stage f.at_stage }

  pub enter_fits : (p : ℕ) → Sound (record g { work = Entered p }) → Fits first top (record g { work = Entered p }) q x → Fits first top (page_after first (record g { work = Entered p }) (Enter p)) q x
  enter_fits p s f = grind arith

  pub current_fits : (p : ℕ) → (g.dir ≢ 0) → (g.update ≢ 0) → (g.notice ≤ g.update) → (p ≡ q → (x.stage ≡ Rest) × (first ≤ q) × (q < top)) → Sound (record g { work = Idle }) → Fits first top (record g { work = Idle }) q x → Fits first top (page_after first (record g { work = Idle }) (Current p)) q x
  current_fits p h0 h1 h2 r0 s f = grind arith

  pub current_sole_fits : (p : ℕ) → (g.dir ≡ 2) → (p ≡ q → (x.stage ≡ Rest) × (first ≤ q) × (q < top)) → Sound (record g { work = Idle }) → Fits first top (record g { work = Idle }) q x → Fits first top (page_after first (record g { work = Idle }) (Current_sole p)) q x
  current_sole_fits p h0 r0 s f = grind arith

  pub done_fits : (p : ℕ) → Sound (record g { work = Fetched p }) → Fits first top (record g { work = Fetched p }) q x → Fits first top (page_after first (record g { work = Fetched p }) (Done p)) q x
  done_fits p s f = grind arith

  pub send_fits : (g.dir ≢ 2) → (is_entering g.work ≡ false) → Sound g → Fits first top g q x → Fits first top (page_after first g Send) q x
  send_fits h0 h1 s f = grind arith

  pub pass_by_fits : (g.dir ≡ 0) → Sound g → Fits first top g q x → Fits first top (page_after first g Pass_by) q x
  pass_by_fits h0 s f = grind arith

  pub post_bit_fits : Sound g → Fits first top g q x → Fits first top (page_after first g Post_bit) q x
  post_bit_fits s f = grind arith

  pub tell_fits : (g.served ≡ true) → Sound g → Fits first top g q x → Fits first top (page_after first g Tell) q x
  tell_fits h0 s f = grind arith

  pub break_fits : (is_open g.work ≡ false) → ((g.dir ≡ 0) ⊎ (g.update ≡ 0)) → Sound g → Fits first top g q x → Fits first top (page_after first g Break) q x
  break_fits h0 h1 s f = grind arith

  drain_none_at : (w : Work) → (p : ℕ) → (g.bit ≡ false) → Sound (record g { hand = Empty; work = w }) → Fits first top (record g { hand = Empty; work = w }) q x → Fits first top (page_after first (record g { hand = Empty; work = w }) (Drain_none p)) q x
  drain_none_at Idle p h0 s f = grind arith
  drain_none_at (Ready p0 t0) p h0 s f = grind arith
  drain_none_at (Open p0 a0 t0 e0) p h0 s f = grind arith
  drain_none_at (Copied p0 a0 t0 e0) p h0 s f = grind arith
  drain_none_at (Entered p0) p h0 s f = grind arith
  drain_none_at (Fetched p0) p h0 s f = grind arith

  pub drain_none_fits : (p : ℕ) → (g.bit ≡ false) → Sound (record g { hand = Empty }) → Fits first top (record g { hand = Empty }) q x → Fits first top (page_after first (record g { hand = Empty }) (Drain_none p)) q x
  drain_none_fits p h0 s f = drain_none_at g.work p h0 s f

  pub drain_some_fits : (p : ℕ) → (g.bit ≡ true) → Sound (record g { hand = Empty }) → Fits first top (record g { hand = Empty }) q x → Fits first top (page_after first (record g { hand = Empty }) (Drain_some p)) q x
  drain_some_fits p h0 s f = grind arith

  pub time_fits : (c : ℕ) → Sound (record g { hand = Found c }) → Fits first top (record g { hand = Found c }) q x → Fits first top (page_after first (record g { hand = Found c }) Time) q x
  time_fits c s f = grind arith

  notify_stage : (w : Work) → (c : ℕ) (t : ℕ) → Sound (record g { hand = Timed c t; work = w }) → (z : Stage) → AtStage (record g { hand = Timed c t; work = w }) x z → AtStage (page_after first (record g { hand = Timed c t; work = w }) Notify) x z
  notify_stage w c t s Rest f = grind arith
  notify_stage w c t s Before f = grind arith
  notify_stage w c t s Drained f = grind arith
  notify_stage w c t s Given f = grind arith
  notify_stage w c t s (Taken b) f = grind arith

  notify_at : (w : Work) → (c : ℕ) (t : ℕ) → Sound (record g { hand = Timed c t; work = w }) → Fits first top (record g { hand = Timed c t; work = w }) q x → Fits first top (page_after first (record g { hand = Timed c t; work = w }) Notify) q x
  notify_at Idle c t s f = grind arith
  notify_at (Ready p0 t0) c t s f = grind arith
  notify_at (Open p0 a0 t0 e0) c t s f =
      record { unlisted = f.unlisted; unfetched = f.unfetched; known_in = f.known_in; at_rest = f.at_rest; of_node = f.of_node; reached = grind arith; at_work = grind arith; at_stage = notify_stage (Open p0 a0 t0 e0) c t s x.stage f.at_stage }
  notify_at (Copied p0 a0 t0 e0) c t s f =
      record { unlisted = f.unlisted; unfetched = f.unfetched; known_in = f.known_in; at_rest = f.at_rest; of_node = f.of_node; reached = grind arith; at_work = grind arith; at_stage = notify_stage (Copied p0 a0 t0 e0) c t s x.stage f.at_stage }
  notify_at (Entered p0) c t s f = grind arith
  notify_at (Fetched p0) c t s f = grind arith

  pub notify_fits : (c : ℕ) (t : ℕ) → Sound (record g { hand = Timed c t }) → Fits first top (record g { hand = Timed c t }) q x → Fits first top (page_after first (record g { hand = Timed c t }) Notify) q x
  notify_fits c t s f = notify_at g.work c t s f

  flagged_at : (w : Work) → (j : ℕ) → (top ≤ j) → Sound (record g { hand = Flags j; work = w }) → Fits first top (record g { hand = Flags j; work = w }) q x → Fits first top (page_after first (record g { hand = Flags j; work = w }) Flagged) q x
  flagged_at Idle j r0 s f = grind arith
  flagged_at (Ready p0 t0) j r0 s f = grind arith
  flagged_at (Open p0 a0 t0 e0) j r0 s f = grind arith
  flagged_at (Copied p0 a0 t0 e0) j r0 s f = grind arith
  flagged_at (Entered p0) j r0 s f = grind arith
  flagged_at (Fetched p0) j r0 s f = grind arith

  pub flagged_fits : (j : ℕ) → (top ≤ j) → Sound (record g { hand = Flags j }) → Fits first top (record g { hand = Flags j }) q x → Fits first top (page_after first (record g { hand = Flags j }) Flagged) q x
  flagged_fits j r0 s f = flagged_at g.work j r0 s f

  pub other_time_fits : Sound (record g { hand = Empty }) → Fits first top (record g { hand = Empty }) q x → Fits first top (page_after first (record g { hand = Empty }) Other_time) q x
  other_time_fits s f = grind arith

  pub other_notice_fits : (t : ℕ) → Sound (record g { hand = Other t }) → Fits first top (record g { hand = Other t }) q x → Fits first top (page_after first (record g { hand = Other t }) Other_notice) q x
  other_notice_fits t s f = grind arith

  pub tick_fits : Sound g → Fits first top g q x → Fits first top (page_after first g Tick) q x
  tick_fits s f = grind arith
