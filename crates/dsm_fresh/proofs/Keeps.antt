-- Each event keeps what holds, and the law.
use Rattle.std.proofs.Common.{◌≡◌, ◌≢◌, ℕ, suc, ◌≤◌, ◌<◌, ◌⊎◌, Bool, true, false, List, [], ◌∷◌, sym, subst, inl, inr, arith}
use Rattle.std.proofs.lemmas.Bool.{cases_eq, eq-eqb, ne_eqb}
use Rattle.dsm_fresh.specs.Stages.{Work, Idle, Ready, Open, Copied, Entered, Fetched, Hand, Empty, Found, Timed, Flags, Other, Stage, Rest, Before, Drained, Given, Taken}
use Rattle.dsm_fresh.specs.Pages.{Page, Processor, State, put, Event, Reset, Register, Claim, Share, Leave, Draw, First, Last, Stamp, Enter, Current, Current_sole, Map, Done, Send, Pass_by, Post_bit, Tell, Break, Pass, Drain_none, Drain_some, Time, Notify, Flag, Flagged, Other_time, Other_notice, Other_flag, Give, Take, Skip, Unmap, Keep, Keep_sole, Settle, Tick, page_after, happens, after, start}
use Rattle.dsm_fresh.specs.Premises.{MayFault, May, Runs}
use Rattle.dsm_fresh.specs.Laws.{Fresh, Usable, Alone}
use Rattle.dsm_fresh.proofs.Facts.{Sound, Fits}
use Rattle.dsm_fresh.proofs.Words.{reset_sound, register_sound, claim_sound, share_sound, leave_sound, draw_sound, first_sound, last_sound, stamp_sound, enter_sound, current_sound, current_sole_sound, done_sound, send_sound, pass_by_sound, post_bit_sound, tell_sound, break_sound, drain_none_sound, drain_some_sound, time_sound, notify_sound, flag_sound, flagged_sound, other_time_sound, other_notice_sound, tick_sound}
use Rattle.dsm_fresh.proofs.Others.{reset_fits, register_fits, claim_fits, share_fits, leave_fits, draw_fits, first_fits, last_fits, stamp_fits, enter_fits, current_fits, current_sole_fits, done_fits, send_fits, pass_by_fits, post_bit_fits, tell_fits, break_fits, drain_none_fits, drain_some_fits, time_fits, notify_fits, flagged_fits, other_time_fits, other_notice_fits, tick_fits}
use Rattle.dsm_fresh.proofs.Actors.{map_fits, pass_fits, drain_none_fits as drain_none_mine, drain_some_fits as drain_some_mine, flag_mine, flag_other, other_flag_fits, give_fits, take_fits, skip_fits, unmap_fits, keep_fits, keep_sole_fits, settle_fits}

pub each_put : {A : Type 0} (P : ℕ → A → Type 0) (f : ℕ → A) (n : ℕ) (x : A) → P n x → ((k : ℕ) → k ≢ n → P k (f k)) → (k : ℕ) → P k (put f n x k)
each_put P f n x a b k = go (cases_eq k n)
  where
    go : (k ≡ n) ⊎ (k ≢ n) → P k (put f n x k)
    go (inl e) = rw (eq-eqb k n e) (subst (λ z. P z x) (sym e) a)
    go (inr ne) = rw (ne_eqb k n ne) (b k ne)

module _ (first top : ℕ) where
  pub record Holds (s : State) : Type 0 where
    pub sound : Sound s.page
    pub each : (q : ℕ) → Fits first top s.page q (s.processors q)

  abbrev Kept : Event → State → Type 0
  Kept e s = Holds s → Holds (happens first s e)

  -- a state whose page is at this work, or whose hand is this
  by_work : (P : State → Type 0) (s : State) (w : Work) → s.page.work ≡ w → P (record s { page = record s.page { work = w } }) → P s
  by_work P s w e h = subst (λ z. P (record s { page = record s.page { work = z } })) (sym e) h

  by_hand : (P : State → Type 0) (s : State) (w : Hand) → s.page.hand ≡ w → P (record s { page = record s.page { hand = w } }) → P s
  by_hand P s w e h = subst (λ z. P (record s { page = record s.page { hand = z } })) (sym e) h

  by_stage : (g : Page) (q : ℕ) (x : Processor) (z : Stage) → x.stage ≡ z → Fits first top g q x → Fits first top g q (record x { stage = z })
  by_stage g q x z e f = subst (λ y. Fits first top g q (record x { stage = y })) e f

  same : (s : State) (g : Page) (p : ℕ) → Sound g → ((q : ℕ) → Fits first top g q (s.processors q)) → Holds (record { page = g; processors = put s.processors p (s.processors p) })
  same s g p a f = record { sound = a; each = each_put (λ q x. Fits first top g q x) s.processors p (s.processors p) (f p) (λ k ne. f k) }

  changed : (s : State) (g : Page) (p : ℕ) (x : Processor) → Sound g → Fits first top g p x → ((q : ℕ) → Fits first top g q (s.processors q)) → Holds (record { page = g; processors = put s.processors p x })
  changed s g p x a m f = record { sound = a; each = each_put (λ q x. Fits first top g q x) s.processors p x m (λ k ne. f k) }

  fault_of : (s : State) (q p : ℕ) → MayFault first top s q → q ≡ p → ((s.processors p).stage ≡ Rest) × (first ≤ p) × (p < top)
  fault_of s q p m d = subst (λ z. ((s.processors z).stage ≡ Rest) × (first ≤ z) × (z < top)) d (m.1, m.0.0, m.0.1)

  kept : (s : State) (e : Event) → May first top s e → Kept e s
  kept s Reset m = λ k. same s (page_after first s.page Reset) 0 (reset_sound first s.page m k.sound) (λ p. reset_fits first top s.page p (s.processors p) m k.sound (k.each p))
  kept s Register m = λ k. same s (page_after first s.page Register) 0 (register_sound first s.page m k.sound) (λ p. register_fits first top s.page p (s.processors p) m k.sound (k.each p))
  kept s Claim m = λ k. same s (page_after first s.page Claim) 0 (claim_sound first s.page m k.sound) (λ p. claim_fits first top s.page p (s.processors p) m k.sound (k.each p))
  kept s Share m = λ k. same s (page_after first s.page Share) 0 (share_sound first s.page m k.sound) (λ p. share_fits first top s.page p (s.processors p) m k.sound (k.each p))
  kept s Leave m = by_work (Kept Leave) s Idle m.0 (λ k. same s (page_after first (record s.page { work = Idle }) Leave) 0 (leave_sound first s.page k.sound) (λ p. leave_fits first top s.page p (s.processors p) (m.1 p) k.sound (k.each p)))
  kept s (Draw q) m = by_work (Kept (Draw q)) s Idle m.0.2 (λ k. same s (page_after first (record s.page { work = Idle }) (Draw q)) 0 (draw_sound first s.page q m.1 k.sound) (λ p. draw_fits first top s.page p (s.processors p) q m.1 (fault_of s q p m.0) k.sound (k.each p)))
  kept s (First q a) m = by_work (Kept (First q a)) s (Ready q m.0) m.1 (λ k. same s (page_after first (record s.page { work = (Ready q m.0) }) (First q a)) 0 (first_sound first s.page q a m.0 k.sound) (λ p. first_fits first top s.page p (s.processors p) q a m.0 k.sound (k.each p)))
  kept s (Last q) m = by_work (Kept (Last q)) s (Open q m.0 m.1 m.2) m.3 (λ k. same s (page_after first (record s.page { work = (Open q m.0 m.1 m.2) }) (Last q)) 0 (last_sound first s.page q m.0 m.1 m.2 k.sound) (λ p. last_fits first top s.page p (s.processors p) q m.0 m.1 m.2 k.sound (k.each p)))
  kept s (Stamp q) m = by_work (Kept (Stamp q)) s (Copied q m.0 m.1 m.2) m.3 (λ k. same s (page_after first (record s.page { work = (Copied q m.0 m.1 m.2) }) (Stamp q)) 0 (stamp_sound first s.page q m.0 m.1 m.2 k.sound) (λ p. stamp_fits first top s.page p (s.processors p) q m.0 m.1 m.2 k.sound (k.each p)))
  kept s (Enter q) m = by_work (Kept (Enter q)) s (Entered q) m (λ k. same s (page_after first (record s.page { work = (Entered q) }) (Enter q)) 0 (enter_sound first s.page q k.sound) (λ p. enter_fits first top s.page p (s.processors p) q k.sound (k.each p)))
  kept s (Current q) m = by_work (Kept (Current q)) s Idle m.0.2 (λ k. same s (page_after first (record s.page { work = Idle }) (Current q)) 0 (current_sound first s.page q m.1 m.2 m.3 k.sound) (λ p. current_fits first top s.page p (s.processors p) q m.1 m.2 m.3 (fault_of s q p m.0) k.sound (k.each p)))
  kept s (Current_sole q) m = by_work (Kept (Current_sole q)) s Idle m.0.2 (λ k. same s (page_after first (record s.page { work = Idle }) (Current_sole q)) 0 (current_sole_sound first s.page q m.1 k.sound) (λ p. current_sole_fits first top s.page p (s.processors p) q m.1 (fault_of s q p m.0) k.sound (k.each p)))
  kept s (Done q) m = by_work (Kept (Done q)) s (Fetched q) m (λ k. same s (page_after first (record s.page { work = (Fetched q) }) (Done q)) 0 (done_sound first s.page q k.sound) (λ p. done_fits first top s.page p (s.processors p) q k.sound (k.each p)))
  kept s Send m = λ k. same s (page_after first s.page Send) 0 (send_sound first s.page m.0 m.1 k.sound) (λ p. send_fits first top s.page p (s.processors p) m.0 m.1 k.sound (k.each p))
  kept s Pass_by m = λ k. same s (page_after first s.page Pass_by) 0 (pass_by_sound first s.page m k.sound) (λ p. pass_by_fits first top s.page p (s.processors p) m k.sound (k.each p))
  kept s Post_bit m = λ k. same s (page_after first s.page Post_bit) 0 (post_bit_sound first s.page k.sound) (λ p. post_bit_fits first top s.page p (s.processors p) k.sound (k.each p))
  kept s Tell m = λ k. same s (page_after first s.page Tell) 0 (tell_sound first s.page m k.sound) (λ p. tell_fits first top s.page p (s.processors p) m k.sound (k.each p))
  kept s Break m = λ k. same s (page_after first s.page Break) 0 (break_sound first s.page m.0 m.1 k.sound) (λ p. break_fits first top s.page p (s.processors p) m.0 m.1 k.sound (k.each p))
  kept s Time m = by_hand (Kept Time) s (Found m.0) m.1 (λ k. same s (page_after first (record s.page { hand = (Found m.0) }) Time) 0 (time_sound first s.page m.0 k.sound) (λ p. time_fits first top s.page p (s.processors p) m.0 k.sound (k.each p)))
  kept s Notify m = by_hand (Kept Notify) s (Timed m.0 m.1) m.2 (λ k. same s (page_after first (record s.page { hand = (Timed m.0 m.1) }) Notify) 0 (notify_sound first s.page m.0 m.1 k.sound) (λ p. notify_fits first top s.page p (s.processors p) m.0 m.1 k.sound (k.each p)))
  kept s Flagged m = by_hand (Kept Flagged) s (Flags m.0) m.1 (λ k. same s (page_after first (record s.page { hand = (Flags m.0) }) Flagged) 0 (flagged_sound first s.page m.0 k.sound) (λ p. flagged_fits first top s.page p (s.processors p) m.0 m.2 k.sound (k.each p)))
  kept s Other_time m = by_hand (Kept Other_time) s Empty m (λ k. same s (page_after first (record s.page { hand = Empty }) Other_time) 0 (other_time_sound first s.page k.sound) (λ p. other_time_fits first top s.page p (s.processors p) k.sound (k.each p)))
  kept s Other_notice m = by_hand (Kept Other_notice) s (Other m.0) m.1 (λ k. same s (page_after first (record s.page { hand = (Other m.0) }) Other_notice) 0 (other_notice_sound first s.page m.0 k.sound) (λ p. other_notice_fits first top s.page p (s.processors p) m.0 k.sound (k.each p)))
  kept s Tick m = λ k. same s (page_after first s.page Tick) 0 (tick_sound first s.page k.sound) (λ p. tick_fits first top s.page p (s.processors p) k.sound (k.each p))
  kept s (Map q) m = by_work (Kept (Map q)) s (Fetched q) m (λ k. changed s (record s.page { work = Fetched q }) q (record (s.processors q) { mapped = true }) k.sound (map_fits first top s.page q (s.processors q) k.sound (k.each q)) k.each)
  kept s (Pass q) m = λ k. changed s s.page q _ k.sound (pass_fits first top s.page q (s.processors q) m.1 k.sound (by_stage s.page q (s.processors q) Rest m.0 (k.each q))) k.each
  kept s (Drain_none q) m = by_hand (Kept (Drain_none q)) s Empty m.2 (λ k. let g : Page = record s.page { hand = Empty } in changed s (page_after first g (Drain_none q)) q (record (s.processors q) { stage = Drained }) (drain_none_sound first s.page q m.1 k.sound) (drain_none_mine first top s.page q (s.processors q) m.1 k.sound (by_stage g q (s.processors q) Before m.0 (k.each q))) (λ p. drain_none_fits first top s.page p (s.processors p) q m.1 k.sound (k.each p)))
  kept s (Drain_some q) m = by_hand (Kept (Drain_some q)) s Empty m.2 (λ k. let g : Page = record s.page { hand = Empty } in changed s (page_after first g (Drain_some q)) q (record (s.processors q) { stage = Drained }) (drain_some_sound first s.page q m.1 k.sound) (drain_some_mine first top s.page q (s.processors q) m.1 k.sound (by_stage g q (s.processors q) Before m.0 (k.each q))) (λ p. drain_some_fits first top s.page p (s.processors p) q m.1 k.sound (k.each p)))
  kept s Flag m = by_hand (Kept Flag) s (Flags m.0) m.1 (λ k. record { sound = flag_sound first s.page m.0 k.sound; each = each_put (λ q x. Fits first top (record s.page { hand = Flags (suc m.0) }) q x) s.processors m.0 (record (s.processors m.0) { own = true }) (flag_mine first top s.page m.0 (s.processors m.0) k.sound (k.each m.0)) (λ p ne. flag_other first top s.page p (s.processors p) m.0 (λ e. absurd (ne (sym e))) k.sound (k.each p)) })
  kept s (Other_flag q) m = λ k. changed s s.page q (record (s.processors q) { own = true }) k.sound (other_flag_fits first top s.page q (s.processors q) k.sound (k.each q)) k.each
  kept s (Give q) m = by_hand (Kept (Give q)) s Empty m.1 (λ k. let g : Page = record s.page { hand = Empty } in changed s g q (record (s.processors q) { stage = Given }) k.sound (give_fits first top s.page q (s.processors q) k.sound (by_stage g q (s.processors q) Drained m.0 (k.each q))) k.each)
  kept s (Take q) m = λ k. changed s s.page q (record (s.processors q) { own = false; stage = Taken (s.processors q).own }) k.sound (take_fits first top s.page q (s.processors q) k.sound (by_stage s.page q (s.processors q) Given m (k.each q))) k.each
  kept s (Skip q) m = λ k. changed s s.page q (record (s.processors q) { stage = Taken false }) k.sound (skip_fits first top s.page q (s.processors q) m.0 m.2 k.sound (by_stage s.page q (s.processors q) (Taken m.0) m.1 (k.each q))) k.each
  kept s (Unmap q) m = λ k. changed s s.page q (record (s.processors q) { mapped = false; stage = Taken false }) k.sound (unmap_fits first top s.page q (s.processors q) m.0 k.sound (by_stage s.page q (s.processors q) (Taken m.0) m.1 (k.each q))) k.each
  kept s (Keep q) m = by_work (Kept (Keep q)) s Idle m.2 (λ k. let g : Page = record s.page { work = Idle } in changed s g q (record (s.processors q) { stage = Taken false }) k.sound (keep_fits first top s.page q (s.processors q) m.0 m.3 k.sound (by_stage g q (s.processors q) (Taken m.0) m.1 (k.each q))) k.each)
  kept s (Settle q) m = λ k. changed s s.page q (record (s.processors q) { stage = Rest }) k.sound (settle_fits first top s.page q (s.processors q) k.sound (by_stage s.page q (s.processors q) (Taken false) m (k.each q))) k.each
  kept s (Keep_sole q) m = λ k. changed s s.page q (record (s.processors q) { stage = Taken false }) k.sound (keep_sole_fits first top s.page q (s.processors q) m.0 m.2 k.sound (by_stage s.page q (s.processors q) (Taken m.0) m.1 (k.each q))) k.each

  pub keeps : (s : State) (e : Event) → Holds s → May first top s e → Holds (happens first s e)
  keeps s e h m = kept s e m h

  pub goes_on : (s : State) (es : List Event) → Holds s → Runs first top s es → Holds (after first s es)
  goes_on s [] h r = h
  goes_on s (e ∷ es) h r = goes_on (happens first s e) es (keeps s e h r.0) r.1

  starts_sound : Sound start.page
  starts_sound = record { bounds = grind arith; times = grind arith; notices = grind arith }

  starts_fits : (q : ℕ) → Fits first top start.page q (start.processors q)
  starts_fits q = grind arith

  pub starts : Holds start
  starts = record { sound = starts_sound; each = starts_fits }

  rested : (g : Page) (q : ℕ) (x : Processor) → Fits first top g q x → x.stage ≡ Rest → x.mapped ≡ true → x.known ≤ g.got
  rested g q x f e m = (by_stage g q x Rest e f).at_stage.1 m

pub fresh : Fresh
fresh first top es q r e m = rested first top (after first start es).page q ((after first start es).processors q) ((goes_on first top start es (starts first top) r).each q) e m

module _ (g : Page) (s : Sound g) where
  broken_got : g.dir ≢ 0 → g.update ≢ 0 → g.broken ≤ g.got
  broken_got a b = let w = s.notices.breaks in grind arith

not_false : (b : Bool) → b ≡ true → b ≡ false → ⊥
not_false b e f = cc (e, f)

pub usable : Usable
usable first top es q r m =
    let h = goes_on first top start es (starts first top) r in
    let f = h.each q in
    let a : (after first start es).page.dir ≢ 0 = λ e. not_false ((after first start es).processors q).mapped m (f.unlisted e) in
    let b : (after first start es).page.update ≢ 0 = λ e. not_false ((after first start es).processors q).mapped m (f.unfetched e) in
    (a, b, broken_got (after first start es).page h.sound a b)

pub alone : Alone
alone first top es r e = ((goes_on first top start es (starts first top) r).sound.bounds.sole_has e).0
