-- Each event keeps what holds, and the law.
use Rattle.std.proofs.Common.{◌≡◌, ◌≢◌, ℕ, suc, ◌≤◌, ◌<◌, ◌⊎◌, Bool, true, false, List, [], ◌∷◌, refl, sym, ap, ◌∙◌, subst, inl, inr, arith, if◌then◌else◌, ◌==◌}
use Rattle.std.specs.Prelude.{◌||◌}
use Rattle.std.proofs.lemmas.Bool.{cases_eq, eq-eqb, ne_eqb}
use Rattle.dsm_copies.specs.Modes.{exclusive, owed, covered, ended, told}
use Rattle.dsm_debts.specs.Page.{Before, Loaded, Differs, Sending, After, Work, Idle, Ready, Flushing, Posting, Posted, Marking, Copying, Copied, Stage, Running, Drawn, Releasing, Page, Processor, State, Event, Tick, Store, Open, Take, Signal, Keep, Early, Map_exclusive, Map_write, Unmap, Make, Enter, Draw, Begin, Load, Same, Differ, Refresh, Send, Stamp, Stamp_bare, Tell, Lower, Look, Drop, Finish, Break, Mark, Pass_by, Copy, Raise, End, End_home, store_debt, has_taken, is_broken, IsDue, after_event, after, opened, start, IsClock}
use Rattle.dsm_debts.specs.Premises.{IsPart, IsFlushPart, IsRefreshing, May, Runs}
use Rattle.dsm_debts.specs.Laws.{Signals, Drops, Owed, Exclusive, Standing, Untold}
use Rattle.dsm_debts.proofs.Facts.{Sound, Owes, Fits}
use Rattle.dsm_debts.proofs.Sounds.{tick_sound, make_sound, enter_sound, draw_sound, begin_sound, load_sound, same_sound, differ_sound, refresh_sound, send_sound, stamp_sound, stamp_bare_sound, tell_sound, look_sound, drop_sound, finish_sound, break_sound, mark_sound, copy_sound, load_break_sound, refresh_break_sound, send_break_sound, raise_sound, end_sound, end_home_sound}
use Rattle.dsm_debts.proofs.Fitting.{tick_fits, store_fits, open_fits, take_fits, signal_fits, keep_fits, early_fits, map_exclusive_fits, map_write_fits, unmap_fits, make_fits, enter_fits, draw_fits, begin_fits, load_fits, same_fits, differ_fits, refresh_fits, send_fits, stamp_fits, stamp_bare_fits, tell_fits, lower_fits, look_fits, drop_fits, finish_mine_fits, finish_fits, break_fits, mark_mine_fits, mark_fits, mark_other_fits, copy_fits, load_break_fits, refresh_break_fits, send_break_fits, raise_fits, end_fits, end_home_fits}

-- what a test leaves
pub choose : {A : Type 0} (P : A → Type 0) (q p : ℕ) (a b : A) → (q ≡ p → P a) → (q ≢ p → P b) → P (if q == p then a else b)
choose P q p a b f g = go (cases_eq q p)
  where
    go : (q ≡ p) ⊎ (q ≢ p) → P (if q == p then a else b)
    go (inl e) = rw (eq-eqb q p e) (f e)
    go (inr ne) = rw (ne_eqb q p ne) (g ne)

at_stage : (P : Processor → Type 0) (x : Processor) (z : Stage) → x.stage ≡ z → P (record x { stage = z }) → P x
at_stage P x z e h = subst (λ y. P (record x { stage = y })) (sym e) h

-- a state whose page is so
by_page : (P : State → Type 0) (s : State) (w : Work) (sole twin : Bool) → s.page.work ≡ w → s.page.sole ≡ sole → s.page.twin ≡ twin → P (record s { page = record s.page { work = w; sole = sole; twin = twin } }) → P s
by_page P s w sole twin e i k h = subst (λ z. P (record s { page = record s.page { work = z } })) (sym e) (subst (λ z. P (record s { page = record s.page { work = w; sole = z } })) (sym i) (subst (λ z. P (record s { page = record s.page { work = w; twin = z; sole = sole } })) (sym k) h))

module _ (home : Bool) (first top : ℕ) where
  pub record Holds (s : State) : Type 0 where
    pub sound : Sound home s.page
    pub each : (q : ℕ) → Fits home first top s.page q (s.processors q)

  abbrev Kept : Event → State → Type 0
  Kept e s = Holds s → Holds (after_event home first s e)

  is_stage : (s : State) (q p : ℕ) (z : Stage) → q ≡ p → (s.processors p).stage ≡ z → (s.processors q).stage ≡ z
  is_stage s q p z e i = subst (λ k. (s.processors k).stage ≡ z) (sym e) i

  is_dirty : (s : State) (q p : ℕ) (z : Bool) → q ≡ p → (s.processors p).dirty ≡ z → (s.processors q).dirty ≡ z
  is_dirty s q p z e i = subst (λ k. (s.processors k).dirty ≡ z) (sym e) i

  is_writing : (s : State) (q p : ℕ) (z : Bool) → q ≡ p → (s.processors p).writes ≡ z → (s.processors q).writes ≡ z
  is_writing s q p z e i = subst (λ k. (s.processors k).writes ≡ z) (sym e) i

  -- an event that changes one processor
  one : (s : State) (p : ℕ) (change : ℕ → Processor → Processor) → ((q : ℕ) → q ≡ p → Fits home first top s.page q (s.processors q) → Fits home first top s.page q (change q (s.processors q))) → (h : Holds s) → Holds (record s { processors = λ q. if q == p then change q (s.processors q) else s.processors q })
  one s p change f h = record { sound = h.sound; each = λ q. choose (λ x. Fits home first top s.page q x) q p (change q (s.processors q)) (s.processors q) (λ e. f q e (h.each q)) (λ ne. h.each q) }

  keeps_tick : (s : State) → Kept Tick s
  keeps_tick s h = let g = s.page in record { sound = tick_sound home first top g.flush g.clock g.sole g.twin g.work h.sound; each = λ q. tick_fits home first top g.flush g.clock g.sole g.twin q (s.processors q) g.work h.sound (h.each q) }

  keeps_store : (s : State) (p : ℕ) → May home first top s (Store p) → Kept (Store p) s
  keeps_store s p m h = let g = s.page in one s p (λ q x. record x { debt = store_debt home first g; seen = false }) (λ q e. at_stage (λ x. x.writes ≡ true → Fits home first top g q x → Fits home first top g q (record x { debt = store_debt home first g; seen = false })) (s.processors q) Running (is_stage s q p Running e m.0) (λ i f. store_fits home first top g.flush g.clock g.sole g.twin q (s.processors q) g.work i h.sound f) (is_writing s q p true e m.1)) h

  keeps_open : (s : State) (p : ℕ) → May home first top s (Open p) → Kept (Open p) s
  keeps_open s p m h = let g = s.page in let g' : Page = record s.page { clock = suc s.page.clock } in
      record {
        sound = tick_sound home first top g.flush g.clock g.sole g.twin g.work h.sound;
        each = λ q. choose (λ x. Fits home first top g' q x) q p (record (s.processors q) { stage = Drawn g.clock }) (s.processors q)
            (λ e. at_stage (λ x. Fits home first top g q x → Fits home first top g' q (record x { stage = Drawn g.clock })) (s.processors q) Running (is_stage s q p Running e m) (λ f. open_fits home first top g.flush g.clock g.sole g.twin q (s.processors q) g.work h.sound f) (h.each q))
            (λ ne. tick_fits home first top g.flush g.clock g.sole g.twin q (s.processors q) g.work h.sound (h.each q));
      }

  keeps_take : (s : State) (p : ℕ) → May home first top s (Take p) → Kept (Take p) s
  keeps_take s p m h = let g = s.page in one s p (λ q x. record x { dirty = x.dirty || x.bit; bit = false; stage = Releasing (opened x.stage) }) (λ q e. at_stage (λ x. Fits home first top g q x → Fits home first top g q (record x { dirty = x.dirty || x.bit; bit = false; stage = Releasing (opened x.stage) })) (s.processors q) (Drawn m.0) (is_stage s q p (Drawn m.0) e m.1) (λ f. take_fits home first top g.flush g.clock g.sole g.twin q (s.processors q) g.work m.0 h.sound f)) h

  keeps_signal : (s : State) (p : ℕ) → May home first top s (Signal p) → Kept (Signal p) s
  keeps_signal s p m h = let g = s.page in one s p (λ q x. record x { stage = Running }) (λ q e. at_stage (λ x. x.dirty ≡ false → Fits home first top g q x → Fits home first top g q (record x { stage = Running })) (s.processors q) (Releasing m.0) (is_stage s q p (Releasing m.0) e m.1) (λ i f. signal_fits home first top g.flush g.clock g.sole g.twin q (s.processors q) g.work m.0 i h.sound f) (is_dirty s q p false e m.2)) h

  keeps_keep : (s : State) (p : ℕ) → May home first top s (Keep p) → Kept (Keep p) s
  keeps_keep s p m = by_page (Kept (Keep p)) s Idle true s.page.twin m.0 m.1 refl (λ h. let g : Page = record s.page { work = Idle; sole = true } in one (record s { page = g }) p (λ q x. record x { dirty = false }) (λ q e f. keep_fits home first top g.flush g.clock true g.twin q (s.processors q) h.sound f) h)

  keeps_early : (s : State) (p : ℕ) → May home first top s (Early p) → Kept (Early p) s
  keeps_early s p m = by_page (Kept (Early p)) s Idle s.page.sole s.page.twin m.2 refl refl (λ h. let g : Page = record s.page { work = Idle } in one (record s { page = g }) p (λ q x. record x { dirty = false }) (λ q e. at_stage (λ x. x.writes ≡ false → Fits home first top g q x → Fits home first top g q (record x { dirty = false })) (s.processors q) (Releasing m.0) (is_stage s q p (Releasing m.0) e m.1) (λ i f. early_fits home first top g.flush g.clock g.sole g.twin q (s.processors q) m.0 m.3 i h.sound f) (is_writing s q p false e m.4)) h)

  of_node : (q p : ℕ) → q ≡ p → (first ≤ p) × (p < top) → (first ≤ q) × (q < top)
  of_node q p e i = subst (λ k. (first ≤ k) × (k < top)) (sym e) i

  keeps_map_exclusive : (s : State) (p : ℕ) → May home first top s (Map_exclusive p) → Kept (Map_exclusive p) s
  keeps_map_exclusive s p m = by_page (Kept (Map_exclusive p)) s Idle true s.page.twin m.1 m.2 refl (λ h. let g : Page = record s.page { work = Idle; sole = true } in one (record s { page = g }) p (λ q x. record x { writes = true }) (λ q e f. map_exclusive_fits home first top g.flush g.clock true g.twin q (s.processors q) (of_node q p e m.0) h.sound f) h)

  keeps_map_write : (s : State) (p : ℕ) → May home first top s (Map_write p) → Kept (Map_write p) s
  keeps_map_write s p m = by_page (Kept (Map_write p)) s Idle s.page.sole s.page.twin m.1 refl refl (λ h. let g : Page = record s.page { work = Idle } in one (record s { page = g }) p (λ q x. record x { writes = true; dirty = true }) (λ q e f. map_write_fits home first top g.flush g.clock g.sole g.twin q (s.processors q) (of_node q p e m.0) m.2 h.sound f) h)

  keeps_unmap : (s : State) (p : ℕ) → May home first top s (Unmap p) → Kept (Unmap p) s
  keeps_unmap s p m = by_page (Kept (Unmap p)) s Idle s.page.sole s.page.twin m refl refl (λ h. let g : Page = record s.page { work = Idle } in one (record s { page = g }) p (λ q x. record x { writes = false }) (λ q e f. unmap_fits home first top g.flush g.clock g.sole g.twin q (s.processors q) h.sound f) h)

  keeps_make : (s : State) → May home first top s Make → Kept Make s
  keeps_make s m = by_page (Kept Make) s Idle false s.page.twin m.0 m.2 refl (λ h. let g = s.page in record { sound = make_sound home first top g.flush g.clock false g.twin m.1 h.sound; each = λ q. make_fits home first top g.flush g.clock false g.twin q (s.processors q) m.1 h.sound (h.each q) })

  keeps_enter : (s : State) → May home first top s Enter → Kept Enter s
  keeps_enter s m = by_page (Kept Enter) s Idle s.page.sole false m.0 refl m.1 (λ h. let g = s.page in record { sound = enter_sound home first top g.flush g.clock g.sole false h.sound; each = λ q. enter_fits home first top g.flush g.clock g.sole false q (s.processors q) h.sound (h.each q) })

  keeps_begin : (s : State) → May home first top s Begin → Kept Begin s
  keeps_begin s m = by_page (Kept Begin) s (Ready m.0 m.1) s.page.sole true m.2 refl m.3 (λ h. let g = s.page in record { sound = begin_sound home first top g.flush g.clock g.sole true m.0 m.1 h.sound; each = λ q. begin_fits home first top g.flush g.clock g.sole true q (s.processors q) m.0 m.1 h.sound (h.each q) })

  keeps_stamp_bare : (s : State) → May home first top s Stamp_bare → Kept Stamp_bare s
  keeps_stamp_bare s m = by_page (Kept Stamp_bare) s (Ready m.0 m.1) s.page.sole s.page.twin m.2 refl refl (λ h. let g = s.page in record { sound = stamp_bare_sound home first top g.flush g.clock g.sole g.twin m.0 m.1 m.3 h.sound; each = λ q. stamp_bare_fits home first top g.flush g.clock g.sole g.twin q (s.processors q) m.0 m.1 m.3 h.sound (h.each q) })

  keeps_tell : (s : State) → May home first top s Tell → Kept Tell s
  keeps_tell s m = by_page (Kept Tell) s (Posting m.0 m.1) s.page.sole s.page.twin m.2 refl refl (λ h. let g = s.page in record { sound = tell_sound home first top g.flush g.clock g.sole g.twin m.0 m.1 h.sound; each = λ q. tell_fits home first top g.flush g.clock g.sole g.twin q (s.processors q) m.0 m.1 h.sound (h.each q) })

  keeps_look : (s : State) → May home first top s Look → Kept Look s
  keeps_look s m = by_page (Kept Look) s (Posted m.0 m.1 m.2) s.page.sole s.page.twin m.3 refl refl (λ h. let g = s.page in record { sound = look_sound home first top g.flush g.clock g.sole g.twin m.0 m.1 m.2 h.sound; each = λ q. look_fits home first top g.flush g.clock g.sole g.twin q (s.processors q) m.0 m.1 m.2 (λ e. is_writing s q m.2 false e m.4) h.sound (h.each q) })

  keeps_drop : (s : State) → May home first top s Drop → Kept Drop s
  keeps_drop s m = by_page (Kept Drop) s (Posted m.0 true m.1) s.page.sole s.page.twin m.2 refl refl (λ h. let g = s.page in record { sound = drop_sound home first top g.flush g.clock g.sole g.twin m.0 m.1 m.3 h.sound; each = λ q. drop_fits home first top g.flush g.clock g.sole g.twin q (s.processors q) m.0 m.1 m.3 h.sound (h.each q) })

  keeps_break : (s : State) → May home first top s Break → Kept Break s
  keeps_break s m = by_page (Kept Break) s Idle true s.page.twin m.0 m.1 refl (λ h. let g = s.page in record { sound = break_sound home first top g.flush g.clock true g.twin h.sound; each = λ q. break_fits home first top g.flush g.clock true g.twin q (s.processors q) h.sound (h.each q) })

  keeps_pass_by : (s : State) → May home first top s Pass_by → Kept Pass_by s
  keeps_pass_by s m = by_page (Kept Pass_by) s (Marking m.0) s.page.sole s.page.twin m.1 refl refl (λ h. let g = s.page in record { sound = mark_sound home first top g.flush g.clock g.sole g.twin m.0 h.sound; each = λ q. mark_fits home first top g.flush g.clock g.sole g.twin q (s.processors q) m.0 (λ e. is_writing s q m.0 false e m.2) h.sound (h.each q) })

  keeps_copy : (s : State) → May home first top s Copy → Kept Copy s
  keeps_copy s m = by_page (Kept Copy) s (Marking m.0) s.page.sole s.page.twin m.1 refl refl (λ h. let g = s.page in record { sound = copy_sound home first top g.flush g.clock g.sole g.twin m.0 m.2 m.3 h.sound; each = λ q. copy_fits home first top g.flush g.clock g.sole g.twin q (s.processors q) m.0 m.2 m.3 h.sound (h.each q) })

  keeps_raise : (s : State) → May home first top s Raise → Kept Raise s
  keeps_raise s m = by_page (Kept Raise) s (Copying After) s.page.sole s.page.twin m refl refl (λ h. let g = s.page in record { sound = raise_sound home first top g.flush g.clock g.sole g.twin h.sound; each = λ q. raise_fits home first top g.flush g.clock g.sole g.twin q (s.processors q) h.sound (h.each q) })

  keeps_end : (s : State) → May home first top s End → Kept End s
  keeps_end s m = by_page (Kept End) s Copied s.page.sole s.page.twin m refl refl (λ h. let g = s.page in record { sound = end_sound home first top g.flush g.clock g.sole g.twin h.sound; each = λ q. end_fits home first top g.flush g.clock g.sole g.twin q (s.processors q) h.sound (h.each q) })

  keeps_end_home : (s : State) → May home first top s End_home → Kept End_home s
  keeps_end_home s m = by_page (Kept End_home) s (Marking m.0) s.page.sole s.page.twin m.1 refl refl (λ h. let g = s.page in record { sound = end_home_sound home first top g.flush g.clock g.sole g.twin m.0 m.2 m.3 h.sound; each = λ q. end_home_fits home first top g.flush g.clock g.sole g.twin q (s.processors q) m.0 m.2 m.3 h.sound (h.each q) })

  keeps_draw : (s : State) (p : ℕ) → May home first top s (Draw p) → Kept (Draw p) s
  keeps_draw s p m = by_page (Kept (Draw p)) s Idle s.page.sole s.page.twin m.3 refl refl (λ h. let g = s.page in record { sound = draw_sound home first top g.flush g.clock g.sole g.twin p h.sound; each = λ q. draw_fits home first top g.flush g.clock g.sole g.twin q (s.processors q) p (λ e. (ap has_taken (is_stage s q p (Releasing m.0) e m.1), is_dirty s q p true e m.2)) h.sound (h.each q) })

  keeps_load : (s : State) → May home first top s Load → Kept Load s
  keeps_load s m = go s.page.work refl m
    where
      go : (w : Work) → s.page.work ≡ w → IsPart Before w → Kept Load s
      go (Flushing p t y) e i = by_page (Kept Load) s (Flushing p t Before) s.page.sole s.page.twin (e ∙ ap (λ z. Flushing p t z) i) refl refl (λ h. let g = s.page in record { sound = load_sound home first top g.flush g.clock g.sole g.twin p t h.sound; each = λ q. load_fits home first top g.flush g.clock g.sole g.twin q (s.processors q) p t h.sound (h.each q) })
      go (Copying y) e i = by_page (Kept Load) s (Copying Before) s.page.sole s.page.twin (e ∙ ap (λ z. Copying z) i) refl refl (λ h. let g = s.page in record { sound = load_break_sound home first top g.flush g.clock g.sole g.twin h.sound; each = λ q. load_break_fits home first top g.flush g.clock g.sole g.twin q (s.processors q) h.sound (h.each q) })
      go w e i = absurd i

  keeps_send : (s : State) → May home first top s Send → Kept Send s
  keeps_send s m = go s.page.work refl m
    where
      go : (w : Work) → s.page.work ≡ w → IsPart Sending w → Kept Send s
      go (Flushing p t y) e i = by_page (Kept Send) s (Flushing p t Sending) s.page.sole s.page.twin (e ∙ ap (λ z. Flushing p t z) i) refl refl (λ h. let g = s.page in record { sound = send_sound home first top g.flush g.clock g.sole g.twin p t h.sound; each = λ q. send_fits home first top g.flush g.clock g.sole g.twin q (s.processors q) p t h.sound (h.each q) })
      go (Copying y) e i = by_page (Kept Send) s (Copying Sending) s.page.sole s.page.twin (e ∙ ap (λ z. Copying z) i) refl refl (λ h. let g = s.page in record { sound = send_break_sound home first top g.flush g.clock g.sole g.twin h.sound; each = λ q. send_break_fits home first top g.flush g.clock g.sole g.twin q (s.processors q) h.sound (h.each q) })
      go w e i = absurd i

  keeps_refresh : (s : State) → May home first top s Refresh → Kept Refresh s
  keeps_refresh s m = go s.page.work refl m
    where
      go : (w : Work) → s.page.work ≡ w → IsRefreshing w → Kept Refresh s
      go (Flushing p t y) e i = by_page (Kept Refresh) s (Flushing p t Differs) s.page.sole s.page.twin (e ∙ ap (λ z. Flushing p t z) i) refl refl (λ h. let g = s.page in record { sound = refresh_sound home first top g.flush g.clock g.sole g.twin p t h.sound; each = λ q. refresh_fits home first top g.flush g.clock g.sole g.twin q (s.processors q) p t h.sound (h.each q) })
      go (Copying y) e i = by_page (Kept Refresh) s (Copying Loaded) s.page.sole s.page.twin (e ∙ ap (λ z. Copying z) i) refl refl (λ h. let g = s.page in record { sound = refresh_break_sound home first top g.flush g.clock g.sole g.twin h.sound; each = λ q. refresh_break_fits home first top g.flush g.clock g.sole g.twin q (s.processors q) h.sound (h.each q) })
      go w e i = absurd i

  keeps_same : (s : State) → May home first top s Same → Kept Same s
  keeps_same s m = go s.page.work refl m
    where
      go : (w : Work) → s.page.work ≡ w → IsFlushPart Loaded w → Kept Same s
      go (Flushing p t y) e i = by_page (Kept Same) s (Flushing p t Loaded) s.page.sole s.page.twin (e ∙ ap (λ z. Flushing p t z) i) refl refl (λ h. let g = s.page in record { sound = same_sound home first top g.flush g.clock g.sole g.twin p t h.sound; each = λ q. same_fits home first top g.flush g.clock g.sole g.twin q (s.processors q) p t h.sound (h.each q) })
      go w e i = absurd i

  keeps_differ : (s : State) → May home first top s Differ → Kept Differ s
  keeps_differ s m = go s.page.work refl m
    where
      go : (w : Work) → s.page.work ≡ w → IsFlushPart Loaded w → Kept Differ s
      go (Flushing p t y) e i = by_page (Kept Differ) s (Flushing p t Loaded) s.page.sole s.page.twin (e ∙ ap (λ z. Flushing p t z) i) refl refl (λ h. let g = s.page in record { sound = differ_sound home first top g.flush g.clock g.sole g.twin p t h.sound; each = λ q. differ_fits home first top g.flush g.clock g.sole g.twin q (s.processors q) p t h.sound (h.each q) })
      go w e i = absurd i

  keeps_stamp : (s : State) → May home first top s Stamp → Kept Stamp s
  keeps_stamp s m = go s.page.work refl m
    where
      go : (w : Work) → s.page.work ≡ w → IsFlushPart After w → Kept Stamp s
      go (Flushing p t y) e i = by_page (Kept Stamp) s (Flushing p t After) s.page.sole s.page.twin (e ∙ ap (λ z. Flushing p t z) i) refl refl (λ h. let g = s.page in record { sound = stamp_sound home first top g.flush g.clock g.sole g.twin p t h.sound; each = λ q. stamp_fits home first top g.flush g.clock g.sole g.twin q (s.processors q) p t h.sound (h.each q) })
      go w e i = absurd i

  keeps_lower : (s : State) → May home first top s Lower → Kept Lower s
  keeps_lower s m = by_page (Kept Lower) s (Posted m.0 m.1 m.2) s.page.sole s.page.twin m.3 refl refl (λ h. let g : Page = record s.page { work = Posted m.0 m.1 m.2 } in one (record s { page = g }) m.0 (λ q x. record x { writes = false }) (λ q e f. lower_fits home first top g.flush g.clock g.sole g.twin q (s.processors q) m.0 m.1 m.2 (sym e) h.sound f) h)

  keeps_finish : (s : State) → May home first top s Finish → Kept Finish s
  keeps_finish s m = by_page (Kept Finish) s (Posted m.0 m.1 m.2) s.page.sole s.page.twin m.3 refl refl (λ h. let g = s.page in let g' : Page = record s.page { work = Idle } in
      record {
        sound = finish_sound home first top g.flush g.clock g.sole g.twin m.0 m.1 m.2 h.sound;
        each = λ q. choose (λ x. Fits home first top g' q x) q m.0 (record (s.processors q) { dirty = false }) (s.processors q)
            (λ e. finish_mine_fits home first top g.flush g.clock g.sole g.twin q (s.processors q) m.0 m.1 m.2 (sym e) (is_writing s q m.0 false e m.4) h.sound (h.each q))
            (λ ne. finish_fits home first top g.flush g.clock g.sole g.twin q (s.processors q) m.0 m.1 m.2 h.sound (h.each q));
      })

  keeps_mark : (s : State) → May home first top s Mark → Kept Mark s
  keeps_mark s m = by_page (Kept Mark) s (Marking m.0) s.page.sole s.page.twin m.1 refl refl (λ h. let g = s.page in let g' : Page = record s.page { work = Marking (suc m.0) } in
      record {
        sound = mark_sound home first top g.flush g.clock g.sole g.twin m.0 h.sound;
        each = λ q. choose (λ x. Fits home first top g' q x) q m.0 (record (s.processors q) { bit = true }) (s.processors q)
            (λ e. mark_mine_fits home first top g.flush g.clock g.sole g.twin q (s.processors q) m.0 (sym e) h.sound (h.each q))
            (λ ne. mark_other_fits home first top g.flush g.clock g.sole g.twin q (s.processors q) m.0 ne h.sound (h.each q));
      })

  pub keeps : (s : State) (e : Event) → Holds s → May home first top s e → Holds (after_event home first s e)
  keeps s Tick h m = keeps_tick s h
  keeps s (Store q) h m = keeps_store s q m h
  keeps s (Open q) h m = keeps_open s q m h
  keeps s (Take q) h m = keeps_take s q m h
  keeps s (Signal q) h m = keeps_signal s q m h
  keeps s (Keep q) h m = keeps_keep s q m h
  keeps s (Early q) h m = keeps_early s q m h
  keeps s (Map_exclusive q) h m = keeps_map_exclusive s q m h
  keeps s (Map_write q) h m = keeps_map_write s q m h
  keeps s (Unmap q) h m = keeps_unmap s q m h
  keeps s (Draw q) h m = keeps_draw s q m h
  keeps s Make h m = keeps_make s m h
  keeps s Enter h m = keeps_enter s m h
  keeps s Begin h m = keeps_begin s m h
  keeps s Load h m = keeps_load s m h
  keeps s Same h m = keeps_same s m h
  keeps s Differ h m = keeps_differ s m h
  keeps s Refresh h m = keeps_refresh s m h
  keeps s Send h m = keeps_send s m h
  keeps s Stamp h m = keeps_stamp s m h
  keeps s Stamp_bare h m = keeps_stamp_bare s m h
  keeps s Tell h m = keeps_tell s m h
  keeps s Lower h m = keeps_lower s m h
  keeps s Look h m = keeps_look s m h
  keeps s Drop h m = keeps_drop s m h
  keeps s Finish h m = keeps_finish s m h
  keeps s Break h m = keeps_break s m h
  keeps s Mark h m = keeps_mark s m h
  keeps s Pass_by h m = keeps_pass_by s m h
  keeps s Copy h m = keeps_copy s m h
  keeps s Raise h m = keeps_raise s m h
  keeps s End h m = keeps_end s m h
  keeps s End_home h m = keeps_end_home s m h

  pub goes_on : (s : State) (es : List Event) → Holds s → Runs home first top s es → Holds (after home first s es)
  goes_on s [] h r = h
  goes_on s (e ∷ older) h r = keeps (after home first s older) e (goes_on s older h r.1) r.0

  starts_sound : (clock : ℕ) (stages : ℕ → Stage) → IsClock clock stages → Sound home (start clock stages).page
  starts_sound clock stages c = let a = c.0 in grind arith

  starts_fits : (clock : ℕ) (stages : ℕ → Stage) → IsClock clock stages → (q : ℕ) → Fits home first top (start clock stages).page q ((start clock stages).processors q)
  starts_fits clock stages c q = let a = c.1 q in record { maps = grind arith; owes = grind arith; releases = grind arith }

  pub starts : (clock : ℕ) (stages : ℕ → Stage) → IsClock clock stages → Holds (start clock stages)
  starts clock stages c = record { sound = starts_sound clock stages c; each = starts_fits clock stages c }

  signal_at : (g : Page) (q t : ℕ) (x : Processor) → Fits home first top g q (record x { stage = Releasing t }) → x.dirty ≡ false → (x.debt ≡ told) ⊎ ((g.sole ≡ true) × (x.debt ≢ owed))
  signal_at g q t x f e = let a = f.owes.untold in let b = f.owes.owed_away in let c = f.owes.most in grind arith

  drop_at : (g : Page) (q p j : ℕ) (x : Processor) → Fits home first top (record g { work = Posted p true j }) q x → top ≤ j → x.debt ≢ owed
  drop_at g q p j x f e = let a = f.owes.drop in let b = f.maps.of_node in let c = f.maps.read in grind arith

  owed_at : (g : Page) (q : ℕ) (x : Processor) → Owes home g.sole g.twin g.work x → x.debt ≡ owed → (home ≡ false) × ((g.twin ≡ true) ⊎ ((is_broken g.work ≡ true) × (x.seen ≡ false))) × IsDue x
  owed_at g q x o e = ((o.owed_away e).0, go (o.owed_twin e), (o.owed_away e).1)
    where
      go : (g.twin ≡ true) ⊎ (is_broken g.work ≡ true) → (g.twin ≡ true) ⊎ ((is_broken g.work ≡ true) × (x.seen ≡ false))
      go (inl a) = inl a
      go (inr a) = inr (a, o.owed_break e a)

  -- what the word law takes
  pub may_signal : (s : State) → Holds s → (q : ℕ) → May home first top s (Signal q) → ((s.processors q).debt ≡ told) ⊎ ((s.page.sole ≡ true) × ((s.processors q).debt ≢ owed))
  may_signal s h q m = signal_at s.page q m.0 (s.processors q) (at_stage (λ x. (s.processors q).stage ≡ x.stage → Fits home first top s.page q x) (record (s.processors q) { stage = Releasing m.0 }) (s.processors q).stage (sym m.1) (λ e. h.each q) m.1) m.2

  pub may_drop : (s : State) → Holds s → May home first top s Drop → (q : ℕ) → (s.processors q).debt ≢ owed
  may_drop s h m q = drop_at s.page q m.0 m.1 (s.processors q) (subst (λ w. Fits home first top (record s.page { work = w }) q (s.processors q)) m.2 (h.each q)) m.3

abbrev Behind : Type 0
Behind =
    (home : Bool) (first top clock : ℕ) (stages : ℕ → Stage) (es : List Event)
    → IsClock clock stages → Runs home first top (start clock stages) es → Holds home first top (after home first (start clock stages) es)

behind : Behind
behind home first top clock stages es c r = goes_on home first top (start clock stages) es (starts home first top clock stages c) r

pub signals : Signals
signals home first top clock stages es c r q m =
    may_signal home first top (after home first (start clock stages) es) (behind home first top clock stages es c r) q m

pub drops : Drops
drops home first top clock stages es c r m q =
    may_drop home first top (after home first (start clock stages) es) (behind home first top clock stages es c r) m q

pub exclusive_is : Exclusive
exclusive_is home first top clock stages es c r q e = ((behind home first top clock stages es c r).each q).owes.exclusive_is e

pub owed_is : Owed
owed_is home first top clock stages es c r q e =
    let s = after home first (start clock stages) es in
    owed_at home first top s.page q (s.processors q) ((behind home first top clock stages es c r).each q).owes e

one_of : (d : ℕ) → d ≤ told → (d ≡ exclusive) ⊎ (d ≡ owed) ⊎ (d ≡ covered) ⊎ (d ≡ ended) ⊎ (d ≡ told)
one_of d e = grind arith

pub standing : Standing
standing home first top clock stages es c r q =
    one_of ((after home first (start clock stages) es).processors q).debt ((behind home first top clock stages es c r).each q).owes.most

pub untold : Untold
untold home first top clock stages es c r q e = ((behind home first top clock stages es c r).each q).owes.untold e
