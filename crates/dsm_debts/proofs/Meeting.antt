-- The debts of both laws are the same.
use Rattle.std.proofs.Common.{◌≡◌, ◌≢◌, ℕ, ◌⊎◌, Bool, true, false, Option, Some, [], refl, sym, ap, ◌∙◌, subst, inl, inr, arith, if◌then◌else◌, ◌==◌}
use Rattle.std.specs.Prelude.{◌||◌}
use Rattle.std.proofs.lemmas.Bool.{cases_eq, eq-eqb, ne_eqb}
use Rattle.dsm_copies.specs.Modes.{Mode, Bare, is_exclusive, op_mode, outdated, touched, store_progress, next, exclusive, owed, covered, ended}
use Rattle.dsm_copies.specs.Copies as W
use Rattle.dsm_copies.specs.Debts.{Debts, owes, op_debt, op_seen, store_debt as word_debt}
use Rattle.dsm_copies.specs.Debts.{debts_after}
use Rattle.dsm_debts.specs.Page.{Before, Loaded, Differs, Sending, After, Work, Idle, Ready, Flushing, Posting, Posted, Marking, Copying, Copied, Running, Drawn, Releasing, opened, worker, State, Processor, Page, store_debt, Event, Tick, Store, Open, Take, Signal, Keep, Early, Map_exclusive, Map_write, Unmap, Make, Enter, Draw, Begin, Load, Same, Differ, Refresh, Send, Stamp, Stamp_bare, Tell, Lower, Look, Drop, Finish, Break, Mark, Pass_by, Copy, Raise, End, End_home, after_event}
use Rattle.dsm_debts.specs.Premises.{IsPart, IsFlushPart, IsRefreshing, May}
use Rattle.dsm_copies.specs.Joining.{onto}
use Rattle.dsm_debts.specs.Joining.{Track, Quiet, Alone, In_break, mode_track, resting, page_track, enters, word_event, Agrees}
use Rattle.dsm_debts.proofs.Facts.{Sound, Owes}
use Rattle.dsm_debts.proofs.Keeps.{Holds, choose}
use Rattle.dsm_debts.proofs.Tracks.{load_track, load_debt, same_track, same_debt, differ_track, differ_debt, refresh_track, refresh_debt, send_track, send_debt, stamp_track, stamp_debt, tell_track, tell_debt, finish_track, finish_debt, load_break_track, load_break_debt, refresh_break_track, refresh_break_debt, send_break_track, send_break_debt, end_track, end_debt, enter_track, enter_debt}

-- the node is exclusive where the word law says so
abbrev track_progress : Track → ℕ
track_progress Alone = exclusive
track_progress (In_break Before) = exclusive
track_progress _ = owed

progress_track : (x : Mode) → store_progress x ≡ track_progress (mode_track x)
progress_track Bare = refl
progress_track x = refl

touched_track : (x : Mode) → mode_track (touched x) ≡ mode_track x
touched_track Bare = refl
touched_track x = refl

pub outdated_track : (x : Mode) → mode_track (outdated x) ≡ mode_track x
outdated_track Bare = refl
outdated_track x = refl

page_progress : (first : ℕ) (g : Page) (w : Work) → Sound false (record g { work = w }) → store_debt false first (record g { work = w }) ≡ track_progress (page_track g.sole w)
page_progress first g Idle s = grind arith
page_progress first g (Flushing p t Before) s = grind arith
page_progress first g (Flushing p t Loaded) s = grind arith
page_progress first g (Flushing p t y) s = grind arith
page_progress first g (Copying Before) s = grind arith
page_progress first g (Copying Loaded) s = grind arith
page_progress first g (Copying y) s = grind arith
page_progress first g w s = grind arith

pub exclusive_track : (g : Page) (w : Work) (x : Mode) → Sound false (record g { work = w }) → mode_track x ≡ page_track g.sole w → g.sole ≡ true → is_exclusive x ≡ true
exclusive_track g Idle Bare s e i = grind arith
exclusive_track g Idle x s e i = grind arith
exclusive_track g w x s e i = grind arith

enters_track : (x : Mode) → enters x ≡ true → mode_track x ≡ Quiet
enters_track Bare e = grind arith
enters_track x e = grind arith

module _ (place : ℕ → Option ℕ) (n : ℕ) where
  pub record Matches (s : W.State) (d : Debts) (x : State) : Type 0 where
    pub debt : (q : ℕ) → place q ≡ Some n → (x.processors q).debt ≡ d.debt q
    pub seen : (q : ℕ) → place q ≡ Some n → (x.processors q).seen ≡ d.seen q
    pub track : mode_track (s.nodes n).mode ≡ page_track x.page.sole x.page.work

  is_here : (q : ℕ) → place q ≡ Some n → W.is_at (place q) n ≡ true
  is_here q e = rw e (eq-eqb n n refl)

  -- one operation of the word law
  pub op_joins : (s : W.State) (d : Debts) (x : State) → mode_track (op_mode s.master s.progress (s.nodes n).frame (s.nodes n).twin (s.nodes n).mode) ≡ page_track x.page.sole x.page.work → ((q : ℕ) → place q ≡ Some n → ((x.processors q).debt ≡ op_debt (s.nodes n).twin (d.debt q) (d.seen q) (s.nodes n).mode) × ((x.processors q).seen ≡ op_seen (s.nodes n).twin (d.seen q) (s.nodes n).mode)) → Matches (W.after_event place s (W.Op n)) (owes place s (W.Op n) d) x
  op_joins s d x tr each = record { debt = λ q e. rw (is_here q e) (each q e).0; seen = λ q e. rw (is_here q e) (each q e).1; track = rw (eq-eqb n n refl) tr }

  -- no operation of the word law
  stays : (s : W.State) (d : Debts) (x y : State) → Matches s d x → page_track x.page.sole x.page.work ≡ page_track y.page.sole y.page.work → ((q : ℕ) → place q ≡ Some n → ((y.processors q).debt ≡ (x.processors q).debt) × ((y.processors q).seen ≡ (x.processors q).seen)) → Matches s d y
  stays s d x y k tr each = record { debt = λ q e. (each q e).0 ∙ k.debt q e; seen = λ q e. (each q e).1 ∙ k.seen q e; track = k.track ∙ tr }

  -- the node's mode is another
  changes : (s : W.State) (d : Debts) (x y : State) (z : W.Node) → Matches s d x → mode_track z.mode ≡ page_track y.page.sole y.page.work → ((q : ℕ) → place q ≡ Some n → ((y.processors q).debt ≡ (x.processors q).debt) × ((y.processors q).seen ≡ (x.processors q).seen)) → Matches (record s { nodes = W.put s.nodes n z }) d y
  changes s d x y z k tr each = record { debt = λ q e. (each q e).0 ∙ k.debt q e; seen = λ q e. (each q e).1 ∙ k.seen q e; track = rw (eq-eqb n n refl) tr }

  same_if : (a y : Processor) (q p : ℕ) → a.debt ≡ y.debt → a.seen ≡ y.seen → ((if q == p then a else y).debt ≡ y.debt) × ((if q == p then a else y).seen ≡ y.seen)
  same_if a y q p e i = choose (λ z. (z.debt ≡ y.debt) × (z.seen ≡ y.seen)) q p a y (λ _. (e, i)) (λ _. (refl, refl))

  by_work : (P : State → Type 0) (x : State) (w : Work) → x.page.work ≡ w → P (record x { page = record x.page { work = w } }) → P x
  by_work P x w e h = subst (λ z. P (record x { page = record x.page { work = z } })) (sym e) h

  module _ (first top : ℕ) where
    abbrev pub Joins : W.State → Debts → ℕ → Event → State → Type 0
    Joins s d v e x = Holds false first top x → Matches s d x → Matches (W.after place s (onto (word_event n x.page.work v e) [])) (debts_after place s d (onto (word_event n x.page.work v e) [])) (after_event false first x e)

    joins_load : (s : W.State) (d : Debts) (v : ℕ) (x : State) → May false first top x Load → Agrees place n s Load → Joins s d v Load x
    joins_load s d v x m a = go x.page.work refl m
      where
        go : (w : Work) → x.page.work ≡ w → IsPart Before w → Joins s d v Load x
        go (Flushing p t y) e i = by_work (Joins s d v Load) x (Flushing p t Before) (e ∙ ap (λ z. Flushing p t z) i) (λ h k. op_joins s d (after_event false first (record x { page = record x.page { work = (Flushing p t Before) } }) Load) (load_track s.master s.progress (s.nodes n).frame (s.nodes n).twin (s.nodes n).mode k.track) (λ q e. load_debt (s.nodes n).twin (x.processors q).debt (d.debt q) (x.processors q).seen (d.seen q) (s.nodes n).mode k.track (k.debt q e) (k.seen q e)))
        go (Copying y) e i = by_work (Joins s d v Load) x (Copying Before) (e ∙ ap (λ z. Copying z) i) (λ h k. op_joins s d (after_event false first (record x { page = record x.page { work = (Copying Before) } }) Load) (load_break_track s.master s.progress (s.nodes n).frame (s.nodes n).twin (s.nodes n).mode k.track) (λ q e. load_break_debt (s.nodes n).twin (x.processors q).debt (d.debt q) (x.processors q).seen (d.seen q) (s.nodes n).mode k.track (k.debt q e) (k.seen q e)))
        go w e i = absurd i

    joins_same : (s : W.State) (d : Debts) (v : ℕ) (x : State) → May false first top x Same → Agrees place n s Same → Joins s d v Same x
    joins_same s d v x m a = go x.page.work refl m
      where
        go : (w : Work) → x.page.work ≡ w → IsFlushPart Loaded w → Joins s d v Same x
        go (Flushing p t y) e i = by_work (Joins s d v Same) x (Flushing p t Loaded) (e ∙ ap (λ z. Flushing p t z) i) (λ h k. op_joins s d (after_event false first (record x { page = record x.page { work = (Flushing p t Loaded) } }) Same) (same_track s.master s.progress (s.nodes n).frame (s.nodes n).twin (s.nodes n).mode k.track a) (λ q e. same_debt (s.nodes n).twin (x.processors q).debt (d.debt q) (x.processors q).seen (d.seen q) (s.nodes n).mode k.track a (k.debt q e) (k.seen q e)))
        go w e i = absurd i

    joins_differ : (s : W.State) (d : Debts) (v : ℕ) (x : State) → May false first top x Differ → Agrees place n s Differ → Joins s d v Differ x
    joins_differ s d v x m a = go x.page.work refl m
      where
        go : (w : Work) → x.page.work ≡ w → IsFlushPart Loaded w → Joins s d v Differ x
        go (Flushing p t y) e i = by_work (Joins s d v Differ) x (Flushing p t Loaded) (e ∙ ap (λ z. Flushing p t z) i) (λ h k. op_joins s d (after_event false first (record x { page = record x.page { work = (Flushing p t Loaded) } }) Differ) (differ_track s.master s.progress (s.nodes n).frame (s.nodes n).twin (s.nodes n).mode k.track a) (λ q e. differ_debt (s.nodes n).twin (x.processors q).debt (d.debt q) (x.processors q).seen (d.seen q) (s.nodes n).mode k.track a (k.debt q e) (k.seen q e)))
        go w e i = absurd i

    joins_refresh : (s : W.State) (d : Debts) (v : ℕ) (x : State) → May false first top x Refresh → Agrees place n s Refresh → Joins s d v Refresh x
    joins_refresh s d v x m a = go x.page.work refl m
      where
        go : (w : Work) → x.page.work ≡ w → IsRefreshing w → Joins s d v Refresh x
        go (Flushing p t y) e i = by_work (Joins s d v Refresh) x (Flushing p t Differs) (e ∙ ap (λ z. Flushing p t z) i) (λ h k. op_joins s d (after_event false first (record x { page = record x.page { work = (Flushing p t Differs) } }) Refresh) (refresh_track s.master s.progress (s.nodes n).frame (s.nodes n).twin (s.nodes n).mode k.track) (λ q e. refresh_debt (s.nodes n).twin (x.processors q).debt (d.debt q) (x.processors q).seen (d.seen q) (s.nodes n).mode k.track (k.debt q e) (k.seen q e)))
        go (Copying y) e i = by_work (Joins s d v Refresh) x (Copying Loaded) (e ∙ ap (λ z. Copying z) i) (λ h k. op_joins s d (after_event false first (record x { page = record x.page { work = (Copying Loaded) } }) Refresh) (refresh_break_track s.master s.progress (s.nodes n).frame (s.nodes n).twin (s.nodes n).mode k.track) (λ q e. refresh_break_debt (s.nodes n).twin (x.processors q).debt (d.debt q) (x.processors q).seen (d.seen q) (s.nodes n).mode k.track (k.debt q e) (k.seen q e)))
        go w e i = absurd i

    joins_send : (s : W.State) (d : Debts) (v : ℕ) (x : State) → May false first top x Send → Agrees place n s Send → Joins s d v Send x
    joins_send s d v x m a = go x.page.work refl m
      where
        go : (w : Work) → x.page.work ≡ w → IsPart Sending w → Joins s d v Send x
        go (Flushing p t y) e i = by_work (Joins s d v Send) x (Flushing p t Sending) (e ∙ ap (λ z. Flushing p t z) i) (λ h k. op_joins s d (after_event false first (record x { page = record x.page { work = (Flushing p t Sending) } }) Send) (send_track s.master s.progress (s.nodes n).frame (s.nodes n).twin (s.nodes n).mode k.track) (λ q e. send_debt (s.nodes n).twin (x.processors q).debt (d.debt q) (x.processors q).seen (d.seen q) (s.nodes n).mode k.track (k.debt q e) (k.seen q e)))
        go (Copying y) e i = by_work (Joins s d v Send) x (Copying Sending) (e ∙ ap (λ z. Copying z) i) (λ h k. op_joins s d (after_event false first (record x { page = record x.page { work = (Copying Sending) } }) Send) (send_break_track s.master s.progress (s.nodes n).frame (s.nodes n).twin (s.nodes n).mode k.track) (λ q e. send_break_debt (s.nodes n).twin (x.processors q).debt (d.debt q) (x.processors q).seen (d.seen q) (s.nodes n).mode k.track (k.debt q e) (k.seen q e)))
        go w e i = absurd i

    joins_stamp : (s : W.State) (d : Debts) (v : ℕ) (x : State) → May false first top x Stamp → Agrees place n s Stamp → Joins s d v Stamp x
    joins_stamp s d v x m a = go x.page.work refl m
      where
        go : (w : Work) → x.page.work ≡ w → IsFlushPart After w → Joins s d v Stamp x
        go (Flushing p t y) e i = by_work (Joins s d v Stamp) x (Flushing p t After) (e ∙ ap (λ z. Flushing p t z) i) (λ h k. op_joins s d (after_event false first (record x { page = record x.page { work = (Flushing p t After) } }) Stamp) (stamp_track s.master s.progress (s.nodes n).frame (s.nodes n).twin (s.nodes n).mode k.track) (λ q e. stamp_debt (s.nodes n).twin (x.processors q).debt (d.debt q) (x.processors q).seen (d.seen q) (s.nodes n).mode k.track (k.debt q e) (k.seen q e)))
        go w e i = absurd i

    joins_store : (s : W.State) (d : Debts) (v p : ℕ) (x : State) → place p ≡ Some n → Joins s d v (Store p) x
    joins_store s d v p x a h k = subst (λ w. Matches (W.store_at s p w v) (record { debt = W.put d.debt p (word_debt s w); seen = W.put d.seen p false }) (after_event false first x (Store p))) (sym a) here
      where
        progress : store_debt false first x.page ≡ store_progress (s.nodes n).mode
        progress = page_progress first x.page x.page.work h.sound ∙ (ap (λ z. track_progress z) (sym k.track) ∙ sym (progress_track (s.nodes n).mode))

        debts : (q : ℕ) → place q ≡ Some n → (q ≡ p) ⊎ (q ≢ p) → ((if q == p then record (x.processors q) { debt = store_debt false first x.page; seen = false } else x.processors q).debt ≡ W.put d.debt p (store_progress (s.nodes n).mode) q) × ((if q == p then record (x.processors q) { debt = store_debt false first x.page; seen = false } else x.processors q).seen ≡ W.put d.seen p false q)
        debts q e (inl i) = rw (eq-eqb q p i) (progress, refl)
        debts q e (inr ne) = rw (ne_eqb q p ne) (k.debt q e, k.seen q e)

        here : Matches (W.store_at s p (Some n) v) (record { debt = W.put d.debt p (word_debt s (Some n)); seen = W.put d.seen p false }) (after_event false first x (Store p))
        here = record { debt = λ q e. (debts q e (cases_eq q p)).0; seen = λ q e. (debts q e (cases_eq q p)).1; track = rw (eq-eqb n n refl) (touched_track (s.nodes n).mode ∙ k.track) }

    -- the node of a flush is not exclusive
    not_sole : (g : Page) (p j : ℕ) → Sound false (record g { work = Posted p true j }) → g.sole ≡ false
    not_sole g p j s = let a = s.flush_twin in let b = s.sole_bare in grind arith

    no_covered : (sole twin : Bool) (p t : ℕ) (y : Processor) → Owes false sole twin (Ready p t) y → next true covered y.debt ≡ y.debt
    no_covered sole twin p t y o = let a = o.covered_is in grind arith

    no_ended : (sole twin : Bool) (p : ℕ) (y : Processor) → Owes false sole twin (Posting p false) y → next true ended y.debt ≡ y.debt
    no_ended sole twin p y o = let a = o.ended_is in grind arith

    joins_tell : (s : W.State) (d : Debts) (v : ℕ) (x : State) → May false first top x Tell → Joins s d v Tell x
    joins_tell s d v x m = go m.1 m.2
      where
        go : (b : Bool) → x.page.work ≡ Posting m.0 b → Joins s d v Tell x
        go true e = by_work (Joins s d v Tell) x (Posting m.0 true) e (λ h k. op_joins s d (after_event false first (record x { page = record x.page { work = Posting m.0 true } }) Tell) (tell_track s.master s.progress (s.nodes n).frame (s.nodes n).twin (s.nodes n).mode k.track) (λ q e. tell_debt (s.nodes n).twin (x.processors q).debt (d.debt q) (x.processors q).seen (d.seen q) (s.nodes n).mode k.track (k.debt q e) (k.seen q e)))
        go false e = by_work (Joins s d v Tell) x (Posting m.0 false) e (λ h k. stays s d (record x { page = record x.page { work = Posting m.0 false } }) (after_event false first (record x { page = record x.page { work = Posting m.0 false } }) Tell) k refl (λ q i. (no_ended x.page.sole x.page.twin m.0 (x.processors q) (h.each q).owes, refl)))

    joins_finish : (s : W.State) (d : Debts) (v : ℕ) (x : State) → May false first top x Finish → Joins s d v Finish x
    joins_finish s d v x m = go m.1 m.3
      where
        go : (b : Bool) → x.page.work ≡ Posted m.0 b m.2 → Joins s d v Finish x
        go true e = by_work (Joins s d v Finish) x (Posted m.0 true m.2) e (λ h k. let z = not_sole x.page m.0 m.2 h.sound in
            op_joins s d (after_event false first (record x { page = record x.page { work = Posted m.0 true m.2 } }) Finish)
            (finish_track s.master s.progress (s.nodes n).frame (s.nodes n).twin (s.nodes n).mode k.track ∙ sym (ap (λ b. resting b) z))
            (λ q e. let y = finish_debt (s.nodes n).twin (x.processors q).debt (d.debt q) (x.processors q).seen (d.seen q) (s.nodes n).mode k.track (k.debt q e) (k.seen q e) in
            let i = same_if (record (x.processors q) { dirty = false }) (x.processors q) q m.0 refl refl in (i.0 ∙ y.0, i.1 ∙ y.1)))
        go false e = by_work (Joins s d v Finish) x (Posted m.0 false m.2) e (λ h k. stays s d (record x { page = record x.page { work = Posted m.0 false m.2 } }) (after_event false first (record x { page = record x.page { work = Posted m.0 false m.2 } }) Finish) k refl (λ q i. same_if (record (x.processors q) { dirty = false }) (x.processors q) q m.0 refl refl))

    joins_look : (s : W.State) (d : Debts) (v : ℕ) (x : State) → May false first top x Look → Joins s d v Look x
    joins_look s d v x m = by_work (Joins s d v Look) x (Posted m.0 m.1 m.2) m.3 (λ h k. stays s d (record x { page = record x.page { work = Posted m.0 m.1 m.2 } }) (after_event false first (record x { page = record x.page { work = Posted m.0 m.1 m.2 } }) Look) k refl (λ q i. (refl, refl)))

    joins_lower : (s : W.State) (d : Debts) (v : ℕ) (x : State) → May false first top x Lower → Joins s d v Lower x
    joins_lower s d v x m h k = stays s d x (after_event false first x Lower) k refl (λ q i. same_if (record (x.processors q) { writes = false }) (x.processors q) q (worker x.page.work) refl refl)

    joins_stamp_bare : (s : W.State) (d : Debts) (v : ℕ) (x : State) → May false first top x Stamp_bare → Joins s d v Stamp_bare x
    joins_stamp_bare s d v x m = by_work (Joins s d v Stamp_bare) x (Ready m.0 m.1) m.2 (λ h k. stays s d (record x { page = record x.page { work = Ready m.0 m.1 } }) (after_event false first (record x { page = record x.page { work = Ready m.0 m.1 } }) Stamp_bare) k refl (λ q i. (no_covered x.page.sole x.page.twin m.0 m.1 (x.processors q) (h.each q).owes, refl)))

    joins_drop : (s : W.State) (d : Debts) (v : ℕ) (x : State) → May false first top x Drop → Joins s d v Drop x
    joins_drop s d v x m = by_work (Joins s d v Drop) x (Posted m.0 true m.1) m.2 (λ h k. changes s d (record x { page = record x.page { work = Posted m.0 true m.1 } }) (after_event false first (record x { page = record x.page { work = Posted m.0 true m.1 } }) Drop) (record (s.nodes n) { mode = Bare }) k (sym (ap (λ b. resting b) (not_sole x.page m.0 m.1 h.sound))) (λ q i. (refl, refl)))

    joins_begin : (s : W.State) (d : Debts) (v : ℕ) (x : State) → May false first top x Begin → Joins s d v Begin x
    joins_begin s d v x m = by_work (Joins s d v Begin) x (Ready m.0 m.1) m.2 (λ h k. changes s d (record x { page = record x.page { work = Ready m.0 m.1 } }) (after_event false first (record x { page = record x.page { work = Ready m.0 m.1 } }) Begin) (record (s.nodes n) { mode = W.begun s.progress W.Flush }) k refl (λ q i. (refl, refl)))

    joins_break : (s : W.State) (d : Debts) (v : ℕ) (x : State) → Joins s d v Break x
    joins_break s d v x h k = changes s d x (after_event false first x Break) (record (s.nodes n) { mode = W.begun s.progress W.Break }) k refl (λ q i. (refl, refl))

    joins_end : (s : W.State) (d : Debts) (v : ℕ) (x : State) → May false first top x End → Joins s d v End x
    joins_end s d v x m = by_work (Joins s d v End) x Copied m (λ h k. op_joins s d (after_event false first (record x { page = record x.page { work = Copied } }) End) (end_track s.master s.progress (s.nodes n).frame (s.nodes n).twin (s.nodes n).mode k.track) (λ q e. end_debt (s.nodes n).twin (x.processors q).debt (d.debt q) (x.processors q).seen (d.seen q) (s.nodes n).mode k.track (k.debt q e) (k.seen q e)))

    joins_enter : (s : W.State) (d : Debts) (v : ℕ) (x : State) → May false first top x Enter → Agrees place n s Enter → Joins s d v Enter x
    joins_enter s d v x m a = by_work (Joins s d v Enter) x Idle m.0 (λ h k. let quiet = enters_track (s.nodes n).mode a in
        op_joins s d (after_event false first (record x { page = record x.page { work = Idle } }) Enter) (enter_track s.master s.progress (s.nodes n).frame (s.nodes n).twin (s.nodes n).mode quiet a) (λ q e. enter_debt (s.nodes n).twin (x.processors q).debt (d.debt q) (x.processors q).seen (d.seen q) (s.nodes n).mode quiet a (k.debt q e) (k.seen q e)))

    joins_draw : (s : W.State) (d : Debts) (v p : ℕ) (x : State) → May false first top x (Draw p) → Joins s d v (Draw p) x
    joins_draw s d v p x m = by_work (Joins s d v (Draw p)) x Idle m.3 (λ h k. stays s d (record x { page = record x.page { work = Idle } }) (after_event false first (record x { page = record x.page { work = Idle } }) (Draw p)) k refl (λ q i. (refl, refl)))

    joins_mark : (s : W.State) (d : Debts) (v : ℕ) (x : State) → May false first top x Mark → Joins s d v Mark x
    joins_mark s d v x m = by_work (Joins s d v Mark) x (Marking m.0) m.1 (λ h k. stays s d (record x { page = record x.page { work = Marking m.0 } }) (after_event false first (record x { page = record x.page { work = Marking m.0 } }) Mark) k refl (λ q i. same_if (record (x.processors q) { bit = true }) (x.processors q) q m.0 refl refl))

    joins_pass_by : (s : W.State) (d : Debts) (v : ℕ) (x : State) → May false first top x Pass_by → Joins s d v Pass_by x
    joins_pass_by s d v x m = by_work (Joins s d v Pass_by) x (Marking m.0) m.1 (λ h k. stays s d (record x { page = record x.page { work = Marking m.0 } }) (after_event false first (record x { page = record x.page { work = Marking m.0 } }) Pass_by) k refl (λ q i. (refl, refl)))

    joins_copy : (s : W.State) (d : Debts) (v : ℕ) (x : State) → May false first top x Copy → Joins s d v Copy x
    joins_copy s d v x m = by_work (Joins s d v Copy) x (Marking m.0) m.1 (λ h k. stays s d (record x { page = record x.page { work = Marking m.0 } }) (after_event false first (record x { page = record x.page { work = Marking m.0 } }) Copy) k refl (λ q i. (refl, refl)))

    joins_raise : (s : W.State) (d : Debts) (v : ℕ) (x : State) → May false first top x Raise → Joins s d v Raise x
    joins_raise s d v x m = by_work (Joins s d v Raise) x (Copying After) m (λ h k. stays s d (record x { page = record x.page { work = Copying After } }) (after_event false first (record x { page = record x.page { work = Copying After } }) Raise) k refl (λ q i. (refl, refl)))

    pub joins : (s : W.State) (d : Debts) (v : ℕ) (x : State) (e : Event) → May false first top x e → Agrees place n s e → Joins s d v e x
    joins s d v x Tick m a h k = stays s d x (after_event false first x Tick) k refl (λ q e. (refl, refl))
    joins s d v x Make m a h k = stays s d x (after_event false first x Make) k refl (λ q e. (refl, refl))
    joins s d v x (Store p) m a h k = joins_store s d v p x a h k
    joins s d v x (Signal p) m a h k = let i = stays s d x (after_event false first x (Signal p)) k refl (λ q e. same_if (record (x.processors q) { stage = Running }) (x.processors q) q p refl refl) in record { debt = i.debt; seen = i.seen; track = i.track }
    joins s d v x (Open p) m a h k = stays s d x (after_event false first x (Open p)) k refl (λ q e. same_if (record (x.processors q) { stage = Drawn x.page.clock }) (x.processors q) q p refl refl)
    joins s d v x (Take p) m a h k = stays s d x (after_event false first x (Take p)) k refl (λ q e. same_if (record (x.processors q) { dirty = (x.processors q).dirty || (x.processors q).bit; bit = false; stage = Releasing (opened (x.processors q).stage) }) (x.processors q) q p refl refl)
    joins s d v x (Keep p) m a h k = stays s d x (after_event false first x (Keep p)) k refl (λ q e. same_if (record (x.processors q) { dirty = false }) (x.processors q) q p refl refl)
    joins s d v x (Early p) m a h k = stays s d x (after_event false first x (Early p)) k refl (λ q e. same_if (record (x.processors q) { dirty = false }) (x.processors q) q p refl refl)
    joins s d v x (Map_exclusive p) m a h k = stays s d x (after_event false first x (Map_exclusive p)) k refl (λ q e. same_if (record (x.processors q) { writes = true }) (x.processors q) q p refl refl)
    joins s d v x (Map_write p) m a h k = stays s d x (after_event false first x (Map_write p)) k refl (λ q e. same_if (record (x.processors q) { writes = true; dirty = true }) (x.processors q) q p refl refl)
    joins s d v x (Unmap p) m a h k = stays s d x (after_event false first x (Unmap p)) k refl (λ q e. same_if (record (x.processors q) { writes = false }) (x.processors q) q p refl refl)
    joins s d v x (Draw p) m a h k = joins_draw s d v p x m h k
    joins s d v x Load m a h k = joins_load s d v x m a h k
    joins s d v x Same m a h k = joins_same s d v x m a h k
    joins s d v x Differ m a h k = joins_differ s d v x m a h k
    joins s d v x Refresh m a h k = joins_refresh s d v x m a h k
    joins s d v x Send m a h k = joins_send s d v x m a h k
    joins s d v x Stamp m a h k = joins_stamp s d v x m a h k
    joins s d v x Stamp_bare m a h k = joins_stamp_bare s d v x m h k
    joins s d v x Tell m a h k = joins_tell s d v x m h k
    joins s d v x Lower m a h k = joins_lower s d v x m h k
    joins s d v x Look m a h k = joins_look s d v x m h k
    joins s d v x Drop m a h k = joins_drop s d v x m h k
    joins s d v x Finish m a h k = joins_finish s d v x m h k
    joins s d v x Begin m a h k = joins_begin s d v x m h k
    joins s d v x Break m a h k = joins_break s d v x h k
    joins s d v x Mark m a h k = joins_mark s d v x m h k
    joins s d v x Pass_by m a h k = joins_pass_by s d v x m h k
    joins s d v x Copy m a h k = joins_copy s d v x m h k
    joins s d v x Raise m a h k = joins_raise s d v x m h k
    joins s d v x End m a h k = joins_end s d v x m h k
    joins s d v x End_home m a h k = let i : false ≡ true = m.3 in absurd (cc i)
    joins s d v x Enter m a h k = joins_enter s d v x m a h k
