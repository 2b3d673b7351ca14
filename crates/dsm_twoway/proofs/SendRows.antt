-- Rows of a page of a release that are nothing to the copies: its place is looked up, its notices posted, its mapping lowered.
use Rattle.std.proofs.Common.{◌≡◌, ◌⊎◌, inl, inr, ℕ, ◌+◌, ◌*◌, ◌<◌, ◌≤◌, ◌==◌, Bool, true, false, List, [], Option, None, Some, refl, sym, ap, ◌∙◌, arith, if◌then◌else◌}
use Rattle.std.specs.Prelude.{map, ◌&&◌, ◌||◌, not, nat_lt}
use Rattle.dsm_words.specs.declared.item.Item.TheVariants.{Dir, Map, Flush, Clock}
use Rattle.dsm_words.specs.Script.{Get, Put, Add}
use Rattle.dsm_words.specs.Words.{done}
use Rattle.dsm_protocol.specs.Own.{Own, node_of}
use Rattle.dsm_protocol.specs.Steps.{wanted}
use Rattle.dsm_protocol.specs.Stages.{For_release, Whole, Stage, Mapped, Seeking, Parting, Setting, Soiling, Giving, Released, Checking, Drawing, Timed, Flushing, Stamping, Stamped, Posting, Posted, Telling, Lowering, Dropping, Untwining, Done, Emptying, Round, Releasing, On, lowered}
use Rattle.dsm_protocol.specs.Rows.{map_at, sets, sees_release, lasts, draws_send, reads_dir, posts, lowers, drops, flushed_all, unsent, posted, unlowered, dropped, maps, soils, sent}
use Rattle.dsm_copies.specs.Modes.{Mode, Flush_load, Flush_end, Flush_over}
use Rattle.dsm_fresh.specs.Pages as S
use Rattle.dsm_debts.specs.Page as P
use Rattle.dsm_debts.specs.Joining.{Move, At, has_flushed}
use Rattle.dsm_releases.specs.Events as R
use Rattle.dsm_freshness.specs.Events as FE
use Rattle.dsm_twoway.specs.Views.{mode_view, block}
use Rattle.dsm_twoway.specs.Events.{place_of}
use Rattle.dsm_twoway.proofs.Numbers.{AllQuiet, step_quiet}
use Rattle.dsm_twoway.proofs.Scene.{Scene, pages_left, RowActs, SlipActs, NoteActs, Acted, Meets, Here}
use Rattle.dsm_twoway.proofs.Frame.{is_silent, AllSilent}
use Rattle.dsm_twoway.proofs.Calm.{silent_pick, flushed_left, works_here, Same, calm_row, calm_here}

-- such events are nothing to the copies
map_silent : (k : Option ℕ) (p : ℕ) (write alone : Bool) → is_silent k (if write then (if alone then P.Map_exclusive p else P.Map_write p) else P.Unmap p) ≡ true
map_silent None p true true = refl
map_silent None p true false = refl
map_silent None p false alone = refl
map_silent (Some n) p true true = refl
map_silent (Some n) p true false = refl
map_silent (Some n) p false alone = refl

draw_silent : (k : Option ℕ) (p : ℕ) (d : Bool) → is_silent k (if d then P.Draw p else P.Tick) ≡ true
draw_silent None p true = refl
draw_silent None p false = refl
draw_silent (Some n) p true = refl
draw_silent (Some n) p false = refl

look_silent : (k : Option ℕ) → is_silent k P.Look ≡ true
look_silent None = refl
look_silent (Some n) = refl

lower_silent : (k : Option ℕ) (p : ℕ) (w : P.Work) → is_silent k (R.lower_event p w) ≡ true
lower_silent None p (P.Posted q b j) = refl
lower_silent None p w = refl
lower_silent (Some n) p (P.Posted q b j) = refl
lower_silent (Some n) p w = refl

-- and leave the work as it is
lower_keeps : (p : ℕ) (w : P.Work) (home : Bool) (first : ℕ) (g : P.Page) → has_flushed (P.page_after home first g (R.lower_event p w)).work ≡ has_flushed g.work
lower_keeps p (P.Posted q b j) home first g = refl
lower_keeps p w home first g = refl

-- the own node's last flush still has its twin
abbrev flush_now : Scene → Bool
flush_now s = has_flushed (s.pages (Some (node_of s.u))).page.work

module _ (s : Scene) (o : Own) where
  -- the mapping is stored
  pub row_sets : {r : Round} {g x : ℕ} {write alone : Bool} → RowActs s o (sets {r = r} {g = g} {x = x} {write = write} {alone = alone})
  row_sets {r} {g} {x} {write} {alone} f = go (write && not alone)
    where
      es : (m n : ℕ) → List S.Event
      es m n = FE.step_events m n s.g s.u {maps = o.maps} {dirty = o.dirty} (sets {r = r} {g = g} {x = x} {write = write} {alone = alone})

      ms : List Move
      ms = map (At (place_of s.h (node_of s.u)) 0) (R.only (g == s.g && node_of s.u == node_of s.u) (if write then (if alone then P.Map_exclusive s.u.p else P.Map_write s.u.p) else P.Unmap s.u.p))

      go : (d : Bool) → Acted s (On r g (Mapped (wanted write) (if d then Soiling else Giving))) (done s.u.lay s.ws (Put (Map s.u.p g) (wanted write))) es ms
      go true = calm_row s {z = Setting write alone} {t = Mapped (wanted write) Soiling} es ms f (λ i. absurd i) (silent_pick _ _ 0 _ (map_silent (place_of s.h (node_of s.u)) s.u.p write alone)) (λ m n. step_quiet m n s.g s.u {ms = o.maps} {ds = o.dirty} (sets {r = r} {g = g} {x = x} {write = write} {alone = alone}) refl) refl refl refl refl (λ d off rest. refl)
      go false = calm_row s {z = Setting write alone} {t = Mapped (wanted write) Giving} es ms f (λ i. absurd i) (silent_pick _ _ 0 _ (map_silent (place_of s.h (node_of s.u)) s.u.p write alone)) (λ m n. step_quiet m n s.g s.u {ms = o.maps} {ds = o.dirty} (sets {r = r} {g = g} {x = x} {write = write} {alone = alone}) refl) refl refl refl refl (λ d off rest. refl)

  -- the directory is read: an exclusive node has nothing to send
  pub row_sees_release : {r : Round} {g x : ℕ} → RowActs s o (sees_release {r = r} {g = g} {x = x})
  row_sees_release {r} {g} {x} f = go (x == 2)
    where
      go : (d : Bool) → Acted s (On r g (if d then Done else Seeking For_release)) (done s.u.lay s.ws (Get (Dir (node_of s.u) g))) (λ m n. []) []
      go true = calm_row s {z = Released} {t = Done} (λ m n. []) [] f (λ _. refl) tt (λ m n. tt) refl refl refl refl (λ d off rest. ap (λ w. if has_flushed w then Flush_over else rest) (works_here s {z = Released} f.here d off refl))
      go false = calm_row s {z = Released} {t = Seeking For_release} (λ m n. []) [] f (λ _. refl) tt (λ m n. tt) refl refl refl refl (λ d off rest. refl)

  pub row_lasts : {t0 k g h x : ℕ} → RowActs s o (lasts {t0 = t0} {k = k} {g = g} {h = h} {x = x})
  row_lasts {t0} {k} {g} {h} {x} f = go (nat_lt t0 x)
    where
      go : (d : Bool) → Acted s (On (Releasing t0 k) g (if d then Lowering false else Drawing h)) (done s.u.lay s.ws (Get (Flush (node_of s.u) g))) (λ m n. []) []
      go true = calm_row s {z = Checking h} {t = Lowering false} (λ m n. []) [] f (λ i. absurd i) tt (λ m n. tt) refl refl refl refl (λ d off rest. refl)
      go false = calm_row s {z = Checking h} {t = Drawing h} (λ m n. []) [] f (λ i. absurd i) tt (λ m n. tt) refl refl refl refl (λ d off rest. refl)

  pub row_draws_send : {r : Round} {g h x : ℕ} → RowActs s o (draws_send {r = r} {g = g} {h = h} {x = x})
  row_draws_send {r} {g} {h} {x} f = go (node_of s.u == h)
    where
      es : (m n : ℕ) → List S.Event
      es m n = FE.step_events m n s.g s.u {maps = o.maps} {dirty = o.dirty} (draws_send {r = r} {g = g} {h = h} {x = x})

      ms : List Move
      ms = map (At (place_of s.h (node_of s.u)) 0) (R.only (node_of s.u == node_of s.u) (if g == s.g then P.Draw s.u.p else P.Tick))

      quiet : (m n : ℕ) → AllQuiet (es m n)
      quiet m n = step_quiet m n s.g s.u {ms = o.maps} {ds = o.dirty} (draws_send {r = r} {g = g} {h = h} {x = x}) refl

      go : (d : Bool) → Acted s (On r g (if d then Stamping h x false else Timed h x)) (done s.u.lay s.ws (Add (Clock (node_of s.u)) 1)) es ms
      go true = calm_row s {z = Drawing h} {t = Stamping h x false} es ms f (λ i. absurd i) (silent_pick _ _ 0 _ (draw_silent (place_of s.h (node_of s.u)) s.u.p (g == s.g))) quiet refl refl refl refl (λ d off rest. refl)
      go false = calm_row s {z = Drawing h} {t = Timed h x} es ms f (λ i. absurd i) (silent_pick _ _ 0 _ (draw_silent (place_of s.h (node_of s.u)) s.u.p (g == s.g))) quiet refl refl refl refl (λ d off rest. refl)

  -- each other node is passed by, or told
  pub row_reads_dir : {r : Round} {g h j x : ℕ} {flushed : Bool} → RowActs s o (reads_dir {r = r} {g = g} {h = h} {j = j} {x = x} {flushed = flushed})
  row_reads_dir {r} {g} {h} {j} {x} {flushed} f = go (x == 0 || j == node_of s.u || j == h) flushed f
    where
      es : Bool → (m n : ℕ) → List S.Event
      es b m n = FE.step_events m n s.g s.u {maps = o.maps} {dirty = o.dirty} (reads_dir {r = r} {g = g} {h = h} {j = j} {x = x} {flushed = b})

      quiet : (b : Bool) (m n : ℕ) → AllQuiet (es b m n)
      quiet b m n = step_quiet m n s.g s.u {ms = o.maps} {ds = o.dirty} (reads_dir {r = r} {g = g} {h = h} {j = j} {x = x} {flushed = b}) refl

      go : (c b : Bool) → Meets s (On r g (Posting h b j)) o (Get (Dir j g)) x → Acted s (On r g (if c then Posting h b (j + 1) else Telling h b j)) (done s.u.lay s.ws (Get (Dir j g))) (es b) []
      go true true f = calm_row s {z = Posting h true j} {t = Posting h true (j + 1)} (es true) [] f (λ _. refl) tt (quiet true) refl refl refl refl (λ d off rest. refl)
      go true false f = calm_row s {z = Posting h false j} {t = Posting h false (j + 1)} (es false) [] f (λ _. refl) tt (quiet false) refl refl refl refl (λ d off rest. refl)
      go false true f = calm_row s {z = Posting h true j} {t = Telling h true j} (es true) [] f (λ _. refl) tt (quiet true) refl refl refl refl (λ d off rest. refl)
      go false false f = calm_row s {z = Posting h false j} {t = Telling h false j} (es false) [] f (λ _. refl) tt (quiet false) refl refl refl refl (λ d off rest. refl)

  pub row_posts : {r : Round} {g h j x : ℕ} {flushed : Bool} (v : ℕ) (e : (v == 0 || j == node_of s.u || j == h) ≡ false) → RowActs s o (posts {r = r} {g = g} {h = h} {j = j} {x = x} {flushed = flushed} v e)
  row_posts {r} {g} {h} {j} {x} {flushed} v e f = calm_row s {z = Telling h flushed j} {t = Posting h flushed (j + 1)}
      (λ m n. FE.step_events m n s.g s.u {maps = o.maps} {dirty = o.dirty} (posts {r = r} {g = g} {h = h} {j = j} {x = x} {flushed = flushed} v e)) [] f (λ i. absurd i) tt
      (λ m n. step_quiet m n s.g s.u {ms = o.maps} {ds = o.dirty} (posts {r = r} {g = g} {h = h} {j = j} {x = x} {flushed = flushed} v e) refl) refl refl refl refl (λ d off rest. same flushed rest (flush_now s) (flush_now s))
    where
      same : (b : Bool) (rest : Mode) (z z' : Bool) → mode_view s.i rest z (Posting h b (j + 1)) ≡ mode_view s.i rest z' (Telling h b j)
      same true rest z z' = refl
      same false rest z z' = refl

  -- what is open behind the lowering of a mapping
  lowering : {r : Round} {g : ℕ} (b : Bool) (ms : List Move) → Here s (On r g (Lowering b)) o → has_flushed (pages_left s ms (Some (node_of s.u))).page.work ≡ has_flushed (s.pages (Some (node_of s.u))).page.work → Same s g (Lowering b) (lowered s.u b) ms
  lowering true ms f left d off rest = refl
  lowering {r} {g} false ms f left d off rest = ap (λ z. if z then Flush_over else rest) (left ∙ none (works_here s {z = Lowering false} f d off refl))
    where
      none : (((s.pages (Some (node_of s.u))).page.work ≡ P.Posted s.u.p false (node_of s.u * s.u.lay.procs)) ⊎ ((false ≡ false) × (((s.pages (Some (node_of s.u))).page.work ≡ P.Idle) × (P.opened ((s.pages (Some (node_of s.u))).processors s.u.p).stage < (s.pages (Some (node_of s.u))).page.flush)))) → has_flushed (s.pages (Some (node_of s.u))).page.work ≡ false
      none (inl e) = ap has_flushed e
      none (inr e) = ap has_flushed e.1.0

  -- its mapping is lowered
  pub row_lowers : {r : Round} {g x : ℕ} {flushed : Bool} (e : (map_at s.u o.maps o.dirty g == 2) ≡ true) → RowActs s o (lowers {r = r} {g = g} {x = x} {flushed = flushed} e)
  row_lowers {r} {g} {x} {flushed} e f = go flushed f
    where
      ms : List Move
      ms = map (At (place_of s.h (node_of s.u)) 0) (R.only (g == s.g && node_of s.u == node_of s.u) (R.lower_event s.u.p (s.pages (place_of s.h (node_of s.u))).page.work))

      silent : AllSilent ms
      silent = silent_pick _ _ 0 _ (lower_silent (place_of s.h (node_of s.u)) s.u.p (s.pages (place_of s.h (node_of s.u))).page.work)

      left : has_flushed (pages_left s ms (Some (node_of s.u))).page.work ≡ has_flushed (s.pages (Some (node_of s.u))).page.work
      left = flushed_left s (place_of s.h (node_of s.u)) (Some (node_of s.u)) 0 (g == s.g && node_of s.u == node_of s.u) (R.lower_event s.u.p (s.pages (place_of s.h (node_of s.u))).page.work) (lower_keeps s.u.p (s.pages (place_of s.h (node_of s.u))).page.work)

      go : (b : Bool) → Meets s (On r g (Lowering b)) o (Put (Map s.u.p g) 1) x → Acted s (On r g (Mapped 1 (lowered s.u b))) (done s.u.lay s.ws (Put (Map s.u.p g) 1)) (λ m n. []) ms
      go true f = calm_row s {z = Lowering true} {t = Mapped 1 (lowered s.u true)} (λ m n. []) ms f (λ i. absurd i) silent (λ m n. tt) refl refl refl refl (lowering {r = r} {g = g} true ms f.here left)
      go false f = calm_row s {z = Lowering false} {t = Mapped 1 (lowered s.u false)} (λ m n. []) ms f (λ i. absurd i) silent (λ m n. tt) refl refl refl refl (lowering {r = r} {g = g} false ms f.here left)

  -- the other mappings of the node are looked at
  pub row_drops : {r : Round} {g q x : ℕ} {unwritten free : Bool} (lo : node_of s.u * s.u.lay.procs ≤ q) (hi : q < node_of s.u * s.u.lay.procs + s.u.lay.procs) → RowActs s o (drops {r = r} {g = g} {q = q} {x = x} {unwritten = unwritten} {free = free} lo hi)
  row_drops {r} {g} {q} {x} {unwritten} {free} lo hi f = calm_row s {z = Dropping q unwritten free} {t = Dropping (q + 1) (unwritten && not (x == 2)) (free && x == 0)} (λ m n. [])
      (map (At (place_of s.h (node_of s.u)) 0) (R.only ((g == s.g && node_of s.u == node_of s.u) && unwritten && not (x == 2)) P.Look)) f (λ i. absurd i) (silent_pick _ _ 0 P.Look (look_silent (place_of s.h (node_of s.u)))) (λ m n. tt) refl refl refl refl (λ d off rest. refl)

  -- all words are flushed
  pub slip_flushed_all : {r : Round} {g h t : ℕ} → SlipActs s o (flushed_all {r = r} {g = g} {h = h} {t = t})
  slip_flushed_all {r} {g} {h} {t} own f = calm_here s {z = Flushing h t s.u.lay.words Whole} {t = Stamping h t true} (λ m n. []) [] f tt (λ m n. tt) refl refl refl refl (λ d off rest. sym (past s.u.lay.words s.i_in))
    where
      past : (w : ℕ) → s.i < w → block s.i w Flush_load Flush_load Flush_end ≡ Flush_end
      past w l = grind arith

  pub slip_unsent : {r : Round} {g h : ℕ} {flushed : Bool} (e : (flushed || node_of s.u == h) ≡ false) → SlipActs s o (unsent {r = r} {g = g} {h = h} {flushed = flushed} e)
  slip_unsent {r} {g} {h} {flushed} e own f = calm_here s {z = Stamped h flushed} {t = Posting h flushed 0} (λ m n. []) [] f tt (λ m n. tt) refl refl refl refl (λ d off rest. same flushed rest (flush_now s) (flush_now s))
    where
      same : (b : Bool) (rest : Mode) (z z' : Bool) → mode_view s.i rest z (Posting h b 0) ≡ mode_view s.i rest z' (Stamped h b)
      same true rest z z' = refl
      same false rest z z' = refl

  pub slip_posted : {r : Round} {g h : ℕ} {flushed : Bool} → SlipActs s o (posted {r = r} {g = g} {h = h} {flushed = flushed})
  slip_posted {r} {g} {h} {flushed} own f = calm_here s {z = Posting h flushed s.u.lay.nodes} {t = Posted h flushed} (λ m n. []) [] f tt (λ m n. tt) refl refl refl refl (λ d off rest. same flushed rest (flush_now s) (flush_now s))
    where
      same : (b : Bool) (rest : Mode) (z z' : Bool) → mode_view s.i rest z (Posted h b) ≡ mode_view s.i rest z' (Posting h b s.u.lay.nodes)
      same true rest z z' = refl
      same false rest z z' = refl

  pub slip_unlowered : {r : Round} {g : ℕ} {flushed : Bool} (e : (map_at s.u o.maps o.dirty g == 2) ≡ false) → SlipActs s o (unlowered {r = r} {g = g} {flushed = flushed} e)
  slip_unlowered {r} {g} {flushed} e own f = go flushed f
    where
      go : (b : Bool) → Here s (On r g (Lowering b)) o → Acted s (On r g (lowered s.u b)) s.ws (λ m n. []) []
      go true f = calm_here s {z = Lowering true} {t = lowered s.u true} (λ m n. []) [] f tt (λ m n. tt) refl refl refl refl (lowering {r = r} {g = g} true [] f refl)
      go false f = calm_here s {z = Lowering false} {t = lowered s.u false} (λ m n. []) [] f tt (λ m n. tt) refl refl refl refl (lowering {r = r} {g = g} false [] f refl)

  -- a twin that was flushed stands
  pub slip_dropped : {r : Round} {g : ℕ} {unwritten free : Bool} → SlipActs s o (dropped {r = r} {g = g} {unwritten = unwritten} {free = free})
  slip_dropped {r} {g} {unwritten} {free} own f = go unwritten f
    where
      top : ℕ
      top = node_of s.u * s.u.lay.procs + s.u.lay.procs

      go : (b : Bool) → Here s (On r g (Dropping (node_of s.u * s.u.lay.procs + s.u.lay.procs) b free)) o → Acted s (On r g (if b then Untwining free else Done)) s.ws (λ m n. []) []
      go true f = calm_here s {z = Dropping top true free} {t = Untwining free} (λ m n. []) [] f tt (λ m n. tt) refl refl refl refl (λ d off rest. refl)
      go false f = calm_here s {z = Dropping top false free} {t = Done} (λ m n. []) [] f tt (λ m n. tt) refl refl refl refl (λ d off rest. ap (λ w. if has_flushed w then Flush_over else rest) (works_here s {z = Dropping top false free} f d off refl).1)

  pub note_sent : {r : Round} {g h : ℕ} {flushed : Bool} (e : (flushed || node_of s.u == h) ≡ true) → NoteActs s o (sent {r = r} {g = g} {h = h} {flushed = flushed} e)
  note_sent {r} {g} {h} {flushed} e f = calm_here s {z = Stamped h flushed} {t = Posting h flushed 0} (λ m n. []) [] f tt (λ m n. tt) refl refl refl refl (λ d off rest. same flushed rest (flush_now s) (flush_now s))
    where
      same : (b : Bool) (rest : Mode) (z z' : Bool) → mode_view s.i rest z (Posting h b 0) ≡ mode_view s.i rest z' (Stamped h b)
      same true rest z z' = refl
      same false rest z z' = refl

  pub note_soils : {r : Round} {g : ℕ} → NoteActs s o (soils {r = r} {g = g})
  note_soils {r} {g} f = calm_here s {z = Soiling} {t = Giving} (λ m n. []) [] f tt (λ m n. tt) refl refl refl refl (λ d off rest. refl)

  -- a mapping that is stored is noted
  pub note_maps : {r : Round} {g k : ℕ} {s' : Stage} → NoteActs s o (maps {r = r} {g = g} {k = k} {s = s'})
  note_maps {r} {g} {k} {s' = Parting write h busy} f = calm_here s {z = Mapped k (Parting write h busy)} {t = Parting write h busy} (λ m n. []) [] f tt (λ m n. tt) refl refl refl refl (λ d off rest. refl)
  note_maps {r} {g} {k} {s' = Soiling} f = calm_here s {z = Mapped k Soiling} {t = Soiling} (λ m n. []) [] f tt (λ m n. tt) refl refl refl refl (λ d off rest. refl)
  note_maps {r} {g} {k} {s' = Giving} f = calm_here s {z = Mapped k Giving} {t = Giving} (λ m n. []) [] f tt (λ m n. tt) refl refl refl refl (λ d off rest. refl)
  note_maps {r} {g} {k} {s' = Dropping q unwritten free} f = calm_here s {z = Mapped k (Dropping q unwritten free)} {t = Dropping q unwritten free} (λ m n. []) [] f tt (λ m n. tt) refl refl refl refl (λ d off rest. refl)
  note_maps {r} {g} {k} {s' = Done} f = calm_here s {z = Mapped k Done} {t = Done} (λ m n. []) [] f tt (λ m n. tt) refl refl refl refl (λ d off rest. refl)
  note_maps {r} {g} {k} {s' = Emptying q free} f = calm_here s {z = Mapped k (Emptying q free)} {t = Emptying q free} (λ m n. []) [] f tt (λ m n. tt) refl refl refl refl (λ d off rest. refl)
  note_maps {r} {g} {k} {s'} f = absurd f.fits.0
