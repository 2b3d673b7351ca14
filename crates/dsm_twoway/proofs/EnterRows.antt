-- Who enters exclusive use finds no copy in use, and loads the words.
use Rattle.std.proofs.Common.{◌≡◌, ◌≢◌, ◌⊎◌, inl, inr, ℕ, suc, ◌+◌, ◌*◌, ◌/◌, ◌<◌, ◌≤◌, ◌==◌, Bool, true, false, Some, refl, sym, ap, ◌∙◌, subst, arith, if◌then◌else◌}
use Rattle.std.specs.Prelude.{nat_le}
use Rattle.std.proofs.lemmas.Bool.{cases_eq, cases_lt, eq-eqb, ne_eqb}
use Rattle.dsm_words.specs.declared.item.Item.TheVariants.{Frame, Twined, Dir, Turn}
use Rattle.dsm_words.specs.Words.{word}
use Rattle.dsm_protocol.specs.Own.{Own, Who, node_of}
use Rattle.dsm_protocol.specs.Stages.{Whole, First, Got, For_closing, Stage, Mapped, Seeking, Missing, Breaking, Marking, Saving, Ending, Filling, Filled, Entered, Copying, Making, Flushing, Stamping, Stamped, Posting, Posted, Telling, Lowering, Dropping, Untwining, Unlisting, Done, Round}
use Rattle.dsm_protocol.specs.Rows.{loaded, fills}
use Rattle.dsm_copies.specs.Modes.{Bare, Flush_over, Enter_load, Enter_write, Enter_end, may_store, ended}
use Rattle.dsm_copies.specs.Copies as W
use Rattle.dsm_copies.specs.Premises.{Premise, Enters, AreBare}
use Rattle.dsm_copies.specs.Debts.{AsksOf}
use Rattle.dsm_owners.specs.Stages as O
use Rattle.dsm_owners.specs.Directory.{Node}
use Rattle.dsm_owners.proofs.Facts.{AtTurn, Blocked}
use Rattle.dsm_ties.specs.Views.{stage_view}
use Rattle.dsm_ties.specs.Tied.{bit}
use Rattle.dsm_debts.specs.Page as P
use Rattle.dsm_debts.proofs.Facts.{Sound, is_flush}
use Rattle.dsm_releases.specs.Views.{WorksAt}
use Rattle.dsm_releases.specs.Tied as RT
use Rattle.dsm_twoway.specs.Events.{place_of}
use Rattle.dsm_fresh.specs.Stages as F
use Rattle.dsm_debts.specs.Joining.{mode_track, has_flushed}
use Rattle.dsm_twoway.specs.Views.{mode_view, block, unless_fresh, enter_here}
use Rattle.dsm_twoway.specs.Tied.{IsAway, spot, rest_of, is_beginning, is_copied}
use Rattle.dsm_twoway.proofs.Modes.{bare_is}
use Rattle.dsm_twoway.proofs.Scene.{Scene, Asked, place, RowActs}
use Rattle.dsm_twoway.proofs.Ops.{put_same, put_other}
use Rattle.dsm_twoway.proofs.Blocks.{home_found, open_here, place_away}
use Rattle.dsm_twoway.proofs.Standing.{bare_rest, away_by, node_at_turn, held_here}
use Rattle.dsm_twoway.proofs.Beginning.{works_here, begin_counted, begin_row}

-- a flush whose twin stands has a twin
flushed_flush : (w : P.Work) → has_flushed w ≡ true → is_flush w ≡ true
flushed_flush (P.Posting p b) e = e
flushed_flush (P.Posted p b j) e = e
flushed_flush w e = absurd (cc e)

-- who holds the turn of a node that another one is sure of has nothing open there
module _ (top home n k sure first last p i : ℕ) (at_home : Bool) (x : Node) (u : Who) (f : P.State) (low : x.dir ≤ 1) (bare : x.twined ≡ false) (unflushed : has_flushed f.page.work ≡ false) where
  view_bare : (t : Stage) → AtTurn top home n k x (stage_view u t) → (O.held n (stage_view u t) ≡ suc n → Blocked sure (stage_view u t)) → WorksAt at_home first last i p t f → mode_view i Bare (has_flushed f.page.work) t ≡ Bare
  view_bare (Mapped j t) a b w = view_bare t a b w
  view_bare (Seeking (For_closing j)) a b w = absurd (omega (arith, a, low))
  view_bare (Missing (For_closing j)) a b w = absurd (omega (arith, a, low))
  view_bare (Breaking c h j q) a b w = absurd (omega (arith, a, low))
  view_bare (Marking c h j q) a b w = absurd (omega (arith, a, low))
  view_bare (Saving c h j e part) a b w = absurd (omega (arith, a, low))
  view_bare (Ending c j) a b w = let z = a.0 in absurd (omega (arith, z, low))
  view_bare (Filling h t e part) a b w = let z = a.0 in absurd (omega (arith, z, low))
  view_bare (Filled t) a b w = let z = a.0 in absurd (omega (arith, z, low))
  view_bare Entered a b w = let z = a.0 in absurd (omega (arith, z, low))
  view_bare (Copying write h t twin e part) a b w = absurd (b refl)
  view_bare (Making e part) a b w = absurd (b refl)
  view_bare (Flushing h t e part) a b w = absurd (cc (sym bare ∙ a.1))
  view_bare (Stamping h t true) a b w = absurd (cc (sym bare ∙ a.1))
  view_bare (Stamped h true) a b w = absurd (cc (sym bare ∙ a.1 refl))
  view_bare (Posting h true j) a b w = absurd (cc (sym bare ∙ a.1 refl))
  view_bare (Telling h true j) a b w = absurd (cc (sym bare ∙ a.1 refl))
  view_bare (Posted h true) a b w = absurd (cc (sym bare ∙ a.1 refl))
  view_bare (Lowering true) a b w = absurd (cc (sym bare ∙ a.1 refl))
  view_bare (Dropping q unwritten free) a b w = absurd (cc (sym unflushed ∙ ap has_flushed w.1))
  view_bare (Untwining free) a b w = absurd (cc (sym bare ∙ a.1))
  view_bare Unlisting a b w = ap (λ c. if c then Flush_over else Bare) unflushed
  view_bare Done a b w = ap (λ c. if c then Flush_over else Bare) unflushed
  view_bare t a b w = refl

module _ (s : Scene) (sure : s.u.lay.nodes ≤ (s.b.nodes (node_of s.u)).sure) where
  -- where its node is sure of all others, nothing is open at another one,
  others_bare : (k : ℕ) → k ≢ node_of s.u → IsAway s.h s.u k → (s.x.nodes k).mode ≡ Bare
  others_bare k ne away = go (cases_eq (word s.u.lay s.ws (Turn k s.g)) 0)
    where
      in_sure : k < (s.b.nodes (node_of s.u)).sure
      in_sure = let l = away.0 in omega (arith, l, sure)

      low : (s.b.nodes k).dir ≤ 1
      low = (s.holds.duo (node_of s.u) k ne).no_claim in_sure

      bare : (s.b.nodes k).twined ≡ false
      bare = (s.holds.duo (node_of s.u) k ne).no_twin in_sure

      twin_word : word s.u.lay s.ws (Twined k s.g) ≡ 0
      twin_word = s.owned.twined k away.0 ∙ ap bit bare

      rests : rest_of s.h s.g s.i s.u s.ws k ≡ Bare
      rests = bare_rest (word s.u.lay s.ws (Dir k s.g)) (word s.u.lay s.ws (Twined k s.g)) (λ e. let d = s.owned.dir k away.0 in absurd (omega (arith, e, d, low))) (λ e. absurd (cc (sym twin_word ∙ e)))

      unflushed : has_flushed (s.pages (Some k)).page.work ≡ false
      unflushed = each (has_flushed (s.pages (Some k)).page.work) refl
        where
          at : place_of s.h k ≡ Some k
          at = place_away s.h k away.1

          each : (c : Bool) → has_flushed (s.pages (Some k)).page.work ≡ c → c ≡ false
          each false e = refl
          each true e =
              let sound : Sound (k == s.h) (s.pages (Some k)).page = subst (λ l. Sound (k == s.h) (s.pages l).page) at (s.sound k away.0) in
              let match : RT.Match s.h k s.g s.i s.u s.ws (s.pages (Some k)) = subst (λ l. RT.Match s.h k s.g s.i s.u s.ws (s.pages l)) at (s.releases k away.0) in
              absurd (cc (sym twin_word ∙ match.twin ∙ ap bit (sound.flush_twin (flushed_flush (s.pages (Some k)).page.work e))))

      go : (word s.u.lay s.ws (Turn k s.g) ≡ 0) ⊎ (word s.u.lay s.ws (Turn k s.g) ≢ 0) → (s.x.nodes k).mode ≡ Bare
      go (inl z) = bare_is (s.x.nodes k).mode ((s.match.words.each k away).rest_is z ∙ rests)
      go (inr held) =
          let h = s.holders k away held in
          let fits = s.holds.fits k h.q in
          bare_is (s.x.nodes k).mode (h.mode ∙ ap (λ m. mode_view s.i m (has_flushed (s.pages (Some k)).page.work) h.stage) rests
          ∙ view_bare s.u.lay.nodes s.b.home (h.q / s.u.lay.procs) k (node_of s.u) (k * s.u.lay.procs) (k * s.u.lay.procs + s.u.lay.procs) h.q s.i (k == s.h) (s.b.nodes k) (record s.u { p = h.q }) (s.pages (Some k)) low bare unflushed h.stage
          (subst (AtTurn s.u.lay.nodes s.b.home (h.q / s.u.lay.procs) k (s.b.nodes k)) h.at (fits.at_turn h.turn))
          (λ e. let is : h.q / s.u.lay.procs ≡ k = same (h.q / s.u.lay.procs) (sym e ∙ sym (ap (O.held (h.q / s.u.lay.procs)) h.at) ∙ fits.held_is h.turn) in
          subst (Blocked (node_of s.u)) h.at ((s.holds.fits (node_of s.u) h.q).shut (λ z. ne (sym is ∙ z)) (subst (λ j. j < (s.b.nodes (node_of s.u)).sure) (sym is) in_sure)).blocked)
          h.works)
        where
          same : (j : ℕ) → suc j ≡ suc k → j ≡ k
          same j e = omega (arith, e)

  -- and so at none where nothing is open at its own
  all_bare : (s.x.nodes (node_of s.u)).mode ≡ Bare → AreBare s.x
  all_bare own k = go (cases_eq k (node_of s.u)) (cases_eq k s.h) (cases_lt k s.u.lay.nodes)
    where
      go : (k ≡ node_of s.u) ⊎ (k ≢ node_of s.u) → (k ≡ s.h) ⊎ (k ≢ s.h) → (k < s.u.lay.nodes) ⊎ (s.u.lay.nodes ≤ k) → (s.x.nodes k).mode ≡ Bare
      go (inl e) h l = ap (λ j. (s.x.nodes j).mode) e ∙ own
      go (inr ne) (inl e) l = s.match.words.none k (inl e)
      go (inr ne) (inr off) (inr g) = s.match.words.none k (inr g)
      go (inr ne) (inr off) (inl l) = others_bare k ne (l, off)

module _ (s : Scene) (o : Own) where
  -- who enters exclusive use loads a word
  pub row_fills : {r : Round} {k h t e y : ℕ} → RowActs s o (fills {r = r} {g = k} {h = h} {t = t} {i = e} {x = y})
  row_fills {r} {k} {h} {t} {e} {y} f =
      begin_row s {r = r} {k = k} {z = Filling h t e Whole} {t = Filling h t e (loaded e y)} e (Frame h k e) f (λ i. i.0) refl refl away held
      Bare (Enter_load false) (Enter_write y false false) (Enter_end false) (λ rest b. refl) (λ rest b. shown (e == 0)) (λ ne. ap (λ c. is_beginning (Filling h t e (if c then First y else Got y))) (ne_eqb e 0 ne))
      (λ d b w. absurd (cc (sym (calm (e == 0)) ∙ w))) (λ d i p q w is is'. ap (λ m. Enter_write m false false) (is ∙ sym (is_master d i))) (λ p. refl) (λ p. refl) (λ p. refl) refl refl refl
      (W.Enter (node_of s.u)) (Enter_load (nat_le ended s.x.progress)) refl (put_same s.x.nodes (node_of s.u) (record (s.x.nodes (node_of s.u)) { mode = Enter_load (nat_le ended s.x.progress) })) (λ j ne. put_other s.x.nodes (node_of s.u) (record (s.x.nodes (node_of s.u)) { mode = Enter_load (nat_le ended s.x.progress) }) j ne) refl refl
      (λ d nz w. absurd (cc (sym (ap may_store (rests d nz)) ∙ w))) (λ d nz. ap mode_track (rests d nz)) asks (λ d nz. begin_counted s s.c.sent (λ m l ne i q z x a op. shut d nz m l ne i q z x a op))
      (λ d nz w m l ne. ap (λ (g : ℕ → ℕ). g (spot s.h s.u m)) (put_same s.c.snap (node_of s.u) s.c.sent) ∙ s.match.counted.sent_is m (node_of s.u) l ne (away d))
    where
      at : k ≡ s.g → ((s.b.nodes (node_of s.u)).dir ≡ 3) × ((s.b.nodes (node_of s.u)).twined ≡ false) × (s.u.lay.nodes ≤ (s.b.nodes (node_of s.u)).sure) × (s.b.home ≢ suc (node_of s.u))
      at d = node_at_turn s f.here d O.Copying refl refl

      away : k ≡ s.g → IsAway s.h s.u (node_of s.u)
      away d = (s.at.node_in, away_by s (λ z. let w = (at d).0 in absurd (omega (arith, z, w))) (at d).3)

      held : k ≡ s.g → word s.u.lay s.ws (Turn (node_of s.u) s.g) ≢ 0
      held d = held_here s f.here d O.Copying refl refl

      calm : (c : Bool) → is_copied (Filling h t e (if c then First y else Got y)) ≡ false
      calm c = refl

      shown : (c : Bool) → unless_fresh e (if c then First y else Got y) Bare (block s.i e (Enter_load false) (enter_here (if c then First y else Got y)) (Enter_end false)) ≡ block s.i e (Enter_load false) (Enter_write y false false) (Enter_end false)
      shown true = refl
      shown false = refl

      is_master : k ≡ s.g → e ≡ s.i → y ≡ s.x.master
      is_master d i = let hm = home_found s {z = Filling h t e Whole} f d h refl in f.told ∙ (λ z. word s.u.lay s.ws (Frame (hm z) (d z) (i z))) ∙ s.match.words.master_is

      rests : k ≡ s.g → e ≡ 0 → (s.x.nodes (node_of s.u)).mode ≡ Bare
      rests d nz = bare_is (s.x.nodes (node_of s.u)).mode (open_here s {z = Filling h t e Whole} f d (away d).1 refl ∙ ap (λ w. if w then Bare else block s.i e (Enter_load false) (Enter_load false) (Enter_end false)) (eq-eqb e 0 nz))

      asks : k ≡ s.g → e ≡ 0 → (p : Premise) → Asked p → AsksOf (place s) p s.x s.c s.d (W.Enter (node_of s.u))
      asks d nz Enters q = all_bare s (at d).2 (rests d nz)
      asks d nz p q = tt

      shut : k ≡ s.g → e ≡ 0 → (m : ℕ) → m < s.u.lay.nodes → m ≢ node_of s.u → IsAway s.h s.u (node_of s.u) → (q z x : ℕ) (a : Bool) → (s.fresh m (node_of s.u)).page.work ≡ F.Open q a x z → ⊥
      shut d nz m l ne i q z x a op = let w = works_here s f.here d refl i m l ne in
          absurd (cc (sym (w.1 ∙ ap (λ c. if c then F.Ready s.u.p t else F.Open s.u.p true t w.0) (eq-eqb e 0 nz)) ∙ op))
