-- What the state says of a processor stays behind the step of another one.
use Rattle.std.proofs.Common.{◌≡◌, ◌≢◌, ℕ, suc, ◌+◌, ◌*◌, ◌/◌, ◌<◌, ◌==◌, Bool, true, false, List, [], Option, Some, refl, sym, ap, ◌∙◌, subst, arith}
use Rattle.dsm_words.specs.declared.item.Item.TheVariants.{Dir as DirWord, Twined}
use Rattle.dsm_words.specs.Script.{Act}
use Rattle.dsm_words.specs.Words.{word}
use Rattle.dsm_clock.specs.declared.turns.TurnId.TheVariants.{Page}
use Rattle.dsm_protocol.specs.Own.{Own, Who, node_of}
use Rattle.dsm_protocol.specs.Stages.{Round, Stage, First, Filling, Filled, Copying, Copied, Work, On, Off, Gone, turn_at, stage_turn}
use Rattle.dsm_protocol.specs.Standing.{Does, Row, Won, Lost, Aside}
use Rattle.dsm_runs.specs.Setups.{Setup, lay_in, who_at}
use Rattle.dsm_owners.specs.Directory as O
use Rattle.dsm_owners.proofs.Every as E
use Rattle.dsm_ties.specs.Tied.{node_in, bit}
use Rattle.dsm_ties.specs.Views.{AtStage}
use Rattle.dsm_ties.proofs.Along as Dir
use Rattle.dsm_ties.proofs.Along.{dir_tied}
use Rattle.dsm_ties.proofs.Doing.{by_events, by_won, by_slipped}
use Rattle.dsm_ties.proofs.Elsewhere.{AllBy}
use Rattle.dsm_ties.proofs.Trails.{Position, Piece, Decides, Acts, Notes, Starves, behind, Fine, IsFair, IsQuiet, Trail, Goes, is_noting, does_dir, piece_dir, dir_of, dir_at}
use Rattle.dsm_copies.specs.Copies as W
use Rattle.dsm_debts.specs.Page as D
use Rattle.dsm_debts.specs.Joining.{Move, events_of, has_flushed}
use Rattle.dsm_freshness.proofs.Trailing.{runs_behind}
use Rattle.dsm_releases.specs.Events as R
use Rattle.dsm_releases.specs.Tied as RMatch
use Rattle.dsm_releases.proofs.Following as RF
use Rattle.dsm_releases.proofs.Making.{row_made, slip_made, note_made}
use Rattle.dsm_releases.proofs.Trailing as RT
use Rattle.dsm_releases.proofs.Trailing.{DebtsTied}
use Rattle.dsm_twoway.specs.Views.{plain, resting, mode_view}
use Rattle.dsm_twoway.specs.Events.{place_of, step_others, step_node, step_value, slip_node, note_others}
use Rattle.dsm_twoway.specs.Tied.{is_beginning, is_copied, HasCopied, rest_of, spot, Knows}
use Rattle.dsm_twoway.proofs.Appending.{after_append, events_append}
use Rattle.dsm_twoway.proofs.Blocks.{place_away}
use Rattle.dsm_twoway.proofs.HeldNodes as Held
use Rattle.dsm_twoway.proofs.HeldNodes.{events_alike}
use Rattle.dsm_twoway.proofs.Moving.{place, first_at, top_at, first_pages, first_copies, does_moves, piece_moves, moves_of, pages_at, events_at, copies_at, count_at, fresh_in, WordTied}
use Rattle.dsm_twoway.proofs.PageTrails.{pages_are}
use Rattle.dsm_twoway.proofs.Spared.{AllSpare, AllFree, Kept, all_free, works_left, events_keep, step_spares, row_spares, note_spares}

-- the events of a step at the directory are of its processor
by_does : (s : Setup) (g p : ℕ) {o : Own} {w : Work} {a : Act} {x : ℕ} {v : Work} (does : Does (who_at s p) o w a x v) → AllBy p (does_dir s g p does)
by_does s g p (Row within step) = by_events (who_at s p) g step
by_does s g p (Won turn within win is) = by_won (who_at s p) g win
by_does s g p (Lost turn within win is) = tt
by_does s g p (Aside may is) = tt

by_piece : (s : Setup) (g : ℕ) {z : Position} {p : ℕ} (piece : Piece s z p) → AllBy p (piece_dir s g piece)
by_piece s g {p = p} (Decides slip) = by_slipped (who_at s p) g slip
by_piece s g {p = p} (Acts any does) = by_does s g p does
by_piece s g (Notes i noted) = tt
by_piece s g (Starves o none) = (refl, tt)

-- the moves and the debts' events of a step of who does not hold the turn of node n
module _ (s : Setup) (h n g i : ℕ) where
  does_free : (p : ℕ) (f : D.State) {o : Own} {w : Work} {a : Act} {x : ℕ} {v : Work} (does : Does (who_at s p) o w a x v) → RMatch.Knows h n g i (who_at s p) f w o → turn_at (who_at s p) w ≢ Some (Page n g) → AllFree n g (RT.does_debts s h n g i f p does)
  does_free p f {w = w} (Row within step) k ne = all_free n g (n == h) (n * s.procs) p (turn_at (who_at s p) w) f _ ne (row_made h n g i (who_at s p) f step k)
  does_free p f (Won turn within win is) k ne = tt
  does_free p f (Lost turn within win is) k ne = tt
  does_free p f (Aside may is) k ne = tt

  piece_free : (z : Position) (p : ℕ) (f : D.State) (piece : Piece s z p) → RMatch.Knows h n g i (who_at s p) f (z.works p) (z.owns p) → turn_at (who_at s p) (z.works p) ≢ Some (Page n g) → AllFree n g (RT.piece_debts s h n g i f piece)
  piece_free z p f (Decides slip) k ne = all_free n g (n == h) (n * s.procs) p (turn_at (who_at s p) (z.works p)) f _ ne (slip_made h n g i (who_at s p) f slip)
  piece_free z p f (Acts any does) k ne = does_free p f does k ne
  piece_free z p f (Notes e noted) k ne = all_free n g (n == h) (n * s.procs) p (turn_at (who_at s p) (z.works p)) f _ ne (note_made h n g i (who_at s p) f noted)
  piece_free z p f (Starves o none) k ne = tt

  abbrev events : (Option ℕ → D.State) → List Move → List W.Event
  events f ms = events_of (place s h g i) (first_at s h g i) (top_at s h g i) f ms

  does_spares : (p : ℕ) (f : Option ℕ → D.State) {o : Own} {w : Work} {a : Act} {x : ℕ} {v : Work} (does : Does (who_at s p) o w a x v) → AllFree n g (RT.does_debts s h n g i (f (place_of h n)) p does) → turn_at (who_at s p) w ≢ Some (Page n g) → AllSpare n (events f (does_moves s h g i f p does))
  does_spares p f (Row within step) free ne =
      step_spares n g (place s h g i) (first_at s h g i) (top_at s h g i) f h (step_node h g i (who_at s p) step) (step_value h g i (who_at s p) step) (step_others h g i (who_at s p) step)
      (λ k. R.step_events h k g i (who_at s p) (f (place_of h k)) step) (row_spares h n g i (who_at s p) step ne) free
  does_spares p f (Won turn within win is) free ne = tt
  does_spares p f (Lost turn within win is) free ne = tt
  does_spares p f (Aside may is) free ne = tt

  piece_spares : (z : Position) (p : ℕ) (f : Option ℕ → D.State) (piece : Piece s z p) → AllFree n g (RT.piece_debts s h n g i (f (place_of h n)) piece) → turn_at (who_at s p) (z.works p) ≢ Some (Page n g) → AllSpare n (events f (piece_moves s h g i f piece))
  piece_spares z p f (Decides slip) free ne =
      step_spares n g (place s h g i) (first_at s h g i) (top_at s h g i) f h (slip_node h g i (who_at s p) slip) 0 [] (λ k. R.slip_events h k g i (who_at s p) (f (place_of h k)) slip) tt free
  piece_spares z p f (Acts any does) free ne = does_spares p f does free ne
  piece_spares z p f (Notes e noted) free ne =
      step_spares n g (place s h g i) (first_at s h g i) (top_at s h g i) f h (p / s.procs) 0 (note_others h g i (who_at s p) noted) (λ k. R.note_events h k g i (who_at s p) noted) (note_spares h n g i (who_at s p) noted ne) free
  piece_spares z p f (Starves o none) free ne = tt

-- at its stage more is so where more is so at each
map_stage : (P Q : Stage → Type 0) (g : ℕ) (w : Work) → ((t : Stage) → P t → Q t) → AtStage P g w → AtStage Q g w
map_stage P Q g (On r k t) f a = λ e. f t (a e)
map_stage P Q g (Off r) f a = tt
map_stage P Q g Gone f a = tt

-- who has copied holds the turn of its own node
copied_turn : (u : Who) (k : ℕ) (t : Stage) → is_copied t ≡ true → stage_turn u k t ≡ Some (Page (node_of u) k)
copied_turn u k (Copying write h t twin e part) is = refl
copied_turn u k (Copied write h t) is = refl
copied_turn u k (Filled t) is = refl
copied_turn u k t is = absurd (cc is)

copied_stays : (u : Who) (g : ℕ) (w : Work) (fetched fetched' : Bool) (twined twined' : ℕ) → (turn_at u w ≡ Some (Page (node_of u) g) → (fetched' ≡ fetched) × (twined' ≡ twined))
    → AtStage (λ t. is_copied t ≡ true → HasCopied t fetched twined) g w → AtStage (λ t. is_copied t ≡ true → HasCopied t fetched' twined') g w
copied_stays u g (On r k t) fetched fetched' twined twined' same a = λ e c.
    let y = same (copied_turn u k t c ∙ ap (λ j. Some (Page (node_of u) j)) e) in
    subst (λ b. HasCopied t b twined') (sym y.0) (subst (λ b. HasCopied t fetched b) (sym y.1) (a e c))
copied_stays u g (Off r) fetched fetched' twined twined' same a = tt
copied_stays u g Gone fetched fetched' twined twined' same a = tt

-- who begins to fetch is amid its notes
begins_noting : (u : Who) (r : Round) (k : ℕ) (t : Stage) → is_beginning t ≡ true → is_noting u (On r k t) ≡ true
begins_noting u r k (Copying write h t twin e (First v)) is = refl
begins_noting u r k (Filling h t e (First v)) is = refl
begins_noting u r k t is = absurd (cc is)

begins_never : (P : Stage → Type 0) (u : Who) (g : ℕ) (w : Work) → is_noting u w ≡ false → AtStage (λ t. is_beginning t ≡ true → P t) g w
begins_never P u g (On r k t) quiet = λ e is. absurd (cc (sym (begins_noting u r k t is) ∙ quiet))
begins_never P u g (Off r) quiet = tt
begins_never P u g Gone quiet = tt

module _ (s : Setup) (h g i : ℕ) (g_in : g < s.program.shape.pages) {z : Position} (t : Trail s z) (tied : WordTied s h g i t) (debts : (n : ℕ) → n < s.nodes → DebtsTied s h n g i t)
    (p : ℕ) (p_in : p < s.nodes * s.procs) (fine : Fine s z) (piece : Piece s z p) (fair : IsFair s z p piece) (quiet : IsQuiet s z p) where
  abbrev after : Trail s (behind s z p piece)
  after = Goes t p p_in fine piece fair quiet

  -- what another processor's turn keeps at node n
  record Stays (n : ℕ) : Type 0 where
    pub dir : word (lay_in s) (behind s z p piece).words (DirWord n g) ≡ word (lay_in s) z.words (DirWord n g)
    pub twined : word (lay_in s) (behind s z p piece).words (Twined n g) ≡ word (lay_in s) z.words (Twined n g)
    pub work : (pages_at s h g i after (place_of h n)).page.work ≡ (pages_at s h g i t (place_of h n)).page.work
    pub node : Kept ((copies_at s h g i t).nodes n) ((copies_at s h g i after).nodes n)

  module _ (q : ℕ) (q_in : q < s.nodes * s.procs) (ne : q ≢ p) (n : ℕ) (n_in : n < s.nodes) (turn : turn_at (who_at s q) (z.works q) ≡ Some (Page n g)) where
    not_held : turn_at (who_at s p) (z.works p) ≢ Some (Page n g)
    not_held d = ne (let x1 = (fine.turns q (Page n g) q_in (n_in, g_in)).1 turn in let x2 = (fine.turns p (Page n g) p_in (n_in, g_in)).1 d in omega (arith, x1, x2))

    free : AllFree n g (RT.piece_debts s h n g i (RT.debts_at s h n g i t) piece)
    free = piece_free s h n g i z p (RT.debts_at s h n g i t) piece ((debts n n_in).knows p p_in) not_held

    alike : Held.Alike ((dir_at s g t).nodes n) ((dir_at s g after).nodes n)
    alike =
        let old = dir_tied s g g_in t in
        let new = dir_tied s g g_in after in
        let x1 = (fine.turns q (Page n g) q_in (n_in, g_in)).1 turn in
        let held : ((dir_at s g t).nodes n).turn ≡ suc q = sym (old.match.turn n n_in) ∙ (x1 ∙ omega arith) in
        subst (λ b. Held.Alike ((dir_at s g t).nodes n) (b.nodes n)) (sym (Dir.after_append s.nodes (node_in s) O.start (dir_of s g t) (piece_dir s g piece)))
        (events_alike s.nodes (node_in s) (piece_dir s g piece) (dir_at s g t) p q n (E.goes_on s.nodes (node_in s) O.start (dir_of s g t) (E.starts s.nodes (node_in s)) old.runs)
        (runs_behind s.nodes (node_in s) O.start (dir_of s g t) (piece_dir s g piece) new.runs) (by_piece s g piece) held ne)

    copies_are : copies_at s h g i after ≡ W.after (place s h g i) (copies_at s h g i t) (events s h n g i (pages_at s h g i t) (piece_moves s h g i (pages_at s h g i t) piece))
    copies_are =
        ap (W.after (place s h g i) (first_copies s h g i)) (events_append (place s h g i) (first_at s h g i) (top_at s h g i) (first_pages s h g i) (piece_moves s h g i (pages_at s h g i t) piece) (moves_of s h g i t))
        ∙ after_append (place s h g i) (first_copies s h g i) (events s h n g i (pages_at s h g i t) (piece_moves s h g i (pages_at s h g i t) piece)) (events_at s h g i t)

    stays : Stays n
    stays =
        let old = dir_tied s g g_in t in
        let new = dir_tied s g g_in after in
        record {
          dir = new.match.dir n n_in ∙ (alike.dir ∙ sym (old.match.dir n n_in));
          twined = new.match.twined n n_in ∙ (ap bit alike.twined ∙ sym (old.match.twined n n_in));
          work = ap (λ f. f.page.work) (pages_are s h g i n after)
              ∙ (ap (λ f. f.page.work) (RF.after_append (n == h) (n * s.procs) (n * s.procs + s.procs) (D.start 1 (λ k. D.Running)) (RT.piece_debts s h n g i (RT.debts_at s h n g i t) piece) (RT.debts_of s h n g i t))
              ∙ (works_left n g (n == h) (n * s.procs) (RT.debts_at s h n g i t) (RT.piece_debts s h n g i (RT.debts_at s h n g i t) piece) free
              ∙ sym (ap (λ f. f.page.work) (pages_are s h g i n t))));
          node = subst (λ x. Kept ((copies_at s h g i t).nodes n) (x.nodes n)) (sym copies_are)
              (events_keep (place s h g i) n (copies_at s h g i t) (events s h n g i (pages_at s h g i t) (piece_moves s h g i (pages_at s h g i t) piece))
              (piece_spares s h n g i z p (pages_at s h g i t) piece (subst (λ f. AllFree n g (RT.piece_debts s h n g i f piece)) (sym (pages_are s h g i n t)) free) not_held));
        }

  -- so it is known behind the step
  pub knows_stays : (q : ℕ) → q < s.nodes * s.procs → q ≢ p
      → Knows h g i (who_at s q) (behind s z p piece).words (fresh_in s h g i after) (pages_at s h g i after) (copies_at s h g i after) (count_at s h g i after) (z.works q)
  knows_stays q q_in ne =
      let k = tied.knows q q_in in
      record {
        mode = λ n away turn. let y = stays q q_in ne n away.0 turn in
            let at : place_of h n ≡ Some n = place_away h n away.1 in
            map_stage _ (λ t'. plain ((copies_at s h g i after).nodes n).mode ≡ mode_view i (rest_of h g i (who_at s q) (behind s z p piece).words n) (has_flushed (pages_at s h g i after (Some n)).page.work) t') g (z.works q)
            (λ t' e. y.node.mode ∙ (e ∙ sym (ap (λ r. mode_view i r (has_flushed (pages_at s h g i after (Some n)).page.work) t') (ap (λ d. resting d (word (lay_in s) (behind s z p piece).words (Twined n g))) y.dir ∙ ap (resting (word (lay_in s) z.words (DirWord n g))) y.twined)
            ∙ ap (λ w. mode_view i (rest_of h g i (who_at s q) z.words n) (has_flushed w) t') (subst (λ o. (pages_at s h g i after o).page.work ≡ (pages_at s h g i t o).page.work) at y.work)))) (k.mode n away turn);
        copied = λ away. copied_stays (who_at s q) g (z.works q) _ _ _ _ (λ turn. let y = stays q q_in ne (q / s.procs) away.0 turn in (y.node.fetched, y.twined)) (k.copied away);
        beginning = λ away. begins_never (λ t'. (m : ℕ) → m < s.nodes → m ≢ q / s.procs → (count_at s h g i after).snap (q / s.procs) (spot h (who_at s q) m) ≡ (fresh_in s h g i after m (q / s.procs)).page.sent) (who_at s q) g (z.works q) (quiet q ne q_in);
      }
