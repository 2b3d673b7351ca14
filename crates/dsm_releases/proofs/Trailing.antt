-- What a run taken apart is to what a node owes for a word: along it the events read off the rows keep all premises, and words and places show where they lead.
use Rattle.std.proofs.Common.{◌≡◌, ◌≢◌, ◌⊎◌, inl, inr, ℕ, suc, ◌+◌, ◌*◌, ◌%◌, ◌<◌, ◌≤◌, ◌==◌, Bool, false, List, [], ◌++◌, Option, Some, refl, sym, ap, ◌∙◌, subst, arith}
use Rattle.std.specs.Prelude.{slice_get}
use Rattle.std.specs.Int.{bit_at}
use Rattle.std.proofs.lemmas.Bool.{cases_eq, eq-eqb, ne_eqb}
use Rattle.std.proofs.lemmas.Nat.Bits.{bit_at-zero}
use Rattle.std.proofs.lemmas.Option.{slice_get_within}
use Rattle.dsm_words.specs.declared.item.Item.TheVariants.{Twined, Map, Dir as DirWord, Flush, Clock, Nle, Home, Stop}
use Rattle.dsm_words.specs.Place.{IsWithin}
use Rattle.dsm_words.specs.Pages.{group_of}
use Rattle.dsm_words.specs.Script.{Act, Get, Put, Swap, Change, Add, Or}
use Rattle.dsm_words.specs.Words.{word, done, reply}
use Rattle.dsm_words.proofs.WordLaws.{reply_is}
use Rattle.dsm_clock.specs.declared.turns.TurnId.{TurnId}
use Rattle.dsm_clock.specs.Turns.{turn_item}
use Rattle.dsm_protocol.specs.Own.{Own}
use Rattle.dsm_protocol.specs.Jobs.{own_after}
use Rattle.dsm_protocol.specs.Processors.{Processor}
use Rattle.dsm_protocol.specs.Stages.{Work, Gone, turn_at}
use Rattle.dsm_protocol.specs.Standing.{Does, Row, Won, Lost, Aside, IsAside}
use Rattle.dsm_protocol.proofs.Placed.{placed, group_in}
use Rattle.dsm_runs.specs.Setups.{Setup, IsSetup, lay_in, who_at}
use Rattle.dsm_runs.specs.Clusters.{Event as Going, start as begin, answer, after_all_loose}
use Rattle.dsm_runs.proofs.Mappings.{IsSparing}
use Rattle.dsm_runs.proofs.Starting.{starts_by_items, every_whole}
use Rattle.dsm_owners.specs.Acts as A
use Rattle.dsm_owners.specs.Directory as O
use Rattle.dsm_owners.proofs.Every as E
use Rattle.dsm_ties.specs.Tied.{node_in, has_bit}
use Rattle.dsm_ties.proofs.Along as Dir
use Rattle.dsm_ties.proofs.Beginning.{none_dirty}
use Rattle.dsm_ties.proofs.Elsewhere.{lost_same}
use Rattle.dsm_ties.proofs.Frame.{done_get}
use Rattle.dsm_ties.proofs.Following.{answers}
use Rattle.dsm_ties.proofs.Trails.{Position, Piece, Decides, Acts, Notes, Starves, behind, Fine, HoldsMaps, IsFair, IsQuiet, Trail, Starts, Goes, piece_dir, dir_of, dir_at, DirTied, Taken}
use Rattle.dsm_freshness.proofs.Fitting.{row_fits, win_fits, slip_fits, note_fits}
use Rattle.dsm_freshness.proofs.Trailing.{runs_behind}
use Rattle.dsm_debts.specs.Page as D
use Rattle.dsm_debts.specs.Page.{Event, State, start, after}
use Rattle.dsm_debts.specs.Premises.{Runs}
use Rattle.dsm_debts.proofs.Keeps.{starts, goes_on}
use Rattle.dsm_releases.specs.Events.{step_events, slip_events, note_events}
use Rattle.dsm_releases.specs.Tied.{IsHome, Match, Knows, Placed, Tied}
use Rattle.dsm_releases.proofs.Words.{Scene, untouched}
use Rattle.dsm_releases.proofs.Frame.{Here, Acted, gone}
use Rattle.dsm_releases.proofs.Making.{AllMade, row_made, slip_made, note_made}
use Rattle.dsm_releases.proofs.Elsewhere.{others_stay}
use Rattle.dsm_releases.proofs.Fitting.{Sits, row_releases, win_releases, slip_releases, note_releases, row_lives, win_lives, slip_lives, note_gone, note_maps, note_dirty, is_gone}
use Rattle.dsm_releases.proofs.Following.{EachActs, after_append, runs_append, aside_off}

module _ (s : Setup) (h n g i : ℕ) where
  -- what an operation is to what the node owes, in the state before it,
  abbrev pub does_debts : (f : State) (p : ℕ) {o : Own} {w : Work} {a : Act} {x : ℕ} {v : Work} → Does (who_at s p) o w a x v → List Event
  does_debts f p (Row within step) = step_events h n g i (who_at s p) f step
  does_debts f p (Won turn within win is) = []
  does_debts f p (Lost turn within win is) = []
  does_debts f p (Aside may is) = []

  -- a step,
  abbrev pub piece_debts : (f : State) {z : Position} {p : ℕ} → Piece s z p → List Event
  piece_debts f {p = p} (Decides slip) = slip_events h n g i (who_at s p) f slip
  piece_debts f {p = p} (Acts any does) = does_debts f p does
  piece_debts f {p = p} (Notes e noted) = note_events h n g i (who_at s p) noted
  piece_debts f (Starves o none) = []

  -- and a trail, newest first
  abbrev pub debts_of : {z : Position} → Trail s z → List Event
  debts_of Starts = []
  debts_of (Goes t p p_in fine piece fair quiet) = piece_debts (after (n == h) (n * s.procs) (start 1 (λ q. D.Running)) (debts_of t)) piece ++ debts_of t

  -- the state to which its events lead
  abbrev pub debts_at : {z : Position} → Trail s z → State
  debts_at t = after (n == h) (n * s.procs) (start 1 (λ q. D.Running)) (debts_of t)

  -- the events keep all their premises, and words and places show where they lead
  pub record DebtsTied {z : Position} (t : Trail s z) : Type 0 where
    pub runs : Runs (n == h) (n * s.procs) (n * s.procs + s.procs) (start 1 (λ q. D.Running)) (debts_of t)
    pub match : Match h n g i (who_at s 0) z.words (debts_at t)
    pub knows : (p : ℕ) → p < s.nodes * s.procs → Knows h n g i (who_at s p) (debts_at t) (z.works p) (z.owns p)

-- the words show the same to each processor
pub match_of : (s : Setup) (h n g i p q : ℕ) (ws : List ℕ) (f : State) → Match h n g i (who_at s p) ws f → Match h n g i (who_at s q) ws f
match_of s h n g i p q ws f k = record { flush = k.flush; clock = k.clock; twin = k.twin; alone = k.alone; sole = k.sole; writes = k.writes; bits = k.bits; idle = k.idle }

-- no bit of 0 is set
none_set : (g v : ℕ) → v ≡ 0 → has_bit g v ≡ false
none_set g v z = ne_eqb (bit_at v (g % 64)) 1 (λ e. let b = bit_at-zero (g % 64) in let c : bit_at 0 (g % 64) ≡ 1 = sym (ap (λ y. bit_at y (g % 64)) z) ∙ e in absurd (omega (arith, b, c)))

-- at the start nothing of a page is used
module _ (s : Setup) (h n g i : ℕ) (n_in : n < s.nodes) (g_in : g < s.program.shape.pages) where
  begins : Match h n g i (who_at s 0) (begin s).words (start 1 (λ q. D.Running))
  begins =
      record {
        flush = starts_by_items s (Flush n g) (n_in, g_in);
        clock = starts_by_items s (Clock n) n_in;
        twin = starts_by_items s (Twined n g) (n_in, g_in);
        alone = λ e. let z = starts_by_items s (DirWord n g) (n_in, g_in) in absurd (cc (sym z ∙ e));
        sole = λ e. absurd (cc e);
        writes = λ q q_in e. ap (λ z. z == 2) (starts_by_items s (Map q g) (q_in, g_in));
        bits = λ q q_in e. none_set g _ (starts_by_items s (Nle q (group_of g)) (q_in, group_in (lay_in s) g g_in));
        idle = λ e. refl;
      }

-- where a step leads its processor, and what that then holds
abbrev left_work : (s : Setup) {z : Position} {p : ℕ} → Piece s z p → Work
left_work s (Decides {v = v} slip) = v
left_work s (Acts {v = v} any does) = v
left_work s (Notes {v = v} e noted) = v
left_work s (Starves o none) = Gone

abbrev left_own : (s : Setup) (z : Position) (p : ℕ) → Piece s z p → Own
left_own s z p (Decides slip) = z.owns p
left_own s z p (Acts any does) = z.owns p
left_own s z p (Notes e noted) = own_after (z.owns p) e
left_own s z p (Starves o none) = o

-- where values are put at p, at each q: the new ones, or the old
module _ (P : Work → Own → Type 0) (works : ℕ → Work) (owns : ℕ → Own) (p q : ℕ) (v : Work) where
  -- at its place in the table; there, and what it holds
  put_work : (q ≡ p → P v (owns p)) → (q ≢ p → P (works q) (owns q)) → P (A.put works p v q) (owns q)
  put_work here there = go (cases_eq q p)
    where
      go : (q ≡ p) ⊎ (q ≢ p) → P (A.put works p v q) (owns q)
      go (inl e) = rw (eq-eqb q p e) (subst (λ k. P v (owns k)) (sym e) (here e))
      go (inr ne) = rw (ne_eqb q p ne) (there ne)

  put_both : (o : Own) → (q ≡ p → P v o) → (q ≢ p → P (works q) (owns q)) → P (A.put works p v q) (A.put owns p o q)
  put_both o here there = go (cases_eq q p)
    where
      go : (q ≡ p) ⊎ (q ≢ p) → P (A.put works p v q) (A.put owns p o q)
      go (inl e) = rw (eq-eqb q p e) (here e)
      go (inr ne) = rw (ne_eqb q p ne) (there ne)

-- and so it is behind a step
behind_at : (s : Setup) (P : Work → Own → Type 0) (z : Position) (p q : ℕ) (piece : Piece s z p) → (q ≡ p → P (left_work s piece) (left_own s z p piece)) → (q ≢ p → P (z.works q) (z.owns q)) → P ((behind s z p piece).works q) ((behind s z p piece).owns q)
behind_at s P z p q (Decides {v = v} slip) here there = put_work P z.works z.owns p q v here there
behind_at s P z p q (Acts {v = v} any does) here there = put_work P z.works z.owns p q v here there
behind_at s P z p q (Notes {v = v} e noted) here there = put_both P z.works z.owns p q v (own_after (z.owns p) e) here there
behind_at s P z p q (Starves o none) here there = put_both P z.works z.owns p q Gone o here there

-- Along a trail each place fits, and each that has not ended holds what is asked of each page.
module _ (s : Setup) (few : s.program.shape.pages ≤ 256) where
  -- behind an operation, and behind a step
  does_sits : (p : ℕ) {o : Own} {w : Work} {a : Act} {x : ℕ} {v : Work} → Does (who_at s p) o w a x v → (w ≢ Gone → Sits (who_at s p) w o) → v ≢ Gone → Sits (who_at s p) v o
  does_sits p (Row within step) k lives = let y = k (row_lives (who_at s p) step) in record { fits = row_fits (who_at s p) step y.fits; releasing = row_releases (who_at s p) step y.releasing; maps_in = y.maps_in; dirty_in = y.dirty_in }
  does_sits p (Won turn within win is) k lives = let y = k (win_lives (who_at s p) win) in record { fits = win_fits (who_at s p) win y.fits; releasing = win_releases (who_at s p) win y.releasing; maps_in = y.maps_in; dirty_in = y.dirty_in }
  does_sits p (Lost turn within win is) k lives = k lives
  does_sits p (Aside may is) k lives = k lives

  piece_sits : (z : Position) (p : ℕ) (piece : Piece s z p) → (z.works p ≢ Gone → Sits (who_at s p) (z.works p) (z.owns p)) → left_work s piece ≢ Gone → Sits (who_at s p) (left_work s piece) (left_own s z p piece)
  piece_sits z p (Decides slip) k lives = let y = k (slip_lives (who_at s p) slip) in record { fits = slip_fits (who_at s p) slip y.fits; releasing = slip_releases (who_at s p) slip y.releasing; maps_in = y.maps_in; dirty_in = y.dirty_in }
  piece_sits z p (Acts any does) k lives = does_sits p does k lives
  piece_sits z p (Notes e noted) k lives =
      let y = k (λ d. lives (note_gone (who_at s p) 0 0 0 0 noted d).0) in
      record {
        fits = note_fits (who_at s p) noted y.fits;
        releasing = note_releases (who_at s p) noted y.releasing;
        maps_in = subst (λ m. s.program.shape.pages ≤ m) (sym (note_maps (who_at s p) (z.owns p) noted)) y.maps_in;
        dirty_in = subst (λ m. s.program.shape.pages ≤ m) (sym (note_dirty (z.owns p) e)) y.dirty_in;
      }
  piece_sits z p (Starves o none) k lives = absurd (lives refl)

  -- and along the trail
  sits : {z : Position} → Trail s z → (q : ℕ) → z.works q ≢ Gone → Sits (who_at s q) (z.works q) (z.owns q)
  sits Starts q lives = record { fits = tt; releasing = tt; maps_in = few; dirty_in = few }
  sits (Goes {z = z} t p p_in fine piece fair quiet) q lives =
      behind_at s (λ w o. w ≢ Gone → Sits (who_at s q) w o) z p q piece
      (λ e. subst (λ k. left_work s piece ≢ Gone → Sits (who_at s k) (left_work s piece) (left_own s z p piece)) (sym e) (piece_sits z p piece (sits t p)))
      (λ ne. sits t q) lives

-- the page's home at the end of a trail is node h, or it has none yet
module _ (s : Setup) (h n g i : ℕ) (h_in : h < s.nodes) (n_in : n < s.nodes) (g_in : g < s.program.shape.pages) (i_in : i < s.program.shape.words) (few : s.program.shape.pages ≤ 256) (dir : (z : Position) (t : Trail s z) → DirTied s g t) (each : EachActs) where
  abbrev home : Bool
  home = n == h

  abbrev first : ℕ
  first = n * s.procs

  abbrev top : ℕ
  top = n * s.procs + s.procs

  abbrev begun : State
  begun = start 1 (λ q. D.Running)

  abbrev HomeAt : Position → Type 0
  HomeAt z = IsHome h g (who_at s 0) z.words

  -- a page whose home is the node behind a step had it, or none, before it
  home_before : (z : Position) (t : Trail s z) (p : ℕ) (p_in : p < s.nodes * s.procs) (fine : Fine s z) (piece : Piece s z p) (fair : IsFair s z p piece) (quiet : IsQuiet s z p) → HomeAt (behind s z p piece) → HomeAt z
  home_before z t p p_in fine piece fair quiet later = go (cases_eq (word (lay_in s) z.words (Home g)) 0)
    where
      go : (word (lay_in s) z.words (Home g) ≡ 0) ⊎ (word (lay_in s) z.words (Home g) ≢ 0) → HomeAt z
      go (inl e) = inl e
      go (inr ne) =
          let old = dir z t in
          let new = dir (behind s z p piece) (Goes t p p_in fine piece fair quiet) in
          let runs = runs_behind s.nodes (node_in s) O.start (dir_of s g t) (piece_dir s g piece) new.runs in
          let stays = E.stays s.nodes (node_in s) (dir_at s g t) (piece_dir s g piece) runs (λ e. ne (old.match.home ∙ e)) in
          let same : word (lay_in s) (behind s z p piece).words (Home g) ≡ word (lay_in s) z.words (Home g) = new.match.home ∙ (ap (λ b. b.home) (Dir.after_append s.nodes (node_in s) O.start (dir_of s g t) (piece_dir s g piece)) ∙ (stays ∙ sym old.match.home)) in
          subst (λ y. (y ≡ 0) ⊎ (y ≡ suc h)) same later

  -- before any step nobody owes anything
  outset_tied : DebtsTied s h n g i Starts
  outset_tied =
      record {
        runs = tt;
        match = begins s h n g i n_in g_in;
        knows = λ q q_in. record { works = λ _. tt; stage = λ _ _. refl; dirty = λ _ _. sym (none_dirty 256 g); walked = tt; released = tt };
      }

  -- at a position, before a step of processor p
  module _ (z : Position) (t : Trail s z) (debts : DebtsTied s h n g i t) (fine : Fine s z) (is_home : HomeAt z) (p : ℕ) (p_in : p < s.nodes * s.procs) where
    abbrev now : State
    now = debts_at s h n g i t

    -- what is so there, for the rows
    abbrev scene : Scene
    scene =
        record {
          h = h;
          n = n;
          g = g;
          i = i;
          u = who_at s p;
          ws = z.words;
          b = dir_at s g t;
          f = now;
          h_in = h_in;
          n_in = n_in;
          g_in = g_in;
          i_in = i_in;
          few = few;
          at = placed (who_at s p) p_in;
          long = fine.long;
          owned = Dir.match_of s g 0 p _ _ (dir z t).match;
          holds = E.goes_on s.nodes (node_in s) O.start (dir_of s g t) (E.starts s.nodes (node_in s)) (dir z t).runs;
          lawful = goes_on home first top begun (debts_of s h n g i t) (starts home first top 1 (λ q. D.Running) (omega arith, λ q. omega arith)) debts.runs;
          is_home = is_home;
          match = match_of s h n g i 0 p _ _ debts.match;
        }

    -- and where the processor stands, which has not ended
    here : z.works p ≢ Gone → Here scene (z.works p) (z.owns p)
    here lives = let y = sits s few t p lives in record { owns = (dir z t).knows p p_in; fits = y.fits; releasing = y.releasing; maps_in = y.maps_in; dirty_in = y.dirty_in; knows = debts.knows p p_in }

    -- what a step from w to v gives
    record Follows (w v : Work) (o : Own) (ws' : List ℕ) (es : List Event) : Type 0 where
      pub acted : Acted scene v o ws' es
      pub made : AllMade n g home first p (turn_at (who_at s p) w) now es

    -- an operation aside changes no word of these
    aside_words : (a : Act) → IsAside a → IsSparing (who_at s p) a → Match h n g i (who_at s p) (done (lay_in s) z.words a) now
    aside_words (Get it) e sp = subst (λ y. Match h n g i (who_at s p) y now) (sym (done_get (who_at s p) z.words it)) (match_of s h n g i 0 p _ _ debts.match)
    aside_words (Put it y) e sp = untouched scene (Put it y) sp.0 (aside_off scene (Put it y) e)
    aside_words (Swap it y) e sp = untouched scene (Swap it y) sp.0 (aside_off scene (Swap it y) e)
    aside_words (Change it y y') e sp = untouched scene (Change it y y') sp.0 (aside_off scene (Change it y y') e)
    aside_words (Add it y) e sp = untouched scene (Add it y) sp.0 (aside_off scene (Add it y) e)
    aside_words (Or it y) e sp = untouched scene (Or it y) sp.0 (aside_off scene (Or it y) e)

    -- an operation
    does_follows : {w v : Work} {a : Act} (any : Option ℕ) (does : Does (who_at s p) (z.owns p) w a (answer any a (reply (lay_in s) z.words a)) v) → (w ≢ Gone → Here scene w (z.owns p)) → Knows h n g i (who_at s p) now w (z.owns p)
        → ((x : TurnId) → IsWithin (lay_in s) (turn_item x) → turn_at (who_at s p) w ≡ Some x → word (lay_in s) z.words (turn_item x) ≡ suc p)
        → HoldsMaps s z p → IsSparing (who_at s p) a → Follows w v (z.owns p) (done (lay_in s) z.words a) (does_debts s h n g i now p does)
    does_follows {a = a} any (Row within step) at known turn own spares =
        record {
          acted = each.row scene (z.owns p) step (record { here = at (row_lives (who_at s p) step); within = within; told = answers any a _ _ (reply_is (lay_in s) z.words a); own = own g g_in; clocks = fine.clocks; turn = turn });
          made = row_made h n g i (who_at s p) now step known;
        }
    does_follows any (Won held within win e) at known turn own spares =
        record {
          acted = each.win scene (z.owns p) win (record { here = at (win_lives (who_at s p) win); within = within; told = sym e ∙ reply_is (lay_in s) z.words (Change (turn_item held) 0 (p + 1)); own = own g g_in; clocks = fine.clocks; turn = turn });
          made = tt;
        }
    does_follows any (Lost held within win ne) at known turn own spares =
        let same = lost_same (who_at s p) z.words (turn_item held) (p + 1) (λ e. ne (reply_is (lay_in s) z.words (Change (turn_item held) 0 (p + 1)) ∙ e)) in
        record { acted = record { runs = tt; match = subst (λ y. Match h n g i (who_at s p) y now) (sym same) (match_of s h n g i 0 p _ _ debts.match); knows = known }; made = tt }
    does_follows any (Aside {a = a} may aside) at known turn own spares = record { acted = record { runs = tt; match = aside_words a aside spares; knows = known }; made = tt }

    -- any step
    follows : (piece : Piece s z p) → IsFair s z p piece → Follows (z.works p) (left_work s piece) (left_own s z p piece) (behind s z p piece).words (piece_debts s h n g i now piece)
    follows (Decides slip) fair = record { acted = each.slip scene (z.owns p) slip (fair g g_in) (here (slip_lives (who_at s p) slip)); made = slip_made h n g i (who_at s p) now slip }
    follows (Acts any does) fair = does_follows any does here (debts.knows p p_in) (λ x x_in d. (fine.turns p x p_in x_in).1 d ∙ omega arith) fair.0 fair.1
    follows (Notes {v = v} e noted) fair = record { acted = noted_acts (is_gone (z.works p)); made = note_made h n g i (who_at s p) now noted }
      where
        noted_acts : (z.works p ≡ Gone) ⊎ (z.works p ≢ Gone) → Acted scene v (own_after (z.owns p) e) z.words (note_events h n g i (who_at s p) noted)
        noted_acts (inl d) =
            let y = note_gone (who_at s p) h n g i noted d in
            subst (λ x. Acted scene x (own_after (z.owns p) e) z.words (note_events h n g i (who_at s p) noted)) (sym y.0)
            (subst (λ x. Acted scene Gone (own_after (z.owns p) e) z.words x) (sym y.1) (record { runs = tt; match = match_of s h n g i 0 p _ _ debts.match; knows = gone scene now (own_after (z.owns p) e) }))
        noted_acts (inr lives) = each.note scene (z.owns p) noted (here lives)
    follows (Starves o none) fair = record { acted = record { runs = tt; match = untouched scene (Change Stop 0 (p + 1)) tt (λ e. e); knows = gone scene now o }; made = tt }

    -- two that stand at a turn are one
    one_turn : (q : ℕ) → q < s.nodes * s.procs → q ≢ p → (x : TurnId) → IsWithin (lay_in s) (turn_item x) → turn_at (who_at s q) (z.works q) ≡ Some x → turn_at (who_at s p) (z.works p) ≢ Some x
    one_turn q q_in ne x x_in d d' = ne (let x1 = (fine.turns q x q_in x_in).1 d in let x2 = (fine.turns p x p_in x_in).1 d' in omega (arith, x1, x2))

    -- the trail with the step is tied
    step_tied : (piece : Piece s z p) (fair : IsFair s z p piece) (quiet : IsQuiet s z p) → DebtsTied s h n g i (Goes t p p_in fine piece fair quiet)
    step_tied piece fair quiet =
        let k = follows piece fair in
        let es = piece_debts s h n g i now piece in
        let f' = debts_at s h n g i (Goes t p p_in fine piece fair quiet) in
        let same = sym (after_append home first top begun es (debts_of s h n g i t)) in
        record {
          runs = runs_append home first top begun es (debts_of s h n g i t) debts.runs k.acted.runs;
          match = subst (λ y. Match h n g i (who_at s 0) (behind s z p piece).words y) same (match_of s h n g i p 0 _ _ k.acted.match);
          knows = λ q q_in. behind_at s (Knows h n g i (who_at s q) f') z p q piece
              (λ e. subst (λ y. Knows h n g i (who_at s y) f' (left_work s piece) (left_own s z p piece)) (sym e) (subst (λ y. Knows h n g i (who_at s p) y (left_work s piece) (left_own s z p piece)) same k.acted.knows))
              (λ ne. subst (λ y. Knows h n g i (who_at s q) y (z.works q) (z.owns q)) same (others_stay h n g i (who_at s q) (z.works q) (z.owns q) p (turn_at (who_at s p) (z.works p)) ne n_in g_in (one_turn q q_in ne) now es k.made (debts.knows q q_in)));
        }

  -- along every trail that leads to a position where the page's home is node h, or it has none yet
  pub debts_tied : {z : Position} (t : Trail s z) → IsHome h g (who_at s 0) z.words → DebtsTied s h n g i t
  debts_tied Starts is_home = outset_tied
  debts_tied (Goes {z = z} t p p_in fine piece fair quiet) is_home =
      let before = home_before z t p p_in fine piece fair quiet is_home in
      step_tied z t (debts_tied t before) fine before p p_in piece fair quiet

-- a list of loose events that is taken apart shows what is owed where its trail leads
module _ (s : Setup) (dir : (g : ℕ) → g < s.program.shape.pages → (z : Position) (t : Trail s z) → DirTied s g t) (each : EachActs) where
  pub debts_of_taken : (events : List (Going × Option ℕ)) → IsSetup s → Taken s events → Tied s (after_all_loose s (begin s) events)
  debts_of_taken events is taken h n g i h_in n_in g_in i_in is_home = (
    debts_of s h n g i taken.trail,
    debts.runs,
    record {
      words = subst (λ ws. Match h n g i (who_at s 0) ws (debts_at s h n g i taken.trail)) taken.pictures.words debts.match;
      all = all_placed;
    },
  )
    where
      debts : DebtsTied s h n g i taken.trail
      debts = debts_tied s h n g i h_in n_in g_in i_in is.sizes.1 (λ z t. dir g g_in z t) each taken.trail (subst (λ ws. IsHome h g (who_at s 0) ws) (sym taken.pictures.words) is_home)

      all_placed : (p : ℕ) (x : Processor) → slice_get (after_all_loose s (begin s) events).processors p ≡ Some x → Placed s h n g i (debts_at s h n g i taken.trail) p x
      all_placed p x e =
          let p_in : p < s.nodes * s.procs = omega (arith, slice_get_within (after_all_loose s (begin s) events).processors p x e, (every_whole s events).1) in
          let seen = taken.pictures.all p x e in
          record {
            work = taken.last.works p;
            stands = seen.1;
            knows = subst (λ o. Knows h n g i (who_at s p) (debts_at s h n g i taken.trail) (taken.last.works p) o) seen.0 (debts.knows p p_in);
          }
