-- What a run taken apart is to a page's copy: along it the events read off the rows keep all premises, and words and places show where they lead.
use Rattle.std.proofs.Common.{◌≡◌, ◌≢◌, ◌⊎◌, inl, inr, ℕ, suc, ◌+◌, ◌*◌, ◌%◌, ◌/◌, ◌<◌, ◌≤◌, ◌==◌, false, List, [], ◌∷◌, ◌++◌, Option, Some, refl, sym, ap, ◌∙◌, subst, arith, if◌then◌else◌}
use Rattle.std.specs.Prelude.{slice_get}
use Rattle.std.specs.Int.{bit_at}
use Rattle.std.proofs.Math.Nat.{div-lt_iff_lt-mul}
use Rattle.std.proofs.lemmas.Bool.{cases_eq, eq-eqb, ne_eqb}
use Rattle.std.proofs.lemmas.Nat.Bits.{bit_at-zero}
use Rattle.std.proofs.lemmas.Option.{slice_get_within}
use Rattle.dsm_words.specs.declared.item.Item.TheVariants.{Map, Dir as DirWord, Update, Notice, Clock, Turn, Home, Own as OwnWord, Global, Stop}
use Rattle.dsm_words.specs.Place.{IsWithin}
use Rattle.dsm_words.specs.Pages.{group_of}
use Rattle.dsm_words.specs.Script.{Act, Get, Put, Swap, Change, Add, Or}
use Rattle.dsm_words.specs.Words.{word, done, reply}
use Rattle.dsm_words.proofs.WordLaws.{reply_is}
use Rattle.dsm_clock.specs.declared.turns.TurnId.{TurnId}
use Rattle.dsm_clock.specs.declared.turns.TurnId.TheVariants.{Page}
use Rattle.dsm_clock.specs.Turns.{turn_item}
use Rattle.dsm_protocol.specs.Own.{Own, Who}
use Rattle.dsm_protocol.specs.Processors.{Processor}
use Rattle.dsm_protocol.specs.Stages.{Work, Gone, turn_at}
use Rattle.dsm_protocol.specs.Standing.{Does, Row, Won, Lost, Aside, IsAside}
use Rattle.dsm_protocol.proofs.Placed.{placed, group_in}
use Rattle.dsm_runs.specs.Setups.{Setup, IsSetup, lay_in, who_at}
use Rattle.dsm_runs.specs.Clusters.{Event as Going, start as begin, answer, after_all_loose}
use Rattle.dsm_runs.proofs.Mappings.{IsSparing}
use Rattle.dsm_runs.proofs.Starting.{starts_by_items, every_whole}
use Rattle.dsm_owners.specs.Directory as D
use Rattle.dsm_owners.specs.Premises.{Runs as Keeps_all}
use Rattle.dsm_owners.proofs.Every as E
use Rattle.dsm_ties.specs.Always.{AlwaysLoosely}
use Rattle.dsm_ties.specs.Tied.{node_in, has_bit, Knows as Owns, Match as Owned}
use Rattle.dsm_ties.specs.Views.{view}
use Rattle.dsm_ties.proofs.Along as Dir
use Rattle.dsm_ties.proofs.Along.{dir_tied}
use Rattle.dsm_ties.proofs.Elsewhere.{lost_same}
use Rattle.dsm_ties.proofs.Frame.{done_get}
use Rattle.dsm_ties.proofs.Following.{answers}
use Rattle.dsm_ties.proofs.RunTrails.{every_run}
use Rattle.dsm_ties.proofs.Trails.{Position, Piece, Decides, Acts, Notes, Starves, behind, Fine, HoldsMaps, IsFair, IsQuiet, Trail, Starts, Goes, piece_dir, dir_of, dir_at, DirTied, Taken}
use Rattle.dsm_fresh.specs.Stages.{is_worker}
use Rattle.dsm_fresh.specs.Pages.{Event, State, start, after}
use Rattle.dsm_fresh.specs.Premises.{Runs}
use Rattle.dsm_freshness.specs.Events.{step_events, slip_events, note_events}
use Rattle.dsm_freshness.specs.Tied.{may_load, Match, Knows, Placed, Tied}
use Rattle.dsm_freshness.proofs.Words.{Scene, Fetches, OthersWork, untouched}
use Rattle.dsm_freshness.proofs.Frame.{Fits, Here, Acted}
use Rattle.dsm_freshness.proofs.Making.{AllMade, row_made, slip_made, note_made}
use Rattle.dsm_freshness.proofs.Elsewhere.{others_stay}
use Rattle.dsm_freshness.proofs.Fitting.{row_fits, win_fits, slip_fits, note_fits}
use Rattle.dsm_freshness.proofs.Following.{aside_off, after_append, runs_append}
use Rattle.dsm_freshness.proofs.Joining.{each_acts}
use Rattle.dsm_freshness.proofs.Working.{work_fetches}

module _ (s : Setup) (m n g : ℕ) where
  -- what an operation is to the copy,
  abbrev pub does_fresh : (p : ℕ) {o : Own} {w : Work} {a : Act} {x : ℕ} {v : Work} → Does (who_at s p) o w a x v → List Event
  does_fresh p (Row within step) = step_events m n g (who_at s p) step
  does_fresh p (Won turn within win is) = []
  does_fresh p (Lost turn within win is) = []
  does_fresh p (Aside may is) = []

  -- a step,
  abbrev pub piece_fresh : {z : Position} {p : ℕ} → Piece s z p → List Event
  piece_fresh {p = p} (Decides slip) = slip_events m n g (who_at s p) slip
  piece_fresh {p = p} (Acts any does) = does_fresh p does
  piece_fresh {p = p} (Notes i noted) = note_events m n g (who_at s p) noted
  piece_fresh (Starves o none) = []

  -- and a trail, oldest first
  abbrev pub fresh_of : {z : Position} → Trail s z → List Event
  fresh_of Starts = []
  fresh_of (Goes t p p_in fine piece fair quiet) = fresh_of t ++ piece_fresh piece

  abbrev pub fresh_at : {z : Position} → Trail s z → State
  fresh_at t = after (n * s.procs) start (fresh_of t)

  -- the events of the copy keep all their premises, and words and places show where they lead
  pub record FreshTied {z : Position} (t : Trail s z) : Type 0 where
    pub runs : Runs (n * s.procs) (n * s.procs + s.procs) start (fresh_of t)
    pub match : Match m n g (who_at s 0) z.words (fresh_at t)
    pub knows : (p : ℕ) → p < s.nodes * s.procs → Knows m n g (who_at s p) (fresh_at t) (z.works p)
    pub fits : (p : ℕ) → p < s.nodes * s.procs → Fits (z.works p)

-- the words show the same to each processor
pub match_of : (s : Setup) (m n g p q : ℕ) (ws : List ℕ) (f : State) → Match m n g (who_at s p) ws f → Match m n g (who_at s q) ws f
match_of s m n g p q ws f k = record { dir = k.dir; update = k.update; notice = k.notice; clock = k.clock; bit = k.bit; own = k.own; mapped = k.mapped; worker = k.worker; drainer = k.drainer }

-- one that has ended knows nothing
pub gone : (m n g : ℕ) (u : Who) (f : State) → Knows m n g u f Gone
gone m n g u f = record { works = λ d. absurd (cc d); stage = λ d ne. absurd (ne refl); hand = λ d e. absurd (cc e); stamp = λ d. tt; served = λ d. absurd (cc d) }

-- at the start no word shows a copy
module _ (s : Setup) (m n g : ℕ) (m_in : m < s.nodes) (n_in : n < s.nodes) (g_in : g < s.program.shape.pages) where
  none_set : (v : ℕ) → v ≡ 0 → has_bit g v ≡ false
  none_set v z = ne_eqb (bit_at v (g % 64)) 1 (λ e. let b = bit_at-zero (g % 64) in let c : bit_at 0 (g % 64) ≡ 1 = sym (ap (λ y. bit_at y (g % 64)) z) ∙ e in absurd (omega (arith, b, c)))

  pub begins : Match m n g (who_at s 0) (begin s).words start
  begins =
      record {
        dir = starts_by_items s (DirWord n g) (n_in, g_in);
        update = starts_by_items s (Update n g) (n_in, g_in);
        notice = starts_by_items s (Notice n g) (n_in, g_in);
        clock = starts_by_items s (Clock n) n_in;
        bit = none_set _ (starts_by_items s (Global n m (group_of g)) (n_in, m_in, group_in (lay_in s) g g_in));
        own = λ q i e. none_set _ (starts_by_items s (OwnWord q (group_of g)) (i, group_in (lay_in s) g g_in));
        mapped = λ q i e. ap may_load (starts_by_items s (Map q g) (i, g_in));
        worker = λ q i. absurd (cc i);
        drainer = λ z. refl;
      }

-- where a step leads its processor
abbrev pub left : (s : Setup) {z : Position} {p : ℕ} → Piece s z p → Work
left s (Decides {v = v} slip) = v
left s (Acts {v = v} any does) = v
left s (Notes {v = v} i noted) = v
left s (Starves o none) = Gone

-- where a value is put at p, at each q: the new one, or the old
pub at_put : (P : Work → Type 0) (works : ℕ → Work) (p q : ℕ) (v : Work) → (q ≡ p → P v) → (q ≢ p → P (works q)) → P (if q == p then v else works q)
at_put P works p q v here there = go (cases_eq q p)
  where
    go : (q ≡ p) ⊎ (q ≢ p) → P (if q == p then v else works q)
    go (inl e) = rw (eq-eqb q p e) (here e)
    go (inr ne) = rw (ne_eqb q p ne) (there ne)

-- and so the places behind a step are those before it, but for its processor's
pub works_left : (s : Setup) (z : Position) (p : ℕ) (piece : Piece s z p) (q : ℕ) → (if q == p then left s piece else z.works q) ≡ (behind s z p piece).works q
works_left s z p (Decides slip) q = refl
works_left s z p (Acts any does) q = refl
works_left s z p (Notes i noted) q = refl
works_left s z p (Starves o none) q = refl

-- events that keep their premises behind others
pub runs_behind : (top : ℕ) (node : ℕ → ℕ) (b : D.State) (es fs : List D.Event) → Keeps_all top node b (es ++ fs) → Keeps_all top node (D.after node b es) fs
runs_behind top node b [] fs r = r
runs_behind top node b (e ∷ es) fs r = runs_behind top node (D.after_event node b e) es fs r.1

module _ (s : Setup) (m n g : ℕ) (apart : m ≢ n) (m_in : m < s.nodes) (n_in : n < s.nodes) (g_in : g < s.program.shape.pages) (few : s.program.shape.pages ≤ 256) (full : s.program.shape.words ≢ 0) (some : 0 < s.procs) (dir : (z : Position) (t : Trail s z) → DirTied s g t) where
  abbrev first : ℕ
  first = n * s.procs

  abbrev top : ℕ
  top = n * s.procs + s.procs

  -- the home is not this node
  abbrev Away : Position → Type 0
  Away z = word (lay_in s) z.words (Home g) ≢ suc n

  -- a home that is another node behind a step was not this one before it
  away_before : (z : Position) (t : Trail s z) (p : ℕ) (p_in : p < s.nodes * s.procs) (fine : Fine s z) (piece : Piece s z p) (fair : IsFair s z p piece) (quiet : IsQuiet s z p) → Away (behind s z p piece) → Away z
  away_before z t p p_in fine piece fair quiet away is =
      let old = dir z t in
      let new = dir (behind s z p piece) (Goes t p p_in fine piece fair quiet) in
      let home : (dir_at s g t).home ≡ suc n = sym old.match.home ∙ is in
      let runs = runs_behind s.nodes (node_in s) D.start (dir_of s g t) (piece_dir s g piece) new.runs in
      let stays = E.stays s.nodes (node_in s) (dir_at s g t) (piece_dir s g piece) runs (λ e. absurd (omega (arith, e, home))) in
      away (new.match.home ∙ (ap (λ b. b.home) (Dir.after_append s.nodes (node_in s) D.start (dir_of s g t) (piece_dir s g piece)) ∙ (stays ∙ home)))

  -- before any step nobody has a copy
  outset_tied : FreshTied s m n g Starts
  outset_tied =
      record {
        runs = tt;
        match = begins s m n g m_in n_in g_in;
        knows = λ q q_in. record { works = λ d. absurd (cc d); stage = λ d e. refl; hand = λ d e. absurd (cc e); stamp = λ d. tt; served = λ d. absurd (cc d) };
        fits = λ q q_in. tt;
      }

  -- at a position, before a step of processor p
  module _ (z : Position) (t : Trail s z) (fresh : FreshTied s m n g t) (fine : Fine s z) (away : Away z) (p : ℕ) (p_in : p < s.nodes * s.procs) where
    -- who is at work holds the turn, and stands where both states say
    others_work : OthersWork p (dir_at s g t) (fresh_at s m n g t)
    others_work q ne i = go (fresh.match.worker q i)
      where
        go : (word (lay_in s) z.words (Turn n g) ≡ suc q) × (q / s.procs ≡ n) → Fetches ((dir_at s g t).processors q).stage (fresh_at s m n g t).page.work
        go (holds, at) =
            let q_in : q < s.nodes * s.procs = (div-lt_iff_lt-mul {k = s.procs} {x = q} {y = s.nodes} some).0 (subst (λ z. z < s.nodes) (sym at) n_in) in
            let tu = (fine.turns q (Page n g) q_in (n_in, g_in)).0 (holds ∙ omega arith) in
            let k = (fresh.knows q q_in).works tu in
            let r = work_fetches m n g (who_at s q) k.0 q (z.works q) (ap (is_worker q) (sym k.1) ∙ i) in
            subst (λ y. Fetches y (fresh_at s m n g t).page.work) (sym ((dir z t).knows q q_in).at) (subst (λ y. Fetches (view (who_at s q) g (z.works q)) y) (sym k.1) r)

    -- what is so there, for the rows
    abbrev scene : Scene
    scene =
        record {
          m = m;
          n = n;
          g = g;
          u = who_at s p;
          ws = z.words;
          b = dir_at s g t;
          f = fresh_at s m n g t;
          apart = apart;
          m_in = m_in;
          n_in = n_in;
          g_in = g_in;
          few = few;
          full = full;
          at = placed (who_at s p) p_in;
          long = fine.long;
          owned = Dir.match_of s g 0 p _ _ (dir z t).match;
          holds = E.goes_on s.nodes (node_in s) D.start (dir_of s g t) (E.starts s.nodes (node_in s)) (dir z t).runs;
          away = λ e. away ((dir z t).match.home ∙ e);
          match = match_of s m n g 0 p _ _ fresh.match;
          others = others_work;
        }

    -- and where the processor stands
    here : Here scene (z.works p) (z.owns p)
    here = record { owns = (dir z t).knows p p_in; fits = fresh.fits p p_in; knows = fresh.knows p p_in }

    -- what a step from w to v gives
    record Follows (w v : Work) (ws' : List ℕ) (es : List Event) : Type 0 where
      pub acted : Acted scene v ws' es
      pub made : AllMade m n g p (turn_at (who_at s p) w) es
      pub fits : Fits v

    -- an operation aside changes no word of the copy
    aside_words : (a : Act) → IsAside a → IsSparing (who_at s p) a → Match m n g (who_at s p) (done (lay_in s) z.words a) (fresh_at s m n g t)
    aside_words (Get it) i sp = subst (λ y. Match m n g (who_at s p) y (fresh_at s m n g t)) (sym (done_get (who_at s p) z.words it)) (match_of s m n g 0 p _ _ fresh.match)
    aside_words (Put it y) i sp = untouched scene (Put it y) sp.0 (aside_off scene (Put it y) i)
    aside_words (Swap it y) i sp = untouched scene (Swap it y) sp.0 (aside_off scene (Swap it y) i)
    aside_words (Change it y y') i sp = untouched scene (Change it y y') sp.0 (aside_off scene (Change it y y') i)
    aside_words (Add it y) i sp = untouched scene (Add it y) sp.0 (aside_off scene (Add it y) i)
    aside_words (Or it y) i sp = untouched scene (Or it y) sp.0 (aside_off scene (Or it y) i)

    -- an operation
    does_follows : {w v : Work} {a : Act} (any : Option ℕ) (does : Does (who_at s p) (z.owns p) w a (answer any a (reply (lay_in s) z.words a)) v) → Here scene w (z.owns p) → ((x : TurnId) → IsWithin (lay_in s) (turn_item x) → turn_at (who_at s p) w ≡ Some x → word (lay_in s) z.words (turn_item x) ≡ suc p)
        → HoldsMaps s z p → IsSparing (who_at s p) a → Follows w v (done (lay_in s) z.words a) (does_fresh s m n g p does)
    does_follows {a = a} any (Row within step) at turn own spares =
        record {
          acted = each_acts.row scene (z.owns p) step (record { here = at; within = within; told = answers any a _ _ (reply_is (lay_in s) z.words a); own = own g g_in; clocks = fine.clocks; turn = turn });
          made = row_made m n g (who_at s p) step;
          fits = row_fits (who_at s p) step at.fits;
        }
    does_follows any (Won held within win e) at turn own spares =
        record {
          acted = each_acts.win scene (z.owns p) win (record { here = at; within = within; told = sym e ∙ reply_is (lay_in s) z.words (Change (turn_item held) 0 (p + 1)); own = own g g_in; clocks = fine.clocks; turn = turn });
          made = tt;
          fits = win_fits (who_at s p) win at.fits;
        }
    does_follows any (Lost held within win ne) at turn own spares =
        let same = lost_same (who_at s p) z.words (turn_item held) (p + 1) (λ e. ne (reply_is (lay_in s) z.words (Change (turn_item held) 0 (p + 1)) ∙ e)) in
        record { acted = record { runs = tt; match = subst (λ y. Match m n g (who_at s p) y (fresh_at s m n g t)) (sym same) (match_of s m n g 0 p _ _ fresh.match); knows = at.knows }; made = tt; fits = at.fits }
    does_follows any (Aside {a = a} may aside) at turn own spares = record { acted = record { runs = tt; match = aside_words a aside spares; knows = at.knows }; made = tt; fits = at.fits }

    -- any step
    follows : (piece : Piece s z p) → IsFair s z p piece → Follows (z.works p) (left s piece) (behind s z p piece).words (piece_fresh s m n g piece)
    follows (Decides slip) fair = record { acted = each_acts.slip scene (z.owns p) slip (fair g g_in) here; made = slip_made m n g (who_at s p) slip; fits = slip_fits (who_at s p) slip here.fits }
    follows (Acts any does) fair = does_follows any does here (λ x i d. (fine.turns p x p_in i).1 d ∙ omega arith) fair.0 fair.1
    follows (Notes i noted) fair = record { acted = each_acts.note scene (z.owns p) noted here; made = note_made m n g (who_at s p) noted; fits = note_fits (who_at s p) noted here.fits }
    follows (Starves o none) fair = record { acted = record { runs = tt; match = untouched scene (Change Stop 0 (p + 1)) tt (λ e. e); knows = gone m n g (who_at s p) (fresh_at s m n g t) }; made = tt; fits = tt }

    -- two that stand at a turn are one
    one_turn : (q : ℕ) → q < s.nodes * s.procs → q ≢ p → (x : TurnId) → IsWithin (lay_in s) (turn_item x) → turn_at (who_at s q) (z.works q) ≡ Some x → turn_at (who_at s p) (z.works p) ≢ Some x
    one_turn q q_in ne x i d d' = ne (let x1 = (fine.turns q x q_in i).1 d in let x2 = (fine.turns p x p_in i).1 d' in omega (arith, x1, x2))

    -- the trail with the step is tied
    step_tied : (piece : Piece s z p) (fair : IsFair s z p piece) (quiet : IsQuiet s z p) → FreshTied s m n g (Goes t p p_in fine piece fair quiet)
    step_tied piece fair quiet =
        let k = follows piece fair in
        let f = fresh_at s m n g t in
        let es = piece_fresh s m n g piece in
        let f' = fresh_at s m n g (Goes t p p_in fine piece fair quiet) in
        let same = sym (after_append first top start (fresh_of s m n g t) es) in
        record {
          runs = runs_append first top start (fresh_of s m n g t) es fresh.runs k.acted.runs;
          match = subst (λ y. Match m n g (who_at s 0) (behind s z p piece).words y) same (match_of s m n g p 0 _ _ k.acted.match);
          knows = λ q q_in. subst (λ y. Knows m n g (who_at s q) f' y) (works_left s z p piece q) (at_put (Knows m n g (who_at s q) f') z.works p q (left s piece)
              (λ e. subst (λ y. Knows m n g (who_at s y) f' (left s piece)) (sym e) (subst (λ y. Knows m n g (who_at s p) y (left s piece)) same k.acted.knows))
              (λ ne. subst (λ y. Knows m n g (who_at s q) y (z.works q)) same (others_stay m n g first (who_at s q) (z.works q) p (turn_at (who_at s p) (z.works p)) ne m_in n_in g_in (one_turn q q_in ne) f es k.made (fresh.knows q q_in))));
          fits = λ q q_in. subst Fits (works_left s z p piece q) (at_put Fits z.works p q (left s piece) (λ e. k.fits) (λ ne. fresh.fits q q_in));
        }

  -- along every trail that leads to a position where the home is another node
  pub fresh_tied : {z : Position} (t : Trail s z) → word (lay_in s) z.words (Home g) ≢ suc n → FreshTied s m n g t
  fresh_tied Starts away = outset_tied
  fresh_tied (Goes {z = z} t p p_in fine piece fair quiet) away =
      let before = away_before z t p p_in fine piece fair quiet away in
      step_tied z t (fresh_tied t before) fine before p p_in piece fair quiet

-- a list of loose events that is taken apart shows the copy where its trail leads
module _ (s : Setup) (dir : (g : ℕ) → g < s.program.shape.pages → (z : Position) (t : Trail s z) → DirTied s g t) where
  pub fresh_of_taken : (events : List (Going × Option ℕ)) → IsSetup s → Taken s events → Tied s (after_all_loose s (begin s) events)
  fresh_of_taken events is taken m n g m_in n_in ne g_in away = (
    dir_of s g taken.trail,
    owned.runs,
    fresh_of s m n g taken.trail,
    fresh.runs,
    record {
      owned = subst (λ ws. Owned (who_at s 0) g ws (dir_at s g taken.trail)) taken.pictures.words owned.match;
      words = subst (λ ws. Match m n g (who_at s 0) ws (fresh_at s m n g taken.trail)) taken.pictures.words fresh.match;
      all = all_placed;
    },
  )
    where
      owned : DirTied s g taken.trail
      owned = dir g g_in taken.last taken.trail

      fresh : FreshTied s m n g taken.trail
      fresh =
          let apart : m ≢ n = λ e. ne (sym e) in
          let full : s.program.shape.words ≢ 0 = λ e. absurd (omega (arith, is.sizes.2, e)) in
          fresh_tied s m n g apart m_in n_in g_in is.sizes.1 full is.procs.0 (λ z t. dir g g_in z t) taken.trail (subst (λ ws. word (lay_in s) ws (Home g) ≢ suc n) (sym taken.pictures.words) away)

      all_placed : (p : ℕ) (x : Processor) → slice_get (after_all_loose s (begin s) events).processors p ≡ Some x → Placed s m n g (dir_at s g taken.trail) (fresh_at s m n g taken.trail) p x
      all_placed p x h =
          let p_in : p < s.nodes * s.procs = omega (arith, slice_get_within (after_all_loose s (begin s) events).processors p x h, (every_whole s events).1) in
          let seen = taken.pictures.all p x h in
          record {
            work = taken.last.works p;
            stands = seen.1;
            owns = subst (λ o. Owns (who_at s p) g (dir_at s g taken.trail).home ((dir_at s g taken.trail).nodes (node_in s p)) ((dir_at s g taken.trail).processors p) (taken.last.works p) o) seen.0 (owned.knows p p_in);
            knows = fresh.knows p p_in;
          }

-- and so each copy is shown behind every list of them
pub every_fresh : AlwaysLoosely Tied
every_fresh s events is = fresh_of_taken s (λ g g_in z t. dir_tied s g g_in t) events is (every_run s is events)
