-- A step of a trail, from what is tied before it to what is tied behind it.
use Rattle.std.proofs.Common.{◌≡◌, ◌≢◌, ◌⊎◌, inl, inr, ℕ, suc, ◌+◌, ◌*◌, ◌<◌, ◌≤◌, ◌==◌, true, List, [], ◌∷◌, ◌++◌, Option, None, Some, refl, sym, ap, ◌∙◌, subst, arith}
use Rattle.dsm_words.specs.declared.item.Item.TheVariants.{Turn}
use Rattle.dsm_words.specs.Script.{Act, Change}
use Rattle.dsm_words.specs.Place.{IsWithin}
use Rattle.dsm_words.specs.Words.{word, done, reply}
use Rattle.dsm_words.proofs.WordLaws.{reply_is}
use Rattle.dsm_clock.specs.declared.turns.TurnId.{TurnId}
use Rattle.dsm_clock.specs.Turns.{turn_item}
use Rattle.dsm_protocol.specs.Standing.{Does, Row, Won, Lost, Aside}
use Rattle.dsm_runs.specs.Clusters.{answer}
use Rattle.dsm_runs.proofs.Mappings.{IsSparing}
use Rattle.dsm_ties.proofs.Elsewhere.{lost_same}
use Rattle.dsm_freshness.proofs.Frame.{Fits}
use Rattle.dsm_twoway.proofs.Following.{EachActs}
use Rattle.dsm_twoway.proofs.Acting.{answer_none, same_acts, off_acts, gone_acts, gone_notes}
use Rattle.dsm_protocol.specs.Stages.{Work, Gone, turn_at}
use Rattle.dsm_protocol.proofs.Placed.{placed}
use Rattle.dsm_runs.specs.Setups.{Setup, lay_in, who_at}
use Rattle.dsm_owners.specs.Directory as O
use Rattle.dsm_owners.proofs.Every as E
use Rattle.dsm_ties.specs.Tied.{node_in}
use Rattle.dsm_ties.proofs.Along as Dir
use Rattle.dsm_ties.proofs.Trails.{Position, Piece, Decides, Acts, Notes, Starves, behind, Fine, HoldsMaps, IsFair, IsQuiet, IsSure, Trail, Starts, Goes, dir_of, dir_at, DirTied}
use Rattle.dsm_copies.specs.Copies as W
use Rattle.dsm_copies.specs.Premises.{Order, But}
use Rattle.dsm_copies.specs.Counts.{Count, no_count, count_after}
use Rattle.dsm_copies.specs.Debts.{no_debts, RunsOf}
use Rattle.dsm_fresh.specs.Pages as S
use Rattle.dsm_freshness.proofs.Trailing as FT
use Rattle.dsm_freshness.proofs.Trailing.{left, does_fresh, piece_fresh, fresh_of, fresh_at, FreshTied}
use Rattle.dsm_debts.specs.Page as D
use Rattle.dsm_debts.specs.Joining.{Move, At, Other, OnOthers, RunsMoves, events_of}
use Rattle.dsm_debts.proofs.Keeps.{Holds, starts, goes_on}
use Rattle.dsm_debts.proofs.Facts.{is_posting}
use Rattle.dsm_releases.specs.Tied.{IsHome}
use Rattle.dsm_releases.specs.Tied as RMatch
use Rattle.dsm_freshness.specs.Events as FE
use Rattle.dsm_freshness.specs.Tied as FMatch
use Rattle.dsm_freshness.proofs.Following as FA
use Rattle.dsm_releases.proofs.Fitting.{row_lives, win_lives, slip_lives, is_gone}
use Rattle.dsm_releases.proofs.Trailing as RT
use Rattle.dsm_releases.proofs.Trailing.{DebtsTied}
use Rattle.dsm_twoway.specs.Events.{place_of, note_moves}
use Rattle.dsm_twoway.specs.Tied.{IsAway, Match, Knows}
use Rattle.dsm_twoway.proofs.Appending.{after_append, count_append, runs_append, runs_asked, pages_append, events_append, moves_append}
use Rattle.dsm_twoway.proofs.Scene.{Asked, Holder, Scene, Here, Now, Acted, AllAgree, x_left, c_left, pages_left}
use Rattle.dsm_twoway.proofs.FitTrails.{maps_along}
use Rattle.dsm_twoway.proofs.PlacePages.{AllMay, AllAgreeTo, moves_run}
use Rattle.dsm_twoway.proofs.PageTrails.{pages_are}
use Rattle.dsm_twoway.proofs.Posting.{home_owes_all, home_matches, ended_posts}
use Rattle.dsm_twoway.proofs.Moving.{place, first_at, top_at, first_value, first_copies, first_pages, does_moves, piece_moves, moves_of, pages_at, events_at, copies_at, count_at, debts_at, fresh_in, WordTied}

-- the words and the numbers show the same to each processor
pub match_of : (s : Setup) (h g i p q : ℕ) (ws : List ℕ) (fresh : (m n : ℕ) → S.State) (x : W.State) (c : Count) → Match h g i (who_at s p) ws fresh x c → Match h g i (who_at s q) ws fresh x c
match_of s h g i p q ws fresh x c k =
    record {
      words = record {
        master_is = k.words.master_is;
        home_is = k.words.home_is;
        each = λ n away. let y = k.words.each n away in record { frame_is = y.frame_is; twin_is = y.twin_is; fetched_is = y.fetched_is; rest_is = y.rest_is; rights = y.rights };
        none = k.words.none;
      };
      counted = record { sent_is = k.counted.sent_is; told_is = k.counted.told_is; broken_is = k.counted.broken_is; got_is = k.counted.got_is; known_is = k.counted.known_is; snap_is = k.counted.snap_is; silent = k.counted.silent };
    }

-- the copies as senders see them are those of their trail
pub fresh_is : (s : Setup) (h g i m n : ℕ) {z : Position} (t : Trail s z) → fresh_in s h g i t m n ≡ fresh_at s m n g t
fresh_is s h g i m n Starts = refl
fresh_is s h g i m n (Goes t p p_in fine piece fair quiet) = ap (λ f. S.after (n * s.procs) f (piece_fresh s m n g piece)) (fresh_is s h g i m n t) ∙ sym (FA.after_append (n * s.procs) (n * s.procs + s.procs) S.start (fresh_of s m n g t) (piece_fresh s m n g piece))

module _ (s : Setup) (h g i : ℕ) (h_in : h < s.nodes) (g_in : g < s.program.shape.pages) (i_in : i < s.program.shape.words) (few : s.program.shape.pages ≤ 256)
    (z : Position) (t : Trail s z) (tied : WordTied s h g i t) (dir : DirTied s g t) (debts : (n : ℕ) → n < s.nodes → DebtsTied s h n g i t)
    (fresh : (m n : ℕ) → m < s.nodes → m ≢ n → n < s.nodes → n ≢ h → FreshTied s m n g t) (fine : Fine s z) (is_home : IsHome h g (who_at s 0) z.words) where
  abbrev pages : Option ℕ → D.State
  pages = pages_at s h g i t

  pub page_holds : (n : ℕ) → n < s.nodes → Holds (n == h) (n * s.procs) (n * s.procs + s.procs) (pages (place_of h n))
  page_holds n n_in =
      subst (Holds (n == h) (n * s.procs) (n * s.procs + s.procs)) (sym (pages_are s h g i n t))
      (goes_on (n == h) (n * s.procs) (n * s.procs + s.procs) (D.start 1 (λ q. D.Running)) (RT.debts_of s h n g i t) (starts (n == h) (n * s.procs) (n * s.procs + s.procs) 1 (λ q. D.Running) (omega arith, λ q. omega arith)) (debts n n_in).runs)

  -- a last store of the home whose send has ended, and is not told, is of a release that posts
  pub posts : (copies_at s h g i t).at ≡ None → (copies_at s h g i t).progress ≡ 3 → is_posting (pages None).page.work ≡ true
  posts =
      let k = home_matches (place s h g i) (first_at s h g i) (top_at s h g i) (first_pages s h g i) (first_copies s h g i) (moves_of s h g i t) tied.moves
      (starts true (h * s.procs) (h * s.procs + s.procs) 1 (λ q. D.Running) (omega arith, λ q. omega arith)) (record { debt = λ q e. refl; sole = refl }) in
      ended_posts (place s h g i) (h * s.procs) (h * s.procs + s.procs) (copies_at s h g i t) (debts_at s h g i t) (pages None)
      (home_owes_all (place s h g i) (first_value s h g i) (λ n. first_value s h g i) (λ n. 0) (events_at s h g i t)) k.0 k.1

  module _ (p : ℕ) (p_in : p < s.nodes * s.procs) (holders : (n : ℕ) → IsAway h (who_at s p) n → word (lay_in s) z.words (Turn n g) ≢ 0 → Holder h g i (who_at s p) z.words (dir_at s g t) pages (copies_at s h g i t) n) where
    -- what is so there, for the rows
    abbrev pub scene : Scene
    scene =
        record {
          h = h;
          g = g;
          i = i;
          u = who_at s p;
          ws = z.words;
          b = dir_at s g t;
          fresh = fresh_in s h g i t;
          pages = pages;
          x = copies_at s h g i t;
          c = count_at s h g i t;
          d = debts_at s h g i t;
          h_in = h_in;
          g_in = g_in;
          i_in = i_in;
          few = few;
          at = placed (who_at s p) p_in;
          long = fine.long;
          owned = Dir.match_of s g 0 p _ _ dir.match;
          holds = E.goes_on s.nodes (node_in s) O.start (dir_of s g t) (E.starts s.nodes (node_in s)) dir.runs;
          home = subst (λ y. (y ≡ 0) ⊎ (y ≡ suc h)) dir.match.home is_home;
          copies = λ m n m_in ne away. let k = fresh m n m_in ne away.0 away.1 in
              record { events = fresh_of s m n g t; runs = k.runs; is = sym (fresh_is s h g i m n t); match = subst (FMatch.Match m n g (who_at s p) z.words) (sym (fresh_is s h g i m n t)) (FT.match_of s m n g 0 p _ _ k.match) };
          releases = λ n n_in. subst (RMatch.Match h n g i (who_at s p) z.words) (sym (pages_are s h g i n t)) (RT.match_of s h n g i 0 p _ _ (debts n n_in).match);
          sound = λ n n_in. (page_holds n n_in).sound;
          match = match_of s h g i 0 p _ _ _ _ tied.match;
          holders = holders;
          posts = posts;
        }

    module _ (each : EachActs) (fits : Fits (z.works p)) where
      -- where the processor stands, which has not ended
      pub here : z.works p ≢ Gone → Here scene (z.works p) (z.owns p)
      here lives =
          record {
            maps_in = maps_along s few t p lives;
            owns = dir.knows p p_in;
            fits = fits;
            copies = λ m n m_in ne away. subst (λ f. FMatch.Knows m n g (who_at s p) f (z.works p)) (sym (fresh_is s h g i m n t)) ((fresh m n m_in ne away.0 away.1).knows p p_in);
            releases = λ n n_in. subst (λ f. RMatch.Knows h n g i (who_at s p) f (z.works p) (z.owns p)) (sym (pages_are s h g i n t)) ((debts n n_in).knows p p_in);
            knows = tied.knows p p_in;
          }

      -- an operation
      does_acts : {w v : Work} {a : Act} (any : Option ℕ) (does : Does (who_at s p) (z.owns p) w a (answer any a (reply (lay_in s) z.words a)) v) → any ≡ None → (w ≢ Gone → Here scene w (z.owns p)) → Now scene w
          → ((x : TurnId) → IsWithin (lay_in s) (turn_item x) → turn_at (who_at s p) w ≡ Some x → word (lay_in s) z.words (turn_item x) ≡ suc p)
          → HoldsMaps s z p → IsSparing (who_at s p) a → Acted scene v (done (lay_in s) z.words a) (λ m n. does_fresh s m n g p does) (does_moves s h g i pages p does)
      does_acts {a = a} any (Row within step) sure at now turn own spares =
          each.row scene (z.owns p) step (record { here = at (row_lives (who_at s p) step); within = within; told = ap (λ k. answer k a (reply (lay_in s) z.words a)) sure ∙ answer_none a _ ∙ reply_is (lay_in s) z.words a; own = own g g_in; turn = turn })
      does_acts any (Won held within win e) sure at now turn own spares =
          each.win scene (z.owns p) win (record { here = at (win_lives (who_at s p) win); within = within; told = sym e ∙ reply_is (lay_in s) z.words (Change (turn_item held) 0 (p + 1)); own = own g g_in; turn = turn })
      does_acts {w = w} any (Lost held within win ne) sure at now turn own spares =
          same_acts scene w _ (lost_same (who_at s p) z.words (turn_item held) (p + 1) (λ e. ne (reply_is (lay_in s) z.words (Change (turn_item held) 0 (p + 1)) ∙ e))) now
      does_acts any (Aside {r = r} {a = a} may aside) sure at now turn own spares = off_acts scene a aside spares r now

      -- any step
      pub acts : (piece : Piece s z p) → IsFair s z p piece → IsSure s piece → Acted scene (left s piece) (behind s z p piece).words (λ m n. piece_fresh s m n g piece) (piece_moves s h g i pages piece)
      acts (Decides slip) fair sure = each.slip scene (z.owns p) slip (fair g g_in) (here (slip_lives (who_at s p) slip))
      acts (Acts any does) fair sure = does_acts any does sure here (tied.knows p p_in) (λ x x_in d. (fine.turns p x p_in x_in).1 d ∙ omega arith) fair.0 fair.1
      acts (Notes {v = v} e noted) fair sure = go (is_gone (z.works p))
        where
          go : (z.works p ≡ Gone) ⊎ (z.works p ≢ Gone) → Acted scene v z.words (λ m n. FE.note_events m n g (who_at s p) noted) (note_moves h g i (who_at s p) noted)
          go (inl d) = gone_notes scene noted d (tied.knows p p_in)
          go (inr lives) = each.note scene (z.owns p) noted (here lives)
      acts (Starves o none) fair sure = gone_acts scene

    -- moves that have the copies' answers, one by one
    agree_to : (ms : List Move) → AllAgree scene ms → AllAgreeTo (place s h g i) h s.procs pages (copies_at s h g i t) ms
    agree_to [] a = tt
    agree_to (At k v e ∷ ms) a = (a.0, agree_to ms a.1)
    agree_to (Other e ∷ ms) a = (a.0, agree_to ms a.1)

    module _ (piece : Piece s z p) (fair : IsFair s z p piece) (quiet : IsQuiet s z p) where
      abbrev after : Trail s (behind s z p piece)
      after = Goes t p p_in fine piece fair quiet

      abbrev ms : List Move
      ms = piece_moves s h g i pages piece

      abbrev es : List W.Event
      es = events_of (place s h g i) (first_at s h g i) (top_at s h g i) pages ms

      events_are : events_at s h g i after ≡ es ++ events_at s h g i t
      events_are = events_append (place s h g i) (first_at s h g i) (top_at s h g i) (first_pages s h g i) ms (moves_of s h g i t)

      pub copies_are : copies_at s h g i after ≡ x_left scene ms
      copies_are = ap (W.after (place s h g i) (first_copies s h g i)) events_are ∙ after_append (place s h g i) (first_copies s h g i) es (events_at s h g i t)

      pub counts_are : count_at s h g i after ≡ c_left scene ms
      counts_are = ap (count_after (place s h g i) (first_copies s h g i) no_count) events_are ∙ count_append (place s h g i) (first_copies s h g i) no_count es (events_at s h g i t)

      pub pages_left_are : pages_at s h g i after ≡ pages_left scene ms
      pages_left_are = pages_append (place s h g i) (first_at s h g i) (top_at s h g i) (first_pages s h g i) ms (moves_of s h g i t)

      module _ (acted : Acted scene (left s piece) (behind s z p piece).words (λ m n. piece_fresh s m n g piece) ms) where
        pub moves_behind : AllMay (place s h g i) h s.procs pages ms → RunsMoves (place s h g i) (first_at s h g i) (top_at s h g i) (first_pages s h g i) (first_copies s h g i) (moves_of s h g i after)
        moves_behind may = moves_append (place s h g i) (first_at s h g i) (top_at s h g i) (first_pages s h g i) (first_copies s h g i) ms (moves_of s h g i t) tied.moves
            (moves_run (place s h g i) h s.procs pages (copies_at s h g i t) ms may (agree_to ms acted.agrees))

        pub others_behind : RunsOf (place s h g i) (λ r. But Order r × OnOthers r) (first_copies s h g i) no_count no_debts (events_at s h g i after)
        others_behind =
            subst (RunsOf (place s h g i) (λ r. But Order r × OnOthers r) (first_copies s h g i) no_count no_debts) (sym events_are)
            (runs_append (place s h g i) (λ r. But Order r × OnOthers r) (first_copies s h g i) no_count no_debts es (events_at s h g i t) tied.others
            (runs_asked (place s h g i) Asked (λ r. But Order r × OnOthers r) (λ r a. (a.1, a.0)) (copies_at s h g i t) (count_at s h g i t) (debts_at s h g i t) es acted.meets))

        pub match_behind : Match h g i (who_at s 0) (behind s z p piece).words (fresh_in s h g i after) (copies_at s h g i after) (count_at s h g i after)
        match_behind =
            subst (λ x. Match h g i (who_at s 0) (behind s z p piece).words (fresh_in s h g i after) x (count_at s h g i after)) (sym copies_are)
            (subst (λ c. Match h g i (who_at s 0) (behind s z p piece).words (fresh_in s h g i after) (x_left scene ms) c) (sym counts_are)
            (match_of s h g i p 0 _ _ _ _ acted.match))

        pub knows_behind : Knows h g i (who_at s p) (behind s z p piece).words (fresh_in s h g i after) (pages_at s h g i after) (copies_at s h g i after) (count_at s h g i after) (left s piece)
        knows_behind =
            subst (λ x. Knows h g i (who_at s p) (behind s z p piece).words (fresh_in s h g i after) (pages_at s h g i after) x (count_at s h g i after) (left s piece)) (sym copies_are)
            (subst (λ c. Knows h g i (who_at s p) (behind s z p piece).words (fresh_in s h g i after) (pages_at s h g i after) (x_left scene ms) c (left s piece)) (sym counts_are)
            (subst (λ f. Knows h g i (who_at s p) (behind s z p piece).words (fresh_in s h g i after) f (x_left scene ms) (c_left scene ms) (left s piece)) (sym pages_left_are) acted.knows))
