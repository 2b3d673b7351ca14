-- Along a run taken apart, the events of each page's directory keep all their premises, and the words and places show where they lead.
use Rattle.std.proofs.Common.{◌≡◌, ◌≢◌, ◌⊎◌, inl, inr, ℕ, ◌+◌, ◌*◌, ◌<◌, ◌==◌, Bool, true, false, List, [], ◌∷◌, ◌++◌, Option, Some, refl, sym, ◌∙◌, subst, arith, if◌then◌else◌}
use Rattle.std.specs.Prelude.{slice_get}
use Rattle.std.proofs.lemmas.Bool.{cases_eq}
use Rattle.std.proofs.lemmas.Option.{slice_get_within}
use Rattle.dsm_words.specs.declared.item.Item.TheVariants.{Stop}
use Rattle.dsm_words.specs.Script.{Act, Change}
use Rattle.dsm_words.specs.Words.{done, reply}
use Rattle.dsm_words.proofs.WordLaws.{reply_is}
use Rattle.dsm_directory.specs.Directory.{is_busy}
use Rattle.dsm_protocol.specs.Own.{Own}
use Rattle.dsm_protocol.specs.Jobs.{own_after}
use Rattle.dsm_protocol.specs.Processors.{Processor}
use Rattle.dsm_protocol.specs.Stages.{Visiting, Work, On, Gone}
use Rattle.dsm_protocol.specs.Standing.{Does, Row, Won, Lost, Aside}
use Rattle.dsm_protocol.proofs.Placed.{IsPlaced, placed}
use Rattle.dsm_runs.specs.Setups.{Setup, IsSetup, lay_in, who_at}
use Rattle.dsm_runs.specs.Clusters.{Event, answer, start, after_all_loose}
use Rattle.dsm_runs.proofs.Mappings.{IsSparing}
use Rattle.dsm_runs.proofs.Starting.{every_whole}
use Rattle.dsm_owners.specs.Acts as A
use Rattle.dsm_owners.specs.Directory as D
use Rattle.dsm_owners.specs.Premises.{Runs}
use Rattle.dsm_owners.proofs.Keeps.{Holds}
use Rattle.dsm_owners.proofs.Every.{goes_on, starts}
use Rattle.dsm_ties.specs.Always.{AlwaysLoosely}
use Rattle.dsm_ties.specs.Events.{starved_events}
use Rattle.dsm_ties.specs.Tied.{node_in, Knows, Match, Placed, Tied}
use Rattle.dsm_ties.proofs.Beginning.{start_match, start_knows}
use Rattle.dsm_ties.proofs.Doing.{by_events, by_won, by_slipped}
use Rattle.dsm_ties.proofs.Elsewhere.{AllBy, others_all}
use Rattle.dsm_ties.proofs.Following.{EachActs, answers, row_any, win_any, lost_any, aside_any, slip_any, note_any}
use Rattle.dsm_ties.proofs.Frame.{Acted, Now}
use Rattle.dsm_ties.proofs.Joining.{each_acts}
use Rattle.dsm_ties.proofs.RunTrails.{every_run}
use Rattle.dsm_ties.proofs.Starving.{starved_acts}
use Rattle.dsm_ties.proofs.Tracing.{put_same, put_other}
use Rattle.dsm_ties.proofs.Trails.{Position, Piece, Decides, Acts, Notes, Starves, behind, Fine, HoldsMaps, IsFair, IsQuiet, Trail, Starts, Goes, Taken, stop_act, does_dir, piece_dir, dir_of, dir_at, DirTied}

-- events one behind the other
module _ (top : ℕ) (node : ℕ → ℕ) where
  pub after_append : (b : D.State) (es fs : List D.Event) → D.after node b (es ++ fs) ≡ D.after node (D.after node b es) fs
  after_append b [] fs = refl
  after_append b (e ∷ es) fs = after_append (D.after_event node b e) es fs

  runs_append : (b : D.State) (es fs : List D.Event) → Runs top node b es → Runs top node (D.after node b es) fs → Runs top node b (es ++ fs)
  runs_append b [] fs r q = q
  runs_append b (e ∷ es) fs r q = (r.0, runs_append (D.after_event node b e) es fs r.1 q)

module _ (s : Setup) (g : ℕ) where
  -- the words show the same to each processor
  pub match_of : (p q : ℕ) (ws : List ℕ) (b : D.State) → Match (who_at s p) g ws b → Match (who_at s q) g ws b
  match_of p q ws b m = record { home = m.home; low = m.low; dir = m.dir; twined = m.twined; update = m.update; turn = m.turn; map = m.map; nle = m.nle; posted = m.posted; listed = m.listed }

  -- the one event of who wants memory
  stop_is : (p : ℕ) (w : Work) → starved_events (who_at s p) g w ≡ D.Do p (stop_act s g w) ∷ []
  stop_is p (On r h (Visiting write home busy i)) = go (h == g)
    where
      go : (c : Bool) → (if c then D.Do p (A.Stop_visit write i (is_busy busy)) ∷ [] else D.Do p A.Stop ∷ []) ≡ D.Do p (if c then A.Stop_visit write i (is_busy busy) else A.Stop) ∷ []
      go true = refl
      go false = refl
  stop_is p w = refl

  -- the events of a step are of its own processor alone
  by_does : (p : ℕ) {o : Own} {w : Work} {a : Act} {x : ℕ} {v : Work} (does : Does (who_at s p) o w a x v) → AllBy p (does_dir s g p does)
  by_does p (Row within step) = by_events (who_at s p) g step
  by_does p (Won turn within win is) = by_won (who_at s p) g win
  by_does p (Lost turn within win is) = tt
  by_does p (Aside may is) = tt

  by_piece : {z : Position} {p : ℕ} (piece : Piece s z p) → AllBy p (piece_dir s g piece)
  by_piece {p = p} (Decides slip) = by_slipped (who_at s p) g slip
  by_piece {p = p} (Acts any does) = by_does p does
  by_piece (Notes i noted) = tt
  by_piece (Starves o none) = (refl, tt)

-- the others stand as before, and hold the same
pub others_stay : (s : Setup) (z : Position) (p : ℕ) (piece : Piece s z p) (q : ℕ) → q ≢ p → ((behind s z p piece).works q ≡ z.works q) × ((behind s z p piece).owns q ≡ z.owns q)
others_stay s z p (Decides {v = v} slip) q ne = (put_other z.works p v q ne, refl)
others_stay s z p (Acts {v = v} any does) q ne = (put_other z.works p v q ne, refl)
others_stay s z p (Notes {v = v} i noted) q ne = (put_other z.works p v q ne, put_other z.owns p _ q ne)
others_stay s z p (Starves o none) q ne = (put_other z.works p Gone q ne, put_other z.owns p o q ne)

module _ (s : Setup) (g : ℕ) (g_in : g < s.program.shape.pages) {z : Position} (t : Trail s z) (d : DirTied s g t) (p : ℕ) (p_in : p < s.nodes * s.procs) (fine : Fine s z) where
  at : IsPlaced (who_at s p)
  at = placed (who_at s p) p_in

  abbrev now : D.State
  now = dir_at s g t

  here : Match (who_at s p) g z.words (dir_at s g t)
  here = match_of s g 0 p _ _ d.match

  holds : Holds s.nodes (node_in s) (dir_at s g t)
  holds = goes_on s.nodes (node_in s) D.start (dir_of s g t) (starts s.nodes (node_in s)) d.runs

  each : EachActs (who_at s p) at g g_in
  each = each_acts (who_at s p) at g g_in

  -- what it knows where it stands
  abbrev Known : Work → Type 0
  Known w = Now (who_at s p) at g g_in z.words fine.long now here w (z.owns p)

  -- what is to be shown of a step: the premises of its events, and what the words and its processor show behind it
  abbrev Shown : List ℕ → Work → Own → List D.Event → Type 0
  Shown ws w o es = Acted (who_at s p) at g g_in z.words fine.long now here o w ws es

  -- an operation
  does_acts : {w : Work} {a : Act} {v : Work} (any : Option ℕ) → HoldsMaps s z p → IsSparing (who_at s p) a → (does : Does (who_at s p) (z.owns p) w a (answer any a (reply (lay_in s) z.words a)) v) → Known w → Shown (done (lay_in s) z.words a) v (z.owns p) (does_dir s g p does)
  does_acts {w} {a} any maps spares (Row within step) k =
      row_any (who_at s p) at g g_in each z.words fine.long now here (z.owns p) w step
      (record { within = within; told = answers any a _ _ (reply_is (lay_in s) z.words a); own = maps g g_in; clocks = λ k i. (fine.clocks k i).0; holds = holds }) k
  does_acts {w} {a} {v} any maps spares (Won turn within win e) k =
      win_any (who_at s p) at g g_in each z.words fine.long now here (z.owns p) v win
      (record { within = within; told = sym e ∙ reply_is (lay_in s) z.words a; own = maps g g_in; clocks = λ k i. (fine.clocks k i).0; holds = holds }) k
  does_acts {w} {a} any maps spares (Lost turn within win held) k = lost_any (who_at s p) at g g_in each z.words fine.long now here (z.owns p) turn (λ e. held (reply_is (lay_in s) z.words a ∙ e)) k
  does_acts {w} {a} any maps spares (Aside may aside) k = aside_any (who_at s p) at g g_in each z.words fine.long now here (z.owns p) a aside spares k

  -- each kind of step
  piece_acts : (piece : Piece s z p) → IsFair s z p piece → Shown (behind s z p piece).words ((behind s z p piece).works p) ((behind s z p piece).owns p) (piece_dir s g piece)
  piece_acts (Decides {v = v} slip) fair = rw (put_same z.works p v) (slip_any (who_at s p) at g g_in each z.words fine.long now here (z.owns p) (z.works p) slip (fair g g_in) holds (d.knows p p_in))
  piece_acts (Acts {v = v} any does) fair = rw (put_same z.works p v) (does_acts any fair.0 fair.1 does (d.knows p p_in))
  piece_acts (Notes {v = v} i noted) fair =
      rw (put_same z.works p v) (rw (put_same z.owns p (own_after (z.owns p) i)) (record { runs = tt; match = here; knows = note_any (who_at s p) at g g_in each z.words fine.long now here (z.owns p) (z.works p) noted (d.knows p p_in) }))
  piece_acts (Starves o none) fair =
      rw (put_same z.works p Gone) (rw (put_same z.owns p o) (subst (λ es. Shown (done (lay_in s) z.words (Change Stop 0 (p + 1))) Gone o es) (stop_is s g p (z.works p))
      (starved_acts (who_at s p) at g g_in z.words fine.long now here (z.works p) (fair.0 g) fair.1 none fair.2 (d.knows p p_in))))

  -- and the trail with it
  goes_tied : (piece : Piece s z p) (fair : IsFair s z p piece) (quiet : IsQuiet s z p) → DirTied s g (Goes t p p_in fine piece fair quiet)
  goes_tied piece fair quiet =
      record {
        runs = runs_append s.nodes (node_in s) D.start (dir_of s g t) (piece_dir s g piece) d.runs h.runs;
        match = subst (λ b. Match (who_at s 0) g (behind s z p piece).words b) same (match_of s g p 0 _ _ h.match);
        knows = λ q q_in. subst (KnowsAt q) same (known q q_in (cases_eq q p));
      }
    where
      h : Shown (behind s z p piece).words ((behind s z p piece).works p) ((behind s z p piece).owns p) (piece_dir s g piece)
      h = piece_acts piece fair

      same : D.after (node_in s) (dir_at s g t) (piece_dir s g piece) ≡ D.after (node_in s) D.start (dir_of s g t ++ piece_dir s g piece)
      same = sym (after_append s.nodes (node_in s) D.start (dir_of s g t) (piece_dir s g piece))

      KnowsAt : ℕ → D.State → Type 0
      KnowsAt q b = Knows (who_at s q) g b.home (b.nodes (node_in s q)) (b.processors q) ((behind s z p piece).works q) ((behind s z p piece).owns q)

      known : (q : ℕ) → q < s.nodes * s.procs → (q ≡ p) ⊎ (q ≢ p) → KnowsAt q (D.after (node_in s) (dir_at s g t) (piece_dir s g piece))
      known q q_in (inl e) = subst (λ r. KnowsAt r (D.after (node_in s) (dir_at s g t) (piece_dir s g piece))) (sym e) h.knows
      known q q_in (inr ne) =
          let stay = others_stay s z p piece q ne in
          rw stay.0 (rw stay.1 (others_all (who_at s q) g (z.works q) (z.owns q) p (piece_dir s g piece) (dir_at s g t) ne (by_piece s g piece) h.runs (d.knows q q_in)))

-- along every trail
pub dir_tied : (s : Setup) (g : ℕ) → g < s.program.shape.pages → {z : Position} (t : Trail s z) → DirTied s g t
dir_tied s g g_in Starts = record { runs = tt; match = start_match s g g_in; knows = λ q q_in. start_knows s g q }
dir_tied s g g_in (Goes t p p_in fine piece fair quiet) = goes_tied s g g_in t (dir_tied s g g_in t) p p_in fine piece fair quiet

-- a list of loose events that is taken apart shows, for each page, the state of its directory behind its trail
tied_of_taken : (s : Setup) (events : List (Event × Option ℕ)) → IsSetup s → Taken s events → Tied s (after_all_loose s (start s) events)
tied_of_taken s events is run g g_in = (dir_of s g run.trail, d.runs, record { words = subst (λ ws. Match (who_at s 0) g ws (dir_at s g run.trail)) run.pictures.words d.match; all = at_each })
  where
    d : DirTied s g run.trail
    d = dir_tied s g g_in run.trail

    at_each : (p : ℕ) (m : Processor) → slice_get (after_all_loose s (start s) events).processors p ≡ Some m → Placed s g (dir_at s g run.trail) p m
    at_each p m found =
        let shown = run.pictures.all p m found in
        let p_in : p < s.nodes * s.procs = omega (arith, slice_get_within (after_all_loose s (start s) events).processors p m found, (every_whole s events).1) in
        record {
          work = run.last.works p;
          stands = shown.1;
          knows = subst (Knows (who_at s p) g (dir_at s g run.trail).home ((dir_at s g run.trail).nodes (node_in s p)) ((dir_at s g run.trail).processors p) (run.last.works p)) shown.0 (d.knows p p_in);
        }

-- and as every list is, the tie holds behind each
pub tied : AlwaysLoosely Tied
tied s events is = tied_of_taken s events is (every_run s is events)
