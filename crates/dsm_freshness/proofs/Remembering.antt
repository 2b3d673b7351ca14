-- That copies are fresh by a run's own moments: each run is taken apart into a trail, whose events of a copy keep their premises.
use Rattle.std.proofs.Common.{◌≡◌, ◌≢◌, ◌⊎◌, inl, inr, ℕ, suc, ◌+◌, ◌*◌, ◌/◌, ◌<◌, ◌≤◌, true, List, Option, refl, sym, ap, ◌∙◌, subst, arith}
use Rattle.std.proofs.lemmas.Bool.{cases_eq}
use Rattle.dsm_words.specs.declared.item.Item.TheVariants.{Map, Home}
use Rattle.dsm_words.specs.Words.{word}
use Rattle.dsm_protocol.specs.Jobs.{Moment, Passed, Sent, Told}
use Rattle.dsm_protocol.proofs.Placed.{placed}
use Rattle.dsm_runs.specs.Setups.{Setup, IsSetup, lay_in, who_at}
use Rattle.dsm_runs.specs.Clusters.{Cluster, Event as Going, start as begin, after_all_loose}
use Rattle.dsm_runs.specs.Moments.{history}
use Rattle.dsm_ties.specs.Always.{AlwaysLoosely}
use Rattle.dsm_ties.proofs.Along.{dir_tied, tied}
use Rattle.dsm_ties.proofs.Holders.{untouched}
use Rattle.dsm_ties.proofs.RunTrails.{every_run}
use Rattle.dsm_ties.proofs.Trails.{Taken}
use Rattle.dsm_fresh.specs.Pages.{after, start}
use Rattle.dsm_fresh.specs.Premises.{Runs}
use Rattle.dsm_fresh.specs.Laws.{Maps}
use Rattle.dsm_freshness.specs.Tied.{may_load}
use Rattle.dsm_freshness.specs.Past.{Since, IsAtRest, HasFetched, FreshCopies}
use Rattle.dsm_freshness.proofs.Trailing.{FreshTied, fresh_tied}
use Rattle.dsm_freshness.proofs.Marks.{events_in, moments_in}
use Rattle.dsm_freshness.proofs.Marking.{Marked, marked}
use Rattle.dsm_freshness.proofs.Recalling.{since_by, fetched_by}

module _ (s : Setup) (is : IsSetup s) (events : List (Going × Option ℕ)) where
  -- where the events lead, and what they are
  abbrev now : Cluster
  now = after_all_loose s (begin s) events

  run : Taken s events
  run = every_run s is events

  -- of one processor, page and sender
  module _ (p m g : ℕ) (p_in : p < s.nodes * s.procs) (m_in : m < s.nodes) (g_in : g < s.program.shape.pages) (apart : m ≢ p / s.procs) (away : word (lay_in s) now.words (Home g) ≢ suc (p / s.procs)) (loads : may_load (word (lay_in s) now.words (Map p g)) ≡ true) where
    abbrev n : ℕ
    n = p / s.procs

    known : FreshTied s m n g run.trail
    known =
        let full : s.program.shape.words ≢ 0 = λ e. absurd (omega (arith, is.sizes.2, e)) in
        fresh_tied s m n g apart m_in (placed (who_at s p) p_in).node_in g_in is.sizes.1 full is.procs.0 (λ z t. dir_tied s g g_in t) run.trail (λ e. away (ap (λ z. word (lay_in s) z (Home g)) (sym run.pictures.words) ∙ e))

    marks : Marked s m n g apart run.trail
    marks = marked s m n g apart run.trail

    moments : moments_in marks.marks ≡ history s (begin s) events
    moments = marks.moments ∙ run.moments

    runs : Runs (n * s.procs) (n * s.procs + s.procs) start (events_in marks.marks)
    runs = subst (Runs (n * s.procs) (n * s.procs + s.procs) start) (sym marks.events) known.runs

    maps : Maps (after (n * s.procs) start (events_in marks.marks)) p
    maps = subst (λ z. Maps (after (n * s.procs) start z) p) (sym marks.events) (sym (known.match.mapped p p_in refl) ∙ (ap (λ z. may_load (word (lay_in s) z (Map p g))) run.pictures.words ∙ loads))

    since_sent : IsAtRest p (history s (begin s) events) → (sent told passed : List Moment) → Since (Sent m g) (history s (begin s) events) sent → Since (Told m g) sent told → Since (Passed p) told passed → HasFetched n g sent
    since_sent rest sent told passed is_sent is_told is_passed =
        since_by s.procs m n g marks.marks marks.fits runs p refl maps (subst (IsAtRest p) (sym moments) rest) sent told passed (subst (λ z. Since (Sent m g) z sent) (sym moments) is_sent) is_told is_passed

    has_fetched : HasFetched n g (history s (begin s) events)
    has_fetched = subst (HasFetched n g) moments (fetched_by s.procs m n g marks.marks marks.fits runs p maps)

  -- where there is one node, a page that has no home is not mapped
  alone : (p g : ℕ) → p < s.nodes * s.procs → g < s.program.shape.pages → p / s.procs < s.nodes → s.nodes ≡ 1 → word (lay_in s) now.words (Home g) ≢ suc (p / s.procs) → may_load (word (lay_in s) now.words (Map p g)) ≡ true → ⊥
  alone p g p_in g_in n_in one away loads =
      let t = tied s events is g g_in in
      let low = t.2.words.low in
      let home = t.2.words.home in
      let none : word (lay_in s) now.words (Home g) ≡ 0 = zero_of (word (lay_in s) now.words (Home g)) (p / s.procs) away (omega (arith, low, home, one)) (omega (arith, n_in, one)) in
      let map = (untouched tied s events is g (p / s.procs) g_in n_in none).2 p p_in refl in
      cc (sym loads ∙ ap may_load map)
    where
      zero_of : (h n : ℕ) → h ≢ suc n → h ≤ 1 → n ≡ 0 → h ≡ 0
      zero_of h n ne a b = grind arith

  fetched_since : (p g : ℕ) → p < s.nodes * s.procs → g < s.program.shape.pages → word (lay_in s) now.words (Home g) ≢ suc (p / s.procs) → may_load (word (lay_in s) now.words (Map p g)) ≡ true → HasFetched (p / s.procs) g (history s (begin s) events)
  fetched_since p g p_in g_in away loads = go (cases_eq s.nodes 1) (cases_eq (p / s.procs) 0)
    where
      n_in : p / s.procs < s.nodes
      n_in = (placed (who_at s p) p_in).node_in

      go : (s.nodes ≡ 1) ⊎ (s.nodes ≢ 1) → (p / s.procs ≡ 0) ⊎ (p / s.procs ≢ 0) → HasFetched (p / s.procs) g (history s (begin s) events)
      go (inl one) c = absurd (alone p g p_in g_in n_in one away loads)
      go (inr more) (inl z) = has_fetched p 1 g p_in (let a = is.nodes.0 in grind arith) g_in (λ e. absurd (omega (arith, e, z))) away loads
      go (inr more) (inr some) = has_fetched p 0 g p_in (let a = is.nodes.0 in omega (arith, a)) g_in (λ e. some (sym e)) away loads

-- The copies of every state are fresh.
pub fresh_copies : (s : Setup) → IsSetup s → (c : Cluster) → FreshCopies s c
fresh_copies s is c =
    record {
      since = λ events e p m g p_in m_in g_in apart away loads rest sent told passed is_sent is_told is_passed.
          since_sent s is events p m g p_in m_in g_in apart (λ z. away (ap (λ y. word (lay_in s) y.words (Home g)) (sym e) ∙ z)) (ap (λ y. may_load (word (lay_in s) y.words (Map p g))) e ∙ loads) rest sent told passed is_sent is_told is_passed;
      fetched = λ events e p g p_in g_in away loads.
          fetched_since s is events p g p_in g_in (λ z. away (ap (λ y. word (lay_in s) y.words (Home g)) (sym e) ∙ z)) (ap (λ y. may_load (word (lay_in s) y.words (Map p g))) e ∙ loads);
    }

pub always_fresh : AlwaysLoosely FreshCopies
always_fresh s events is = fresh_copies s is (after_all_loose s (begin s) events)
