-- What the law of one word says of a run, whose trail shows the copies of the word.
use Rattle.std.proofs.Common.{◌≡◌, ℕ, zero, suc, ◌*◌, ◌<◌, ◌≤◌, false, List, [], ◌++◌, map, refl, sym, ap, ◌∙◌, arith}
use Rattle.dsm_flat.specs.Order.{Traces}
use Rattle.dsm_flat.specs.Laws.{Raises}
use Rattle.dsm_flat.proofs.History.{Log, IsHistory, rank}
use Rattle.dsm_flat.proofs.Legal.{rank_raises}
use Rattle.dsm_protocol.specs.Own.{Who}
use Rattle.dsm_protocol.specs.Stages.{Loaded, Stored, Admitted, Dismissed, Work, Off}
use Rattle.dsm_runs.specs.Setups.{Setup, IsSetup, who_at}
use Rattle.dsm_runs.specs.Clusters.{Cluster, Event, start, exactly, after_all_loose}
use Rattle.dsm_runs.proofs.Logs.{log_of}
use Rattle.dsm_runs.proofs.Histories.{traces_of, is_history}
use Rattle.dsm_runs.proofs.Legality.{every_log_legal}
use Rattle.dsm_ties.proofs.Trails.{Taken, is_noting, log_in}
use Rattle.dsm_ties.proofs.RunTrails.{every_run}
use Rattle.dsm_copies.specs.Premises.{Order, But}
use Rattle.dsm_copies.specs.Counts.{no_count}
use Rattle.dsm_copies.specs.Debts.{no_debts, RunsOf}
use Rattle.dsm_copies.specs.Joining.{deeds_in, deeds_of, IsJoined, IsRight}
use Rattle.dsm_copies.proofs.Joining.{joined_by_sends}
use Rattle.dsm_debts.specs.Page as D
use Rattle.dsm_debts.proofs.Joined.{together}
use Rattle.dsm_twoway.specs.Views.{pending, coming}
use Rattle.dsm_twoway.proofs.Moving.{place, first_at, top_at, address, first_value, first_copies, moves_of, events_at, copies_at, WordTied}

-- where nothing is to be noted, the trace says all that was done
pub none_pending : (u : Who) (a p : ℕ) (w : Work) → is_noting u w ≡ false → pending a p w ≡ []
none_pending u a p (Off (Loaded b x)) e = absurd (cc e)
none_pending u a p (Off (Stored b v)) e = absurd (cc e)
none_pending u a p w e = refl

pub none_coming : (u : Who) (p : ℕ) (w : Work) → is_noting u w ≡ false → coming p w ≡ []
none_coming u p (Off Admitted) e = absurd (cc e)
none_coming u p (Off Dismissed) e = absurd (cc e)
none_coming u p w e = refl

-- there is a processor
pub some_processor : (s : Setup) → IsSetup s → 0 < s.nodes * s.procs
some_processor s is = go s.nodes s.procs is.nodes.0 is.procs.0
  where
    go : (n k : ℕ) → 1 ≤ n → 1 ≤ k → 0 < n * k
    go zero k a b = absurd (omega (arith, a))
    go (suc n) zero a b = absurd (omega (arith, b))
    go (suc n) (suc k) a b = omega arith

module _ (s : Setup) (is : IsSetup s) (events : List Event) where
  -- where the events lead, the run taken apart, its log and its traces
  abbrev pub now : Cluster
  now = after_all_loose s (start s) (map exactly events)

  abbrev pub run : Taken s (map exactly events)
  run = every_run s is (map exactly events)

  abbrev pub log : Log
  log = log_of s (map exactly events)

  abbrev pub ts : Traces
  ts = traces_of now.processors

  pub history : IsHistory log ts
  history = is_history s (map exactly events)

  raises : Raises ts (rank log)
  raises = rank_raises (s.nodes * s.procs) log ts history (every_log_legal s is (map exactly events))

  -- at the end the traces say all that was done
  nothing_pending : (a q : ℕ) → q < s.nodes * s.procs → pending a q (run.last.works q) ≡ []
  nothing_pending a q q_in = none_pending (who_at s q) a q (run.last.works q) (run.quiet q q_in)

  module _ (h g i : ℕ) (tied : WordTied s h g i run.trail) where
    same : deeds_in (events_at s h g i run.trail) ≡ deeds_of (address s h g i) log
    same =
        let some = some_processor s is in
        sym (ap (λ es. es ++ deeds_in (events_at s h g i run.trail)) (none_coming (who_at s 0) 0 (run.last.works 0) (run.quiet 0 some)))
        ∙ tied.deeds 0 some (λ q ne q_in. run.quiet q q_in)
        ∙ ap (λ es. es ++ deeds_of (address s h g i) (log_in s run.trail)) (nothing_pending (address s h g i) 0 some)
        ∙ ap (deeds_of (address s h g i)) run.log

    joined : IsJoined ts log (address s h g i) (events_at s h g i run.trail)
    joined = record { history = history; raises = raises; same = same }

    runs : RunsOf (place s h g i) (But Order) (first_copies s h g i) no_count no_debts (events_at s h g i run.trail)
    runs =
        together (But Order) (place s h g i) (first_at s h g i) (top_at s h g i) (first_value s h g i) (λ n. first_value s h g i) (λ n. 0) (λ k. 1) (λ k q. D.Running) (moves_of s h g i run.trail)
        (λ k. (omega arith, λ q. omega arith)) tied.moves tied.others

    -- the word is as a flat memory has it
    pub right : IsRight ts log (first_value s h g i) (address s h g i) (copies_at s h g i run.trail)
    right = joined_by_sends (place s h g i) (first_value s h g i) (λ n. first_value s h g i) (λ n. 0) ts log (address s h g i) (events_at s h g i run.trail) joined runs
