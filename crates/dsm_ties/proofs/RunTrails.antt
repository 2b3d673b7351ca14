-- Every run of loose events is taken apart into decisions, operations and notes.
use Rattle.std.proofs.Common.{◌≡◌, ◌≢◌, ◌⊎◌, inl, inr, ℕ, zero, suc, ◌+◌, ◌*◌, ◌<◌, ◌≤◌, false, List, [], ◌∷◌, ◌++◌, Option, None, Some, refl, sym, ap, ◌∙◌, subst, append_assoc, arith}
use Rattle.std.specs.Prelude.{slice_get, slice_index}
use Rattle.std.proofs.lemmas.Bool.{cases_eq}
use Rattle.std.proofs.lemmas.List.{append-nil}
use Rattle.std.proofs.lemmas.Option.{slice_get_within}
use Rattle.dsm_words.specs.Place.{IsWithin}
use Rattle.dsm_words.specs.Words.{word}
use Rattle.dsm_clock.specs.declared.turns.TurnId.{TurnId}
use Rattle.dsm_clock.specs.declared.turns.TurnId.TheVariants.{Page, Notices}
use Rattle.dsm_clock.specs.Turns.{turn_item}
use Rattle.dsm_flat.proofs.History.{Log}
use Rattle.dsm_protocol.specs.declared.head.Head.TheVariants.{Instruction}
use Rattle.dsm_protocol.specs.Own.{Own, Who, new_own}
use Rattle.dsm_protocol.specs.Jobs.{Moment, Begin}
use Rattle.dsm_protocol.specs.Processors.{Processor, new_processor, wanting}
use Rattle.dsm_protocol.specs.Stages.{Idle, Work, Off}
use Rattle.dsm_protocol.specs.Standing.{Stands, Begins}
use Rattle.dsm_protocol.proofs.Moving.{ready_run, path_settled}
use Rattle.dsm_protocol.proofs.Placed.{placed}
use Rattle.dsm_protocol.proofs.Turning.{IsSettled, works_held}
use Rattle.dsm_runs.specs.Setups.{Setup, IsSetup, lay_in, who_at}
use Rattle.dsm_runs.specs.Clusters.{Cluster, Event as Going, start, after_loose, after_all_loose}
use Rattle.dsm_runs.specs.Moments.{moments_if, history}
use Rattle.dsm_runs.proofs.Histories.{head_own}
use Rattle.dsm_runs.proofs.Legality.{every_fine, wanting_good}
use Rattle.dsm_runs.proofs.Lists.{some_one}
use Rattle.dsm_runs.proofs.Logs.{onto, log_after, log_all, log_of}
use Rattle.dsm_runs.proofs.Mappings.{first_spares}
use Rattle.dsm_runs.proofs.Seating.{maps_are_its_own, holds_its_turn}
use Rattle.dsm_runs.proofs.Starting.{every_whole, starts_by_items}
use Rattle.dsm_ties.proofs.Beginning.{start_at}
use Rattle.dsm_ties.proofs.Bounding.{clocks_stand}
use Rattle.dsm_ties.proofs.EventTrails.{Trailed, Sound, processor_at, turned, event_trailed}
use Rattle.dsm_ties.proofs.Homes.{all_none, all_one_more}
use Rattle.dsm_ties.proofs.Pacing.{Paced, path_moments, runs_by}
use Rattle.dsm_ties.proofs.Quieting.{stands_quiet}
use Rattle.dsm_ties.proofs.Tracing.{position, Stood, Others, Along, walk}
use Rattle.dsm_ties.proofs.Trails.{AllExact, Trail, Starts, IsExact, Taken, is_noting, moments_of, log_in}

-- what holds of every state
pub sound : (s : Setup) → IsSetup s → (events : List (Going × Option ℕ)) → Sound s (after_all_loose s (start s) events)
sound s is events =
    record {
      ground = record { long = (every_whole s events).0; clocks = λ k k_in. clocks_stand s events is k k_in };
      processors = (every_whole s events).1;
      maps = λ p m h g g_in. maps_are_its_own s events p m is h g g_in;
      spares = λ e m h goes. let n = wanting (who_at s e.p) e.starved m in first_spares (who_at s e.p) n.own n.todo (wanting_good s is e.p (log_of s events) m e.starved ((every_fine s is events).synced.good e.p m h)).syncs;
      turns = λ p m h t i. holds_its_turn s events p m is h t i;
    }

-- the moments and the entries of one event more
history_one_more : (s : Setup) (c : Cluster) (es : List (Going × Option ℕ)) (e : Going × Option ℕ) → history s c (es ++ e ∷ []) ≡ history s c es ++ moments_if s (after_all_loose s c es) e.0 e.1 (slice_get (after_all_loose s c es).processors e.0.p)
unfolding history after_all_loose
history_one_more s c [] e = append-nil (moments_if s c e.0 e.1 (slice_get c.processors e.0.p))
history_one_more s c (x ∷ es) e =
    let d = after_loose s c x.0 x.1 in
    let old = moments_if s c x.0 x.1 (slice_get c.processors x.0.p) in
    ap (λ y. old ++ y) (history_one_more s d es e) ∙ sym (append_assoc old (history s d es) _)

log_one_more : (s : Setup) (c : Cluster) (log : Log) (es : List (Going × Option ℕ)) (e : Going × Option ℕ) → log_all s c log (es ++ e ∷ []) ≡ log_after s (after_all_loose s c es) e.0 e.1 (log_all s c log es)
unfolding log_all after_all_loose
log_one_more s c log [] e = refl
log_one_more s c log (x ∷ es) e = log_one_more s (after_loose s c x.0 x.1) (log_after s c x.0 x.1 log) es e

-- no event has no moments and no entries
none_yet : (s : Setup) (c : Cluster) → ([] ≡ history s c []) × ((log : Log) → log ≡ log_all s c log [])
unfolding history log_all
none_yet s c = (refl, λ log. refl)

module _ (s : Setup) (first : Sound s (start s)) where
  -- the first k processors have come to their first operation, the others are still at the start
  record Begun (k : ℕ) : Type 0 where
    works : ℕ → Work
    owns : ℕ → Own
    trail : Trail s (position s (start s).words works owns)
    moments : moments_of s trail ≡ []
    log : log_in s trail ≡ []
    exact : IsExact s trail
    all : (q : ℕ) (m : Processor) → slice_get (start s).processors q ≡ Some m → q < k → (owns q ≡ m.own) × Stands (who_at s q) (works q) m × IsSettled (who_at s q) (works q)
    rest : (q : ℕ) → k ≤ q → (works q ≡ Off Idle) × (owns q ≡ new_own)

  -- the words have no turn of one that is still at the start
  pub idle_stood : (q : ℕ) → Stood s (start s).words q (Off Idle)
  idle_stood q = record { turns = λ t i. (λ e. absurd (free t i e), λ e. absurd (cc e)); settled = tt }
    where
      free : (t : TurnId) → IsWithin (lay_in s) (turn_item t) → word (lay_in s) (start s).words (turn_item t) ≡ q + 1 → ⊥
      free (Page n g) i e = absurd (let z = starts_by_items s (turn_item (Page n g)) i in omega (arith, z, e))
      free (Notices n) i e = absurd (let z = starts_by_items s (turn_item (Notices n)) i in omega (arith, z, e))

  -- one after the other
  begun : (k : ℕ) → k ≤ s.nodes * s.procs → Begun k
  begun zero k_in = record { works = λ q. Off Idle; owns = λ q. new_own; trail = Starts; moments = refl; log = refl; exact = tt; all = λ q m h b. absurd (omega (arith, b)); rest = λ q b. (refl, refl) }
  begun (suc k) k_in = more (begun k (omega (arith, k_in)))
    where
      k_here : k < s.nodes * s.procs
      k_here = omega (arith, k_in)

      u : Who
      u = who_at s k

      m : Processor
      m = new_processor (who_at s k) s.program.code

      r : Paced (who_at s k) (Off Idle) new_own (Begin Instruction) (new_processor (who_at s k) s.program.code)
      r = runs_by (who_at s k) (placed (who_at s k) k_here) s.program.code (Begins refl)

      settled : IsSettled (who_at s k) r.next
      settled = path_settled (who_at s k) r.path tt

      stands : Stands (who_at s k) r.next (new_processor (who_at s k) s.program.code)
      stands = record { works = r.works; holds = works_held (who_at s k) r.works settled; ready = ready_run (who_at s k) s.program.code new_own (Begin Instruction); over = r.over }

      more : Begun k → Begun (suc k)
      more h = next
        where
          each : (q : ℕ) → q < s.nodes * s.procs → (q < k) ⊎ (k ≤ q) → Stood s (start s).words q (h.works q) × (is_noting (who_at s q) (h.works q) ≡ false)
          each q q_in (inl b) = let o = processor_at s (start s) first q q_in in let z = h.all q o.0 o.1 b in (turned s (first.turns q o.0 o.1) z.1.holds z.2, stands_quiet (who_at s q) z.1)
          each q q_in (inr b) = (subst (Stood s (start s).words q) (sym (h.rest q b).0) (idle_stood q), ap (is_noting (who_at s q)) (h.rest q b).0)

          others : Others s k k_here h.works h.owns [] [] (Unit {0}) (start s).words
          others q q_in ne = each q q_in (grind arith)

          came : Along s k k_here h.works h.owns [] [] (Unit {0}) (start s).words (Off Idle) new_own []
          came = record { works = h.works; owns = h.owns; trail = h.trail; here = (h.rest k (omega arith)).0; holds = (h.rest k (omega arith)).1; others_at = λ q ne. refl; others_hold = λ q ne. refl; moments = h.moments; es = []; trace = refl; log = h.log; exact = λ e. h.exact }

          a : Along s k k_here h.works h.owns [] [] (Unit {0}) (start s).words r.next (new_processor (who_at s k) s.program.code).own ([] ++ path_moments r.path)
          a = walk s k k_here h.works h.owns [] [] (Unit {0}) first.ground others r.path (idle_stood k) (first.maps k (new_processor (who_at s k) s.program.code) (start_at s k k_here)) came

          no_entry : a.es ≡ []
          no_entry = sym a.trace ∙ ap (λ o. o.trace) (head_own (who_at s k) s.program.code new_own Instruction)

          stands_now : (q : ℕ) (o : Processor) → slice_get (start s).processors q ≡ Some o → q < suc k → (q ≡ k) ⊎ (q ≢ k) → (a.owns q ≡ o.own) × Stands (who_at s q) (a.works q) o × IsSettled (who_at s q) (a.works q)
          stands_now q o i b (inl e) =
              let is : new_processor (who_at s k) s.program.code ≡ o = some_one _ o (sym (start_at s k k_here) ∙ (ap (slice_get (start s).processors) (sym e) ∙ i)) in
              subst (λ y. (a.owns y ≡ o.own) × Stands (who_at s y) (a.works y) o × IsSettled (who_at s y) (a.works y)) (sym e)
              (subst (λ y. (a.owns k ≡ y.own) × Stands (who_at s k) (a.works k) y × IsSettled (who_at s k) (a.works k)) is
              (a.holds, subst (λ y. Stands (who_at s k) y (new_processor (who_at s k) s.program.code)) (sym a.here) stands, subst (λ y. IsSettled (who_at s k) y) (sym a.here) settled))
          stands_now q o i b (inr ne) =
              let z = h.all q o i (omega (arith, b, ne)) in
              (a.others_hold q ne ∙ z.0, subst (λ y. Stands (who_at s q) y o) (sym (a.others_at q ne)) z.1, subst (λ y. IsSettled (who_at s q) y) (sym (a.others_at q ne)) z.2)

          next : Begun (suc k)
          next =
              record {
                works = a.works;
                owns = a.owns;
                trail = a.trail;
                moments = a.moments ∙ r.said;
                exact = a.exact tt;
                log = a.log ∙ ap (λ es. onto k es []) no_entry;
                all = λ q o i b. stands_now q o i b (cases_eq q k);
                rest = λ q b. let ne : q ≢ k = λ e. absurd (omega (arith, b, e)) in let z = h.rest q (omega (arith, b)) in (a.others_at q ne ∙ z.0, a.others_hold q ne ∙ z.1);
              }

  -- so a trail leads to the start
  start_trailed : Trailed s (start s) [] [] (AllExact [])
  start_trailed =
      let z = begun (s.nodes * s.procs) (omega arith) in
      record { works = z.works; owns = z.owns; trail = z.trail; moments = z.moments; log = z.log; exact = λ e. z.exact; all = λ q m h. z.all q m h (omega (arith, slice_get_within (start s).processors q m h, first.processors)) }

-- where each of some events and one more has the answer of the words, so have those, and so has that one
exact_more : (es : List (Going × Option ℕ)) (e : Going × Option ℕ) → AllExact (es ++ e ∷ []) → AllExact es × (e.1 ≡ None)
exact_more [] e h = (tt, h.0)
exact_more (x ∷ es) e h = let r = exact_more es e h.1 in ((h.0, r.0), r.1)

-- a trail that is exact where this is so is exact where more is so
sharper : {s : Setup} {c : Cluster} {ms : List Moment} {log : Log} {sure more : Type 0} → (more → sure) → Trailed s c ms log sure → Trailed s c ms log more
sharper less r = record { works = r.works; owns = r.owns; trail = r.trail; moments = r.moments; log = r.log; exact = λ h. r.exact (less h); all = r.all }

module _ (s : Setup) (is : IsSetup s) where
  -- a trail to where a list of events leads
  abbrev At : List (Going × Option ℕ) → Type 0
  At events = Trailed s (after_all_loose s (start s) events) (history s (start s) events) (log_of s events) (AllExact events)

  -- behind one event more, behind more of them, and before any
  one_more : (events : List (Going × Option ℕ)) (e : Going × Option ℕ) → At events → At (events ++ e ∷ [])
  one_more events e r =
      let same = all_one_more s (start s) events e in
      let next = event_trailed s (after_all_loose s (start s) events) e.0 e.1 (sound s is events) (subst (Sound s) same (sound s is (events ++ e ∷ []))) (history s (start s) events) (log_of s events) (AllExact (events ++ e ∷ [])) (λ h. (exact_more events e h).1) (sharper (λ h. (exact_more events e h).0) r) in
      subst (λ c. Trailed s c (history s (start s) (events ++ e ∷ [])) (log_of s (events ++ e ∷ [])) (AllExact (events ++ e ∷ []))) (sym same)
      (subst (λ ms. Trailed s (after_loose s (after_all_loose s (start s) events) e.0 e.1) ms (log_of s (events ++ e ∷ [])) (AllExact (events ++ e ∷ []))) (sym (history_one_more s (start s) events e))
      (subst (λ log. Trailed s (after_loose s (after_all_loose s (start s) events) e.0 e.1) (history s (start s) events ++ moments_if s (after_all_loose s (start s) events) e.0 e.1 (slice_get (after_all_loose s (start s) events).processors e.0.p)) log (AllExact (events ++ e ∷ []))) (sym (log_one_more s (start s) [] events e)) next))

  all_more : (events more : List (Going × Option ℕ)) → At events → At (events ++ more)
  all_more events [] r = subst At (sym (append-nil events)) r
  all_more events (e ∷ more) r = subst At (append_assoc events (e ∷ []) more) (all_more (events ++ e ∷ []) more (one_more events e r))

  at_start : At []
  at_start =
      let none = all_none s (start s) in
      let yet = none_yet s (start s) in
      subst (λ c. Trailed s c (history s (start s) []) (log_of s []) (AllExact [])) none
      (subst (λ ms. Trailed s (start s) ms (log_of s []) (AllExact [])) yet.0 (subst (λ log. Trailed s (start s) [] log (AllExact [])) (yet.1 []) (start_trailed s (subst (Sound s) (sym none) (sound s is [])))))

  -- such a trail takes the events apart
  taken : (events : List (Going × Option ℕ)) → At events → Taken s events
  taken events r =
      let c = after_all_loose s (start s) events in
      let all = sound s is events in
      record {
        last = position s (after_all_loose s (start s) events).words r.works r.owns;
        trail = r.trail;
        fine = record {
          long = all.ground.long;
          clocks = all.ground.clocks;
          turns = λ q t q_in i. let o = processor_at s c all q q_in in let z = r.all q o.0 o.1 in (turned s {w = r.works q} (all.turns q o.0 o.1) z.1.holds z.2).turns t i;
          settled = λ q q_in. let o = processor_at s c all q q_in in (r.all q o.0 o.1).2;
        };
        maps = λ q q_in g g_in. let o = processor_at s c all q q_in in all.maps q o.0 o.1 g g_in ∙ ap (λ y. slice_index y.maps g) (sym (r.all q o.0 o.1).0);
        quiet = λ q q_in. let o = processor_at s c all q q_in in stands_quiet (who_at s q) (r.all q o.0 o.1).1;
        exact = r.exact;
        pictures = record { words = refl; all = λ q m h. let z = r.all q m h in (z.0, z.1) };
        moments = r.moments;
        log = r.log;
      }

-- each list of loose events is taken apart
pub every_run : (s : Setup) → IsSetup s → (events : List (Going × Option ℕ)) → Taken s events
every_run s is events = taken s is events (all_more s is [] events (at_start s is))
