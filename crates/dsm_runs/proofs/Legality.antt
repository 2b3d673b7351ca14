-- The log of every list of events is legal.
use Rattle.std.proofs.Common.{◌≡◌, ◌≢◌, ℕ, zero, suc, ◌+◌, ◌*◌, ◌<◌, ◌≤◌, ◌⊎◌, ◌==◌, Bool, true, false, List, [], ◌∷◌, ◌++◌, map, replicate, Option, Some, None, length, refl, sym, ap, ◌∙◌, subst, inl, inr, if◌then◌else◌, arith}
use Rattle.std.specs.Prelude.{slice_get, slice_set}
use Rattle.std.proofs.lemmas.Bool.{cases_eq, eqb-true}
use Rattle.std.proofs.lemmas.List.{append-nil, length-replicate}
use Rattle.std.proofs.lemmas.Option.{slice_get_past, slice_get_within}
use Rattle.dsm_entry.specs.declared.entry.Obj.TheVariants.{Lock, Barrier, Flag, Close}
use Rattle.dsm_entry.specs.declared.entry.Entry.{Entry}
use Rattle.dsm_flat.proofs.History.{Log, mine, mine_own}
use Rattle.dsm_flat.proofs.Legal.{holder, Legal, sync_legal}
use Rattle.dsm_local.specs.declared.end.End.TheVariants.{NoMemory}
use Rattle.dsm_words.specs.declared.item.Item.TheVariants.{Stop}
use Rattle.dsm_words.specs.Place.{total}
use Rattle.dsm_words.specs.Script.{Act, Get}
use Rattle.dsm_words.specs.Words.{done, reply}
use Rattle.dsm_protocol.specs.declared.head.Head.TheVariants.{Instruction}
use Rattle.dsm_protocol.specs.Own.{Own, new_own}
use Rattle.dsm_protocol.specs.Jobs.{Job, Make, Again, Mark, Ask, Begin, Ended, first_act, job_after, has_ended}
use Rattle.dsm_protocol.specs.Steps.{starved_job}
use Rattle.dsm_protocol.specs.Processors.{Processor, run_on, new_processor, wanting, after_given}
use Rattle.dsm_runs.specs.Setups.{Setup, IsSetup, lay_in, who_at}
use Rattle.dsm_runs.specs.Clusters.{Cluster, Event, start, answer, act_in, moved, after_loose, after_all_loose}
use Rattle.dsm_runs.specs.Legality.{EverySyncIsLegal}
use Rattle.dsm_runs.proofs.Lists.{slice_get-set_same, slice_get-set_other, slice_get-map-range_with_len, some_one}
use Rattle.dsm_runs.proofs.Events.{keeps_lengths}
use Rattle.dsm_runs.proofs.Starting.{starts_by_items, length-words, length-processors}
use Rattle.dsm_runs.proofs.Logs.{traced, onto, log_after, log_of, every_log}
use Rattle.dsm_runs.proofs.Histories.{AllTraced, event_traced, start_traced, is_history, by_logged, entries_one}
use Rattle.dsm_runs.proofs.Counting.{many, signals_most}
use Rattle.dsm_runs.proofs.Owing.{object_item, Quiet, Pays, Syncs, syncs_stop}
use Rattle.dsm_runs.proofs.Agreeing.{AgreeSync, open_in, AreHeld, AreFew, Effect, IsTold, answer_told, paid, rested}
use Rattle.dsm_runs.proofs.Settling.{IsGood, IsOwn, grown, MayGrow, held_other, run_good, Stepped, quiet, ran}

-- an event that leaves one entry, or none, has no other
onto_grown : (p : ℕ) (log : Log) (d : Option Entry) (es : List Entry) → mine p (grown p log d) ≡ mine p log ++ es → onto p es log ≡ grown p log d
onto_grown p log None es is = ap (λ x. onto p x log) (entries_one (mine p log) es [] (sym is ∙ sym (append-nil (mine p log))))
onto_grown p log (Some e) es is = ap (λ x. onto p x log) (entries_one (mine p log) es (e ∷ []) (sym is ∙ mine_own (record { p = p; e = e }) log p refl))

-- at the start no pass is open
none_open : (n l : ℕ) → open_in (replicate n None) l ≡ None
none_open zero l = refl
none_open (suc n) zero = refl
none_open (suc n) (suc l) = none_open n l

module _ (s : Setup) where
  abbrev all : ℕ
  all = s.nodes * s.procs

  -- the log is legal, the words of the objects say what it says, and each processor keeps to it
  pub record IsSynced (c : Cluster) (log : Log) : Type 0 where
    pub legal : Legal all log
    pub agree : AgreeSync (lay_in s) c.words log
    pub good : (p : ℕ) (m : Processor) → slice_get c.processors p ≡ Some m → IsGood (who_at s p) log m

  -- besides, the state is whole, and its traces are those of the log
  pub record IsFine (c : Cluster) (log : Log) : Type 0 where
    pub words : length c.words ≡ total (lay_in s)
    pub processors : length c.processors ≡ all
    pub traces : AllTraced s c log
    pub synced : IsSynced c log

  module _ (setup : IsSetup s) where
    -- each processor made few signals, and so there are few
    few : (c : Cluster) (log : Log) → IsFine c log → AreFew log
    few c log fine o = let most = signals_most all log o 1000000 absent made in omega (arith, most, setup.all)
      where
        absent : (q : ℕ) → all ≤ q → mine q log ≡ []
        absent q h = sym (fine.traces q) ∙ ap traced (slice_get_past c.processors q (omega (arith, fine.processors, h)))

        made : (q : ℕ) → q < all → many (mine q log) ≤ 1000000
        made q h = subst (λ t. many t ≤ 1000000) (fine.traces q) (go (slice_get c.processors q) refl)
          where
            go : (m : Option Processor) → slice_get c.processors q ≡ m → many (traced m) ≤ 1000000
            go None at = omega arith
            go (Some m) at = omega (arith, (fine.synced.good q m at).few, setup.turns)

    -- a processor that wants memory has another job
    pub wanting_good : (p : ℕ) (log : Log) (m : Processor) (b : Bool) → IsGood (who_at s p) log m → IsGood (who_at s p) log (wanting (who_at s p) b m)
    wanting_good p log m true g = go (has_ended m.todo)
      where
        go : (b : Bool) → IsGood (who_at s p) log (record { own = m.own; todo = if b then m.todo else starved_job (who_at s p) })
        go true = g
        go false = record { held = g.held; places = g.places; few = g.few; syncs = syncs_stop (who_at s p) m.own None NoMemory tt }
    wanting_good p log m false g = g

    module _ (c : Cluster) (log : Log) (fine : IsFine c log) (p : ℕ) (placed : p < all) where
      -- one operation of processor p, with its answer
      module _ (a : Act) (x : ℕ) (told : IsTold (lay_in s) c.words a x) where
        abbrev Steps : Processor → Type 0
        Steps m = Stepped (who_at s p) s.program.code placed setup.sizes.2 setup.objects (done (lay_in s) c.words a) log m

        rests : Quiet (who_at s p) a x → AgreeSync (lay_in s) (done (lay_in s) c.words a) log
        rests q = rested (who_at s p) c.words log fine.synced.legal fine.words fine.synced.agree (few c log fine) setup.all a x told q

        pays : (o : Own) (e : Entry) → o.trace ≡ mine p log → AreHeld p (λ l. holder l log) o.reader.passes → Pays (who_at s p) o a x e → Effect all p (lay_in s) (done (lay_in s) c.words a) log e
        pays o e own held h = paid (who_at s p) c.words log fine.synced.legal fine.words fine.synced.agree (few c log fine) setup.all o a x e own held told h

        idle : (o : Own) (j : Job) → IsOwn (who_at s p) log o.trace o.reader.passes → Quiet (who_at s p) a x → Syncs (who_at s p) o None j → Steps (run_on (who_at s p) s.program.code o j)
        idle o j own q h = quiet (who_at s p) s.program.code placed setup.sizes.2 setup.objects setup.sizes.4 (done (lay_in s) c.words a) log a x rests pays j o own q h

        made : (o : Own) (j : Job) → IsOwn (who_at s p) log o.trace o.reader.passes → Syncs (who_at s p) o (Some (a, x)) j → Steps (run_on (who_at s p) s.program.code o j)
        made o j own h = ran (who_at s p) s.program.code placed setup.sizes.2 setup.objects setup.sizes.4 (done (lay_in s) c.words a) log a x rests pays j o own h

      stepped : (o : Own) (j : Job) (x : ℕ) (told : IsTold (lay_in s) c.words (first_act j) x) → IsOwn (who_at s p) log o.trace o.reader.passes → Syncs (who_at s p) o None j
          → Steps (first_act j) x told (run_on (who_at s p) s.program.code o (job_after j x))
      stepped o (Make a k) x told own h = made a x told o (k x) own (h.1 x)
      stepped o (Again a wanted j) x told own h = go (x == wanted) refl
        where
          go : (b : Bool) → (x == wanted) ≡ b → Steps a x told (run_on (who_at s p) s.program.code o (if b then j else Again a wanted j))
          go true is = made a x told o j own (subst (λ y. Syncs (who_at s p) o (Some (a, y)) j) (sym (eqb-true x wanted is)) h.2)
          go false is = made a x told o (Again a wanted j) own (h.1 x, h.1, h.2)
      stepped o (Mark n j) x told own h = idle (Get Stop) x told o (Mark n j) own tt h
      stepped o (Ask f) x told own h = idle (Get Stop) x told o (Ask f) own tt h
      stepped o (Begin b) x told own h = idle (Get Stop) x told o (Begin b) own tt h
      stepped o (Ended e) x told own h = idle (Get Stop) x told o (Ended e) own tt h

      -- the log and the processors behind it
      grown_legal : (d : Option Entry) → MayGrow all p log d → Legal all (grown p log d)
      grown_legal None may = fine.synced.legal
      grown_legal (Some e) may = (may, fine.synced.legal)

      grown_other : (q : ℕ) (m : Processor) (d : Option Entry) → p ≢ q → MayGrow all p log d → IsGood (who_at s q) log m → IsGood (who_at s q) (grown p log d) m
      grown_other q m None ne may g = g
      grown_other q m (Some e) ne may g = record { held = held_other all p q log e m.own.reader.passes ne may g.held; places = g.places; few = g.few; syncs = g.syncs }

      changed : (ws : List ℕ) (m new : Processor) (d : Option Entry) → slice_get c.processors p ≡ Some m → MayGrow all p log d → AgreeSync (lay_in s) ws (grown p log d) → IsGood (who_at s p) (grown p log d) new
          → IsSynced (record { words = ws; processors = slice_set c.processors p new }) (grown p log d)
      changed ws m new d at may agree good = record { legal = grown_legal d may; agree = agree; good = λ q n h. each q n h (cases_eq p q) }
        where
          here : slice_get (slice_set c.processors p new) p ≡ Some new
          here = slice_get-set_same c.processors p m new at

          each : (q : ℕ) (n : Processor) → slice_get (slice_set c.processors p new) q ≡ Some n → (p ≡ q) ⊎ (p ≡ q → ⊥) → IsGood (who_at s q) (grown p log d) n
          each q n h (inl e) =
              let same : new ≡ n = some_one new n (sym here ∙ (ap (slice_get (slice_set c.processors p new)) e ∙ h)) in
              subst (λ i. IsGood (who_at s i) (grown p log d) n) e (subst (λ y. IsGood (who_at s p) (grown p log d) y) same good)
          each q n h (inr ne) =
              grown_other q n d ne may (fine.synced.good q n (sym (slice_get-set_other c.processors p q new (λ e. ne (sym e))) ∙ h))

    -- one event of a processor, which leaves these entries
    moved_synced : (c : Cluster) (e : Event) (any : Option ℕ) (log : Log) → IsFine c log → (m : Processor) (es : List Entry) → slice_get c.processors e.p ≡ Some m
        → (after_given (who_at s e.p) s.program.code m (record { starved = e.starved; got = answer any (act_in s e m) (reply (lay_in s) c.words (act_in s e m)) })).own.trace ≡ m.own.trace ++ es → IsSynced (moved s c e any m) (onto e.p es log)
    moved_synced c e any log fine m es at more =
        let placed : e.p < all = omega (arith, slice_get_within c.processors e.p m at, fine.processors) in
        let n = wanting (who_at s e.p) e.starved m in
        let own : m.own.trace ≡ mine e.p log = ap traced (sym at) ∙ fine.traces e.p in
        let g = wanting_good e.p log m e.starved (fine.synced.good e.p m at) in
        let x : ℕ = answer any (act_in s e m) (reply (lay_in s) c.words (act_in s e m)) in
        let facts : IsOwn (who_at s e.p) log n.own.trace n.own.reader.passes = record { own = wanting_own e.starved ∙ own; held = g.held; places = g.places; few = g.few } in
        let step = stepped c log fine e.p placed n.own n.todo x (answer_told (lay_in s) c.words any (act_in s e m)) facts g.syncs in
        let new : Processor = run_on (who_at s e.p) s.program.code n.own (job_after n.todo x) in
        let is : onto e.p es log ≡ grown e.p log step.entry = onto_grown e.p log step.entry es (sym step.settled.own ∙ (more ∙ ap (λ t. t ++ es) own)) in
        subst (IsSynced (moved s c e any m)) (sym is) (changed c log fine e.p placed (done (lay_in s) c.words (act_in s e m)) m new step.entry at step.may step.agree step.settled.good)
      where
        wanting_own : (b : Bool) → (wanting (who_at s e.p) b m).own.trace ≡ m.own.trace
        wanting_own true = refl
        wanting_own false = refl

    pub event_fine : (c : Cluster) (e : Event) (any : Option ℕ) (log : Log) → IsFine c log → IsFine (after_loose s c e any) (log_after s c e any log)
    event_fine c e any log fine =
        let kept = keeps_lengths s c e any in
        record {
          words = kept.0 ∙ fine.words;
          processors = kept.1 ∙ fine.processors;
          traces = event_traced s c e any log fine.traces;
          synced = by_logged s c e any log IsSynced fine.synced (λ m es at goes more. moved_synced c e any log fine m es at more);
        }

    -- before any event
    new_good : (p : ℕ) → p < all → IsGood (who_at s p) [] (new_processor (who_at s p) s.program.code)
    new_good p placed =
        let none : (l : ℕ) → open_in (replicate 64 None) l ≡ None = none_open 64 in
        (run_good (who_at s p) s.program.code placed setup.sizes.2 setup.objects (Begin Instruction) new_own []
        (record {
          own = refl;
          held = λ l k. (λ h. absurd (let n = none l in cc (n, h)), λ h. absurd (cc h));
          places = length-replicate {A = Option ℕ} 64 None;
          few = omega arith;
        })
        (tt, omega arith)).good

    start_good : (p : ℕ) (m : Processor) → slice_get (start s).processors p ≡ Some m → IsGood (who_at s p) [] m
    unfolding start
    start_good p m at =
        let new : ℕ → Processor = λ q. new_processor (who_at s q) s.program.code in
        let is : m ≡ new p = slice_get-map-range_with_len new all 0 p m at ∙ ap new (let z : 0 + p ≡ p = omega arith in z) in
        let placed : p < all = omega (arith, slice_get_within (start s).processors p m at, length-processors s) in
        subst (IsGood (who_at s p) []) (sym is) (new_good p placed)

    start_agree : AgreeSync (lay_in s) (start s).words []
    start_agree (Lock l) there = starts_by_items s (object_item (Lock l)) there
    start_agree (Barrier b) there = starts_by_items s (object_item (Barrier b)) there
    start_agree (Flag f) there = starts_by_items s (object_item (Flag f)) there
    start_agree Close there = starts_by_items s (object_item Close) there

    pub start_fine : IsFine (start s) []
    start_fine = record { words = length-words s; processors = length-processors s; traces = start_traced s; synced = record { legal = tt; agree = start_agree; good = start_good } }

    -- every list of events
    pub every_fine : (events : List (Event × Option ℕ)) → IsFine (after_all_loose s (start s) events) (log_of s events)
    every_fine events = every_log s IsFine event_fine events (start s) [] start_fine

    pub every_log_legal : (events : List (Event × Option ℕ)) → Legal all (log_of s events)
    every_log_legal events = (every_fine events).synced.legal

pub every_sync_legal : EverySyncIsLegal
every_sync_legal s events setup =
    sync_legal (s.nodes * s.procs) (log_of s events) (map (λ m. m.own.trace) (after_all_loose s (start s) events).processors) (is_history s events) (every_log_legal s setup events)
