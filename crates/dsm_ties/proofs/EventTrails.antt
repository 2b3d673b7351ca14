-- A trail to a state goes on to the state behind one event, with its moments and entries.
use Rattle.std.proofs.Common.{◌≡◌, ◌≢◌, ◌⊎◌, inl, inr, ℕ, ◌+◌, ◌*◌, ◌<◌, Bool, true, false, List, [], ◌++◌, length, drop, Option, None, Some, refl, sym, ap, ◌∙◌, subst, arith, if◌then◌else◌}
use Rattle.std.specs.Prelude.{slice_get, ◌↔◌}
use Rattle.std.proofs.lemmas.Bool.{cases_eq}
use Rattle.std.proofs.lemmas.List.{append-nil}
use Rattle.std.proofs.lemmas.Option.{slice_get_within, slice_get-get_or}
use Rattle.std.proofs.Math.Seq.{drop-append_seam, drop-length}
use Rattle.dsm_entry.specs.declared.entry.Entry.{Entry}
use Rattle.dsm_words.specs.Place.{IsWithin}
use Rattle.dsm_words.specs.Words.{word, done, reply}
use Rattle.dsm_clock.specs.declared.turns.TurnId.{TurnId}
use Rattle.dsm_clock.specs.Turns.{turn_item}
use Rattle.dsm_flat.proofs.History.{Log}
use Rattle.dsm_protocol.specs.Own.{Own, Who}
use Rattle.dsm_protocol.specs.Jobs.{Moment, first_act, job_after, has_ended, held_turn}
use Rattle.dsm_protocol.specs.Steps.{starved_job}
use Rattle.dsm_protocol.specs.Processors.{Processor, new_processor, run_on, wanting, after_given}
use Rattle.dsm_protocol.specs.Stages.{Work, Gone, turn_at}
use Rattle.dsm_protocol.specs.Standing.{Stands, Ends}
use Rattle.dsm_protocol.proofs.Placed.{placed}
use Rattle.dsm_protocol.proofs.Turning.{IsSettled, works_held}
use Rattle.dsm_protocol.proofs.Moving.{path_settled, ready_run}
use Rattle.dsm_runs.specs.Setups.{Setup, lay_in, who_at}
use Rattle.dsm_runs.specs.Clusters.{Cluster, Event, stays, answer, act_in, given_in, moved, moved_if, after_loose}
use Rattle.dsm_runs.specs.Moments.{moments, moments_if}
use Rattle.dsm_runs.proofs.Alive.{alive, wanting_is}
use Rattle.dsm_runs.proofs.Lists.{slice_get-set_same, slice_get-set_other, some_one}
use Rattle.dsm_runs.proofs.Logs.{onto, traced, trace_at, log_after}
use Rattle.dsm_runs.proofs.Mappings.{IsSparing}
use Rattle.dsm_ties.proofs.KeptTurns.{path_turn}
use Rattle.dsm_ties.proofs.Pacing.{Paced, Stepped, path_moments, runs_by, steps_by}
use Rattle.dsm_ties.proofs.Places.{after_is}
use Rattle.dsm_ties.proofs.Quieting.{stands_quiet}
use Rattle.dsm_ties.proofs.Starving.{works_clean, no_turn}
use Rattle.dsm_ties.proofs.Tracing.{position, Stood, Ground, MapsAre, Others, Along, path_stood, act, starve, walk}
use Rattle.dsm_ties.proofs.Trails.{Trail, IsExact, moments_of, log_in}

module _ (s : Setup) where
  -- A trail leads to the words of a state, with these moments and entries, and each processor stands and holds what it does there.
  pub record Trailed (c : Cluster) (ms : List Moment) (xs : Log) (sure : Type 0) : Type 0 where
    pub works : ℕ → Work
    pub owns : ℕ → Own
    pub trail : Trail s (position s c.words works owns)
    pub moments : moments_of s trail ≡ ms
    pub log : log_in s trail ≡ xs
    pub exact : sure → IsExact s trail
    pub all : (p : ℕ) (m : Processor) → slice_get c.processors p ≡ Some m → (owns p ≡ m.own) × Stands (who_at s p) (works p) m × IsSettled (who_at s p) (works p)

  -- what holds of each state of the cluster
  pub record Sound (c : Cluster) : Type 0 where
    pub ground : Ground s c.words
    pub processors : length c.processors ≡ s.nodes * s.procs
    pub maps : (p : ℕ) (m : Processor) → slice_get c.processors p ≡ Some m → MapsAre s c.words p m.own
    pub spares : (e : Event) (m : Processor) → slice_get c.processors e.p ≡ Some m → stays e.starved m.todo ≡ false → IsSparing (who_at s e.p) (act_in s e m)
    pub turns : (p : ℕ) (m : Processor) → slice_get c.processors p ≡ Some m → (t : TurnId) → IsWithin (lay_in s) (turn_item t) → (word (lay_in s) c.words (turn_item t) ≡ p + 1) ↔ (held_turn m.todo ≡ Some t)

  -- each number is that of a processor
  pub processor_at : (c : Cluster) → Sound c → (q : ℕ) → q < s.nodes * s.procs → (m : Processor) × (slice_get c.processors q ≡ Some m)
  processor_at c sound q q_in = (_, slice_get-get_or c.processors q (new_processor (who_at s q) s.program.code) (omega (arith, q_in, sound.processors)))

  -- the words have the turn of one that does its job by the table
  pub turned : {ws : List ℕ} {p : ℕ} {w : Work} {t' : Option TurnId} → ((t : TurnId) → IsWithin (lay_in s) (turn_item t) → (word (lay_in s) ws (turn_item t) ≡ p + 1) ↔ (t' ≡ Some t)) → t' ≡ turn_at (who_at s p) w → IsSettled (who_at s p) w → Stood s ws p w
  turned turns same settled = record { turns = λ t i. (λ e. sym same ∙ (turns t i).0 e, λ e. (turns t i).1 (same ∙ e)); settled = settled }

  -- one event of a processor
  module _ (c : Cluster) (p : ℕ) (p_in : p < s.nodes * s.procs) (any : Option ℕ) (m : Processor) (ms : List Moment) (log : Log) (sure : Type 0) (is_sure : sure → any ≡ None) (works0 : ℕ → Work) (owns0 : ℕ → Own) where
    abbrev u : Who
    u = who_at s p

    -- the answer, the words and the processor behind the first operation of n
    abbrev got : Processor → ℕ
    got n = answer any (first_act n.todo) (reply (lay_in s) c.words (first_act n.todo))

    abbrev words_behind : Processor → List ℕ
    words_behind n = done (lay_in s) c.words (first_act n.todo)

    abbrev new_of : Processor → Processor
    new_of n = run_on u s.program.code n.own (job_after n.todo (got n))

    -- a trail has led on to where the new processor stands
    record Ahead (ws : List ℕ) (new : Processor) (more : List Moment) : Type 0 where
      next : Work
      along : Along s p p_in works0 owns0 m.own.trace log sure ws next new.own (ms ++ more)
      stands : Stands (who_at s p) next new
      settled : IsSettled (who_at s p) next

    -- what is so of the words behind it
    record Behind (n : Processor) : Type 0 where
      ground : Ground s (words_behind n)
      others : Others s p p_in works0 owns0 m.own.trace log sure (words_behind n)
      maps : MapsAre s (words_behind n) p (new_of n).own
      turns : (t : TurnId) → IsWithin (lay_in s) (turn_item t) → (word (lay_in s) (words_behind n) (turn_item t) ≡ p + 1) ↔ (held_turn (new_of n).todo ≡ Some t)

    -- what one event of n comes to
    abbrev Goal : Processor → Type 0
    Goal n = Behind n → Ahead (words_behind n) (new_of n) (moments m.own (job_after n.todo (got n)))

    module _ (ground : Ground s c.words) (others : Others s p p_in works0 owns0 m.own.trace log sure c.words) (w : Work) (stands : Stands (who_at s p) w m) (stood : Stood s c.words p w) (k : Along s p p_in works0 owns0 m.own.trace log sure c.words w m.own ms) where
      -- it is not starved
      goes_free : stays false m.todo ≡ false → MapsAre s c.words p m.own → IsSparing (who_at s p) (first_act m.todo) → Goal m
      goes_free lives maps spares b =
          record { next = r.next; along = subst (λ y. Along s p p_in works0 owns0 m.own.trace log sure (words_behind m) r.next (new_of m).own y) same k2; stands = record { works = r.works; holds = held; ready = ready_run u s.program.code m.own (job_after m.todo (got m)); over = r.over }; settled = path_settled u r.path z.owed }
        where
          z : Stepped (who_at s p) w m.own (first_act m.todo) (got m) (job_after m.todo (got m))
          z = steps_by u (got m) stands.works lives stands.ready

          r : Paced (who_at s p) z.to m.own (job_after m.todo (got m)) (new_of m)
          r = runs_by u (placed u p_in) s.program.code z.works

          held : held_turn (new_of m).todo ≡ turn_at (who_at s p) r.next
          held = works_held u r.works (path_settled u r.path z.owed)

          k0 : Along s p p_in works0 owns0 m.own.trace log sure c.words z.from m.own (ms ++ path_moments z.before)
          k0 = walk s p p_in works0 owns0 m.own.trace log sure ground others z.before stood maps k

          k1 : Along s p p_in works0 owns0 m.own.trace log sure (words_behind m) z.to m.own (ms ++ path_moments z.before)
          k1 = act s p p_in works0 owns0 m.own.trace log sure ground others any is_sure (path_stood s z.before stood) maps spares z.row k0

          k2 : Along s p p_in works0 owns0 m.own.trace log sure (words_behind m) r.next (new_of m).own ((ms ++ path_moments z.before) ++ path_moments r.path)
          k2 = walk s p p_in works0 owns0 m.own.trace log sure b.ground b.others r.path (turned b.turns (held ∙ path_turn u r.path z.owed) z.owed) b.maps k1

          same : (ms ++ path_moments z.before) ++ path_moments r.path ≡ ms ++ moments m.own (job_after m.todo (got m))
          same = ap (λ y. (ms ++ y) ++ path_moments r.path) z.none ∙ ap (λ y. y ++ path_moments r.path) (append-nil ms) ∙ ap (λ y. ms ++ y) r.said

      -- it is
      goes_starved : stays true m.todo ≡ false → Goal (record { own = m.own; todo = starved_job (who_at s p) })
      goes_starved lives b =
          let free = no_turn (has_ended m.todo) (held_turn m.todo) lives in
          let clean : (g : ℕ) → _ = λ g. works_clean g stands.works stands.ready free.0 in
          let k1 = starve s p p_in works0 owns0 m.own.trace log sure ground others stood (sym stands.holds ∙ free.1) (λ g. (clean g).0) (clean 0).1 (stands_quiet (who_at s p) stands) k in
          record { next = Gone; along = subst (λ y. Along s p p_in works0 owns0 m.own.trace log sure (words_behind (record { own = m.own; todo = starved_job (who_at s p) })) Gone m.own y) (sym (append-nil ms)) k1; stands = record { works = Ends refl refl; holds = refl; ready = refl; over = refl }; settled = tt }

      -- one or the other
      goes_any : (starved : Bool) → stays starved m.todo ≡ false → MapsAre s c.words p m.own → IsSparing (who_at s p) (first_act (wanting (who_at s p) starved m).todo) → Goal (wanting (who_at s p) starved m)
      goes_any false lives maps spares = goes_free lives maps spares
      goes_any true lives maps spares = subst Goal (sym (wanting_is u m (alive true m.todo lives))) (goes_starved lives)

  -- the log behind an event whose processor has these entries more
  log_grows : (c : Cluster) (e : Event) (any : Option ℕ) (log : Log) (m new : Processor) (es : List Entry) → slice_get c.processors e.p ≡ Some m → slice_get (after_loose s c e any).processors e.p ≡ Some new → new.own.trace ≡ m.own.trace ++ es → log_after s c e any log ≡ onto e.p es log
  log_grows c e any log m new es here there grown =
      ap (λ t. onto e.p (drop (length t) (trace_at (after_loose s c e any) e.p)) log) (ap traced here)
      ∙ ap (λ t. onto e.p (drop (length m.own.trace) t) log) (ap traced there ∙ grown)
      ∙ ap (λ t. onto e.p t log) (drop-append_seam m.own.trace es)

  -- an event that can be
  module _ (c : Cluster) (e : Event) (any : Option ℕ) (m : Processor) (here : slice_get c.processors e.p ≡ Some m) (goes : stays e.starved m.todo ≡ false) (sound : Sound c) (later : Sound (moved s c e any m)) (ms : List Moment) (log : Log) (sure : Type 0) (is_sure : sure → any ≡ None) (r : Trailed c ms log sure) where
    abbrev new : Processor
    new = after_given (who_at s e.p) s.program.code m (given_in s c e any m)

    p_in : e.p < s.nodes * s.procs
    p_in = omega (arith, slice_get_within c.processors e.p m here, sound.processors)

    -- the new processor is there, and the others stay
    there : slice_get (moved s c e any m).processors e.p ≡ Some new
    there = slice_get-set_same c.processors e.p m new here

    same_there : (q : ℕ) (o : Processor) → q ≢ e.p → slice_get c.processors q ≡ Some o → slice_get (moved s c e any m).processors q ≡ Some o
    same_there q o ne h = slice_get-set_other c.processors e.p q new ne ∙ h

    -- the words before the event have the turns of all, and those behind it those of the others
    old_stood : (q : ℕ) (o : Processor) → slice_get c.processors q ≡ Some o → Stood s c.words q (r.works q)
    old_stood q o h = let z = r.all q o h in turned (sound.turns q o h) z.1.holds z.2

    others_before : Others s e.p p_in r.works r.owns m.own.trace log sure c.words
    others_before q q_in ne = let o = processor_at c sound q q_in in (old_stood q o.0 o.1, stands_quiet (who_at s q) (r.all q o.0 o.1).1)

    others_behind : Others s e.p p_in r.works r.owns m.own.trace log sure (moved s c e any m).words
    others_behind q q_in ne =
        let o = processor_at c sound q q_in in
        let z = r.all q o.0 o.1 in
        (turned (later.turns q o.0 (same_there q o.0 ne o.1)) z.1.holds z.2, stands_quiet (who_at s q) z.1)

    -- the trail so far, and where it goes on
    so_far : Along s e.p p_in r.works r.owns m.own.trace log sure c.words (r.works e.p) m.own ms
    so_far = record { works = r.works; owns = r.owns; trail = r.trail; here = refl; holds = (r.all e.p m here).0; others_at = λ q ne. refl; others_hold = λ q ne. refl; moments = r.moments; es = []; trace = sym (append-nil m.own.trace); log = r.log; exact = r.exact }

    ahead : Ahead c e.p p_in any m ms log sure is_sure r.works r.owns (moved s c e any m).words new (moments m.own (job_after (wanting (who_at s e.p) e.starved m).todo (given_in s c e any m).got))
    ahead =
        let z = r.all e.p m here in
        goes_any c e.p p_in any m ms log sure is_sure r.works r.owns sound.ground others_before (r.works e.p) z.1 (old_stood e.p m here) so_far e.starved goes (sound.maps e.p m here) (sound.spares e m here goes)
        (record { ground = later.ground; others = others_behind; maps = later.maps e.p new there; turns = later.turns e.p new there })

    -- each processor of the state behind the event stands and holds what it does there
    stands_behind : (q : ℕ) (o : Processor) → slice_get (moved s c e any m).processors q ≡ Some o → (q ≡ e.p) ⊎ (q ≢ e.p) → (ahead.along.owns q ≡ o.own) × Stands (who_at s q) (ahead.along.works q) o × IsSettled (who_at s q) (ahead.along.works q)
    stands_behind q o h (inl is) =
        let a = ahead in
        let same : new ≡ o = some_one new o (sym there ∙ (ap (slice_get (moved s c e any m).processors) (sym is) ∙ h)) in
        subst (λ y. (ahead.along.owns y ≡ o.own) × Stands (who_at s y) (ahead.along.works y) o × IsSettled (who_at s y) (ahead.along.works y)) (sym is)
        (subst (λ y. (ahead.along.owns e.p ≡ y.own) × Stands (who_at s e.p) (ahead.along.works e.p) y × IsSettled (who_at s e.p) (ahead.along.works e.p)) same
        (a.along.holds, subst (λ y. Stands (who_at s e.p) y new) (sym a.along.here) a.stands, subst (λ y. IsSettled (who_at s e.p) y) (sym a.along.here) a.settled))
    stands_behind q o h (inr ne) =
        let z = r.all q o (sym (slice_get-set_other c.processors e.p q new ne) ∙ h) in
        (ahead.along.others_hold q ne ∙ z.0, subst (λ y. Stands (who_at s q) y o) (sym (ahead.along.others_at q ne)) z.1, subst (λ y. IsSettled (who_at s q) y) (sym (ahead.along.others_at q ne)) z.2)

    moved_trailed : Trailed (moved s c e any m) (ms ++ moments m.own (job_after (wanting (who_at s e.p) e.starved m).todo (given_in s c e any m).got)) (log_after s c e any log) sure
    moved_trailed =
        let found : slice_get (after_loose s c e any).processors e.p ≡ Some new = ap (λ d. slice_get d.processors e.p) (after_is s c e any m here goes) ∙ there in
        record {
          works = ahead.along.works;
          owns = ahead.along.owns;
          trail = ahead.along.trail;
          moments = ahead.along.moments;
          log = ahead.along.log ∙ sym (log_grows c e any log m new ahead.along.es here found ahead.along.trace);
          exact = ahead.along.exact;
          all = λ q o h. stands_behind q o h (cases_eq q e.p);
        }

  -- any event
  module _ (c : Cluster) (e : Event) (any : Option ℕ) (sound : Sound c) (later : Sound (after_loose s c e any)) (ms : List Moment) (log : Log) (sure : Type 0) (is_sure : sure → any ≡ None) (r : Trailed c ms log sure) where
    abbrev Behind_it : Type 0
    Behind_it = Trailed (after_loose s c e any) (ms ++ moments_if s c e any (slice_get c.processors e.p)) (log_after s c e any log) sure

    -- nothing happens
    still : after_loose s c e any ≡ c → moments_if s c e any (slice_get c.processors e.p) ≡ [] → Behind_it
    still same none =
        let kept : log_after s c e any log ≡ log = ap (λ d. onto e.p (drop (length (trace_at c e.p)) (trace_at d e.p)) log) same ∙ ap (λ es. onto e.p es log) (drop-length (trace_at c e.p)) in
        subst (λ xs. Trailed (after_loose s c e any) (ms ++ moments_if s c e any (slice_get c.processors e.p)) xs sure) (sym kept)
        (subst (λ d. Trailed d (ms ++ moments_if s c e any (slice_get c.processors e.p)) log sure) (sym same) (subst (λ y. Trailed c y log sure) (sym (ap (λ y. ms ++ y) none ∙ append-nil ms)) r))

    -- the trail behind it
    pub event_trailed : Trailed (after_loose s c e any) (ms ++ moments_if s c e any (slice_get c.processors e.p)) (log_after s c e any log) sure
    unfolding after_loose
    event_trailed = go (slice_get c.processors e.p) refl
      where
        on : (m : Processor) → slice_get c.processors e.p ≡ Some m → (b : Bool) → stays e.starved m.todo ≡ b → Trailed (after_loose s c e any) (ms ++ moments_if s c e any (slice_get c.processors e.p)) (log_after s c e any log) sure
        on m here true stay = still (ap (moved_if s c e any) here ∙ ap (λ b. if b then c else moved s c e any m) stay) (ap (moments_if s c e any) here ∙ ap (λ b. if b then [] else moments m.own (job_after (wanting (who_at s e.p) e.starved m).todo (given_in s c e any m).got)) stay)
        on m here false goes =
            let is = after_is s c e any m here goes in
            let noted : moments_if s c e any (slice_get c.processors e.p) ≡ moments m.own (job_after (wanting (who_at s e.p) e.starved m).todo (given_in s c e any m).got) =
            ap (moments_if s c e any) here ∙ ap (λ b. if b then [] else moments m.own (job_after (wanting (who_at s e.p) e.starved m).todo (given_in s c e any m).got)) goes in
            subst (λ y. Trailed (after_loose s c e any) (ms ++ y) (log_after s c e any log) sure) (sym noted)
            (subst (λ d. Trailed d (ms ++ moments m.own (job_after (wanting (who_at s e.p) e.starved m).todo (given_in s c e any m).got)) (log_after s c e any log) sure) (sym is) (moved_trailed c e any m here goes sound (subst Sound is later) ms log sure is_sure r))

        go : (x : Option Processor) → slice_get c.processors e.p ≡ x → Trailed (after_loose s c e any) (ms ++ moments_if s c e any (slice_get c.processors e.p)) (log_after s c e any log) sure
        go None here = still (ap (moved_if s c e any) here) (ap (moments_if s c e any) here)
        go (Some m) here = on m here (stays e.starved m.todo) refl
