-- A processor ends for want of memory exactly where it was starved.
use Rattle.std.proofs.Common.{◌≡◌, ◌⊎◌, inl, inr, ℕ, zero, suc, ◌+◌, ◌-◌, ◌*◌, ◌/◌, ◌%◌, ◌^◌, ◌<◌, ◌==◌, Bool, true, false, List, [], ◌∷◌, length, Option, Some, None, refl, sym, ap, ◌∙◌, subst, arith, if◌then◌else◌}
use Rattle.std.specs.Prelude.{slice_get, nat_le, Contains, slice_index_or}
use Rattle.std.proofs.lemmas.Bool.{cases_eq}
use Rattle.dsm_isa.specs.declared.instr.Instr.{Instr}
use Rattle.dsm_local.specs.declared.action.Action.{Action}
use Rattle.dsm_local.specs.declared.action.Action.TheVariants.{Set, Jump, LoadWord, StoreWord, Print, TakeLock, GiveLock, Meet, RaiseFlag, WaitFlag, Trap, Spend, Arrive}
use Rattle.dsm_local.specs.Readers.{next_action}
use Rattle.dsm_words.specs.declared.item.Item.TheVariants.{Stop}
use Rattle.dsm_words.specs.Script.{End, Get}
use Rattle.dsm_sync.specs.declared.got.Got.{Got}
use Rattle.dsm_sync.specs.declared.got.Got.TheVariants.{Ready, Unready}
use Rattle.dsm_sync.specs.Counting.{count_of}
use Rattle.dsm_sync.specs.Locks.{take_script}
use Rattle.dsm_sync.specs.declared.counter.Counter.{Counter}
use Rattle.dsm_sync.specs.declared.counter.Counter.TheVariants.{Barrier, Flag, Close}
use Rattle.dsm_local.specs.declared.end.End.{End as Ending}
use Rattle.dsm_local.specs.declared.end.End.TheVariants.{Halted, Looked, Stopped, NoMemory}
use Rattle.dsm_protocol.specs.Own.{Own, Who, setting_of, mapping, new_own}
use Rattle.dsm_protocol.specs.Jobs.{Job, Make, Again, Mark, Ask, Begin, Ended, own_after, job_after, call, has_ended, end_of}
use Rattle.dsm_protocol.specs.declared.head.Head.{Head}
use Rattle.dsm_protocol.specs.declared.head.Head.TheVariants.{Instruction, Locking, Looking}
use Rattle.dsm_protocol.specs.Steps.{action_job, stop_job, head_job, unready_job, heed_job, look_job, lock_job, is_last, passed_job, tried_job, looked_job, next_instruction, acquire_job, fault_job, allows, page_of, load_job, store_job, free_job, meet_job, raise_job}
use Rattle.dsm_protocol.specs.Processors.{Processor, settled, run_on, ending, after_answer, wanting, new_processor}
use Rattle.dsm_protocol.specs.Rights.{Works, Over, Makes, Takes, Marks_map, Marks, Asks}
use Rattle.dsm_protocol.proofs.Placed.{IsPlaced, placed}
use Rattle.dsm_protocol.proofs.Righting.{fault_works, release_works, acquire_works, closing_works}
use Rattle.dsm_local.proofs.Inside.{IsInside-next_action}
use Rattle.dsm_protocol.proofs.Inside.{page_in}
use Rattle.dsm_clock.specs.declared.turns.TurnId.{TurnId}
use Rattle.dsm_local.specs.Readers.{IsInside}
use Rattle.dsm_runs.proofs.Starting.{length-processors}
use Rattle.std.proofs.lemmas.Option.{slice_get_within}
use Rattle.dsm_words.specs.Words.{reply}
use Rattle.dsm_runs.specs.Setups.{Setup, lay_in, who_at}
use Rattle.dsm_runs.specs.Clusters.{Cluster, Event, stays, start, answer, act_in, moved, after_event, after, is_defined, all_defined, reached}
use Rattle.dsm_runs.proofs.Alive.{alive, wanting_is}
use Rattle.dsm_runs.proofs.Lists.{slice_get-set_same, slice_get-set_other, slice_get-map-range_with_len, some_one}
use Rattle.dsm_runs.proofs.Runs.{event_is, defined_is, defined_both}
use Rattle.dsm_runs.specs.Wanting.{EveryWantIsStarved}

abbrev IsNotWant : Ending → Type 0
IsNotWant NoMemory = ⊥
IsNotWant e = Unit {0}

-- no end of a job is one for want of memory
abbrev pub WantsNothing : Job → Type 0
WantsNothing (Make a k) = (x : ℕ) → WantsNothing (k x)
WantsNothing (Again a wanted j) = WantsNothing j
WantsNothing (Mark n j) = WantsNothing j
WantsNothing (Ask f) = (o : Own) → WantsNothing (f o)
WantsNothing (Begin h) = Unit {0}
WantsNothing (Ended e) = IsNotWant e

module _ (u : Who) where
  pub unready_wants : (again : Head) → WantsNothing (unready_job u again)
  unready_wants again o = go (is_last u.limits.looks o.counts.unready)
    where
      stopped : (x : ℕ) (b : Bool) → WantsNothing (if b then Begin again else Ended (Stopped ((x - 1) % 2 ^ 32)))
      stopped x true = tt
      stopped x false = tt

      go : (b : Bool) → WantsNothing (if b then stop_job u Looked else Make (Get Stop) (heed_job again))
      go true = λ x. tt
      go false = λ x. stopped x (x == 0)

-- protocol work ends nothing
works_wants : (u : Who) {last : Job} {t : Option TurnId} {w : Option (ℕ × ℕ)} {j : Job} → Works u last t w j → WantsNothing last → WantsNothing j
works_wants u Over k = k
works_wants u (Makes may f) k = λ x. works_wants u (f x) k
works_wants u (Takes turn within f) k = works_wants u f k
works_wants u (Marks_map f) k = works_wants u f k
works_wants u (Marks n j inner f) k = works_wants u f k
works_wants u (Asks f) k = λ o. works_wants u (f o) k

module _ (u : Who) (at : IsPlaced u) where
  acquire_wants : WantsNothing (acquire_job u next_instruction)
  acquire_wants = works_wants u (acquire_works u next_instruction at) tt

  access_wants : (write : Bool) (w : ℕ) (j : Job) (b : Bool) → w < u.lay.pages * u.lay.words → WantsNothing j → WantsNothing (if b then j else fault_job u write (page_of u w) j)
  access_wants write w j true inside k = k
  access_wants write w j false inside k = works_wants u (fault_works u j at write w (page_in u.lay.pages u.lay.words w inside)) k

  tried_wants : (l : ℕ) (got : Got) → WantsNothing (tried_job u l got)
  tried_wants l (Ready c) = acquire_wants
  tried_wants l Unready = unready_wants u (Locking l)

  lock_wants : (l : ℕ) → WantsNothing (lock_job u l)
  lock_wants l v = taken (v % 2 == 0)
    where
      won : (b : Bool) → WantsNothing (tried_job u l (if b then Ready (v / 2) else Unready))
      won true = acquire_wants
      won false = unready_wants u (Locking l)

      taken : (b : Bool) → WantsNothing (call (if b then take_script l v else End Unready) (tried_job u l))
      taken true = λ x. won (x == v)
      taken false = unready_wants u (Locking l)

  passed_wants : (of : Counter) → WantsNothing (passed_job u of)
  passed_wants (Barrier b) = acquire_wants
  passed_wants (Flag f) = acquire_wants
  passed_wants Close = works_wants u (closing_works u (Ended Halted) at) tt

  look_wants : (of : Counter) (need : ℕ) → WantsNothing (look_job u of need)
  look_wants of need v = found (nat_le need v)
    where
      found : (b : Bool) → WantsNothing (looked_job u of need (if b then Ready (count_of of need v) else Unready))
      found true = passed_wants of
      found false = unready_wants u (Looking of need)

  action_wants : (o : Own) (a : Action) → IsInside (u.lay.pages * u.lay.words) a → WantsNothing (action_job u o a)
  action_wants o (Set r v) inside = λ x. tt
  action_wants o (Jump to) inside = λ x. tt
  action_wants o (LoadWord r w) inside = access_wants false w (load_job u r w) (allows false (mapping o (page_of u w))) inside (λ x. tt)
  action_wants o (StoreWord w v) inside = access_wants true w (store_job u w v) (allows true (mapping o (page_of u w))) inside (λ x. tt)
  action_wants o (Print v) inside = λ x. tt
  action_wants o (TakeLock l) inside = lock_wants l
  action_wants o (GiveLock l k) inside = works_wants u (release_works u (free_job l k) at) (λ x. tt)
  action_wants o (Meet b) inside = works_wants u (release_works u (meet_job u (Barrier b)) at) (λ x. tt)
  action_wants o (RaiseFlag f) inside = works_wants u (release_works u (raise_job f) at) (λ x. tt)
  action_wants o (WaitFlag f need) inside = look_wants (Flag f) need
  action_wants o (Trap kind) inside = λ x. tt
  action_wants o Spend inside = λ x. tt
  action_wants o Arrive inside = works_wants u (release_works u (meet_job u Close) at) (λ x. tt)

  head_wants : (code : List Instr) (h : Head) → WantsNothing (head_job u code h)
  head_wants code Instruction = λ o. action_wants o (next_action code (setting_of u) o.reader) (IsInside-next_action code (setting_of u) o.reader)
  head_wants code (Locking l) = lock_wants l
  head_wants code (Looking of need) = look_wants of need

  settled_wants : (j : Job) (o : Own) → WantsNothing j → WantsNothing (settled o j).todo
  settled_wants (Make a k) o h = h
  settled_wants (Again a wanted j) o h = h
  settled_wants (Mark n j) o h = settled_wants j (own_after o n) h
  settled_wants (Ask f) o h = settled_wants (f o) o (h o)
  settled_wants (Begin g) o h = h
  settled_wants (Ended e) o h = h

  run_wants : (code : List Instr) (j : Job) (o : Own) → WantsNothing j → WantsNothing (run_on u code o j).todo
  run_wants code (Make a k) o h = h
  run_wants code (Again a wanted j) o h = h
  run_wants code (Mark n j) o h = run_wants code j (own_after o n) h
  run_wants code (Ask f) o h = run_wants code (f o) o (h o)
  run_wants code (Begin g) o h = settled_wants (head_job u code g) o (head_wants code g)
  run_wants code (Ended e) o h = h

-- so behind an answer too
after_wants : (j : Job) (x : ℕ) → WantsNothing j → WantsNothing (job_after j x)
after_wants (Make a k) x h = h x
after_wants (Again a wanted j) x h = go (x == wanted)
  where
    go : (b : Bool) → WantsNothing (if b then j else Again a wanted j)
    go true = h
    go false = h
after_wants (Mark n j) x h = h
after_wants (Ask f) x h = h
after_wants (Begin g) x h = h
after_wants (Ended e) x h = h

-- a list with one more in front
contains_none : {X : Type 0} (x : X) → Contains [] x → ⊥
contains_none x h = absurd (omega (arith, h.1))

contains_parts : {X : Type 0} (y : X) (ys : List X) (x : X) → Contains (y ∷ ys) x → (y ≡ x) ⊎ Contains ys x
contains_parts y ys x h = go h.0 h.1 h.2
  where
    go : (k : ℕ) → k < length (y ∷ ys) → slice_index_or (y ∷ ys) k x ≡ x → (y ≡ x) ⊎ Contains ys x
    go zero low is = inl is
    go (suc k) low is = inr (k, omega (arith, low), is)

contains_more : {X : Type 0} (y : X) (ys : List X) (x : X) → (y ≡ x) ⊎ Contains ys x → Contains (y ∷ ys) x
contains_more y ys x (inl is) = (zero, omega arith, is)
contains_more y ys x (inr h) = (suc h.0, omega (arith, h.1), h.2)

abbrev starving : ℕ → Event
starving p = record { p = p; starved = true }

module _ (s : Setup) where
  -- it has ended for want of memory, or no end of its job is such a one
  abbrev IsEither : Cluster → Type 0
  IsEither c = (p : ℕ) (m : Processor) → slice_get c.processors p ≡ Some m → (p < s.nodes * s.procs) × (WantsNothing m.todo ⊎ (m.todo ≡ Ended NoMemory))

  abbrev IsWanting : Cluster → ℕ → Type 0
  IsWanting c p = (m : Processor) × (slice_get c.processors p ≡ Some m) × (m.todo ≡ Ended NoMemory)

  module _ (c : Cluster) (e : Event) (either : IsEither c) (m : Processor) (here : slice_get c.processors e.p ≡ Some m) (goes : stays e.starved m.todo ≡ false) where
    abbrev u : Who
    u = who_at s e.p

    abbrev got : ℕ
    got = answer None (act_in s e m) (reply (lay_in s) c.words (act_in s e m))

    abbrev new : Bool → Processor
    new b = after_answer u s.program.code (wanting u b m) got

    is_not : m.todo ≡ Ended NoMemory → ⊥
    is_not is = absurd (cc (sym (alive e.starved m.todo goes) ∙ ap has_ended is))

    wants : WantsNothing m.todo
    wants = go (either e.p m here).1
      where
        go : WantsNothing m.todo ⊎ (m.todo ≡ Ended NoMemory) → WantsNothing m.todo
        go (inl h) = h
        go (inr is) = absurd (is_not is)

    new_wants : WantsNothing (new false).todo
    new_wants = run_wants u (placed u (either e.p m here).0) s.program.code (job_after m.todo got) m.own (after_wants m.todo got wants)

    -- one that is starved ends
    new_ended : (new true).todo ≡ Ended NoMemory
    new_ended = ap (λ n. (after_answer u s.program.code n got).todo) (wanting_is u m (alive e.starved m.todo goes))

    new_either : (b : Bool) → WantsNothing (new b).todo ⊎ ((new b).todo ≡ Ended NoMemory)
    new_either true = inr new_ended
    new_either false = inl new_wants

    moved_either : IsEither (moved s c e None m)
    moved_either p n at = go (cases_eq p e.p)
      where
        go : (p ≡ e.p) ⊎ (p ≡ e.p → ⊥) → (p < s.nodes * s.procs) × (WantsNothing n.todo ⊎ (n.todo ≡ Ended NoMemory))
        go (inl is) =
            let same : new e.starved ≡ n = some_one (new e.starved) n (sym (slice_get-set_same c.processors e.p m (new e.starved) here) ∙ sym (ap (slice_get (moved s c e None m).processors) is) ∙ at) in
            (subst (λ x. x < s.nodes * s.procs) (sym is) (either e.p m here).0, subst (λ x. WantsNothing x.todo ⊎ (x.todo ≡ Ended NoMemory)) same (new_either e.starved))
        go (inr ne) = either p n (sym (slice_get-set_other c.processors e.p p (new e.starved) ne) ∙ at)

    -- whoever wants memory behind the event wanted it before, or was starved in it
    wanting_back : (p : ℕ) → IsWanting (moved s c e None m) p → IsWanting c p ⊎ (e ≡ starving p)
    wanting_back p h = go (cases_eq p e.p)
      where
        at_new : (b : Bool) → e.starved ≡ b → p ≡ e.p → (new b).todo ≡ Ended NoMemory → IsWanting c p ⊎ (e ≡ starving p)
        at_new true is same over = inr (λ i. record { p = sym same i; starved = is i })
        at_new false is same over = absurd (subst (λ j. WantsNothing j) over new_wants)

        go : (p ≡ e.p) ⊎ (p ≡ e.p → ⊥) → IsWanting c p ⊎ (e ≡ starving p)
        go (inl is) =
            let same : new e.starved ≡ h.0 = some_one (new e.starved) h.0 (sym (slice_get-set_same c.processors e.p m (new e.starved) here) ∙ sym (ap (slice_get (moved s c e None m).processors) is) ∙ h.1) in
            at_new e.starved refl is (ap (λ x. x.todo) same ∙ h.2)
        go (inr ne) = inl (h.0, sym (slice_get-set_other c.processors e.p p (new e.starved) ne) ∙ h.1, h.2)

    wanting_on : (p : ℕ) → IsWanting c p ⊎ (e ≡ starving p) → IsWanting (moved s c e None m) p
    wanting_on p (inl h) = go (cases_eq p e.p)
      where
        go : (p ≡ e.p) ⊎ (p ≡ e.p → ⊥) → IsWanting (moved s c e None m) p
        go (inl is) =
            let same : h.0 ≡ m = some_one h.0 m (sym h.1 ∙ ap (slice_get c.processors) is ∙ here) in
            absurd (is_not (sym (ap (λ x. x.todo) same) ∙ h.2))
        go (inr ne) = (h.0, slice_get-set_other c.processors e.p p (new e.starved) ne ∙ h.1, h.2)
    wanting_on p (inr is) =
        let there : slice_get (moved s c e None m).processors p ≡ Some (new e.starved) = ap (slice_get (moved s c e None m).processors) (sym (ap (λ x. x.p) is)) ∙ slice_get-set_same c.processors e.p m (new e.starved) here in
        (new e.starved, there, ap (λ b. (new b).todo) (ap (λ x. x.starved) is) ∙ new_ended)

  event_either : (c : Cluster) (e : Event) → IsEither c → is_defined c e ≡ true → IsEither (after_event s c e)
  event_either c e either is =
      let d = defined_is c e is in
      subst (λ x. IsEither x) (sym (event_is s c e None d.0 d.1 d.2)) (moved_either c e either d.0 d.1 d.2)

  event_back : (c : Cluster) (e : Event) → IsEither c → is_defined c e ≡ true → (p : ℕ) → IsWanting (after_event s c e) p → IsWanting c p ⊎ (e ≡ starving p)
  event_back c e either is p h =
      let d = defined_is c e is in
      wanting_back c e either d.0 d.1 d.2 p (subst (λ x. IsWanting x p) (event_is s c e None d.0 d.1 d.2) h)

  event_on : (c : Cluster) (e : Event) → IsEither c → is_defined c e ≡ true → (p : ℕ) → IsWanting c p ⊎ (e ≡ starving p) → IsWanting (after_event s c e) p
  event_on c e either is p h =
      let d = defined_is c e is in
      subst (λ x. IsWanting x p) (sym (event_is s c e None d.0 d.1 d.2)) (wanting_on c e either d.0 d.1 d.2 p h)

  events_back : (es : List Event) (c : Cluster) → IsEither c → all_defined s c es ≡ true → (p : ℕ) → IsWanting (after s c es) p → IsWanting c p ⊎ Contains es (starving p)
  unfolding after
  events_back [] c either all p h = inl h
  events_back (e ∷ es) c either all p h =
      let both = defined_both s c e es all in
      first (events_back es (after_event s c e) (event_either c e either both.0) both.1 p h)
    where
      here : is_defined c e ≡ true
      here = (defined_both s c e es all).0

      second : IsWanting c p ⊎ (e ≡ starving p) → IsWanting c p ⊎ Contains (e ∷ es) (starving p)
      second (inl w) = inl w
      second (inr is) = inr (contains_more e es (starving p) (inl is))

      first : IsWanting (after_event s c e) p ⊎ Contains es (starving p) → IsWanting c p ⊎ Contains (e ∷ es) (starving p)
      first (inl w) = second (event_back c e either here p w)
      first (inr k) = inr (contains_more e es (starving p) (inr k))

  events_on : (es : List Event) (c : Cluster) → IsEither c → all_defined s c es ≡ true → (p : ℕ) → IsWanting c p ⊎ Contains es (starving p) → IsWanting (after s c es) p
  unfolding after
  events_on [] c either all p (inl h) = h
  events_on [] c either all p (inr k) = absurd (contains_none (starving p) k)
  events_on (e ∷ es) c either all p h =
      let both = defined_both s c e es all in
      events_on es (after_event s c e) (event_either c e either both.0) both.1 p (first h)
    where
      here : is_defined c e ≡ true
      here = (defined_both s c e es all).0

      second : (e ≡ starving p) ⊎ Contains es (starving p) → IsWanting (after_event s c e) p ⊎ Contains es (starving p)
      second (inl is) = inl (event_on c e either here p (inr is))
      second (inr k) = inr k

      first : IsWanting c p ⊎ Contains (e ∷ es) (starving p) → IsWanting (after_event s c e) p ⊎ Contains es (starving p)
      first (inl w) = inl (event_on c e either here p (inl w))
      first (inr k) = second (contains_parts e es (starving p) k)

  first_in : (p : ℕ) (m : Processor) → slice_get (start s).processors p ≡ Some m → p < s.nodes * s.procs
  first_in p m at = omega (arith, slice_get_within (start s).processors p m at, length-processors s)

  first_wants : (p : ℕ) (m : Processor) → slice_get (start s).processors p ≡ Some m → WantsNothing m.todo
  unfolding start
  first_wants p m at =
      let new : ℕ → Processor = λ q. new_processor (who_at s q) s.program.code in
      subst (λ x. WantsNothing x.todo) (sym (slice_get-map-range_with_len new (s.nodes * s.procs) 0 p m at)) (run_wants (who_at s (0 + p)) (placed (who_at s (0 + p)) (subst (λ x. x < s.nodes * s.procs) (let z : p ≡ 0 + p = omega arith in z) (first_in p m at))) s.program.code (Begin Instruction) new_own tt)

  none_wanting : (p : ℕ) → IsWanting (start s) p → ⊥
  none_wanting p h = absurd (subst (λ j. WantsNothing j) h.2 (first_wants p h.0 h.1))

end_is : (j : Job) → end_of j ≡ Some NoMemory → j ≡ Ended NoMemory
end_is (Ended e) is = ap Ended (some_one e NoMemory is)
end_is j is = absurd (cc is)

pub every_want : EveryWantIsStarved
unfolding reached
every_want s events p m all at = (there, back)
  where
    there : ending m ≡ Some NoMemory → Contains events (starving p)
    there ends = go (events_back s events (start s) (λ q n h. (first_in s q n h, inl (first_wants s q n h))) all p (m, at, end_is m.todo ends))
      where
        go : IsWanting s (start s) p ⊎ Contains events (starving p) → Contains events (starving p)
        go (inl w) = absurd (none_wanting s p w)
        go (inr k) = k

    back : Contains events (starving p) → ending m ≡ Some NoMemory
    back k =
        let w = events_on s events (start s) (λ q n h. (first_in s q n h, inl (first_wants s q n h))) all p (inr k) in
        let same : w.0 ≡ m = some_one w.0 m (sym w.1 ∙ at) in
        ap end_of (sym (ap (λ x. x.todo) same) ∙ w.2)
