-- A processor's trace and end are what a plain reader of the code does.
use Rattle.std.proofs.Common.{◌≡◌, ℕ, ◌-◌, ◌%◌, ◌^◌, ◌==◌, ◌<◌, ◌≤◌, Bool, true, false, List, [], ◌∷◌, Option, Some, refl, sym, ap, subst, ◌∙◌, if◌then◌else◌}
use Rattle.std.specs.Prelude.{nat_le}
use Rattle.std.proofs.lemmas.Bool.{leb-true}
use Rattle.dsm_entry.specs.declared.entry.Entry.TheVariants.{Pass}
use Rattle.dsm_entry.specs.declared.entry.Obj.TheVariants.{Lock as LockOf, Barrier as BarrierOf, Flag as FlagOf, Close as CloseOf}
use Rattle.dsm_isa.specs.declared.instr.Instr.{Instr}
use Rattle.dsm_local.specs.declared.action.Action.{Action}
use Rattle.dsm_local.specs.declared.action.Action.TheVariants.{Set, Jump, LoadWord, StoreWord, Print, TakeLock, GiveLock, Meet, RaiseFlag, WaitFlag, Trap, Spend, Arrive}
use Rattle.dsm_local.specs.declared.end.End.{End as Ending}
use Rattle.dsm_local.specs.declared.end.End.TheVariants.{Halted, Looked, Stopped, NoMemory}
use Rattle.dsm_local.specs.declared.stand.Stand.{Stand}
use Rattle.dsm_local.specs.declared.stand.Stand.TheVariants.{Before, Met, Arrived, Passed}
use Rattle.dsm_local.specs.Local.{Reads, starts, sets, jumps, loads, stores, prints, locks, unlocks, raises, waits, meets, leaves, arrives, passes, MayWait, MayEnd, LocalTo}
use Rattle.dsm_local.specs.Readers.{moved, next_action}
use Rattle.dsm_words.specs.declared.item.Item.TheVariants.{Stop}
use Rattle.dsm_words.specs.Script.{Get, End}
use Rattle.dsm_sync.specs.declared.counter.Counter.{Counter}
use Rattle.dsm_sync.specs.declared.counter.Counter.TheVariants.{Barrier, Flag, Close}
use Rattle.dsm_sync.specs.declared.got.Got.{Got}
use Rattle.dsm_sync.specs.declared.got.Got.TheVariants.{Ready, Unready}
use Rattle.dsm_sync.specs.Counting.{count_of}
use Rattle.dsm_sync.specs.Locks.{take_script}
use Rattle.dsm_protocol.specs.declared.head.Head.{Head}
use Rattle.dsm_protocol.specs.declared.head.Head.TheVariants.{Instruction, Locking, Looking}
use Rattle.dsm_protocol.specs.Own.{Own, Who, setting_of, mapping, new_own, Unready as Unready_looks, appended, counted}
use Rattle.dsm_protocol.specs.Jobs.{Job, Make, Again, Mark, Ask, Begin, Ended, call, own_after, job_after, end_of, has_ended}
use Rattle.dsm_protocol.specs.Steps.{is_last, heed_job, stop_job, unready_job, tried_job, lock_job, looked_job, look_job, next_instruction, release_job, acquire_job, closing_job, fault_job, allows, page_of, access_job, load_job, store_job, free_job, meet_job, raise_job, action_job, head_job, starved_job}
use Rattle.dsm_protocol.specs.Processors.{Processor, Given, settled, new_processor, run_on, ending, wanting, after_answer, processor_of, IsMade}
use Rattle.dsm_protocol.specs.Laws.{IsLocal, EveryTraceIsLocal}
use Rattle.dsm_protocol.proofs.Placed.{IsPlaced, placed}
use Rattle.dsm_protocol.proofs.Righting.{fault_works, release_works, acquire_works, closing_works}
use Rattle.dsm_protocol.proofs.Keeping.{Throughout, IsKept, works_kept}
use Rattle.dsm_protocol.proofs.Inside.{load_inside, store_inside}

module _ (u : Who) (code : List Instr) (at : IsPlaced u) where
  -- when a plain reader has taken the trace, it can stand here
  abbrev CanStand : Own → Stand → Type 0
  CanStand o stand = Reads code (setting_of u) stand o.trace

  -- and an end may come there
  abbrev CanEnd : Stand → Option Ending → Type 0
  CanEnd stand e = MayEnd code (setting_of u) stand e

  -- what it does before the instruction that it then stands before
  abbrev next : Own → Action
  next o = next_action code (setting_of u) o.reader

  -- a plain reader can stand somewhere when it has taken the trace
  abbrev Stands : Own → Type 0
  Stands o = (stand : Stand) × CanStand o stand

  -- it can stand where the processor goes round
  abbrev AtHead : Own → Head → Type 0
  AtHead o Instruction = CanStand o (Before o.reader)
  AtHead o (Locking l) = CanStand o (Before o.reader) × (next o ≡ TakeLock l)
  AtHead o (Looking (Barrier b) need) = CanStand o (Met (moved o.reader) b)
  AtHead o (Looking (Flag f) need) = CanStand o (Before o.reader) × (next o ≡ WaitFlag f need)
  AtHead o (Looking Close need) = CanStand o Arrived

  -- and wherever its job leads, until it goes round again or ends
  abbrev Sound : Own → Job → Type 0
  Sound o (Make a k) = Stands o × ((x : ℕ) → Sound o (k x))
  Sound o (Again a wanted j) = Stands o × Sound o j
  Sound o (Mark n j) = Sound (own_after o n) j
  Sound o (Ask f) = Sound o (f o)
  Sound o (Begin h) = AtHead o h
  Sound o (Ended e) = LocalTo code (setting_of u) o.trace (Some e)

  -- a plain reader stands where it is while protocol work is done
  sound_kept : (o : Own) → Stands o → IsKept o Sound
  sound_kept o h = record {
    makes = λ a k f maps dirty counts. (h, λ x. f x maps dirty counts);
    repeats = λ a wanted j f maps dirty counts. (h, f maps dirty counts);
    marks = λ p n j f. f;
    asks = λ p f g. g;
  }

  release_sound : (o : Own) (j : Job) → Stands o → Throughout o Sound j → Sound o (release_job u j)
  release_sound o j h k = works_kept o Sound (sound_kept o h) (release_works u j at) k o.maps o.dirty o.counts

  acquire_sound : (o : Own) (j : Job) → Stands o → Throughout o Sound j → Sound o (acquire_job u j)
  acquire_sound o j h k = works_kept o Sound (sound_kept o h) (acquire_works u j at) k o.maps o.dirty o.counts

  closing_sound : (o : Own) (j : Job) → Stands o → Throughout o Sound j → Sound o (closing_job u j)
  closing_sound o j h k = works_kept o Sound (sound_kept o h) (closing_works u j at) k o.maps o.dirty o.counts

  access_sound : (o : Own) (write : Bool) (w : ℕ) (j : Job) → page_of u w < u.lay.pages → Stands o → Throughout o Sound j → Sound o (access_job u o write w j)
  access_sound o write w j inside h k = go (allows write (mapping o (page_of u w)))
    where
      go : (b : Bool) → Sound o (if b then j else fault_job u write (page_of u w) j)
      go true = k o.maps o.dirty o.counts
      go false = works_kept o Sound (sound_kept o h) (fault_works u j at write w inside) k o.maps o.dirty o.counts

  -- it stands where one that waits may end
  abbrev Waits : Own → Type 0
  Waits o = (stand : Stand) × CanStand o stand × CanEnd stand (Some Looked) × ((by : ℕ) → CanEnd stand (Some (Stopped by)))

  may_wait : (o : Own) (a : Action) → MayWait a → next o ≡ a → CanStand o (Before o.reader) → Waits o
  may_wait o a may is reads = let h = subst MayWait (sym is) may in (Before o.reader, reads, h, λ by. h)

  lock_waits : (o : Own) (l : ℕ) → AtHead o (Locking l) → Waits o
  lock_waits o l h = may_wait o (TakeLock l) tt h.1 h.0

  look_waits : (o : Own) (of : Counter) (need : ℕ) → AtHead o (Looking of need) → Waits o
  look_waits o (Barrier b) need h = (Met (moved o.reader) b, h, tt, λ by. tt)
  look_waits o (Flag f) need h = may_wait o (WaitFlag f need) tt h.1 h.0
  look_waits o Close need h = (Arrived, h, tt, λ by. tt)

  heed_sound : (o : Own) (again : Head) (x : ℕ) → Waits o → AtHead o again → Sound o (heed_job again x)
  heed_sound o again x w h = go (x == 0)
    where
      go : (b : Bool) → Sound o (if b then Begin again else Ended (Stopped ((x - 1) % 2 ^ 32)))
      go true = h
      go false = (w.0, w.1, w.3 ((x - 1) % 2 ^ 32))

  unready_sound : (o : Own) (again : Head) → Waits o → AtHead (counted o Unready_looks) again → Sound o (unready_job u again)
  unready_sound o again w h = go (is_last u.limits.looks (counted o Unready_looks).counts.unready)
    where
      go : (b : Bool) → Sound (counted o Unready_looks) (if b then stop_job u Looked else Make (Get Stop) (heed_job again))
      go true = ((w.0, w.1), λ x. (w.0, w.1, w.2))
      go false = ((w.0, w.1), λ x. heed_sound (counted o Unready_looks) again x w h)

  tried_sound : (o : Own) (l : ℕ) (got : Got) → AtHead o (Locking l) → Sound o (tried_job u l got)
  tried_sound o l (Ready c) h = let r = locks l c h.0 h.1 in acquire_sound (appended o (Pass (LockOf l) c)) next_instruction (Before _, r) (λ maps dirty counts. r)
  tried_sound o l Unready h = unready_sound o (Locking l) (lock_waits o l h) h

  lock_sound : (o : Own) (l : ℕ) → AtHead o (Locking l) → Sound o (lock_job u l)
  lock_sound o l h = ((Before o.reader, h.0), λ x. go x (x % 2 == 0))
    where
      go : (x : ℕ) (b : Bool) → Sound o (call (if b then take_script l x else End Unready) (tried_job u l))
      go x true = ((Before o.reader, h.0), λ y. tried_sound o l (if y == x then Ready _ else Unready) h)
      go x false = tried_sound o l Unready h

  passed_sound : (o : Own) (of : Counter) (need x : ℕ) → need ≤ x → AtHead o (Looking of need) → Sound o (looked_job u of need (Ready (count_of of need x)))
  passed_sound o (Barrier b) need x enough h = let r = leaves b need h in acquire_sound (appended o (Pass (BarrierOf b) need)) next_instruction (Before _, r) (λ maps dirty counts. r)
  passed_sound o (Flag f) need x enough h = let r = waits f need x h.0 h.1 enough in acquire_sound (appended o (Pass (FlagOf f) x)) next_instruction (Before _, r) (λ maps dirty counts. r)
  passed_sound o Close need x enough h = let r = passes need h in closing_sound (appended o (Pass CloseOf need)) (Ended Halted) (Passed, r) (λ maps dirty counts. (Passed, r, tt))

  look_again : (o : Own) (of : Counter) (need : ℕ) → AtHead o (Looking of need) → AtHead (counted o Unready_looks) (Looking of need)
  look_again o (Barrier b) need h = h
  look_again o (Flag f) need h = h
  look_again o Close need h = h

  look_sound : (o : Own) (of : Counter) (need : ℕ) → AtHead o (Looking of need) → Sound o (look_job u of need)
  look_sound o of need h = let w = look_waits o of need h in ((w.0, w.1), λ x. go x (nat_le need x) refl)
    where
      go : (x : ℕ) (b : Bool) → nat_le need x ≡ b → Sound o (looked_job u of need (if b then Ready (count_of of need x) else Unready))
      go x true enough = passed_sound o of need x (leb-true need x enough) h
      go x false few = unready_sound o (Looking of need) (look_waits o of need h) (look_again o of need h)

  action_sound : (o : Own) (a : Action) → next o ≡ a → CanStand o (Before o.reader) → Sound o (action_job u o a)
  action_sound o (Set d v) is h = ((Before o.reader, h), λ x. sets d v h is)
  action_sound o (Jump to) is h = ((Before o.reader, h), λ x. jumps to h is)
  action_sound o (LoadWord d w) is h = access_sound o false w (load_job u d w) (load_inside u code o d w is) (Before o.reader, h) (λ maps dirty counts. ((Before o.reader, h), λ x. loads d w x h is))
  action_sound o (StoreWord w v) is h = access_sound o true w (store_job u w v) (store_inside u code o w v is) (Before o.reader, h) (λ maps dirty counts. ((Before o.reader, h), λ x. stores w v h is))
  action_sound o (Print v) is h = ((Before o.reader, h), λ x. prints v h is)
  action_sound o (TakeLock l) is h = lock_sound o l (h, is)
  action_sound o (GiveLock l k) is h = release_sound o (free_job l k) (Before o.reader, h) (λ maps dirty counts. ((Before o.reader, h), λ x. unlocks l k h is))
  action_sound o (Meet b) is h = release_sound o (meet_job u (Barrier b)) (Before o.reader, h) (λ maps dirty counts. ((Before o.reader, h), λ x. meets b x h is))
  action_sound o (RaiseFlag f) is h = release_sound o (raise_job f) (Before o.reader, h) (λ maps dirty counts. ((Before o.reader, h), λ x. raises f x h is))
  action_sound o (WaitFlag f need) is h = look_sound o (Flag f) need (h, is)
  action_sound o (Trap kind) is h = ((Before o.reader, h), λ x. (Before o.reader, h, (refl, is)))
  action_sound o Spend is h = ((Before o.reader, h), λ x. (Before o.reader, h, is))
  action_sound o Arrive is h = release_sound o (meet_job u Close) (Before o.reader, h) (λ maps dirty counts. ((Before o.reader, h), λ x. arrives x h is))

  head_sound : (o : Own) (h : Head) → AtHead o h → Sound o (head_job u code h)
  head_sound o Instruction h = action_sound o (next o) refl h
  head_sound o (Locking l) h = lock_sound o l h
  head_sound o (Looking of need) h = look_sound o of need h

  -- a processor between two events
  abbrev At : Processor → Type 0
  At m = Stands m.own × Sound m.own m.todo

  head_stands : (o : Own) (h : Head) → AtHead o h → Stands o
  head_stands o Instruction h = (Before o.reader, h)
  head_stands o (Locking l) h = (Before o.reader, h.0)
  head_stands o (Looking of need) h = let w = look_waits o of need h in (w.0, w.1)

  settled_at : (j : Job) (o : Own) → Sound o j → At (settled o j)
  settled_at (Make a k) o h = (h.0, h)
  settled_at (Again a wanted j) o h = (h.0, h)
  settled_at (Mark n j) o h = settled_at j (own_after o n) h
  settled_at (Ask f) o h = settled_at (f o) o h
  settled_at (Begin c) o h = (head_stands o c h, h)
  settled_at (Ended e) o h = ((h.0, h.1), h)

  run_at : (j : Job) (o : Own) → Sound o j → At (run_on u code o j)
  run_at (Make a k) o h = (h.0, h)
  run_at (Again a wanted j) o h = (h.0, h)
  run_at (Mark n j) o h = run_at j (own_after o n) h
  run_at (Ask f) o h = run_at (f o) o h
  run_at (Begin c) o h = settled_at (head_job u code c) o (head_sound o c h)
  run_at (Ended e) o h = ((h.0, h.1), h)

  answer_sound : (o : Own) (j : Job) (x : ℕ) → Sound o j → Sound o (job_after j x)
  answer_sound o (Make a k) x h = h.1 x
  answer_sound o (Again a wanted j) x h = go (x == wanted)
    where
      go : (b : Bool) → Sound o (if b then j else Again a wanted j)
      go true = h.1
      go false = h
  answer_sound o (Mark n j) x h = h
  answer_sound o (Ask f) x h = h
  answer_sound o (Begin c) x h = h
  answer_sound o (Ended e) x h = h

  -- memory may be wanting wherever it stands
  starved_may_end : (stand : Stand) → CanEnd stand (Some NoMemory)
  starved_may_end (Before r) = tt
  starved_may_end (Met r b) = tt
  starved_may_end Arrived = tt
  starved_may_end Passed = tt

  wanting_at : (starved : Bool) (m : Processor) → At m → At (wanting u starved m)
  wanting_at true m h = go (has_ended m.todo)
    where
      go : (b : Bool) → At (record { own = m.own; todo = if b then m.todo else starved_job u })
      go true = h
      go false = (h.0, (h.0, λ x. (h.0.0, h.0.1, starved_may_end h.0.0)))
  wanting_at false m h = h

  processor_at : (gs : List Given) → At (processor_of u code gs)
  unfolding processor_of
  processor_at [] = run_at (Begin Instruction) new_own starts
  processor_at (g ∷ gs) =
      let m = wanting u g.starved (processor_of u code gs) in
      run_at (job_after m.todo g.got) m.own (answer_sound m.own m.todo g.got (wanting_at g.starved (processor_of u code gs) (processor_at gs)).1)

  LocalTo-at : (o : Own) (j : Job) → Stands o → Sound o j → LocalTo code (setting_of u) o.trace (end_of j)
  LocalTo-at o (Make a k) s h = (s.0, s.1, tt)
  LocalTo-at o (Again a wanted j) s h = (s.0, s.1, tt)
  LocalTo-at o (Mark n j) s h = (s.0, s.1, tt)
  LocalTo-at o (Ask f) s h = (s.0, s.1, tt)
  LocalTo-at o (Begin c) s h = (s.0, s.1, tt)
  LocalTo-at o (Ended e) s h = h

  LocalTo-made : (m : Processor) → IsMade u code m → LocalTo code (setting_of u) m.own.trace (ending m)
  unfolding IsMade
  LocalTo-made m made =
      let n = wanting u made.1 (processor_of u code made.0) in
      let h = wanting_at made.1 (processor_of u code made.0) (processor_at made.0) in
      subst (λ (p : Processor). LocalTo code (setting_of u) p.own.trace (ending p)) (sym made.2) (LocalTo-at n.own n.todo h.0 h.1)

pub every_trace_is_local : EveryTraceIsLocal
unfolding IsLocal
every_trace_is_local u code m p_in made program same sized = rw (same, sized) (LocalTo-made u code (placed u p_in) m made)

-- a processor that has done nothing is made
pub IsMade-new : (u : Who) (code : List Instr) → IsMade u code (new_processor u code)
unfolding IsMade processor_of
IsMade-new u code = ([], false, refl)

-- one that then wants memory
pub IsMade-starved : (u : Who) (code : List Instr) (m : Processor) → IsMade u code m → IsMade u code (wanting u true m)
unfolding IsMade
IsMade-starved u code m made = (made.0, true, ap (wanting u true) made.2 ∙ wanting_twice made.1 (processor_of u code made.0))
  where
    wanting_twice : (starved : Bool) (n : Processor) → wanting u true (wanting u starved n) ≡ wanting u true n
    wanting_twice true n = go (has_ended n.todo) refl
      where
        go : (b : Bool) → has_ended n.todo ≡ b → (let m : Processor = record { own = n.own; todo = if b then n.todo else starved_job u } in wanting u true m) ≡ record { own = n.own; todo = if b then n.todo else starved_job u }
        go true ended = ap (λ b. record { own = n.own; todo = if b then n.todo else starved_job u }) ended
        go false runs = refl
    wanting_twice false n = refl

-- and one that was given a further answer
pub IsMade-after : (u v : Who) (code : List Instr) (m n : Processor) (got : ℕ) → v ≡ u → n ≡ after_answer u code m got → IsMade u code m → IsMade v code n
unfolding IsMade processor_of
IsMade-after u v code m n got same is made = rw same (record { starved = made.1; got = got } ∷ made.0, false, is ∙ ap (λ k. after_answer u code k got) made.2)
