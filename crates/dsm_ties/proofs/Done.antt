-- No processor does more instructions than it may.
use Rattle.std.proofs.Common.{◌≡◌, ℕ, ◌-◌, ◌%◌, ◌^◌, ◌==◌, ◌<◌, ◌≤◌, Bool, true, false, List, [], ◌∷◌, refl, sym, subst, if◌then◌else◌}
use Rattle.std.specs.Prelude.{nat_le}
use Rattle.dsm_entry.specs.declared.entry.Entry.TheVariants.{Pass}
use Rattle.dsm_entry.specs.declared.entry.Obj.TheVariants.{Lock as LockOf, Barrier as BarrierOf, Flag as FlagOf, Close as CloseOf}
use Rattle.dsm_isa.specs.declared.instr.Instr.{Instr}
use Rattle.dsm_local.specs.declared.action.Action.{Action}
use Rattle.dsm_local.specs.declared.action.Action.TheVariants.{Set, Jump, LoadWord, StoreWord, Print, TakeLock, GiveLock, Meet, RaiseFlag, WaitFlag, Trap, Spend, Arrive}
use Rattle.dsm_local.specs.declared.end.End.TheVariants.{Halted, Looked, Stopped}
use Rattle.dsm_local.specs.Readers.{next_action}
use Rattle.dsm_words.specs.declared.item.Item.TheVariants.{Stop}
use Rattle.dsm_words.specs.Script.{Get, End}
use Rattle.dsm_sync.specs.declared.counter.Counter.{Counter}
use Rattle.dsm_sync.specs.declared.counter.Counter.TheVariants.{Barrier, Flag, Close}
use Rattle.dsm_sync.specs.declared.got.Got.{Got}
use Rattle.dsm_sync.specs.declared.got.Got.TheVariants.{Ready, Unready}
use Rattle.dsm_sync.specs.Counting.{count_of}
use Rattle.dsm_sync.specs.Locks.{take_script}
use Rattle.dsm_protocol.specs.declared.head.Head.{Head}
use Rattle.dsm_protocol.specs.declared.head.Head.TheVariants.{Instruction, Locking, Looking}
use Rattle.dsm_protocol.specs.Own.{Own, Who, setting_of, mapping, new_own, Unready as Unready_looks, appended, counted}
use Rattle.dsm_protocol.specs.Jobs.{Job, Make, Again, Mark, Ask, Begin, Ended, call, own_after, job_after, has_ended}
use Rattle.dsm_protocol.specs.Steps.{is_last, heed_job, stop_job, unready_job, tried_job, lock_job, looked_job, look_job, next_instruction, release_job, acquire_job, closing_job, fault_job, allows, page_of, access_job, load_job, store_job, free_job, meet_job, raise_job, action_job, head_job, starved_job}
use Rattle.dsm_protocol.specs.Processors.{Processor, Given, settled, run_on, wanting, processor_of, IsMade}
use Rattle.dsm_protocol.proofs.Placed.{IsPlaced}
use Rattle.dsm_protocol.proofs.Righting.{fault_works, release_works, acquire_works, closing_works}
use Rattle.dsm_protocol.proofs.Keeping.{Throughout, IsKept, works_kept}
use Rattle.dsm_protocol.proofs.Inside.{load_inside, store_inside}
use Rattle.std.proofs.lemmas.Bool.{ltb-true}
use Rattle.std.specs.Prelude.{nat_lt}
use Rattle.std.proofs.Common.{arith}
use Rattle.dsm_local.specs.Actions.{action_of}
use Rattle.std.specs.Prelude.{slice_get}

module _ (u : Who) (code : List Instr) (at : IsPlaced u) where
  -- what it does next where it begins an instruction
  abbrev next : Own → Action
  next o = next_action code (setting_of u) o.reader

  -- as many are done as may be, at most; one more may be done
  abbrev Few : Own → Type 0
  Few o = o.reader.done ≤ u.limits.turns

  abbrev Fewer : Own → Type 0
  Fewer o = o.reader.done < u.limits.turns

  few : (o : Own) → Fewer o → Few o
  few o h = omega arith

  -- only where one more may be done an instruction is under way
  abbrev AtHead : Own → Head → Type 0
  AtHead o Instruction = Few o
  AtHead o (Locking l) = Fewer o
  AtHead o (Looking of need) = Fewer o

  -- and wherever its job leads, until it goes round again or ends
  abbrev Sound : Own → Job → Type 0
  Sound o (Make a k) = Few o × ((x : ℕ) → Sound o (k x))
  Sound o (Again a wanted j) = Few o × Sound o j
  Sound o (Mark n j) = Sound (own_after o n) j
  Sound o (Ask f) = Sound o (f o)
  Sound o (Begin h) = AtHead o h
  Sound o (Ended e) = Few o

  -- protocol work does no instruction
  sound_kept : (o : Own) → Fewer o → IsKept o Sound
  sound_kept o h = record {
    makes = λ a k f maps dirty counts. (few o h, λ x. f x maps dirty counts);
    repeats = λ a wanted j f maps dirty counts. (few o h, f maps dirty counts);
    marks = λ p n j f. f;
    asks = λ p f g. g;
  }

  release_sound : (o : Own) (j : Job) → Fewer o → Throughout o Sound j → Sound o (release_job u j)
  release_sound o j h k = works_kept o Sound (sound_kept o h) (release_works u j at) k o.maps o.dirty o.counts

  acquire_sound : (o : Own) → Fewer o → Sound o (acquire_job u next_instruction)
  acquire_sound o h = works_kept o Sound (sound_kept o h) (acquire_works u next_instruction at) (λ maps dirty counts. omega arith) o.maps o.dirty o.counts

  closing_sound : (o : Own) → Fewer o → Sound o (closing_job u (Ended Halted))
  closing_sound o h = works_kept o Sound (sound_kept o h) (closing_works u (Ended Halted) at) (λ maps dirty counts. few o h) o.maps o.dirty o.counts

  access_sound : (o : Own) (write : Bool) (w : ℕ) (j : Job) → page_of u w < u.lay.pages → Fewer o → Throughout o Sound j → Sound o (access_job u o write w j)
  access_sound o write w j inside h k = go (allows write (mapping o (page_of u w)))
    where
      go : (b : Bool) → Sound o (if b then j else fault_job u write (page_of u w) j)
      go true = k o.maps o.dirty o.counts
      go false = works_kept o Sound (sound_kept o h) (fault_works u j at write w inside) k o.maps o.dirty o.counts

  heed_sound : (o : Own) (again : Head) (x : ℕ) → Fewer o → AtHead o again → Sound o (heed_job again x)
  heed_sound o again x w h = go (x == 0)
    where
      go : (b : Bool) → Sound o (if b then Begin again else Ended (Stopped ((x - 1) % 2 ^ 32)))
      go true = h
      go false = few o w

  unready_sound : (o : Own) (again : Head) → Fewer o → AtHead (counted o Unready_looks) again → Sound o (unready_job u again)
  unready_sound o again w h = go (is_last u.limits.looks (counted o Unready_looks).counts.unready)
    where
      go : (b : Bool) → Sound (counted o Unready_looks) (if b then stop_job u Looked else Make (Get Stop) (heed_job again))
      go true = (few o w, λ x. few o w)
      go false = (few o w, λ x. heed_sound (counted o Unready_looks) again x w h)

  tried_sound : (o : Own) (l : ℕ) (got : Got) → Fewer o → Sound o (tried_job u l got)
  tried_sound o l (Ready c) h = acquire_sound (appended o (Pass (LockOf l) c)) h
  tried_sound o l Unready h = unready_sound o (Locking l) h h

  lock_sound : (o : Own) (l : ℕ) → Fewer o → Sound o (lock_job u l)
  lock_sound o l h = (few o h, λ x. go x (x % 2 == 0))
    where
      go : (x : ℕ) (b : Bool) → Sound o (call (if b then take_script l x else End Unready) (tried_job u l))
      go x true = (few o h, λ y. tried_sound o l (if y == x then Ready _ else Unready) h)
      go x false = tried_sound o l Unready h

  looked_sound : (o : Own) (of : Counter) (need : ℕ) (got : Got) → Fewer o → Sound o (looked_job u of need got)
  looked_sound o (Barrier b) need (Ready c) h = acquire_sound (appended o (Pass (BarrierOf b) c)) h
  looked_sound o (Flag f) need (Ready c) h = acquire_sound (appended o (Pass (FlagOf f) c)) h
  looked_sound o Close need (Ready c) h = closing_sound (appended o (Pass CloseOf c)) h
  looked_sound o of need Unready h = unready_sound o (Looking of need) h h

  look_sound : (o : Own) (of : Counter) (need : ℕ) → Fewer o → Sound o (look_job u of need)
  look_sound o of need h = (few o h, λ x. looked_sound o of need (if nat_le need x then Ready (count_of of need x) else Unready) h)

  -- what an instruction that begins stands on
  abbrev MayDo : Own → Action → Type 0
  MayDo o Spend = Few o
  MayDo o _ = Fewer o

  fewer_may : (o : Own) (a : Action) → Fewer o → MayDo o a
  fewer_may o Spend h = few o h
  fewer_may o a h = h

  next_may : (o : Own) → Few o → MayDo o (next o)
  next_may o h = go (nat_lt o.reader.done u.limits.turns) refl
    where
      go : (b : Bool) → nat_lt o.reader.done u.limits.turns ≡ b → MayDo o (if b then action_of (setting_of u) o.reader (slice_get code o.reader.place) else Spend)
      go true is = fewer_may o (action_of (setting_of u) o.reader (slice_get code o.reader.place)) (ltb-true _ _ is)
      go false is = h

  action_sound : (o : Own) (a : Action) → next o ≡ a → MayDo o a → Sound o (action_job u o a)
  action_sound o (Set d v) is h = (few o h, λ x. omega arith)
  action_sound o (Jump to) is h = (few o h, λ x. omega arith)
  action_sound o (LoadWord d w) is h = access_sound o false w (load_job u d w) (load_inside u code o d w is) h (λ maps dirty counts. (few o h, λ x. omega arith))
  action_sound o (StoreWord w v) is h = access_sound o true w (store_job u w v) (store_inside u code o w v is) h (λ maps dirty counts. (few o h, λ x. omega arith))
  action_sound o (Print v) is h = (few o h, λ x. omega arith)
  action_sound o (TakeLock l) is h = lock_sound o l h
  action_sound o (GiveLock l k) is h = release_sound o (free_job l k) h (λ maps dirty counts. (few o h, λ x. omega arith))
  action_sound o (Meet b) is h = release_sound o (meet_job u (Barrier b)) h (λ maps dirty counts. (few o h, λ x. h))
  action_sound o (RaiseFlag f) is h = release_sound o (raise_job f) h (λ maps dirty counts. (few o h, λ x. omega arith))
  action_sound o (WaitFlag f need) is h = look_sound o (Flag f) need h
  action_sound o (Trap kind) is h = (few o h, λ x. few o h)
  action_sound o Spend is h = (h, λ x. h)
  action_sound o Arrive is h = release_sound o (meet_job u Close) h (λ maps dirty counts. (few o h, λ x. h))

  head_sound : (o : Own) (h : Head) → AtHead o h → Sound o (head_job u code h)
  head_sound o Instruction h = action_sound o (next o) refl (next_may o h)
  head_sound o (Locking l) h = lock_sound o l h
  head_sound o (Looking of need) h = look_sound o of need h

  -- a processor between two events
  abbrev At : Processor → Type 0
  At m = Few m.own × Sound m.own m.todo

  settled_at : (j : Job) (o : Own) → Sound o j → At (settled o j)
  settled_at (Make a k) o h = (h.0, h)
  settled_at (Again a wanted j) o h = (h.0, h)
  settled_at (Mark n j) o h = settled_at j (own_after o n) h
  settled_at (Ask f) o h = settled_at (f o) o h
  settled_at (Begin Instruction) o h = (h, h)
  settled_at (Begin (Locking l)) o h = (few o h, h)
  settled_at (Begin (Looking of need)) o h = (few o h, h)
  settled_at (Ended e) o h = (h, h)

  run_at : (j : Job) (o : Own) → Sound o j → At (run_on u code o j)
  run_at (Make a k) o h = (h.0, h)
  run_at (Again a wanted j) o h = (h.0, h)
  run_at (Mark n j) o h = run_at j (own_after o n) h
  run_at (Ask f) o h = run_at (f o) o h
  run_at (Begin c) o h = settled_at (head_job u code c) o (head_sound o c h)
  run_at (Ended e) o h = (h, h)

  answer_sound : (o : Own) (j : Job) (x : ℕ) → Sound o j → Sound o (job_after j x)
  answer_sound o (Make a k) x h = h.1 x
  answer_sound o (Again a wanted j) x h = go (x == wanted)
    where
      go : (b : Bool) → Sound o (if b then j else Again a wanted j)
      go true = h.1
      go false = h
  answer_sound o (Mark n j) x h = h
  answer_sound o (Ask f) x h = h
  answer_sound o (Begin c) x h = h
  answer_sound o (Ended e) x h = h

  wanting_at : (starved : Bool) (m : Processor) → At m → At (wanting u starved m)
  wanting_at true m h = go (has_ended m.todo)
    where
      go : (b : Bool) → At (record { own = m.own; todo = if b then m.todo else starved_job u })
      go true = h
      go false = (h.0, (h.0, λ x. h.0))
  wanting_at false m h = h

  processor_at : (gs : List Given) → At (processor_of u code gs)
  unfolding processor_of
  processor_at [] = run_at (Begin Instruction) new_own (let h : 0 ≤ u.limits.turns = omega arith in h)
  processor_at (g ∷ gs) =
      let m = wanting u g.starved (processor_of u code gs) in
      run_at (job_after m.todo g.got) m.own (answer_sound m.own m.todo g.got (wanting_at g.starved (processor_of u code gs) (processor_at gs)).1)

  -- whatever it is given, it does no more than it may
  pub few_done : (m : Processor) → IsMade u code m → m.own.reader.done ≤ u.limits.turns
  unfolding IsMade
  few_done m made = subst (λ (p : Processor). p.own.reader.done ≤ u.limits.turns) (sym made.2) (wanting_at made.1 (processor_of u code made.0) (processor_at made.0)).0
