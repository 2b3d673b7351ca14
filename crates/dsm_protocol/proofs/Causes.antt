-- Each end has its cause.
use Rattle.std.proofs.Common.{◌≡◌, ℕ, ◌-◌, ◌%◌, ◌^◌, ◌<◌, ◌≤◌, ◌==◌, Bool, true, false, List, [], ◌∷◌, Option, Some, None, refl, sym, ap, subst, if◌then◌else◌, arith}
use Rattle.std.specs.Prelude.{Result, Ok, Err, slice_get, nat_lt, nat_le}
use Rattle.std.proofs.lemmas.Bool.{eqb-true, eqb-false, ltb-true, ltb-false}
use Rattle.dsm_entry.specs.declared.entry.Entry.TheVariants.{Pass}
use Rattle.dsm_entry.specs.declared.entry.Obj.TheVariants.{Lock as LockOf, Barrier as BarrierOf, Flag as FlagOf, Close as CloseOf}
use Rattle.dsm_isa.specs.declared.instr.Instr.{Instr}
use Rattle.dsm_isa.specs.declared.instr.Instr.TheVariants.{Div, Rem, Ld, St, Unlock}
use Rattle.dsm_local.specs.declared.action.Action.{Action}
use Rattle.dsm_local.specs.declared.action.Action.TheVariants.{Set, Jump, LoadWord, StoreWord, Print, TakeLock, GiveLock, Meet, RaiseFlag, WaitFlag, Trap, Spend, Arrive}
use Rattle.dsm_local.specs.declared.end.Trap.{Trap as Kind}
use Rattle.dsm_local.specs.declared.reader.Reader.{Reader}
use Rattle.dsm_local.specs.declared.setting.Setting.{Setting}
use Rattle.dsm_local.specs.Actions.{value, address, word_at, load, store, give_back, open_pass, action_of}
use Rattle.dsm_local.specs.Readers.{next_action}
use Rattle.dsm_words.specs.declared.item.Item.TheVariants.{Stop}
use Rattle.dsm_words.specs.Script.{Act, Get, End}
use Rattle.dsm_sync.specs.declared.counter.Counter.{Counter}
use Rattle.dsm_sync.specs.declared.counter.Counter.TheVariants.{Barrier, Flag, Close}
use Rattle.dsm_sync.specs.declared.got.Got.{Got}
use Rattle.dsm_sync.specs.declared.got.Got.TheVariants.{Ready, Unready}
use Rattle.dsm_sync.specs.Counting.{count_of}
use Rattle.dsm_sync.specs.Locks.{take_script}
use Rattle.dsm_local.specs.declared.end.End.{End as Ending}
use Rattle.dsm_local.specs.declared.end.End.TheVariants.{Halted, Looked, Stopped}
use Rattle.dsm_protocol.specs.declared.head.Head.{Head}
use Rattle.dsm_protocol.specs.declared.head.Head.TheVariants.{Instruction, Locking, Looking}
use Rattle.dsm_protocol.specs.Own.{Own, Who, Unready as Unready_looks, setting_of, mapping, new_own, appended, counted}
use Rattle.dsm_protocol.specs.Jobs.{Job, Make, Again, Mark, Ask, Begin, Ended, call, own_after, job_after}
use Rattle.dsm_protocol.specs.Steps.{is_last, heed_job, stop_job, unready_job, tried_job, looked_job, look_job, next_instruction, release_job, acquire_job, closing_job, fault_job, allows, page_of, access_job, load_job, store_job, free_job, meet_job, raise_job, action_job, head_job}
use Rattle.dsm_protocol.specs.Processors.{Processor, Given, settled, run_on, ending, wanting, after_given, processor_of}
use Rattle.dsm_protocol.specs.Ends.{Cause, EveryEndHasItsCause}
use Rattle.dsm_protocol.proofs.Placed.{IsPlaced, placed}
use Rattle.dsm_protocol.proofs.Righting.{fault_works, release_works, acquire_works, closing_works}
use Rattle.dsm_protocol.proofs.Keeping.{with_others, Throughout, IsKept, works_kept}
use Rattle.dsm_protocol.proofs.Inside.{load_inside, store_inside}

-- no instruction is of a kind that spends
abbrev IsNoSpend : Action → Type 0
IsNoSpend Spend = ⊥
IsNoSpend _ = Unit {0}

no_spend-if : (b : Bool) (x y : Action) → IsNoSpend x → IsNoSpend y → IsNoSpend (if b then x else y)
no_spend-if true x y h k = h
no_spend-if false x y h k = k

no_spend-load : (d : ℕ) (w : Result ℕ ℕ) → IsNoSpend (load d w)
no_spend-load d (Ok w) = tt
no_spend-load d (Err w) = tt

no_spend-store : (v : ℕ) (w : Result ℕ ℕ) → IsNoSpend (store v w)
no_spend-store v (Ok w) = tt
no_spend-store v (Err w) = tt

no_spend-give_back : (l : ℕ) (k : Option ℕ) → IsNoSpend (give_back l k)
no_spend-give_back l None = tt
no_spend-give_back l (Some k) = tt

no_spend : (s : Setting) (r : Reader) (i : Option Instr) → IsNoSpend (action_of s r i)
no_spend s r (Some (Ld d a k)) = no_spend-load d (word_at s.size (address r a k))
no_spend s r (Some (St v a k)) = no_spend-store (value r v) (word_at s.size (address r a k))
no_spend s r (Some (Div d a b)) = no_spend-if (value r b == 0) _ _ tt tt
no_spend s r (Some (Rem d a b)) = no_spend-if (value r b == 0) _ _ tt tt
no_spend s r (Some (Unlock l)) = no_spend-give_back l (open_pass r l)
no_spend s r _ = tt

-- so a reader whose next action is to spend has done as many as it may
spend_cause : (code : List Instr) (s : Setting) (r : Reader) → next_action code s r ≡ Spend → s.turns ≤ r.done
spend_cause code s r is = go (nat_lt r.done s.turns) refl is
  where
    go : (b : Bool) → nat_lt r.done s.turns ≡ b → (if b then action_of s r (slice_get code r.place) else Spend) ≡ Spend → s.turns ≤ r.done
    go true may is = absurd (subst IsNoSpend is (no_spend s r (slice_get code r.place)))
    go false spent is = ltb-false _ _ spent

-- and one that traps may do an instruction, which can't be done
trap_cause : (code : List Instr) (s : Setting) (r : Reader) (kind : Kind) → next_action code s r ≡ Trap kind → (r.done < s.turns) × (action_of s r (slice_get code r.place) ≡ Trap kind)
trap_cause code s r kind is = go (nat_lt r.done s.turns) refl is
  where
    go : (b : Bool) → nat_lt r.done s.turns ≡ b → (if b then action_of s r (slice_get code r.place) else Spend) ≡ Trap kind → (r.done < s.turns) × (action_of s r (slice_get code r.place) ≡ Trap kind)
    go true may is = (ltb-true _ _ may, is)
    go false spent is = absurd (cc is)

module _ (u : Who) (code : List Instr) (at : IsPlaced u) where
  -- the answer, where memory was not wanting
  abbrev told : ℕ → Given
  told x = record { starved = false; got = x }

  -- a processor that holds o and has this to do
  abbrev doing : Own → Job → Processor
  doing o j = record { own = o; todo = j }

  -- in the event of processor m, given g, and in all later ones up to the next head, an end has its cause
  abbrev Sound : Processor → Given → Own → Job → Type 0
  Sound m g o (Make b k) = (x : ℕ) → Sound (doing o (Make b k)) (told x) o (k x)
  Sound m g o (Again b wanted j) = (x : ℕ) → Sound (doing o (Again b wanted j)) (told x) o j
  Sound m g o (Mark n j) = Sound m g (own_after o n) j
  Sound m g o (Ask f) = Sound m g o (f o)
  Sound m g o (Begin h) = Unit {0}
  Sound m g o (Ended e) = Cause u code m o g e

  -- the same of a processor that stands before an operation or has ended
  abbrev Stands : Processor → Given → Own → Job → Type 0
  Stands m g o (Make b k) = (x : ℕ) → Sound (doing o (Make b k)) (told x) o (k x)
  Stands m g o (Again b wanted j) = (x : ℕ) → Sound (doing o (Again b wanted j)) (told x) o j
  Stands m g o (Ended e) = Cause u code m o g e
  Stands m g o _ = ⊥

  -- the same whatever the event is
  abbrev Holds : Own → Job → Type 0
  Holds o j = (m : Processor) (g : Given) → Sound m g o j

  -- protocol work ends nothing
  holds_kept : (o : Own) → IsKept o Holds
  holds_kept o = record {
    makes = λ a k f maps dirty counts m g x. f x maps dirty counts (doing (with_others o maps dirty counts) (Make a k)) (told x);
    repeats = λ a wanted j f maps dirty counts m g x. f maps dirty counts (doing (with_others o maps dirty counts) (Again a wanted j)) (told x);
    marks = λ p n j f. f;
    asks = λ p f g. g;
  }

  release_holds : (o : Own) (j : Job) → Throughout o Holds j → Holds o (release_job u j)
  release_holds o j k = works_kept o Holds (holds_kept o) (release_works u j at) k o.maps o.dirty o.counts

  acquire_holds : (o : Own) (j : Job) → Throughout o Holds j → Holds o (acquire_job u j)
  acquire_holds o j k = works_kept o Holds (holds_kept o) (acquire_works u j at) k o.maps o.dirty o.counts

  closing_holds : (o : Own) (j : Job) → Throughout o Holds j → Holds o (closing_job u j)
  closing_holds o j k = works_kept o Holds (holds_kept o) (closing_works u j at) k o.maps o.dirty o.counts

  access_stands : (o : Own) (m : Processor) (g : Given) (write : Bool) (w : ℕ) (j : Job) → page_of u w < u.lay.pages → Stands m g o j → Throughout o Holds j → Stands m g o (access_job u o write w j)
  access_stands o m g write w j inside h k = go (allows write (mapping o (page_of u w)))
    where
      go : (b : Bool) → Stands m g o (if b then j else fault_job u write (page_of u w) j)
      go true = h
      go false = works_kept o Holds (holds_kept o) (fault_works u j at write w inside) k o.maps o.dirty o.counts m g

  last_is : (looks : Option ℕ) (k : ℕ) → is_last looks k ≡ true → looks ≡ Some k
  last_is None k e = absurd (cc e)
  last_is (Some last) k e = ap Some (sym (eqb-true k last e))

  heed_sound : (o : Own) (again : Head) (x : ℕ) → is_last u.limits.looks o.counts.unready ≡ false → Sound (doing o (Make (Get Stop) (heed_job again))) (told x) o (heed_job again x)
  heed_sound o again x more = go (x == 0) refl
    where
      go : (b : Bool) → (x == 0) ≡ b → Sound (doing o (Make (Get Stop) (heed_job again))) (told x) o (if b then Begin again else Ended (Stopped ((x - 1) % 2 ^ 32)))
      go true is = tt
      go false is = let h : x ≡ 0 → ⊥ = eqb-false x 0 is in ((again, refl, more), omega arith, refl)

  unready_sound : (o : Own) (m : Processor) (g : Given) (again : Head) → Sound m g o (unready_job u again)
  unready_sound o m g again = go (is_last u.limits.looks (counted o Unready_looks).counts.unready) refl
    where
      go : (b : Bool) → is_last u.limits.looks (counted o Unready_looks).counts.unready ≡ b → Sound m g (counted o Unready_looks) (if b then stop_job u Looked else Make (Get Stop) (heed_job again))
      go true is = λ x. (refl, last_is u.limits.looks (counted o Unready_looks).counts.unready is)
      go false is = λ x. heed_sound (counted o Unready_looks) again x is

  tried_sound : (o : Own) (m : Processor) (g : Given) (l : ℕ) (got : Got) → Sound m g o (tried_job u l got)
  tried_sound o m g l (Ready c) = acquire_holds (appended o (Pass (LockOf l) c)) next_instruction (λ maps dirty counts m' g'. tt) m g
  tried_sound o m g l Unready = unready_sound o m g (Locking l)

  lock_sound : (o : Own) (m : Processor) (l x : ℕ) (b : Bool) → Sound m (told x) o (call (if b then take_script l x else End Unready) (tried_job u l))
  lock_sound o m l x true = λ y. tried_sound o _ _ l (if y == x then Ready _ else Unready)
  lock_sound o m l x false = tried_sound o _ _ l Unready

  passed_sound : (o : Own) (m : Processor) (g : Given) (of : Counter) (need : ℕ) (got : Got) → Sound m g o (looked_job u of need got)
  passed_sound o m g (Barrier b) need (Ready c) = acquire_holds (appended o (Pass (BarrierOf b) c)) next_instruction (λ maps dirty counts m' g'. tt) m g
  passed_sound o m g (Flag f) need (Ready c) = acquire_holds (appended o (Pass (FlagOf f) c)) next_instruction (λ maps dirty counts m' g'. tt) m g
  passed_sound o m g Close need (Ready c) = closing_holds (appended o (Pass CloseOf c)) (Ended Halted) (λ maps dirty counts m' g'. (o.trace, c, refl)) m g
  passed_sound o m g of need Unready = unready_sound o m g (Looking of need)

  look_stands : (o : Own) (m : Processor) (g : Given) (of : Counter) (need : ℕ) → Stands m g o (look_job u of need)
  look_stands o m g of need = λ x. passed_sound o _ _ of need (if nat_le need x then Ready (count_of of need x) else Unready)

  action_stands : (o : Own) (m : Processor) (g : Given) (act : Action) → next_action code (setting_of u) o.reader ≡ act → Stands m g o (action_job u o act)
  action_stands o m g (Set d v) is = λ x. tt
  action_stands o m g (Jump to) is = λ x. tt
  action_stands o m g (LoadWord d w) is = access_stands o m g false w (load_job u d w) (load_inside u code o d w is) (λ x. tt) (λ maps dirty counts m' g' x. tt)
  action_stands o m g (StoreWord w v) is = access_stands o m g true w (store_job u w v) (store_inside u code o w v is) (λ x. tt) (λ maps dirty counts m' g' x. tt)
  action_stands o m g (Print v) is = λ x. tt
  action_stands o m g (TakeLock l) is = λ x. lock_sound o _ l x (x % 2 == 0)
  action_stands o m g (GiveLock l k) is = release_holds o (free_job l k) (λ maps dirty counts m' g' x. tt) m g
  action_stands o m g (Meet b) is = release_holds o (meet_job u (Barrier b)) (λ maps dirty counts m' g' x. tt) m g
  action_stands o m g (RaiseFlag f) is = release_holds o (raise_job f) (λ maps dirty counts m' g' x. tt) m g
  action_stands o m g (WaitFlag f need) is = look_stands o m g (Flag f) need
  action_stands o m g (Trap kind) is = let h = trap_cause code (setting_of u) o.reader kind is in λ x. (refl, (refl, h.0), h.1)
  action_stands o m g Spend is = λ x. (refl, spend_cause code (setting_of u) o.reader is)
  action_stands o m g Arrive is = release_holds o (meet_job u Close) (λ maps dirty counts m' g' x. tt) m g

  -- behind the event of processor m, given g, processor n stands
  abbrev At : Processor → Given → Processor → Type 0
  At m g n = Stands m g n.own n.todo

  settled_at : (o : Own) (m : Processor) (g : Given) (j : Job) → Stands m g o j → At m g (settled o j)
  settled_at o m g (Make b k) h = h
  settled_at o m g (Again b wanted j) h = h
  settled_at o m g (Ended e) h = h
  settled_at o m g (Mark n j) h = absurd h
  settled_at o m g (Ask f) h = absurd h
  settled_at o m g (Begin c) h = absurd h

  head_at : (o : Own) (m : Processor) (g : Given) (h : Head) → At m g (settled o (head_job u code h))
  head_at o m g Instruction = let act = next_action code (setting_of u) o.reader in settled_at o m g (action_job u o act) (action_stands o m g act refl)
  head_at o m g (Locking l) = λ x. lock_sound o _ l x (x % 2 == 0)
  head_at o m g (Looking of need) = look_stands o m g of need

  run_at : (j : Job) (o : Own) (m : Processor) (g : Given) → Sound m g o j → At m g (run_on u code o j)
  run_at (Make b k) o m g h = h
  run_at (Again b wanted j) o m g h = h
  run_at (Mark n j) o m g h = run_at j (own_after o n) m g h
  run_at (Ask f) o m g h = run_at (f o) o m g h
  run_at (Begin c) o m g h = head_at o m g c
  run_at (Ended e) o m g h = h

  cause_of : (m : Processor) (g : Given) (o : Own) (j : Job) (e : Ending) → Stands m g o j → ending (doing o j) ≡ Some e → Cause u code m o g e
  cause_of m g o (Ended x) e h is = let same : x ≡ e = cc is in subst (Cause u code m o g) same h
  cause_of m g o (Make b k) e h is = absurd (cc is)
  cause_of m g o (Again b wanted j) e h is = absurd (cc is)
  cause_of m g o (Mark n j) e h is = absurd h
  cause_of m g o (Ask f) e h is = absurd h
  cause_of m g o (Begin c) e h is = absurd h

  -- one event of a processor that has not ended
  event_at : (m : Processor) (h g : Given) (o : Own) (j : Job) → Stands m h o j → ending (doing o j) ≡ None → At (wanting u g.starved (doing o j)) g (after_given u code (doing o j) g)
  event_at m h g o j stands runs = go g.starved refl j stands runs
    where
      again : (b : Act) (wanted x : ℕ) (k : Job) → ((y : ℕ) → Sound (doing o (Again b wanted k)) (told y) o k) → (t : Bool) → Sound (doing o (Again b wanted k)) (told x) o (if t then k else Again b wanted k)
      again b wanted x k s true = s x
      again b wanted x k s false = s

      go : (w : Bool) → g.starved ≡ w → (j : Job) → Stands m h o j → ending (doing o j) ≡ None → At (wanting u w (doing o j)) g (run_on u code (wanting u w (doing o j)).own (job_after (wanting u w (doing o j)).todo g.got))
      go true is (Make b k) s r = (refl, is)
      go true is (Again b wanted k) s r = (refl, is)
      go false is (Make b k) s r = run_at (k g.got) o (doing o (Make b k)) g (subst (λ w. Sound (doing o (Make b k)) (record { starved = w; got = g.got }) o (k g.got)) (sym is) (s g.got))
      go false is (Again b wanted k) s r =
          run_at (if g.got == wanted then k else Again b wanted k) o (doing o (Again b wanted k)) g
          (subst (λ w. Sound (doing o (Again b wanted k)) (record { starved = w; got = g.got }) o (if g.got == wanted then k else Again b wanted k)) (sym is) (again b wanted g.got k s (g.got == wanted)))
      go w is (Mark n k) s r = absurd s
      go w is (Ask f) s r = absurd s
      go w is (Begin c) s r = absurd s
      go w is (Ended e) s r = absurd (cc r)

  step_at : (m : Processor) (h g : Given) (o : Own) (j : Job) → Stands m h o j → (n : Processor) × (k : Given) × At n k (after_given u code (doing o j) g)
  step_at m h g o (Make b k) s = (wanting u g.starved (doing o (Make b k)), g, event_at m h g o (Make b k) s refl)
  step_at m h g o (Again b wanted k) s = (wanting u g.starved (doing o (Again b wanted k)), g, event_at m h g o (Again b wanted k) s refl)
  step_at m h g o (Ended e) s = go g.starved
    where
      go : (w : Bool) → (let n = wanting u w (doing o (Ended e)) in (b : Processor) × (k : Given) × At b k (run_on u code n.own (job_after n.todo g.got)))
      go true = (m, h, s)
      go false = (m, h, s)
  step_at m h g o (Mark n k) s = absurd s
  step_at m h g o (Ask f) s = absurd s
  step_at m h g o (Begin c) s = absurd s

  made_at : (gs : List Given) → (m : Processor) × (h : Given) × At m h (processor_of u code gs)
  unfolding processor_of
  made_at [] = (doing new_own (Begin Instruction), told 0, run_at (Begin Instruction) new_own (doing new_own (Begin Instruction)) (told 0) tt)
  made_at (g ∷ gs) = let x = made_at gs in let m = processor_of u code gs in step_at x.0 x.1 g m.own m.todo x.2

pub every_end : EveryEndHasItsCause
every_end u code gs g e p_in runs is =
    let at = placed u p_in in
    let x = made_at u code at gs in
    let m = processor_of u code gs in
    let n = after_given u code m g in
    cause_of u code at (wanting u g.starved m) g n.own n.todo e (event_at u code at x.0 x.1 g m.own m.todo x.2 runs) is
