-- What a job may do with the stop word.
use Rattle.std.proofs.Common.{◌≡◌, ◌≢◌, ℕ, ◌+◌, ◌-◌, ◌*◌, ◌<◌, ◌/◌, ◌%◌, ◌^◌, Bool, true, false, List, Option, Some, None, refl, if◌then◌else◌, ◌==◌}
use Rattle.std.specs.Prelude.{nat_le}
use Rattle.std.proofs.lemmas.Bool.{eqb-false}
use Rattle.dsm_isa.specs.declared.instr.Instr.{Instr}
use Rattle.dsm_local.specs.declared.action.Action.{Action}
use Rattle.dsm_local.specs.declared.action.Action.TheVariants.{Set, Jump, LoadWord, StoreWord, Print, TakeLock, GiveLock, Meet, RaiseFlag, WaitFlag, Trap, Spend, Arrive}
use Rattle.dsm_local.specs.Readers.{next_action}
use Rattle.dsm_words.specs.declared.item.Item.TheVariants.{Stop, Frame, Twin, Twined, Dir, Update, Flush, Notice, Clock, Global, Own as OwnWord, Nle, Home}
use Rattle.dsm_words.specs.Script.{Act, Get, Put, Swap, Change, Add, Or, item_of}
use Rattle.dsm_words.specs.Script.{End}
use Rattle.dsm_sync.specs.declared.got.Got.{Got}
use Rattle.dsm_sync.specs.declared.got.Got.TheVariants.{Ready, Unready}
use Rattle.dsm_sync.specs.Counters.{counter_item}
use Rattle.dsm_sync.specs.Counting.{count_of}
use Rattle.dsm_sync.specs.Locks.{take_script}
use Rattle.dsm_sync.specs.declared.counter.Counter.{Counter}
use Rattle.dsm_sync.specs.declared.counter.Counter.TheVariants.{Barrier, Flag, Close}
use Rattle.dsm_local.specs.declared.end.End.{End as Ending}
use Rattle.dsm_local.specs.declared.end.End.TheVariants.{Halted, Trapped, Spent, Looked, Stopped, NoMemory}
use Rattle.dsm_protocol.specs.Own.{Own, Who, setting_of, mapping}
use Rattle.dsm_protocol.specs.Jobs.{Job, Make, Again, Mark, Ask, Begin, Ended, own_after, call}
use Rattle.dsm_protocol.specs.declared.head.Head.{Head}
use Rattle.dsm_protocol.specs.declared.head.Head.TheVariants.{Instruction, Locking, Looking}
use Rattle.dsm_protocol.specs.Steps.{action_job, stop_job, head_job, unready_job, heed_job, look_job, lock_job, arrive_job, set_job, is_last, passed_job, tried_job, looked_job, next_instruction, acquire_job, release_job, fault_job, allows, page_of, load_job, store_job, free_job, meet_job, raise_job}
use Rattle.dsm_protocol.specs.Processors.{settled, run_on}
use Rattle.dsm_protocol.specs.Rights.{Rights, Legal, May, Plain, Maps, Gives, Works, Over, Makes, Takes, Marks_map, Marks, Asks}
use Rattle.dsm_protocol.proofs.Placed.{IsPlaced}
use Rattle.dsm_protocol.proofs.Righting.{fault_works, release_works, acquire_works, closing_works}
use Rattle.dsm_local.proofs.Inside.{IsInside-next_action}
use Rattle.dsm_protocol.proofs.Inside.{page_in}
use Rattle.dsm_clock.specs.declared.turns.TurnId.{TurnId}
use Rattle.dsm_clock.specs.declared.turns.TurnId.TheVariants.{Page, Notices}
use Rattle.dsm_clock.specs.Turns.{turn_item}
use Rattle.dsm_local.specs.Readers.{IsInside}
use Rattle.dsm_runs.specs.Stopping.{TellsAll}

-- the one change of the stop word is the last operation, with which processor p ends and tells all others
abbrev pub MayMake : ℕ → Act → (ℕ → Job) → Type 0
MayMake p (Get it) k = Unit {0}
MayMake p (Change Stop old new) k = (old ≡ 0) × (new ≡ p + 1) × ((x : ℕ) → (e : Ending) × (k x ≡ Ended e) × TellsAll e)
MayMake p a k = item_of a ≢ Stop

-- what a load of the stop word has given
abbrev pub loaded : Act → ℕ → Option ℕ
loaded (Get Stop) x = Some x
loaded a x = None

-- p is stopped by the one that the word named, and never by a word that is 0
abbrev pub MayEnd : Option ℕ → Ending → Type 0
MayEnd d (Stopped b) = (x : ℕ) × (d ≡ Some x) × (x ≢ 0) × (b ≡ (x - 1) % 2 ^ 32)
MayEnd d e = Unit {0}

abbrev pub Heeds : ℕ → Option ℕ → Job → Type 0
Heeds p d (Make a k) = MayMake p a k × ((x : ℕ) → Heeds p (loaded a x) (k x))
Heeds p d (Again a wanted j) = (item_of a ≢ Stop) × Heeds p None j
Heeds p d (Mark n j) = Heeds p d j
Heeds p d (Ask f) = (o : Own) → Heeds p d (f o)
Heeds p d (Begin h) = Unit {0}
Heeds p d (Ended e) = MayEnd d e

module _ (u : Who) where
  pub stop_heeds : (d : Option ℕ) (e : Ending) → TellsAll e → Heeds u.p d (stop_job u e)
  stop_heeds d Halted t = absurd t
  stop_heeds d (Trapped at fault) t = ((refl, refl, λ x. (Trapped at fault, refl, tt)), λ x. tt)
  stop_heeds d Spent t = ((refl, refl, λ x. (Spent, refl, tt)), λ x. tt)
  stop_heeds d Looked t = ((refl, refl, λ x. (Looked, refl, tt)), λ x. tt)
  stop_heeds d (Stopped by) t = absurd t
  stop_heeds d NoMemory t = ((refl, refl, λ x. (NoMemory, refl, tt)), λ x. tt)

  pub heed_heeds : (again : Head) (x : ℕ) → Heeds u.p (Some x) (heed_job again x)
  heed_heeds again x = go (x == 0) refl
    where
      go : (b : Bool) → (x == 0) ≡ b → Heeds u.p (Some x) (if b then Begin again else Ended (Stopped ((x - 1) % 2 ^ 32)))
      go true is = tt
      go false is = (x, refl, eqb-false x 0 is, refl)

  pub unready_heeds : (d : Option ℕ) (again : Head) → Heeds u.p d (unready_job u again)
  unready_heeds d again o = go (is_last u.limits.looks o.counts.unready)
    where
      go : (b : Bool) → Heeds u.p d (if b then stop_job u Looked else Make (Get Stop) (heed_job again))
      go true = stop_heeds d Looked tt
      go false = (tt, λ x. heed_heeds again x)

-- protocol work leaves the stop word alone
rights_make : (u : Who) (t : Option TurnId) (a : Act) (k : ℕ → Job) → Rights u t a → MayMake u.p a k
rights_make u t (Put (Frame n g i) v) k r = λ e. absurd (cc e)
rights_make u t (Put (Twin n g i) v) k r = λ e. absurd (cc e)
rights_make u t (Put (Twined n g) v) k r = λ e. absurd (cc e)
rights_make u t (Put (Dir n g) v) k r = λ e. absurd (cc e)
rights_make u t (Put (Update n g) v) k r = λ e. absurd (cc e)
rights_make u t (Put (Flush n g) v) k r = λ e. absurd (cc e)
rights_make u t (Put (Notice n g) v) k r = λ e. absurd (cc e)
rights_make u t (Swap (Global n m q) v) k r = λ e. absurd (cc e)
rights_make u t (Swap (OwnWord q x) v) k r = λ e. absurd (cc e)
rights_make u t (Swap (Nle q x) v) k r = λ e. absurd (cc e)
rights_make u t (Change (Home g) old v) k r = λ e. absurd (cc e)
rights_make u t (Add (Clock n) x) k r = λ e. absurd (cc e)
rights_make u t (Or (Global n m q) bits) k r = λ e. absurd (cc e)
rights_make u t (Or (OwnWord q x) bits) k r = λ e. absurd (cc e)
rights_make u t (Or (Nle q x) bits) k r = λ e. absurd (cc e)
rights_make u t a k r = absurd r

legal_make : (u : Who) (t : Option TurnId) (a : Act) (k : ℕ → Job) → Legal u t a → MayMake u.p a k
legal_make u t (Get it) k l = tt
legal_make u t (Put it v) k l = rights_make u t (Put it v) k l.1
legal_make u t (Swap it v) k l = rights_make u t (Swap it v) k l.1
legal_make u t (Change it old new) k l = rights_make u t (Change it old new) k l.1
legal_make u t (Add it n) k l = rights_make u t (Add it n) k l.1
legal_make u t (Or it bits) k l = rights_make u t (Or it bits) k l.1

turn_no_stop : (t : TurnId) → turn_item t ≢ Stop
turn_no_stop (Page n g) = λ e. absurd (cc e)
turn_no_stop (Notices n) = λ e. absurd (cc e)

may_make : (u : Who) {t t' : Option TurnId} {w : Option (ℕ × ℕ)} {a : Act} (k : ℕ → Job) → May u t a t' w → MayMake u.p a k
may_make u k (Plain legal) = legal_make u _ _ k legal
may_make u k (Maps page) = λ e. absurd (cc e)
may_make u k (Gives turn within) = turn_no_stop turn

works_heeds : (u : Who) {last : Job} {t : Option TurnId} {w : Option (ℕ × ℕ)} {j : Job} → Works u last t w j → (d : Option ℕ) → ((e : Option ℕ) → Heeds u.p e last) → Heeds u.p d j
works_heeds u Over d k = k d
works_heeds u (Makes may f) d k = (may_make u _ may, λ x. works_heeds u (f x) (loaded _ x) k)
works_heeds u (Takes turn within f) d k = (turn_no_stop turn, works_heeds u f None k)
works_heeds u (Marks_map f) d k = works_heeds u f d k
works_heeds u (Marks n j inner f) d k = works_heeds u f d k
works_heeds u (Asks f) d k = λ o. works_heeds u (f o) d k

module _ (u : Who) (at : IsPlaced u) where
  acquire_heeds : (d : Option ℕ) → Heeds u.p d (acquire_job u next_instruction)
  acquire_heeds d = works_heeds u (acquire_works u next_instruction at) d (λ e. tt)

  release_heeds : (d : Option ℕ) (j : Job) → ((e : Option ℕ) → Heeds u.p e j) → Heeds u.p d (release_job u j)
  release_heeds d j k = works_heeds u (release_works u j at) d k

  access_heeds : (d : Option ℕ) (write : Bool) (w : ℕ) (j : Job) (b : Bool) → w < u.lay.pages * u.lay.words → ((e : Option ℕ) → Heeds u.p e j) → Heeds u.p d (if b then j else fault_job u write (page_of u w) j)
  access_heeds d write w j true inside k = k d
  access_heeds d write w j false inside k = works_heeds u (fault_works u j at write w (page_in u.lay.pages u.lay.words w inside)) d k

  tried_heeds : (d : Option ℕ) (l : ℕ) (got : Got) → Heeds u.p d (tried_job u l got)
  tried_heeds d l (Ready c) = acquire_heeds d
  tried_heeds d l Unready = unready_heeds u d (Locking l)

  lock_heeds : (d : Option ℕ) (l : ℕ) → Heeds u.p d (lock_job u l)
  lock_heeds d l = (tt, λ v. taken v (v % 2 == 0))
    where
      won : (v x : ℕ) (b : Bool) → Heeds u.p None (tried_job u l (if b then Ready (v / 2) else Unready))
      won v x true = tried_heeds None l (Ready (v / 2))
      won v x false = tried_heeds None l Unready

      taken : (v : ℕ) (b : Bool) → Heeds u.p None (call (if b then take_script l v else End Unready) (tried_job u l))
      taken v true = (λ e. absurd (cc e), λ x. won v x (x == v))
      taken v false = tried_heeds None l Unready

  passed_heeds : (d : Option ℕ) (of : Counter) → Heeds u.p d (passed_job u of)
  passed_heeds d (Barrier b) = acquire_heeds d
  passed_heeds d (Flag f) = acquire_heeds d
  passed_heeds d Close = works_heeds u (closing_works u (Ended Halted) at) d (λ e. tt)

  look_heeds : (d : Option ℕ) (of : Counter) (need : ℕ) → Heeds u.p d (look_job u of need)
  look_heeds d of need = (tt, λ v. found v (loaded (Get (counter_item of)) v) (nat_le need v))
    where
      found : (v : ℕ) (e : Option ℕ) (b : Bool) → Heeds u.p e (looked_job u of need (if b then Ready (count_of of need v) else Unready))
      found v e true = passed_heeds e of
      found v e false = unready_heeds u e (Looking of need)

  counter_is_not_stop : (of : Counter) → counter_item of ≢ Stop
  counter_is_not_stop (Barrier b) = λ e. absurd (cc e)
  counter_is_not_stop (Flag f) = λ e. absurd (cc e)
  counter_is_not_stop Close = λ e. absurd (cc e)

  meet_heeds : (d : Option ℕ) (of : Counter) → Heeds u.p d (meet_job u of)
  meet_heeds d (Barrier b) = (λ e. absurd (cc e), λ a. tt)
  meet_heeds d (Flag f) = (λ e. absurd (cc e), λ a. tt)
  meet_heeds d Close = (λ e. absurd (cc e), λ a. tt)

  arrive_heeds : (d : Option ℕ) (of : Counter) → Heeds u.p d (arrive_job u of)
  arrive_heeds d of = release_heeds d (meet_job u of) (λ e. meet_heeds e of)

  set_heeds : (d : Option ℕ) (f : ℕ) → Heeds u.p d (set_job u f)
  set_heeds d f = release_heeds d (raise_job f) (λ e. (λ x. absurd (cc x), λ j. tt))

  action_heeds : (d : Option ℕ) (o : Own) (a : Action) → IsInside (u.lay.pages * u.lay.words) a → Heeds u.p d (action_job u o a)
  action_heeds d o (Set r v) inside = (tt, λ x. tt)
  action_heeds d o (Jump to) inside = (tt, λ x. tt)
  action_heeds d o (LoadWord r w) inside = access_heeds d false w (load_job u r w) (allows false (mapping o (page_of u w))) inside (λ e. (tt, λ x. tt))
  action_heeds d o (StoreWord w v) inside = access_heeds d true w (store_job u w v) (allows true (mapping o (page_of u w))) inside (λ e. (λ x. absurd (cc x), λ x. tt))
  action_heeds d o (Print v) inside = (tt, λ x. tt)
  action_heeds d o (TakeLock l) inside = lock_heeds d l
  action_heeds d o (GiveLock l k) inside = release_heeds d (free_job l k) (λ e. (λ x. absurd (cc x), λ x. tt))
  action_heeds d o (Meet b) inside = arrive_heeds d (Barrier b)
  action_heeds d o (RaiseFlag f) inside = set_heeds d f
  action_heeds d o (WaitFlag f need) inside = look_heeds d (Flag f) need
  action_heeds d o (Trap kind) inside = stop_heeds u d (Trapped o.reader.place kind) tt
  action_heeds d o Spend inside = stop_heeds u d Spent tt
  action_heeds d o Arrive inside = arrive_heeds d Close

  head_heeds : (code : List Instr) (d : Option ℕ) (h : Head) → Heeds u.p d (head_job u code h)
  head_heeds code d Instruction = λ o. action_heeds d o (next_action code (setting_of u) o.reader) (IsInside-next_action code (setting_of u) o.reader)
  head_heeds code d (Locking l) = lock_heeds d l
  head_heeds code d (Looking of need) = look_heeds d of need

  -- what is done at once leaves it as it is
  settled_heeds : (d : Option ℕ) (j : Job) (o : Own) → Heeds u.p d j → Heeds u.p d (settled o j).todo
  settled_heeds d (Make a k) o h = h
  settled_heeds d (Again a wanted j) o h = h
  settled_heeds d (Mark n j) o h = settled_heeds d j (own_after o n) h
  settled_heeds d (Ask f) o h = settled_heeds d (f o) o (h o)
  settled_heeds d (Begin g) o h = h
  settled_heeds d (Ended e) o h = h

  pub run_heeds : (code : List Instr) (d : Option ℕ) (j : Job) (o : Own) → Heeds u.p d j → Heeds u.p d (run_on u code o j).todo
  run_heeds code d (Make a k) o h = h
  run_heeds code d (Again a wanted j) o h = h
  run_heeds code d (Mark n j) o h = run_heeds code d j (own_after o n) h
  run_heeds code d (Ask f) o h = run_heeds code d (f o) o (h o)
  run_heeds code d (Begin g) o h = settled_heeds d (head_job u code g) o (head_heeds code d g)
  run_heeds code d (Ended e) o h = h
