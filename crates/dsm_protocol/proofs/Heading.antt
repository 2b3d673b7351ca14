-- Every head's job goes by the table.
use Rattle.std.proofs.Common.{◌≡◌, ℕ, zero, suc, ◌-◌, ◌*◌, ◌/◌, ◌%◌, ◌^◌, ◌<◌, ◌==◌, Bool, true, false, List, None, refl, arith, if◌then◌else◌}
use Rattle.std.specs.Prelude.{nat_le}
use Rattle.std.proofs.Math.Nat.{mod-lt}
use Rattle.dsm_isa.specs.declared.instr.Instr.{Instr}
use Rattle.dsm_local.specs.declared.action.Action.{Action}
use Rattle.dsm_local.specs.declared.action.Action.TheVariants.{Set, Jump, LoadWord, StoreWord, Print, TakeLock, GiveLock, Meet, RaiseFlag, WaitFlag, Trap, Spend, Arrive}
use Rattle.dsm_local.specs.declared.end.End.{End as Ending}
use Rattle.dsm_local.specs.declared.end.End.TheVariants.{Trapped, Spent, Looked, Stopped, NoMemory}
use Rattle.dsm_local.specs.Readers.{next_action, IsInside}
use Rattle.dsm_local.proofs.Inside.{IsInside-next_action}
use Rattle.dsm_words.specs.declared.item.Item.TheVariants.{Stop}
use Rattle.dsm_words.specs.Place.{IsWithin}
use Rattle.dsm_words.specs.Script.{Act, Get, End}
use Rattle.dsm_sync.specs.declared.counter.Counter.{Counter}
use Rattle.dsm_sync.specs.declared.counter.Counter.TheVariants.{Barrier, Flag, Close}
use Rattle.dsm_sync.specs.declared.got.Got.{Got}
use Rattle.dsm_sync.specs.declared.got.Got.TheVariants.{Ready, Unready}
use Rattle.dsm_sync.specs.Counting.{count_of}
use Rattle.dsm_sync.specs.Locks.{take_script}
use Rattle.dsm_protocol.specs.declared.head.Head.{Head}
use Rattle.dsm_protocol.specs.declared.head.Head.TheVariants.{Instruction, Locking, Looking}
use Rattle.dsm_protocol.specs.Own.{Own, Who, setting_of, mapping}
use Rattle.dsm_protocol.specs.Jobs.{Job, Make, Begin, Ended, call}
use Rattle.dsm_protocol.specs.Steps.{next_instruction, address_item, is_last, stop_job, heed_job, unready_job, tried_job, lock_job, looked_job, look_job, fault_job, allows, page_of, access_job, load_job, store_job, meet_job, action_job, head_job, starved_job}
use Rattle.dsm_protocol.specs.Stages.{Round, Idle, Waiting, Signalling, Arrived, Finished, Stopping, Access, Work, Off, Gone}
use Rattle.dsm_protocol.specs.Rows.{Allowed, loads, stores, stops, accesses, waits, tells, finished, ends, forsaken, despairs, appends_load, appends_store, signals, admits, arrives, dismisses, quits, gives, goes, moves, passes, counts}
use Rattle.dsm_protocol.specs.Standing.{at_head, is_halt, IsAside, IsOpen, Works, Makes, Marks, Asks, Slips, Asides, Begins, Ends, Halts}
use Rattle.dsm_protocol.proofs.Placed.{IsPlaced}
use Rattle.dsm_protocol.proofs.Inside.{page_in}
use Rattle.dsm_protocol.proofs.Faulting.{fault_typed}
use Rattle.dsm_protocol.proofs.Releasing.{release_typed}
use Rattle.dsm_protocol.proofs.Acquiring.{acquire_typed, closing_typed}

-- within its page, a word of the memory has a place in a frame
word_in : (pages words w : ℕ) → w < pages * words → w % words < words
word_in pages words w inside = mod-lt w (some words inside)
  where
    some : (words : ℕ) → w < pages * words → 0 < words
    some zero h = absurd (omega (arith, h))
    some (suc k) h = omega arith

module _ (u : Who) (at : IsPlaced u) where
  -- from there the job is done, whatever the processor holds
  abbrev From : Work → Job → Type 0
  From w j = (o : Own) → Works u None w o j

  aside : {r : Round} {a : Act} {k : ℕ → Job} (o : Own) → IsOpen r → IsAside a → ((x : ℕ) → From (Off r) (k x)) → Works u None (Off r) o (Make a k)
  aside o may is k = Asides refl may is (λ x. k x o)

  -- the instruction is done
  next_typed : From (Off Finished) next_instruction
  next_typed o = Marks (moves refl) (Begins refl)

  passed_by : From (Off Waiting) next_instruction
  passed_by o = Slips finished (next_typed o)

  ended : (e : Ending) → is_halt e ≡ false → From (Off Finished) (Ended e)
  ended e other o = Slips ends (Ends refl other)

  -- it tells all others to stop
  stopping : (e : Ending) → is_halt e ≡ false → From (Off Stopping) (stop_job u e)
  stopping e other o = Makes {next = λ _. Gone} tt (λ x. stops) (λ x. Ends refl other)

  stop_typed : (e : Ending) → is_halt e ≡ false → From (Off Waiting) (stop_job u e)
  stop_typed e other o = Slips tells (stopping e other o)

  -- it looks at an object there, at which it may be stopped, or look for the last time
  abbrev IsLooking : Round → Type 0
  IsLooking Waiting = Unit {0}
  IsLooking Arrived = Unit {0}
  IsLooking r = ⊥

  looking_open : (r : Round) → IsLooking r → IsOpen r
  looking_open Waiting at_object = tt
  looking_open Arrived at_object = tt
  looking_open r at_object = absurd at_object

  stopped_typed : (r : Round) → IsLooking r → (e : Ending) → is_halt e ≡ false → From (Off r) (Ended e)
  stopped_typed Waiting at_object e other o = Slips finished (ended e other o)
  stopped_typed Arrived at_object e other o = Slips forsaken (Ends refl other)
  stopped_typed r at_object e other o = absurd at_object

  last_typed : (r : Round) → IsLooking r → From (Off r) (stop_job u Looked)
  last_typed Waiting at_object o = stop_typed Looked refl o
  last_typed Arrived at_object o = Slips despairs (stopping Looked refl o)
  last_typed r at_object o = absurd at_object

  heed_typed : (again : Head) (x : ℕ) → IsLooking (at_head again) → From (Off (at_head again)) (heed_job again x)
  heed_typed again x at_object o = go (x == 0)
    where
      go : (b : Bool) → Works u None (Off (at_head again)) o (if b then Begin again else Ended (Stopped ((x - 1) % 2 ^ 32)))
      go true = Begins refl
      go false = stopped_typed (at_head again) at_object _ refl o

  unready_typed : (again : Head) → IsLooking (at_head again) → From (Off (at_head again)) (unready_job u again)
  unready_typed again at_object o = Marks (counts refl) (Asks (λ p. go p (is_last u.limits.looks p.counts.unready)))
    where
      go : (p : Own) (b : Bool) → Works u None (Off (at_head again)) p (if b then stop_job u Looked else Make (Get Stop) (heed_job again))
      go p true = last_typed (at_head again) at_object p
      go p false = aside p (looking_open (at_head again) at_object) tt (λ x. heed_typed again x at_object)

  tried_typed : (l : ℕ) (got : Got) → From (Off Waiting) (tried_job u l got)
  tried_typed l (Ready c) o = Marks (admits refl refl) (Marks (passes refl) (acquire_typed u at _ next_typed))
  tried_typed l Unready o = unready_typed (Locking l) tt o

  lock_typed : (l : ℕ) → From (Off Waiting) (lock_job u l)
  lock_typed l o = aside o tt tt (λ x. go x (x % 2 == 0))
    where
      go : (x : ℕ) (b : Bool) → From (Off Waiting) (call (if b then take_script l x else End Unready) (tried_job u l))
      go x true p = aside p tt tt (λ y. tried_typed l (if y == x then Ready (x / 2) else Unready))
      go x false p = tried_typed l Unready p

  -- where the word of an object is looked at
  abbrev Looks : Counter → ℕ → Work
  Looks of need = Off (at_head (Looking of need))

  looked_typed : (of : Counter) (need : ℕ) (got : Got) → From (Looks of need) (looked_job u of need got)
  looked_typed (Barrier b) need (Ready c) o = Marks (admits refl refl) (Marks (passes refl) (acquire_typed u at _ next_typed))
  looked_typed (Flag f) need (Ready c) o = Marks (admits refl refl) (Marks (passes refl) (acquire_typed u at _ next_typed))
  looked_typed Close need (Ready c) o = Marks (dismisses refl) (Marks (quits refl) (closing_typed u at _ (λ p. Halts refl)))
  looked_typed (Barrier b) need Unready o = unready_typed (Looking (Barrier b) need) tt o
  looked_typed (Flag f) need Unready o = unready_typed (Looking (Flag f) need) tt o
  looked_typed Close need Unready o = unready_typed (Looking Close need) tt o

  look_typed : (of : Counter) (need : ℕ) → From (Looks of need) (look_job u of need)
  look_typed (Barrier b) need o = aside o tt tt (λ x. looked_typed (Barrier b) need (if nat_le need x then Ready (count_of (Barrier b) need x) else Unready))
  look_typed (Flag f) need o = aside o tt tt (λ x. looked_typed (Flag f) need (if nat_le need x then Ready (count_of (Flag f) need x) else Unready))
  look_typed Close need o = aside o tt tt (λ x. looked_typed Close need (if nat_le need x then Ready (count_of Close need x) else Unready))

  -- behind a release, which began at time t0, it signals
  meet_typed : (t0 : ℕ) (of : Counter) → From (Off (Signalling t0)) (meet_job u of)
  meet_typed t0 (Barrier b) o = aside o tt tt (λ x p. Marks (signals refl refl) (Begins refl))
  meet_typed t0 (Flag f) o = aside o tt tt (λ x p. Marks (signals refl refl) (Begins refl))
  meet_typed t0 Close o = aside o tt tt (λ x p. Marks (arrives refl) (Begins refl))

  -- a load or a store, with the fault before it
  access_typed : (o : Own) (write : Bool) (w : ℕ) (j : Job) → page_of u w < u.lay.pages
      → ((faulted : Bool) (p : Own) → Allowed u p.maps p.dirty write w → Works u None (Off (Access faulted write w)) p j)
      → Works u None (Off Idle) o (access_job u o write w j)
  access_typed o write w j inside k = Slips accesses (go (allows write (mapping o (page_of u w))) refl)
    where
      go : (b : Bool) → allows write (mapping o (page_of u w)) ≡ b → Works u None (Off (Access false write w)) o (if b then j else fault_job u write (page_of u w) j)
      go true met = k false o (λ _. met)
      go false met = fault_typed u at write w inside o met (k true)

  -- the word of an address is one of its node's frames
  address_in : (w : ℕ) → w < u.lay.pages * u.lay.words → IsWithin u.lay (address_item u w)
  address_in w inside = (at.node_in, page_in u.lay.pages u.lay.words w inside, word_in u.lay.pages u.lay.words w inside)

  action_typed : (o : Own) (a : Action) → IsInside (u.lay.pages * u.lay.words) a → Works u None (Off Idle) o (action_job u o a)
  action_typed o (Set d v) inside = Slips waits (aside o tt tt (λ x p. Slips finished (Marks (gives refl) (Begins refl))))
  action_typed o (Jump to) inside = Slips waits (aside o tt tt (λ x p. Slips finished (Marks (goes refl) (Begins refl))))
  action_typed o (LoadWord d w) inside =
      access_typed o false w (load_job u d w) (page_in u.lay.pages u.lay.words w inside) (λ faulted p met. Makes (address_in w inside) (λ x. loads met) (λ x. Marks (appends_load refl) (Marks (gives refl) (Begins refl))))
  action_typed o (StoreWord w v) inside =
      access_typed o true w (store_job u w v) (page_in u.lay.pages u.lay.words w inside) (λ faulted p met. Makes (address_in w inside) (λ x. stores met) (λ x. Marks (appends_store refl) (next_typed _)))
  action_typed o (Print v) inside = Slips waits (aside o tt tt (λ x p. Marks (counts refl) (passed_by _)))
  action_typed o (TakeLock l) inside = Slips waits (lock_typed l o)
  action_typed o (GiveLock l k) inside = release_typed u at o (λ t0 p. aside p tt tt (λ x q. Marks (signals refl refl) (passed_by _)))
  action_typed o (Meet b) inside = release_typed u at o (λ t0. meet_typed t0 (Barrier b))
  action_typed o (RaiseFlag f) inside = release_typed u at o (λ t0 p. aside p tt tt (λ x q. Marks (signals refl refl) (passed_by _)))
  action_typed o (WaitFlag f need) inside = Slips waits (look_typed (Flag f) need o)
  action_typed o (Trap kind) inside = Slips waits (stop_typed (Trapped o.reader.place kind) refl o)
  action_typed o Spend inside = Slips waits (stop_typed Spent refl o)
  action_typed o Arrive inside = release_typed u at o (λ t0. meet_typed t0 Close)

  pub head_typed : (code : List Instr) (h : Head) → From (Off (at_head h)) (head_job u code h)
  head_typed code Instruction o = Asks (λ p. action_typed p (next_action code (setting_of u) p.reader) (IsInside-next_action code (setting_of u) p.reader))
  head_typed code (Locking l) o = lock_typed l o
  head_typed code (Looking of need) o = look_typed of need o

  -- where memory is wanting
  pub starved_typed : From (Off Stopping) (starved_job u)
  starved_typed o = stopping NoMemory refl o
