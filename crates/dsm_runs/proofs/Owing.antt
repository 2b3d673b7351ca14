-- Each event appends the entry that its operation owes, and no other.
use Rattle.std.proofs.Common.{◌≡◌, ◌≢◌, ℕ, zero, suc, ◌+◌, ◌-◌, ◌*◌, ◌/◌, ◌%◌, ◌^◌, ◌<◌, ◌≤◌, ◌⊎◌, ◌==◌, Bool, true, false, List, [], ◌∷◌, ◌++◌, Option, Some, None, length, refl, subst, inl, inr, arith, if◌then◌else◌, length-append}
use Rattle.std.specs.Prelude.{slice_get, nat_lt, nat_le, Ok, Err}
use Rattle.std.proofs.Math.Nat.{div-lt_iff_lt-mul, mod-lt}
use Rattle.std.proofs.lemmas.Option.{get_or_from_slice_get, slice_get_within}
use Rattle.std.proofs.lemmas.Bool.{eqb-true, eqb-false, ltb-true, leb-true}
use Rattle.dsm_entry.specs.declared.entry.Obj.{Obj}
use Rattle.dsm_entry.specs.declared.entry.Obj.TheVariants.{Lock as LockOf, Barrier as BarrierOf, Flag as FlagOf, Close as CloseOf}
use Rattle.dsm_entry.specs.declared.entry.Entry.{Entry}
use Rattle.dsm_entry.specs.declared.entry.Entry.TheVariants.{Load, Store, Signal, Pass, Out}
use Rattle.dsm_isa.specs.declared.instr.Instr.{Instr}
use Rattle.dsm_isa.specs.declared.instr.Instr.TheVariants.{Div, Rem, Ld, St, Lock, Unlock, Bar, Set as SetFlag, Wait, Waitr}
use Rattle.dsm_isa.specs.ProgramText.{Sizes}
use Rattle.dsm_isa.specs.Rules.{ObjectInside, ObjectsInside}
use Rattle.dsm_local.specs.declared.action.Action.{Action}
use Rattle.dsm_local.specs.declared.action.Action.TheVariants.{Set, Jump, LoadWord, StoreWord, Print, TakeLock, GiveLock, Meet, RaiseFlag, WaitFlag, Trap, Spend, Arrive}
use Rattle.dsm_local.specs.declared.end.End.{End as Ending}
use Rattle.dsm_local.specs.declared.end.End.TheVariants.{Halted, Trapped, Spent, Looked, Stopped}
use Rattle.dsm_local.specs.Actions.{value, address, load, store, give_back, open_pass, action_of}
use Rattle.dsm_local.specs.Readers.{next_action}
use Rattle.dsm_words.specs.declared.item.Item.{Item}
use Rattle.dsm_words.specs.declared.item.Item.TheVariants.{Stop, Frame, Twin, Twined, Map, Dir, Update, Flush, Notice, Clock, Global, Own as OwnWord, Nle, Home, Lock as LockWord, Barrier as BarrierWord, Flag as FlagWord, Close as CloseWord}
use Rattle.dsm_words.specs.Place.{Lay, IsWithin, processors}
use Rattle.dsm_words.specs.Script.{Act, Get, Put, Swap, Change, Add, Or, End, item_of}
use Rattle.dsm_sync.specs.declared.counter.Counter.{Counter}
use Rattle.dsm_sync.specs.declared.counter.Counter.TheVariants.{Barrier, Flag, Close}
use Rattle.dsm_sync.specs.declared.got.Got.TheVariants.{Ready, Unready}
use Rattle.dsm_sync.specs.Counters.{counter_item}
use Rattle.dsm_sync.specs.Counting.{count_of}
use Rattle.dsm_sync.specs.Locks.{take_script}
use Rattle.dsm_protocol.specs.declared.head.Head.{Head}
use Rattle.dsm_protocol.specs.declared.head.Head.TheVariants.{Instruction, Locking, Looking}
use Rattle.dsm_protocol.specs.Own.{Own, Who, Read_faults, Write_faults, Overwrites, Merges, Twins, Flushes, Early, Notices as Notices_tally, Unmaps, Enters, Breaks, Unready as Unready_looks, setting_of, mapping, counted}
use Rattle.dsm_protocol.specs.Jobs.{Note, Give, Go, Move, Append, Map_own, Soil, Clean, Join, Count, Happen, Passed, Acquired, Sent, Told, Began, Fetched, Job, Make, Again, Mark, Ask, Begin, Ended, own_after, call}
use Rattle.dsm_protocol.specs.Steps.{address_item, next_instruction, release_job, acquire_job, closing_job, fault_job, allows, page_of, load_job, store_job, free_job, meet_job, raise_job, is_last, heed_job, stop_job, unready_job, tried_job, lock_job, unlock_job, looked_job, look_job, need_of, arrive_job, set_job, action_job, head_job}
use Rattle.dsm_protocol.specs.declared.counts.Counts.{Counts}
use Rattle.dsm_protocol.specs.Rights.{Rights, Legal, IsInner, May, Plain, Maps, Gives, Works, Over, Makes, Takes, Marks_map, Marks, Asks}
use Rattle.dsm_protocol.proofs.Keeping.{with_others}
use Rattle.dsm_protocol.proofs.Placed.{placed as is_placed}
use Rattle.dsm_protocol.proofs.Righting.{fault_works, release_works, acquire_works, closing_works}
use Rattle.dsm_protocol.proofs.Inside.{page_in}
use Rattle.dsm_clock.specs.declared.turns.TurnId.{TurnId}
use Rattle.dsm_clock.specs.declared.turns.TurnId.TheVariants.{Page, Notices}
use Rattle.dsm_clock.specs.Turns.{turn_item}
use Rattle.dsm_flat.proofs.History.{get_push_new}
use Rattle.dsm_runs.proofs.Counting.{one_more, many, many-push}

-- the word of an object
abbrev pub object_item : Obj → Item
object_item (LockOf l) = LockWord l
object_item (BarrierOf b) = BarrierWord b
object_item (FlagOf f) = FlagWord f
object_item CloseOf = CloseWord

-- the item is no object's word
abbrev pub IsApart : Item → Type 0
IsApart (LockWord l) = ⊥
IsApart (BarrierWord b) = ⊥
IsApart (FlagWord f) = ⊥
IsApart CloseWord = ⊥
IsApart _ = Unit {0}

-- the item is no other processor's mapping
abbrev pub SparesOthers : Who → Item → Type 0
SparesOthers u (Map q g) = q ≡ u.p
SparesOthers u _ = Unit {0}

-- it is a word of the layout, no object's, and no other processor's mapping
abbrev pub IsOther : Who → Item → Type 0
IsOther u it = IsWithin u.lay it × IsApart it × SparesOthers u it

-- the operation with this answer leaves the words of all objects and the mappings of all other processors alone
abbrev pub Quiet : Who → Act → ℕ → Type 0
Quiet u (Get it) x = Unit {0}
Quiet u (Change it old new) x = IsOther u it ⊎ (x ≢ old)
Quiet u a x = IsOther u (item_of a)

-- the last entry is an arrival at o, and need the number of arrivals that its round needs
pub record Arrived (P : ℕ) (t : List Entry) (o : Obj) (need : ℕ) : Type 0 where
  pub i : ℕ
  pub a : ℕ
  pub last : length t ≡ i + 1
  pub arrival : slice_get t i ≡ Some (Signal o a)
  pub need_is : need ≡ (a / P + 1) * P % 2 ^ 64

-- an object whose word counts its signals
abbrev pub IsCounter : Obj → Type 0
IsCounter (LockOf l) = ⊥
IsCounter o = Unit {0}

-- it has made fewer signals than it may do instructions
abbrev pub MaySignal : Who → Own → Type 0
MaySignal u o = many o.trace < u.limits.turns

-- the entry is what the operation with its answer owes; a load, a store or an output stands with any operation that leaves the objects alone
abbrev pub Pays : Who → Own → Act → ℕ → Entry → Type 0
Pays u o a x (Load w v) = Quiet u a x
Pays u o a x (Store w v) = Quiet u a x
Pays u o a x (Out v) = Quiet u a x
Pays u o (Get it) x (Pass (FlagOf f) c) = (it ≡ FlagWord f) × (f < u.lay.flags) × (c ≤ x)
Pays u o (Get it) x (Pass (BarrierOf b) c) = (it ≡ BarrierWord b) × (b < u.lay.barriers) × (c ≤ x) × Arrived (processors u.lay) o.trace (BarrierOf b) c
Pays u o (Get it) x (Pass CloseOf c) = (it ≡ CloseWord) × (c ≤ x) × Arrived (processors u.lay) o.trace CloseOf c
Pays u o (Change it v new) x (Pass (LockOf l) c) = (it ≡ LockWord l) × (l < u.lay.locks) × (x ≡ v) × (v ≡ 2 * c) × (new ≡ (v + 1) % 2 ^ 64)
Pays u o (Put it v) x (Signal (LockOf l) k) = (it ≡ LockWord l) × (l < u.lay.locks) × (v ≡ (2 * k + 2) % 2 ^ 64) × (open_pass o.reader l ≡ Some k) × MaySignal u o
Pays u o (Add it n) x (Signal r j) = (it ≡ object_item r) × IsWithin u.lay (object_item r) × (n ≡ 1) × (j ≡ x) × IsCounter r × MaySignal u o
Pays u o a x e = ⊥

-- no operation is open, or one that needs no entry
abbrev pub Rests : Who → Option (Act × ℕ) → Type 0
Rests u None = Unit {0}
Rests u (Some d) = Quiet u d.0 d.1

-- the entry is what the open operation owes
abbrev pub Owes : Who → Own → Option (Act × ℕ) → Entry → Type 0
Owes u o None e = ⊥
Owes u o (Some d) e = Pays u o d.0 d.1 e

-- what holds at a head: the object is there, a barrier was arrived at, and there were no more signals than instructions done
abbrev pub IsReady : Who → Own → Head → Type 0
IsReady u o Instruction = many o.trace ≤ o.reader.done
IsReady u o (Locking l) = (l < u.lay.locks) × (many o.trace ≤ o.reader.done)
IsReady u o (Looking (Flag f) need) = (f < u.lay.flags) × (many o.trace ≤ o.reader.done)
IsReady u o (Looking (Barrier b) need) = (b < u.lay.barriers) × (many o.trace ≤ o.reader.done + 1) × Arrived (processors u.lay) o.trace (BarrierOf b) need
IsReady u o (Looking Close need) = Arrived (processors u.lay) o.trace CloseOf need

-- a job keeps to this; d is the operation of this event with its answer, until its entry is appended
abbrev pub Syncs : Who → Own → Option (Act × ℕ) → Job → Type 0
Syncs u o d (Make a k) = Rests u d × ((x : ℕ) → Syncs u o (Some (a, x)) (k x))
Syncs u o d (Again a wanted j) = Rests u d × ((x : ℕ) → Quiet u a x) × Syncs u o (Some (a, wanted)) j
Syncs u o d (Mark (Append e) j) = Owes u o d e × Syncs u (own_after o (Append e)) None j
Syncs u o d (Mark (Give r v) j) = Syncs u (own_after o (Give r v)) d j
Syncs u o d (Mark (Go to) j) = Syncs u (own_after o (Go to)) d j
Syncs u o d (Mark Move j) = Syncs u (own_after o Move) d j
Syncs u o d (Mark (Map_own page mode) j) = Syncs u (own_after o (Map_own page mode)) d j
Syncs u o d (Mark (Soil page) j) = Syncs u (own_after o (Soil page)) d j
Syncs u o d (Mark (Clean page) j) = Syncs u (own_after o (Clean page)) d j
Syncs u o d (Mark (Join pages) j) = Syncs u (own_after o (Join pages)) d j
Syncs u o d (Mark (Count tally) j) = Syncs u (own_after o (Count tally)) d j
Syncs u o d (Mark (Happen moment) j) = Syncs u (own_after o (Happen moment)) d j
Syncs u o d (Ask f) = Syncs u o d (f o)
Syncs u o d (Begin h) = Rests u d × IsReady u o h
Syncs u o d (Ended e) = Rests u d

-- the object of an action is there, a store is to a word of the memory, and the lock that is given back has this open pass
abbrev pub Fits : Who → Own → Action → Type 0
Fits u o (LoadWord d w) = w < u.lay.pages * u.lay.words
Fits u o (StoreWord w v) = w < u.lay.pages * u.lay.words
Fits u o (TakeLock l) = l < u.lay.locks
Fits u o (GiveLock l k) = (l < u.lay.locks) × (open_pass o.reader l ≡ Some k)
Fits u o (Meet b) = b < u.lay.barriers
Fits u o (RaiseFlag f) = f < u.lay.flags
Fits u o (WaitFlag f need) = f < u.lay.flags
Fits u o _ = Unit {0}

-- the sizes of a program with this layout
abbrev pub shape_in : Lay → Sizes
shape_in l = record { pages = l.pages; words = l.words; locks = l.locks; barriers = l.barriers; flags = l.flags }

-- the signals behind an entry
many_below : (t : List Entry) (e : Entry) (n : ℕ) → one_more e (many t) ≤ n → many (t ++ e ∷ []) ≤ n
many_below t e n h = omega (arith, many-push t e, h)

-- what protocol work changes is no object's word, and no other's mapping
rights_other : (u : Who) (t : Option TurnId) (a : Act) → Rights u t a → IsApart (item_of a) × SparesOthers u (item_of a)
rights_other u t (Put (Frame n g i) v) r = (tt, tt)
rights_other u t (Put (Twin n g i) v) r = (tt, tt)
rights_other u t (Put (Twined n g) v) r = (tt, tt)
rights_other u t (Put (Dir n g) v) r = (tt, tt)
rights_other u t (Put (Update n g) v) r = (tt, tt)
rights_other u t (Put (Flush n g) v) r = (tt, tt)
rights_other u t (Put (Notice n g) v) r = (tt, tt)
rights_other u t (Swap (Global n m k) v) r = (tt, tt)
rights_other u t (Swap (OwnWord p k) v) r = (tt, tt)
rights_other u t (Swap (Nle p k) v) r = (tt, tt)
rights_other u t (Change (Home g) old v) r = (tt, tt)
rights_other u t (Add (Clock n) k) r = (tt, tt)
rights_other u t (Or (Global n m k) bits) r = (tt, tt)
rights_other u t (Or (OwnWord p k) bits) r = (tt, tt)
rights_other u t (Or (Nle p k) bits) r = (tt, tt)
rights_other u t a r = absurd r

quiet_legal : (u : Who) (t : Option TurnId) (a : Act) (x : ℕ) → Legal u t a → Quiet u a x
quiet_legal u t (Get it) x legal = tt
quiet_legal u t (Change it old new) x legal = let r = rights_other u t (Change it old new) legal.1 in inl (legal.0, r.0, r.1)
quiet_legal u t (Put it v) x legal = let r = rights_other u t (Put it v) legal.1 in (legal.0, r.0, r.1)
quiet_legal u t (Swap it v) x legal = let r = rights_other u t (Swap it v) legal.1 in (legal.0, r.0, r.1)
quiet_legal u t (Add it n) x legal = let r = rights_other u t (Add it n) legal.1 in (legal.0, r.0, r.1)
quiet_legal u t (Or it bits) x legal = let r = rights_other u t (Or it bits) legal.1 in (legal.0, r.0, r.1)

turn_other : (u : Who) (turn : TurnId) → IsWithin u.lay (turn_item turn) → IsOther u (turn_item turn)
turn_other u (Page n g) within = (within, tt, tt)
turn_other u (Notices n) within = (within, tt, tt)

quiet_may : (u : Who) {t t' : Option TurnId} {w : Option (ℕ × ℕ)} {a : Act} → u.p < processors u.lay → May u t a t' w → (x : ℕ) → Quiet u a x
quiet_may u here (Plain legal) x = quiet_legal u _ _ x legal
quiet_may u here (Maps page) x = ((here, page), tt, refl)
quiet_may u here (Gives turn within) x = turn_other u turn within

-- protocol work owes nothing
abbrev Later : Who → Own → Job → Type 0
Later u o j = (d : Option (Act × ℕ)) → Rests u d → (maps : List ℕ) (dirty : List Bool) (counts : Counts) → Syncs u (with_others o maps dirty counts) d j

marks_sync : (u : Who) (n : Note) (j : Job) → IsInner n → (o : Own) (d : Option (Act × ℕ)) → ((maps : List ℕ) (dirty : List Bool) (counts : Counts) → Syncs u (with_others o maps dirty counts) d j) → Syncs u o d (Mark n j)
marks_sync u (Soil g) j inner o d k = k o.maps _ o.counts
marks_sync u (Clean g) j inner o d k = k o.maps _ o.counts
marks_sync u (Join set) j inner o d k = k o.maps _ o.counts
marks_sync u (Count Read_faults) j inner o d k = k o.maps o.dirty _
marks_sync u (Count Write_faults) j inner o d k = k o.maps o.dirty _
marks_sync u (Count Overwrites) j inner o d k = k o.maps o.dirty _
marks_sync u (Count Merges) j inner o d k = k o.maps o.dirty _
marks_sync u (Count Twins) j inner o d k = k o.maps o.dirty _
marks_sync u (Count Flushes) j inner o d k = k o.maps o.dirty _
marks_sync u (Count Early) j inner o d k = k o.maps o.dirty _
marks_sync u (Count Notices_tally) j inner o d k = k o.maps o.dirty _
marks_sync u (Count Unmaps) j inner o d k = k o.maps o.dirty _
marks_sync u (Count Enters) j inner o d k = k o.maps o.dirty _
marks_sync u (Count Breaks) j inner o d k = k o.maps o.dirty _
marks_sync u (Count Unready_looks) j inner o d k = absurd inner
marks_sync u (Happen (Passed p)) j inner o d k = absurd inner
marks_sync u (Happen (Acquired p)) j inner o d k = k o.maps o.dirty o.counts
marks_sync u (Happen (Sent n g)) j inner o d k = k o.maps o.dirty o.counts
marks_sync u (Happen (Told n g)) j inner o d k = k o.maps o.dirty o.counts
marks_sync u (Happen (Began n g)) j inner o d k = k o.maps o.dirty o.counts
marks_sync u (Happen (Fetched n g)) j inner o d k = k o.maps o.dirty o.counts
marks_sync u (Give r v) j inner o d k = absurd inner
marks_sync u (Go to) j inner o d k = absurd inner
marks_sync u Move j inner o d k = absurd inner
marks_sync u (Append e) j inner o d k = absurd inner
marks_sync u (Map_own g m) j inner o d k = absurd inner

works_sync : (u : Who) {last : Job} {t : Option TurnId} {w : Option (ℕ × ℕ)} {j : Job} → u.p < processors u.lay → Works u last t w j → (o : Own) (d : Option (Act × ℕ)) → Rests u d → Later u o last → Syncs u o d j
works_sync u here Over o d rests k = k d rests o.maps o.dirty o.counts
works_sync u here (Makes may f) o d rests k = (rests, λ x. works_sync u here (f x) o (Some (_, x)) (quiet_may u here may x) k)
works_sync u here (Takes turn within f) o d rests k = (rests, λ x. inl (turn_other u turn within), works_sync u here f o (Some (_, 0)) (inl (turn_other u turn within)) k)
works_sync u here (Marks_map f) o d rests k = works_sync u here f (own_after o (Map_own _ _)) d rests k
works_sync u here (Marks n j inner f) o d rests k = marks_sync u n j inner o d (λ maps dirty counts. works_sync u here f (with_others o maps dirty counts) d rests k)
works_sync u here (Asks f) o d rests k = works_sync u here (f o) o d rests k

module _ (u : Who) where
  pub syncs_stop : (o : Own) (d : Option (Act × ℕ)) (e : Ending) → Rests u d → Syncs u o d (stop_job u e)
  syncs_stop o d e rests = (rests, λ x. inl (tt, tt, tt))

-- the sentences of what a processor does
module _ (u : Who) (p_in : u.p < processors u.lay) where
  release_syncs : (o : Own) (d : Option (Act × ℕ)) (j : Job) → Rests u d → Later u o j → Syncs u o d (release_job u j)
  release_syncs o d j rests k = works_sync u p_in (release_works u j (is_placed u p_in)) o d rests k

  acquire_syncs : (o : Own) (d : Option (Act × ℕ)) (j : Job) → Rests u d → Later u o j → Syncs u o d (acquire_job u j)
  acquire_syncs o d j rests k = works_sync u p_in (acquire_works u j (is_placed u p_in)) o d rests k

  closing_syncs : (o : Own) (d : Option (Act × ℕ)) (j : Job) → Rests u d → Later u o j → Syncs u o d (closing_job u j)
  closing_syncs o d j rests k = works_sync u p_in (closing_works u j (is_placed u p_in)) o d rests k

  access_syncs : (o : Own) (d : Option (Act × ℕ)) (write : Bool) (w : ℕ) (j : Job) (b : Bool) → w < u.lay.pages * u.lay.words → Rests u d → Later u o j → Syncs u o d (if b then j else fault_job u write (page_of u w) j)
  access_syncs o d write w j true inside rests k = k d rests o.maps o.dirty o.counts
  access_syncs o d write w j false inside rests k = works_sync u p_in (fault_works u j (is_placed u p_in) write w (page_in u.lay.pages u.lay.words w inside)) o d rests k

  syncs_heed : (o : Own) (again : Head) (x : ℕ) → IsReady u o again → Syncs u o (Some (Get Stop, x)) (heed_job again x)
  syncs_heed o again x ready = go (x == 0)
    where
      go : (b : Bool) → Syncs u o (Some (Get Stop, x)) (if b then Begin again else Ended (Stopped ((x - 1) % 2 ^ 32)))
      go true = (tt, ready)
      go false = tt

  -- an unready look is no matter to what holds at a head
  still_ready : (o : Own) (h : Head) → IsReady u o h → IsReady u (counted o Unready_looks) h
  still_ready o Instruction ready = ready
  still_ready o (Locking l) ready = ready
  still_ready o (Looking (Flag f) need) ready = ready
  still_ready o (Looking (Barrier b) need) ready = ready
  still_ready o (Looking Close need) ready = ready

  syncs_unready : (o : Own) (d : Option (Act × ℕ)) (again : Head) → Rests u d → IsReady u o again → Syncs u o d (unready_job u again)
  syncs_unready o d again rests ready = go (is_last u.limits.looks (counted o Unready_looks).counts.unready)
    where
      go : (b : Bool) → Syncs u (counted o Unready_looks) d (if b then stop_job u Looked else Make (Get Stop) (heed_job again))
      go true = syncs_stop u (counted o Unready_looks) d Looked rests
      go false = (rests, λ x. syncs_heed (counted o Unready_looks) again x (still_ready o again ready))

  syncs_lock : (o : Own) (l : ℕ) → l < u.lay.locks → many o.trace ≤ o.reader.done → Syncs u o None (lock_job u l)
  syncs_lock o l there few = (tt, λ v. go v (v % 2 == 0) refl)
    where
      tried : (v x : ℕ) (b : Bool) → v ≡ 2 * (v / 2) → (x == v) ≡ b → Syncs u o (Some (Change (LockWord l) v ((v + 1) % 2 ^ 64), x)) (tried_job u l (if b then Ready (v / 2) else Unready))
      tried v x true half is = ((refl, there, eqb-true x v is, half, refl), acquire_syncs (own_after o (Append (Pass (LockOf l) (v / 2)))) None next_instruction tt (λ d rests maps dirty counts. (rests, many_below o.trace (Pass (LockOf l) (v / 2)) (o.reader.done + 1) (omega (arith, few)))))
      tried v x false half is = syncs_unready o (Some (Change (LockWord l) v ((v + 1) % 2 ^ 64), x)) (Locking l) (inr (eqb-false x v is)) (there, few)

      go : (v : ℕ) (b : Bool) → (v % 2 == 0) ≡ b → Syncs u o (Some (Get (LockWord l), v)) (call (if b then take_script l v else End Unready) (tried_job u l))
      go v true is = let even = eqb-true (v % 2) 0 is in (tt, λ x. tried v x (x == v) (omega (arith, even)) refl)
      go v false is = syncs_unready o (Some (Get (LockWord l), v)) (Locking l) tt (there, few)

  syncs_unlock : (o : Own) (l k : ℕ) → l < u.lay.locks → open_pass o.reader l ≡ Some k → many o.trace ≤ o.reader.done → o.reader.done < u.limits.turns → Syncs u o None (unlock_job u l k)
  syncs_unlock o l k there held few may = release_syncs o None (free_job l k) tt (λ d rests maps dirty counts. (rests, λ x. ((refl, there, refl, held, omega (arith, few, may)), (tt, many_below o.trace (Signal (LockOf l) k) (o.reader.done + 1) (omega (arith, few))))))

  -- what a look that is ready owes, and what holds behind it
  syncs_passed : (o : Own) (of : Counter) (need v : ℕ) → need ≤ v → IsReady u o (Looking of need) → Syncs u o (Some (Get (counter_item of), v)) (looked_job u of need (Ready (count_of of need v)))
  syncs_passed o (Barrier b) need v le ready = ((refl, ready.0, le, ready.2), acquire_syncs (own_after o (Append (Pass (BarrierOf b) need))) None next_instruction tt (λ d rests maps dirty counts. (rests, many_below o.trace (Pass (BarrierOf b) need) (o.reader.done + 1) ready.1)))
  syncs_passed o (Flag f) need v le ready = ((refl, ready.0, omega arith), acquire_syncs (own_after o (Append (Pass (FlagOf f) v))) None next_instruction tt (λ d rests maps dirty counts. (rests, many_below o.trace (Pass (FlagOf f) v) (o.reader.done + 1) (omega (arith, ready.1)))))
  syncs_passed o Close need v le ready = ((refl, le, ready), closing_syncs (own_after o (Append (Pass CloseOf need))) None (Ended Halted) tt (λ d rests maps dirty counts. rests))

  syncs_look : (o : Own) (of : Counter) (need : ℕ) → IsReady u o (Looking of need) → Syncs u o None (look_job u of need)
  syncs_look o of need ready = (tt, λ v. go v (nat_le need v) refl)
    where
      go : (v : ℕ) (b : Bool) → nat_le need v ≡ b → Syncs u o (Some (Get (counter_item of), v)) (looked_job u of need (if b then Ready (count_of of need v) else Unready))
      go v true is = syncs_passed o of need v (leb-true need v is) ready
      go v false is = syncs_unready o (Some (Get (counter_item of), v)) (Looking of need) tt ready

  arrived : (o : Own) (r : Obj) (a : ℕ) → Arrived (processors u.lay) (o.trace ++ Signal r a ∷ []) r (need_of u a)
  arrived o r a = record { i = length o.trace; a = a; last = omega (arith, length-append o.trace (Signal r a ∷ [])); arrival = get_push_new o.trace (Signal r a); need_is = refl }

  syncs_meet : (o : Own) (b : ℕ) → b < u.lay.barriers → many o.trace ≤ o.reader.done → o.reader.done < u.limits.turns → Syncs u o None (arrive_job u (Barrier b))
  syncs_meet o b there few may =
      release_syncs o None (meet_job u (Barrier b)) tt (λ d rests maps dirty counts. (rests, λ a. ((refl, there, refl, refl, tt, omega (arith, few, may)), (tt, (there, many_below o.trace (Signal (BarrierOf b) a) (o.reader.done + 1) (omega (arith, few)), arrived o (BarrierOf b) a)))))

  syncs_arrive : (o : Own) → many o.trace ≤ o.reader.done → o.reader.done < u.limits.turns → Syncs u o None (arrive_job u Close)
  syncs_arrive o few may = release_syncs o None (meet_job u Close) tt (λ d rests maps dirty counts. (rests, λ a. ((refl, tt, refl, refl, tt, omega (arith, few, may)), (tt, arrived o CloseOf a))))

  syncs_set : (o : Own) (f : ℕ) → f < u.lay.flags → many o.trace ≤ o.reader.done → o.reader.done < u.limits.turns → Syncs u o None (set_job u f)
  syncs_set o f there few may = release_syncs o None (raise_job f) tt (λ d rests maps dirty counts. (rests, λ j. ((refl, there, refl, refl, tt, omega (arith, few, may)), (tt, many_below o.trace (Signal (FlagOf f) j) (o.reader.done + 1) (omega (arith, few))))))

  -- the store of a word of the memory is no object's
  own_word : (w : ℕ) → u.p < processors u.lay → 0 < u.lay.words → w < u.lay.pages * u.lay.words → IsOther u (address_item u w)
  own_word w placed some inside =
      let procs : 0 < u.lay.procs = some_procs u.lay.procs placed in
      (((div-lt_iff_lt-mul {k = u.lay.procs} {x = u.p} {y = u.lay.nodes} procs).1 placed, (div-lt_iff_lt-mul {k = u.lay.words} {x = w} {y = u.lay.pages} some).1 inside, mod-lt w some), tt, tt)
    where
      some_procs : (procs : ℕ) → u.p < u.lay.nodes * procs → 0 < procs
      some_procs zero h = absurd (omega (arith, h))
      some_procs (suc k) h = omega arith

  -- an action of a processor that may do a further instruction
  syncs_action : (o : Own) (a : Action) → u.p < processors u.lay → 0 < u.lay.words → many o.trace ≤ o.reader.done → o.reader.done < u.limits.turns → Fits u o a → Syncs u o None (action_job u o a)
  syncs_action o (Set d v) placed some few may fits = (tt, λ x. (tt, omega (arith, few)))
  syncs_action o (Jump to) placed some few may fits = (tt, λ x. (tt, omega (arith, few)))
  syncs_action o (LoadWord d w) placed some few may fits = access_syncs o None false w (load_job u d w) (allows false (mapping o (page_of u w))) fits tt (λ e rests maps dirty counts. (rests, λ v. (tt, (tt, many_below o.trace (Load w v) (o.reader.done + 1) (omega (arith, few))))))
  syncs_action o (StoreWord w v) placed some few may fits = access_syncs o None true w (store_job u w v) (allows true (mapping o (page_of u w))) fits tt (λ e rests maps dirty counts. (rests, λ x. (own_word w placed some fits, (tt, many_below o.trace (Store w v) (o.reader.done + 1) (omega (arith, few))))))
  syncs_action o (Print v) placed some few may fits = (tt, λ x. (tt, (tt, many_below o.trace (Out v) (o.reader.done + 1) (omega (arith, few)))))
  syncs_action o (TakeLock l) placed some few may fits = syncs_lock o l fits few
  syncs_action o (GiveLock l k) placed some few may fits = syncs_unlock o l k fits.0 fits.1 few may
  syncs_action o (Meet b) placed some few may fits = syncs_meet o b fits few may
  syncs_action o (RaiseFlag f) placed some few may fits = syncs_set o f fits few may
  syncs_action o (WaitFlag f need) placed some few may fits = syncs_look o (Flag f) need (fits, few)
  syncs_action o (Trap kind) placed some few may fits = syncs_stop u o None (Trapped o.reader.place kind) tt
  syncs_action o Spend placed some few may fits = syncs_stop u o None Spent tt
  syncs_action o Arrive placed some few may fits = syncs_arrive o few may

  -- what the instruction before which a processor stands does fits
  fits_if : (o : Own) (b : Bool) (x y : Action) → Fits u o x → Fits u o y → Fits u o (if b then x else y)
  fits_if o true x y h k = h
  fits_if o false x y h k = k

  fits_load : (o : Own) (d w : ℕ) (test : Bool) → nat_lt w (u.lay.pages * u.lay.words) ≡ test → Fits u o (load d (if test then Ok w else Err w))
  fits_load o d w true is = ltb-true w (u.lay.pages * u.lay.words) is
  fits_load o d w false is = tt

  fits_store : (o : Own) (v w : ℕ) (test : Bool) → nat_lt w (u.lay.pages * u.lay.words) ≡ test → Fits u o (store v (if test then Ok w else Err w))
  fits_store o v w true is = ltb-true w (u.lay.pages * u.lay.words) is
  fits_store o v w false is = tt

  fits_give : (o : Own) (l : ℕ) (k : Option ℕ) → l < u.lay.locks → open_pass o.reader l ≡ k → Fits u o (give_back l k)
  fits_give o l (Some k) there is = (there, is)
  fits_give o l None there is = tt

  fits : (o : Own) (i : Instr) → ObjectInside (shape_in u.lay) i → Fits u o (action_of (setting_of u) o.reader (Some i))
  fits o (Ld d a k) inside = fits_load o d (address o.reader a k) (nat_lt (address o.reader a k) (u.lay.pages * u.lay.words)) refl
  fits o (St v a k) inside = fits_store o (value o.reader v) (address o.reader a k) (nat_lt (address o.reader a k) (u.lay.pages * u.lay.words)) refl
  fits o (Div d a b) inside = fits_if o (value o.reader b == 0) _ _ tt tt
  fits o (Rem d a b) inside = fits_if o (value o.reader b == 0) _ _ tt tt
  fits o (Lock l) inside = inside
  fits o (Unlock l) inside = fits_give o l (open_pass o.reader l) inside refl
  fits o (Bar b) inside = inside
  fits o (SetFlag f) inside = inside
  fits o (Wait f k) inside = inside
  fits o (Waitr f a) inside = inside
  fits o i inside = tt

  -- what comes at a head keeps to this
  module _ (code : List Instr) (some : 0 < u.lay.words) (objects : ObjectsInside (shape_in u.lay) code) where
    syncs_instruction : (o : Own) → many o.trace ≤ o.reader.done → Syncs u o None (action_job u o (next_action code (setting_of u) o.reader))
    syncs_instruction o few = go (nat_lt o.reader.done u.limits.turns) refl
      where
        here : (i : Option Instr) → slice_get code o.reader.place ≡ i → Fits u o (action_of (setting_of u) o.reader i)
        here None at = tt
        here (Some i) at = fits o i (subst (ObjectInside (shape_in u.lay)) (get_or_from_slice_get code o.reader.place i i at) (objects o.reader.place i (slice_get_within code o.reader.place i at)))

        go : (b : Bool) → nat_lt o.reader.done u.limits.turns ≡ b → Syncs u o None (action_job u o (if b then action_of (setting_of u) o.reader (slice_get code o.reader.place) else Spend))
        go true may = syncs_action o (action_of (setting_of u) o.reader (slice_get code o.reader.place)) p_in some few (ltb-true _ _ may) (here (slice_get code o.reader.place) refl)
        go false may = syncs_stop u o None Spent tt

    pub syncs_head : (o : Own) (h : Head) → IsReady u o h → Syncs u o None (head_job u code h)
    syncs_head o Instruction ready = syncs_instruction o ready
    syncs_head o (Locking l) ready = syncs_lock o l ready.0 ready.1
    syncs_head o (Looking of need) ready = syncs_look o of need ready
