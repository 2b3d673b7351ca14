-- What a job does with turns and with its processor's mappings.
use Rattle.std.proofs.Common.{◌≡◌, ℕ, ◌+◌, ◌-◌, ◌*◌, ◌/◌, ◌%◌, ◌^◌, ◌<◌, ◌==◌, Bool, true, false, List, Option, Some, None, refl, sym, ◌∙◌, if◌then◌else◌}
use Rattle.std.specs.Prelude.{nat_le, slice_set}
use Rattle.dsm_isa.specs.declared.instr.Instr.{Instr}
use Rattle.dsm_local.specs.declared.action.Action.{Action}
use Rattle.dsm_local.specs.declared.action.Action.TheVariants.{Set, Jump, LoadWord, StoreWord, Print, TakeLock, GiveLock, Meet, RaiseFlag, WaitFlag, Trap, Spend, Arrive}
use Rattle.dsm_local.specs.declared.end.End.{End as Ending}
use Rattle.dsm_local.specs.declared.end.End.TheVariants.{Halted, Trapped, Spent, Looked, Stopped}
use Rattle.dsm_local.specs.Readers.{next_action, IsInside}
use Rattle.dsm_words.specs.declared.item.Item.{Item}
use Rattle.dsm_words.specs.declared.item.Item.TheVariants.{Stop, Frame, Twin, Twined, Map, Dir, Update, Flush, Notice, Clock, Turn, NoticeTurn, Global, Own as OwnWord, Nle, Home}
use Rattle.dsm_words.specs.Place.{IsWithin}
use Rattle.dsm_words.specs.Script.{Act, Get, Put, Swap, Change, Add, Or, End, item_of}
use Rattle.dsm_clock.specs.declared.turns.TurnId.{TurnId}
use Rattle.dsm_clock.specs.declared.turns.TurnId.TheVariants.{Page, Notices}
use Rattle.dsm_clock.specs.Turns.{turn_item}
use Rattle.dsm_sync.specs.declared.counter.Counter.{Counter}
use Rattle.dsm_sync.specs.declared.counter.Counter.TheVariants.{Barrier, Flag, Close}
use Rattle.dsm_sync.specs.declared.got.Got.{Got}
use Rattle.dsm_sync.specs.declared.got.Got.TheVariants.{Ready, Unready}
use Rattle.dsm_sync.specs.Counting.{count_of}
use Rattle.dsm_sync.specs.Locks.{take_script}
use Rattle.dsm_protocol.specs.declared.head.Head.{Head}
use Rattle.dsm_protocol.specs.declared.head.Head.TheVariants.{Instruction, Locking, Looking}
use Rattle.dsm_protocol.specs.Own.{Own, Who, new_own, setting_of, mapping}
use Rattle.dsm_protocol.specs.Jobs.{Note, Give, Go, Move, Append, Map_own, Soil, Clean, Join, Count, Happen, Job, Make, Again, Mark, Ask, Begin, Ended, own_after, call, turn_back, held_turn}
use Rattle.dsm_protocol.specs.Steps.{next_instruction, is_last, stop_job, heed_job, unready_job, tried_job, lock_job, looked_job, look_job, passed_job, release_job, acquire_job, fault_job, allows, page_of, load_job, store_job, free_job, meet_job, raise_job, action_job, head_job}
use Rattle.dsm_protocol.specs.Processors.{Processor, settled, begun, run_on}
use Rattle.dsm_protocol.specs.Rights.{Rights, Legal, IsInner, May, Plain, Maps, Gives, Works, Over, Makes, Takes, Marks_map, Marks, Asks}
use Rattle.dsm_protocol.proofs.Placed.{IsPlaced}
use Rattle.dsm_protocol.proofs.Righting.{fault_works, release_works, acquire_works, closing_works}
use Rattle.dsm_local.proofs.Inside.{IsInside-next_action}
use Rattle.dsm_protocol.proofs.Inside.{page_in}

-- the word is of no turn and of no mapping
abbrev pub IsFree : Item → Type 0
IsFree (Turn n g) = ⊥
IsFree (NoticeTurn n) = ⊥
IsFree (Map p g) = ⊥
IsFree _ = Unit {0}

abbrev pub Frees : Act → Type 0
Frees (Get it) = Unit {0}
Frees a = IsFree (item_of a)

-- an operation under turn t leaves it with turn t', and with a change of its mapping that it owes
pub data Step (u : Who) : Option TurnId → Act → Option TurnId → Option (ℕ × ℕ) → Type 0 where
  Apart : {t : Option TurnId} {a : Act} → Frees a → Step u t a t None
  Own_map : {t : Option TurnId} (g m : ℕ) → g < u.lay.pages → Step u t (Put (Map u.p g) m) t (Some (g, m))
  Gives_back : (turn : TurnId) → IsWithin u.lay (turn_item turn) → Step u (Some turn) (Put (turn_item turn) 0) None None

-- a job keeps to this, with turn t held and the change w of its mapping owed
abbrev pub Keeps : Who → Option TurnId → Option (ℕ × ℕ) → Job → Type 0
Keeps u t w (Make a k) = (w ≡ None) × (t' : Option TurnId) × (w' : Option (ℕ × ℕ)) × Step u t a t' w' × ((x : ℕ) → Keeps u t' w' (k x))
Keeps u t w (Again a v j) = (turn : TurnId) × (w ≡ None) × (t ≡ None) × IsWithin u.lay (turn_item turn) × (v ≡ 0) × (a ≡ Change (turn_item turn) 0 (u.p + 1)) × Keeps u (Some turn) None j
Keeps u t w (Mark (Map_own g m) j) = (w ≡ Some (g, m)) × Keeps u t None j
Keeps u t w (Mark n j) = Keeps u t w j
Keeps u t w (Ask f) = (o : Own) → Keeps u t w (f o)
Keeps u t w (Begin h) = (t ≡ None) × (w ≡ None)
Keeps u t w (Ended e) = (t ≡ None) × (w ≡ None)

-- protocol work does
rights_free : (u : Who) (t : Option TurnId) (a : Act) → Rights u t a → Frees a
rights_free u t (Put (Frame n g i) v) r = tt
rights_free u t (Put (Twin n g i) v) r = tt
rights_free u t (Put (Twined n g) v) r = tt
rights_free u t (Put (Dir n g) v) r = tt
rights_free u t (Put (Update n g) v) r = tt
rights_free u t (Put (Flush n g) v) r = tt
rights_free u t (Put (Notice n g) v) r = tt
rights_free u t (Swap (Global n m k) v) r = tt
rights_free u t (Swap (OwnWord p k) v) r = tt
rights_free u t (Swap (Nle p k) v) r = tt
rights_free u t (Change (Home g) old v) r = tt
rights_free u t (Add (Clock n) k) r = tt
rights_free u t (Or (Global n m k) bits) r = tt
rights_free u t (Or (OwnWord p k) bits) r = tt
rights_free u t (Or (Nle p k) bits) r = tt
rights_free u t a r = absurd r

legal_free : (u : Who) (t : Option TurnId) (a : Act) → Legal u t a → Frees a
legal_free u t (Get it) l = tt
legal_free u t (Put it v) l = rights_free u t (Put it v) l.1
legal_free u t (Swap it v) l = rights_free u t (Swap it v) l.1
legal_free u t (Change it old new) l = rights_free u t (Change it old new) l.1
legal_free u t (Add it n) l = rights_free u t (Add it n) l.1
legal_free u t (Or it bits) l = rights_free u t (Or it bits) l.1

may_step : (u : Who) {t t' : Option TurnId} {w : Option (ℕ × ℕ)} {a : Act} → May u t a t' w → Step u t a t' w
may_step u (Plain legal) = Apart (legal_free u _ _ legal)
may_step u (Maps page) = Own_map _ _ page
may_step u (Gives turn within) = Gives_back turn within

marks_keep : (u : Who) (t : Option TurnId) (w : Option (ℕ × ℕ)) (n : Note) (j : Job) → IsInner n → Keeps u t w j → Keeps u t w (Mark n j)
marks_keep u t w (Map_own g m) j inner k = absurd inner
marks_keep u t w n j inner k = k

works_keeps : (u : Who) {last : Job} {t : Option TurnId} {w : Option (ℕ × ℕ)} {j : Job} → Works u last t w j → Keeps u None None last → Keeps u t w j
works_keeps u Over k = k
works_keeps u (Makes may f) k = (refl, _, _, may_step u may, λ x. works_keeps u (f x) k)
works_keeps u (Takes turn within f) k = (turn, refl, refl, within, refl, refl, works_keeps u f k)
works_keeps u (Marks_map f) k = (refl, works_keeps u f k)
works_keeps u (Marks n j inner f) k = marks_keep u _ _ n j inner (works_keeps u f k)
works_keeps u (Asks f) k = λ o. works_keeps u (f o) k

-- what a job gives back first is the turn that it holds
back_free : (a : Act) (later : Option TurnId) → Frees a → turn_back a later ≡ later
back_free (Put (Turn n g) v) later f = absurd f
back_free (Put (NoticeTurn n) v) later f = absurd f
back_free a later f = refl

back_step : (u : Who) {t t' : Option TurnId} {w : Option (ℕ × ℕ)} {a : Act} (later : Option TurnId) → Step u t a t' w → later ≡ t' → turn_back a later ≡ t
back_step u later (Apart f) e = back_free _ later f ∙ e
back_step u later (Own_map g m page) e = e
back_step u later (Gives_back (Page n g) within) e = refl
back_step u later (Gives_back (Notices n) within) e = refl

pub keeps_held : (u : Who) (j : Job) (t : Option TurnId) (w : Option (ℕ × ℕ)) → Keeps u t w j → held_turn j ≡ t
keeps_held u (Make a k) t w h = back_step u (held_turn (k 0)) h.3 (keeps_held u (k 0) h.1 h.2 (h.4 0))
keeps_held u (Again a v j) t w h = sym h.2
keeps_held u (Mark (Map_own g m) j) t w h = keeps_held u j t None h.1
keeps_held u (Mark n j) t w h = keeps_held u j t w h
keeps_held u (Ask f) t w h = keeps_held u (f new_own) t w (h new_own)
keeps_held u (Begin g) t w h = sym h.0
keeps_held u (Ended e) t w h = sym h.0

-- the mappings behind the change that was owed
abbrev pub maps_with : Option (ℕ × ℕ) → List ℕ → List ℕ
maps_with None maps = maps
maps_with (Some x) maps = slice_set maps x.0 x.1

-- with nothing held and nothing owed
module _ (u : Who) where
  abbrev pub Stands : Job → Type 0
  Stands j = Keeps u None None j

  pub stop_keeps : (e : Ending) → Stands (stop_job u e)
  stop_keeps e = (refl, None, None, Apart tt, λ x. (refl, refl))

  heed_keeps : (again : Head) (x : ℕ) → Stands (heed_job again x)
  heed_keeps again x = go (x == 0)
    where
      go : (b : Bool) → Stands (if b then Begin again else Ended (Stopped ((x - 1) % 2 ^ 32)))
      go true = (refl, refl)
      go false = (refl, refl)

  unready_keeps : (again : Head) → Stands (unready_job u again)
  unready_keeps again o = go (is_last u.limits.looks o.counts.unready)
    where
      go : (b : Bool) → Stands (if b then stop_job u Looked else Make (Get Stop) (heed_job again))
      go true = stop_keeps Looked
      go false = (refl, None, None, Apart tt, λ x. heed_keeps again x)

  module _ (at : IsPlaced u) where
    acquire_keeps : Stands (acquire_job u next_instruction)
    acquire_keeps = works_keeps u (acquire_works u next_instruction at) (refl, refl)

    release_keeps : (j : Job) → Stands j → Stands (release_job u j)
    release_keeps j k = works_keeps u (release_works u j at) k

    tried_keeps : (l : ℕ) (got : Got) → Stands (tried_job u l got)
    tried_keeps l (Ready c) = acquire_keeps
    tried_keeps l Unready = unready_keeps (Locking l)

    lock_keeps : (l : ℕ) → Stands (lock_job u l)
    lock_keeps l = (refl, None, None, Apart tt, λ x. go x (x % 2 == 0))
      where
        go : (x : ℕ) (b : Bool) → Stands (call (if b then take_script l x else End Unready) (tried_job u l))
        go x true = (refl, None, None, Apart tt, λ y. tried_keeps l (if y == x then Ready (x / 2) else Unready))
        go x false = tried_keeps l Unready

    passed_keeps : (of : Counter) → Stands (passed_job u of)
    passed_keeps (Barrier b) = acquire_keeps
    passed_keeps (Flag f) = acquire_keeps
    passed_keeps Close = works_keeps u (closing_works u (Ended Halted) at) (refl, refl)

    looked_keeps : (of : Counter) (need : ℕ) (got : Got) → Stands (looked_job u of need got)
    looked_keeps of need (Ready c) = passed_keeps of
    looked_keeps of need Unready = unready_keeps (Looking of need)

    look_keeps : (of : Counter) (need : ℕ) → Stands (look_job u of need)
    look_keeps of need = (refl, None, None, Apart tt, λ x. looked_keeps of need (if nat_le need x then Ready (count_of of need x) else Unready))

    meet_keeps : (of : Counter) → Stands (meet_job u of)
    meet_keeps (Barrier b) = (refl, None, None, Apart tt, λ x. (refl, refl))
    meet_keeps (Flag f) = (refl, None, None, Apart tt, λ x. (refl, refl))
    meet_keeps Close = (refl, None, None, Apart tt, λ x. (refl, refl))

    access_keeps : (write : Bool) (w : ℕ) (j : Job) (b : Bool) → w < u.lay.pages * u.lay.words → Stands j → Stands (if b then j else fault_job u write (page_of u w) j)
    access_keeps write w j true inside k = k
    access_keeps write w j false inside k = works_keeps u (fault_works u j at write w (page_in u.lay.pages u.lay.words w inside)) k

    action_keeps : (o : Own) (a : Action) → IsInside (u.lay.pages * u.lay.words) a → Stands (action_job u o a)
    action_keeps o (Set d v) inside = (refl, None, None, Apart tt, λ x. (refl, refl))
    action_keeps o (Jump to) inside = (refl, None, None, Apart tt, λ x. (refl, refl))
    action_keeps o (LoadWord d w) inside = access_keeps false w (load_job u d w) (allows false (mapping o (page_of u w))) inside (refl, None, None, Apart tt, λ x. (refl, refl))
    action_keeps o (StoreWord w v) inside = access_keeps true w (store_job u w v) (allows true (mapping o (page_of u w))) inside (refl, None, None, Apart tt, λ x. (refl, refl))
    action_keeps o (Print v) inside = (refl, None, None, Apart tt, λ x. (refl, refl))
    action_keeps o (TakeLock l) inside = lock_keeps l
    action_keeps o (GiveLock l k) inside = release_keeps (free_job l k) (refl, None, None, Apart tt, λ x. (refl, refl))
    action_keeps o (Meet b) inside = release_keeps (meet_job u (Barrier b)) (meet_keeps (Barrier b))
    action_keeps o (RaiseFlag f) inside = release_keeps (raise_job f) (refl, None, None, Apart tt, λ x. (refl, refl))
    action_keeps o (WaitFlag f need) inside = look_keeps (Flag f) need
    action_keeps o (Trap kind) inside = stop_keeps (Trapped o.reader.place kind)
    action_keeps o Spend inside = stop_keeps Spent
    action_keeps o Arrive inside = release_keeps (meet_job u Close) (meet_keeps Close)

    head_keeps : (code : List Instr) (h : Head) → Stands (head_job u code h)
    head_keeps code Instruction = λ o. action_keeps o (next_action code (setting_of u) o.reader) (IsInside-next_action code (setting_of u) o.reader)
    head_keeps code (Locking l) = lock_keeps l
    head_keeps code (Looking of need) = look_keeps of need

    -- behind changes and looks, and where the job of a head begins
    pub record Behind (t : Option TurnId) (maps : List ℕ) (m : Processor) : Type 0 where
      pub keeps : Keeps u t None m.todo
      pub maps_are : m.own.maps ≡ maps

    settled_keeps : (j : Job) (o : Own) (t : Option TurnId) (w : Option (ℕ × ℕ)) → Keeps u t w j → Behind t (maps_with w o.maps) (settled o j)
    settled_keeps (Make a k) o t w h = rw h.0 (record { keeps = (refl, h.1, h.2, h.3, h.4); maps_are = refl })
    settled_keeps (Again a v j) o t w h = rw h.1 (record { keeps = (h.0, refl, h.2, h.3, h.4, h.5, h.6); maps_are = refl })
    settled_keeps (Mark (Map_own g m) j) o t w h = rw h.0 (settled_keeps j (own_after o (Map_own g m)) t None h.1)
    settled_keeps (Mark (Give d v) j) o t w h = settled_keeps j (own_after o (Give d v)) t w h
    settled_keeps (Mark (Go to) j) o t w h = settled_keeps j (own_after o (Go to)) t w h
    settled_keeps (Mark Move j) o t w h = settled_keeps j (own_after o Move) t w h
    settled_keeps (Mark (Append e) j) o t w h = settled_keeps j (own_after o (Append e)) t w h
    settled_keeps (Mark (Soil g) j) o t w h = settled_keeps j (own_after o (Soil g)) t w h
    settled_keeps (Mark (Clean g) j) o t w h = settled_keeps j (own_after o (Clean g)) t w h
    settled_keeps (Mark (Join set) j) o t w h = settled_keeps j (own_after o (Join set)) t w h
    settled_keeps (Mark (Count n) j) o t w h = settled_keeps j (own_after o (Count n)) t w h
    settled_keeps (Mark (Happen d) j) o t w h = settled_keeps j (own_after o (Happen d)) t w h
    settled_keeps (Ask f) o t w h = settled_keeps (f o) o t w (h o)
    settled_keeps (Begin g) o t w h = rw h.1 (record { keeps = (h.0, refl); maps_are = refl })
    settled_keeps (Ended e) o t w h = rw h.1 (record { keeps = (h.0, refl); maps_are = refl })

    begun_keeps : (code : List Instr) (j : Job) (o : Own) (t : Option TurnId) → Keeps u t None j → Behind t o.maps (begun u code o j)
    begun_keeps code (Begin g) o t h = rw h.0 (settled_keeps (head_job u code g) o None None (head_keeps code g))
    begun_keeps code (Make a k) o t h = record { keeps = h; maps_are = refl }
    begun_keeps code (Again a v j) o t h = record { keeps = h; maps_are = refl }
    begun_keeps code (Mark n j) o t h = record { keeps = h; maps_are = refl }
    begun_keeps code (Ask f) o t h = record { keeps = h; maps_are = refl }
    begun_keeps code (Ended e) o t h = record { keeps = h; maps_are = refl }

    pub run_keeps : (code : List Instr) (j : Job) (o : Own) (t : Option TurnId) (w : Option (ℕ × ℕ)) → Keeps u t w j → Behind t (maps_with w o.maps) (run_on u code o j)
    run_keeps code j o t w h =
        let b = settled_keeps j o t w h in
        let c = begun_keeps code (settled o j).todo (settled o j).own t b.keeps in
        record { keeps = c.keeps; maps_are = c.maps_are ∙ b.maps_are }
