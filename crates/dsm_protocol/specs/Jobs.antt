-- What a processor still has to do, as a script whose steps also look at what it holds and change it.
use Rattle.std.specs.Prelude.{ℕ, ◌==◌, Bool, true, false, if◌then◌else◌, List, Option, None, Some}
use Rattle.dsm_entry.specs.declared.entry.Entry.{Entry}
use Rattle.dsm_words.specs.declared.item.Item.TheVariants.{Stop, Turn, NoticeTurn}
use Rattle.dsm_words.specs.Script.{Act, Get, Put, Or, Script, End, Do, Until}
use Rattle.dsm_clock.specs.declared.turns.TurnId.{TurnId}
use Rattle.dsm_clock.specs.declared.turns.TurnId.TheVariants.{Page, Notices as Notices_turn}
use Rattle.dsm_local.specs.Readers.{given, jumped, moved}
use Rattle.dsm_local.specs.declared.end.End.{End as Ending}
use Rattle.dsm_protocol.specs.declared.head.Head.{Head}
use Rattle.dsm_protocol.specs.Own.{Own, Tally, Notices, new_own, appended, mapped, soiled, cleaned, joined, counted}

-- A moment of which a law speaks. Processor p has passed a lock, a barrier or a flag; the acquire behind its last pass is finished. Node m has
-- sent page g: the last operation of that is made; all nodes that use the page were told of it. Node n fetches page g, by a merge or an
-- overwrite: its first operation is made; its last.
pub data Moment : Type 0 where
  Passed : ℕ → Moment
  Acquired : ℕ → Moment
  Sent : ℕ → ℕ → Moment
  Told : ℕ → ℕ → Moment
  Began : ℕ → ℕ → Moment
  Fetched : ℕ → ℕ → Moment
  deriving IsSet as Moment-set'

-- What an event notes beside its operation. An instruction ends: register d gets v, and the next one comes;
-- the one at place `to` comes; the next one comes.
pub data Note : Type 0 where
  Give : ℕ → ℕ → Note
  Go : ℕ → Note
  Move : Note
  -- an entry more
  Append : Entry → Note
  -- its mapping of page g becomes m
  Map_own : ℕ → ℕ → Note
  -- page g joins the dirty set; it leaves it; all pages of a set join it
  Soil : ℕ → Note
  Clean : ℕ → Note
  Join : List ℕ → Note
  -- one more of what is counted
  Count : Tally → Note
  -- a moment has come, which changes nothing
  Happen : Moment → Note

-- what it holds behind a note
abbrev pub own_after : Own → Note → Own
own_after o (Give d v) = record o { reader = given o.reader d v }
own_after o (Go to) = record o { reader = jumped o.reader to }
own_after o Move = record o { reader = moved o.reader }
own_after o (Append e) = appended o e
own_after o (Map_own g m) = mapped o g m
own_after o (Soil g) = soiled o g
own_after o (Clean g) = cleaned o g
own_after o (Join set) = joined o set
own_after o (Count t) = counted o t
own_after o (Happen d) = o

-- a job: an operation and what follows its answer; an operation until it has the wanted answer; a note and a look at what it holds then,
-- both in the event of the operation before them; a head; the end
pub data Job : Type 0 where
  Make : Act → (ℕ → Job) → Job
  Again : Act → ℕ → Job → Job
  Mark : Note → Job → Job
  Ask : (Own → Job) → Job
  Begin : Head → Job
  Ended : Ending → Job
  deriving IsSet as Job-set'

-- a phase within a job
abbrev pub call : {R : Type 0} → Script R → (R → Job) → Job
call (End r) f = f r
call (Do a k) f = Make a (λ x. call (k x) f)
call (Until a wanted s) f = Again a wanted (call s f)

-- the same, with a note in the event of its first operation
abbrev pub call_noting : {R : Type 0} → Note → Script R → (R → Job) → Job
call_noting n (End r) f = f r
call_noting n (Do a k) f = Make a (λ x. Mark n (call (k x) f))
call_noting n (Until a wanted s) f = Again a wanted (Mark n (call s f))

-- the same of a phase that posts notices, each of which is counted in its own event
abbrev pub counting : Act → Job → Job
counting (Or it bits) j = Mark (Count Notices) j
counting _ j = j

abbrev pub call_counting : {R : Type 0} → Script R → (R → Job) → Job
call_counting (End r) f = f r
call_counting (Do a k) f = Make a (λ x. counting a (call_counting (k x) f))
call_counting (Until a wanted s) f = Again a wanted (call_counting s f)

-- the operation that comes first
abbrev pub first_act : Job → Act
first_act (Make a k) = a
first_act (Again a wanted j) = a
first_act _ = Get Stop

-- what is left behind its answer
abbrev pub job_after : Job → ℕ → Job
job_after (Make a k) x = k x
job_after (Again a wanted j) x = if x == wanted then j else Again a wanted j
job_after (Mark n j) x = Mark n j
job_after (Ask f) x = Ask f
job_after (Begin h) x = Begin h
job_after (Ended e) x = Ended e

-- it stands before an operation, or has ended
abbrev pub is_ready : Job → Bool
is_ready (Make a k) = true
is_ready (Again a wanted j) = true
is_ready (Mark n j) = false
is_ready (Ask f) = false
is_ready (Begin h) = false
is_ready (Ended e) = true

-- the end, where it has come
abbrev pub end_of : Job → Option Ending
end_of (Ended e) = Some e
end_of _ = None

-- whether it has come
abbrev pub has_ended : Job → Bool
has_ended (Ended e) = true
has_ended _ = false

-- the turn that a store gives back
abbrev pub turn_back : Act → Option TurnId → Option TurnId
turn_back (Put (Turn n g) v) later = Some (Page n g)
turn_back (Put (NoticeTurn n) v) later = Some (Notices_turn n)
turn_back _ later = later

-- the turn that a job holds: the one that it gives back before it takes any
abbrev pub held_turn : Job → Option TurnId
held_turn (Make a k) = turn_back a (held_turn (k 0))
held_turn (Again a wanted j) = None
held_turn (Mark n j) = held_turn j
held_turn (Ask f) = held_turn (f new_own)
held_turn (Begin h) = None
held_turn (Ended e) = None
