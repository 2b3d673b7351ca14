-- Each event of a processor is a row of the table, with decisions and notes around it.
use Rattle.std.proofs.Common.{◌≡◌, ℕ, ◌+◌, ◌==◌, Bool, true, false, List, [], ◌∷◌, None, refl, if◌then◌else◌}
use Rattle.std.proofs.lemmas.Bool.{eqb-false, eqb-true}
use Rattle.dsm_isa.specs.declared.instr.Instr.{Instr}
use Rattle.dsm_local.specs.declared.action.Action.{Action}
use Rattle.dsm_local.specs.declared.action.Action.TheVariants.{Set, Jump, LoadWord, StoreWord, Print, TakeLock, GiveLock, Meet, RaiseFlag, WaitFlag, Trap, Spend, Arrive}
use Rattle.dsm_local.specs.Readers.{next_action}
use Rattle.dsm_local.specs.declared.end.End.{End as Ending}
use Rattle.dsm_local.specs.declared.end.End.TheVariants.{Halted}
use Rattle.dsm_words.specs.Script.{Act, Change}
use Rattle.dsm_clock.specs.Turns.{turn_item}
use Rattle.dsm_protocol.specs.declared.head.Head.TheVariants.{Instruction, Locking, Looking}
use Rattle.dsm_protocol.specs.Own.{Own, Who, setting_of, mapping, new_own}
use Rattle.dsm_protocol.specs.Jobs.{Job, Make, Again, Mark, Ask, Begin, Ended, first_act, job_after, has_ended, is_ready, held_turn, own_after}
use Rattle.dsm_protocol.specs.Steps.{fault_job, allows, page_of, load_job, store_job, action_job}
use Rattle.dsm_protocol.specs.Processors.{Processor, Given, IsMade, settled, run_on, wanting, after_answer, after_given, processor_of}
use Rattle.dsm_protocol.specs.Stages.{Idle, Stopping, Work, Off, Gone, turn_at}
use Rattle.dsm_protocol.specs.Standing.{is_halt, EndsAt, Works, Makes, Takes, Marks, Asks, Slips, Rests, Asides, Begins, Ends, Halts, Stands, Path, Stay, Decides, Notes, Does, Row, Won, Lost, Aside, Moves, starts_from, EveryProcessorStands, EveryEventIsARow}
use Rattle.dsm_protocol.proofs.Placed.{IsPlaced, placed}
use Rattle.dsm_protocol.proofs.Heading.{head_typed, starved_typed}
use Rattle.dsm_protocol.proofs.Turning.{IsSettled, step_settled, wins_settled, slip_settled, note_settled, works_held}

-- Decisions and notes lead from w to where the processor does its job by the table.
pub record Rested (u : Who) (w : Work) (o : Own) (m : Processor) : Type 0 where
  pub next : Work
  pub path : Path u w o next m.own
  pub works : Works u None next m.own m.todo
  pub over : EndsAt m.todo next

-- An event leads from w to where the processor does its job by the table, and gives back the turn of that place.
pub record Moved (u : Who) (w : Work) (o : Own) (a : Act) (x : ℕ) (m : Processor) : Type 0 where
  pub next : Work
  pub works : Works u None next m.own m.todo
  pub holds : held_turn m.todo ≡ turn_at u next
  pub over : EndsAt m.todo next
  pub moves : Moves u w o a x next m

-- the end of one that has not halted
pub ends_gone : (e : Ending) → is_halt e ≡ false → EndsAt (Ended e) Gone
ends_gone Halted other = absurd (cc other)
ends_gone e other = refl

module _ (u : Who) where
  pub path_settled : {w v : Work} {o p : Own} → Path u w o v p → IsSettled u w → IsSettled u v
  path_settled Stay owed = owed
  path_settled (Decides row k) owed = path_settled k (slip_settled u row)
  path_settled (Notes n row k) owed = path_settled k (note_settled u row owed)

  -- the processor behind a path
  arrived : {w to : Work} {o : Own} {a : Act} {x : ℕ} {m : Processor} → Does u o w a x to → IsSettled u to → Rested u to o m → Moved u w o a x m
  arrived row owed r = record { next = r.next; works = r.works; holds = works_held u r.works (path_settled r.path owed); over = r.over; moves = record { from = _; to = _; before = Stay; row = row; behind = r.path } }

  -- a job that begins with an operation or is at its end
  module _ (o : Own) where
    ready_if : (b : Bool) (x y : Job) → is_ready (settled o x).todo ≡ true → is_ready (settled o y).todo ≡ true → is_ready (settled o (if b then x else y)).todo ≡ true
    ready_if true x y h k = h
    ready_if false x y h k = k

    ready_action : (a : Action) → is_ready (settled o (action_job u o a)).todo ≡ true
    ready_action (Set d v) = refl
    ready_action (Jump to) = refl
    ready_action (LoadWord d w) = ready_if (allows false (mapping o (page_of u w))) (load_job u d w) (fault_job u false (page_of u w) (load_job u d w)) refl refl
    ready_action (StoreWord w v) = ready_if (allows true (mapping o (page_of u w))) (store_job u w v) (fault_job u true (page_of u w) (store_job u w v)) refl refl
    ready_action (Print v) = refl
    ready_action (TakeLock l) = refl
    ready_action (GiveLock l k) = refl
    ready_action (Meet b) = refl
    ready_action (RaiseFlag f) = refl
    ready_action (WaitFlag f need) = refl
    ready_action (Trap kind) = refl
    ready_action Spend = refl
    ready_action Arrive = refl

  pub ready_run : (code : List Instr) (o : Own) (j : Job) → is_ready (run_on u code o j).todo ≡ true
  ready_run code o (Make a k) = refl
  ready_run code o (Again a wanted j) = refl
  ready_run code o (Mark n j) = ready_run code (own_after o n) j
  ready_run code o (Ask f) = ready_run code o (f o)
  ready_run code o (Begin Instruction) = ready_action o (next_action code (setting_of u) o.reader)
  ready_run code o (Begin (Locking l)) = refl
  ready_run code o (Begin (Looking of need)) = refl
  ready_run code o (Ended e) = refl

module _ (u : Who) (at : IsPlaced u) (code : List Instr) where
  pub settle : {w : Work} {o : Own} {j : Job} → Works u None w o j → Rested u w o (settled o j)
  settle (Makes within row k) = record { next = _; path = Stay; works = Makes within row k; over = tt }
  settle (Takes turn within row k) = record { next = _; path = Stay; works = Takes turn within row k; over = tt }
  settle (Asides none may is k) = record { next = _; path = Stay; works = Asides none may is k; over = tt }
  settle (Begins none) = record { next = _; path = Stay; works = Begins none; over = tt }
  settle (Ends none other) = record { next = _; path = Stay; works = Ends none other; over = ends_gone _ other }
  settle (Halts none) = record { next = _; path = Stay; works = Halts none; over = refl }
  settle (Rests is resting) = absurd (cc is)
  settle (Marks row k) = let r = settle k in record { next = r.next; path = Notes _ row r.path; works = r.works; over = r.over }
  settle {o = o} (Asks k) = settle (k o)
  settle (Slips row k) = let r = settle k in record { next = r.next; path = Decides row r.path; works = r.works; over = r.over }

  run : {w : Work} {o : Own} {j : Job} → Works u None w o j → Rested u w o (run_on u code o j)
  run (Makes within row k) = record { next = _; path = Stay; works = Makes within row k; over = tt }
  run (Takes turn within row k) = record { next = _; path = Stay; works = Takes turn within row k; over = tt }
  run (Asides none may is k) = record { next = _; path = Stay; works = Asides none may is k; over = tt }
  run {o = o} (Begins {h = h} none) = settle (head_typed u at code h o)
  run (Ends none other) = record { next = _; path = Stay; works = Ends none other; over = ends_gone _ other }
  run (Halts none) = record { next = _; path = Stay; works = Halts none; over = refl }
  run (Rests is resting) = absurd (cc is)
  run (Marks row k) = let r = run k in record { next = r.next; path = Notes _ row r.path; works = r.works; over = r.over }
  run {o = o} (Asks k) = run (k o)
  run (Slips row k) = let r = run k in record { next = r.next; path = Decides row r.path; works = r.works; over = r.over }

  -- an operation of a job that goes by the table, and its answer
  moved : {w : Work} {o : Own} {j : Job} (x : ℕ) → Works u None w o j → has_ended j ≡ false → is_ready j ≡ true → Moved u w o (first_act j) x (run_on u code o (job_after j x))
  moved x (Makes within row k) runs ready = arrived u (Row within (row x)) (step_settled u (row x)) (run (k x))
  moved {w = w} {o = o} x (Takes {w' = to} {j = j} turn within row k) runs ready = go (x == 0) refl
    where
      go : (b : Bool) → (x == 0) ≡ b → Moved u w o (Change (turn_item turn) 0 (u.p + 1)) x (run_on u code o (if b then j else Again (Change (turn_item turn) 0 (u.p + 1)) 0 j))
      go true won = arrived u (Won turn within row (eqb-true x 0 won)) (wins_settled u row).1 (run k)
      go false lost = arrived u (Lost turn within row (eqb-false x 0 lost)) (wins_settled u row).0 (record { next = w; path = Stay; works = Takes turn within row k; over = tt })
  moved x (Asides none may is k) runs ready = arrived u (Aside may is) tt (run (k x))
  moved x (Slips row k) runs ready =
      let r = moved x k runs ready in
      record { next = r.next; works = r.works; holds = r.holds; over = r.over; moves = record { from = r.moves.from; to = r.moves.to; before = Decides row r.moves.before; row = r.moves.row; behind = r.moves.behind } }
  moved x (Rests is resting) runs ready = absurd (cc is)
  moved x (Begins none) runs ready = absurd (cc ready)
  moved x (Ends none other) runs ready = absurd (cc runs)
  moved x (Halts none) runs ready = absurd (cc runs)
  moved x (Marks row k) runs ready = absurd (cc ready)
  moved x (Asks k) runs ready = absurd (cc ready)

  -- an event of a processor that has not ended and stands before an operation
  pub event : (w : Work) (m : Processor) (given : Given) → Works u None w m.own m.todo → has_ended m.todo ≡ false → is_ready m.todo ≡ true
      → Moved u (starts_from given.starved w) m.own (first_act (wanting u given.starved m).todo) given.got (after_given u code m given)
  event w m given works runs ready = go given.starved m.todo works runs ready
    where
      go : (starved : Bool) (j : Job) → Works u None w m.own j → has_ended j ≡ false → is_ready j ≡ true
          → Moved u (starts_from starved w) m.own (first_act (wanting u starved (record { own = m.own; todo = j })).todo) given.got (after_given u code (record { own = m.own; todo = j }) (record { starved = starved; got = given.got }))
      go false j works runs ready = moved given.got works runs ready
      go true (Make a k) works runs ready = moved given.got (starved_typed u at m.own) refl refl
      go true (Again a wanted j) works runs ready = moved given.got (starved_typed u at m.own) refl refl
      go true (Mark n j) works runs ready = absurd (cc ready)
      go true (Ask f) works runs ready = absurd (cc ready)
      go true (Begin h) works runs ready = absurd (cc ready)
      go true (Ended e) works runs ready = absurd (cc runs)

  -- so does one that memory is wanting, and one that was given an answer
  module _ (w : Work) (o : Own) where
    wanting_stands : (starved : Bool) (j : Job) → Stands u w (record { own = o; todo = j }) → (v : Work) × Stands u v (wanting u starved (record { own = o; todo = j }))
    wanting_stands false j stands = (w, stands)
    wanting_stands true (Make a k) stands = (Off Stopping, record { works = starved_typed u at o; holds = refl; ready = refl; over = tt })
    wanting_stands true (Again a wanted j) stands = (Off Stopping, record { works = starved_typed u at o; holds = refl; ready = refl; over = tt })
    wanting_stands true (Ended e) stands = (w, record { works = stands.works; holds = stands.holds; ready = refl; over = stands.over })
    wanting_stands true (Mark n j) stands = absurd (cc stands.ready)
    wanting_stands true (Ask f) stands = absurd (cc stands.ready)
    wanting_stands true (Begin h) stands = absurd (cc stands.ready)

    answered_stands : (got : ℕ) (j : Job) → Stands u w (record { own = o; todo = j }) → (v : Work) × Stands u v (after_answer u code (record { own = o; todo = j }) got)
    answered_stands got (Make a k) stands = let r = moved got stands.works refl refl in (r.next, record { works = r.works; holds = r.holds; ready = ready_run u code o (k got); over = r.over })
    answered_stands got (Again a wanted j) stands = let r = moved got stands.works refl refl in (r.next, record { works = r.works; holds = r.holds; ready = ready_run u code o (if got == wanted then j else Again a wanted j); over = r.over })
    answered_stands got (Ended e) stands = (w, record { works = stands.works; holds = stands.holds; ready = refl; over = stands.over })
    answered_stands got (Mark n j) stands = absurd (cc stands.ready)
    answered_stands got (Ask f) stands = absurd (cc stands.ready)
    answered_stands got (Begin h) stands = absurd (cc stands.ready)

  stands_of : (gs : List Given) → (w : Work) × Stands u w (processor_of u code gs)
  unfolding processor_of
  stands_of [] =
      let r = run {w = Off Idle} {o = new_own} {j = Begin Instruction} (Begins refl) in
      (r.next, record { works = r.works; holds = works_held u r.works (path_settled u r.path tt); ready = ready_run u code new_own (Begin Instruction); over = r.over })
  stands_of (g ∷ gs) =
      let s = stands_of gs in
      let m = processor_of u code gs in
      let n = wanting u g.starved m in
      let t = wanting_stands s.0 m.own g.starved m.todo s.1 in
      answered_stands t.0 n.own g.got n.todo t.1

pub every_processor_stands : EveryProcessorStands
unfolding IsMade
every_processor_stands u code m here made =
    let at = placed u here in
    let s = stands_of u at code made.0 in
    let n = processor_of u code made.0 in
    let stands = wanting_stands u at code s.0 n.own made.1 n.todo s.1 in
    rw made.2 stands

pub every_event_is_a_row : EveryEventIsARow
every_event_is_a_row u code w m given here stands runs =
    let r = event u (placed u here) code w m given stands.works runs stands.ready in
    let n = wanting u given.starved m in
    (r.next, record { works = r.works; holds = r.holds; ready = ready_run u code n.own (job_after n.todo given.got); over = r.over }, r.moves)
