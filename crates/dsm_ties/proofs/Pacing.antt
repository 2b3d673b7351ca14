-- The moments of a path, and the event of a processor as a path, an operation and the path of the job behind its answer.
use Rattle.std.proofs.Common.{◌≡◌, ℕ, ◌+◌, ◌==◌, Bool, true, false, List, [], ◌∷◌, ◌++◌, None, refl, sym, ap, ◌∙◌, if◌then◌else◌}
use Rattle.std.proofs.lemmas.Bool.{eqb-false, eqb-true}
use Rattle.dsm_isa.specs.declared.instr.Instr.{Instr}
use Rattle.dsm_words.specs.Script.{Act, Change}
use Rattle.dsm_clock.specs.Turns.{turn_item}
use Rattle.dsm_local.specs.declared.action.Action.{Action}
use Rattle.dsm_local.specs.Readers.{next_action}
use Rattle.dsm_protocol.specs.declared.head.Head.{Head}
use Rattle.dsm_protocol.specs.declared.head.Head.TheVariants.{Instruction, Locking, Looking}
use Rattle.dsm_protocol.specs.Own.{Own, Who, setting_of}
use Rattle.dsm_protocol.specs.Jobs.{Job, Make, Again, Mark, Ask, Begin, Ended, Moment, Note, Happen, first_act, job_after, has_ended, is_ready, own_after}
use Rattle.dsm_protocol.specs.Steps.{action_job, head_job}
use Rattle.dsm_protocol.specs.Processors.{Processor, settled, run_on}
use Rattle.dsm_protocol.specs.Stages.{Work}
use Rattle.dsm_protocol.specs.Rows.{Slip, Noted}
use Rattle.dsm_protocol.specs.Standing.{EndsAt, Works, Makes, Takes, Marks, Asks, Slips, Rests, Asides, Begins, Ends, Halts, Path, Stay, Decides, Notes, Does, Row, Won, Lost, Aside}
use Rattle.dsm_protocol.proofs.Placed.{IsPlaced}
use Rattle.dsm_protocol.proofs.Heading.{head_typed}
use Rattle.dsm_protocol.proofs.Moving.{ends_gone, ready_run}
use Rattle.dsm_protocol.proofs.Turning.{IsSettled, step_settled, wins_settled}
use Rattle.dsm_protocol.proofs.Settling.{settled_action}
use Rattle.dsm_runs.specs.Moments.{moments}

-- the moment of a note, where it notes one
abbrev pub note_moments : Note → List Moment
note_moments (Happen d) = d ∷ []
note_moments i = []

-- those of a path
abbrev pub path_moments : {u : Who} {w v : Work} {o p : Own} → Path u w o v p → List Moment
path_moments Stay = []
path_moments (Decides slip path) = path_moments path
path_moments (Notes i noted path) = note_moments i ++ path_moments path

-- a note's moment comes before those of what follows
mark_moments : (o : Own) (i : Note) (j : Job) → moments o (Mark i j) ≡ note_moments i ++ moments (own_after o i) j
mark_moments o (Happen d) j = refl
mark_moments o i j = refl

-- Decisions and notes lead from w to where the processor does its job by the table, and their moments are those of the job j.
pub record Paced (u : Who) (w : Work) (o : Own) (j : Job) (m : Processor) : Type 0 where
  pub next : Work
  pub path : Path u w o next m.own
  pub works : Works u None next m.own m.todo
  pub over : EndsAt m.todo next
  pub said : path_moments path ≡ moments o j

-- Decisions alone, then an operation, lead to where the processor does what is left behind the answer.
pub record Stepped (u : Who) (w : Work) (o : Own) (a : Act) (x : ℕ) (j : Job) : Type 0 where
  pub from : Work
  pub to : Work
  pub before : Path u w o from o
  pub none : path_moments before ≡ []
  pub row : Does u o from a x to
  pub owed : IsSettled u to
  pub works : Works u None to o j

module _ (u : Who) where
  -- a job that notes nothing stays where it is
  stays_so : {w : Work} {o : Own} {j : Job} → Works u None w o j → moments o j ≡ [] → EndsAt j w → Paced u w o j (record { own = o; todo = j })
  stays_so works none over = record { next = _; path = Stay; works = works; over = over; said = sym none }

  -- what comes behind a note, a decision and a look
  notes_on : {w v : Work} {o : Own} (i : Note) {j : Job} {m : Processor} → Noted u None w i v → Paced u v (own_after o i) j m → Paced u w o (Mark i j) m
  notes_on {o = o} i {j} row r = record { next = r.next; path = Notes i row r.path; works = r.works; over = r.over; said = ap (λ ms. note_moments i ++ ms) r.said ∙ sym (mark_moments o i j) }

  decides_on : {w v : Work} {o : Own} {j : Job} {m : Processor} → Slip u o.maps o.dirty w v → Paced u v o j m → Paced u w o j m
  decides_on row r = record { next = r.next; path = Decides row r.path; works = r.works; over = r.over; said = r.said }

  looks_on : {w : Work} {o : Own} (f : Own → Job) {m : Processor} → Paced u w o (f o) m → Paced u w o (Ask f) m
  looks_on f r = record { next = r.next; path = r.path; works = r.works; over = r.over; said = r.said }

  -- the changes and looks of a job are decisions and notes
  pub settles_by : {w : Work} {o : Own} {j : Job} → Works u None w o j → Paced u w o j (settled o j)
  settles_by (Makes within row k) = stays_so (Makes within row k) refl tt
  settles_by (Takes turn within row k) = stays_so (Takes turn within row k) refl tt
  settles_by (Asides none may is k) = stays_so (Asides none may is k) refl tt
  settles_by (Begins none) = stays_so (Begins none) refl tt
  settles_by (Ends none other) = stays_so (Ends none other) refl (ends_gone _ other)
  settles_by (Halts none) = stays_so (Halts none) refl refl
  settles_by (Rests is resting) = absurd (cc is)
  settles_by (Marks {n = i} row k) = notes_on i row (settles_by k)
  settles_by {o = o} (Asks {f = f} k) = looks_on f (settles_by (k o))
  settles_by (Slips row k) = decides_on row (settles_by k)

-- a job that stands before an operation notes nothing before it
ready_moments : (o : Own) (j : Job) → is_ready j ≡ true → moments o j ≡ []
ready_moments o (Make a k) e = refl
ready_moments o (Again a wanted j) e = refl
ready_moments o (Mark i j) e = absurd (cc e)
ready_moments o (Ask f) e = absurd (cc e)
ready_moments o (Begin h) e = absurd (cc e)
ready_moments o (Ended end) e = refl

module _ (u : Who) (at : IsPlaced u) (code : List Instr) where
  -- and nor does the job of a head
  head_moments : (o : Own) (h : Head) → moments o (head_job u code h) ≡ []
  head_moments o Instruction =
      let a : Action = next_action code (setting_of u) o.reader in
      ready_moments o (action_job u o a) (ap (λ m. is_ready m.todo) (sym (settled_action u o a)) ∙ ready_run u code o (Begin Instruction))
  head_moments o (Locking l) = refl
  head_moments o (Looking of need) = ready_moments o (head_job u code (Looking of need)) (ready_run u code o (Begin (Looking of need)))

  -- the job of a head begins
  begins_by : (h : Head) {w : Work} {o : Own} → Paced u w o (head_job u code h) (settled o (head_job u code h)) → Paced u w o (Begin h) (run_on u code o (Begin h))
  begins_by h {o = o} r = record { next = r.next; path = r.path; works = r.works; over = r.over; said = r.said ∙ head_moments o h }

  -- a job goes on to its next operation by decisions and notes, with its moments
  pub runs_by : {w : Work} {o : Own} {j : Job} → Works u None w o j → Paced u w o j (run_on u code o j)
  runs_by (Makes within row k) = stays_so u (Makes within row k) refl tt
  runs_by (Takes turn within row k) = stays_so u (Takes turn within row k) refl tt
  runs_by (Asides none may is k) = stays_so u (Asides none may is k) refl tt
  runs_by {o = o} (Begins {h = h} none) = begins_by h (settles_by u (head_typed u at code h o))
  runs_by (Ends none other) = stays_so u (Ends none other) refl (ends_gone _ other)
  runs_by (Halts none) = stays_so u (Halts none) refl refl
  runs_by (Rests is resting) = absurd (cc is)
  runs_by (Marks {n = i} row k) = notes_on u i row (runs_by k)
  runs_by {o = o} (Asks {f = f} k) = looks_on u f (runs_by (k o))
  runs_by (Slips row k) = decides_on u row (runs_by k)

module _ (u : Who) where
  -- an operation with no decision before it
  does_so : {w to : Work} {o : Own} {a : Act} {x : ℕ} {j : Job} → Does u o w a x to → IsSettled u to → Works u None to o j → Stepped u w o a x j
  does_so row owed works = record { from = _; to = _; before = Stay; none = refl; row = row; owed = owed; works = works }

  -- an operation of a job that goes by the table, and its answer
  pub steps_by : {w : Work} {o : Own} {j : Job} (x : ℕ) → Works u None w o j → has_ended j ≡ false → is_ready j ≡ true → Stepped u w o (first_act j) x (job_after j x)
  steps_by x (Makes within row k) runs ready = does_so (Row within (row x)) (step_settled u (row x)) (k x)
  steps_by {w = w} {o = o} x (Takes {w' = to} {j = j} turn within row k) runs ready = go (x == 0) refl
    where
      go : (b : Bool) → (x == 0) ≡ b → Stepped u w o (Change (turn_item turn) 0 (u.p + 1)) x (if b then j else Again (Change (turn_item turn) 0 (u.p + 1)) 0 j)
      go true won = does_so (Won turn within row (eqb-true x 0 won)) (wins_settled u row).1 k
      go false lost = does_so (Lost turn within row (eqb-false x 0 lost)) (wins_settled u row).0 (Takes turn within row k)
  steps_by x (Asides none may is k) runs ready = does_so (Aside may is) tt (k x)
  steps_by x (Slips row k) runs ready =
      let r = steps_by x k runs ready in
      record { from = r.from; to = r.to; before = Decides row r.before; none = r.none; row = r.row; owed = r.owed; works = r.works }
  steps_by x (Rests is resting) runs ready = absurd (cc is)
  steps_by x (Begins none) runs ready = absurd (cc ready)
  steps_by x (Ends none other) runs ready = absurd (cc runs)
  steps_by x (Halts none) runs ready = absurd (cc runs)
  steps_by x (Marks row k) runs ready = absurd (cc ready)
  steps_by x (Asks k) runs ready = absurd (cc ready)
