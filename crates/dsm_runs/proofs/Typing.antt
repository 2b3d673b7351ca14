-- What each operation of a processor, with its answer, leaves in its trace.
use Rattle.std.proofs.Common.{◌≡◌, ℕ, ◌==◌, Bool, true, false, List, [], ◌∷◌, ◌++◌, refl, sym, ap, subst, ◌∙◌, if◌then◌else◌, append_assoc}
use Rattle.std.proofs.lemmas.List.{append-nil}
use Rattle.dsm_isa.specs.declared.instr.Instr.{Instr}
use Rattle.dsm_entry.specs.declared.entry.Entry.{Entry}
use Rattle.dsm_words.specs.Script.{Act}
use Rattle.dsm_protocol.specs.declared.head.Head.{Head}
use Rattle.dsm_protocol.specs.declared.head.Head.TheVariants.{Instruction}
use Rattle.dsm_protocol.specs.Own.{Own, Who, new_own}
use Rattle.dsm_protocol.specs.Jobs.{Note, Give, Go, Move, Append, Map_own, Soil, Clean, Join, Count, Happen, Job, Make, Again, Mark, Ask, Begin, Ended, own_after, first_act, job_after, has_ended}
use Rattle.dsm_protocol.specs.Steps.{head_job, starved_job}
use Rattle.dsm_protocol.specs.Processors.{processor_of, Processor, Given, settled, run_on, new_processor, wanting, after_given}
use Rattle.dsm_runs.specs.Clusters.{stays}
use Rattle.dsm_runs.proofs.Alive.{alive, wanting_is}
use Rattle.dsm_runs.proofs.Histories.{head_own}

-- the entries of an event, with those of this change
abbrev pub entries_after : List Entry → Note → List Entry
entries_after es (Append e) = es ++ e ∷ []
entries_after es _ = es

trace_after : (t es : List Entry) (o : Own) (n : Note) → o.trace ≡ t ++ es → (own_after o n).trace ≡ t ++ entries_after es n
trace_after t es o (Give d v) is = is
trace_after t es o (Go to) is = is
trace_after t es o Move is = is
trace_after t es o (Append e) is = ap (λ x. x ++ e ∷ []) is ∙ append_assoc t es (e ∷ [])
trace_after t es o (Map_own page mode) is = is
trace_after t es o (Soil page) is = is
trace_after t es o (Clean page) is = is
trace_after t es o (Join pages) is = is
trace_after t es o (Count tally) is = is
trace_after t es o (Happen moment) is = is

-- A rule for processors that are at some stage: `Allows` says, of an operation and its answer, which entries it may leave and which stage
-- is next, and `Comes` which head may begin at a stage.
module _ {Stage : Type 0} (Allows : Stage → Act → ℕ → List Entry → Stage → Type 0) (Comes : Stage → Head → Type 0) where
  -- in the event of operation a with answer x, which has left es so far, the job keeps the rule
  abbrev pub Keeps : Stage → Act → ℕ → List Entry → Own → Job → Type 0
  Keeps i a x es o (Make b k) = (j : Stage) × Allows i a x es j × ((y : ℕ) → Keeps j b y [] o (k y))
  Keeps i a x es o (Again b wanted k) = (j : Stage) × Allows i a x es j × ((y : ℕ) → Allows j b y [] j) × ((y : ℕ) → Keeps j b y [] o k)
  Keeps i a x es o (Mark n k) = Keeps i a x (entries_after es n) (own_after o n) k
  Keeps i a x es o (Ask f) = Keeps i a x es o (f o)
  Keeps i a x es o (Begin h) = (j : Stage) × Allows i a x es j × Comes j h
  Keeps i a x es o (Ended e) = (j : Stage) × Allows i a x es j

  -- a job that stands before an operation, or has ended, keeps it
  abbrev pub Stands : Stage → Own → Job → Type 0
  Stands i o (Make b k) = (y : ℕ) → Keeps i b y [] o (k y)
  Stands i o (Again b wanted k) = ((y : ℕ) → Allows i b y [] i) × ((y : ℕ) → Keeps i b y [] o k)
  Stands i o (Ended e) = Unit {0}
  Stands i o _ = ⊥

  abbrev pub StandsAt : Stage → Processor → Type 0
  StandsAt i m = Stands i m.own m.todo

  -- what an event is to its processor: the entries that it leaves, and the next stage
  pub record Step (i : Stage) (a : Act) (x : ℕ) (t : List Entry) (new : Processor) : Type 0 where
    pub entries : List Entry
    pub next : Stage
    pub grown : new.own.trace ≡ t ++ entries
    pub allowed : Allows i a x entries next
    pub stands : StandsAt next new

  -- the rule is kept at each head, and by a processor that is starved
  pub record IsRule (u : Who) (code : List Instr) : Type 0 where
    pub heads : (i : Stage) (o : Own) (h : Head) → Comes i h → StandsAt i (settled o (head_job u code h))
    pub starved : (i : Stage) (o : Own) → Stands i o (starved_job u)

  module _ (u : Who) (code : List Instr) (rule : IsRule u code) where
    run_step : (j : Job) (o : Own) (i : Stage) (a : Act) (x : ℕ) (t es : List Entry) → Keeps i a x es o j → o.trace ≡ t ++ es → Step i a x t (run_on u code o j)
    run_step (Make b k) o i a x t es h is = record { entries = es; next = h.0; grown = is; allowed = h.1; stands = h.2 }
    run_step (Again b wanted k) o i a x t es h is = record { entries = es; next = h.0; grown = is; allowed = h.1; stands = (h.2, h.3) }
    run_step (Mark n k) o i a x t es h is = run_step k (own_after o n) i a x t (entries_after es n) h (trace_after t es o n is)
    run_step (Ask f) o i a x t es h is = run_step (f o) o i a x t es h is
    run_step (Begin b) o i a x t es h is =
        record { entries = es; next = h.0; grown = ap (λ q. q.trace) (head_own u code o b) ∙ is; allowed = h.1; stands = rule.heads h.0 o b h.2 }
    run_step (Ended e) o i a x t es h is = record { entries = es; next = h.0; grown = is; allowed = h.1; stands = tt }

    answered : (o : Own) (j : Job) (i : Stage) (x : ℕ) → Stands i o j → has_ended j ≡ false → Step i (first_act j) x o.trace (run_on u code o (job_after j x))
    answered o (Make b k) i x h runs = run_step (k x) o i b x o.trace [] (h x) (sym (append-nil o.trace))
    answered o (Again b wanted k) i x h runs = go (x == wanted)
      where
        go : (c : Bool) → Step i b x o.trace (run_on u code o (if c then k else Again b wanted k))
        go true = run_step k o i b x o.trace [] (h.1 x) (sym (append-nil o.trace))
        go false = record { entries = []; next = i; grown = sym (append-nil o.trace); allowed = h.0 x; stands = h }
    answered o (Mark n k) i x h runs = absurd h
    answered o (Ask f) i x h runs = absurd h
    answered o (Begin b) i x h runs = absurd h
    answered o (Ended e) i x h runs = absurd (cc runs)

    -- one event of a processor that stands and may go
    pub event_step : (i : Stage) (m : Processor) (g : Given) → StandsAt i m → stays g.starved m.todo ≡ false → Step i (first_act (wanting u g.starved m).todo) g.got m.own.trace (after_given u code m g)
    event_step i m g h goes = go g.starved goes
      where
        go : (b : Bool) → stays b m.todo ≡ false → Step i (first_act (wanting u b m).todo) g.got m.own.trace (run_on u code (wanting u b m).own (job_after (wanting u b m).todo g.got))
        go true is =
            subst (λ n. Step i (first_act n.todo) g.got m.own.trace (run_on u code n.own (job_after n.todo g.got))) (sym (wanting_is u m (alive true m.todo is)))
            (answered m.own (starved_job u) i g.got (rule.starved i m.own) refl)
        go false is = answered m.own m.todo i g.got h is

    -- one that has done nothing
    pub new_stands : (i : Stage) → Comes i Instruction → StandsAt i (new_processor u code)
    new_stands i comes = rule.heads i new_own Instruction comes

    behind : (i : Stage) (m : Processor) (g : Given) → StandsAt i m → (j : Stage) × StandsAt j (after_given u code m g)
    behind i m g h = go g.starved
      where
        after : (o : Own) (j : Job) → Stands i o j → has_ended j ≡ false → (n : Stage) × StandsAt n (run_on u code o (job_after j g.got))
        after o j s runs = let step = answered o j i g.got s runs in (step.next, step.stands)

        told : (o : Own) (j : Job) → Stands i o j → (n : Stage) × StandsAt n (run_on u code o (job_after j g.got))
        told o (Make b k) s = after o (Make b k) s refl
        told o (Again b wanted k) s = after o (Again b wanted k) s refl
        told o (Ended e) s = (i, tt)
        told o (Mark n k) s = absurd s
        told o (Ask f) s = absurd s
        told o (Begin b) s = absurd s

        go : (b : Bool) → (n : Stage) × StandsAt n (run_on u code (wanting u b m).own (job_after (wanting u b m).todo g.got))
        go true = wants (has_ended m.todo)
          where
            wants : (b : Bool) → (let t = if b then m.todo else starved_job u in (n : Stage) × StandsAt n (run_on u code m.own (job_after t g.got)))
            wants true = told m.own m.todo h
            wants false = told m.own (starved_job u) (rule.starved i m.own)
        go false = told m.own m.todo h

    -- whatever it was given, a processor stands
    pub made_stands : (i : Stage) → Comes i Instruction → (gs : List Given) → (j : Stage) × StandsAt j (processor_of u code gs)
    unfolding processor_of
    made_stands i comes [] = (i, new_stands i comes)
    made_stands i comes (g ∷ gs) = let h = made_stands i comes gs in behind h.0 (processor_of u code gs) g h.1
