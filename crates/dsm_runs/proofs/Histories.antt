-- The traces of every state are those of its log.
use Rattle.std.proofs.Common.{◌≡◌, ◌⊎◌, inl, inr, ℕ, zero, suc, ◌+◌, ◌*◌, Bool, true, false, List, [], ◌∷◌, ◌++◌, map, length, drop, Option, Some, None, refl, sym, ap, ◌∙◌, subst, slice_get, append_assoc}
use Rattle.std.proofs.lemmas.Bool.{cases_eq}
use Rattle.std.proofs.lemmas.List.{append-nil}
use Rattle.std.proofs.Math.Seq.{drop-append_seam, drop-length}
use Rattle.dsm_words.specs.Words.{reply}
use Rattle.dsm_isa.specs.declared.instr.Instr.{Instr}
use Rattle.dsm_entry.specs.declared.entry.Entry.{Entry}
use Rattle.dsm_local.specs.Readers.{next_action}
use Rattle.dsm_flat.specs.Order.{found_in, entry_at}
use Rattle.dsm_flat.proofs.History.{Log, mine, IsHistory}
use Rattle.dsm_protocol.specs.declared.head.Head.{Head}
use Rattle.dsm_protocol.specs.declared.head.Head.TheVariants.{Instruction, Locking, Looking}
use Rattle.dsm_protocol.specs.Own.{Own, Who, setting_of, new_own}
use Rattle.dsm_protocol.specs.Jobs.{Note, Give, Go, Move, Append, Map_own, Soil, Clean, Join, Count, Happen, Job, Make, Again, Mark, Ask, Begin, Ended, own_after, job_after}
use Rattle.dsm_protocol.specs.Steps.{head_job}
use Rattle.dsm_protocol.proofs.Settling.{settled_action}
use Rattle.dsm_protocol.specs.Processors.{Processor, settled, begun, run_on, new_processor, wanting, after_given}
use Rattle.dsm_runs.specs.Setups.{Setup, lay_in, who_at}
use Rattle.dsm_runs.specs.Clusters.{Cluster, Event, stays, start, answer, act_in, moved, after_loose, after_all_loose}
use Rattle.dsm_runs.proofs.Lists.{slice_get-set_same, slice_get-map-range_with_len}
use Rattle.dsm_runs.proofs.Events.{by_cases, leaves_processors}
use Rattle.dsm_runs.proofs.Logs.{onto, traced, trace_at, log_after, log_of, every_log, mine-onto_own, mine-onto_other}

-- a trace with more entries at its end
abbrev pub Grows : List Entry → List Entry → Type 0
Grows t u = (es : List Entry) × (u ≡ t ++ es)

Grows-same : (t : List Entry) → Grows t t
Grows-same t = ([], sym (append-nil t))

Grows-trans : (t u v : List Entry) → Grows t u → Grows u v → Grows t v
Grows-trans t u v g h = (g.0 ++ h.0, h.1 ∙ ap (λ x. x ++ h.0) g.1 ∙ append_assoc t g.0 h.0)

note_grows : (o : Own) (n : Note) → Grows o.trace (own_after o n).trace
note_grows o (Give d v) = Grows-same o.trace
note_grows o (Go to) = Grows-same o.trace
note_grows o Move = Grows-same o.trace
note_grows o (Append e) = (e ∷ [], refl)
note_grows o (Map_own page mode) = Grows-same o.trace
note_grows o (Soil page) = Grows-same o.trace
note_grows o (Clean page) = Grows-same o.trace
note_grows o (Join pages) = Grows-same o.trace
note_grows o (Count tally) = Grows-same o.trace
note_grows o (Happen moment) = Grows-same o.trace

settled_grows : (j : Job) (o : Own) → Grows o.trace (settled o j).own.trace
settled_grows (Make a k) o = Grows-same o.trace
settled_grows (Again a wanted j) o = Grows-same o.trace
settled_grows (Mark n j) o = Grows-trans o.trace (own_after o n).trace _ (note_grows o n) (settled_grows j (own_after o n))
settled_grows (Ask f) o = settled_grows (f o) o
settled_grows (Begin h) o = Grows-same o.trace
settled_grows (Ended e) o = Grows-same o.trace

begun_grows : (u : Who) (code : List Instr) (o : Own) (j : Job) → Grows o.trace (begun u code o j).own.trace
begun_grows u code o (Make a k) = Grows-same o.trace
begun_grows u code o (Again a wanted j) = Grows-same o.trace
begun_grows u code o (Mark n j) = Grows-same o.trace
begun_grows u code o (Ask f) = Grows-same o.trace
begun_grows u code o (Begin h) = settled_grows (head_job u code h) o
begun_grows u code o (Ended e) = Grows-same o.trace

run_grows : (u : Who) (code : List Instr) (o : Own) (j : Job) → Grows o.trace (run_on u code o j).own.trace
run_grows u code o j = Grows-trans o.trace (settled o j).own.trace _ (settled_grows j o) (begun_grows u code (settled o j).own (settled o j).todo)

given_grows : (u : Who) (code : List Instr) (m : Processor) (starved : Bool) (x : ℕ) → Grows m.own.trace (after_given u code m (record { starved = starved; got = x })).own.trace
given_grows u code m true x = run_grows u code m.own (job_after (wanting u true m).todo x)
given_grows u code m false x = run_grows u code m.own (job_after m.todo x)

-- what a processor holds when it begins a head stays until the operation that the head begins with
pub head_own : (u : Who) (code : List Instr) (o : Own) (h : Head) → (settled o (head_job u code h)).own ≡ o
head_own u code o Instruction = ap (λ m. m.own) (settled_action u o (next_action code (setting_of u) o.reader))
head_own u code o (Locking l) = refl
head_own u code o (Looking of need) = refl

module _ (s : Setup) where
  -- an event appends to its processor's trace alone
  pub event_grows : (c : Cluster) (e : Event) (any : Option ℕ) → Grows (trace_at c e.p) (trace_at (after_loose s c e any) e.p)
  event_grows c e any =
      by_cases s c e any (λ d. Grows (trace_at c e.p) (trace_at d e.p)) (Grows-same (trace_at c e.p))
      (λ m here goes.
      let g = given_grows (who_at s e.p) s.program.code m e.starved _ in
      (g.0, ap traced (slice_get-set_same c.processors e.p m _ here) ∙ g.1 ∙ ap (λ o. traced o ++ g.0) (sym here)))

  -- each trace is what the log has of its processor
  abbrev pub AllTraced : Cluster → Log → Type 0
  AllTraced c log = (p : ℕ) → trace_at c p ≡ mine p log

  pub event_traced : (c : Cluster) (e : Event) (any : Option ℕ) (log : Log) → AllTraced c log → AllTraced (after_loose s c e any) (log_after s c e any log)
  event_traced c e any log all p = go (cases_eq p e.p)
    where
      old : List Entry
      old = trace_at c e.p

      new : List Entry
      new = trace_at (after_loose s c e any) e.p

      grown : old ++ drop (length old) new ≡ new
      grown =
          let g = event_grows c e any in
          ap (λ t. old ++ drop (length old) t) g.1 ∙ ap (λ t. old ++ t) (drop-append_seam old g.0) ∙ sym g.1

      go : (p ≡ e.p) ⊎ (p ≡ e.p → ⊥) → trace_at (after_loose s c e any) p ≡ mine p (log_after s c e any log)
      go (inl is) =
          let own : mine e.p (log_after s c e any log) ≡ new = mine-onto_own e.p (drop (length old) new) log ∙ ap (λ t. t ++ drop (length old) new) (sym (all e.p)) ∙ grown in
          ap (λ q. trace_at (after_loose s c e any) q) is ∙ sym own ∙ ap (λ q. mine q (log_after s c e any log)) (sym is)
      go (inr ne) =
          ap traced (leaves_processors s c e any p ne) ∙ all p ∙ sym (mine-onto_other e.p p (drop (length old) new) log ne)

  pub start_traced : AllTraced (start s) []
  unfolding start
  start_traced p = go (slice_get (start s).processors p) refl
    where
      new : ℕ → Processor
      new q = new_processor (who_at s q) s.program.code

      go : (o : Option Processor) → slice_get (start s).processors p ≡ o → traced o ≡ []
      go None at = refl
      go (Some m) at = ap (λ x. x.own.trace) (slice_get-map-range_with_len new (s.nodes * s.procs) 0 p m at) ∙ ap (λ o. o.trace) (head_own (who_at s (0 + p)) s.program.code new_own Instruction)

  -- whatever the events, a processor's trace is what the log has of it, and the log has nothing of one that there is not
  pub traces_are : (events : List (Event × Option ℕ)) (p : ℕ) → trace_at (after_all_loose s (start s) events) p ≡ mine p (log_of s events)
  traces_are events = every_log s AllTraced event_traced events (start s) [] start_traced

-- the traces of these processors
abbrev pub traces_of : List Processor → List (List Entry)
traces_of ps = map (λ m. m.own.trace) ps

found_traced : (ps : List Processor) (p i : ℕ) → found_in (slice_get (traces_of ps) p) i ≡ slice_get (traced (slice_get ps p)) i
found_traced [] p i = refl
found_traced (m ∷ ps) zero i = refl
found_traced (m ∷ ps) (suc p) i = found_traced ps p i

-- whatever the events, the traces hold, at each place, what the log has there
pub is_history : (s : Setup) (events : List (Event × Option ℕ)) → IsHistory (log_of s events) (traces_of (after_all_loose s (start s) events).processors)
is_history s events x e =
    let ps = (after_all_loose s (start s) events).processors in
    let same : entry_at (traces_of ps) x ≡ slice_get (mine x.p (log_of s events)) x.i = found_traced ps x.p x.i ∙ ap (λ t. slice_get t x.i) (traces_are s events x.p) in
    (λ h. sym same ∙ h, λ h. same ∙ h)

-- What holds of a state and its log, and of the state and log after the event of each processor that may go, holds behind the event.
pub by_logged : (s : Setup) (c : Cluster) (e : Event) (any : Option ℕ) (log : Log) (P : Cluster → Log → Type 0) → P c log
    → ((m : Processor) (es : List Entry) → slice_get c.processors e.p ≡ Some m → stays e.starved m.todo ≡ false
    → (after_given (who_at s e.p) s.program.code m (record { starved = e.starved; got = answer any (act_in s e m) (reply (lay_in s) c.words (act_in s e m)) })).own.trace ≡ m.own.trace ++ es → P (moved s c e any m) (onto e.p es log))
    → P (after_loose s c e any) (log_after s c e any log)
by_logged s c e any log P same one =
    by_cases s c e any (λ d. P d (onto e.p (drop (length old) (trace_at d e.p)) log))
    (subst (λ es. P c (onto e.p es log)) (sym (drop-length old)) same)
    (λ m here goes.
    let g = given_grows (who_at s e.p) s.program.code m e.starved (answer any (act_in s e m) (reply (lay_in s) c.words (act_in s e m))) in
    let new : trace_at (moved s c e any m) e.p ≡ old ++ g.0 = ap traced (slice_get-set_same c.processors e.p m _ here) ∙ g.1 ∙ ap (λ o. traced o ++ g.0) (sym here) in
    let more : drop (length old) (trace_at (moved s c e any m) e.p) ≡ g.0 = ap (drop (length old)) new ∙ drop-append_seam old g.0 in
    subst (λ es. P (moved s c e any m) (onto e.p es log)) (sym more) (one m g.0 here goes g.1))
  where
    old : List Entry
    old = trace_at c e.p

-- two lists of entries that make one trace of another are one
pub entries_one : (t u v : List Entry) → t ++ u ≡ t ++ v → u ≡ v
entries_one t u v e = sym (drop-append_seam t u) ∙ ap (drop (length t)) e ∙ drop-append_seam t v
