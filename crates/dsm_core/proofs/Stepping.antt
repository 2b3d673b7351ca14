-- One step of the code is one event.
use Rattle.std.proofs.Common.{◌≡◌, ℕ, ◌<◌, Bool, true, false, List, length, map, get_or, Option, Some, None, refl, sym, ap, ◌∙◌, subst, ◌==◌, if◌then◌else◌}
use Rattle.std.specs.Prelude.{slice_get, slice_set, IsTrue, IsSome, is_some}
use Rattle.std.proofs.lemmas.Bool.{eqb-true, eqb-false}
use Rattle.std.proofs.lemmas.List.{set-get_or, map-set}
use Rattle.std.proofs.lemmas.Option.{slice_get_read, slice_get-map}
use Rattle.dsm_isa.specs.ProgramText.{ProgramText}
use Rattle.dsm_words.specs.declared.op.Op.{Op}
use Rattle.dsm_words.specs.declared.item.Item.TheVariants.{Frame, Twin}
use Rattle.dsm_words.specs.Place.{lay_of}
use Rattle.dsm_words.specs.Script.{Act, Get}
use Rattle.dsm_words.specs.Words.{done, reply}
use Rattle.dsm_machine.specs.declared.machine.Machine.{Machine}
use Rattle.dsm_machine.specs.Machines.{who, processor_in}
use Rattle.dsm_protocol.specs.Own.{Who}
use Rattle.dsm_protocol.specs.Jobs.{Job, Make, Again, Mark, Ask, Begin, Ended, end_of, has_ended, first_act, held_turn}
use Rattle.dsm_protocol.specs.Processors.{Processor, op_unless, ending, wanting, after_answer}
use Rattle.dsm_runs.specs.Setups.{Setup, lay_in, who_at}
use Rattle.dsm_runs.specs.Clusters.{Cluster, Event, answer, act_in, stays, after_loose}
use Rattle.dsm_core.specs.declared.state.State.{State}
use Rattle.dsm_core.specs.declared.state.Step.{Step}
use Rattle.dsm_core.specs.declared.state.Step.TheVariants.{Did, NoMemory}
use Rattle.dsm_core.specs.States.{IsEvent, Stepped, IsFor, setup_in, cluster_in}
use Rattle.dsm_runs.proofs.Lists.{slice_get-set_same, slice_get-set_other, some_one}

-- an answer that is not given is that of the words
answer_none : (a : Act) (x : ℕ) → answer None a x ≡ x
answer_none (Get (Frame n g i)) x = refl
answer_none (Get (Twin n g i)) x = refl
answer_none a x = refl

-- what an event leaves of its processor, which may have wanted memory before
abbrev behind : Setup → List ℕ → Who → Processor → Processor
behind s ws u m = after_answer u s.program.code m (reply u.lay ws (first_act m.todo))

module _ (s : Setup) (ws : List ℕ) (ps : List Processor) (p : ℕ) (starved : Bool) (m : Processor) where
  abbrev event : Event
  event = record { p = p; starved = starved }

  abbrev here : Who
  here = who_at s p

  abbrev old : Cluster
  old = record { words = ws; processors = ps }

  goes_event : slice_get ps p ≡ Some m → stays starved m.todo ≡ false → IsEvent s old (record { words = done (lay_in s) ws (act_in s event m); processors = slice_set ps p (behind s ws here (wanting here starved m)) }) event
  unfolding after_loose
  goes_event at goes =
      let is = answer_none (act_in s event m) (reply (lay_in s) ws (act_in s event m)) in
      (rw (at, goes) refl, rw (at, goes) (λ i. record { words = done (lay_in s) ws (act_in s event m); processors = slice_set ps p (after_answer here s.program.code (wanting here starved m) (sym is i)) }))

  -- the same, where who it is and what it then stands before are known by equations
  pub is_event : (u : Who) (mid new : Processor) (words : List ℕ) → slice_get ps p ≡ Some m → stays starved m.todo ≡ false → u ≡ who_at s p → mid ≡ wanting u starved m
      → words ≡ done u.lay ws (first_act mid.todo) → new ≡ after_answer u s.program.code mid (reply u.lay ws (first_act mid.todo)) → IsEvent s (record { words = ws; processors = ps }) (record { words = words; processors = slice_set ps p new }) (record { p = p; starved = starved })
  is_event u mid new words at goes who is w n =
      let e = goes_event at goes in
      let a : words ≡ done (lay_in s) ws (act_in s event m) = w ∙ ap (λ x. done u.lay ws (first_act x.todo)) is ∙ ap (λ v. done v.lay ws (first_act (wanting v starved m).todo)) who in
      let b : new ≡ behind s ws here (wanting here starved m) = n ∙ ap (λ x. behind s ws u x) is ∙ ap (λ v. behind s ws v (wanting v starved m)) who in
      (e.0, (λ i. record { words = a i; processors = slice_set ps p (b i) }) ∙ e.1)

-- a processor whose end has come has ended, and one whose end has not come has not
pub ended_some : (j : Job) → IsSome (end_of j) → IsTrue (has_ended j)
ended_some (Ended e) h = refl
ended_some (Make a k) h = absurd (cc h)
ended_some (Again a wanted j) h = absurd (cc h)
ended_some (Mark n j) h = absurd (cc h)
ended_some (Ask f) h = absurd (cc h)
ended_some (Begin g) h = absurd (cc h)

pub ended_none : (j : Job) → end_of j ≡ None → has_ended j ≡ false
ended_none (Ended e) h = absurd (cc h)
ended_none (Make a k) h = refl
ended_none (Again a wanted j) h = refl
ended_none (Mark n j) h = refl
ended_none (Ask f) h = refl
ended_none (Begin g) h = refl

-- there is nothing where nothing is found
pub none_is : {A : Type 0} (o : Option A) → is_some o ≡ false → o ≡ None
none_is None h = refl
none_is (Some x) h = absurd (cc h)

-- so it may go on, and be starved where it then holds no turn
pub may : (starved : Bool) (j : Job) → end_of j ≡ None → (IsTrue starved → held_turn j ≡ None) → stays starved j ≡ false
may false j h free = ended_none j h
may true j h free = let none = free refl in rw (ended_none j h, none) refl

-- the answer of a step that made an event
pub stepped : (s : Setup) (old new : Cluster) (p : ℕ) (starved : Bool) (r : Step) → r ≡ (if starved then NoMemory else Did) → IsEvent s old new (record { p = p; starved = starved }) → Stepped s old new p r
stepped s old new p true r is e = subst (Stepped s old new p) (sym is) e
stepped s old new p false r is e = subst (Stepped s old new p) (sym is) e

-- machine p of a state, whatever a caller wants to see of it: it is put back as it was, and has its number
module _ (st : State) (p : ℕ) (m : Machine) (inside : p < length st.machines.items) (is : m ≡ get_or st.machines.items p m) where
  at_machine : slice_get st.machines.items p ≡ Some m
  at_machine = slice_get_read st.machines.items (length st.machines.items) p m refl inside is

  pub at_processor : (f : Machine → Processor) → slice_get (map f st.machines.items) p ≡ Some (f m)
  at_processor f = slice_get-map f st.machines.items p ∙ rw at_machine refl

  pub put_back : {X : Type 0} (f : Machine → X) → map f (slice_set st.machines.items p m) ≡ map f st.machines.items
  put_back f = ap (map f) (ap (slice_set st.machines.items p) is ∙ set-get_or st.machines.items p m)

  pub who_is : who m ≡ record { lay = lay_of st.lay; p = p; limits = st.limits }
  who_is = st.numbered p m at_machine

  -- each machine has its number still, where another with the same number is put there
  pub still_numbered : (new : Machine) → who new ≡ who m → (k : ℕ) (x : Machine) → slice_get (slice_set st.machines.items p new) k ≡ Some x → who x ≡ record { lay = lay_of st.lay; p = k; limits = st.limits }
  still_numbered new same k x at = go (k == p) refl
    where
      go : (b : Bool) → (k == p) ≡ b → who x ≡ record { lay = lay_of st.lay; p = k; limits = st.limits }
      go true e =
          let one : k ≡ p = eqb-true k p e in
          let put : slice_get (slice_set st.machines.items p new) k ≡ Some new = rw one (slice_get-set_same st.machines.items p m new at_machine) in
          ap who (some_one x new (sym at ∙ put)) ∙ same ∙ who_is ∙ ap (λ n. record { lay = lay_of st.lay; p = n; limits = st.limits }) (sym one)
      go false e = st.numbered k x (sym (slice_get-set_other st.machines.items p k new (eqb-false k p e)) ∙ at)

  -- it makes room or starves, and then acts
  pub step_event : (program : ProgramText) (starved : Bool) (mid new : Machine) (words : List ℕ)
      → IsFor st program
      → ending (processor_in m program.code) ≡ None
      → (IsTrue starved → held_turn (processor_in m program.code).todo ≡ None)
      → who mid ≡ who m
      → processor_in mid program.code ≡ wanting (who m) starved (processor_in m program.code)
      → words ≡ done (who mid).lay st.words.items (first_act (processor_in mid program.code).todo)
      → processor_in new program.code ≡ after_answer (who mid) program.code (processor_in mid program.code) (reply (who mid).lay st.words.items (first_act (processor_in mid program.code).todo))
      → IsEvent (setup_in st program) (cluster_in st program.code) (record { words = words; processors = map (λ k. processor_in k program.code) (slice_set st.machines.items p new) }) (record { p = p; starved = starved })
  step_event program starved mid new words for runs free same wants w n =
      let f : Machine → Processor = λ k. processor_in k program.code in
      let ps : List Processor = map f st.machines.items in
      let here : who mid ≡ who_at (setup_in st program) p = same ∙ who_is ∙ ap (λ l. record { lay = l; p = p; limits = st.limits }) for in
      let wanted : f mid ≡ wanting (who mid) starved (f m) = wants ∙ ap (λ u. wanting u starved (f m)) (sym same) in
      let e = is_event (setup_in st program) st.words.items ps p starved (f m) (who mid) (f mid) (f new) words (at_processor f) (may starved (f m).todo runs free) here wanted w n in
      (e.0, (λ i. record { words = words; processors = map-set f st.machines.items p new i }) ∙ e.1)

-- the operation of one that has not ended
pub op_is : (ended : Bool) (op x : Op) → Some x ≡ op_unless ended op → x ≡ op
op_is true op x is = absurd (cc is)
op_is false op x is = some_one x op is
