-- Along a step the deeds and the traces go on alike.
use Rattle.std.proofs.Common.{◌≡◌, ℕ, ◌+◌, ◌*◌, ◌<◌, ◌==◌, Bool, true, false, List, [], ◌∷◌, ◌++◌, map, Option, None, Some, refl, sym, ap, ◌∙◌, subst, if◌then◌else◌}
use Rattle.std.specs.Prelude.{◌&&◌}
use Rattle.std.proofs.lemmas.Bool.{eq-eqb}
use Rattle.dsm_entry.specs.declared.entry.Entry.TheVariants.{Load as LoadOf, Store as StoreOf, Signal as SignalOf, Pass as PassOf}
use Rattle.dsm_words.specs.Script.{Act}
use Rattle.dsm_flat.specs.Logs.{Log}
use Rattle.dsm_clock.specs.declared.turns.TurnId.{TurnId}
use Rattle.dsm_protocol.specs.Own.{Who, node_of}
use Rattle.dsm_protocol.specs.Jobs.{Note, Append}
use Rattle.dsm_protocol.specs.Stages.{Cause, Fault, Closing, Whole, Copying, Copied, Posted, Lowering, Filling, Filled, Round, Holder, Closes, Work, Off, On, departed}
use Rattle.dsm_protocol.specs.Rows.{Step, Wins, Slip, Noted, loads, stores, faults, stops, fetched, told, filled, appends_load, appends_store, signals, admits, arrives, dismisses, passes, quits, counts, ends, IsPlain, departs, seeks_holder}
use Rattle.dsm_copies.specs.Copies as W
use Rattle.dsm_copies.specs.Joining.{onto, deeds_in, deeds_of}
use Rattle.dsm_debts.specs.Page as D
use Rattle.dsm_debts.specs.Page.{State, Event, Store, Signal}
use Rattle.dsm_debts.specs.Joining.{Move, At, Other, events_of}
use Rattle.dsm_releases.specs.Events as R
use Rattle.dsm_twoway.specs.Events.{only, place_of, is_away, step_others, step_node, step_value, step_moves, slip_node, slip_moves, note_moves}
use Rattle.dsm_twoway.specs.Views.{pending, coming}
use Rattle.dsm_twoway.proofs.Shapes.{Shape, nothing, at_page, step_shape, slip_shape, is_store}
use Rattle.dsm_twoway.proofs.Deeds.{only_done, others_done, none_added, step_done, is_load, store_at_place, signal_at_place, word_is}

-- where it stands the trace says all, and no moment of an entry is to come
abbrev pub Said : (a p : ℕ) → Work → Type 0
Said a p w = (pending a p w ≡ []) × (coming p w ≡ [])

-- deeds and traces agree, where what is pending is an entry, and what is coming is an event
abbrev pub Alike : (a p : ℕ) → Work → List W.Event → List W.Event → Type 0
Alike a p w done log = coming p w ++ done ≡ pending a p w ++ log

-- what is added to both where the trace says all
pub go_on : (a p : ℕ) (w v : Work) (done log new : List W.Event) → Said a p w → Said a p v → new ≡ [] → Alike a p w done log → Alike a p v (new ++ done) log
go_on a p w v done log new said says none alike =
    ap (λ x. x ++ (new ++ done)) says.1 ∙ (ap (λ x. x ++ done) none ∙ (sym (ap (λ x. x ++ done) said.1) ∙ (alike ∙ (ap (λ x. x ++ log) said.0 ∙ sym (ap (λ x. x ++ log) says.0)))))

if_none : (c : Bool) (x y : Work) (a p : ℕ) → Said a p x → Said a p y → Said a p (if c then x else y)
if_none true x y a p s t = s
if_none false x y a p s t = t

module _ (a p : ℕ) (u : Who) {maps : List ℕ} {dirty : List Bool} where
  pub step_from : {w : Work} {b : Act} {x : ℕ} {v : Work} → Step u maps dirty w b x v → Said a p w
  step_from stops = (refl, refl)
  step_from step = (refl, refl)

  pub slip_said : {w v : Work} → Slip u maps dirty w v → Said a p w × Said a p v
  slip_said ends = ((refl, refl), (refl, refl))
  slip_said slip = ((refl, refl), (refl, refl))

said_departed : (a p : ℕ) (r : Round) (k : ℕ) (c : Cause) (j : ℕ) → Said a p (departed r k c j)
said_departed a p r k (Fault write h busy) j = (refl, refl)
said_departed a p r k Closing j = (refl, refl)

said_holder : (a p k j : ℕ) (c : Bool) → Said a p (Off (if c then Holder k j else Closes k (j + 1)))
said_holder a p k j true = (refl, refl)
said_holder a p k j false = (refl, refl)

module _ (h g i a p : ℕ) (u : Who) {maps : List ℕ} {dirty : List Bool} where
  pub step_to : {w : Work} {b : Act} {x : ℕ} {v : Work} (step : Step u maps dirty w b x v) (n : ℕ) (f : State) → is_load h g i u step ≡ false → is_store h n g i u f step ≡ false → Said a p v
  step_to (loads e) n f y z = absurd (cc y)
  step_to (stores e) n f y z = absurd (cc z)
  step_to (departs {r = r} {g = k} {j = j} {c = c}) n f y z = said_departed a p r k c j
  step_to (seeks_holder {g = k} {j = j} {x = x}) n f y z = said_holder a p k j (x == 2)
  step_to step n f y z = (refl, refl)

-- an entry that is noted, and the log behind it
abbrev pub logged : ℕ → Note → Log → Log
logged p (Append e) log = record { p = p; e = e } ∷ log
logged p n log = log

plain_logged : (a p : ℕ) (n : Note) (log : Log) → IsPlain None n → deeds_of a (logged p n log) ≡ deeds_of a log
plain_logged a p (Append (LoadOf b x)) log i = absurd i
plain_logged a p (Append (StoreOf b x)) log i = absurd i
plain_logged a p (Append (SignalOf o j)) log i = absurd i
plain_logged a p (Append (PassOf o j)) log i = absurd i
plain_logged a p (Append e) log i = refl
plain_logged a p n log i = refl

onto_if : (c : Bool) (e : W.Event) (log : List W.Event) → (if c then e ∷ [] else []) ++ log ≡ onto (if c then Some e else None) log
onto_if true e log = refl
onto_if false e log = refl

load_done : (c : Bool) (p x : ℕ) → deeds_in (only c (W.Load p x)) ++ [] ≡ (if c then W.Load p x ∷ [] else [])
load_done true p x = refl
load_done false p x = refl

module _ (place : ℕ → Option ℕ) (first top : Option ℕ → ℕ) (f : Option ℕ → State) where
  abbrev added : List Move → List W.Event
  added ms = deeds_in (events_of place first top f ms)

  store_done : (k : Option ℕ) (v q : ℕ) (c : Bool) → added (map (At k v) (R.only c (Store q))) ≡ (if c then W.Store q v ∷ [] else [])
  store_done k v q true = ap (λ o. deeds_in (onto o [])) (store_at_place k (f k).page.work v q)
  store_done k v q false = refl

  signal_done : (k : Option ℕ) (v q : ℕ) (c : Bool) → c ≡ true → added (map (At k v) (R.only c (Signal q))) ≡ W.Signal q ∷ []
  signal_done k v q true e = ap (λ o. deeds_in (onto o [])) (signal_at_place k (f k).page.work v q)
  signal_done k v q false e = absurd (cc e)

  module _ (h g i : ℕ) (u : Who) (i_in : i < u.lay.words) where
    abbrev address : ℕ
    address = g * u.lay.words + i

    -- a row
    module _ {maps : List ℕ} {dirty : List Bool} where
      quiet_alike : {w : Work} {b : Act} {x : ℕ} {v : Work} (step : Step u maps dirty w b x v) → is_load h g i u step ≡ false → is_store h (step_node h g i u step) g i u (f (place_of h (step_node h g i u step))) step ≡ false → (done log : List W.Event)
          → Alike address u.p w done log → Alike address u.p v (added (step_moves h g i u f step) ++ done) log
      quiet_alike {w = w} {v = v} step y z done log alike =
          let k = step_node h g i u step in
          go_on address u.p w v done log (added (step_moves h g i u f step)) (step_from address u.p u step) (step_to h g i address u.p u step k (f (place_of h k)) y z)
          (none_added place first top f (step_others h g i u step) k k (step_value h g i u step) h (R.step_events h k g i u (f (place_of h k)) step) (step_done h g i u step y)
          (subst (λ b. Shape k k b (R.step_events h k g i u (f (place_of h k)) step)) z (step_shape h k g i u (f (place_of h k)) step)))
          alike

      pub row_alike : {w : Work} {b : Act} {x : ℕ} {v : Work} (step : Step u maps dirty w b x v) (done log : List W.Event) → Alike address u.p w done log → Alike address u.p v (added (step_moves h g i u f step) ++ done) log
      row_alike (loads {a = b} {x = x} e) done log alike =
          let new = others_done place first top f (only (R.is_word h (node_of u) g i u b) (W.Load u.p x)) [] ∙ load_done (R.is_word h (node_of u) g i u b) u.p x ∙ ap (λ c. if c then W.Load u.p x ∷ [] else []) (word_is b g i u.lay.words i_in) in
          ap (λ z. z ++ done) new ∙ ap (λ z. (if b == address then W.Load u.p x ∷ [] else []) ++ z) alike
      row_alike (stores {a = b} {v = v} e) done log alike =
          let own : (node_of u == node_of u && R.is_word h (node_of u) g i u b) ≡ (b == address) = ap (λ c. c && R.is_word h (node_of u) g i u b) (eq-eqb (node_of u) (node_of u) refl) ∙ word_is b g i u.lay.words i_in in
          let new = store_done (place_of h (node_of u)) v u.p (node_of u == node_of u && R.is_word h (node_of u) g i u b) ∙ ap (λ c. if c then W.Store u.p v ∷ [] else []) own in
          ap (λ z. z ++ done) new ∙ ap (λ z. (if b == address then W.Store u.p v ∷ [] else []) ++ z) alike
      row_alike step done log alike = quiet_alike step refl refl done log alike

      pub slip_alike : {w v : Work} (slip : Slip u maps dirty w v) (done log : List W.Event) → Alike address u.p w done log → Alike address u.p v (added (slip_moves h g i u f slip) ++ done) log
      slip_alike {w = w} {v = v} slip done log alike =
          let k = slip_node h g i u slip in
          go_on address u.p w v done log (added (slip_moves h g i u f slip)) (slip_said address u.p u slip).0 (slip_said address u.p u slip).1
          (none_added place first top f [] k k 0 h (R.slip_events h k g i u (f (place_of h k)) slip) refl (slip_shape h k g i u (f (place_of h k)) slip)) alike

      pub win_alike : {w : Work} {t : TurnId} {v : Work} (win : Wins u maps dirty w t v) (done log : List W.Event) → Alike address u.p w done log → Alike address u.p v done log
      win_alike (faults e) done log alike = alike
      win_alike win done log alike = alike

    -- a note
    quiet_note : (w v : Work) (os : List W.Event) (es : List Event) (done log : List W.Event) → Said address u.p w → Said address u.p v → deeds_in os ≡ [] → Shape (node_of u) (node_of u) false es → Alike address u.p w done log → Alike address u.p v (added (map Other os ++ map (At (place_of h (node_of u)) 0) es) ++ done) log
    quiet_note w v os es done log said says none shape alike = go_on address u.p w v done log (added (map Other os ++ map (At (place_of h (node_of u)) 0) es)) said says (none_added place first top f os (node_of u) (node_of u) 0 h es none shape) alike

    pub note_alike : {w : Work} {e : Note} {v : Work} (noted : Noted u None w e v) (done : List W.Event) (log : Log) → Alike address u.p w done (deeds_of address log) → Alike address u.p v (added (note_moves h g i u noted) ++ done) (deeds_of address (logged u.p e log))
    note_alike (appends_load {w = b} {x = x} none) done log alike = alike ∙ onto_if (b == address) (W.Load u.p x) (deeds_of address log)
    note_alike (appends_store {w = b} {v = x} none) done log alike = alike ∙ onto_if (b == address) (W.Store u.p x) (deeds_of address log)
    note_alike (signals none other) done log alike = ap (λ z. z ++ done) (signal_done (place_of h (node_of u)) 0 u.p (node_of u == node_of u) (eq-eqb (node_of u) (node_of u) refl)) ∙ ap (λ z. W.Signal u.p ∷ z) alike
    note_alike (arrives none) done log alike = ap (λ z. z ++ done) (signal_done (place_of h (node_of u)) 0 u.p (node_of u == node_of u) (eq-eqb (node_of u) (node_of u) refl)) ∙ ap (λ z. W.Signal u.p ∷ z) alike
    note_alike (admits none other) done log alike = ap (λ z. W.Pass u.p ∷ z) alike
    note_alike (dismisses none) done log alike = ap (λ z. W.Pass u.p ∷ z) alike
    note_alike (passes none) done log alike = alike
    note_alike (quits none) done log alike = alike
    note_alike (fetched {r = r} {g = k} {h = h'} {t = t} {write = write} {twin = twin}) done log alike = quiet_note (On r k (Copying write h' t twin u.lay.words Whole)) (On r k (Copied write h' t)) (only (is_away h g i u k) (W.Op (node_of u))) [] done (deeds_of address log) (refl, refl) (refl, refl) (only_done (is_away h g i u k) (W.Op (node_of u)) refl) (nothing (node_of u) (node_of u)) alike
    note_alike (told {r = r} {g = k} {h = h'} {flushed = flushed} e) done log alike = quiet_note (On r k (Posted h' flushed)) (On r k (Lowering flushed)) [] (R.only (k == g && node_of u == node_of u) D.Tell) done (deeds_of address log) (refl, refl) (refl, refl) refl (at_page (node_of u) (node_of u) false D.Tell refl (k == g)) alike
    note_alike (filled {r = r} {g = k} {h = h'} {t = t}) done log alike = quiet_note (On r k (Filling h' t u.lay.words Whole)) (On r k (Filled t)) [] (R.only (k == g && node_of u == node_of u) D.Enter) done (deeds_of address log) (refl, refl) (refl, refl) refl (at_page (node_of u) (node_of u) false D.Enter refl (k == g)) alike
    note_alike (counts {w = w} {n = n} plain) done log alike = alike ∙ ap (λ z. pending address u.p w ++ z) (sym (plain_logged address u.p n log plain))
    note_alike noted done log alike = alike
