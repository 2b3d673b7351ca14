-- A reader that follows a trace step by step finds whether it is the trace of a reader.
use Rattle.std.proofs.Common.{◌≡◌, ℕ, zero, suc, ◌+◌, ◌==◌, ◌↔◌, List, [], ◌∷◌, ◌++◌, Option, None, Some, length, length-append, append-nil, append_assoc, refl, sym, ap, subst, ◌∙◌, arith, take, drop, slice_get, Bool, true, false, if◌then◌else◌, ◌&&◌, ◌≤◌, nat_le}
use Rattle.std.proofs.lemmas.Bool.{eq-eqb, eqb-true, and_parts}
use Rattle.std.proofs.lemmas.Bool.Decides.{nat_tests}
use Rattle.std.proofs.lemmas.List.{length-take-le, nil_from_length, take-append-drop}
use Rattle.dsm_isa.specs.declared.instr.Instr.{Instr}
use Rattle.dsm_entry.specs.declared.entry.Entry.{Entry}
use Rattle.dsm_entry.specs.declared.entry.Entry.TheVariants.{Load, Store, Signal, Pass, Out}
use Rattle.dsm_entry.specs.declared.entry.Obj.TheVariants.{Lock, Barrier, Flag, Close}
use Rattle.dsm_local.specs.declared.action.Action.{Action}
use Rattle.dsm_local.specs.declared.action.Action.TheVariants.{Set, Jump, LoadWord, StoreWord, Print, TakeLock, GiveLock, Meet, RaiseFlag, WaitFlag, Arrive}
use Rattle.dsm_local.specs.declared.end.End.{End}
use Rattle.dsm_local.specs.declared.end.End.TheVariants.{Trapped, Spent, NoMemory}
use Rattle.dsm_local.specs.declared.following.Step.{Step}
use Rattle.dsm_local.specs.declared.reader.Reader.{Reader}
use Rattle.dsm_local.specs.declared.setting.Setting.{Setting}
use Rattle.dsm_local.specs.declared.stand.Stand.{Stand}
use Rattle.dsm_local.specs.declared.stand.Stand.TheVariants.{Before, Met, Arrived, Passed}
use Rattle.dsm_local.specs.Following.{follow, follow_leaving, follow_pass, step_of}
use Rattle.dsm_local.specs.Local.{Reads, starts, sets, jumps, loads, stores, prints, locks, unlocks, raises, waits, meets, leaves, arrives, passes, Stops, MayEnd, LocalTo}
use Rattle.dsm_local.specs.Readers.{new_reader, jumped, moved, given, opened, closed, next_action}

-- the first entry, where there is one
abbrev pub first : List Entry → Option Entry
first [] = None
first (e ∷ t) = Some e

-- from this stand, step by step, the reader takes this trace and may have this end
pub data Follows (code : List Instr) (s : Setting) (end : Option End) : Stand → List Entry → Type 0 where
  stays : {stand : Stand} → MayEnd code s stand end → Follows code s end stand []
  steps : {stand : Stand} {t : List Entry} (step : Step) → step_of code s stand (first t) ≡ Some step → Follows code s end step.stand (drop step.takes t) → Follows code s end stand t

taken_load : (r : Reader) (d w v : ℕ) (a : Action) → a ≡ LoadWord d w → follow r a (Some (Load w v)) ≡ Some (record { stand = Before (given r d v); takes = 1 })
taken_load r d w v a is = rw (is, eq-eqb w w refl) refl

taken_store : (r : Reader) (w v : ℕ) (a : Action) → a ≡ StoreWord w v → follow r a (Some (Store w v)) ≡ Some (record { stand = Before (moved r); takes = 1 })
taken_store r w v a is = rw (is, eq-eqb w w refl, eq-eqb v v refl) refl

taken_print : (r : Reader) (v : ℕ) (a : Action) → a ≡ Print v → follow r a (Some (Out v)) ≡ Some (record { stand = Before (moved r); takes = 1 })
taken_print r v a is = rw (is, eq-eqb v v refl) refl

taken_lock : (r : Reader) (l c : ℕ) (a : Action) → a ≡ TakeLock l → follow r a (Some (Pass (Lock l) c)) ≡ Some (record { stand = Before (moved (opened r l c)); takes = 1 })
taken_lock r l c a is = rw (is, eq-eqb l l refl) refl

taken_unlock : (r : Reader) (l k : ℕ) (a : Action) → a ≡ GiveLock l k → follow r a (Some (Signal (Lock l) k)) ≡ Some (record { stand = Before (moved (closed r l)); takes = 1 })
taken_unlock r l k a is = rw (is, eq-eqb l l refl, eq-eqb k k refl) refl

taken_raise : (r : Reader) (f j : ℕ) (a : Action) → a ≡ RaiseFlag f → follow r a (Some (Signal (Flag f) j)) ≡ Some (record { stand = Before (moved r); takes = 1 })
taken_raise r f j a is = rw (is, eq-eqb f f refl) refl

taken_wait : (r : Reader) (f need c : ℕ) (a : Action) → a ≡ WaitFlag f need → need ≤ c → follow r a (Some (Pass (Flag f) c)) ≡ Some (record { stand = Before (moved r); takes = 1 })
taken_wait r f need c a is enough =
    let met : nat_le need c ≡ true = grind (arith, nat_tests) in
    rw (is, eq-eqb f f refl, met) refl

taken_meeting : (r : Reader) (b j : ℕ) (a : Action) → a ≡ Meet b → follow r a (Some (Signal (Barrier b) j)) ≡ Some (record { stand = Met (moved r) b; takes = 1 })
taken_meeting r b j a is = rw (is, eq-eqb b b refl) refl

taken_leaving : (r : Reader) (b c : ℕ) → follow_leaving r b (Some (Pass (Barrier b) c)) ≡ Some (record { stand = Before r; takes = 1 })
taken_leaving r b c = rw (eq-eqb b b refl) refl

-- what is read is followed: a trace that ends as the rest says is one from the start
pub Follows-reads : (code : List Instr) (s : Setting) (end : Option End) {stand : Stand} {t : List Entry} (rest : List Entry) → Reads code s stand t → Follows code s end stand rest → Follows code s end (Before new_reader) (t ++ rest)
Follows-reads code s end rest starts k = k
Follows-reads code s end rest (sets {r = r} d v h is) k = Follows-reads code s end rest h (steps (record { stand = Before (given r d v); takes = 0 }) (rw is refl) k)
Follows-reads code s end rest (jumps {r = r} to h is) k = Follows-reads code s end rest h (steps (record { stand = Before (jumped r to); takes = 0 }) (rw is refl) k)
Follows-reads code s end rest (loads {r = r} {t = t} d w v h is) k = rw append_assoc (Follows-reads code s end (Load w v ∷ rest) h (steps (record { stand = Before (given r d v); takes = 1 }) (taken_load r d w v (next_action code s r) is) k))
Follows-reads code s end rest (stores {r = r} {t = t} w v h is) k = rw append_assoc (Follows-reads code s end (Store w v ∷ rest) h (steps (record { stand = Before (moved r); takes = 1 }) (taken_store r w v (next_action code s r) is) k))
Follows-reads code s end rest (prints {r = r} {t = t} v h is) k = rw append_assoc (Follows-reads code s end (Out v ∷ rest) h (steps (record { stand = Before (moved r); takes = 1 }) (taken_print r v (next_action code s r) is) k))
Follows-reads code s end rest (locks {r = r} {t = t} l c h is) k = rw append_assoc (Follows-reads code s end (Pass (Lock l) c ∷ rest) h (steps (record { stand = Before (moved (opened r l c)); takes = 1 }) (taken_lock r l c (next_action code s r) is) k))
Follows-reads code s end rest (unlocks {r = r} {t = t} l n h is) k = rw append_assoc (Follows-reads code s end (Signal (Lock l) n ∷ rest) h (steps (record { stand = Before (moved (closed r l)); takes = 1 }) (taken_unlock r l n (next_action code s r) is) k))
Follows-reads code s end rest (raises {r = r} {t = t} f j h is) k = rw append_assoc (Follows-reads code s end (Signal (Flag f) j ∷ rest) h (steps (record { stand = Before (moved r); takes = 1 }) (taken_raise r f j (next_action code s r) is) k))
Follows-reads code s end rest (waits {r = r} {t = t} f need c h is enough) k = rw append_assoc (Follows-reads code s end (Pass (Flag f) c ∷ rest) h (steps (record { stand = Before (moved r); takes = 1 }) (taken_wait r f need c (next_action code s r) is enough) k))
Follows-reads code s end rest (meets {r = r} {t = t} b j h is) k = rw append_assoc (Follows-reads code s end (Signal (Barrier b) j ∷ rest) h (steps (record { stand = Met (moved r) b; takes = 1 }) (taken_meeting r b j (next_action code s r) is) k))
Follows-reads code s end rest (leaves {r = r} {t = t} b c h) k = rw append_assoc (Follows-reads code s end (Pass (Barrier b) c ∷ rest) h (steps (record { stand = Before r; takes = 1 }) (taken_leaving r b c) k))
Follows-reads code s end rest (arrives {r = r} {t = t} j h is) k = rw append_assoc (Follows-reads code s end (Signal Close j ∷ rest) h (steps (record { stand = Arrived; takes = 1 }) (rw is refl) k))
Follows-reads code s end rest (passes {t = t} c h) k = rw append_assoc (Follows-reads code s end (Pass Close c ∷ rest) h (steps (record { stand = Passed; takes = 1 }) refl k))

-- where there is no step, nothing is left, and the end agrees
pub Follows-stuck : (code : List Instr) (s : Setting) (end : Option End) {stand : Stand} {t : List Entry} → Follows code s end stand t → step_of code s stand (first t) ≡ None → (t ≡ []) × MayEnd code s stand end
Follows-stuck code s end (stays may) none = (refl, may)
Follows-stuck code s end (steps step is k) none = absurd (let e : Some step ≡ None = sym is ∙ none in cc)

-- an action that takes no entry, and goes on
abbrev IsSilent : Action → Type 0
IsSilent (Set d v) = Unit {0}
IsSilent (Jump to) = Unit {0}
IsSilent _ = ⊥

-- before such an action there is no end but for want of memory
NoMemory-alone : (place : ℕ) (a : Action) (e : End) → IsSilent a → Stops place a e → e ≡ NoMemory
NoMemory-alone place a NoMemory silent may = refl
NoMemory-alone place (Set d v) (Trapped k kind) silent may = absurd (cc may.1)
NoMemory-alone place (Jump to) (Trapped k kind) silent may = absurd (cc may.1)
NoMemory-alone place (Set d v) Spent silent may = absurd (cc may)
NoMemory-alone place (Jump to) Spent silent may = absurd (cc may)
NoMemory-alone place (Set d v) _ silent may = absurd may
NoMemory-alone place (Jump to) _ silent may = absurd may
NoMemory-alone place _ _ silent may = absurd silent

NoMemory-anywhere : (code : List Instr) (s : Setting) (stand : Stand) → MayEnd code s stand (Some NoMemory)
NoMemory-anywhere code s (Before r) = tt
NoMemory-anywhere code s (Met r b) = tt
NoMemory-anywhere code s Arrived = tt
NoMemory-anywhere code s Passed = tt

-- an end that a reader may have before such an action is one that it may have anywhere
MayEnd-anywhere : (code : List Instr) (s : Setting) (r : Reader) (a : Action) (stand : Stand) (end : Option End) → next_action code s r ≡ a → IsSilent a → MayEnd code s (Before r) end → MayEnd code s stand end
MayEnd-anywhere code s r a stand None is silent may = tt
MayEnd-anywhere code s r a stand (Some e) is silent may =
    let alone : e ≡ NoMemory = NoMemory-alone r.place a e silent (subst (λ (x : Action). Stops r.place x e) is may) in
    rw alone (NoMemory-anywhere code s stand)

-- a step where the trace ends leaves the end that a reader may have
MayEnd-action : (code : List Instr) (s : Setting) (r : Reader) (a : Action) (end : Option End) (step : Step) → next_action code s r ≡ a → follow r a None ≡ Some step → MayEnd code s (Before r) end → MayEnd code s step.stand end
MayEnd-action code s r (Set d v) end step is goes may = MayEnd-anywhere code s r (Set d v) step.stand end is tt may
MayEnd-action code s r (Jump to) end step is goes may = MayEnd-anywhere code s r (Jump to) step.stand end is tt may
MayEnd-action code s r _ end step is goes may = absurd (cc goes)

MayEnd-step : (code : List Instr) (s : Setting) (stand : Stand) (end : Option End) (step : Step) → step_of code s stand None ≡ Some step → MayEnd code s stand end → MayEnd code s step.stand end
MayEnd-step code s (Before r) end step is may = MayEnd-action code s r (next_action code s r) end step refl is may
MayEnd-step code s (Met r b) end step is may = absurd (cc is)
MayEnd-step code s Arrived end step is may = absurd (cc is)
MayEnd-step code s Passed end step is may = absurd (cc is)

drop-none : (k : ℕ) → drop k [] ≡ (let none : List Entry = [] in none)
drop-none zero = refl
drop-none (suc k) = refl

-- behind a step it follows the rest
pub Follows-step : (code : List Instr) (s : Setting) (end : Option End) {stand : Stand} {t : List Entry} (step : Step) → Follows code s end stand t → step_of code s stand (first t) ≡ Some step → Follows code s end step.stand (drop step.takes t)
Follows-step code s end {stand = stand} step (stays may) is = rw (drop-none step.takes) (stays (MayEnd-step code s stand end step is may))
Follows-step code s end {t = t} step (steps other is k) this =
    let same : Some other ≡ Some step = sym is ∙ this in
    let equal : other ≡ step = cc in
    subst (λ (x : Step). Follows code s end x.stand (drop x.takes t)) equal k

-- a reader that has taken a part of the trace stands here, and only a reader that follows the rest has done the trace
pub record IsAt (code : List Instr) (s : Setting) (end : Option End) (trace : List Entry) (stand : Stand) (taken : ℕ) : Type 0 where
  pub past : List Entry
  pub rest : List Entry
  pub whole : trace ≡ past ++ rest
  pub many : length past ≡ taken
  pub read : Reads code s stand past
  pub only : LocalTo code s trace end → Follows code s end stand rest

pub IsAt-start : (code : List Instr) (s : Setting) (end : Option End) (trace : List Entry) → IsAt code s end trace (Before new_reader) 0
IsAt-start code s end trace = record {
  past = [];
  rest = trace;
  whole = refl;
  many = refl;
  read = starts;
  only = λ (stand, read, may). rw (← append-nil trace) (Follows-reads code s end [] read (stays may));
}

-- the entry behind the past ones is the first of the rest
slice_get-seam : (past rest : List Entry) → slice_get (past ++ rest) (length past) ≡ first rest
slice_get-seam [] [] = refl
slice_get-seam [] (e ∷ rest) = refl
slice_get-seam (x ∷ past) rest = slice_get-seam past rest

-- what a step leads to: the reader has taken its entries too, which there are
abbrev Leads : List Instr → Setting → List Entry → List Entry → Step → Type 0
Leads code s past rest step = Reads code s step.stand (past ++ take step.takes rest) × (step.takes ≤ length rest)

Leads-along : (code : List Instr) (s : Setting) (past rest : List Entry) (this step : Step) → Some this ≡ Some step → Leads code s past rest this → Leads code s past rest step
Leads-along code s past rest this step is h = let same : this ≡ step = cc in subst (λ (x : Step). Leads code s past rest x) same h

-- a test that is made for a step was met
tested : (b : Bool) (this step : Step) → (if b then Some this else None) ≡ Some step → (b ≡ true) × (Some this ≡ Some step)
tested true this step is = (refl, is)
tested false this step is = absurd (cc is)

Leads-silent : (code : List Instr) (s : Setting) (past rest : List Entry) (stand : Stand) → Reads code s stand past → Leads code s past rest (record { stand = stand; takes = 0 })
Leads-silent code s past rest stand h = (rw append-nil h, omega arith)

Leads-load : (code : List Instr) (s : Setting) (r : Reader) (past t : List Entry) (step : Step) (d w x v : ℕ) → Reads code s (Before r) past → next_action code s r ≡ LoadWord d w → follow r (LoadWord d w) (Some (Load x v)) ≡ Some step → Leads code s past (Load x v ∷ t) step
Leads-load code s r past t step d w x v h is goes =
    let this : Step = record { stand = Before (given r d v); takes = 1 } in
    let met = tested (x == w) this step goes in
    let same : x ≡ w = eqb-true x w met.0 in
    Leads-along code s past (Load x v ∷ t) this step met.1 (rw same (loads d w v h is), omega arith)

Leads-store : (code : List Instr) (s : Setting) (r : Reader) (past t : List Entry) (step : Step) (w v x y : ℕ) → Reads code s (Before r) past → next_action code s r ≡ StoreWord w v → follow r (StoreWord w v) (Some (Store x y)) ≡ Some step → Leads code s past (Store x y ∷ t) step
Leads-store code s r past t step w v x y h is goes =
    let this : Step = record { stand = Before (moved r); takes = 1 } in
    let met = tested ((x == w) && (y == v)) this step goes in
    let word : x ≡ w = eqb-true x w (and_parts (x == w) (y == v) met.0).0 in
    let value : y ≡ v = eqb-true y v (and_parts (x == w) (y == v) met.0).1 in
    Leads-along code s past (Store x y ∷ t) this step met.1 (rw (word, value) (stores w v h is), omega arith)

Leads-print : (code : List Instr) (s : Setting) (r : Reader) (past t : List Entry) (step : Step) (v y : ℕ) → Reads code s (Before r) past → next_action code s r ≡ Print v → follow r (Print v) (Some (Out y)) ≡ Some step → Leads code s past (Out y ∷ t) step
Leads-print code s r past t step v y h is goes =
    let this : Step = record { stand = Before (moved r); takes = 1 } in
    let met = tested (y == v) this step goes in
    let same : y ≡ v = eqb-true y v met.0 in
    Leads-along code s past (Out y ∷ t) this step met.1 (rw same (prints v h is), omega arith)

Leads-lock : (code : List Instr) (s : Setting) (r : Reader) (past t : List Entry) (step : Step) (l x c : ℕ) → Reads code s (Before r) past → next_action code s r ≡ TakeLock l → follow r (TakeLock l) (Some (Pass (Lock x) c)) ≡ Some step → Leads code s past (Pass (Lock x) c ∷ t) step
Leads-lock code s r past t step l x c h is goes =
    let this : Step = record { stand = Before (moved (opened r l c)); takes = 1 } in
    let met = tested (x == l) this step goes in
    let same : x ≡ l = eqb-true x l met.0 in
    Leads-along code s past (Pass (Lock x) c ∷ t) this step met.1 (rw same (locks l c h is), omega arith)

Leads-unlock : (code : List Instr) (s : Setting) (r : Reader) (past t : List Entry) (step : Step) (l k x j : ℕ) → Reads code s (Before r) past → next_action code s r ≡ GiveLock l k → follow r (GiveLock l k) (Some (Signal (Lock x) j)) ≡ Some step → Leads code s past (Signal (Lock x) j ∷ t) step
Leads-unlock code s r past t step l k x j h is goes =
    let this : Step = record { stand = Before (moved (closed r l)); takes = 1 } in
    let met = tested ((x == l) && (j == k)) this step goes in
    let lock : x ≡ l = eqb-true x l (and_parts (x == l) (j == k) met.0).0 in
    let count : j ≡ k = eqb-true j k (and_parts (x == l) (j == k) met.0).1 in
    Leads-along code s past (Signal (Lock x) j ∷ t) this step met.1 (rw (lock, count) (unlocks l k h is), omega arith)

Leads-raise : (code : List Instr) (s : Setting) (r : Reader) (past t : List Entry) (step : Step) (f x j : ℕ) → Reads code s (Before r) past → next_action code s r ≡ RaiseFlag f → follow r (RaiseFlag f) (Some (Signal (Flag x) j)) ≡ Some step → Leads code s past (Signal (Flag x) j ∷ t) step
Leads-raise code s r past t step f x j h is goes =
    let this : Step = record { stand = Before (moved r); takes = 1 } in
    let met = tested (x == f) this step goes in
    let same : x ≡ f = eqb-true x f met.0 in
    Leads-along code s past (Signal (Flag x) j ∷ t) this step met.1 (rw same (raises f j h is), omega arith)

Leads-wait : (code : List Instr) (s : Setting) (r : Reader) (past t : List Entry) (step : Step) (f need x c : ℕ) → Reads code s (Before r) past → next_action code s r ≡ WaitFlag f need → follow r (WaitFlag f need) (Some (Pass (Flag x) c)) ≡ Some step → Leads code s past (Pass (Flag x) c ∷ t) step
Leads-wait code s r past t step f need x c h is goes =
    let this : Step = record { stand = Before (moved r); takes = 1 } in
    let met = tested ((x == f) && nat_le need c) this step goes in
    let parts = and_parts (x == f) (nat_le need c) met.0 in
    let same : x ≡ f = eqb-true x f parts.0 in
    let enough : need ≤ c = let passed = parts.1 in grind (arith, nat_tests) in
    Leads-along code s past (Pass (Flag x) c ∷ t) this step met.1 (rw same (waits f need c h is enough), omega arith)

Leads-meeting : (code : List Instr) (s : Setting) (r : Reader) (past t : List Entry) (step : Step) (b x j : ℕ) → Reads code s (Before r) past → next_action code s r ≡ Meet b → follow r (Meet b) (Some (Signal (Barrier x) j)) ≡ Some step → Leads code s past (Signal (Barrier x) j ∷ t) step
Leads-meeting code s r past t step b x j h is goes =
    let this : Step = record { stand = Met (moved r) b; takes = 1 } in
    let met = tested (x == b) this step goes in
    let same : x ≡ b = eqb-true x b met.0 in
    Leads-along code s past (Signal (Barrier x) j ∷ t) this step met.1 (rw same (meets b j h is), omega arith)

Leads-action : (code : List Instr) (s : Setting) (r : Reader) (past rest : List Entry) (step : Step) (a : Action) → Reads code s (Before r) past → next_action code s r ≡ a → follow r a (first rest) ≡ Some step → Leads code s past rest step
Leads-action code s r past rest step (Set d v) h is goes = Leads-along code s past rest _ step goes (Leads-silent code s past rest (Before (given r d v)) (sets d v h is))
Leads-action code s r past rest step (Jump to) h is goes = Leads-along code s past rest _ step goes (Leads-silent code s past rest (Before (jumped r to)) (jumps to h is))
Leads-action code s r past (Load x v ∷ t) step (LoadWord d w) h is goes = Leads-load code s r past t step d w x v h is goes
Leads-action code s r past (Store x y ∷ t) step (StoreWord w v) h is goes = Leads-store code s r past t step w v x y h is goes
Leads-action code s r past (Out y ∷ t) step (Print v) h is goes = Leads-print code s r past t step v y h is goes
Leads-action code s r past (Pass (Lock x) c ∷ t) step (TakeLock l) h is goes = Leads-lock code s r past t step l x c h is goes
Leads-action code s r past (Signal (Lock x) j ∷ t) step (GiveLock l k) h is goes = Leads-unlock code s r past t step l k x j h is goes
Leads-action code s r past (Signal (Flag x) j ∷ t) step (RaiseFlag f) h is goes = Leads-raise code s r past t step f x j h is goes
Leads-action code s r past (Pass (Flag x) c ∷ t) step (WaitFlag f need) h is goes = Leads-wait code s r past t step f need x c h is goes
Leads-action code s r past (Signal (Barrier x) j ∷ t) step (Meet b) h is goes = Leads-meeting code s r past t step b x j h is goes
Leads-action code s r past (Signal Close j ∷ t) step Arrive h is goes = Leads-along code s past (Signal Close j ∷ t) _ step goes (arrives j h is, omega arith)
Leads-action code s r past _ step _ h is goes = absurd (cc goes)

Leads-leaving : (code : List Instr) (s : Setting) (r : Reader) (b : ℕ) (past rest : List Entry) (step : Step) → Reads code s (Met r b) past → follow_leaving r b (first rest) ≡ Some step → Leads code s past rest step
Leads-leaving code s r b past (Pass (Barrier x) c ∷ t) step h goes =
    let this : Step = record { stand = Before r; takes = 1 } in
    let met = tested (x == b) this step goes in
    let same : x ≡ b = eqb-true x b met.0 in
    Leads-along code s past (Pass (Barrier x) c ∷ t) this step met.1 (rw same (leaves b c h), omega arith)
Leads-leaving code s r b past _ step h goes = absurd (cc goes)

Leads-pass : (code : List Instr) (s : Setting) (past rest : List Entry) (step : Step) → Reads code s Arrived past → follow_pass (first rest) ≡ Some step → Leads code s past rest step
Leads-pass code s past (Pass Close c ∷ t) step h goes = Leads-along code s past (Pass Close c ∷ t) _ step goes (passes c h, omega arith)
Leads-pass code s past _ step h goes = absurd (cc goes)

Leads-step : (code : List Instr) (s : Setting) (stand : Stand) (past rest : List Entry) (step : Step) → Reads code s stand past → step_of code s stand (first rest) ≡ Some step → Leads code s past rest step
Leads-step code s (Before r) past rest step h goes = Leads-action code s r past rest step (next_action code s r) h refl goes
Leads-step code s (Met r b) past rest step h goes = Leads-leaving code s r b past rest step h goes
Leads-step code s Arrived past rest step h goes = Leads-pass code s past rest step h goes
Leads-step code s Passed past rest step h goes = absurd (cc goes)

-- a step that is asked for with the entry behind the taken ones is that of the first of the rest
asked : (code : List Instr) (s : Setting) (end : Option End) (trace : List Entry) (stand : Stand) (taken : ℕ) (next : Option Entry) (h : IsAt code s end trace stand taken) → next ≡ slice_get trace taken → step_of code s stand (first h.rest) ≡ step_of code s stand next
asked code s end trace stand taken next h is =
    let there : first h.rest ≡ next = sym (slice_get-seam h.past h.rest) ∙ sym (is ∙ ap (λ l. slice_get l taken) h.whole ∙ ap (slice_get (h.past ++ h.rest)) (sym h.many)) in
    rw there refl

pub IsAt-step : (code : List Instr) (s : Setting) (end : Option End) (trace : List Entry) (stand : Stand) (taken : ℕ) (next : Option Entry) (step : Step) → IsAt code s end trace stand taken → next ≡ slice_get trace taken → Some step ≡ step_of code s stand next → IsAt code s end trace step.stand (taken + step.takes)
IsAt-step code s end trace stand taken next step h is goes =
    let goes_on : step_of code s stand (first h.rest) ≡ Some step = asked code s end trace stand taken next h is ∙ sym goes in
    let leads = Leads-step code s stand h.past h.rest step h.read goes_on in
    record {
      past = h.past ++ take step.takes h.rest;
      rest = drop step.takes h.rest;
      whole = h.whole ∙ sym (append_assoc h.past (take step.takes h.rest) (drop step.takes h.rest) ∙ ap (λ l. h.past ++ l) (take-append-drop step.takes h.rest));
      many = length-append h.past (take step.takes h.rest) ∙ ap (λ n. length h.past + n) (length-take-le step.takes h.rest leads.1) ∙ ap (λ n. n + step.takes) h.many;
      read = leads.0;
      only = λ local. Follows-step code s end step (h.only local) goes_on;
    }

-- the entries that were taken are entries of the trace
pub IsAt-within : (code : List Instr) (s : Setting) (end : Option End) (trace : List Entry) (stand : Stand) (taken : ℕ) → IsAt code s end trace stand taken → taken ≤ length trace
IsAt-within code s end trace stand taken h =
    let long = ap length h.whole ∙ length-append h.past h.rest in
    omega (arith, long, h.many)

-- where there is no further step, the trace is one of a reader exactly where all of it was taken and the end agrees
pub IsAt-end : (code : List Instr) (s : Setting) (end : Option End) (trace : List Entry) (stand : Stand) (taken : ℕ) (next : Option Entry) → IsAt code s end trace stand taken → next ≡ slice_get trace taken → None ≡ step_of code s stand next
    → ((taken ≡ length trace) × MayEnd code s stand end) ↔ LocalTo code s trace end
IsAt-end code s end trace stand taken next h is none = (yes, only)
  where
    long : length trace ≡ length h.past + length h.rest
    long = ap length h.whole ∙ length-append h.past h.rest

    yes : (taken ≡ length trace) × MayEnd code s stand end → LocalTo code s trace end
    yes (all, may) =
        let nothing : length h.rest ≡ 0 = omega (arith, long, h.many, all) in
        let rest_is : h.rest ≡ [] = nil_from_length h.rest nothing in
        let past_is : h.past ≡ trace = sym (h.whole ∙ ap (λ l. h.past ++ l) rest_is ∙ append-nil h.past) in
        (stand, subst (Reads code s stand) past_is h.read, may)

    only : LocalTo code s trace end → (taken ≡ length trace) × MayEnd code s stand end
    only local =
        let stops : step_of code s stand (first h.rest) ≡ None = asked code s end trace stand taken next h is ∙ sym none in
        let stuck = Follows-stuck code s end (h.only local) stops in
        let nothing : length h.rest ≡ 0 = ap length stuck.0 in
        (omega (arith, long, h.many, nothing), stuck.1)
