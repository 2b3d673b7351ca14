-- What a processor does in one event keeps the log legal.
use Rattle.std.proofs.Common.{◌≡◌, ◌≢◌, ◌↔◌, ℕ, ◌<◌, ◌≤◌, ◌==◌, Bool, true, false, List, [], ◌∷◌, ◌++◌, Option, Some, None, length, refl, sym, ap, ◌∙◌, subst, if◌then◌else◌, arith, length-set}
use Rattle.std.specs.Prelude.{slice_set, option_and_then}
use Rattle.std.proofs.lemmas.Bool.{eqb-true, eqb-false}
use Rattle.std.proofs.lemmas.Option.{some_pair_parts, slice_get-get_or}
use Rattle.dsm_entry.specs.declared.entry.Obj.TheVariants.{Lock, Barrier, Flag, Close}
use Rattle.dsm_entry.specs.declared.entry.Entry.{Entry}
use Rattle.dsm_entry.specs.declared.entry.Entry.TheVariants.{Load, Store, Signal, Pass, Out}
use Rattle.dsm_isa.specs.declared.instr.Instr.{Instr}
use Rattle.dsm_isa.specs.Rules.{ObjectsInside}
use Rattle.dsm_flat.proofs.History.{Log, mine, mine_own}
use Rattle.dsm_flat.proofs.Legal.{held_by, holder, Turned, Other, Taken, Given, turned, Allowed}
use Rattle.dsm_local.specs.declared.reader.Reader.{Reader}
use Rattle.dsm_words.specs.Place.{processors}
use Rattle.dsm_words.specs.Script.{Act, Put, Change, Add}
use Rattle.dsm_protocol.specs.Own.{Own, Who, reader_after}
use Rattle.dsm_protocol.specs.Jobs.{Give, Go, Move, Append, Map_own, Soil, Clean, Join, Count, Happen, Job, Make, Again, Mark, Ask, Begin, Ended, own_after}
use Rattle.dsm_protocol.specs.Steps.{head_job}
use Rattle.dsm_protocol.specs.Processors.{Processor, settled, begun, run_on}
use Rattle.dsm_runs.proofs.Lists.{slice_get-set_same, slice_get-set_other}
use Rattle.dsm_runs.proofs.Counting.{one_more, many, many-push}
use Rattle.dsm_runs.proofs.Owing.{Quiet, Pays, Syncs, shape_in, syncs_head}
use Rattle.dsm_runs.proofs.Agreeing.{AgreeSync, open_in, AreHeld, Effect}

-- a processor between two events: its open passes are the locks that it holds, there is a place for each, it made no more signals than
-- instructions are allowed, and its job keeps to what operations owe
pub record IsGood (u : Who) (log : Log) (m : Processor) : Type 0 where
  pub held : AreHeld u.p (λ l. holder l log) m.own.reader.passes
  pub places : length m.own.reader.passes ≡ 64
  pub few : many m.own.trace ≤ u.limits.turns
  pub syncs : Syncs u m.own None m.todo

-- the same of a processor within an event, with its trace
pub record IsOwn (u : Who) (log : Log) (t : List Entry) (passes : List (Option ℕ)) : Type 0 where
  pub own : t ≡ mine u.p log
  pub held : AreHeld u.p (λ l. holder l log) passes
  pub places : length passes ≡ 64
  pub few : many t ≤ u.limits.turns

-- the log behind an event that leaves this entry, or none
abbrev pub grown : ℕ → Log → Option Entry → Log
grown p log None = log
grown p log (Some e) = record { p = p; e = e } ∷ log

-- the processor may append it
abbrev pub MayGrow : ℕ → ℕ → Log → Option Entry → Type 0
MayGrow P p log None = Unit {0}
MayGrow P p log (Some e) = Allowed P log p e

-- there is a place for the pass of the entry's lock
abbrev HasPlace : Entry → Type 0
HasPlace (Pass (Lock l) c) = l < 64
HasPlace (Signal (Lock l) k) = l < 64
HasPlace _ = Unit {0}

pays_place : (u : Who) (o : Own) (a : Act) (x : ℕ) (e : Entry) → u.lay.locks ≤ 64 → Pays u o a x e → HasPlace e
pays_place u o a x (Load w v) locks pays = tt
pays_place u o a x (Store w v) locks pays = tt
pays_place u o a x (Out v) locks pays = tt
pays_place u o a x (Pass (Barrier b) c) locks pays = tt
pays_place u o a x (Pass (Flag f) c) locks pays = tt
pays_place u o a x (Pass Close c) locks pays = tt
pays_place u o a x (Signal (Barrier b) j) locks pays = tt
pays_place u o a x (Signal (Flag f) j) locks pays = tt
pays_place u o a x (Signal Close j) locks pays = tt
pays_place u o (Change it v new) x (Pass (Lock l) c) locks pays = omega (arith, locks, pays.1)
pays_place u o (Put it v) x (Signal (Lock l) k) locks pays = omega (arith, locks, pays.1)
pays_place u o (Add it n) x (Signal (Lock l) j) locks pays = absurd pays.4
pays_place u o a x e locks pays = absurd pays

pays_few : (u : Who) (o : Own) (a : Act) (x : ℕ) (e : Entry) → many o.trace ≤ u.limits.turns → Pays u o a x e → one_more e (many o.trace) ≤ u.limits.turns
pays_few u o a x (Load w v) few pays = few
pays_few u o a x (Store w v) few pays = few
pays_few u o a x (Out v) few pays = few
pays_few u o a x (Pass r c) few pays = few
pays_few u o (Put it v) x (Signal (Lock l) k) few pays = omega (arith, pays.4)
pays_few u o (Add it n) x (Signal r j) few pays = omega (arith, pays.5)
pays_few u o a x e few pays = absurd pays

open_set_same : (passes : List (Option ℕ)) (l : ℕ) (k : Option ℕ) → l < length passes → open_in (slice_set passes l k) l ≡ k
open_set_same passes l k h = ap (λ x. option_and_then (λ y. y) x) (slice_get-set_same passes l _ k (slice_get-get_or passes l None h))

open_set_other : (passes : List (Option ℕ)) (l l' : ℕ) (k : Option ℕ) → l ≢ l' → open_in (slice_set passes l' k) l ≡ open_in passes l
open_set_other passes l l' k ne = ap (λ x. option_and_then (λ y. y) x) (slice_get-set_other passes l' l k ne)

-- one change of a pass and of a holder
held_set : (p l l' : ℕ) (new : Option ℕ) (after : Option (ℕ × ℕ)) (holds : ℕ → Option (ℕ × ℕ)) (passes : List (Option ℕ)) → l' < length passes
    → ((k : ℕ) → (new ≡ Some k) ↔ (after ≡ Some (p, k))) → AreHeld p holds passes
    → (k : ℕ) → (open_in (slice_set passes l' new) l ≡ Some k) ↔ ((if l' == l then after else holds l) ≡ Some (p, k))
held_set p l l' new after holds passes place now was k = go (l' == l) refl
  where
    go : (b : Bool) → (l' == l) ≡ b → (open_in (slice_set passes l' new) l ≡ Some k) ↔ ((if b then after else holds l) ≡ Some (p, k))
    go true is =
        let same : open_in (slice_set passes l' new) l ≡ new = subst (λ q. open_in (slice_set passes l' new) q ≡ new) (eqb-true l' l is) (open_set_same passes l' new place) in
        (λ h. (now k).0 (sym same ∙ h), λ h. same ∙ (now k).1 h)
    go false is =
        let other : open_in (slice_set passes l' new) l ≡ open_in passes l = open_set_other passes l l' new (λ e. eqb-false l' l is (sym e)) in
        (λ h. (was l k).0 (sym other ∙ h), λ h. other ∙ (was l k).1 h)

-- the own passes behind an entry
held_own : (p : ℕ) (e : Entry) (r : Reader) (holds : ℕ → Option (ℕ × ℕ)) → length r.passes ≡ 64 → HasPlace e → AreHeld p holds r.passes → AreHeld p (λ l. held_by l p e (holds l)) (reader_after e r).passes
held_own p (Pass (Lock l') c) r holds places place was l k =
    held_set p l l' (Some c) (Some (p, c)) holds r.passes (omega (arith, places, place)) (λ j. (λ h. let i : c ≡ j = cc h in ap (λ x. Some (p, x)) i, λ h. ap Some (some_pair_parts p p c j h).1)) was k
held_own p (Signal (Lock l') j) r holds places place was l k =
    held_set p l l' None None holds r.passes (omega (arith, places, place)) (λ j. (λ h. absurd (cc h), λ h. absurd (cc h))) was k
held_own p e r holds places place was l k = was l k

-- and the number of their places
places_own : (e : Entry) (r : Reader) → length (reader_after e r).passes ≡ length r.passes
places_own (Pass (Lock l) c) r = length-set r.passes l (Some c)
places_own (Signal (Lock l) k) r = length-set r.passes l None
places_own e r = refl

-- another's passes behind an allowed entry
pub held_other : (P p q : ℕ) (log : Log) (e : Entry) (passes : List (Option ℕ)) → p ≢ q → Allowed P log p e → AreHeld q (λ l. holder l log) passes → AreHeld q (λ l. held_by l p e (holder l log)) passes
held_other P p q log e passes ne allowed was l k = go (turned l p e (holder l log))
  where
    go : Turned l p e (holder l log) (held_by l p e (holder l log)) → (open_in passes l ≡ Some k) ↔ (held_by l p e (holder l log) ≡ Some (q, k))
    go (Other free same) = (λ h. same ∙ (was l k).0 h, λ h. (was l k).1 (sym same ∙ h))
    go (Taken c is new) =
        let a : Allowed P log p (Pass (Lock l) c) = subst (λ x. Allowed P log p x) is allowed in
        (λ h. let b = (was l k).0 h in let f = a.0 in absurd (cc (f, b)), λ h. absurd (ne (some_pair_parts p q c k (sym new ∙ h)).0))
    go (Given j is new) =
        let a : Allowed P log p (Signal (Lock l) j) = subst (λ x. Allowed P log p x) is allowed in
        (λ h. absurd (ne (some_pair_parts p q j k (sym a ∙ (was l k).0 h)).0), λ h. absurd (let f = sym new ∙ h in cc f))

module _ (u : Who) (code : List Instr) (placed : u.p < processors u.lay) (some : 0 < u.lay.words) (objects : ObjectsInside (shape_in u.lay) code) where
  -- a processor behind an event, whose log it is
  pub record Settled (log : Log) (m : Processor) : Type 0 where
    pub own : m.own.trace ≡ mine u.p log
    pub good : IsGood u log m

  good_at : (o : Own) (j : Job) (log : Log) → IsOwn u log o.trace o.reader.passes → Syncs u o None j → Settled log (record { own = o; todo = j })
  good_at o j log own s = record { own = own.own; good = record { held = own.held; places = own.places; few = own.few; syncs = s } }

  -- what is done with no operation open
  settled_good : (j : Job) (o : Own) (log : Log) → IsOwn u log o.trace o.reader.passes → Syncs u o None j → Settled log (settled o j)
  settled_good (Make a k) o log own s = good_at o (Make a k) log own s
  settled_good (Again a wanted j) o log own s = good_at o (Again a wanted j) log own s
  settled_good (Mark (Give r v) j) o log own s = settled_good j (own_after o (Give r v)) log own s
  settled_good (Mark (Go to) j) o log own s = settled_good j (own_after o (Go to)) log own s
  settled_good (Mark Move j) o log own s = settled_good j (own_after o Move) log own s
  settled_good (Mark (Map_own page mode) j) o log own s = settled_good j (own_after o (Map_own page mode)) log own s
  settled_good (Mark (Soil page) j) o log own s = settled_good j (own_after o (Soil page)) log own s
  settled_good (Mark (Clean page) j) o log own s = settled_good j (own_after o (Clean page)) log own s
  settled_good (Mark (Join pages) j) o log own s = settled_good j (own_after o (Join pages)) log own s
  settled_good (Mark (Count tally) j) o log own s = settled_good j (own_after o (Count tally)) log own s
  settled_good (Mark (Happen moment) j) o log own s = settled_good j (own_after o (Happen moment)) log own s
  settled_good (Mark (Append e) j) o log own s = absurd s.0
  settled_good (Ask f) o log own s = settled_good (f o) o log own s
  settled_good (Begin h) o log own s = good_at o (Begin h) log own s
  settled_good (Ended e) o log own s = good_at o (Ended e) log own s

  begun_good : (j : Job) (o : Own) (log : Log) → IsOwn u log o.trace o.reader.passes → Syncs u o None j → Settled log (begun u code o j)
  begun_good (Begin h) o log own s = settled_good (head_job u code h) o log own (syncs_head u placed code some objects o h s.1)
  begun_good (Make a k) o log own s = good_at o (Make a k) log own s
  begun_good (Again a wanted j) o log own s = good_at o (Again a wanted j) log own s
  begun_good (Mark n j) o log own s = good_at o (Mark n j) log own s
  begun_good (Ask f) o log own s = good_at o (Ask f) log own s
  begun_good (Ended e) o log own s = good_at o (Ended e) log own s

  pub run_good : (j : Job) (o : Own) (log : Log) → IsOwn u log o.trace o.reader.passes → Syncs u o None j → Settled log (run_on u code o j)
  run_good j o log own s =
      let g = settled_good j o log own s in
      begun_good (settled o j).todo (settled o j).own log (record { own = g.own; held = g.good.held; places = g.good.places; few = g.good.few }) g.good.syncs

  -- what an event does to the words and the log
  pub record Stepped (ws : List ℕ) (log : Log) (m : Processor) : Type 0 where
    pub entry : Option Entry
    pub may : MayGrow (processors u.lay) u.p log entry
    pub agree : AgreeSync u.lay ws (grown u.p log entry)
    pub settled : Settled (grown u.p log entry) m

  -- what is done behind an operation with its answer
  module _ (locks : u.lay.locks ≤ 64) (ws : List ℕ) (log : Log) (a : Act) (x : ℕ) (rested : Quiet u a x → AgreeSync u.lay ws log)
      (paid : (o : Own) (e : Entry) → o.trace ≡ mine u.p log → AreHeld u.p (λ l. holder l log) o.reader.passes → Pays u o a x e → Effect (processors u.lay) u.p u.lay ws log e) where
    pub quiet : (j : Job) (o : Own) → IsOwn u log o.trace o.reader.passes → Quiet u a x → Syncs u o None j → Stepped ws log (run_on u code o j)
    quiet j o own q s = record { entry = None; may = tt; agree = rested q; settled = run_good j o log own s }

    pub ran : (j : Job) (o : Own) → IsOwn u log o.trace o.reader.passes → Syncs u o (Some (a, x)) j → Stepped ws log (run_on u code o j)
    ran (Make b k) o own s = quiet (Make b k) o own s.0 (tt, s.1)
    ran (Again b wanted j) o own s = quiet (Again b wanted j) o own s.0 (tt, s.1, s.2)
    ran (Mark (Give r v) j) o own s = ran j (own_after o (Give r v)) own s
    ran (Mark (Go to) j) o own s = ran j (own_after o (Go to)) own s
    ran (Mark Move j) o own s = ran j (own_after o Move) own s
    ran (Mark (Map_own page mode) j) o own s = ran j (own_after o (Map_own page mode)) own s
    ran (Mark (Soil page) j) o own s = ran j (own_after o (Soil page)) own s
    ran (Mark (Clean page) j) o own s = ran j (own_after o (Clean page)) own s
    ran (Mark (Join pages) j) o own s = ran j (own_after o (Join pages)) own s
    ran (Mark (Count tally) j) o own s = ran j (own_after o (Count tally)) own s
    ran (Mark (Happen moment) j) o own s = ran j (own_after o (Happen moment)) own s
    ran (Mark (Append e) j) o own s =
        let f = paid o e own.own own.held s.0 in
        let few : many (o.trace ++ e ∷ []) ≤ u.limits.turns = omega (arith, many-push o.trace e, pays_few u o a x e own.few s.0) in
        record {
          entry = Some e;
          may = f.allowed;
          agree = f.agree;
          settled = run_good j (own_after o (Append e)) (record { p = u.p; e = e } ∷ log)
              (record {
                own = ap (λ t. t ++ e ∷ []) own.own ∙ sym (mine_own (record { p = u.p; e = e }) log u.p refl);
                held = held_own u.p e o.reader (λ l. holder l log) own.places (pays_place u o a x e locks s.0) own.held;
                places = places_own e o.reader ∙ own.places;
                few = few;
              })
              s.1;
        }
    ran (Ask f) o own s = ran (f o) o own s
    ran (Begin h) o own s = quiet (Begin h) o own s.0 (tt, s.1)
    ran (Ended e) o own s = quiet (Ended e) o own s tt
