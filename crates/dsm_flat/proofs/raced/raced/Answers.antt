use Rattle.std.proofs.Common.{◌≡◌, ◌∙◌, ◌<◌, ℕ, List, Option, Some, length, MatchOption, arith}
use Rattle.std.specs.Prelude.{◌↔◌, Bool, map, slice_get, true, false}
use Rattle.std.proofs.lemmas.Result.{IfOk-weaker}
use Rattle.dsm_entry.specs.Told.{lists_of}
use Rattle.dsm_flat.specs.declared.latest.Latest.{Latest}
use Rattle.dsm_flat.specs.declared.visits.Visit.{Visit}
use Rattle.dsm_flat.specs.declared.visits.Visits.{Visits}
use Rattle.dsm_flat.specs.Order.{Traces, NoCircle}
use Rattle.dsm_flat.specs.Flat.{Ordered}
use Rattle.dsm_flat.specs.Following.{AllBlocked, IsNextVisit}
use Rattle.dsm_flat.specs.Latest.{AreLatest}
use Rattle.dsm_flat.proofs.Deciding.{all_visited, says_ordered, says_raced, next_some, next_none, short_place, has_clock, visit_read, fewer}
use Rattle.dsm_flat.proofs.raced.raced.Goals as goal

pub loop-visits-init : goal.loop-visits-init
loop-visits-init c =
    record {
      visits = c.in_ok-visits.ensures.visits;
      len = c.in_ok-list.ensures.len;
      latest = c.in_ok-list.ensures.latest (lists_of c.args.traces.now) c.in_ok-visits.visits.done c.in_ok-visits.ensures.none;
    }

pub index-requires : goal.index-requires
index-requires c =
    let n = next_some (lists_of c.args.traces.now) c.loop-visits.visits c.step.new.self c.in_ok-v.field-0 c.in-Some.v c.in-Some.is c.in_ok-v.ensures.next in
    let lt = has_clock (lists_of c.args.traces.now) c.loop-visits.visits c.step.new.self c.in-Some.v c.in_ok-v.ensures.visits n in
    omega (arith, lt, c.step.new.self.clocks.ok.0)

pub note-requires : goal.note-requires
note-requires c =
    let n = next_some (lists_of c.args.traces.now) c.loop-visits.visits c.step.new.self c.in_ok-v.field-0 c.in-Some.v c.in-Some.is c.in_ok-v.ensures.next in
    short_place (lists_of c.args.traces.now) c.requires.short c.loop-visits.visits c.step.new.self c.in-Some.v n

pub loop-visits-smaller : goal.loop-visits-smaller
loop-visits-smaller c =
    let n = next_some (lists_of c.args.traces.now) c.loop-visits.visits c.step.new.self c.in_ok-v.field-0 c.in-Some.v c.in-Some.is c.in_ok-v.ensures.next in
    fewer (lists_of c.args.traces.now) c.loop-visits.visits c.step.new.self c.in-Some.v n

pub loop-visits-preserved : goal.loop-visits-preserved
loop-visits-preserved c =
    let ts = lists_of c.args.traces.now in
    let v = c.in-Some.v in
    let new = c.step.new.self in
    let n = next_some (lists_of c.args.traces.now) c.loop-visits.visits c.step.new.self c.in_ok-v.field-0 v c.in-Some.is c.in_ok-v.ensures.next in
    record {
      visits = c.in_ok-v.ensures.visits;
      len = c.in_ok-note.ensures.len ∙ c.loop-visits.invariant.len;
      latest = c.in_ok-note.ensures.latest ts c.loop-visits.visits.done new.done (visit_read ts c.loop-visits.visits new v c.in_ok-v.ensures.visits n c.index.result.now c.index.ensures) n.can.there c.loop-visits.invariant.latest;
    }

-- what the kept flags say of a word, where all entries are visited
ordered_says : (ts : Traces) (visits new : Visits) (o : Option Visit) (list lent : List Latest) (races : List Bool) (words w : ℕ) → NoCircle ts → ((v : Visit) → o ≡ Some v → ⊥) → MatchOption o (AllBlocked ts visits.done) (λ u. IsNextVisit ts visits u new)
    → AreLatest ts visits.done list → length list ≡ words → lent ≡ list → races ≡ map (λ (l : Latest). l.races) lent → w < words → (slice_get races w ≡ Some false) ↔ Ordered ts w
ordered_says ts visits new o list lent races words w nc no_v next latest len e is lt =
    rw (is, e) (says_ordered ts visits.done list latest (all_visited ts visits.done nc (next_none ts visits new o no_v next)) w (omega (arith, lt, len)))

raced_says : (ts : Traces) (visits new : Visits) (o : Option Visit) (list lent : List Latest) (races : List Bool) (words w : ℕ) → NoCircle ts → ((v : Visit) → o ≡ Some v → ⊥) → MatchOption o (AllBlocked ts visits.done) (λ u. IsNextVisit ts visits u new)
    → AreLatest ts visits.done list → length list ≡ words → lent ≡ list → races ≡ map (λ (l : Latest). l.races) lent → w < words → (slice_get races w ≡ Some true) ↔ (Ordered ts w → ⊥)
raced_says ts visits new o list lent races words w nc no_v next latest len e is lt =
    rw (is, e) (says_raced ts visits.done list latest (all_visited ts visits.done nc (next_none ts visits new o no_v next)) w (omega (arith, lt, len)))

pub returns-clause-ordered : goal.returns-clause-ordered
returns-clause-ordered c =
    IfOk-weaker c.races.result _ _ (λ races is w lt.
    ordered_says (lists_of c.args.traces.now) c.loop-visits.visits c.step.new.self c.in_ok-v.field-0 c.loop-visits.list.items c.deref.result.now races.items c.args.words w c.requires.no_circle c.in_default.not-Some c.in_ok-v.ensures.next
    c.loop-visits.invariant.latest c.loop-visits.invariant.len c.deref.ensures.value is lt) c.races.ensures

pub returns-clause-raced : goal.returns-clause-raced
returns-clause-raced c =
    IfOk-weaker c.races.result _ _ (λ races is w lt.
    raced_says (lists_of c.args.traces.now) c.loop-visits.visits c.step.new.self c.in_ok-v.field-0 c.loop-visits.list.items c.deref.result.now races.items c.args.words w c.requires.no_circle c.in_default.not-Some c.in_ok-v.ensures.next
    c.loop-visits.invariant.latest c.loop-visits.invariant.len c.deref.ensures.value is lt) c.races.ensures
