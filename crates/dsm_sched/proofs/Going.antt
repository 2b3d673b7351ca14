-- A schedule under way.
use Rattle.std.proofs.Common.{◌≡◌, inl, inr, ℕ, suc, ◌+◌, ◌-◌, ◌*◌, ◌%◌, ◌<◌, ◌≤◌, Bool, true, false, List, [], ◌∷◌, ◌++◌, length, Option, Some, None, refl, sym, ap, ◌∙◌, subst, arith, cond, if◌then◌else◌, length-append}
use Rattle.std.specs.Prelude.{slice_get, IsTrue, IsSomeAnd, not, remove}
use Rattle.std.specs.List.{range_with_len}
use Rattle.std.specs.Int.{w64, to_le_bytes, from_le_bytes}
use Rattle.std.proofs.lemmas.List.Elements.{filter-append}
use Rattle.rand_xoshiro.specs.SplitMix64.{mix_u64}
use Rattle.dsm_protocol.specs.Jobs.{has_ended}
use Rattle.dsm_protocol.specs.Processors.{Processor}
use Rattle.dsm_runs.specs.Setups.{Setup}
use Rattle.dsm_runs.specs.Clusters.{Cluster, Event, AreDefined, may_go, is_defined, start, after_event, reached}
use Rattle.dsm_core.specs.declared.state.Step.{Step}
use Rattle.dsm_core.specs.declared.state.Step.TheVariants.{Did, Ended, NoMemory}
use Rattle.dsm_core.specs.States.{IsEvent, HasEnded, AllEnded, Stepped}
use Rattle.dsm_runs.proofs.Reaching.{length-reached}
use Rattle.dsm_runs.proofs.Runs.{reached_none, reached_one_more, are_defined_none, are_defined_one_more}
use Rattle.dsm_sched.specs.declared.kind.Kind.{Kind}
use Rattle.dsm_sched.specs.declared.kind.Kind.TheVariants.{Round, Mixed}
use Rattle.dsm_sched.specs.Schedules.{cyclic, first_running, running, behind_last, words_drawn, word, drawn, next_by, IsScheduled, Begins, Goes, Leads, Moves}
use Rattle.dsm_sched.proofs.Choosing.{goes, kept, kept_goes, round_finds, none_left, range_cut, place_is, same_many, others_stay, kept_same, kept_below, kept_without}
use Rattle.dsm_sched.proofs.Scheduling.{behind_one_more, length_one_more}

-- the state behind so many events of the schedule
pub record Going (kind : Kind) (s : Setup) (made : ℕ) (c : Cluster) : Type 0 where
  pub events : List Event
  pub scheduled : IsScheduled kind s events
  pub defined : AreDefined s events
  pub reaches : c ≡ reached s events
  pub count : length events ≡ made

pub going_at_start : (kind : Kind) (s : Setup) (c : Cluster) → c ≡ start s → Going kind s 0 c
going_at_start kind s c is = record { events = []; scheduled = Begins; defined = are_defined_none s; reaches = is ∙ sym (reached_none s); count = refl }

module _ (kind : Kind) (s : Setup) (made : ℕ) (old : Cluster) (g : Going kind s made old) where
  -- as many processors as the setup has
  pub all_there : length old.processors ≡ s.nodes * s.procs
  all_there = ap (λ (c : Cluster). length c.processors) g.reaches ∙ (length-reached s g.events).1

  -- an event of the processor that comes next is one event more
  pub one_more : (p : ℕ) (starved : Bool) → next_by kind s g.events ≡ Some p → (new : Cluster) → IsEvent s old new (record { p = p; starved = starved }) → Going kind s (made + 1) new
  one_more p starved next new is =
      let e : Event = record { p = p; starved = starved } in
      record {
        events = g.events ++ e ∷ [];
        scheduled = Goes p starved g.scheduled next;
        defined = are_defined_one_more s g.events e g.defined (subst (λ c. is_defined c e ≡ true) g.reaches is.0);
        reaches = is.1 ∙ ap (λ c. after_event s c e) g.reaches ∙ sym (reached_one_more s g.events e);
        count = omega (arith, length_one_more g.events e, g.count);
      }

  -- a schedule is whole where all its events were made
  pub whole_made : (steps : ℕ) → made ≡ steps → Leads kind s steps old
  whole_made steps all = record { events = g.events; schedule = record { scheduled = g.scheduled; within = omega (arith, g.count, all); whole = inl (g.count ∙ all) }; defined = g.defined; reaches = g.reaches }

  -- and where none is left
  pub whole_ended : (steps : ℕ) → made ≤ steps → running old ≡ [] → Leads kind s steps old
  whole_ended steps within none =
      record { events = g.events; schedule = record { scheduled = g.scheduled; within = omega (arith, g.count, within); whole = inr (subst AllEnded g.reaches (none_left old none)) }; defined = g.defined; reaches = g.reaches }

-- a step of one that has not ended is an event of it, and what it leaves of the list
module _ (s : Setup) (old new : Cluster) (at p : ℕ) (there : slice_get (running old) at ≡ Some p) where
  runs : goes old p ≡ true
  runs = kept_goes old (range_with_len 0 (length old.processors)) at p there

  not_ended : HasEnded old p → ⊥
  not_ended over = go (slice_get old.processors p) over runs
    where
      go : (o : Option Processor) → IsSomeAnd o (λ m. IsTrue (has_ended m.todo)) → may_go false o ≡ true → ⊥
      go None h g = absurd (cc g)
      go (Some m) h g = absurd (cc (sym g ∙ ap not h))

  pub stepped_on : (r : Step) → Stepped s old new p r → (next : ℕ) → next ≡ (if goes new p then at + 1 else at) → Moves s old new at next
  stepped_on Did is next behind = (p, false, there, is, behind)
  stepped_on NoMemory is next behind = (p, true, there, is, behind)
  stepped_on Ended is next behind = absurd (not_ended is.0)

  module _ (starved : Bool) (is : IsEvent s old new (record { p = p; starved = starved })) where
    pub runs_on : goes new p ≡ true → running new ≡ running old
    runs_on on = ap (λ n. kept new (range_with_len 0 n)) (same_many s old new p starved is) ∙ kept_same old new p (others_stay s old new p starved is) (on ∙ sym runs) (length old.processors) 0

    pub leaves : goes new p ≡ false → running new ≡ remove (running old) at
    leaves over = ap (λ n. kept new (range_with_len 0 n)) (same_many s old new p starved is) ∙ kept_without old new p (others_stay s old new p starved is) over (length old.processors) 0 at there

-- the list behind a move
pub list_behind : (s : Setup) (old new : Cluster) (at p : ℕ) → slice_get (running old) at ≡ Some p → (r : Step) → Stepped s old new p r → (goes new p ≡ true → running new ≡ running old) × (goes new p ≡ false → running new ≡ remove (running old) at)
list_behind s old new at p there Did is = (runs_on s old new at p there false is, leaves s old new at p there false is)
list_behind s old new at p there NoMemory is = (runs_on s old new at p there true is, leaves s old new at p there true is)
list_behind s old new at p there Ended is = absurd (not_ended s old new at p there is.0)

-- the state behind so many events in cyclic order, where the order goes on from this place among those that have not ended
pub record GoingRound (s : Setup) (made from : ℕ) (c : Cluster) : Type 0 where
  pub going : Going Round s made c
  pub inside : behind_last 0 going.events ≤ length c.processors
  pub next : from ≡ length (kept c (range_with_len 0 (behind_last 0 going.events)))

pub round_at_start : (s : Setup) (c : Cluster) → c ≡ start s → GoingRound s 0 0 c
unfolding going_at_start
round_at_start s c is = record { going = going_at_start Round s c is; inside = omega arith; next = refl }

-- a move from the next place is one event more
pub round_on : (s : Setup) (made from at next : ℕ) (old new : Cluster) → GoingRound s made from old → (from < length (running old) → at ≡ from) → (length (running old) ≤ from → at ≡ 0) → Moves s old new at next → GoingRound s (made + 1) next new
unfolding one_more
round_on s made from at next old new g within first (p, starved, there, is, behind) =
    record {
      going = one_more Round s made old g.going p starved comes new is;
      inside = omega (arith, ends, same_many s old new p starved is, place.1);
      next = behind ∙ count (goes new p) refl ∙ ap (λ q. length (kept new (range_with_len 0 q))) (sym ends);
    }
  where
    place : (0 ≤ p) × (p < 0 + length old.processors) × (at ≡ length (kept old (range_with_len 0 (p - 0))))
    place = place_is old (length old.processors) 0 at p there

    comes : next_by Round s g.going.events ≡ Some p
    comes =
        ap (λ c. first_running c (cyclic (s.nodes * s.procs) (behind_last 0 g.going.events))) (sym g.going.reaches)
        ∙ ap (λ n. first_running old (cyclic n (behind_last 0 g.going.events))) (sym (all_there Round s made old g.going))
        ∙ round_finds old (behind_last 0 g.going.events) from at g.inside g.next within first ∙ there

    ends : behind_last 0 (g.going.events ++ record { p = p; starved = starved } ∷ []) ≡ p + 1
    ends = behind_one_more 0 g.going.events (record { p = p; starved = starved })

    before : kept new (range_with_len 0 p) ≡ kept old (range_with_len 0 p)
    before = kept_below old new p (others_stay s old new p starved is) p 0 (omega arith)

    cut : kept new (range_with_len 0 (p + 1)) ≡ kept new (range_with_len 0 p) ++ kept new (range_with_len (0 + p) 1)
    cut = ap (kept new) (range_cut 0 p 1) ∙ filter-append (goes new) (range_with_len 0 p) (range_with_len (0 + p) 1)

    few : at ≡ length (kept new (range_with_len 0 p))
    few = place.2 ∙ ap (λ q. length (kept old (range_with_len 0 q))) (let z : p - 0 ≡ p = omega arith in z) ∙ ap length (sym before)

    one : (b : Bool) → goes new p ≡ b → length (kept new (range_with_len (0 + p) 1)) ≡ length (cond b (p ∷ []) [])
    one b on = ap (λ q. length (kept new (range_with_len q 1))) (let z : 0 + p ≡ p = omega arith in z) ∙ ap (λ o. length (cond o (p ∷ []) [])) on

    count : (b : Bool) → goes new p ≡ b → (if b then at + 1 else at) ≡ length (kept new (range_with_len 0 (p + 1)))
    count true on = omega (arith, few, ap length cut, length-append (kept new (range_with_len 0 p)) (kept new (range_with_len (0 + p) 1)), one true on)
    count false on = omega (arith, few, ap length cut, length-append (kept new (range_with_len 0 p)) (kept new (range_with_len (0 + p) 1)), one false on)

-- where SplitMix64 begins, and goes on
pub drawn_at_start : (seed x : ℕ) → x ≡ from_le_bytes w64 (to_le_bytes w64 seed) → x ≡ words_drawn seed 0
unfolding words_drawn
drawn_at_start seed x is = is

pub drawn_on : (seed made old u new : ℕ) → old ≡ words_drawn seed made → (u, new) ≡ mix_u64 old → (u ≡ word seed made) × (new ≡ words_drawn seed (made + 1))
unfolding words_drawn
drawn_on seed made old u new is gives = (
  ap (λ (x : ℕ × ℕ). x.0) gives ∙ ap (λ x. (mix_u64 x).0) is,
  ap (λ (x : ℕ × ℕ). x.1) gives ∙ ap (λ x. (mix_u64 x).1) is ∙ ap (words_drawn seed) (let z : suc made ≡ made + 1 = omega arith in z),
)

-- a move of the one that the word draws is one event more
pub mixed_on : (seed : ℕ) (s : Setup) (made at next : ℕ) (old new : Cluster) → Going (Mixed seed) s made old → at ≡ word seed made % length (running old) → Moves s old new at next → Going (Mixed seed) s (made + 1) new
mixed_on seed s made at next old new g is_at (p, starved, there, is, behind) = one_more (Mixed seed) s made old g p starved comes new is
  where
    comes : next_by (Mixed seed) s g.events ≡ Some p
    comes =
        ap (λ c. drawn (running c) (word seed (length g.events))) (sym g.reaches)
        ∙ ap (λ n. drawn (running old) (word seed n)) g.count
        ∙ ap (slice_get (running old)) (sym is_at) ∙ there
