-- What follows of a schedule.
use Rattle.std.proofs.Common.{◌≡◌, ◌⊎◌, inl, inr, ℕ, zero, suc, ◌+◌, ◌-◌, ◌*◌, ◌<◌, ◌≤◌, Bool, true, false, List, [], ◌∷◌, ◌++◌, length, Some, None, refl, sym, ap, ◌∙◌, subst, arith, length-append}
use Rattle.std.specs.Prelude.{Contains}
use Rattle.std.specs.List.{range_with_len}
use Rattle.std.proofs.lemmas.List.Elements.{Contains-push, Contains-push_cases, Contains-append_left}
use Rattle.std.proofs.lemmas.Option.{slice_get_within}
use Rattle.dsm_runs.specs.Setups.{Setup}
use Rattle.dsm_runs.specs.Clusters.{Event, reached}
use Rattle.dsm_core.specs.States.{AllEnded}
use Rattle.dsm_runs.proofs.Reaching.{length-reached}
use Rattle.dsm_runs.proofs.Runs.{defined_is}
use Rattle.dsm_sched.specs.declared.kind.Kind.{Kind}
use Rattle.dsm_sched.specs.declared.kind.Kind.TheVariants.{Round, Mixed}
use Rattle.dsm_sched.specs.Schedules.{cyclic, running, word, behind_last, next_by, IsScheduled, Begins, Goes, Schedule, more, events_of}
use Rattle.dsm_sched.proofs.Finding.{found_goes, none_found}
use Rattle.dsm_sched.proofs.Choosing.{goes, all_left, none_drawn, drawn_goes}

abbrev pub starving : ℕ → Event
starving p = record { p = p; starved = true }

abbrev pub NoneStarved : List Event → Type 0
NoneStarved events = (p : ℕ) → Contains events (starving p) → ⊥

pub behind_one_more : (p : ℕ) (es : List Event) (e : Event) → behind_last p (es ++ e ∷ []) ≡ e.p + 1
behind_one_more p [] e = refl
behind_one_more p (x ∷ es) e = behind_one_more (x.p + 1) es e

pub length_one_more : (es : List Event) (e : Event) → length (es ++ e ∷ []) ≡ suc (length es)
length_one_more es e = omega (arith, length-append es (e ∷ []))

-- where all have ended no event comes next
pub none_next : (kind : Kind) (s : Setup) (events : List Event) → AllEnded (reached s events) → next_by kind s events ≡ None
none_next Round s events all = none_found (reached s events) (cyclic (s.nodes * s.procs) (behind_last 0 events)) all
none_next (Mixed seed) s events all =
    let every : List ℕ = range_with_len 0 (length (reached s events).processors) in
    none_drawn (running (reached s events)) (word seed (length events)) (all_left (reached s events) every (none_found (reached s events) every all))

-- the one whose event comes next has not ended
pub next_goes : (kind : Kind) (s : Setup) (events : List Event) (p : ℕ) → next_by kind s events ≡ Some p → goes (reached s events) p ≡ true
next_goes Round s events p h = found_goes (reached s events) (cyclic (s.nodes * s.procs) (behind_last 0 events)) p h
next_goes (Mixed seed) s events p h = drawn_goes (reached s events) (word seed (length events)) p h

-- so it is one that there is
pub next_inside : (kind : Kind) (s : Setup) (events : List Event) (p : ℕ) → next_by kind s events ≡ Some p → p < s.nodes * s.procs
next_inside kind s events p h =
    let is = defined_is (reached s events) (record { p = p; starved = false }) (next_goes kind s events p h) in
    omega (arith, (length-reached s events).1, slice_get_within (reached s events).processors p is.0 is.1)

-- so each event's is
pub event_inside : (kind : Kind) (s : Setup) (events : List Event) → IsScheduled kind s events → (e : Event) → Contains events e → e.p < s.nodes * s.procs
event_inside kind s events Begins e k = absurd (omega (arith, k.1))
event_inside kind s events (Goes {events = es} p starved before next) e k = go (event_inside kind s es before e) (Contains-push_cases es (record { p = p; starved = starved }) e k)
  where
    go : (Contains es e → e.p < s.nodes * s.procs) → Contains es e ⊎ (record { p = p; starved = starved } ≡ e) → e.p < s.nodes * s.procs
    go rest (inl h) = rest h
    go rest (inr is) = subst (λ (x : Event). x.p < s.nodes * s.procs) is (next_inside kind s es p next)

-- where no event was without memory, they are those of the schedule with memory
pub with_memory : (kind : Kind) (s : Setup) (events : List Event) → IsScheduled kind s events → NoneStarved events → events ≡ events_of kind s (length events)
unfolding events_of
with_memory kind s events Begins none = refl
with_memory kind s events (Goes {events = es} p starved before next) none =
    go starved none (with_memory kind s es before (λ q k. none q (Contains-append_left es (record { p = p; starved = starved } ∷ []) (starving q) k)))
  where
    go : (b : Bool) → NoneStarved (es ++ record { p = p; starved = b } ∷ []) → es ≡ events_of kind s (length es) → es ++ record { p = p; starved = b } ∷ [] ≡ events_of kind s (length (es ++ record { p = p; starved = b } ∷ []))
    go true none past = absurd (none p (Contains-push es (starving p)))
    go false none past = ap (λ o. more o es) (sym next) ∙ ap (λ x. more (next_by kind s x) x) past ∙ ap (events_of kind s) (sym (length_one_more es (record { p = p; starved = false })))

-- where all have ended the schedule with memory has no further event
pub no_more : (kind : Kind) (s : Setup) (n k : ℕ) → AllEnded (reached s (events_of kind s n)) → events_of kind s (n + k) ≡ events_of kind s n
unfolding events_of
no_more kind s n zero all = ap (events_of kind s) (let z : n + zero ≡ n = omega arith in z)
no_more kind s n (suc k) all =
    let old : List Event = events_of kind s n in
    ap (events_of kind s) (let z : n + suc k ≡ suc (n + k) = omega arith in z) ∙ ap (λ x. more (next_by kind s x) x) (no_more kind s n k all) ∙ ap (λ o. more o old) (none_next kind s old all)

-- so a whole schedule in which no event was without memory is the one with memory
pub whole_with_memory : (kind : Kind) (s : Setup) (steps : ℕ) (events : List Event) → Schedule kind s steps events → NoneStarved events → events ≡ events_of kind s steps
whole_with_memory kind s steps events schedule none = go schedule.whole
  where
    is : events ≡ events_of kind s (length events)
    is = with_memory kind s events schedule.scheduled none

    go : (length events ≡ steps) ⊎ AllEnded (reached s events) → events ≡ events_of kind s steps
    go (inl all) = is ∙ ap (events_of kind s) all
    go (inr over) =
        let left : ℕ = steps - length events in
        let within : length events ≤ steps = schedule.within in
        is ∙ sym (no_more kind s (length events) left (subst (λ x. AllEnded (reached s x)) is over)) ∙ ap (events_of kind s) (let z : length events + left ≡ steps = omega arith in z)
