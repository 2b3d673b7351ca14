-- What a whole schedule leaves.
use Rattle.std.proofs.Common.{◌≡◌, ◌⊎◌, inl, inr, ℕ, zero, suc, ◌<◌, Bool, true, false, List, [], ◌∷◌, length, map, Some, None, refl, sym, ap, ◌∙◌, subst, arith}
use Rattle.std.specs.Prelude.{slice_get, Contains, IsTrue, not, ◌↔◌}
use Rattle.dsm_local.specs.declared.end.End.TheVariants.{NoMemory}
use Rattle.dsm_protocol.specs.Processors.{ending}
use Rattle.dsm_runs.specs.Setups.{Setup}
use Rattle.dsm_runs.specs.Clusters.{Cluster, Event, AreDefined, reached}
use Rattle.dsm_runs.specs.Outcomes.{Ran, ran_of}
use Rattle.dsm_core.specs.States.{AllEnded}
use Rattle.dsm_runs.proofs.Promising.{item_of_map, map_of_item}
use Rattle.dsm_runs.proofs.Reaching.{length-reached}
use Rattle.dsm_runs.proofs.Wants.{every_want}
use Rattle.dsm_sched.specs.declared.kind.Kind.{Kind}
use Rattle.dsm_sched.specs.Schedules.{Leads, Schedule, Wants, Simulated}
use Rattle.dsm_sched.proofs.Finding.{all_or_none, not_both}
use Rattle.dsm_sched.proofs.Scheduling.{starving, event_inside, whole_with_memory}

-- there is an item within a list
there_is : {X : Type 0} (xs : List X) (p : ℕ) → p < length xs → (x : X) × (slice_get xs p ≡ Some x)
there_is [] p low = absurd (omega (arith, low))
there_is (x ∷ xs) zero low = (x, refl)
there_is (x ∷ xs) (suc p) low = there_is xs p (omega (arith, low))

module _ (kind : Kind) (s : Setup) (steps : ℕ) (events : List Event) (schedule : Schedule kind s steps events) (defined : AreDefined s events) where
  -- exactly those end for want of memory that made an event without
  wants : (p : ℕ) → Wants (ran_of s (reached s events)) p ↔ Contains events (starving p)
  wants p = (there, back)
    where
      there : Wants (ran_of s (reached s events)) p → Contains events (starving p)
      there w =
          let m = item_of_map ending (reached s events).processors p (Some NoMemory) w in
          (every_want s events p m.0 defined m.1).0 (sym m.2)

      back : Contains events (starving p) → Wants (ran_of s (reached s events)) p
      back k =
          let low : p < length (reached s events).processors = omega (arith, event_inside kind s events schedule.scheduled (starving p) k, (length-reached s events).1) in
          let m = there_is (reached s events).processors p low in
          map_of_item ending (reached s events).processors p m.0 m.1 ∙ ap Some ((every_want s events p m.0 defined m.1).1 k)

  module _ (cut : Bool) (is_cut : IsTrue cut ↔ (AllEnded (reached s events) → ⊥)) where
    cut_is : IsTrue cut ↔ ((length events ≡ steps) × Contains (ran_of s (reached s events)).ends None)
    cut_is = (there, λ h. is_cut.1 (λ all. not_both (reached s events).processors all h.1))
      where
        there : IsTrue cut → (length events ≡ steps) × Contains (ran_of s (reached s events)).ends None
        there h = (all_made schedule.whole, some_runs (all_or_none (reached s events).processors))
          where
            all_made : (length events ≡ steps) ⊎ AllEnded (reached s events) → length events ≡ steps
            all_made (inl made) = made
            all_made (inr over) = absurd (is_cut.0 h over)

            some_runs : AllEnded (reached s events) ⊎ Contains (map ending (reached s events).processors) None → Contains (map ending (reached s events).processors) None
            some_runs (inl over) = absurd (is_cut.0 h over)
            some_runs (inr k) = k

    pub simulated : (ran : Ran) → ran ≡ ran_of s (reached s events) → Simulated kind s steps ran cut
    simulated ran leaves =
        subst (λ r. Simulated kind s steps r cut) (sym leaves)
        (record {
          events = events;
          schedule = schedule;
          outcome = record { defined = defined; leaves = refl };
          cut_is = cut_is;
          wants = wants;
          same = λ none. ap (λ es. ran_of s (reached s es)) (whole_with_memory kind s steps events schedule (λ p k. none p ((wants p).1 k)));
        })

-- a state to which a schedule leads leaves this, and was cut where not all have ended
pub leads_simulated : (kind : Kind) (s : Setup) (steps : ℕ) (c : Cluster) → Leads kind s steps c → (ended : Bool) → IsTrue ended ↔ AllEnded c → (ran : Ran) → ran ≡ ran_of s c → Simulated kind s steps ran (not ended)
leads_simulated kind s steps c leads ended over ran left = simulated kind s steps leads.events leads.schedule leads.defined (not ended) (there, back) ran (left ∙ ap (ran_of s) leads.reaches)
  where
    there : IsTrue (not ended) → AllEnded (reached s leads.events) → ⊥
    there h all = absurd (cc (sym h ∙ ap not (over.1 (subst AllEnded (sym leads.reaches) all))))

    turned : (b : Bool) → (IsTrue b → ⊥) → IsTrue (not b)
    turned true h = absurd (h refl)
    turned false h = refl

    back : (AllEnded (reached s leads.events) → ⊥) → IsTrue (not ended)
    back h = turned ended (λ e. h (subst AllEnded leads.reaches (over.0 e)))
