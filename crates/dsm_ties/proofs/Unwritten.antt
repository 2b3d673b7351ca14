-- The frames of a page without a home have the words with which they started, over every list of loose events.
use Rattle.std.proofs.Common.{◌≡◌, ◌≢◌, ◌⊎◌, inl, inr, ℕ, ◌+◌, ◌*◌, ◌<◌, List, [], ◌∷◌, ◌++◌, length, Option, None, Some, refl, sym, ap, ◌∙◌, subst, false, arith}
use Rattle.std.specs.Prelude.{slice_get}
use Rattle.std.proofs.lemmas.Bool.{cases_eq}
use Rattle.std.proofs.lemmas.List.{length-replicate}
use Rattle.std.proofs.lemmas.Option.{slice_get_within}
use Rattle.dsm_words.specs.declared.item.Item.TheVariants.{Frame, Home}
use Rattle.dsm_words.specs.Words.{word}
use Rattle.dsm_protocol.specs.declared.head.Head.TheVariants.{Instruction}
use Rattle.dsm_protocol.specs.Own.{Who, new_own}
use Rattle.dsm_protocol.specs.Jobs.{Begin}
use Rattle.dsm_protocol.specs.Processors.{Processor, new_processor, after_given}
use Rattle.dsm_protocol.proofs.Placed.{placed}
use Rattle.dsm_runs.specs.Setups.{Setup, IsSetup, lay_in, who_at, first_value}
use Rattle.dsm_runs.specs.Clusters.{Cluster, Event, stays, start, act_in, given_in, moved, after_loose, after_all_loose}
use Rattle.dsm_runs.proofs.Events.{by_cases}
use Rattle.dsm_runs.proofs.Keeping.{run_keeps}
use Rattle.dsm_runs.proofs.Lists.{each_set, slice_get-map-range_with_len}
use Rattle.dsm_runs.proofs.Seating.{maps_are_its_own}
use Rattle.dsm_runs.proofs.Starting.{starts_by_items, length-processors}
use Rattle.dsm_ties.specs.Always.{AlwaysLoosely}
use Rattle.dsm_ties.specs.Holders.{HomelessUnwritten}
use Rattle.dsm_ties.specs.Tied.{Tied, node_in}
use Rattle.dsm_ties.proofs.Holders.{untouched}
use Rattle.dsm_ties.proofs.Homes.{all_none, all_one_more, spares, moved_home}
use Rattle.dsm_ties.proofs.Places.{each_stands, processor_in, event_row}
use Rattle.dsm_ties.proofs.Storing.{homed, does_fits, path_homed, starts_homed, knows_home, frame_kept, path_places}

-- what a list of events keeps: each processor has a place for the mapping of every page, and a page without a home is unwritten
record Unwritten (s : Setup) (c : Cluster) : Type 0 where
  places : (p : ℕ) (m : Processor) → slice_get c.processors p ≡ Some m → length m.own.maps ≡ 256
  unwritten : HomelessUnwritten s c

module _ (tied : AlwaysLoosely Tied) (s : Setup) (is : IsSetup s) where
  abbrev behind : List (Event × Option ℕ) → Cluster
  behind events = after_all_loose s (start s) events

  -- an event that can be, of processor m
  module _ (events : List (Event × Option ℕ)) (e : Event) (any : Option ℕ) (m : Processor) (here : slice_get (behind events).processors e.p ≡ Some m) (goes : stays e.starved m.todo ≡ false) (was : Unwritten s (behind events)) where
    abbrev c : Cluster
    c = behind events

    abbrev u : Who
    u = who_at s e.p

    abbrev new : Processor
    new = after_given u s.program.code m (given_in s c e any m)

    p_in : e.p < s.nodes * s.procs
    p_in = processor_in s events e.p m here

    places_new : length new.own.maps ≡ 256
    places_new =
        let w = each_stands s events is e.p m here in
        let r = event_row s c e any m w.0 p_in goes w.1 in
        path_places u r.2.behind ∙ was.places e.p m here

    frames_stay : HomelessUnwritten s (moved s c e any m)
    frames_stay g n i g_in n_in i_in none = go (cases_eq (word (lay_in s) c.words (Home g)) 0)
      where
        go : (word (lay_in s) c.words (Home g) ≡ 0) ⊎ (word (lay_in s) c.words (Home g) ≡ 0 → ⊥) → word (lay_in s) (moved s c e any m).words (Frame n g i) ≡ first_value s (Frame n g i)
        go (inr some) = absurd (some (sym (moved_home s is events e any m here goes g g_in some) ∙ none))
        go (inl none_yet) =
            let t = tied s events is g g_in in
            let at = t.2.all e.p m here in
            let r = event_row s c e any m at.work p_in goes at.stands in
            let away : homed r.2.from ≢ Some g = λ h. knows_home u g _ _ _ at.work m.own at.knows (starts_homed g e.starved at.work (path_homed u g r.2.before h)) (sym t.2.words.home ∙ none_yet) in
            let bare = (untouched tied s events is g (node_in s e.p) g_in (placed u p_in).node_in none_yet).2 e.p p_in refl in
            let own = maps_are_its_own s events e.p m is here g g_in in
            let short : g < length m.own.maps = let h = was.places e.p m here in let k = is.sizes.1 in omega (arith, h, k, g_in) in
            frame_kept u c.words m.own.maps r.2.from g g_in (act_in s e m) (spares s is events e any m here goes) (does_fits u r.2.row) away short (λ two. absurd (omega (arith, bare, own, two))) n i n_in i_in
            ∙ was.unwritten g n i g_in n_in i_in none_yet

    moved_unwritten : Unwritten s (moved s c e any m)
    moved_unwritten = record { places = each_set (λ p o. length o.own.maps ≡ 256) c.processors e.p m new here places_new was.places; unwritten = frames_stay }

  event_unwritten : (events : List (Event × Option ℕ)) (e : Event) (any : Option ℕ) → Unwritten s (behind events) → Unwritten s (after_loose s (behind events) e any)
  event_unwritten events e any was = by_cases s (behind events) e any (Unwritten s) was (λ m here goes. moved_unwritten events e any m here goes was)

  events_unwritten : (later before : List (Event × Option ℕ)) (c : Cluster) → c ≡ behind before → Unwritten s c → Unwritten s (after_all_loose s c later)
  unfolding after_all_loose
  events_unwritten [] before c at was = was
  events_unwritten (e ∷ later) before c at was =
      let d = after_loose s c e.0 e.1 in
      let next : d ≡ behind (before ++ e ∷ []) = ap (λ k. after_loose s k e.0 e.1) at ∙ sym (all_one_more s (start s) before e) in
      let now : Unwritten s d = subst (λ k. Unwritten s (after_loose s k e.0 e.1)) (sym at) (event_unwritten before e.0 e.1 (subst (Unwritten s) at was)) in
      events_unwritten later (before ++ e ∷ []) d next now

  -- at the start
  start_places : (p : ℕ) (m : Processor) → slice_get (start s).processors p ≡ Some m → length m.own.maps ≡ 256
  unfolding start
  start_places p m at =
      let new : ℕ → Processor = λ q. new_processor (who_at s q) s.program.code in
      let same : m ≡ new p = slice_get-map-range_with_len new (s.nodes * s.procs) 0 p m at ∙ ap new (let z : 0 + p ≡ p = omega arith in z) in
      let p_in : p < s.nodes * s.procs = omega (arith, slice_get_within (start s).processors p m at, length-processors s) in
      let b = run_keeps (who_at s p) (placed (who_at s p) p_in) s.program.code (Begin Instruction) new_own None None (refl, refl) in
      ap (λ o. length o.own.maps) same ∙ (ap length b.maps_are ∙ length-replicate {A = ℕ} 256 0)

  start_unwritten : Unwritten s (start s)
  start_unwritten = record { places = start_places; unwritten = λ g n i g_in n_in i_in none. starts_by_items s (Frame n g i) (n_in, g_in, i_in) }

pub unwritten : (tied : AlwaysLoosely Tied) → AlwaysLoosely HomelessUnwritten
unwritten tied s events is = (events_unwritten tied s is events [] (start s) (all_none s (start s)) (start_unwritten tied s is)).unwritten
