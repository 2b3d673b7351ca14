-- A page that has a home keeps it, over every list of loose events.
use Rattle.std.proofs.Common.{◌≡◌, ◌≢◌, ℕ, ◌<◌, false, List, [], ◌∷◌, ◌++◌, length, Option, Some, refl, sym, ap, ◌∙◌}
use Rattle.std.specs.Prelude.{slice_get}
use Rattle.dsm_words.specs.declared.item.Item.TheVariants.{Home}
use Rattle.dsm_words.specs.Place.{total}
use Rattle.dsm_words.specs.Words.{word}
use Rattle.dsm_protocol.specs.Own.{Who}
use Rattle.dsm_protocol.specs.Processors.{Processor, wanting}
use Rattle.dsm_runs.specs.Setups.{Setup, IsSetup, lay_in, who_at}
use Rattle.dsm_runs.specs.Clusters.{Cluster, Event, stays, start, act_in, moved, after_loose, after_all_loose}
use Rattle.dsm_runs.proofs.Events.{by_cases}
use Rattle.dsm_runs.proofs.Legality.{wanting_good, every_fine}
use Rattle.dsm_runs.proofs.Logs.{log_of}
use Rattle.dsm_runs.proofs.Mappings.{IsSparing, first_spares}
use Rattle.dsm_runs.proofs.Starting.{every_whole}
use Rattle.dsm_ties.proofs.Places.{each_stands, processor_in, event_row}
use Rattle.dsm_ties.proofs.Storing.{does_fits, home_kept}

-- behind no event, and behind one event more
pub all_none : (s : Setup) (c : Cluster) → c ≡ after_all_loose s c []
unfolding after_all_loose
all_none s c = refl

pub all_one_more : (s : Setup) (c : Cluster) (es : List (Event × Option ℕ)) (e : Event × Option ℕ) → after_all_loose s c (es ++ e ∷ []) ≡ after_loose s (after_all_loose s c es) e.0 e.1
unfolding after_all_loose
all_one_more s c [] e = refl
all_one_more s c (x ∷ es) e = all_one_more s (after_loose s c x.0 x.1) es e

module _ (s : Setup) (is : IsSetup s) where
  abbrev behind : List (Event × Option ℕ) → Cluster
  behind events = after_all_loose s (start s) events

  abbrev home : ℕ → Cluster → ℕ
  home g c = word (lay_in s) c.words (Home g)

  -- an event that can be, of processor m
  module _ (events : List (Event × Option ℕ)) (e : Event) (any : Option ℕ) (m : Processor) (here : slice_get (behind events).processors e.p ≡ Some m) (goes : stays e.starved m.todo ≡ false) where
    abbrev u : Who
    u = who_at s e.p

    pub long : length (behind events).words ≡ total (lay_in s)
    long = (every_whole s events).0

    pub spares : IsSparing u (act_in s e m)
    spares = first_spares u (wanting u e.starved m).own (wanting u e.starved m).todo (wanting_good s is e.p (log_of s events) m e.starved ((every_fine s is events).synced.good e.p m here)).syncs

    pub moved_home : (g : ℕ) → g < s.program.shape.pages → home g (behind events) ≢ 0 → home g (moved s (behind events) e any m) ≡ home g (behind events)
    moved_home g g_in some =
        let w = each_stands s events is e.p m here in
        let r = event_row s (behind events) e any m w.0 (processor_in s events e.p m here) goes w.1 in
        home_kept u (behind events).words m.own.maps r.2.from g g_in long (act_in s e m) spares (does_fits u r.2.row) some

  event_home : (events : List (Event × Option ℕ)) (e : Event) (any : Option ℕ) (g : ℕ) → g < s.program.shape.pages → home g (behind events) ≢ 0 → home g (after_loose s (behind events) e any) ≡ home g (behind events)
  event_home events e any g g_in some = by_cases s (behind events) e any (λ d. home g d ≡ home g (behind events)) refl (λ m here goes. moved_home events e any m here goes g g_in some)

  pub homes_stay : (later before : List (Event × Option ℕ)) (c : Cluster) (g : ℕ) → c ≡ behind before → g < s.program.shape.pages → home g c ≢ 0 → home g (after_all_loose s c later) ≡ home g c
  unfolding after_all_loose
  homes_stay [] before c g at g_in some = refl
  homes_stay (e ∷ later) before c g at g_in some =
      let d = after_loose s c e.0 e.1 in
      let one : home g d ≡ home g c = rw at (event_home before e.0 e.1 g g_in (λ z. some (ap (home g) at ∙ z))) in
      let next : d ≡ behind (before ++ e ∷ []) = ap (λ k. after_loose s k e.0 e.1) at ∙ sym (all_one_more s (start s) before e) in
      homes_stay later (before ++ e ∷ []) d g next g_in (λ z. some (sym one ∙ z)) ∙ one
