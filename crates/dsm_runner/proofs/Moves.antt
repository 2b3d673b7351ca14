-- An event, as one step of its seat, keeps the rule.
use Rattle.std.proofs.Common.{◌≡◌, ◌≢◌, ℕ, suc, ◌<◌, Bool, true, false, List, [], ◌∷◌, ◌++◌, Option, Some, None, refl, ap, sym, subst, ⊎_elim, ◌∙◌}
use Rattle.std.specs.Prelude.{slice_get, slice_index, slice_set}
use mathlib.Core.Option.{some}
use lib.ListN.{get_elem?}
use Rattle.atomic_table.proofs.Lists.{at_set}
use Rattle.atomic_table.specs.Seated.{TableId}
use Rattle.atomic_table.specs.Table.{State, Me, keeps, Allows}
use Rattle.dsm_isa.specs.declared.instr.Instr.{Instr}
use Rattle.dsm_words.specs.declared.op.Op.{Op}
use Rattle.dsm_words.specs.Op.{place_of}
use Rattle.dsm_words.specs.Script.{Act, op_of}
use Rattle.dsm_protocol.specs.Own.{Who}
use Rattle.dsm_protocol.specs.Jobs.{first_act}
use Rattle.dsm_protocol.specs.Processors.{Processor, Given, processor_of, wanting, after_answer, after_given}
use Rattle.dsm_runs.specs.Setups.{Setup, lay_in, who_at}
use Rattle.dsm_runs.specs.Clusters.{Cluster, Event, stays, reached}
use Rattle.dsm_runs.proofs.Lists.{slice_get-set_same, slice_get-set_other}
use Rattle.dsm_runs.proofs.Runs.{reached_one_more, are_defined_one_more}
use Rattle.dsm_core.specs.States.{IsEvent}
use Rattle.dsm_core.proofs.Stepping.{is_event}
use Rattle.dsm_runner.specs.Effects.{effect, answer_at, applied}
use Rattle.dsm_runner.specs.Helds.{Board}
use Rattle.dsm_runner.specs.Sights.{Sight, gift, seen_by, sight_after, Fits, Leads, KeptAt, Kept}
use Rattle.dsm_runner.proofs.EffectLaws.{applied_is, answer_at_is}
use Rattle.dsm_runner.proofs.Numbers.{apart}

-- the event that the seat makes
abbrev event_by : Sight → Bool → Event
event_by v starved = record { p = v.number; starved = starved }

-- the operation of the event
abbrev act_by : Sight → Bool → Act
act_by v starved = first_act (wanting (who_at v.setup v.number) starved (seen_by v)).todo

-- the seat behind it, where these were the words
abbrev behind : List ℕ → Sight → Bool → Op → Sight
behind words v starved op = sight_after starved v (answer_at op (slice_index words (place_of op)))

-- the state behind it
abbrev moved_by : Cluster → Sight → Bool → Op → Cluster
moved_by c v starved op = record { words = applied c.words op; processors = slice_set c.processors v.number (seen_by (behind c.words v starved op)) }

module _ (s : Setup) (c : Cluster) (place : ℕ → Option ℕ) where
  -- processor n changes, which has a place
  fits_still : (words : List ℕ) (n : ℕ) (m : Processor) (j : ℕ) (u : Sight) → u.number ≢ n → Fits s c place j u → Fits s (record { words = words; processors = slice_set c.processors n m }) place j u
  fits_still words n m j u ne f = record { placed = f.placed; here = slice_get-set_other c.processors n u.number m ne ∙ f.here; same = f.same }

  leads_still : (words : List ℕ) (n : ℕ) (m : Processor) (x id : ℕ) (u : Sight) → place n ≡ Some x → Leads s c place id u → Leads s (record { words = words; processors = slice_set c.processors n m }) place id u
  leads_still words n m x id u at l =
      let other : (p : ℕ) → place p ≡ None → p ≢ n = λ p free e. let h : None ≡ Some x = sym free ∙ ap place e ∙ at in cc in record {
        first = l.first;
        mine = l.mine;
        unmade = λ p h. let was = l.unmade p h in (was.0, λ b. slice_get-set_other c.processors n p m (other p was.0) ∙ was.1 b);
        joined = λ j given h. let was = l.joined j given h in (was.0, was.1, slice_get-set_other c.processors n (suc j) m (other (suc j) was.1) ∙ was.2);
      }

  -- the event keeps what the rule says of any state
  event_keeps : (words : List ℕ) (views : List Sight) (id : ℕ) (v : Sight) (starved : Bool) (op : Op) → KeptAt s c place words views → get_elem? views id ≡ some v → v.live ≡ true
      → KeptAt s (moved_by c v starved op) place (applied c.words op) (slice_set views id (behind c.words v starved op))
  event_keeps words views id v starved op h at on =
      let new = moved_by c v starved op in
      let w = behind c.words v starved op in
      let mine = h.fits id v at on in record {
        words_are = refl;
        fits = λ j u e live. ⊎_elim
            (λ (x : (j ≡ id) × (w ≡ u)). subst (λ (y : ℕ × Sight). Fits s new place y.0 y.1) (λ i. (sym x.0 i, x.1 i))
            (record { placed = mine.placed; here = slice_get-set_same c.processors v.number (seen_by v) (seen_by w) mine.here; same = mine.same }))
            (λ (x : (j ≢ id) × (get_elem? views j ≡ some u)). let theirs = h.fits j u x.1 live in fits_still new.words v.number (seen_by w) j u (apart s c place id j v u mine theirs x.0) theirs)
            (at_set views id j w u e);
        leads = λ j u e led. ⊎_elim
            (λ (x : (j ≡ id) × (w ≡ u)).
            let was = leads_still new.words v.number (seen_by w) id id v mine.placed (h.leads id v at (ap (λ (y : Sight). y.leads) x.1 ∙ led)) in
            subst (λ (y : ℕ × Sight). Leads s new place y.0 y.1) (λ i. (sym x.0 i, x.1 i)) (record { first = was.first; mine = was.mine; unmade = was.unmade; joined = was.joined }))
            (λ (x : (j ≢ id) × (get_elem? views j ≡ some u)). leads_still new.words v.number (seen_by w) id j u mine.placed (h.leads j u x.1 led))
            (at_set views id j w u e);
      }

-- a processor is given one thing more
processor_of_more : (u : Who) (code : List Instr) (given : List Given) (g : Given) → processor_of u code (g ∷ given) ≡ after_given u code (processor_of u code given) g
unfolding processor_of
processor_of_more u code given g = refl

-- the step of the seat is the event
step_is_event : (c : Cluster) (v : Sight) (starved : Bool) (op : Op) → slice_get c.processors v.number ≡ Some (seen_by v) → stays starved (seen_by v).todo ≡ false → op ≡ op_of (lay_in v.setup) (act_by v starved)
    → IsEvent v.setup c (moved_by c v starved op) (event_by v starved)
step_is_event c v starved op here goes is =
    let u = who_at v.setup v.number in
    let code = v.setup.program.code in
    let m = wanting u starved (seen_by v) in
    let got = answer_at op (slice_index c.words (place_of op)) in
    let given : seen_by (behind c.words v starved op) ≡ after_answer u code m got = processor_of_more u code v.given (gift starved got) in
    is_event v.setup c.words c.processors v.number starved (seen_by v) u m (seen_by (behind c.words v starved op)) (applied c.words op) here goes refl refl (applied_is u.lay c.words op (act_by v starved) is)
    (given ∙ ap (after_answer u code m) (answer_at_is u.lay c.words op (act_by v starved) is))

-- the event keeps the rule, where the table's setup is the seat's own
own_event : (words : List ℕ) (views : List Sight) (id : ℕ) (v : Sight) (starved : Bool) (op : Op) → Kept v.setup words views → get_elem? views id ≡ some v → v.live ≡ true
    → stays starved (seen_by v).todo ≡ false → op ≡ op_of (lay_in v.setup) (act_by v starved) → Kept v.setup (applied words op) (slice_set views id (behind words v starved op))
own_event words views id v starved op h at on goes is =
    let c = reached v.setup h.events in
    let events = h.events ++ event_by v starved ∷ [] in
    let event = step_is_event c v starved op (h.at.fits id v at on).here goes is in record {
      events = events;
      defined = are_defined_one_more v.setup h.events (event_by v starved) h.defined event.0;
      place = h.place;
      at = subst (λ ws. KeptAt v.setup (reached v.setup events) h.place (applied ws op) (slice_set views id (behind ws v starved op))) (sym h.at.words_are)
          (subst (λ x. KeptAt v.setup x h.place (applied c.words op) (slice_set views id (behind c.words v starved op))) (event.1 ∙ sym (reached_one_more v.setup h.events (event_by v starved)))
          (event_keeps v.setup c h.place words views id v starved op h.at at on));
    }

-- the same for any table
event_kept : (s : Setup) (words : List ℕ) (views : List Sight) (id : ℕ) (v : Sight) (starved : Bool) (op : Op) → Kept s words views → get_elem? views id ≡ some v → v.live ≡ true
    → stays starved (seen_by v).todo ≡ false → op ≡ op_of (lay_in v.setup) (act_by v starved) → Kept s (applied words op) (slice_set views id (behind words v starved op))
event_kept s words views id v starved op h at on goes is =
    let same : v.setup ≡ s = (h.at.fits id v at on).same in
    subst (λ (x : Setup). Kept x (applied words op) (slice_set views id (behind words v starved op))) same
    (own_event words views id v starved op (subst (λ (x : Setup). Kept x words views) (sym same) h) at on goes is)

-- so the table allows its operation as a step of the seat
pub allows : {S : Type 0} (s : Setup) (slots id : ℕ) (me : Me S Sight) (starved : Bool) (op : Op) → me.0.live ≡ true → stays starved (seen_by me.0).todo ≡ false
    → op ≡ op_of (lay_in me.0.setup) (first_act (wanting (who_at me.0.setup me.0.number) starved (seen_by me.0)).todo)
    → Allows (λ (t : State S Sight). Kept s t.words t.views) slots id me (place_of op) (effect op) (λ n w. w ≡ (sight_after starved me.0 (answer_at op n), me.1))
allows s slots id me starved op on goes is t h homes at fits = (behind t.words me.0 starved op, keeps, tt, event_kept s t.words t.views id me.0 starved op h at on goes is, refl)

-- what a step of the table asks, where it is seen which operation this is
pub asked : {S : Type 0} (s : Setup) (table mine : TableId) (b : Board) (id : ℕ) (me : Me S Sight) (starved : Bool) (op seen : Op) → record { table = table; setup = s } ≡ b → mine ≡ b.table → place_of op < b.table.words
    → me.0.live ≡ true → stays starved (seen_by me.0).todo ≡ false → op ≡ op_of (lay_in me.0.setup) (first_act (wanting (who_at me.0.setup me.0.number) starved (seen_by me.0)).todo) → op ≡ seen
    → (mine ≡ table) × (place_of seen < table.words) × Allows (λ (t : State S Sight). Kept s t.words t.views) table.slots id me (place_of seen) (effect seen) (λ n w. w ≡ (sight_after starved me.0 (answer_at seen n), me.1))
asked s table mine b id me starved op seen at own below on goes next is =
    let same : table ≡ b.table = ap (λ (x : Board). x.table) at in
    (own ∙ sym same, subst (λ (x : TableId × Op). place_of x.1 < x.0.words) (λ i. (sym same i, is i)) below, allows s table.slots id me starved seen on goes (sym is ∙ next))
