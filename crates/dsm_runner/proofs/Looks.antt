-- Where looks have no limit, nobody ends by a last look.
use Rattle.std.proofs.Common.{◌≡◌, ◌*◌, ◌<◌, Bool, true, false, List, [], ◌∷◌, map, Option, Some, None, refl, sym, ap, ◌∙◌, subst}
use Rattle.std.specs.Prelude.{slice_get, option_map}
use Rattle.std.proofs.lemmas.Option.{slice_get-map, slice_get_within}
use Rattle.dsm_isa.specs.declared.instr.Instr.{Instr}
use Rattle.dsm_local.specs.declared.end.End.{End as Ending}
use Rattle.dsm_local.specs.declared.end.End.TheVariants.{Looked}
use Rattle.dsm_words.specs.Place.{processors}
use Rattle.dsm_protocol.specs.declared.head.Head.TheVariants.{Instruction}
use Rattle.dsm_protocol.specs.Own.{Own, Who, new_own}
use Rattle.dsm_protocol.specs.Jobs.{Job, Begin, Ended, end_of, has_ended}
use Rattle.dsm_protocol.specs.Processors.{Processor, Given, processor_of, new_processor, wanting, after_answer, after_given, ending}
use Rattle.dsm_protocol.proofs.Causes.{every_end}
use Rattle.dsm_protocol.proofs.Settling.{still_runs}
use Rattle.dsm_runs.specs.Setups.{Setup, who_at}
use Rattle.dsm_runs.specs.Clusters.{exactly, given_by, reached}
use Rattle.dsm_runs.specs.Outcomes.{Ran}
use Rattle.dsm_runs.proofs.Lists.{some_one}
use Rattle.dsm_runs.proofs.Reaching.{length-reached, reached_given}
use Rattle.dsm_runner.specs.Outcomes.{IsOutcome, NoneLooked}

module _ (u : Who) (code : List Instr) where
  -- whoever has ended keeps its end
  end_stays : (m : Processor) (g : Given) (e : Ending) → ending m ≡ Some e → ending (after_given u code m g) ≡ Some e
  end_stays m g e ends = go g.starved m.own m.todo ends
    where
      go : (starved : Bool) (o : Own) (j : Job) → end_of j ≡ Some e → ending (after_answer u code (wanting u starved (record { own = o; todo = j })) g.got) ≡ Some e
      go true o (Ended x) h = h
      go false o (Ended x) h = h
      go starved o j h = absurd (cc h)

  -- nobody has ended at its start
  start_runs : ending (new_processor u code) ≡ Some Looked → ⊥
  start_runs h = go (new_processor u code).todo (still_runs u new_own code (Begin Instruction) refl) h
    where
      go : (j : Job) → has_ended j ≡ false → end_of j ≡ Some Looked → ⊥
      go (Ended e) runs h = absurd (cc runs)
      go j runs h = absurd (cc h)

  -- whatever it was given, it has not ended by a look
  no_look_ends : u.p < processors u.lay → u.limits.looks ≡ None → (gs : List Given) → ending (processor_of u code gs) ≡ Some Looked → ⊥
  unfolding processor_of
  no_look_ends below never [] h = start_runs h
  no_look_ends below never (g ∷ gs) h = go (ending (processor_of u code gs)) refl (no_look_ends below never gs)
    where
      go : (o : Option Ending) → ending (processor_of u code gs) ≡ o → (ending (processor_of u code gs) ≡ Some Looked → ⊥) → ⊥
      go None runs before = let last = sym never ∙ (every_end u code gs g Looked below runs h).1 in cc last
      go (Some e) ends before = before (ends ∙ ap Some (some_one e Looked (sym (end_stays (processor_of u code gs) g e ends) ∙ h)))

-- so nobody does in what a list of events leaves
pub none_looked : (s : Setup) (ran : Ran) → s.limits.looks ≡ None → IsOutcome s ran → NoneLooked ran.ends
none_looked s ran never (events, outcome) p looked =
    let ps = (reached s events).processors in
    let ends : map ending ps ≡ ran.ends = ap (λ (r : Ran). r.ends) outcome.leaves in
    go (slice_get ps p) refl (sym (slice_get-map ending ps p) ∙ ap (λ es. slice_get es p) ends ∙ looked)
  where
    go : (o : Option Processor) → slice_get (reached s events).processors p ≡ o → option_map ending o ≡ Some (Some Looked) → ⊥
    go None here h = absurd (cc h)
    go (Some m) here h =
        let below : p < s.nodes * s.procs = subst (λ n. p < n) (length-reached s events).1 (slice_get_within (reached s events).processors p m here) in
        no_look_ends (who_at s p) s.program.code below never (given_by s (map exactly events) p) (ap ending (sym (reached_given s events p m here)) ∙ some_one (ending m) (Some Looked) h)
