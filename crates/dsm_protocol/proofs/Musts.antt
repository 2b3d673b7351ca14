-- Each cause ends a processor.
use Rattle.std.proofs.Common.{◌≡◌, ◌-◌, ◌%◌, ◌^◌, refl, ap, ◌∙◌, if◌then◌else◌, arith}
use Rattle.std.specs.Prelude.{slice_get}
use Rattle.std.proofs.lemmas.Bool.{lt-ltb, le-ltb, le-leb, eq-eqb, ne_eqb}
use Rattle.dsm_local.specs.declared.action.Action.TheVariants.{Spend}
use Rattle.dsm_local.specs.Actions.{action_of}
use Rattle.dsm_words.specs.declared.item.Item.TheVariants.{Stop}
use Rattle.dsm_words.specs.Script.{Get, End}
use Rattle.dsm_sync.specs.declared.counter.Counter.TheVariants.{Close}
use Rattle.dsm_sync.specs.declared.got.Got.TheVariants.{Ready, Unready}
use Rattle.dsm_local.specs.declared.end.End.TheVariants.{Looked, Stopped}
use Rattle.dsm_protocol.specs.Own.{Unready as Unready_looks, setting_of, counted}
use Rattle.dsm_protocol.specs.Jobs.{Make, Begin, Ended, call}
use Rattle.dsm_protocol.specs.Steps.{is_last, heed_job, stop_job, looked_job, action_job, starved_job}
use Rattle.dsm_protocol.specs.Processors.{settled, run_on, after_answer}
use Rattle.dsm_protocol.specs.Ends.{SpentEnds, TrapsEnd, LastLooksEnd, StoppedWaitsEnd, ClosingPassesEnd, StarvedEnds}

pub spent_ends : SpentEnds
spent_ends u code o got spent =
    ap (λ b. after_answer u code (settled o (action_job u o (if b then action_of (setting_of u) o.reader (slice_get code o.reader.place) else Spend))) got) (le-ltb o.reader.done u.limits.turns spent)

pub traps_end : TrapsEnd
traps_end u code o got kind may is =
    ap (λ b. after_answer u code (settled o (action_job u o (if b then action_of (setting_of u) o.reader (slice_get code o.reader.place) else Spend))) got) (lt-ltb _ _ may)
    ∙ ap (λ a. after_answer u code (settled o (action_job u o a)) got) is

pub last_looks_end : LastLooksEnd
last_looks_end u code o again got last =
    let k = (counted o Unready_looks).counts.unready in
    ap (λ b. after_answer u code (settled (counted o Unready_looks) (if b then stop_job u Looked else Make (Get Stop) (heed_job again))) got) (ap (λ looks. is_last looks k) last ∙ eq-eqb k k refl)

pub stopped_waits_end : StoppedWaitsEnd
stopped_waits_end u code o again got some =
    ap (λ b. run_on u code o (if b then Begin again else Ended (Stopped ((got - 1) % 2 ^ 32)))) (ne_eqb got 0 (λ e. let h : got ≡ 0 = e in omega arith))

pub closing_passes_end : ClosingPassesEnd
closing_passes_end u code o need got enough =
    ap (λ b. run_on u code o (call (End (if b then Ready need else Unready)) (looked_job u Close need))) (le-leb need got enough)

pub starved_ends : StarvedEnds
starved_ends u code m got runs = ap (λ b. after_answer u code (record { own = m.own; todo = if b then m.todo else starved_job u }) got) runs
