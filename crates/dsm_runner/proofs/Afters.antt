-- A worker after one event.
use Rattle.std.proofs.Common.{◌≡◌, ◌<◌, ℕ, Bool, false, List, [], None, sym, ap, subst, ◌∙◌}
use Rattle.std.specs.Prelude.{IsTrue}
use Rattle.dsm_isa.specs.ProgramText.{ProgramText}
use Rattle.dsm_isa.specs.declared.instr.Instr.{Instr}
use Rattle.dsm_words.specs.Place.{total}
use Rattle.dsm_protocol.specs.Jobs.{held_turn}
use Rattle.dsm_protocol.specs.Processors.{Processor, processor_of, ending, after_answer, after_given, wanting}
use Rattle.dsm_machine.specs.declared.machine.Machine.{Machine}
use Rattle.dsm_machine.specs.Machines.{who, processor_in}
use Rattle.dsm_runs.specs.Setups.{Setup, lay_in, who_at}
use Rattle.dsm_runs.specs.Clusters.{stays}
use Rattle.dsm_core.proofs.Stepping.{may}
use Rattle.dsm_runner.specs.Sights.{full_sight, sight_after, gift, seen_by, procs_of}
use Rattle.dsm_runner.specs.Helds.{Held}
use Rattle.dsm_runner.specs.Holds.{IsHeld}
use Rattle.dsm_runner.specs.declared.worker.Worker.TheInside.{Inside}

-- the code that it is given is that of its setup's program
pub code_is : (s : Setup) (h : Held) (program : ProgramText) (code : List Instr) → s ≡ h.setup → h.setup.program ≡ program → code ≡ program.code → code ≡ s.program.code
code_is s h program code setup same is = is ∙ ap (λ (t : ProgramText). t.code) (sym same) ∙ ap (λ (x : Setup). x.program.code) (sym setup)

-- where its machine has not ended, the processor that its seat knows may go on, and be starved where it holds no turn
pub goes_on : (w : Inside) (code : List Instr) (b : Bool) → IsHeld w
    → code ≡ w.seat.me.0.setup.program.code
    → ending (processor_in w.machine code) ≡ None
    → (IsTrue b → held_turn (processor_in w.machine code).todo ≡ None)
    → stays b (seen_by w.seat.me.0).todo ≡ false
goes_on w code b h coded runs free = subst (λ (m : Processor). stays b m.todo ≡ false) (ap (processor_in w.machine) coded ∙ h.same) (may b (processor_in w.machine code).todo runs free)

-- its seat knows one more answer, and its machine took that answer
pub held_after : (w n : Inside) (mid : Machine) (code : List Instr) (b : Bool) (got : ℕ) → IsHeld w
    → code ≡ w.seat.me.0.setup.program.code
    → n.number ≡ w.number
    → n.seat.table_id ≡ w.seat.table_id
    → n.seat.me ≡ (sight_after b w.seat.me.0 got, w.seat.me.1)
    → who mid ≡ who w.machine
    → processor_in mid code ≡ wanting (who w.machine) b (processor_in w.machine code)
    → who n.machine ≡ who mid
    → processor_in n.machine code ≡ after_answer (who mid) code (processor_in mid code) got
    → IsHeld n
unfolding processor_of
held_after w n mid code b got h coded number table me ready wants after event =
    let old = w.seat.me.0 in
    let text = old.setup.program.code in
    let was : processor_in w.machine code ≡ seen_by old = ap (processor_in w.machine) coded ∙ h.same in
    let here : who w.machine ≡ who_at old.setup old.number = h.who_is in
    let now : processor_in n.machine code ≡ after_given (who_at old.setup old.number) text (seen_by old) (gift b got) =
    event ∙ (λ i. after_answer (ready i) code (wants i) got) ∙ (λ i. after_given (here i) (coded i) (was i) (gift b got)) in
    record {
      alone = subst (λ m. m ≡ (full_sight m.0.setup m.0.number m.0.given, [])) (sym me) (λ i. (sight_after b (h.alone i).0 got, (h.alone i).1));
      same = ap (λ m. processor_in n.machine m.0.setup.program.code) me ∙ ap (processor_in n.machine) (sym coded) ∙ now ∙ ap (λ m. seen_by m.0) (sym me);
      who_is = after ∙ ready ∙ h.who_is ∙ ap (λ m. who_at m.0.setup m.0.number) (sym me);
      number_is = number ∙ h.number_is ∙ ap (λ m. m.0.number) (sym me);
      below = subst (λ m. m.0.number < procs_of m.0.setup) (sym me) h.below;
      words = ap (λ t. t.words) table ∙ h.words ∙ ap (λ m. total (lay_in m.0.setup)) (sym me);
    }
