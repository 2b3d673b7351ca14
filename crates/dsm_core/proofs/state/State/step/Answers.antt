use Rattle.std.proofs.Common.{◌≡◌, None, IsSome, map, length, sym, ap, ◌∙◌, subst, arith}
use Rattle.std.specs.Prelude.{IsTrue, slice_set}
use Rattle.std.proofs.lemmas.List.{with_items_is, length-set}
use Rattle.dsm_isa.specs.Rules.{ObjectsInside}
use Rattle.dsm_words.specs.Place.{lay_of, total}
use Rattle.dsm_words.specs.Script.{Act}
use Rattle.dsm_words.specs.Words.{done, reply}
use Rattle.dsm_machine.specs.declared.machine.Machine.{Machine}
use Rattle.dsm_protocol.specs.Jobs.{first_act, held_turn}
use Rattle.dsm_protocol.specs.Processors.{Processor, ending, wanting, after_answer}
use Rattle.dsm_protocol.specs.Own.{sizes_in}
use Rattle.dsm_machine.specs.Machines.{who, processor_in, spare_of}
use Rattle.dsm_core.specs.Room.{rooms}
use Rattle.dsm_core.specs.States.{setup_in, cluster_in}
use Rattle.dsm_core.proofs.Stepping.{ended_some, none_is, at_processor, put_back, who_is, still_numbered, stepped, step_event}
use Rattle.dsm_core.proofs.Handing.{reached_stepped}
use Rattle.dsm_core.proofs.Rooms.{uses_none, uses_one}
use Rattle.dsm_core.proofs.state.State.step.Goals as goal

pub returns-then-is_some-clause-step : goal.returns-then-is_some-clause-step
returns-then-is_some-clause-step c =
    let s = c.args.self.now in
    let m = c.index_mut-machine.result.now in
    let f : Machine → Processor = λ k. processor_in k c.args.program.now.code in
    let at = at_processor s c.args.p m (omega arith) c.index_mut-machine.ensures.value f in
    let over = ended_some (f m).todo (subst IsSome (c.end.ensures.begun c.args.program.now.code) (sym c.is_some.ensures ∙ c.if-is_some.true)) in
    (rw at over, λ i. record { words = s.words.items; processors = put_back s c.args.p m (omega arith) c.index_mut-machine.ensures.value f i })

pub returns-then-is_some-clause-room : goal.returns-then-is_some-clause-room
returns-then-is_some-clause-room c = uses_none c.args.p (rooms c.args.self.now) _ (put_back c.args.self.now c.args.p c.index_mut-machine.result.now (omega arith) c.index_mut-machine.ensures.value spare_of)

pub act-requires-clause-words : goal.act-requires-clause-words
act-requires-clause-words c =
    let s = c.args.self.now in
    let known = c.starves-starved.ensures.who ∙ who_is s c.args.p c.index_mut-machine.result.now (omega arith) c.index_mut-machine.ensures.value in
    let e : total (who c.starves-starved.new.machine).lay ≡ total (lay_of s.lay) = ap (λ u. total u.lay) known in
    ap length c.deref_mut.ensures.value ∙ s.all_words ∙ sym e

pub starves-starved-requires-clause-objects : goal.starves-starved-requires-clause-objects
starves-starved-requires-clause-objects c =
    let known = who_is c.args.self.now c.args.p c.index_mut-machine.result.now (omega arith) c.index_mut-machine.ensures.value in
    let e = ap (λ u. sizes_in u.lay) known ∙ ap sizes_in c.requires.is_for in
    subst (λ z. ObjectsInside z c.code-code.result.now) (sym e) c.code-code.ensures.objects

pub act-requires-clause-objects : goal.act-requires-clause-objects
act-requires-clause-objects c =
    let known = c.starves-starved.ensures.who ∙ who_is c.args.self.now c.args.p c.index_mut-machine.result.now (omega arith) c.index_mut-machine.ensures.value in
    let e = ap (λ u. sizes_in u.lay) known ∙ ap sizes_in c.requires.is_for in
    subst (λ z. ObjectsInside z c.code-code.result.now) (sym e) c.code-code.ensures.objects

-- as many words as before
pub invariant_of-self-2-clause-all_words : goal.invariant_of-self-2-clause-all_words
invariant_of-self-2-clause-all_words c =
    let s = c.args.self.now in
    let long : length c.act.new.words ≡ s.words.len = omega (arith, c.act.auto.words, c.deref_mut.ensures.len, s.words.ok) in
    ap length (with_items_is s.words c.act.new.words long) ∙ c.act.auto.words ∙ ap length c.deref_mut.ensures.value ∙ s.all_words

pub invariant_of-self-2-clause-all_machines : goal.invariant_of-self-2-clause-all_machines
invariant_of-self-2-clause-all_machines c = length-set c.args.self.now.machines.items c.args.p c.act.new.machine ∙ c.args.self.now.all_machines

pub invariant_of-self-2-clause-numbered : goal.invariant_of-self-2-clause-numbered
invariant_of-self-2-clause-numbered c =
    still_numbered c.args.self.now c.args.p c.index_mut-machine.result.now (omega arith) c.index_mut-machine.ensures.value c.act.new.machine (c.act.ensures.who ∙ c.starves-starved.ensures.who)

pub returns-clause-step : goal.returns-clause-step
returns-clause-step c =
    let s = c.args.self.now in
    let m = c.index_mut-machine.result.now in
    let mid = c.starves-starved.new.machine in
    let starved = c.starves-starved.result in
    let program = c.args.program.now in
    let f : Machine → Processor = λ k. processor_in k program.code in
    let runs : ending (f m) ≡ None = sym (c.end.ensures.begun program.code) ∙ none_is c.end.result (sym c.is_some.ensures ∙ c.if-is_some.false) in
    let act : Act = first_act (f mid).todo in
    let words : c.act.new.words ≡ done (who mid).lay s.words.items act = rw (c.code-code.ensures.value, c.deref_mut.ensures.value) at c.act.ensures.words in
    let new : f c.act.new.machine ≡ after_answer (who mid) program.code (f mid) (reply (who mid).lay s.words.items act) = rw (c.code-code.ensures.value, c.deref_mut.ensures.value) at c.act.ensures.event in
    let free : IsTrue starved → held_turn (f m).todo ≡ None = λ is. rw c.code-code.ensures.value at c.starves-starved.ensures.turn is in
    let wants : f mid ≡ wanting (who m) starved (f m) = rw c.code-code.ensures.value at c.starves-starved.ensures.wanting in
    let e = step_event s c.args.p m (omega arith) c.index_mut-machine.ensures.value program starved mid c.act.new.machine c.act.new.words c.requires.is_for runs free c.starves-starved.ensures.who wants words new in
    let long : length c.act.new.words ≡ s.words.len = omega (arith, c.act.auto.words, c.deref_mut.ensures.len, s.words.ok) in
    stepped (setup_in s program) (cluster_in s program.code) _ c.args.p starved _ c.event.ensures
    (e.0, (λ i. record { words = with_items_is s.words c.act.new.words long i; processors = map f (slice_set s.machines.items c.args.p c.act.new.machine) }) ∙ e.1)

pub returns-clause-reached : goal.returns-clause-reached
returns-clause-reached c =
    let s = c.args.self.now in
    let program = c.args.program.now in
    λ h. reached_stepped (setup_in s program) (cluster_in s program.code) _ c.args.p _ (returns-clause-step c) h

pub returns-clause-room : goal.returns-clause-room
returns-clause-room c =
    let s = c.args.self.now in
    uses_one s.machines.items c.args.p c.index_mut-machine.result.now c.act.new.machine (omega arith) c.index_mut-machine.ensures.value (omega (arith, c.starves-starved.ensures.kept, c.act.ensures.spends))
