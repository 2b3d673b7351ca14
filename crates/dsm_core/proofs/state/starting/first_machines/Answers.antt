use Rattle.std.proofs.Common.{ℕ, length, ap, ◌∙◌, arith}
use Rattle.std.proofs.lemmas.List.{length-map}
use Rattle.std.proofs.lemmas.List.FromFn.{length-map-range_with_len}
use Rattle.dsm_words.specs.Place.{lay_of}
use Rattle.dsm_protocol.specs.Own.{Who}
use Rattle.dsm_machine.specs.Machines.{who, processor_in}
use Rattle.dsm_protocol.specs.Processors.{new_processor}
use Rattle.dsm_core.proofs.Leaving.{one_more, numbers}
use Rattle.dsm_core.proofs.state.starting.first_machines.Goals as goal

pub loop-p-preserved : goal.loop-p-preserved
loop-p-preserved c =
    let at : ℕ → Who = λ q. record { lay = lay_of c.args.lay; p = q; limits = c.args.limits } in
    record {
      numbered = one_more who at c.loop-p.machines.items c.push.new.self.items c.new.result c.loop-p.p c.in_ok-push.ensures.items c.loop-p.invariant.numbered c.new.ensures.who;
      new = λ code. one_more (λ m. processor_in m code) (λ q. new_processor (at q) code) c.loop-p.machines.items c.push.new.self.items c.new.result c.loop-p.p c.in_ok-push.ensures.items (c.loop-p.invariant.new code) (c.new.ensures.new code ∙ ap (λ u. new_processor u code) c.new.ensures.who);
    }

pub returns-clause-all : goal.returns-clause-all
returns-clause-all c =
    let at : ℕ → Who = λ q. record { lay = lay_of c.args.lay; p = q; limits = c.args.limits } in
    omega (arith, length-map c.loop-p.machines.items who, ap length c.loop-p.invariant.numbered, length-map-range_with_len at 0 c.loop-p.p)

pub returns-clause-numbered : goal.returns-clause-numbered
returns-clause-numbered c = numbers who (λ q. record { lay = lay_of c.args.lay; p = q; limits = c.args.limits }) c.loop-p.machines.items c.loop-p.p c.loop-p.invariant.numbered
